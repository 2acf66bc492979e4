use Rattle.std.proofs.Common.{subst, sym}
use Rattle.ipam_pool.specs.Sound.{IsPoolTable}
use Rattle.ipam_choice.specs.Viewed.{asked_of}
use Rattle.ipam_assign.proofs.UsableLemmas.{found_holds}
use Rattle.ipam_assign.proofs.usable.usable_pool.Goals as goal

pub returns-clause-holds : goal.returns-clause-holds
returns-clause-holds c =
    found_holds (asked_of c.args.wanted.now) c.args.address c.pools.result.now c.first_usable.result
    (subst IsPoolTable (sym c.pools.ensures.value) c.pools.ensures.sound) c.first_usable.ensures
