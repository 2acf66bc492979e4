use Rattle.std.proofs.Common.{◌∙◌, sym, arith}
use Rattle.ipam_records.specs.declared.key.Key.TheVariants as key
use Rattle.ipam_records.specs.Listing.{rows_of}
use Rattle.ipam_collect.specs.Leaks.{block_around}
use Rattle.ipam_collect.proofs.OwnedLemmas.{found_owns, found_nowhere}
use Rattle.ipam_collect.proofs.leaks.holds_around.Goals as goal

pub returns-then-holds_in_size : goal.returns-then-holds_in_size
returns-then-holds_in_size c =
    let owner = c.args.suspect.now.owner in
    sym (found_owns owner (key.Block (block_around owner.address c.loop-bits.bits)) (rows_of c.args.listing.now) (sym c.holds_in_size.ensures ∙ c.if-holds_in_size.true))

pub returns : goal.returns
returns c =
    sym (found_nowhere c.args.suspect.now.owner (rows_of c.args.listing.now) c.requires (λ bits small. c.loop-bits.invariant bits (omega arith)))
