use Rattle.std.proofs.Common.{refl, sym}
use Rattle.ipam_command.proofs.DoLemmas.{asked, does-unknown}
use Rattle.ipam_command.proofs.running.run_named.Goals as goal

pub returns-in-Some-clause-does : goal.returns-in-Some-clause-does
returns-in-Some-clause-does g c = asked _ c.args.env.now _ _ _ _ _ (sym c.in-Some.ensures.named) c.run.ensures.does

pub returns-in-None-clause-does : goal.returns-in-None-clause-does
returns-in-None-clause-does g c =
    does-unknown _ c.args.env.now _ _ _ _ (sym c.in-None.ensures.named) c.unknown.ensures.said
    (record { left = refl; read_faults = refl }) (record { rows = refl; keeper_faults = refl })
