use Rattle.std.proofs.Common.{inl, inr, refl}
use Rattle.ipam_daemon.specs.declared.served.Served.TheVariants.{ListenFault}
use Rattle.ipam_daemon.proofs.Ended.{served_out}
use Rattle.ipam_daemon.proofs.serving.serve.Goals as goal

pub returns-in-Err-open-clause-ended : goal.returns-in-Err-open-clause-ended
returns-in-Err-open-clause-ended g c =
    served_out g.D.Keeper.rows g.D.Keeper.faults g.D.Keeper.name c.args.keeper c.in-Ok.kept ListenFault c.in-Ok.ensures.opened (inr (inl refl))
