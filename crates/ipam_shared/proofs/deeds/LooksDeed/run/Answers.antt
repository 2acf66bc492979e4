use Rattle.ipam_model.specs.Consistent.{IsConsistent}
use Rattle.ipam_shared.proofs.Looking.{kept-consistent}
use Rattle.ipam_shared.proofs.deeds.LooksDeed.run.Goals as goal

pub look-requires : goal.look-requires
look-requires g c =
    let consistent : IsConsistent c.args.kept.now.cluster.store.store = kept-consistent g.D.Keeper.rows c.args.kept.now c.requires.kept in
    record { consistent = rw c.store.ensures (rw c.cluster.ensures consistent) }
