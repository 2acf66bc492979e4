use Rattle.std.proofs.Common.{◌<◌, subst, sym}
use Rattle.turn_lock.proofs.Keeping.{rings}
use Rattle.turn_lock.proofs.desk.ring.Goals as goal

pub fetch_add-requires : goal.fetch_add-requires
fetch_add-requires g c = let d = c.requires.desk in let b = c.requires.bell in
    (d.1, subst (λ n. c.args.bell < n) (sym d.0.0) b.1, rings g.T.Booked.stands g.T.Booked.by (g.T.Booked.start c.args.desk.now.key.value) _ _ _ _ b.0)
