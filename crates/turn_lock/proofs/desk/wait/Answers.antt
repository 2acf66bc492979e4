use Rattle.std.proofs.Common.{arith, ap, ◌∙◌}
use Rattle.turn_lock.proofs.Keeping.{looks}
use Rattle.turn_lock.proofs.desk.wait.Goals as goal

pub load-serving-requires : goal.load-serving-requires
load-serving-requires g c = let d = c.requires.desk in let s = c.requires.seat in let i = c.loop.invariant in let e = i.4 in
    (i.2 ∙ d.1, omega arith, looks g.T.Booked.stands g.T.Booked.by (g.T.Booked.start c.args.desk.now.key.value) _ _ _ _ (ap (λ m. m.0.live) e ∙ s.0) (ap (λ m. m.0.holds) e ∙ s.1) (ap (λ m. m.0.waits) e ∙ s.2))
