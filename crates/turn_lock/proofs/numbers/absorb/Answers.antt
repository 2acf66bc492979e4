use Rattle.std.proofs.Common.{ap, ◌∙◌, arith}
use Rattle.turn_lock.proofs.Keeping.{joins, learns}
use Rattle.turn_lock.proofs.numbers.absorb.Goals as goal

pub join_seat-requires : goal.join_seat-requires
join_seat-requires g c = let d = c.requires.desk in let s = c.requires.seat.0 in let o = c.requires.other in
    (d.1, d.2, o.1, omega arith, joins g.T.Booked.stands g.T.Booked.by (g.T.Booked.start c.args.desk.now.key.value) _ _ _ _ s.live o.0.live s.spare o.0.holds)

pub load-requires : goal.load-requires
load-requires g c = let d = c.requires.desk in let s = c.requires.seat.0 in let e = c.join_seat.ensures in
    (e.0 ∙ d.1, omega arith, learns g.T.Booked.stands g.T.Booked.by (g.T.Booked.start c.args.desk.now.key.value) _ _ _ (ap (λ m. m.0.live) e.2 ∙ s.live))
