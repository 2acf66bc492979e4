use Rattle.std.proofs.Common.{arith}
use Rattle.turn_lock.proofs.Keeping.{draws_ticket}
use Rattle.turn_lock.proofs.desk.draw.Goals as goal

pub fetch_add-requires : goal.fetch_add-requires
fetch_add-requires g c = let d = c.requires.desk in let s = c.requires.seat in
    (d.1, omega arith, draws_ticket g.T.Booked.stands g.T.Booked.by (g.T.Booked.start c.args.desk.now.key.value) _ _ _ s.0 s.1 s.2 s.3)
