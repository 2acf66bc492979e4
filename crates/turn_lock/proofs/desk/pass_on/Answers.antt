use Rattle.std.proofs.Common.{arith}
use Rattle.turn_lock.proofs.Keeping.{passes_on}
use Rattle.turn_lock.proofs.desk.pass_on.Goals as goal

pub fetch_add-requires : goal.fetch_add-requires
fetch_add-requires g c = let d = c.requires.desk in let s = c.requires.seat in let h = c.requires.held in
    (d.1, omega arith, passes_on g.T.Booked.stands g.T.Booked.by (g.T.Booked.start c.args.desk.now.key.value) _ _ _ _ h.0 s.0 s.1 s.2 h.1 h.2)
