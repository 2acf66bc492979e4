use Rattle.std.proofs.Common.{◌++◌, arith, subst, sym, ap, ◌∙◌, length}
use Rattle.turn_lock.specs.Histories.{AtMostOneBy}
use Rattle.turn_lock.proofs.Keeping.{counts}
use Rattle.turn_lock.proofs.desk.count.Goals as goal

pub fetch_add-requires : goal.fetch_add-requires
fetch_add-requires g c = let d = c.requires.desk in let s = c.requires.seat in let added = c.requires.added in (
  d.1,
  omega arith,
  counts g.T.Booked.stands g.T.Booked.by (g.T.Booked.start c.args.desk.now.key.value) _ _ _ _ _ c.requires.stood.0 s.0 s.1 s.2
      (subst (AtMostOneBy g.T.Booked.by c.args.seat.now.me.0.number) (sym added) c.requires.own) (c.requires.entries ∙ ap length (sym added))
      (λ from e. subst (λ l. g.T.Booked.stands c.requires.stood.0 from (l ++ c.args.seat.now.me.0.seen)) (sym added) (c.requires.stood.1 from e)),
)
