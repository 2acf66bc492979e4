use Rattle.std.proofs.Common.{ap, arith, subst, sym, ◌∙◌}
use Rattle.atomic_table.specs.Table.{Splits}
use Rattle.turn_lock.specs.Rule.{Kept}
use Rattle.turn_lock.specs.Moves.{kept_part, new_part}
use Rattle.turn_lock.proofs.Keeping.{draws_number, splits}
use Rattle.turn_lock.proofs.numbers.split_off.Goals as goal

pub fetch_add-number-requires : goal.fetch_add-number-requires
fetch_add-number-requires g c = let d = c.requires.desk in let s = c.requires.seat.0 in
    (d.1, omega arith, draws_number g.T.Booked.stands g.T.Booked.by (g.T.Booked.start c.args.desk.now.key.value) _ _ _ s.live s.spare c.requires.able.1)

pub split_seat-other-requires : goal.split_seat-other-requires
split_seat-other-requires g c =
    let b = g.T.Booked in
    let d = c.requires.desk in
    let e = c.fetch_add-number.ensures in
    let n = e.2.0 (omega arith) in
    let o = b.start c.args.desk.now.key.value in (
      e.0 ∙ d.1,
      omega arith,
      subst (λ v. Splits (Kept b.stands b.by o) c.fetch_add-number.new.seat.id v (kept_part v) (new_part v)) (sym (ap (λ m. m.0) n.0))
          (splits b.stands b.by o c.fetch_add-number.new.seat.id c.fetch_add-number.result c.args.seat.now.me.0 c.requires.seat.0.live n.1 c.requires.able.0),
    )
