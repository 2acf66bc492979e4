use Rattle.std.proofs.Common.{◌≡◌, ◌∷◌, ◌++◌, subst, sym, ap, ◌∙◌}
use Rattle.turn_lock.specs.Histories.{NoneBy}
use Rattle.turn_lock.specs.Passes.{held_or}
use Rattle.turn_lock.proofs.desk.take_turn.Goals as goal

pub work-out-requires-clause-held : goal.work-out-requires-clause-held
work-out-requires-clause-held g c =
    let t = c.wait.ensures.took in
    let d = c.draw-ticket.ensures.drew in
    let s = c.requires.seat in
    let stood = t.stood s.3.0 (ap (λ m. m.0.origin) d ∙ s.3.1) in
    let seen = ap (λ m. m.0.seen) d in (
      t.value,
      ap (λ m. m.1) t.now ∙ ap (λ cs. (0, t.value) ∷ cs) (ap (λ m. m.1) d ∙ s.1),
      c.requires.can t.value s.3.0 t.between s.3.1 (subst (λ n. NoneBy g.T.Booked.by n t.between) (ap (λ m. m.0.number) d) t.others)
          (subst (λ l. g.T.Booked.stands t.value s.3.0 (t.between ++ l)) seen stood),
      (s.3.0, t.between ++ c.draw-ticket.new.seat.me.0.seen, stood),
    )

pub pass_on-requires-clause-held : goal.pass_on-requires-clause-held
pass_on-requires-clause-held g c =
    let t = c.wait.ensures.took in
    let w = c.work-out.ensures in
    let n = c.count.ensures.counted in
    let out = held_or c.work-out.result.1.value c.work-out.new.seat.me.1 in
    let value : t.value ≡ c.work-out.result.1.value = ap (held_or t.value) (sym (ap (λ m. m.1) t.now) ∙ w.before) in
    let origin = ap (λ m. m.0.origin) n ∙ (ap (λ m. m.0.origin) w.held ∙ ap (λ m. m.0.origin) t.now) in
    let seen = ap (λ m. m.0.seen) w.held ∙ ap (λ m. m.0.seen) t.now in (
      out,
      ap (λ m. m.1) n ∙ ap (λ m. m.1) w.held,
      λ o e. subst (g.T.Booked.stands out o) (sym (ap (λ m. m.0.seen) n))
          (subst (λ st. g.T.Booked.stands out o (g.S.Step.adds st c.work-out.result.1.value c.work-out.result.0 out ++ c.work-out.new.seat.me.0.seen)) (sym c.of-taken.ensures)
          (w.adds o c.work-out.new.seat.me.0.seen
          (subst (λ l. g.T.Booked.stands c.work-out.result.1.value o l) (sym seen) (subst (λ v. g.T.Booked.stands v o (t.between ++ c.draw-ticket.new.seat.me.0.seen)) value (t.stood o (sym origin ∙ e)))))),
    )

pub count-requires-clause-stood : goal.count-requires-clause-stood
count-requires-clause-stood g c =
    let t = c.wait.ensures.took in
    let w = c.work-out.ensures in
    let out = held_or c.work-out.result.1.value c.work-out.new.seat.me.1 in
    let value : t.value ≡ c.work-out.result.1.value = ap (held_or t.value) (sym (ap (λ m. m.1) t.now) ∙ w.before) in
    let origin = ap (λ m. m.0.origin) w.held ∙ ap (λ m. m.0.origin) t.now in
    let seen = ap (λ m. m.0.seen) w.held ∙ ap (λ m. m.0.seen) t.now in (
      out,
      λ o e. subst (λ st. g.T.Booked.stands out o (g.S.Step.adds st c.work-out.result.1.value c.work-out.result.0 out ++ c.work-out.new.seat.me.0.seen)) (sym c.of-taken.ensures)
          (w.adds o c.work-out.new.seat.me.0.seen
          (subst (λ l. g.T.Booked.stands c.work-out.result.1.value o l) (sym seen) (subst (λ v. g.T.Booked.stands v o (t.between ++ c.draw-ticket.new.seat.me.0.seen)) value (t.stood o (sym origin ∙ e))))),
    )
