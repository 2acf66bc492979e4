use Rattle.std.proofs.Common.{◌+◌, ◌++◌, length, refl, subst, sym, ap, ◌∙◌}
use Rattle.turn_lock.specs.Histories.{NoneBy}
use Rattle.turn_lock.proofs.Passing.{seated, closing}
use Rattle.turn_lock.proofs.lock.TurnLock.close.Goals as goal

pub returns : goal.returns
returns g c =
    let b = g.T.Booked in
    let p = c.pass.invariant in
    let e = seated c.pass.inside.badge.views c.pass.inside.badge.views c.into_seat.result.me.0 refl c.into_seat.ensures.2 in
    let back = sym e in
    let joined = ap (λ v. v.joined) c.pass.view_is in
    let made = ap (λ v. v.made) c.pass.view_is in
    let r = closing b.stands b.by (b.start c.self.inside.table.shared.key.value) _ _ _ c.into_seat.result.me.0 c.take-value.result c.close_with-closed.ensures.values.2 c.take-value.ensures.value
    (ap (λ v. v.live) back ∙ p.idle.live) (ap (λ v. v.holds) back ∙ p.idle.holds)
    (ap (λ v. length v.owns) back ∙ (p.joined_is ∙ (ap (λ n. n + 1) joined ∙ (c.requires.last ∙ (sym made ∙ (sym p.made_is ∙ ap (λ v. v.made) e)))))) in
    let origin = ap (λ v. v.origin) back ∙ ap (λ v. v.origin) c.pass.view_is in
    let number = ap (λ v. v.number) back ∙ (p.number_is ∙ ap (λ v. v.number) c.pass.view_is) in
    let seen = ap (λ v. v.seen) back ∙ ap (λ v. v.seen) c.pass.view_is in (
      b.start c.self.inside.table.shared.key.value,
      sym origin ∙ r.0,
      (r.1.0, subst (λ l. b.stands c.take-value.result (b.start c.self.inside.table.shared.key.value) (r.1.0 ++ l)) seen r.1.1, subst (λ n. NoneBy b.by n r.1.0) number r.1.2),
    )
