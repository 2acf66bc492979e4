use Rattle.std.proofs.Common.{◌++◌, subst, sym, ap, ◌∙◌, arith}
use Rattle.turn_lock.specs.Histories.{NoneBy}
use Rattle.turn_lock.specs.Moves.{IsIdle}
use Rattle.turn_lock.proofs.Passing.{seated}
use Rattle.turn_lock.proofs.lock.TurnLock.turn.Goals as goal

pub take_turn-out-requires-clause-seat : goal.take_turn-out-requires-clause-seat
take_turn-out-requires-clause-seat g c =
    let p = c.pass.invariant in
    let e = c.into_seat-seat.ensures in
    let same = seated c.pass.inside.badge.views c.replace.result.views c.into_seat-seat.result.me.0 (ap (λ b. b.views) c.replace.ensures.value) e.2 in
    let left = ap (λ v. v.left) same in (
      subst IsIdle same p.idle,
      e.3,
      omega arith,
      (p.rooted.0, sym (ap (λ v. v.origin) same) ∙ p.rooted.1),
    )

pub take_turn-out-requires-clause-can : goal.take_turn-out-requires-clause-can
take_turn-out-requires-clause-can g c =
    let p = c.pass.invariant in
    let e = c.into_seat-seat.ensures in
    let same = sym (seated c.pass.inside.badge.views c.replace.result.views c.into_seat-seat.result.me.0 (ap (λ b. b.views) c.replace.ensures.value) e.2) in
    let number = ap (λ v. v.number) same ∙ (p.number_is ∙ ap (λ v. v.number) c.pass.view_is) in
    let origin = ap (λ v. v.origin) same ∙ ap (λ v. v.origin) c.pass.view_is in
    let seen = ap (λ v. v.seen) same ∙ ap (λ v. v.seen) c.pass.view_is in
    λ value from between o n s. c.requires.can value from between (sym origin ∙ o) (subst (λ k. NoneBy g.T.Booked.by k between) number n) (subst (λ l. g.T.Booked.stands value from (between ++ l)) seen s)
