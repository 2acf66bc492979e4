use Rattle.std.proofs.Common.{◌∷◌, [], refl, ap, ◌∙◌, arith}
use Rattle.turn_lock.proofs.Passing.{seated, joined_few, joined_pass}
use Rattle.turn_lock.proofs.lock.TurnLock.join.Goals as goal

pub overflow_add-into : goal.overflow_add-into
overflow_add-into g c =
    let e = seated c.into.inside.badge.views c.replace.result.views c.into_seat-seat.result.me.0 (ap (λ b. b.views) c.replace.ensures.value) c.into_seat-seat.ensures.2 in
    let f = seated c.other.inside.badge.views c.other.inside.badge.views c.into_seat.result.me.0 refl c.into_seat.ensures.2 in
    let few = joined_few _ _ _ _ _ _ _ _ _ _ _ _ c.into.invariant c.other.invariant e f c.absorb.ensures.learned.few in
    omega arith

pub overflow_add-into-2 : goal.overflow_add-into-2
overflow_add-into-2 g c =
    let e = seated c.into.inside.badge.views c.replace.result.views c.into_seat-seat.result.me.0 (ap (λ b. b.views) c.replace.ensures.value) c.into_seat-seat.ensures.2 in
    let f = seated c.other.inside.badge.views c.other.inside.badge.views c.into_seat.result.me.0 refl c.into_seat.ensures.2 in
    let few = joined_few _ _ _ _ _ _ _ _ _ _ _ _ c.into.invariant c.other.invariant e f c.absorb.ensures.learned.few in
    omega arith

pub invariant_of-into : goal.invariant_of-into
invariant_of-into g c =
    let e = seated c.into.inside.badge.views c.replace.result.views c.into_seat-seat.result.me.0 (ap (λ b. b.views) c.replace.ensures.value) c.into_seat-seat.ensures.2 in
    let f = seated c.other.inside.badge.views c.other.inside.badge.views c.into_seat.result.me.0 refl c.into_seat.ensures.2 in
    joined_pass _ _ _ _ _ _ _ _ _ _ _ _ _ _ _ c.into.invariant c.other.invariant e f (c.into_badge.ensures.2 ∙ ap (λ m. m.0 ∷ []) c.absorb.ensures.learned.now) c.max-into-inside.ensures
