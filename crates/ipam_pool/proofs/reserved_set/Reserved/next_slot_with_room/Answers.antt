use Rattle.std.proofs.Common.{◌≡◌, ◌≤◌, ◌∙◌, sym, ap, subst, refl, arith}
use Rattle.ipam_addr.specs.declared.address.Family.{Family}
use Rattle.ipam_addr.specs.Shape.{AddrValue}
use Rattle.ipam_addr.specs.Holding.{first_address, Holds}
use Rattle.ipam_addr.specs.Slots.{slot_of, last_slot_of}
use Rattle.ipam_pool.proofs.Rooms.{gap_at, held_at, slot_before_last, full_from, pool_holds, next_tells, next_found}
use Rattle.ipam_pool.proofs.reserved_set.Reserved.next_slot_with_room.Goals as goal

pub first_gap-requires-clause-order : goal.first_gap-requires-clause-order
first_gap-requires-clause-order c =
    let start : (record { family = c.start.inside.family; number = c.start.inside.number }) ≡ first_address (slot_of c.args.pool c.args.size c.args.from) = c.start.view_is ∙ c.base-start.ensures.value ∙ ap first_address c.slot.ensures.value in
    let low = ap (λ (a : AddrValue). a.number) start in
    let high = ap (λ (a : AddrValue). a.number) c.first_gap.view_is in
    let last = c.last.ensures.value in
    let number = c.if-from-last_slot.false in
    let within : c.args.from ≤ last_slot_of c.args.pool c.args.size = omega (arith, c.last_slot.ensures) in
    let before = slot_before_last c.args.pool c.args.size c.args.from c.requires within in
    omega arith

pub returns-in_err-number-clause-full : goal.returns-in_err-number-clause-full
returns-in_err-number-clause-full c =
    let base : AddrValue = record { family = c.start.inside.family; number = c.start.inside.number } in
    let last : AddrValue = record { family = c.first_gap.inside.family; number = c.first_gap.inside.number } in
    let start : base ≡ first_address (slot_of c.args.pool c.args.size c.args.from) = c.start.view_is ∙ c.base-start.ensures.value ∙ ap first_address c.slot.ensures.value in
    let all = held_at c.args.self.now c.spans-spans.result.now base (first_address (slot_of c.args.pool c.args.size c.args.from)) last c.last.result c.spans-spans.ensures.value start c.first_gap.view_is (c.in_err-number.ensures.none refl) in
    (λ none. full_from _ _ _ _ _ _ c.requires refl c.last.ensures.value all, λ full. rw c.from_residual.ensures refl)

pub returns-clause-next : goal.returns-clause-next
returns-clause-next c =
    let base : AddrValue = record { family = c.start.inside.family; number = c.start.inside.number } in
    let last : AddrValue = record { family = c.first_gap.inside.family; number = c.first_gap.inside.number } in
    let start : base ≡ first_address (slot_of c.args.pool c.args.size c.args.from) = c.start.view_is ∙ c.base-start.ensures.value ∙ ap first_address c.slot.ensures.value in
    let gap = gap_at c.args.self.now c.spans-spans.result.now base (first_address (slot_of c.args.pool c.args.size c.args.from)) last c.last.result c.in_ok-number.number c.spans-spans.ensures.value start c.first_gap.view_is c.in_ok-number.ensures.found in
    let family = ap (λ (a : AddrValue). a.family) start in
    let made : Family → AddrValue = λ f. record { family = f; number = c.in_ok-number.number } in
    next_found c.args.self.now c.args.pool c.args.size c.args.from _ _ c.in_ok-number.number _ _ refl gap (ap made family) c.slot_number.ensures.within c.slot_number.ensures.slot

pub returns-clause-full : goal.returns-clause-full
returns-clause-full c =
    let base : AddrValue = record { family = c.start.inside.family; number = c.start.inside.number } in
    let last : AddrValue = record { family = c.first_gap.inside.family; number = c.first_gap.inside.number } in
    let start : base ≡ first_address (slot_of c.args.pool c.args.size c.args.from) = c.start.view_is ∙ c.base-start.ensures.value ∙ ap first_address c.slot.ensures.value in
    let gap = gap_at c.args.self.now c.spans-spans.result.now base (first_address (slot_of c.args.pool c.args.size c.args.from)) last c.last.result c.in_ok-number.number c.spans-spans.ensures.value start c.first_gap.view_is c.in_ok-number.ensures.found in
    let family = ap (λ (a : AddrValue). a.family) start in
    let made : Family → AddrValue = λ f. record { family = f; number = c.in_ok-number.number } in
    let held = pool_holds c.args.pool c.args.size c.args.from c.in_ok-number.number _ _ _ refl c.last.ensures.value gap in
    let own = subst (Holds c.args.pool) (sym (ap made family)) held in
    next_tells c.args.self.now c.args.pool c.args.size c.args.from _ (returns-clause-next c) (λ none. c.slot_number.ensures.outside.0 none own)
