use Rattle.std.proofs.Common.{◌≡◌, ℕ, ◌+◌, ◌<◌, Bool, Some, None, List, [], ◌∷◌, ◌++◌, Option, drop, length, get_or, refl, ap, sym, ◌∙◌}
use Rattle.std.proofs.lemmas.List.{drop_all}
use Rattle.serde_json.specs.Data.{Items}
use Rattle.serde_json.specs.View.{view, items_view}
use Rattle.serde_json.specs.declared.value.Value.{Value}
use Rattle.ipam_pool.specs.Shape.{ReservationValue}
use Rattle.ipam_json.specs.Members.{◌>>=◌, only_if}
use Rattle.ipam_record_text.specs.Reservations.{reservation_in, may_follow, reservations_after}
use Rattle.ipam_json.proofs.Steps.{next_read}
use Rattle.ipam_record_text.proofs.reservations.reservations_of_items.Goals as goal

-- the reservation after the others, where it may follow them, and those that the items hold
abbrev followed : List ReservationValue → ReservationValue → Bool → Items → Option (List ReservationValue)
followed there r may ds = only_if may (there ++ r ∷ []) >>= λ more. reservations_after more ds

next : (there : List ReservationValue) (vs : List Value) (i : ℕ) (v : Value) (found : Option ReservationValue) (whole : Option (List ReservationValue)) → v ≡ get_or vs i v → i < length vs → found ≡ reservation_in (view v) → reservations_after there (items_view (drop i vs)) ≡ whole → (found >>= λ r. followed there r (may_follow there r) (items_view (drop (i + 1) vs))) ≡ whole
next there vs i v found whole =
    next_read reservation_in (reservations_after there) (λ r ds. r >>= λ one. followed there one (may_follow there one) ds) vs i v found whole (λ d ds. refl)

pub loop-item-init : goal.loop-item-init
loop-item-init c = ap (λ list. reservations_after list (items_view c.args.items.now)) c.new-list.ensures.items

pub returns-in_default : goal.returns-in_default
returns-in_default c =
    next c.loop-item.list.items c.args.items.now _ _ None _ c.item-item.is c.loop-item-test.true (sym c.in_default.is ∙ c.in_ok-reservation.ensures) c.loop-item.invariant

pub returns-then-not-may_follow : goal.returns-then-not-may_follow
returns-then-not-may_follow c =
    let there = c.loop-item.list.items in
    let r = c.in-Some.reservation in
    let left = items_view (drop (c.loop-item.item-index + 1) c.args.items.now) in
    let may = sym c.if-not-may_follow.true ∙ c.may_follow.ensures ∙ ap (λ list. may_follow list r) c.as_slice.ensures.value in
    ap (λ b. followed there r b left) may
    ∙ next there c.args.items.now _ _ (Some r) _ c.item-item.is c.loop-item-test.true (sym c.in-Some.is ∙ c.in_ok-reservation.ensures) c.loop-item.invariant

pub loop-item-preserved : goal.loop-item-preserved
loop-item-preserved c =
    let there = c.loop-item.list.items in
    let r = c.in-Some.reservation in
    let left = items_view (drop (c.loop-item.item-index + 1) c.args.items.now) in
    let may = sym c.if-not-may_follow.false ∙ c.may_follow.ensures ∙ ap (λ list. may_follow list r) c.as_slice.ensures.value in
    ap (λ list. reservations_after list left) c.in_ok-push.ensures.items
    ∙ ap (λ b. followed there r b left) may
    ∙ next there c.args.items.now _ _ (Some r) _ c.item-item.is c.loop-item-test.true (sym c.in-Some.is ∙ c.in_ok-reservation.ensures) c.loop-item.invariant

pub returns : goal.returns
returns c =
    ap (λ left. reservations_after c.loop-item.list.items (items_view left)) (sym (drop_all _ c.args.items.now c.loop-item-test.false)) ∙ c.loop-item.invariant
