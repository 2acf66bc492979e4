use Rattle.std.proofs.Common.{◌≡◌, ◌+◌, [], Option, Some, None, drop, refl, ap, sym, ◌∙◌}
use Rattle.std.proofs.lemmas.List.{drop_all}
use Rattle.serde_json.specs.View.{items_view}
use Rattle.ipam_addr.specs.Shape.{AddrValue}
use Rattle.cni_types.specs.Configuration.{address_with_prefix_in}
use Rattle.cni_types.specs.Asked.{with_address, listed_addresses_after, items_found}
use Rattle.ipam_json.proofs.Steps.{next_read}
use Rattle.cni_types.proofs.Told.{same_check}
use Rattle.cni_types.proofs.asked.check_asked.Goals as goal
use Rattle.cni_types.proofs.asked.check_asked.Goals.{in-Some+in_ok-push, in_default}

pub loop-item-init : goal.loop-item-init
loop-item-init c = ap (λ list. listed_addresses_after list (items_view c.items_of-items.result.now)) c.new-addresses.ensures.items

pub loop-item-preserved : goal.loop-item-preserved
loop-item-preserved c =
    let there = c.loop-item.addresses.items in
    let left = items_view (drop (c.loop-item.item-index + 1) c.items_of-items.result.now) in
    let whole = listed_addresses_after [] (items_view c.items_of-items.result.now) in
    let next = λ (found : Option AddrValue) (is : found ≡ c.address_in.result). next_read address_with_prefix_in (listed_addresses_after there) (λ a ds. listed_addresses_after (with_address there a) ds) c.items_of-items.result.now _ _ found whole (λ d ds. refl) c.item-item.is c.loop-item-test.true (is ∙ c.address_in.ensures) c.loop-item.invariant in
    elim c.match-address_in.branch [
      | in-Some+in_ok-push w ↦
          ap (λ list. listed_addresses_after list left) (ap (λ v. v.items) w.addresses-is ∙ w.in_ok-push.ensures.items) ∙ next (Some w.in-Some.address) (sym w.in-Some.is)
      | in_default w ↦ ap (λ list. listed_addresses_after list left) (ap (λ v. v.items) w.addresses-is) ∙ next None (sym w.in_default.is)
    ]

pub returns : goal.returns
returns c =
    let addresses =
    c.of.ensures
    ∙ ap (λ left. listed_addresses_after c.loop-item.addresses.items (items_view left)) (sym (drop_all _ c.items_of-items.result.now c.loop-item-test.false))
    ∙ c.loop-item.invariant
    ∙ ap (listed_addresses_after []) (c.items_of-items.ensures ∙ ap items_found c.inside.ensures)
    in
    same_check c.args.version _ _ _ _ c.in_ok-handle.ensures addresses
