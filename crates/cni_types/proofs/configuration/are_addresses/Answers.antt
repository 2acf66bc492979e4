use Rattle.std.proofs.Common.{Some, true, false, not, ◌&&◌, refl, ap, sym, ◌∙◌}
use Rattle.std.specs.Prelude.{is_some}
use Rattle.std.proofs.lemmas.List.{drop_all}
use Rattle.serde_json.specs.View.{items_view}
use Rattle.cni_types.specs.Configuration.{address_with_prefix_in, are_all_addresses}
use Rattle.ipam_json.proofs.Steps.{next_read}
use Rattle.cni_types.proofs.Told.{addresses_told}
use Rattle.cni_types.proofs.configuration.are_addresses.Goals as goal

pub returns-then-is_none : goal.returns-then-is_none
returns-then-is_none c =
    addresses_told _ _ (items_view c.as_slice-items.result.now) _ c.in-Some.ensures (ap (λ vs. Some (items_view vs)) c.as_slice-items.ensures.value ∙ c.in-Some-as_array.ensures) (sym c.if-not-are_few.false ∙ c.are_few.ensures)
    (next_read (λ d. is_some (address_with_prefix_in d)) are_all_addresses (λ good ds. good && are_all_addresses ds) c.as_slice-items.result.now _ _ false _ (λ d ds. refl) c.item-item.is c.loop-item-test.true (sym (c.is_none.ensures ∙ ap not c.if-is_none.true) ∙ ap is_some c.address_in.ensures) c.loop-item.invariant)

pub loop-item-preserved : goal.loop-item-preserved
loop-item-preserved c =
    next_read (λ d. is_some (address_with_prefix_in d)) are_all_addresses (λ good ds. good && are_all_addresses ds) c.as_slice-items.result.now _ _ true _ (λ d ds. refl) c.item-item.is c.loop-item-test.true (sym (c.is_none.ensures ∙ ap not c.if-is_none.false) ∙ ap is_some c.address_in.ensures) c.loop-item.invariant

pub returns : goal.returns
returns c =
    addresses_told _ _ (items_view c.as_slice-items.result.now) _ c.in-Some.ensures (ap (λ vs. Some (items_view vs)) c.as_slice-items.ensures.value ∙ c.in-Some-as_array.ensures) (sym c.if-not-are_few.false ∙ c.are_few.ensures)
    (ap (λ left. are_all_addresses (items_view left)) (sym (drop_all _ c.as_slice-items.result.now c.loop-item-test.false)) ∙ c.loop-item.invariant)
