use Rattle.std.proofs.Common.{Some, true, false, ◌&&◌, refl, ap, sym, ◌∙◌}
use Rattle.std.proofs.lemmas.List.{drop_all}
use Rattle.serde_json.specs.View.{items_view}
use Rattle.cni_types.specs.Reading.{text_or_empty}
use Rattle.cni_types.specs.Configuration.{is_pool_text, are_all_pools}
use Rattle.ipam_json.proofs.Steps.{next_read}
use Rattle.cni_types.proofs.Told.{pools_told}
use Rattle.cni_types.proofs.configuration.are_pools.Goals as goal

pub returns-then-not-is_pool_text : goal.returns-then-not-is_pool_text
returns-then-not-is_pool_text c =
    pools_told _ _ (items_view c.as_slice-items.result.now) _ c.in-Some.ensures (ap (λ vs. Some (items_view vs)) c.as_slice-items.ensures.value ∙ c.in-Some-as_array.ensures) (sym c.if-not-are_few.false ∙ c.are_few.ensures)
    (next_read (λ d. is_pool_text (text_or_empty d)) are_all_pools (λ good ds. good && are_all_pools ds) c.as_slice-items.result.now _ _ false _ (λ d ds. refl) c.item-item.is c.loop-item-test.true (sym c.if-not-is_pool_text.true ∙ c.is_pool_text.ensures ∙ ap is_pool_text c.text_of.ensures) c.loop-item.invariant)

pub loop-item-preserved : goal.loop-item-preserved
loop-item-preserved c =
    next_read (λ d. is_pool_text (text_or_empty d)) are_all_pools (λ good ds. good && are_all_pools ds) c.as_slice-items.result.now _ _ true _ (λ d ds. refl) c.item-item.is c.loop-item-test.true (sym c.if-not-is_pool_text.false ∙ c.is_pool_text.ensures ∙ ap is_pool_text c.text_of.ensures) c.loop-item.invariant

pub returns : goal.returns
returns c =
    pools_told _ _ (items_view c.as_slice-items.result.now) _ c.in-Some.ensures (ap (λ vs. Some (items_view vs)) c.as_slice-items.ensures.value ∙ c.in-Some-as_array.ensures) (sym c.if-not-are_few.false ∙ c.are_few.ensures)
    (ap (λ left. are_all_pools (items_view left)) (sym (drop_all _ c.as_slice-items.result.now c.loop-item-test.false)) ∙ c.loop-item.invariant)
