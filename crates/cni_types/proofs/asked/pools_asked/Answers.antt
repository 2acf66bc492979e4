use Rattle.std.proofs.Common.{◌+◌, [], ◌∷◌, ◌++◌, drop, refl, ap, sym, ◌∙◌}
use Rattle.std.proofs.lemmas.List.{drop_all}
use Rattle.serde_json.specs.View.{items_view}
use Rattle.cni_types.specs.Reading.{text_or_empty}
use Rattle.cni_types.specs.Asked.{listed_texts_after, items_found}
use Rattle.ipam_json.proofs.Steps.{next_read}
use Rattle.cni_types.proofs.asked.pools_asked.Goals as goal

pub loop-item-init : goal.loop-item-init
loop-item-init c = ap (λ texts. listed_texts_after texts (items_view c.items_of-items.result.now)) c.new-texts.ensures.items

pub loop-item-preserved : goal.loop-item-preserved
loop-item-preserved c =
    let there = c.loop-item.texts.items in
    ap (λ texts. listed_texts_after texts (items_view (drop (c.loop-item.item-index + 1) c.items_of-items.result.now))) c.in_ok-push.ensures.items
    ∙ next_read text_or_empty (listed_texts_after there) (λ text ds. listed_texts_after (there ++ text ∷ []) ds) c.items_of-items.result.now _ _ _ _ (λ d ds. refl) c.item-item.is c.loop-item-test.true (c.in_ok-copied.ensures ∙ c.text_of.ensures) c.loop-item.invariant

pub returns : goal.returns
returns c =
    c.of.ensures
    ∙ ap (λ left. listed_texts_after c.loop-item.texts.items (items_view left)) (sym (drop_all _ c.items_of-items.result.now c.loop-item-test.false))
    ∙ c.loop-item.invariant
    ∙ ap (listed_texts_after []) (c.items_of-items.ensures ∙ ap items_found c.inside.ensures)
