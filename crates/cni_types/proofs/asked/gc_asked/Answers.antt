use Rattle.std.proofs.Common.{◌+◌, [], ◌∷◌, ◌++◌, codes, drop, refl, ap, sym, ◌∙◌}
use Rattle.std.proofs.lemmas.List.{drop_all}
use Rattle.serde_json.specs.Find.{get}
use Rattle.serde_json.specs.View.{view, items_view}
use Rattle.cni_types.specs.Reading.{text_or_empty_at}
use Rattle.cni_types.specs.Asked.{container_handle, live_after, items_found}
use Rattle.ipam_json.proofs.Steps.{next_read}
use Rattle.cni_types.proofs.Told.{same_gc}
use Rattle.cni_types.proofs.asked.gc_asked.Goals as goal

pub loop-item-init : goal.loop-item-init
loop-item-init c = ap (λ live. live_after c.text_at-name.result.now live (items_view c.items_of-items.result.now)) c.new-live.ensures.items

pub loop-item-preserved : goal.loop-item-preserved
loop-item-preserved c =
    let there = c.loop-item.live.items in
    let network = c.text_at-name.result.now in
    ap (λ live. live_after network live (items_view (drop (c.loop-item.item-index + 1) c.items_of-items.result.now))) c.in_ok-push.ensures.items
    ∙ next_read (λ d. container_handle network (text_or_empty_at (codes "containerID") d)) (live_after network there) (λ handle ds. live_after network (there ++ handle ∷ []) ds) c.items_of-items.result.now _ _ _ _ (λ d ds. refl) c.item-item.is c.loop-item-test.true (c.in_ok-handle_of.ensures ∙ ap (container_handle network) c.text_at.ensures) c.loop-item.invariant

pub returns : goal.returns
returns c =
    let name = c.text_at-name.ensures in
    let live =
    c.of.ensures
    ∙ ap (λ left. live_after c.text_at-name.result.now c.loop-item.live.items (items_view left)) (sym (drop_all _ c.items_of-items.result.now c.loop-item-test.false))
    ∙ c.loop-item.invariant
    ∙ ap (live_after c.text_at-name.result.now []) (c.items_of-items.ensures ∙ ap items_found c.get.ensures)
    ∙ ap (λ network. live_after network [] (items_found (get (codes "cni.dev/valid-attachments") (view c.args.json.now)))) name
    in
    same_gc c.args.version _ _ _ _ _ _ (c.in_ok-network.ensures ∙ name) (c.in_ok-node.ensures ∙ c.text_at-2.ensures) live
