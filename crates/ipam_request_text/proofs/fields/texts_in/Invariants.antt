use Rattle.std.proofs.Common.{◌≡◌, drop}
use Rattle.serde_json.specs.View.{view, items_view}
use Rattle.ipam_request_text.specs.Fields.{texts_after, texts_in}
use Rattle.ipam_request_text.proofs.fields.texts_in.Given as goal

-- what was found so far, and what the other items hold
abbrev pub invariant-loop-item : goal.invariant-loop-item
invariant-loop-item l =
    texts_after l.texts.items (items_view (drop l.item-index l.items)) ≡ texts_in (view l.value)
