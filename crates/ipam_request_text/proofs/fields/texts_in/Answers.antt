use Rattle.std.proofs.Common.{◌∙◌, [], refl, sym, ap, Some, option_and_then}
use Rattle.serde_json.specs.Find.{as_str}
use Rattle.serde_json.specs.View.{items_view}
use Rattle.ipam_request_text.specs.Fields.{texts_after}
use Rattle.ipam_request_text.proofs.Lists.{read_more, read_all}
use Rattle.ipam_request_text.proofs.fields.texts_in.Goals as goal

pub loop-item-init : goal.loop-item-init
loop-item-init c =
    ap (λ texts. texts_after texts (items_view c.as_slice-items.result.now)) c.new-texts.ensures.items
    ∙ ap (option_and_then (texts_after [])) (ap (λ vs. Some (items_view vs)) c.as_slice-items.ensures.value ∙ c.in-Some.ensures)

pub loop-item-preserved : goal.loop-item-preserved
loop-item-preserved c =
    let l = c.loop-item in
    read_more as_str texts_after (λ done d ds. refl) c.as_slice-items.result.now l.item-index c.item-item.result c.in_ok-copied.field-0 l.texts.items c.push.new.self.items _ c.loop-item-test.true c.item-item.is (sym c.in-Some-as_str.ensures ∙ ap Some (sym c.in_ok-copied.ensures)) c.in_ok-push.ensures.items l.invariant

pub returns : goal.returns
returns c =
    let l = c.loop-item in
    ap Some c.of.ensures ∙ read_all as_str texts_after (λ done d ds. refl) c.as_slice-items.result.now l.item-index l.texts.items _ c.loop-item-test.false refl l.invariant
