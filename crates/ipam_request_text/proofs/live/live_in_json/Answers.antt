use Rattle.std.proofs.Common.{◌∙◌, [], refl, sym, ap, Some}
use Rattle.serde_json.specs.View.{view, items_view}
use Rattle.ipam_json.specs.Members.{◌>>=◌}
use Rattle.ipam_request_text.specs.Live.{live_id_in, ids_after, live_in}
use Rattle.ipam_request_text.proofs.Lists.{read_more, read_all}
use Rattle.ipam_request_text.proofs.Lives.{live_in_sound}
use Rattle.ipam_request_text.proofs.live.live_in_json.Goals as goal

pub loop-item-init : goal.loop-item-init
unfolding live_in
loop-item-init c =
    ap (λ ids. ids_after ids (items_view c.as_slice-items.result.now)) c.new-ids.ensures.items
    ∙ ap (λ o. o >>= λ items. ids_after [] items) (ap (λ vs. Some (items_view vs)) c.as_slice-items.ensures.value ∙ c.in-Some.ensures)

pub loop-item-preserved : goal.loop-item-preserved
loop-item-preserved c =
    let l = c.loop-item in
    read_more live_id_in ids_after (λ done d ds. refl) c.as_slice-items.result.now l.item-index c.item-item.result c.in_ok-copied.field-0 l.ids.items c.push.new.self.items _ c.loop-item-test.true c.item-item.is (sym c.in-Some-id_in.ensures ∙ ap Some (sym c.in_ok-copied.ensures)) c.in_ok-push.ensures.items l.invariant

pub returns : goal.returns
returns c =
    let l = c.loop-item in
    let read = ap Some c.of.ensures ∙ read_all live_id_in ids_after (λ done d ds. refl) c.as_slice-items.result.now l.item-index l.ids.items _ c.loop-item-test.false refl l.invariant in
    record { read = read; sound = live_in_sound (view c.args.json.now) _ read }
