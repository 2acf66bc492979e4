use Rattle.std.proofs.Common.{◌∙◌, ◌++◌, ◌∷◌, false, ap, string_bytes}
use Rattle.serde_json.specs.View.{items_of}
use Rattle.serde_json.specs.Written.{compact_text, items_text}
use Rattle.ipam_block.specs.declared.allocation.Attributes.{Attributes}
use Rattle.std.specs.Borrow.{Bor}
use Rattle.ipam_block_text.specs.Body.{attributes_data}
use Rattle.ipam_block_text.proofs.Written.{data_of_borrowed, item_written, list_ended, on_ok}
use Rattle.ipam_block_text.proofs.writing.push_list.Goals as goal

pub loop-own-preserved : goal.loop-own-preserved
loop-own-preserved c =
    let l = c.loop-own in
    item_written (λ a. attributes_data a.now) _ _ _ _ l.later c.args.attributes.now l.own-index c.own-item.result c.loop-own-test.true c.in_ok-push_comma.ensures
    (c.in_ok-push_attributes.ensures ∙ ap (λ (a : Bor Attributes). string_bytes c.push_comma.new.out ++ compact_text (attributes_data a.now)) c.own-item.is)
    l.invariant

pub returns : goal.returns
returns c =
    let l = c.loop-own in
    on_ok c.push-2.result c.push-2.ensures (λ last.
    list_ended (λ a. attributes_data a.now) _ _ _ l.later c.args.attributes.now l.own-index c.loop-own-test.false l.invariant last
    ∙ ap (λ ds. string_bytes c.args.out.now ++ 91 ∷ items_text false (items_of ds)) (data_of_borrowed c.args.attributes.now))
