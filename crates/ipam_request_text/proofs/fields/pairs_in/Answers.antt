use Rattle.std.proofs.Common.{◌≡◌, ◌∙◌, [], ◌∷◌, ◌++◌, sym, ap, Some, option_and_then, rules}
use Rattle.serde_json.specs.View.{members_view}
use Rattle.serde_json.proofs.Views.{Entry}
use Rattle.ipam_request_text.specs.Fields.{pairs_after}
use Rattle.ipam_request_text.proofs.Lists.{pair_read, pairs_read}
use Rattle.ipam_request_text.proofs.fields.pairs_in.Goals as goal

pub loop-key-init : goal.loop-key-init
loop-key-init c =
    let entries : c.into_iter-key-iterator.result ≡ c.in-Some.members.now.entries = search rules in
    ap (λ pairs. pairs_after pairs (members_view c.into_iter-key-iterator.result)) c.new-pairs.ensures.items
    ∙ ap (λ es. pairs_after [] (members_view es)) entries
    ∙ ap (option_and_then (pairs_after [])) c.in-Some.ensures

pub loop-key-preserved : goal.loop-key-preserved
loop-key-preserved c =
    let l = c.loop-key in
    let e : Entry = (c.in-Some-2.key.now, c.in-Some-2.member.now) in
    let value = c.in-Some-as_str.value.now in
    pair_read e value l.pairs.items c.push.new.self.items l.key-iterator c.next.new.self _ c.in-Some-2.ensures.steps (sym c.in-Some-as_str.ensures) (c.in_ok-push.ensures.items ∙ ap (λ p. l.pairs.items ++ p ∷ []) c.in_ok-pair.ensures ∙ ap (λ k. l.pairs.items ++ (k, value) ∷ []) c.as_str-in-loop-key.ensures.value) l.invariant

pub returns : goal.returns
returns c = ap Some c.of.ensures ∙ pairs_read c.loop-key.pairs.items c.loop-key.key-iterator _ c.in-None.ensures.steps.0 c.loop-key.invariant
