use Rattle.std.proofs.Common.{◌≡◌, [], ◌∷◌, ◌++◌, ℕ, List, string_bytes, ap, sym, ◌∙◌, rules}
use Rattle.serde_json.specs.Data.{member}
use Rattle.serde_json.specs.View.{view, members_view}
use Rattle.cni_types.specs.Asked.{labels_after, labels_found}
use Rattle.cni_types.proofs.asked.labels_asked.Goals as goal

pub loop-key-init : goal.loop-key-init
loop-key-init c =
    let entries : c.into_iter-key-iterator.result ≡ c.in-Some.members.now.entries = search rules in
    ap (λ labels. labels_after labels (members_view c.into_iter-key-iterator.result)) c.new-labels.ensures.items
    ∙ ap (λ es. labels_after [] (members_view es)) entries
    ∙ ap labels_found c.in-Some.ensures.members

pub loop-key-preserved : goal.loop-key-preserved
loop-key-preserved c =
    let there = c.loop-key.labels.items in
    let rest = members_view c.next.new.self in
    let step : members_view c.loop-key.key-iterator ≡ member (string_bytes c.in-Some-2.key.now) (view c.in-Some-2.value.now) rest = ap members_view c.in-Some-2.ensures.steps in
    let pair = c.in_ok-pair.ensures ∙ ap (λ (key : List ℕ). (key, c.text_of.result.now)) c.as_str.ensures.value ∙ ap (λ (text : List ℕ). (string_bytes c.in-Some-2.key.now, text)) c.text_of.ensures in
    ap (λ labels. labels_after labels rest) (c.in_ok-push.ensures.items ∙ ap (λ one. there ++ one ∷ []) pair)
    ∙ sym (ap (labels_after there) step)
    ∙ c.loop-key.invariant
