use Rattle.std.proofs.Common.{◌≡◌, ◌∙◌, ◌+◌, [], ◌∷◌, ◌++◌, take, ap, sym}
use Rattle.std.specs.Prelude.{fold}
use Rattle.std.proofs.lemmas.List.{take_more}
use Rattle.std.proofs.lemmas.List.Sums.{fold_push}
use Rattle.serde_json.specs.Data.{string, no_members, put}
use Rattle.serde_json.specs.View.{view, members_view}
use Rattle.ipam_block_text.specs.Body.{with_pair}
use Rattle.ipam_block_text.proofs.writing.secondary_value.Goals as goal

pub loop-pair-preserved : goal.loop-pair-preserved
loop-pair-preserved c =
    let l = c.loop-pair in
    let p = c.pair-item.result in
    let xs = take l.pair-index c.args.pairs.now in
    let old = members_view l.members.entries in
    let more : take (l.pair-index + 1) c.args.pairs.now ≡ xs ++ p ∷ [] = take_more c.args.pairs.now l.pair-index p c.loop-pair-test.true ∙ ap (λ x. xs ++ x ∷ []) (sym c.pair-item.is) in
    c.in_ok-put.ensures.ok
    ∙ ap (λ k. put k (view c.in_ok-value.value) old) c.as_str-in-loop-pair.ensures
    ∙ ap (λ d. put p.0 d old) (c.in_ok-value.ensures ∙ ap string c.as_str.ensures)
    ∙ ap (λ ms. with_pair ms p) l.invariant
    ∙ sym (fold_push with_pair no_members xs p)
    ∙ sym (ap (fold with_pair no_members) more)
