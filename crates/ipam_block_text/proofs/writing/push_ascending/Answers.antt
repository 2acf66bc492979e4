use Rattle.std.proofs.Common.{◌∙◌, ◌++◌, ◌∷◌, false, ap, sym, string_bytes}
use Rattle.json.specs.Print.{quoted}
use Rattle.serde_json.specs.Written.{comma_if, members_text}
use Rattle.ipam_block_text.specs.Attributes.{Pair}
use Rattle.ipam_block_text.proofs.PairKeys.{pair_field, pairs_members}
use Rattle.ipam_block_text.proofs.Written.{on_ok, member_written, members_ended}
use Rattle.ipam_block_text.proofs.writing.push_ascending.Goals as goal

pub loop-pair-preserved : goal.loop-pair-preserved
unfolding pair_field
loop-pair-preserved c =
    let l = c.loop-pair in
    member_written pair_field _ _ _ l.later c.args.pairs.now l.pair-index _ c.loop-pair-test.true
    (c.in_ok-push_pair.ensures ∙ ap (λ (p : Pair). string_bytes l.out ++ (comma_if l.later ++ (quoted p.0 ++ 58 ∷ quoted p.1))) c.pair-item.is)
    l.invariant

pub returns : goal.returns
returns c =
    let l = c.loop-pair in
    on_ok c.push-2.result c.push-2.ensures (λ last.
    members_ended pair_field _ _ _ l.later c.args.pairs.now l.pair-index c.loop-pair-test.false l.invariant last
    ∙ ap (λ ms. string_bytes c.args.out.now ++ 123 ∷ members_text false ms) (sym (pairs_members c.args.pairs.now c.requires)))
