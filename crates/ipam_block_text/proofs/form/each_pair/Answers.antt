use Rattle.std.proofs.Common.{◌∙◌, sym, ap}
use Rattle.serde_json.specs.View.{view}
use Rattle.serde_json.proofs.Views.{Entry}
use Rattle.ipam_block_text.specs.Reading.{pair_in}
use Rattle.ipam_block_text.proofs.Listed.{entry_more}
use Rattle.ipam_block_text.proofs.form.each_pair.Goals as goal

pub loop-key-preserved : goal.loop-key-preserved
loop-key-preserved c =
    let e : Entry = (c.in-Some.key.now, c.in-Some.member.now) in
    entry_more e c.in-Some-2.pair c.loop-key.pairs.items c.push.new.self.items c.loop-key.key-iterator c.next.new.self _ c.in-Some.ensures.steps (sym c.in-Some-2.is ∙ c.in_ok-pair.ensures ∙ ap (λ k. pair_in (k, view c.in-Some.member.now)) c.as_str.ensures.value) c.in_ok-push-in-Some-2.ensures.items c.loop-key.invariant
