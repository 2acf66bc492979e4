use Rattle.std.proofs.Common.{◌≡◌, ◌∙◌, ◌<◌, [], ap, subst, Bool, Some, string_bytes, arith}
use Rattle.std.specs.Bool.{OnTrue, OnFalse}
use Rattle.serde_json.specs.Data.{member}
use Rattle.serde_json.specs.View.{view, members_view}
use Rattle.ipam_block.specs.HandleOperations.{count_in}
use Rattle.ipam_record_text.specs.Handle.{block_counted, counts_after, AddsCount}
use Rattle.ipam_record_text.proofs.Handles.{no_counts, one_more, repeated, sound_added}
use Rattle.ipam_record_text.proofs.handle.counts_in.Goals as goal

pub loop-name-init : goal.loop-name-init
loop-name-init c = record {
  counts = ap (λ cs. counts_after cs (members_view c.into_iter-name-iterator.result)) c.new-counts.ensures.empty ∙ ap (λ ms. counts_after [] (members_view ms)) (grind arith);
  sound = no_counts _ c.new-counts.ensures.empty;
}

pub returns-then-not-branch-clause-counts : goal.returns-then-not-branch-clause-counts
returns-then-not-branch-clause-counts c =
    let step : members_view c.loop-name.name-iterator ≡ member (string_bytes c.in-Some.name.now) (view c.in-Some.value.now) (members_view c.next.new.self) = ap members_view c.in-Some.ensures.steps in
    let is : block_counted (string_bytes c.in-Some.name.now) (view c.in-Some.value.now) ≡ Some c.in-Some-counted.entry = grind arith in
    let some = subst (λ (b : Bool). OnFalse b (0 < count_in c.loop-name.counts.entries c.in-Some-counted.entry.0)) c.if-not-branch.true c.in_ok-add.ensures.there in
    repeated c.loop-name.counts.entries _ _ (members_view c.args.members.now.entries) _ _ c.in-Some-counted.entry c.loop-name.invariant.counts step is some

pub loop-name-preserved : goal.loop-name-preserved
loop-name-preserved c =
    let step : members_view c.loop-name.name-iterator ≡ member (string_bytes c.in-Some.name.now) (view c.in-Some.value.now) (members_view c.next.new.self) = ap members_view c.in-Some.ensures.steps in
    let is : block_counted (string_bytes c.in-Some.name.now) (view c.in-Some.value.now) ≡ Some c.in-Some-counted.entry = grind arith in
    let added = subst (λ (b : Bool). OnTrue b (AddsCount c.loop-name.counts.entries c.add.new.counts.entries c.in-Some-counted.entry.0 c.in-Some-counted.entry.1)) c.if-not-branch.false c.in_ok-add.ensures.added in
    record {
      counts = one_more c.loop-name.counts.entries c.add.new.counts.entries _ _ (members_view c.args.members.now.entries) _ _ c.in-Some-counted.entry c.loop-name.invariant.counts step is added.absent added.counts;
      sound = sound_added c.loop-name.counts.entries c.add.new.counts.entries _ _ c.in-Some-counted.entry.0 c.in-Some-counted.entry.1 c.loop-name.invariant.sound is added.counts;
    }
