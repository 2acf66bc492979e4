-- What a call and a list have done.
use Rattle.std.proofs.Common.{◌≡◌, ◌≢◌, ◌<◌, ◌≤◌, ℕ, ◌+◌, ◌^◌, ◌⊎◌, inl, inr, Option, Some, None, true, false, refl, sym, ap, ◌∙◌, subst, nat_lt, ltb-true, ltb-false}
use Rattle.std.proofs.lemmas.Bool.{cases_Bool}
use Rattle.ipam_model.specs.declared.answer.Answer.{Answer}
use Rattle.ipam_model.specs.declared.entry.Entry.{Entry}
use Rattle.ipam_model.specs.declared.entry.Entry.TheVariants as entry
use Rattle.ipam_model.specs.declared.request.CollectRequest.{CollectRequest}
use Rattle.ipam_model.specs.declared.request.Request.TheVariants.{Collect}
use Rattle.ipam_cluster.specs.Turns.{IsTurn}
use Rattle.ipam_model.specs.declared.entry.Fate.TheVariants.{Well, Before}
use Rattle.ipam_shared.specs.declared.kept.Kept.{Kept}
use Rattle.ipam_shared.specs.Giving.{Gives}
use Rattle.ipam_shared.specs.Kept.{IsKept, KeepsWith, LeavesKeeper, Tells}
use Rattle.ipam_shared.specs.KeptTurning.{IsDone, IsFailed}
use Rattle.ipam_shared.specs.Steps.{CountsOne, IsDoneCall, IsFailedCall, IsFed, answer_told}
use Rattle.ipam_shared.proofs.SoloStanding.{failed-fault, one-more}

module _ {D : Type 0} (tells : Tells D) (faults : D → ℕ) (old new : Kept D) (told : Entry) where
  done-call : IsDone faults 0 old new told → KeepsWith tells old new told → IsDoneCall tells faults old new (answer_told told)
  done-call done keeps = record {
    call = done.turn.told;
    own = done.turn.own;
    well = done.turn.has_fate;
    answer = sym (ap answer_told done.turn.is_called);
    keeps = subst (λ (e : Entry). KeepsWith tells old new e) done.turn.is_called keeps;
    no_fault = done.no_fault;
    sure = done.sure;
  }

  failed-call : (gives : Gives D) → IsKept tells old → IsFailed gives faults 0 old new told → KeepsWith tells old new told → IsFailedCall tells faults old new (answer_told told)
  failed-call gives kept failed keeps =
      let now = subst (λ (e : Entry). KeepsWith tells old new e) failed.turn.is_called keeps in
      let is = ap answer_told failed.turn.is_called in
      record {
        call = failed.turn.told;
        own = failed.turn.own;
        failed = failed.turn.has_fate;
        answer = sym is;
        is_fault = is ∙ failed-fault tells old new failed.turn.told kept now failed.turn.has_fate;
        keeps = now;
        fault = failed.fault;
      }

  pub is-called : (gives : Gives D) → IsKept tells old → IsDone faults 0 old new told ⊎ IsFailed gives faults 0 old new told → KeepsWith tells old new told
      → IsDoneCall tells faults old new (answer_told told) ⊎ IsFailedCall tells faults old new (answer_told told)
  is-called gives kept (inl done) keeps = inl (done-call done keeps)
  is-called gives kept (inr failed) keeps = inr (failed-call gives kept failed keeps)

  -- there was room, since it was not refused, and there is one entry more
  pub counts-one : IsKept tells old → KeepsWith tells old new told → ¬ (2 ^ 62 ≤ old.cluster.entries) → CountsOne old new
  counts-one kept keeps not = record {
    few = from (cases_Bool (nat_lt old.cluster.entries (2 ^ 62)));
    one_more = one-more tells old new told kept keeps;
  }
    where
      from : (nat_lt old.cluster.entries (2 ^ 62) ≡ true) ⊎ (nat_lt old.cluster.entries (2 ^ 62) ≡ false) → old.cluster.entries < 2 ^ 62
      from (inl less) = ltb-true old.cluster.entries (2 ^ 62) less
      from (inr more) = absurd (not (ltb-false old.cluster.entries (2 ^ 62) more))

  -- a list that was fed
  pub is-fed : (c : CollectRequest) → told ≡ entry.Fed 0 c.at c.live → KeepsWith tells old new told → LeavesKeeper old new → IsFed tells (Collect c) old new
  is-fed c is keeps leaves = record {
    at = c.at;
    live = c.live;
    first = (refl, refl);
    keeps = subst (λ (e : Entry). KeepsWith tells old new e) is keeps;
    keeper = leaves;
  }
