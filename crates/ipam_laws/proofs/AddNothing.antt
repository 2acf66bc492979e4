-- Where an ADD without an address gives none, nothing that it was given is owned any more.
use Rattle.std.proofs.Common.{◌≡◌, ℕ, ◌+◌, ◌<◌, inl, inr, Bool, true, [], ◌∷◌, refl, sym, ap, ◌∙◌, subst, arith}
use Rattle.std.specs.Prelude.{◌==◌, ◌&&◌}
use Rattle.std.specs.List.{count_by}
use Rattle.std.specs.Prelude.{nat_lt}
use Rattle.std.proofs.lemmas.Bool.{cases_Bool, eqb-false}
use Rattle.ipam_block.specs.declared.allocation.Allocation.{Allocation}
use Rattle.ipam_block.specs.Operations.{block_with_ordinal, is_stamped, next_block}
use Rattle.ipam_records.specs.declared.call.Call.{Call}
use Rattle.ipam_records.specs.Datastore.{Datastore, reply_of}
use Rattle.ipam_records.specs.Said.{Can}
use Rattle.ipam_model.specs.declared.request.AddRequest.{AddRequest}
use Rattle.ipam_model.specs.AddLaw.{HasNothing}
use Rattle.ipam_model.specs.Answered.{Answered, history_of, span_of}
use Rattle.ipam_model.specs.Assigning.{Target}
use Rattle.ipam_model.specs.Consistent.{IsConsistent}
use Rattle.ipam_model.specs.Counting.{FreedOfHandle, freeing_one}
use Rattle.ipam_model.specs.History.{Lawful, RequestSpan, now, seen_at, seen_now}
use Rattle.ipam_model.specs.Moments.{GainedAt, Gains, Owns}
use Rattle.ipam_model.specs.Owners.{Owner}
use Rattle.ipam_laws.proofs.ActParts.{IsCurrent, assigning_call}
use Rattle.ipam_laws.proofs.AddLeaves.{IsCalm, IsFreed, IsFreedBehind, IsGiven, Leaves, StepLeaves, freeing_gift}
use Rattle.ipam_laws.proofs.AddTrails.{Calmly}
use Rattle.ipam_laws.proofs.CalmHistory.{calm-gains-none, calm-step}
use Rattle.ipam_laws.proofs.CountLemmas.{same_text}
use Rattle.ipam_laws.proofs.FamilyHistory.{three}
use Rattle.ipam_laws.proofs.FreeTrails.{Rid}
use Rattle.ipam_laws.proofs.Lift.{behind}
use Rattle.ipam_laws.proofs.Members.{in-nothing}
use Rattle.ipam_laws.proofs.NoReturn.{consistent-before}
use Rattle.ipam_laws.proofs.Owned.{HeldIn, held-in}
use Rattle.ipam_laws.proofs.OwnersEffects.{Rewrites, assigned-gains, in-inserted, new_owner}
use Rattle.ipam_laws.proofs.OwnersMoves.{rewrites, stamped-by_owner}
use Rattle.ipam_laws.proofs.RidHistory.{PicksOwner, rid-gone}
use Rattle.ipam_laws.proofs.Trails.{Did, DidAt, Got, IsTrail, Trail}

-- ---- an owner by its stamp

same-number : (n : ℕ) → (n == n) ≡ true
same-number n = elim (cases_Bool (n == n)) [ inl is ↦ is | inr not_it ↦ absurd (eqb-false n n not_it refl) ]

-- the allocation that was made is picked by its ordinal, its handle and its stamp
own-stamp : (ordinal : ℕ) (a : Allocation) → a.ordinal ≡ ordinal → is_stamped ordinal a.attributes.handle a.stamp a ≡ true
own-stamp ordinal a is = three_true (same-number-as a.ordinal ordinal is) (same-number a.stamp) (same_text a.attributes.handle)
  where
    same-number-as : (one other : ℕ) → one ≡ other → (one == other) ≡ true
    same-number-as one other e = subst (λ (n : ℕ). (one == n) ≡ true) e (same-number one)

    three_true : {one two three : Bool} → one ≡ true → two ≡ true → three ≡ true → (one && two && three) ≡ true
    three_true {one} {two} {three} e f g = λ i. e i && f i && g i

-- ---- what a call gave

-- the owner is held by the block that was written, and is picked by what frees it
record IsGained (next : Datastore) (request : AddRequest) (target : Target) (owner : Owner) : Type 0 where
  held : HeldIn next target.block.cidr owner
  picks : PicksOwner (freeing_one request.attributes.handle target.block.cidr target.ordinal (target.block.sequence + 1)) owner

gained-held : (old next : Datastore) (request : AddRequest) (target : Target) (revision : ℕ) → IsConsistent old → IsConsistent next → reply_of old (assigning_call request.attributes target) ≡ Can revision → IsCurrent old target.revision target.block → next ≡ behind old (assigning_call request.attributes target)
    → (owner : Owner) → Gains old next owner → IsGained next request target owner
gained-held old next request target revision c d granted current is owner gains =
    let b = target.block in
    let new = block_with_ordinal (next_block b) target.ordinal request.attributes in
    let w : Rewrites old next b new = rewrites old next b new target.revision revision c d refl granted (λ found there. current found there) is in
    let made = assigned-gains old next b target.ordinal request.attributes w in
    let a : Allocation = record { ordinal = target.ordinal; attributes = request.attributes; stamp = b.sequence + 1 } in
    let place = count_by (λ (x : Allocation). nat_lt x.ordinal target.ordinal) b.allocations in
    let same : owner ≡ new_owner b target.ordinal request.attributes = elim ((made.are owner).0 ((gains.are owner).1 (inr refl))) [
      | inl was ↦ absurd (gains.was_free owner was refl)
      | inr is_new ↦ is_new
    ] in
    subst (λ (o : Owner). IsGained next request target o) (sym same) (record {
      held = held-in next b.cidr (record { revision = w.next_revision; b = new; there = w.there_then }) a (in-inserted b.allocations place a);
      picks = λ other recorded. stamped-by_owner b.cidr target.ordinal request.attributes.handle (b.sequence + 1) a other (sym recorded) (own-stamp target.ordinal a refl);
    })

module _ (span : RequestSpan) (consistent : IsConsistent span.base.store) (lawful : Lawful span.base span.history) (request : AddRequest) (whole : Trail) (is_whole : IsTrail span (now span) whole) where
  -- what a call gained that was freed after it is gone
  freed-gone : (m : ℕ) (store : Datastore) (asked : Call) (before : Trail) → DidAt span m store asked → IsFreedBehind request whole m store asked before → (owner : Owner) → Gains (seen_at span m) (seen_at span (m + 1)) owner → ¬ (Owns (seen_now span) owner)
  freed-gone m store asked before did freed owner gains =
      let given = freed.given in
      let target = given.target in
      let call = assigning_call request.attributes target in
      let old = consistent-before span.base span.history m consistent lawful in
      let new = consistent-before span.base span.history (m + 1) consistent lawful in
      let made : seen_at span (m + 1) ≡ behind (seen_at span m) call = did.behind_it ∙ ap (behind store) given.is ∙ ap (λ (s : Datastore). behind s call) (sym did.before_it) in
      let granted : reply_of (seen_at span m) call ≡ Can given.revision = ap (λ (s : Datastore). reply_of s call) did.before_it ∙ given.granted in
      let current : IsCurrent (seen_at span m) target.revision target.block = subst (λ (s : Datastore). IsCurrent s target.revision target.block) (sym did.before_it) (λ found there. given.current found there) in
      let g = gained-held (seen_at span m) (seen_at span (m + 1)) request target given.revision old new granted (λ found there. current found there) made owner gains in
      let what = freeing_one request.attributes.handle target.block.cidr target.ordinal (target.block.sequence + 1) in
      let same : freeing_gift request freed.gift ≡ what = λ i. freeing_one request.attributes.handle (given.block i) (given.ordinal i) (given.stamp i) in
      let rid = subst (λ (w : FreedOfHandle). Rid w (Did m store asked ∷ before) freed.amount whole) same freed.rid in
      rid-gone span consistent lawful what owner g.picks (m + 1) g.held m (omega arith) whole (Did m store asked ∷ before) before freed.amount store asked refl is_whole rid

  gone : (trail : Trail) (upto : ℕ) → IsTrail span upto trail → Leaves request [] whole trail → (k : ℕ) → k < upto → (owner : Owner) → GainedAt span k owner → ¬ (Owns (seen_now span) owner)
  unfolding IsTrail Leaves Calmly
  gone [] upto is leaves k below owner gained = absurd (calm-gains-none span [] upto k owner consistent lawful is tt below gained)
  gone (Did m store asked ∷ trail) upto is leaves k below owner gained = elim (three k m) [
    | inl early ↦ gone trail m is.2 leaves.1 k early owner gained
    | inr (inl same) ↦ by leaves.0 (subst (λ (n : ℕ). Gains (seen_at span n) (seen_at span (n + 1)) owner) same gained.gains)
    | inr (inr late) ↦ absurd (is.1.nothing_between k gained.there late below gained.in_span)
  ]
    where
      by : StepLeaves request [] whole m store asked trail → Gains (seen_at span m) (seen_at span (m + 1)) owner → ¬ (Owns (seen_now span) owner)
      by (IsCalm calm) gains = absurd (calm-step span m store asked owner consistent lawful is.0 calm gains)
      by (IsFreed freed) gains = freed-gone m store asked trail is.0 freed owner gains
      by (IsGiven gift among given) gains = absurd (in-nothing gift among)
  gone (Got m at live ∷ trail) upto is leaves k below owner gained = absurd leaves

pub nothing-left : (a : Answered) (request : AddRequest) (trail : Trail) → IsConsistent a.base.store → Lawful a.base (history_of a) → IsTrail (span_of a) (now (span_of a)) trail → Leaves request [] trail trail → HasNothing a
nothing-left a request trail c h is leaves owner (moment, gained) =
    gone (span_of a) c h request trail is trail (now (span_of a)) is leaves moment gained.in_span.before_now owner gained
