-- An address that was assigned is recorded so, in the span.
use Rattle.std.proofs.Common.{◌≡◌, ℕ, ◌+◌, ◌<◌, inl, inr, Bool, true, false, cond, List, [], ◌∷◌, Some, refl, sym, ap, ◌∙◌, subst, arith, eqb-true}
use Rattle.std.specs.Prelude.{AllPairs, Contains, ◌==◌}
use Rattle.std.specs.List.{count_by, find}
use Rattle.std.proofs.lemmas.Bool.{eqb-false}
use Rattle.std.specs.Prelude.{nat_lt}
use Rattle.ipam_block.specs.declared.allocation.Allocation.{Allocation}
use Rattle.ipam_block.specs.declared.allocation.Attributes.{Attributes}
use Rattle.ipam_block.specs.Operations.{block_with_ordinal, next_block}
use Rattle.ipam_records.specs.declared.call.Call.{Call}
use Rattle.ipam_records.specs.Datastore.{Datastore, reply_of}
use Rattle.ipam_model.specs.AddLaw.{IsRecordedAt, Taking}
use Rattle.ipam_model.specs.declared.part.Assigned.{Assigned}
use Rattle.ipam_model.specs.Assigning.{Target}
use Rattle.ipam_model.specs.Cluster.{record_written}
use Rattle.ipam_model.specs.Consistent.{IsConsistent}
use Rattle.ipam_model.specs.History.{Lawful, RequestSpan, seen_at}
use Rattle.ipam_model.specs.Named.{told_of}
use Rattle.ipam_laws.proofs.ActParts.{IsCurrent, assigning_call}
use Rattle.ipam_laws.proofs.Acts.{Later, Same, Since}
use Rattle.ipam_laws.proofs.AddParts.{AssignsLast}
use Rattle.ipam_laws.proofs.AddTrails.{More, Quietly, Same as Still}
use Rattle.ipam_laws.proofs.Lift.{behind}
use Rattle.ipam_laws.proofs.Members.{in-cons, in-nothing}
use Rattle.ipam_laws.proofs.NoReturn.{consistent-before}
use Rattle.ipam_laws.proofs.Owned.{block-sound}
use Rattle.ipam_laws.proofs.OwnersEffects.{Rewrites, assigned-gains, in-inserted}
use Rattle.ipam_laws.proofs.OwnersMoves.{rewrites}
use Rattle.ipam_laws.proofs.OwnersOrder.{pairs-head, pairs-tail}
use Rattle.ipam_laws.proofs.Trails.{Did, Got, IsTrail, Trail}

-- ---- the holder of an ordinal

find-holder : (list : List Allocation) → AllPairs (λ (x y : Allocation). x.ordinal < y.ordinal) list → (a : Allocation) → Contains list a → find (λ (x : Allocation). x.ordinal == a.ordinal) list ≡ Some a
find-holder [] pairs a there = absurd (in-nothing a there)
find-holder (x ∷ list) pairs a there = elim (in-cons a x list there) [
  | inl is ↦ ap (λ (b : Bool). cond b (Some x) (find (λ (y : Allocation). y.ordinal == a.ordinal) list)) (self (x.ordinal == a.ordinal) refl (ap (λ (y : Allocation). y.ordinal) is)) ∙ ap Some is
  | inr rest ↦
      let before_it = pairs-head (λ (u v : Allocation). u.ordinal < v.ordinal) x list pairs a rest in
      ap (λ (b : Bool). cond b (Some x) (find (λ (y : Allocation). y.ordinal == a.ordinal) list)) (other (x.ordinal == a.ordinal) refl before_it)
      ∙ find-holder list (pairs-tail (λ (u v : Allocation). u.ordinal < v.ordinal) x list pairs) a rest
]
  where
    self : (b : Bool) → (x.ordinal == a.ordinal) ≡ b → x.ordinal ≡ a.ordinal → (x.ordinal == a.ordinal) ≡ true
    self true e same = e
    self false e same = absurd (eqb-false x.ordinal a.ordinal e same)

    other : (b : Bool) → (x.ordinal == a.ordinal) ≡ b → x.ordinal < a.ordinal → (x.ordinal == a.ordinal) ≡ false
    other true e less = let same = eqb-true x.ordinal a.ordinal e in absurd (omega (arith, same))
    other false e less = e

-- ---- in the span

-- what an assignment is of
abbrev pub taking_of : Attributes → Target → Taking
taking_of attributes target = record { attributes = attributes; read = (target.revision, target.block); ordinal = target.ordinal }

pub recorded : (span : RequestSpan) (attributes : Attributes) (target : Target) (done : Assigned) (origin trail : Trail) (upto : ℕ) → IsConsistent span.base.store → Lawful span.base span.history → IsTrail span upto trail → AssignsLast origin attributes target done trail
    → IsRecordedAt span done.moment (taking_of attributes target)
unfolding IsTrail
recorded span attributes target done origin trail upto c h is last =
    let asked = assigning_call attributes target in
    let did = (subst (λ (t : Trail). IsTrail span upto t) last.is is).0 in
    let old = consistent-before span.base span.history done.moment c h in
    let new = consistent-before span.base span.history (done.moment + 1) c h in
    let new_block = block_with_ordinal (next_block target.block) target.ordinal attributes in
    let moved = subst (λ (s : Datastore). (reply_of s asked ≡ reply_of last.store asked) × IsCurrent s target.revision target.block × (behind s asked ≡ behind last.store asked)) (sym did.before_it) (refl, (λ found there. last.current found there), refl) in
    let rewrite : Rewrites (seen_at span done.moment) (seen_at span (done.moment + 1)) target.block new_block =
    rewrites (seen_at span done.moment) (seen_at span (done.moment + 1)) target.block new_block target.revision last.revision old new refl (moved.0 ∙ last.granted) moved.1 (did.behind_it ∙ sym moved.2) in
    let a : Allocation = record { ordinal = target.ordinal; attributes = attributes; stamp = target.block.sequence + 1 } in
    let sound = block-sound (seen_at span (done.moment + 1)) target.block.cidr (record { revision = rewrite.next_revision; b = new_block; there = rewrite.there_then }) new.sound in
    let place = count_by (λ (x : Allocation). nat_lt x.ordinal target.ordinal) target.block.allocations in
    record {
      call = did.c;
      in_span = did.in_span;
      revision = last.revision;
      is_update = did.is_call;
      is_done = did.is_reply ∙ ap told_of last.granted;
      written = new_block;
      is_written = did.is_written ∙ ap (record_written asked) last.granted;
      allocation = a;
      is_held = find-holder new_block.allocations sound.ascending a (in-inserted target.block.allocations place a);
      with_attributes = refl;
      with_stamp = refl;
      gains = assigned-gains (seen_at span done.moment) (seen_at span (done.moment + 1)) target.block target.ordinal attributes rewrite;
    }

-- a step lies before what came since
pub since-before : (span : RequestSpan) (moment : ℕ) (store : Datastore) (asked : Call) (before trail : Trail) (upto : ℕ) → Since (Did moment store asked ∷ before) trail → IsTrail span upto trail → moment < upto
unfolding IsTrail
since-before span moment store asked before trail upto Same is = is.1.behind
since-before span moment store asked before trail upto (Later (Did later other call) rest since) is = let k = since-before span moment store asked before rest later since is.2 in let l = is.1.behind in omega arith
since-before span moment store asked before trail upto (Later (Got later at live) rest since) is = let k = since-before span moment store asked before rest later since is.2 in let l = is.1.behind in omega arith

pub quietly-since : (origin trail : Trail) → Quietly origin trail → Since origin trail
quietly-since origin trail Still = Same
quietly-since origin trail (More moment store asked longer quiet before) = Later (Did moment store asked) longer (quietly-since origin longer before)

-- what was assigned was assigned after what is earlier
pub assigned-later : (span : RequestSpan) (attributes : Attributes) (target : Target) (done : Assigned) (moment : ℕ) (store : Datastore) (asked : Call) (before origin trail : Trail) (upto : ℕ) → IsTrail span upto trail → origin ≡ Did moment store asked ∷ before → AssignsLast origin attributes target done trail → moment < done.moment
unfolding IsTrail
assigned-later span attributes target done moment store asked before origin trail upto is head last =
    let there = subst (λ (t : Trail). IsTrail span upto t) last.is is in
    let since = subst (λ (t : Trail). Since t last.between) head (quietly-since origin last.between last.quiet) in
    since-before span moment store asked before last.between done.moment since there.2
