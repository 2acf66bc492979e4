-- A request whose calls are all calm gained no owner.
use Rattle.std.proofs.Common.{◌≡◌, ◌≢◌, ℕ, zero, suc, ◌+◌, ◌-◌, ◌<◌, inl, inr, List, [], ◌∷◌, drop, Some, refl, sym, ap, ◌∙◌, subst, arith}
use Rattle.std.specs.Prelude.{Contains}
use Rattle.ipam_addr.specs.Shape.{CidrValue}
use Rattle.ipam_block.specs.declared.allocation.Allocation.{Allocation}
use Rattle.ipam_block.specs.Shape.{BlockValue}
use Rattle.ipam_records.specs.declared.call.Call.{Call}
use Rattle.ipam_records.specs.declared.call.Call.TheVariants.{Get, List as ListAll, Create, Update, Delete}
use Rattle.ipam_records.specs.declared.key.Key.{Key}
use Rattle.ipam_records.specs.declared.key.Key.TheVariants as key
use Rattle.ipam_records.specs.declared.record.Record.TheVariants as record_of
use Rattle.ipam_records.specs.declared.call.Write.TheVariants.{Put}
use Rattle.ipam_records.specs.Datastore.{Datastore, reply_of, row_of, write_granted, written}
use Rattle.ipam_records.specs.Key.{key_of}
use Rattle.ipam_records.specs.Said.{Said, Can}
use Rattle.ipam_records.proofs.DatastoreLemmas.{row_of-with_row, row_of-with_row-other}
use Rattle.ipam_model.specs.declared.entry.Entry.{Entry}
use Rattle.ipam_model.specs.declared.entry.Entry.TheVariants as entry
use Rattle.ipam_model.specs.declared.request.Request.{Request}
use Rattle.ipam_model.specs.AffinityLaw.{HasAt}
use Rattle.ipam_model.specs.Cluster.{after, store_with}
use Rattle.ipam_model.specs.Consistent.{IsConsistent}
use Rattle.ipam_model.specs.Credits.{call_key_written}
use Rattle.ipam_model.specs.History.{Base, Lawful, RequestSpan, begin_moment, cluster_at, entry_at, newest_of, moment_of, now, seen_at, store_at}
use Rattle.ipam_model.specs.Moments.{GainedAt, Gains, Owns}
use Rattle.ipam_model.specs.Named.{name_of}
use Rattle.ipam_model.specs.Owners.{Owner}
use Rattle.ipam_laws.proofs.ActParts.{IsApart}
use Rattle.ipam_laws.proofs.AddTrails.{Begins, Calm, Calmly, Keeps, NoBlock, Undone}
use Rattle.ipam_laws.proofs.BlockHistory.{same-block}
use Rattle.ipam_laws.proofs.BlockSteps.{IsNoBlock}
use Rattle.ipam_laws.proofs.FamilyHistory.{three}
use Rattle.ipam_laws.proofs.Lift.{behind}
use Rattle.ipam_laws.proofs.Members.{in-nothing}
use Rattle.ipam_laws.proofs.NoReturn.{consistent-before}
use Rattle.ipam_laws.proofs.OneRecord.{key_cases}
use Rattle.ipam_laws.proofs.Owned.{held-owns, owns-held}
use Rattle.ipam_laws.proofs.OwnersEffects.{moves, owns-by, owns-cases}
use Rattle.ipam_laws.proofs.OwnersMoves.{Given, NotGiven, apart-leaves, granted-cases, rewrites}
use Rattle.ipam_laws.proofs.Trails.{Did, DidAt, Got, IsTrail, Trail}

-- ---- a calm call

no-block-key : (k : Key) → ((cidr : CidrValue) → Some k ≢ Some (key.Block cidr)) → IsNoBlock k
no-block-key key.Config h = tt
no-block-key key.Pools h = tt
no-block-key key.Reservations h = tt
no-block-key (key.Block cidr) h = absurd (h cidr refl)
no-block-key (key.Affinity node cidr) h = tt
no-block-key (key.Handle id) h = tt

pub is-apart : (asked : Call) → ((cidr : CidrValue) → call_key_written (name_of asked) ≢ Some (key.Block cidr)) → IsApart asked
is-apart (Get k) h = tt
is-apart (ListAll kind) h = tt
is-apart (Create new) h = no-block-key (key_of new) h
is-apart (Update new old) h = no-block-key (key_of new) h
is-apart (Delete k old) h = no-block-key k h

-- who owns after a calm call owned before
calm-owns : (store next : Datastore) (asked : Call) → IsConsistent store → IsConsistent next → next ≡ behind store asked → Calm store asked → (o : Owner) → Owns next o → Owns store o
calm-owns store next asked c d is calm o owns = elim (granted-cases store asked) [
  | NotGiven stays ↦ subst (λ (s : Datastore). Owns s o) (is ∙ stays) owns
  | Given revision done ↦ by revision done calm
]
  where
    by : (revision : ℕ) → reply_of store asked ≡ Can revision → Calm store asked → Owns store o
    by revision done (NoBlock apart) =
        let (cidr, held) = owns-held next o d.sound owns in
        let left = ap (λ (s : Datastore). row_of (key.Block cidr) s.rows) is ∙ apart-leaves store asked cidr (is-apart asked apart) in
        held-owns store cidr o (moves next store cidr o (sym left) held)
    by revision done (Undone not) = absurd (not revision done)
    by revision done (Keeps b new old call current same among) =
        let given : reply_of store (Update (record_of.Block new) old) ≡ Can revision = ap (reply_of store) (sym call) ∙ done in
        let made : next ≡ behind store (Update (record_of.Block new) old) = is ∙ ap (behind store) call in
        let w = rewrites store next b new old revision c d same given (λ found there. current found there) made in
        elim (owns-cases next new b.cidr w.next_revision d w.there_then o owns) [
          | inl (a, there, own) ↦ owns-by store b b.cidr w.revision w.there o (a, among a there, own)
          | inr (other, differ, held) ↦ held-owns store other o (moves next store other o (sym (w.elsewhere other differ)) held)
        ]
    by revision done (Begins new call none) =
        let put : next ≡ written store (Put revision (record_of.Block new)) =
        is ∙ ap (behind store) call ∙ ap (λ (said : Said). store_with (write_granted (Create (record_of.Block new)) said) store) (ap (reply_of store) (sym call) ∙ done) in
        let (cidr, held) = owns-held next o d.sound owns in
        elim (key_cases (key.Block new.cidr) (key.Block cidr)) [
          | inl same ↦
              let is_cidr : new.cidr ≡ cidr = cc same in
              let row : HasAt next (key.Block new.cidr) revision (record_of.Block new) = ap (λ (s : Datastore). row_of (key.Block new.cidr) s.rows) put ∙ row_of-with_row (revision, record_of.Block new) store.rows in
              let there : HasAt next (key.Block cidr) revision (record_of.Block new) = subst (λ (x : CidrValue). HasAt next (key.Block x) revision (record_of.Block new)) is_cidr row in
              let whole : held.holding.b ≡ new = same-block next (key.Block cidr) held.holding.revision revision held.holding.b new held.holding.there there in
              let among : Contains new.allocations held.a = subst (λ (x : BlockValue). Contains x.allocations held.a) whole held.among in
              absurd (in-nothing held.a (subst (λ (l : List Allocation). Contains l held.a) none among))
          | inr differ ↦
              let left = ap (λ (s : Datastore). row_of (key.Block cidr) s.rows) put ∙ row_of-with_row-other (key.Block cidr) (revision, record_of.Block new) store.rows differ in
              held-owns store cidr o (moves next store cidr o (sym left) held)
        ]

-- so it gains nobody
pub not-gained : (old new : Datastore) (owner : Owner) → (Owns new owner → Owns old owner) → ¬ (Gains old new owner)
not-gained old new owner back gains = gains.was_free owner (back ((gains.are owner).1 (inr refl))) refl

-- ---- the entry with which a span begins

drop-next : (many : ℕ) (list : List Entry) (first : Entry) → newest_of (drop many list) ≡ Some first → drop many list ≡ first ∷ drop (suc many) list
drop-next many [] first e = by many e
  where
    by : (n : ℕ) → newest_of (drop n []) ≡ Some first → drop n [] ≡ first ∷ drop (suc n) []
    by zero f = absurd (cc f)
    by (suc n) f = absurd (cc f)
drop-next zero (one ∷ list) first e = let same : one ≡ first = cc e in ap (λ (x : Entry). x ∷ list) same
drop-next (suc many) (one ∷ list) first e = drop-next many list first e

-- an entry that is no call leaves the store
pub quiet-entry : (span : RequestSpan) (k : ℕ) (there : Entry) → k < now span → entry_at span.base span.history k ≡ Some there → ((h : List Entry) → store_at span.base (there ∷ h) ≡ store_at span.base h) → seen_at span (k + 1) ≡ seen_at span k
quiet-entry span k there early is leaves =
    let many = moment_of span.base span.history - (k + 1) in
    let split = drop-next many span.history there is in
    let one : suc many ≡ moment_of span.base span.history - k = omega arith in
    ap (λ (h : List Entry). store_at span.base h) split ∙ leaves (drop (suc many) span.history) ∙ ap (λ (n : ℕ). store_at span.base (drop n span.history)) one

pub began-leaves : (base : Base) (slot : ℕ) (request : Request) (h : List Entry) → store_at base (entry.Began slot request ∷ h) ≡ store_at base h
unfolding cluster_at after
began-leaves base slot request h = refl

-- ---- the span

pub calm-step : (span : RequestSpan) (m : ℕ) (store : Datastore) (asked : Call) (owner : Owner) → IsConsistent span.base.store → Lawful span.base span.history → DidAt span m store asked → Calm store asked → ¬ (Gains (seen_at span m) (seen_at span (m + 1)) owner)
calm-step span m store asked owner c h did calm =
    let old = consistent-before span.base span.history m c h in
    let new = consistent-before span.base span.history (m + 1) c h in
    let old_there = subst (λ (s : Datastore). IsConsistent s) did.before_it old in
    not-gained (seen_at span m) (seen_at span (m + 1)) owner
    (λ owns. subst (λ (s : Datastore). Owns s owner) (sym did.before_it) (calm-owns store (seen_at span (m + 1)) asked old_there new did.behind_it calm owner owns))

-- what a step before the moment gained, by the steps
pub calm-gains-none : (span : RequestSpan) (trail : Trail) (upto k : ℕ) (owner : Owner) → IsConsistent span.base.store → Lawful span.base span.history → IsTrail span upto trail → Calmly trail → k < upto → ¬ (GainedAt span k owner)
unfolding IsTrail Calmly
calm-gains-none span [] upto k owner c h is calm below gained = elim (three k (begin_moment span)) [
  | inl early ↦ let since = gained.in_span.since in absurd (omega arith)
  | inr (inl same) ↦
      let begun = is.0 in
      let stays = quiet-entry span (begin_moment span) (entry.Began span.slot begun.request) begun.in_span.before_now begun.in_span.is_there (λ rest. began-leaves span.base span.slot begun.request rest) in
      let gains = subst (λ (m : ℕ). Gains (seen_at span m) (seen_at span (m + 1)) owner) same gained.gains in
      not-gained (seen_at span (begin_moment span)) (seen_at span (begin_moment span + 1)) owner (λ owns. subst (λ (s : Datastore). Owns s owner) stays owns) gains
  | inr (inr late) ↦ is.1.nothing_between k gained.there late below gained.in_span
]
calm-gains-none span (Did m store asked ∷ trail) upto k owner c h is calm below gained = elim (three k m) [
  | inl early ↦ calm-gains-none span trail m k owner c h is.2 calm.1 early gained
  | inr (inl same) ↦ calm-step span m store asked owner c h is.0 calm.0 (subst (λ (n : ℕ). Gains (seen_at span n) (seen_at span (n + 1)) owner) same gained.gains)
  | inr (inr late) ↦ is.1.nothing_between k gained.there late below gained.in_span
]
calm-gains-none span (Got m at live ∷ trail) upto k owner c h is calm below gained = absurd calm
