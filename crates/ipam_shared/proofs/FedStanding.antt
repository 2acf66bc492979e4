-- What each call of a kept cluster leaves its feed following, and what the feed answers.
use Rattle.std.proofs.Common.{◌≡◌, ◌↔◌, ℕ, ◌+◌, ◌<◌, List, ◌∷◌, Option, Some, None, Result, Ok, Err, refl, sym, ap, ◌∙◌, subst}
use Rattle.std.specs.Prelude.{IfOk, IfSome}
use Rattle.std.specs.Option.{ForSome}
use Rattle.ipam_records.specs.declared.call.Write.{Write}
use Rattle.ipam_records.specs.Datastore.{Datastore}
use Rattle.ipam_store.specs.declared.route.Route.{Route}
use Rattle.ipam_store.specs.declared.change.Change.{Change}
use Rattle.ipam_store.specs.declared.feed_fault.SinceFault.{SinceFault}
use Rattle.ipam_store.specs.Route.{routes_in}
use Rattle.ipam_store.specs.Change.{Leads}
use Rattle.ipam_store.specs.Feed.{changes_since, routes_at, write_revision}
use Rattle.ipam_store.specs.Feed as feed
use Rattle.ipam_store.specs.Follows.{Follows}
use Rattle.ipam_store.specs.FeedShape.{RingValue}
use Rattle.ipam_model.specs.declared.entry.Entry.{Entry}
use Rattle.ipam_model.specs.declared.entry.Entry.TheVariants as entry
use Rattle.ipam_model.specs.declared.entry.Fate.TheVariants.{Well, Before}
use Rattle.ipam_model.specs.declared.request.Request.{Request}
use Rattle.ipam_model.specs.Cluster.{write_told}
use Rattle.ipam_model.specs.History.{Base, Lawful, store_at}
use Rattle.ipam_cluster.specs.declared.turns.Prepared.{Prepared}
use Rattle.ipam_cluster.specs.Cluster.{slot_of_cluster}
use Rattle.ipam_cluster.specs.Preparing.{IsPrepared, write_next}
use Rattle.ipam_cluster.specs.Turns.{IsTurn}
use Rattle.ipam_shared.specs.declared.kept.Kept.{Kept}
use Rattle.ipam_shared.specs.Feed.{AreChanges, AreRoutes, FedFor, FedWith, IsAhead, IsCompacted, StaysFed, routes_then, with_write, writes_in}
use Rattle.ipam_shared.specs.Kept.{IsKept, KeepsWith, Stays, Tells}
use Rattle.ipam_shared.proofs.Fed.{next-revision, store-of, writes-done, writes-failed}

-- ---- what begins, is fed and is stopped

module _ {D : Type 0} (tells : Tells D) (old new : Kept D) (ring : new.ring ≡ old.ring) where
  -- an entry that writes nothing
  fed-left : (told : Entry) → ((history : List Entry) → writes_in (told ∷ history) ≡ writes_in history) → KeepsWith tells old new told → FedWith tells old new told
  fed-left told none keeps base history h = record {
    kept_for = keeps base history h.kept_for;
    follows = subst (λ (l : List Write). Follows new.ring base.store l) (sym (none history)) (subst (λ (r : RingValue). Follows r base.store (writes_in history)) (sym ring) h.follows);
  }

  pub begin-feeds : {E : Type 0} (result : Result Entry E) (slot : ℕ) (request : Request) → IfOk result (λ began. began ≡ entry.Began slot request) → IfOk result (KeepsWith tells old new) → IfOk result (FedWith tells old new)
  begin-feeds (Ok told) slot request is keeps = fed-left told (λ history. subst (λ (e : Entry). writes_in (e ∷ history) ≡ writes_in history) (sym is) refl) keeps
  begin-feeds (Err e) slot request is keeps = tt

  pub feed-feeds : {E : Type 0} (result : Result Entry E) (slot at : ℕ) (live : List (List ℕ)) → IfOk result (λ fed. fed ≡ entry.Fed slot at live) → IfOk result (KeepsWith tells old new) → IfOk result (FedWith tells old new)
  feed-feeds (Ok told) slot at live is keeps = fed-left told (λ history. subst (λ (e : Entry). writes_in (e ∷ history) ≡ writes_in history) (sym is) refl) keeps
  feed-feeds (Err e) slot at live is keeps = tt

  pub stop-feeds : (result : Option Entry) (slot : ℕ) → IfSome result (λ stopped. stopped ≡ entry.Stopped slot) → IfSome result (KeepsWith tells old new) → IfSome result (FedWith tells old new)
  stop-feeds (Some told) slot is keeps = fed-left told (λ history. subst (λ (e : Entry). writes_in (e ∷ history) ≡ writes_in history) (sym is) refl) keeps
  stop-feeds None slot is keeps = tt

-- ---- what stays

pub stays-fed : {D : Type 0} (tells : Tells D) (old new : Kept D) → Stays tells old new → ((base : Datastore) (writes : List Write) → Follows old.ring base writes → Follows new.ring base writes) → StaysFed tells old new
stays-fed tells old new stay follows base history h = record { kept_for = stay.kept base history h.kept_for; follows = follows base.store (writes_in history) h.follows }

-- ---- what comes of a call

-- the feed is made ready for the revision that the write takes
pub ready-next : {D : Type 0} (tells : Tells D) (old : Kept D) (prepared : Prepared) → IsKept tells old → IsPrepared old.cluster prepared → (w : Option Write) → w ≡ prepared.write → ForSome w (λ one. write_revision one ≡ old.ring.counter + 1)
ready-next tells old prepared (base, (history, h)) is w same done e =
    next-revision old.cluster.store.store (slot_of_cluster old.cluster prepared.slot) done (sym is.write ∙ (sym same ∙ e)) ∙ ap (λ (n : ℕ). n + 1) (sym h.counter)

module _ {D : Type 0} (tells : Tells D) (old new : Kept D) (prepared : Prepared) (is : IsPrepared old.cluster prepared) (told : Entry) (keeps : KeepsWith tells old new told) where
  -- one that was done
  pub feeds-done : IsTurn prepared.slot Well told → ((base : Datastore) (writes : List Write) → Follows old.ring base writes → Follows new.ring base (with_write prepared.write writes)) → FedWith tells old new told
  feeds-done turn follows base history h =
      let behind = keeps base history h.kept_for in
      let lawful : Lawful base (entry.Called turn.told ∷ history) = subst (λ (e : Entry). Lawful base (e ∷ history)) turn.is_called behind.cluster.stands.lawful in
      let same : write_told turn.told.call turn.told.reply turn.told.written ≡ prepared.write = writes-done old.cluster base history turn.told h.kept_for.cluster lawful turn.has_fate
      ∙ (ap (λ (s : ℕ). write_next (slot_of_cluster old.cluster s) old.cluster.store.store) turn.own ∙ sym is.write) in
      record {
        kept_for = behind;
        follows = subst (λ (e : Entry). Follows new.ring base.store (writes_in (e ∷ history))) (sym turn.is_called)
            (subst (λ (w : Option Write). Follows new.ring base.store (with_write w (writes_in history))) (sym same) (follows base.store (writes_in history) h.follows));
      }

  -- one that failed
  pub feeds-failed : IsTurn prepared.slot Before told → ((base : Datastore) (writes : List Write) → Follows old.ring base writes → Follows new.ring base writes) → FedWith tells old new told
  feeds-failed turn follows base history h =
      let behind = keeps base history h.kept_for in
      let lawful : Lawful base (entry.Called turn.told ∷ history) = subst (λ (e : Entry). Lawful base (e ∷ history)) turn.is_called behind.cluster.stands.lawful in
      let none : write_told turn.told.call turn.told.reply turn.told.written ≡ None = writes-failed base history turn.told lawful turn.has_fate in
      record {
        kept_for = behind;
        follows = subst (λ (e : Entry). Follows new.ring base.store (writes_in (e ∷ history))) (sym turn.is_called)
            (subst (λ (w : Option Write). Follows new.ring base.store (with_write w (writes_in history))) (sym none) (follows base.store (writes_in history) h.follows));
      }

-- ---- what it answers

module _ {D : Type 0} (tells : Tells D) (kept : Kept D) (counter : ℕ) (counts : counter ≡ kept.cluster.store.store.counter) where
  counted : (base : Base) (history : List Entry) → FedFor tells kept base history → counter ≡ (store_at base history).counter
  counted base history h = counts ∙ ap (λ (s : Datastore). s.counter) h.kept_for.cluster.is_cluster.store

  pub routes-told : (routes : List Route) → ((base : Datastore) (writes : List Write) → Follows kept.ring base writes → routes ≡ routes_in (feed.store_after_writes base writes))
      → (base : Base) (history : List Entry) → FedFor tells kept base history → AreRoutes base history counter routes
  routes-told routes exact base history h = record {
    is_counter = counted base history h;
    are_routes = exact base.store (writes_in history) h.follows ∙ ap routes_in (sym (store-of base history));
  }

  pub changes-told : (revision : ℕ) (changes : List Change) → ((base : Datastore) (writes : List Write) → Follows kept.ring base writes → changes ≡ changes_since base writes revision)
      → ((base : Datastore) (writes : List Write) → Follows kept.ring base writes → Leads (routes_at base writes revision) changes (routes_in (feed.store_after_writes base writes)))
      → (base : Base) (history : List Entry) → FedFor tells kept base history → AreChanges base history revision counter changes
  changes-told revision changes exact lead base history h = record {
    is_counter = counted base history h;
    exact = exact base.store (writes_in history) h.follows;
    lead = subst (λ (s : Datastore). Leads (routes_then base history revision) changes (routes_in s)) (sym (store-of base history)) (lead base.store (writes_in history) h.follows);
  }

module _ {D : Type 0} (tells : Tells D) (kept : Kept D) (P : Type 0) (revision : ℕ) where
  pub compacted-told : (floor : ℕ) → (P ↔ ((revision < kept.ring.floor) × (floor ≡ kept.ring.floor))) → (base : Base) (history : List Entry) → FedFor tells kept base history → P ↔ IsCompacted base history revision floor
  compacted-told floor exact base history h = subst (λ (n : ℕ). P ↔ ((revision < n) × (floor ≡ n))) h.follows.floor exact

  pub ahead-told : (counter : ℕ) → (P ↔ ((kept.ring.counter < revision) × (counter ≡ kept.ring.counter))) → (base : Base) (history : List Entry) → FedFor tells kept base history → P ↔ IsAhead base history revision counter
  ahead-told counter exact base history h =
      subst (λ (n : ℕ). P ↔ ((n < revision) × (counter ≡ n))) (h.follows.counter ∙ ap (λ (s : Datastore). s.counter) (sym (store-of base history))) exact

-- the fault is the feed's own, whatever it answers else
module _ {A B : Type 0} (fault : SinceFault) {P : Type 0} where
  pub told-no_fault : (found : A) (told : B) → (◌≡◌ {A = Result A SinceFault} (Ok found) (Err fault)) ↔ P → (◌≡◌ {A = Result B SinceFault} (Ok told) (Err fault)) ↔ P
  told-no_fault found told e = ((λ k. absurd (cc k)), λ p. absurd (let k = e.1 p in cc k))

  pub told-fault : (other : SinceFault) → (◌≡◌ {A = Result A SinceFault} (Err other) (Err fault)) ↔ P → (◌≡◌ {A = Result B SinceFault} (Err other) (Err fault)) ↔ P
  told-fault other e = ((λ k. e.0 (ap (λ (f : SinceFault). Err f) (let same : other ≡ fault = cc k in same))), λ p. ap (λ (f : SinceFault). Err f) (let same : other ≡ fault = cc (e.1 p) in same))
