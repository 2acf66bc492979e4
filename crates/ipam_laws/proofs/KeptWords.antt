-- What holds of each request's word, and of what is left of it, holds in each slot of a history.
use Rattle.std.proofs.Common.{◌≡◌, ◌≢◌, ℕ, Bool, true, false, cond, List, [], ◌∷◌, Option, Some, None, refl, sym, subst, eqb-true}
use Rattle.std.proofs.lemmas.Bool.{eqb-false}
use Rattle.std.specs.Prelude.{◌==◌}
use Rattle.ipam_records.specs.Datastore.{Datastore}
use Rattle.ipam_records.specs.Word.{Word, after_feed}
use Rattle.ipam_model.specs.declared.answer.Answer.{Answer}
use Rattle.ipam_model.specs.declared.entry.Entry.{Entry}
use Rattle.ipam_model.specs.declared.entry.Entry.TheVariants as entry
use Rattle.ipam_model.specs.declared.request.Request.{Request}
use Rattle.ipam_model.specs.Cluster.{RunningRequest, Slots, after, word_after_reply, fresh_run, run_after_feed, goes_on, with_slot}
use Rattle.ipam_model.specs.History.{Base, cluster_at}
use Rattle.ipam_model.specs.Requests.{word_of}

-- ---- a slot that changes, and the others

-- the slot that is given something
pub own-slot : (slot : ℕ) (running : Option RunningRequest) (slots : Slots) → with_slot slot running slots slot ≡ running
own-slot slot running slots = from (slot == slot) refl
  where
    from : (b : Bool) → (slot == slot) ≡ b → cond b running (slots slot) ≡ running
    from true e = refl
    from false e = absurd (eqb-false slot slot e refl)

-- another slot
pub other-slot : (changed slot : ℕ) (running : Option RunningRequest) (slots : Slots) → changed ≢ slot → with_slot changed running slots slot ≡ slots slot
other-slot changed slot running slots differ = from (slot == changed) refl
  where
    from : (b : Bool) → (slot == changed) ≡ b → cond b running (slots slot) ≡ slots slot
    from true e = absurd (differ (sym (eqb-true slot changed e)))
    from false e = refl

-- what holds of what the slot is given, and of the slot as it was, holds of the slot
pub slot-is : (P : Option RunningRequest → Type 0) (changed slot : ℕ) (running : Option RunningRequest) (slots : Slots) → (slot ≡ changed → P running) → (slot ≢ changed → P (slots slot)) → P (with_slot changed running slots slot)
slot-is P changed slot running slots own other = from (slot == changed) refl
  where
    from : (b : Bool) → (slot == changed) ≡ b → P (cond b running (slots slot))
    from true e = own (eqb-true slot changed e)
    from false e = other (eqb-false slot changed e)

-- ---- what is kept

pub record IsKept (P : Word Answer → Type 0) : Type 0 where
  pub begins : (request : Request) → P (word_of request)
  pub hears : (store : Datastore) (moment : ℕ) (word : Word Answer) → P word → P (word_after_reply store moment word)
  pub is_fed : (live : List (List ℕ)) (word : Word Answer) → P word → P (after_feed word live)

abbrev OfSlot : (Word Answer → Type 0) → Option RunningRequest → Type 0
OfSlot P None = Unit {0}
OfSlot P (Some running) = P running.word

fed-slot : (P : Word Answer → Type 0) → IsKept P → (live : List (List ℕ)) (o : Option RunningRequest) → OfSlot P o → OfSlot P (run_after_feed live o)
fed-slot P kept live None h = tt
fed-slot P kept live (Some running) h = kept.is_fed live running.word h

goes-slot : (P : Word Answer → Type 0) → IsKept P → (store : Datastore) (moment : ℕ) (answer : Option Answer) (o : Option RunningRequest) → OfSlot P o → OfSlot P (goes_on store moment answer o)
goes-slot P kept store moment (Some answer) o h = tt
goes-slot P kept store moment None None h = tt
goes-slot P kept store moment None (Some running) h = kept.hears store moment running.word h

slots-kept : (P : Word Answer → Type 0) → IsKept P → (base : Base) (history : List Entry) (slot : ℕ) → OfSlot P ((cluster_at base history).slots slot)
unfolding cluster_at after
slots-kept P kept base [] slot = tt
slots-kept P kept base (entry.Began other request ∷ history) slot =
    slot-is (OfSlot P) other slot (fresh_run request) (cluster_at base history).slots
    (λ own. kept.begins request) (λ differ. slots-kept P kept base history slot)
slots-kept P kept base (entry.Fed other at live ∷ history) slot =
    slot-is (OfSlot P) other slot (run_after_feed live ((cluster_at base history).slots other)) (cluster_at base history).slots
    (λ own. fed-slot P kept live ((cluster_at base history).slots other) (slots-kept P kept base history other))
    (λ differ. slots-kept P kept base history slot)
slots-kept P kept base (entry.Stopped other ∷ history) slot =
    slot-is (OfSlot P) other slot None (cluster_at base history).slots
    (λ own. tt) (λ differ. slots-kept P kept base history slot)
slots-kept P kept base (entry.Called c ∷ history) slot =
    let store = (cluster_at base history).store in
    let moment = (cluster_at base history).entries in
    slot-is (OfSlot P) c.slot slot (goes_on store moment c.answer ((cluster_at base history).slots c.slot)) (cluster_at base history).slots
    (λ own. goes-slot P kept store moment c.answer ((cluster_at base history).slots c.slot) (slots-kept P kept base history c.slot))
    (λ differ. slots-kept P kept base history slot)

-- what runs in a slot keeps it
pub word-kept : (P : Word Answer → Type 0) → IsKept P → (base : Base) (history : List Entry) (slot : ℕ) (running : RunningRequest) → (cluster_at base history).slots slot ≡ Some running → P running.word
word-kept P kept base history slot running e = subst (λ (o : Option RunningRequest). OfSlot P o) e (slots-kept P kept base history slot)
