-- Reads and writes of a word that is to meet a law.
use Rattle.std.proofs.Common.{◌≡◌, ℕ, ◌+◌, inl, inr, Bool, true, false, cond, List, Option, Some, None, refl, sym, ap, ◌∙◌, subst, eqb-true}
use Rattle.std.specs.Prelude.{◌==◌}
use Rattle.ipam_addr.specs.Shape.{CidrValue}
use Rattle.ipam_block.specs.Shape as block
use Rattle.ipam_block.specs.HandleShape as handle
use Rattle.ipam_records.specs.declared.key.Key.{Key}
use Rattle.ipam_records.specs.declared.key.Key.TheVariants as key
use Rattle.ipam_records.specs.declared.key.Kind.{Kind}
use Rattle.ipam_records.specs.declared.record.Record.{Record}
use Rattle.ipam_records.specs.declared.record.Record.TheVariants as record_of
use Rattle.ipam_records.specs.declared.call.Call.{Call}
use Rattle.ipam_records.specs.declared.call.Call.TheVariants as call
use Rattle.ipam_records.specs.Datastore.{Datastore, reply_of, reply_to_get, reply_to_create, reply_to_change, granted, row_of, write_granted, write_of, written}
use Rattle.ipam_records.specs.declared.call.Write.{Write}
use Rattle.ipam_records.specs.declared.call.Write.TheVariants.{Put, Remove}
use Rattle.ipam_records.specs.Key.{key_of}
use Rattle.ipam_records.specs.Label.{CallLabel}
use Rattle.ipam_records.specs.Said.{Said, Found, Missing, Listed, Can, Exists, Conflict, Full, Spent}
use Rattle.ipam_records.specs.Word.{Word, Asks}
use Rattle.ipam_records.proofs.DatastoreLemmas.{row_key-row_of, row_of-with_row}
use Rattle.ipam_model.specs.AffinityLaw.{HasAt}
use Rattle.ipam_model.specs.Cluster.{store_with}
use Rattle.ipam_model.specs.Step.{after_write}
use Rattle.ipam_laws.proofs.StoreSteps.{can-next}
use Rattle.ipam_laws.proofs.Lift.{Known, more, Grows, Agrees, behind, label_to, Meets, Meets-grows}

-- ---- what is found has its key

pub found-key : (store : Datastore) (k : Key) (revision : ℕ) (found : Record) → HasAt store k revision found → key_of found ≡ k
found-key store k revision found e = row_key-row_of k store.rows (revision, found) e

pub found-handle : (id : List ℕ) (found : Record) → key_of found ≡ key.Handle id → (h : handle.HandleValue) × (found ≡ record_of.Handle h) × (h.id ≡ id)
found-handle id (record_of.Handle h) e = (h, refl, cc)
found-handle id (record_of.Config config) e = absurd (cc e)
found-handle id (record_of.Pools pools) e = absurd (cc e)
found-handle id (record_of.Reservations reservations) e = absurd (cc e)
found-handle id (record_of.Block b) e = absurd (cc e)
found-handle id (record_of.Affinity a) e = absurd (cc e)

pub found-block : (cidr : CidrValue) (found : Record) → key_of found ≡ key.Block cidr → (b : block.BlockValue) × (found ≡ record_of.Block b) × (b.cidr ≡ cidr)
found-block cidr (record_of.Block b) e = (b, refl, cc)
found-block cidr (record_of.Config config) e = absurd (cc e)
found-block cidr (record_of.Pools pools) e = absurd (cc e)
found-block cidr (record_of.Reservations reservations) e = absurd (cc e)
found-block cidr (record_of.Affinity a) e = absurd (cc e)
found-block cidr (record_of.Handle h) e = absurd (cc e)

-- ---- what was there where a write is granted

pub create-can : (store : Datastore) (new : Record) (r : ℕ) → reply_of store (call.Create new) ≡ Can r → row_of (key_of new) store.rows ≡ None
create-can store new r e = from (row_of (key_of new) store.rows) refl e
  where
    from : (o : Option (ℕ × Record)) → row_of (key_of new) store.rows ≡ o → reply_to_create store (key_of new) o ≡ Can r → row_of (key_of new) store.rows ≡ None
    from None is f = is
    from (Some row) is f = absurd (cc f)

change-can : (store : Datastore) (k : Key) (old r : ℕ) → reply_to_change store old (row_of k store.rows) ≡ Can r → (found : Record) × HasAt store k old found
change-can store k old r e = from (row_of k store.rows) refl e
  where
    matched : (row : ℕ × Record) → row_of k store.rows ≡ Some row → (b : Bool) → (row.0 == old) ≡ b → cond b (granted store) (Conflict row.0) ≡ Can r → (found : Record) × HasAt store k old found
    matched row is true same f = (row.1, is ∙ ap Some (let first = eqb-true row.0 old same in λ i. (first i, row.1)))
    matched row is false same f = absurd (cc f)

    from : (o : Option (ℕ × Record)) → row_of k store.rows ≡ o → reply_to_change store old o ≡ Can r → (found : Record) × HasAt store k old found
    from None is f = absurd (cc f)
    from (Some row) is f = matched row is (row.0 == old) refl f

pub update-can : (store : Datastore) (new : Record) (old r : ℕ) → reply_of store (call.Update new old) ≡ Can r → (found : Record) × HasAt store (key_of new) old found
update-can store new old r e = change-can store (key_of new) old r e

pub delete-can : (store : Datastore) (k : Key) (old r : ℕ) → reply_of store (call.Delete k old) ≡ Can r → (found : Record) × HasAt store k old found
delete-can store k old r e = change-can store k old r e

-- ---- a write that is granted takes the next revision

pub can-put : (store : Datastore) (new : Record) (asked : Call) (r : ℕ) → reply_of store asked ≡ Can r → written store (Put r new) ≡ written store (Put (store.counter + 1) new)
can-put store new asked r e = ap (λ n. written store (Put n new)) (can-next store asked r e)

pub can-remove : (store : Datastore) (k : Key) (asked : Call) (r : ℕ) → reply_of store asked ≡ Can r → written store (Remove r k) ≡ written store (Remove (store.counter + 1) k)
can-remove store k asked r e = ap (λ n. written store (Remove n k)) (can-next store asked r e)

-- ---- reads change nothing

granted-get : (k : Key) (reply : Said) → write_granted (call.Get k) reply ≡ None
granted-get k (Can revision) = refl
granted-get k other = refl

granted-list : (kind : Kind) (reply : Said) → write_granted (call.List kind) reply ≡ None
granted-list kind (Can revision) = refl
granted-list kind other = refl

pub behind-get : (store : Datastore) (k : Key) → behind store (call.Get k) ≡ store
behind-get store k = ap (λ w. store_with w store) (granted-get k (reply_of store (call.Get k)))

pub behind-list : (store : Datastore) (kind : Kind) → behind store (call.List kind) ≡ store
behind-list store kind = ap (λ w. store_with w store) (granted-list kind (reply_of store (call.List kind)))

-- the record of a write is known
abbrev pub IsWritten : Known → Option Write → Type 0
IsWritten known (Some (Put revision new)) = known (key_of new) revision new
IsWritten known _ = Unit {0}

written-known : (asked : Call) (r : ℕ) (store : Datastore) (known : Known) → IsWritten (more known store (store_with (write_of asked r) store)) (write_of asked r)
written-known (call.Get k) r store known = tt
written-known (call.List kind) r store known = tt
written-known (call.Create new) r store known = inr (inr (row_of-with_row (r, new) store.rows))
written-known (call.Update new old) r store known = inr (inr (row_of-with_row (r, new) store.rows))
written-known (call.Delete k old) r store known = tt

module _ (Does : Known → Datastore → Datastore → CallLabel → CallLabel → Type 0) where
  -- a read, after which nothing has changed and the rows that there are are known
  pub get-meets : {A : Type 0} → (following : A → CallLabel) (P : Known → A → Type 0) (known : Known) (label : CallLabel) (k : Key) (next : ℕ → Said → Word A)
      → ((moment : ℕ) (store : Datastore) → Agrees known store → Does known store store label (label_to following (next moment (reply_to_get (row_of k store.rows)))) × Meets Does following P (more known store store) (next moment (reply_to_get (row_of k store.rows))))
      → Meets Does following P known (Asks label (call.Get k) next)
  get-meets following P known label k next h = λ moment store agrees.
      subst (λ (s : Datastore). Does known store s label (label_to following (next moment (reply_of store (call.Get k)))) × Meets Does following P (more known store s) (next moment (reply_of store (call.Get k))))
      (sym (behind-get store k)) (h moment store agrees)

  pub list-meets : {A : Type 0} → (following : A → CallLabel) (P : Known → A → Type 0) (known : Known) (label : CallLabel) (kind : Kind) (next : ℕ → Said → Word A)
      → ((moment : ℕ) (store : Datastore) → Agrees known store → Does known store store label (label_to following (next moment (reply_of store (call.List kind)))) × Meets Does following P (more known store store) (next moment (reply_of store (call.List kind))))
      → Meets Does following P known (Asks label (call.List kind) next)
  list-meets following P known label kind next h = λ moment store agrees.
      subst (λ (s : Datastore). Does known store s label (label_to following (next moment (reply_of store (call.List kind)))) × Meets Does following P (more known store s) (next moment (reply_of store (call.List kind))))
      (sym (behind-list store kind)) (h moment store agrees)

  -- a write, which is done or changes nothing
  pub write-meets-at : {A : Type 0} → ((known other : Known) (store next : Datastore) (label after : CallLabel) → Grows known other → Does known store next label after → Does other store next label after) → (following : A → CallLabel) (P : Known → A → Type 0) (known : Known) (label : CallLabel) (asked : Call) (took : (moment revision : ℕ) → Word A) (lost full spent : Word A)
      → ((one other : Known) (a : A) → Grows one other → P one a → P other a)
      → ((moment : ℕ) (store : Datastore) → Agrees known store → (r : ℕ) → reply_of store asked ≡ Can r → Does known store (store_with (write_of asked r) store) label (label_to following (took moment r)))
      → ((moment : ℕ) (other : Known) (r : ℕ) → Grows known other → IsWritten other (write_of asked r) → Meets Does following P other (took moment r))
      → ((store : Datastore) → Does known store store label (label_to following lost)) → Meets Does following P known lost
      → ((store : Datastore) → Does known store store label (label_to following full)) → Meets Does following P known full
      → ((store : Datastore) → Does known store store label (label_to following spent)) → Meets Does following P known spent
      → Meets Does following P known (Asks label asked (λ moment reply. after_write reply (took moment) lost full spent))
  write-meets-at {A} does_grow following P known label asked took lost full spent lasts done after_done on_lost after_lost on_full after_full on_spent after_spent = λ moment store agrees.
      from moment store agrees (reply_of store asked) refl
    where
      grows : (old new : Datastore) → Grows known (more known old new)
      grows old new key revision found there = inl there

      wider : (w : Word A) (old new : Datastore) → Meets Does following P known w → Meets Does following P (more known old new) w
      wider w old new h = Meets-grows Does does_grow following P lasts w known (more known old new) (grows old new) h

      from : (moment : ℕ) (store : Datastore) → Agrees known store → (reply : Said) → reply_of store asked ≡ reply → Does known store (store_with (write_granted asked reply) store) label (label_to following (after_write reply (took moment) lost full spent)) × Meets Does following P (more known store (store_with (write_granted asked reply) store)) (after_write reply (took moment) lost full spent)
      from moment store agrees (Can r) e = (done moment store agrees r e, after_done moment (more known store (store_with (write_of asked r) store)) r (grows store (store_with (write_of asked r) store)) (written-known asked r store known))
      from moment store agrees Missing e = (on_lost store, wider lost store store after_lost)
      from moment store agrees (Exists r) e = (on_lost store, wider lost store store after_lost)
      from moment store agrees (Conflict r) e = (on_lost store, wider lost store store after_lost)
      from moment store agrees (Found r found) e = (on_lost store, wider lost store store after_lost)
      from moment store agrees (Listed rows) e = (on_lost store, wider lost store store after_lost)
      from moment store agrees Full e = (on_full store, wider full store store after_full)
      from moment store agrees Spent e = (on_spent store, wider spent store store after_spent)

  -- the same where what follows does not depend on the moment
  pub write-meets : {A : Type 0} → ((known other : Known) (store next : Datastore) (label after : CallLabel) → Grows known other → Does known store next label after → Does other store next label after) → (following : A → CallLabel) (P : Known → A → Type 0) (known : Known) (label : CallLabel) (asked : Call) (took : ℕ → Word A) (lost full spent : Word A)
      → ((one other : Known) (a : A) → Grows one other → P one a → P other a)
      → ((store : Datastore) → Agrees known store → (r : ℕ) → reply_of store asked ≡ Can r → Does known store (store_with (write_of asked r) store) label (label_to following (took r)))
      → ((other : Known) (r : ℕ) → Grows known other → IsWritten other (write_of asked r) → Meets Does following P other (took r))
      → ((store : Datastore) → Does known store store label (label_to following lost)) → Meets Does following P known lost
      → ((store : Datastore) → Does known store store label (label_to following full)) → Meets Does following P known full
      → ((store : Datastore) → Does known store store label (label_to following spent)) → Meets Does following P known spent
      → Meets Does following P known (Asks label asked (λ moment reply. after_write reply took lost full spent))
  write-meets does_grow following P known label asked took lost full spent lasts done after_done on_lost after_lost on_full after_full on_spent after_spent =
      write-meets-at does_grow following P known label asked (λ moment r. took r) lost full spent lasts (λ moment. done) (λ moment. after_done) on_lost after_lost on_full after_full on_spent after_spent
