-- One key and one revision have one record.
use Rattle.std.proofs.Common.{◌≡◌, ◌≢◌, ℕ, zero, suc, ◌+◌, ◌-◌, ◌≤◌, true, List, [], ◌∷◌, drop, Some, sym, ap, ◌∙◌, subst, inl, inr, ◌⊎◌, arith, nat_lt, ltb-true, ltb-false}
use Rattle.std.proofs.lemmas.Bool.{cases_Bool}
use Rattle.std.proofs.Math.Seq.{drop-drop}
use Rattle.ipam_records.specs.declared.key.Key.{Key}
use Rattle.ipam_records.specs.declared.record.Record.{Record}
use Rattle.ipam_records.specs.declared.call.Write.TheVariants.{Put, Remove}
use Rattle.ipam_records.specs.Datastore.{Datastore, row_of, with_row, without_row, written}
use Rattle.ipam_records.specs.Key.{key_of}
use Rattle.ipam_records.specs.KeyOrder.{keys_equal}
use Rattle.ipam_records.specs.KeyOrderLaws.{same-keys_equal, keys_equal-itself}
use Rattle.ipam_records.specs.Sound.{IsDatastore, IsRow}
use Rattle.ipam_records.proofs.DatastoreLemmas.{row_of-with_row, row_of-with_row-other, row_of-without_row, row_of-without_row-other}
use Rattle.ipam_records.proofs.HearingLemmas.{All-row_of}
use Rattle.ipam_model.specs.declared.entry.Entry.{Entry}
use Rattle.ipam_model.specs.AffinityLaw.{HasAt, OneRecordLaw}
use Rattle.ipam_model.specs.History.{Base, Lawful, cluster_at, store_at, store_before, moment_of}
use Rattle.ipam_laws.proofs.StoreSteps.{StoreStep, Stays, Puts, Removes, store-step}

-- ---- no revision is above the counter

-- each row that is found by its key has a revision that was given
pub AreGiven : Datastore → Type 0
AreGiven store = (key : Key) (revision : ℕ) (found : Record) → HasAt store key revision found → revision ≤ store.counter

pub given-row : (store : Datastore) → AreGiven store → (key : Key) (revision : ℕ) (found : Record) → HasAt store key revision found → revision ≤ store.counter
unfolding AreGiven
given-row store h key revision found e = h key revision found e

-- a key is the one, or another
pub key_cases : (k l : Key) → (k ≡ l) ⊎ (k ≢ l)
key_cases k l = elim (cases_Bool (keys_equal k l)) [
  | inl same ↦ inl (same-keys_equal k l same)
  | inr differ ↦ inr (λ e. let t : keys_equal k l ≡ true = subst (λ (x : Key). keys_equal k x ≡ true) e (keys_equal-itself k) in cc)
]

-- what is found after a put is the new record at its revision, or what was found before
pub put-found : (store : Datastore) (r : ℕ) (new : Record) (key : Key) (revision : ℕ) (found : Record) → HasAt (written store (Put r new)) key revision found → ((key_of new ≡ key) × (revision ≡ r) × (found ≡ new)) ⊎ HasAt store key revision found
put-found store r new key revision found e = elim (key_cases (key_of new) key) [
  | inl same ↦
      let k = subst (λ (x : Key). row_of x (with_row (r, new) store.rows) ≡ Some (revision, found)) (sym same) e in
      let whole = row_of-with_row (r, new) store.rows in
      let rows : (r, new) ≡ (revision, found) = cc (k, whole) in
      inl (same, ap (λ (row : ℕ × Record). row.0) (sym rows), ap (λ (row : ℕ × Record). row.1) (sym rows))
  | inr other ↦ inr (sym (row_of-with_row-other key (r, new) store.rows other) ∙ e)
]

-- what is found after a removal was found before
pub remove-found : (store : Datastore) (r : ℕ) (gone : Key) (key : Key) (revision : ℕ) (found : Record) → HasAt (written store (Remove r gone)) key revision found → HasAt store key revision found
remove-found store r gone key revision found e = elim (key_cases gone key) [
  | inl same ↦
      let k = subst (λ (x : Key). row_of x (without_row gone store.rows) ≡ Some (revision, found)) (sym same) e in
      absurd (cc (k, row_of-without_row gone store.rows))
  | inr other ↦ sym (row_of-without_row-other key gone store.rows other) ∙ e
]

step-given : (store behind : Datastore) → StoreStep store behind → AreGiven store → AreGiven behind
unfolding AreGiven
step-given store behind (Stays e) h = subst (λ (s : Datastore). AreGiven s) (sym e) h
step-given store behind (Puts new e left place) h = subst (λ (s : Datastore). AreGiven s) (sym e) given
  where
    given : AreGiven (written store (Put (store.counter + 1) new))
    given key revision found f = elim (put-found store (store.counter + 1) new key revision found f) [
      | inl is ↦ omega (arith, is.1)
      | inr old ↦ let k = h key revision found old in omega arith
    ]
step-given store behind (Removes gone e left) h = subst (λ (s : Datastore). AreGiven s) (sym e) given
  where
    given : AreGiven (written store (Remove (store.counter + 1) gone))
    given key revision found f = let k = h key revision found (remove-found store (store.counter + 1) gone key revision found f) in omega arith

step-counter : (store behind : Datastore) → StoreStep store behind → store.counter ≤ behind.counter
step-counter store behind (Stays e) = omega (arith, ap (λ (s : Datastore). s.counter) e)
step-counter store behind (Puts new e left place) = omega (arith, ap (λ (s : Datastore). s.counter) e)
step-counter store behind (Removes gone e left) = omega (arith, ap (λ (s : Datastore). s.counter) e)

base-given : (base : Base) → IsDatastore base.store → AreGiven base.store
unfolding AreGiven
base-given base h key revision found e = (All-row_of (λ row. IsRow base.store.counter row) key base.store.rows (revision, found) h.rows e).given

pub history-given : (base : Base) (history : List Entry) → IsDatastore base.store → Lawful base history → AreGiven (store_at base history)
unfolding Lawful cluster_at
history-given base [] sound h = base-given base sound
history-given base (new ∷ history) sound h =
    step-given (store_at base history) (store_at base (new ∷ history)) (store-step base history new h) (history-given base history sound h.0)

-- ---- earlier histories

pub drop-lawful : (base : Base) (many : ℕ) (history : List Entry) → Lawful base history → Lawful base (drop many history)
unfolding Lawful
drop-lawful base zero history h = h
drop-lawful base (suc many) [] h = h
drop-lawful base (suc many) (new ∷ history) h = drop-lawful base many history h.0

pub drop-counter : (base : Base) (many : ℕ) (history : List Entry) → Lawful base history → (store_at base (drop many history)).counter ≤ (store_at base history).counter
unfolding Lawful
drop-counter base zero history h = omega arith
drop-counter base (suc many) [] h = omega arith
drop-counter base (suc many) (new ∷ history) h =
    let here = step-counter (store_at base history) (store_at base (new ∷ history)) (store-step base history new h) in
    let there = drop-counter base many history h.0 in
    omega arith

-- what was there earlier has a revision that was given by now
pub earlier-below : (base : Base) (many : ℕ) (history : List Entry) → IsDatastore base.store → Lawful base history → (key : Key) (revision : ℕ) (found : Record) → HasAt (store_at base (drop many history)) key revision found → revision ≤ (store_at base history).counter
unfolding AreGiven
earlier-below base many history sound h key revision found there =
    let early = history-given base (drop many history) sound (drop-lawful base many history h) key revision found there in
    let later = drop-counter base many history h in
    omega arith

-- ---- an earlier record and a later one

-- a record that was there keeps its revision for itself over one step
step-same : (store behind : Datastore) → StoreStep store behind → (earlier : Datastore) → AreGiven earlier → earlier.counter ≤ store.counter → (key : Key) (revision : ℕ) (one other : Record) → HasAt earlier key revision one → HasAt behind key revision other → (HasAt store key revision other → one ≡ other) → one ≡ other
unfolding AreGiven
step-same store behind (Stays e) earlier given below key revision one other h k same = same (subst (λ (s : Datastore). HasAt s key revision other) e k)
step-same store behind (Puts new e left place) earlier given below key revision one other h k same =
    let there = subst (λ (s : Datastore). HasAt s key revision other) e k in
    elim (put-found store (store.counter + 1) new key revision other there) [
      | inl is ↦ let old = given key revision one h in absurd (omega (arith, is.1))
      | inr before ↦ same before
    ]
step-same store behind (Removes gone e left) earlier given below key revision one other h k same =
    let there = subst (λ (s : Datastore). HasAt s key revision other) e k in
    same (remove-found store (store.counter + 1) gone key revision other there)

pub later-same : (base : Base) (many : ℕ) (history : List Entry) → IsDatastore base.store → Lawful base history → (key : Key) (revision : ℕ) (one other : Record) → HasAt (store_at base (drop many history)) key revision one → HasAt (store_at base history) key revision other → one ≡ other
unfolding Lawful
later-same base zero history sound h key revision one other a b =
    let rows : (revision, one) ≡ (revision, other) = cc (a, b) in ap (λ (row : ℕ × Record). row.1) rows
later-same base (suc many) [] sound h key revision one other a b =
    let rows : (revision, one) ≡ (revision, other) = cc (a, b) in ap (λ (row : ℕ × Record). row.1) rows
later-same base (suc many) (new ∷ history) sound h key revision one other a b =
    step-same (store_at base history) (store_at base (new ∷ history)) (store-step base history new h)
    (store_at base (drop many history)) (history-given base (drop many history) sound (drop-lawful base many history h.0))
    (drop-counter base many history h.0) key revision one other a b
    (later-same base many history sound h.0 key revision one other a)

-- two moments, the one before the other
in-order : (base : Base) (history : List Entry) → IsDatastore base.store → Lawful base history → (first second : ℕ) → first ≤ second → (key : Key) (revision : ℕ) (one other : Record) → HasAt (store_before base history first) key revision one → HasAt (store_before base history second) key revision other → one ≡ other
in-order base history sound h first second order key revision one other a b =
    let now = moment_of base history in
    let between = (now - first) - (now - second) in
    let sum : (now - second) + between ≡ now - first = omega arith in
    let early : HasAt (store_at base (drop between (drop (now - second) history))) key revision one =
    subst (λ (hs : List Entry). HasAt (store_at base hs) key revision one) (ap (λ n. drop n history) (sym sum) ∙ sym (drop-drop between (now - second) history)) a in
    later-same base between (drop (now - second) history) sound (drop-lawful base (now - second) history h) key revision one other early b

pub one_record : OneRecordLaw
one_record base history sound h first second key revision one other a b = elim (cases_Bool (nat_lt first second)) [
  | inl before ↦ in-order base history sound h first second (let k = ltb-true first second before in omega arith) key revision one other a b
  | inr behind ↦ sym (in-order base history sound h second first (ltb-false first second behind) key revision other one b a)
]
