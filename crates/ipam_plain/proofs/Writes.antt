-- Writes that are done, since there are revisions enough, and what a part comes to.
use Rattle.std.proofs.Common.{◌≡◌, ℕ, ◌+◌, ◌<◌, Bool, true, false, cond, List, None, refl, sym, ap, ◌∙◌, subst, arith, ltb-false}
use Rattle.std.specs.Prelude.{◌==◌, nat_lt}
use Rattle.std.proofs.lemmas.Bool.{eqb-false}
use Rattle.ipam_records.specs.declared.call.Call.TheVariants.{Create, Update, Delete}
use Rattle.ipam_records.specs.declared.call.Write.TheVariants.{Put, Remove}
use Rattle.ipam_records.specs.declared.key.Key.{Key}
use Rattle.ipam_records.specs.declared.record.Record.{Record}
use Rattle.ipam_records.specs.Datastore.{Datastore, granted, has_room, last_revision, reply_of, reply_to_change, reply_to_create, row_of, without_row, write_granted, written}
use Rattle.ipam_records.specs.Key.{key_of}
use Rattle.ipam_records.specs.Said.{Said, Can, Conflict, Full, Spent}
use Rattle.ipam_records.specs.Word.{Ends, Word}
use Rattle.ipam_model.specs.declared.part.Left.{Left}
use Rattle.ipam_model.specs.declared.part.Outcome.{Outcome}
use Rattle.ipam_model.specs.declared.part.Outcome.TheVariants.{Went, Stops}
use Rattle.ipam_model.specs.AffinityLaw.{HasAt}
use Rattle.ipam_model.specs.Cluster.{store_with}
use Rattle.ipam_model.specs.Plain.{Rows, put}
use Rattle.ipam_model.specs.Step.{Part, StopAnswers, after_write, answer_of, part_then, onward, as_word}
use Rattle.ipam_laws.proofs.AloneCalls.{Runs, Runs-bound}
use Rattle.ipam_laws.proofs.DebtCalls.{create-puts, update-puts}
use Rattle.ipam_laws.proofs.Lift.{behind}
use Rattle.ipam_records.proofs.RowWrites.{sorted-with_row, sorted-without_row}
use Rattle.ipam_plain.proofs.Alike.{Alike, IsSorted, alike-cut, alike-put}

-- ---- the store stands for the rows

pub record IsAs (store : Datastore) (rows : Rows) : Type 0 where
  pub alike : Alike store.rows rows
  pub sorted_store : IsSorted store.rows
  pub sorted : IsSorted rows

abbrev pub put_in : Datastore → Record → Datastore
put_in store new = written store (Put (store.counter + 1) new)

abbrev pub cut_in : Datastore → Key → Datastore
cut_in store gone = written store (Remove (store.counter + 1) gone)

pub as-put : (store : Datastore) (rows : Rows) (new : Record) → IsAs store rows → IsAs (put_in store new) (put new rows)
as-put store rows new h = record {
  alike = alike-put new (store.counter + 1) 0 store.rows rows h.alike;
  sorted_store = sorted-with_row (store.counter + 1, new) store.rows h.sorted_store;
  sorted = sorted-with_row (0, new) rows h.sorted;
}

pub as-cut : (store : Datastore) (rows : Rows) (gone : Key) → IsAs store rows → IsAs (cut_in store gone) (without_row gone rows)
as-cut store rows gone h = record {
  alike = alike-cut gone store.rows rows h.alike;
  sorted_store = sorted-without_row gone store.rows h.sorted_store;
  sorted = sorted-without_row gone rows h.sorted;
}

-- ---- writes

granted-done : (store : Datastore) → store.counter < last_revision → granted store ≡ Can (store.counter + 1)
granted-done store left = by (nat_lt store.counter last_revision) refl
  where
    by : (b : Bool) → nat_lt store.counter last_revision ≡ b → cond b (Can (store.counter + 1)) Spent ≡ Can (store.counter + 1)
    by true e = refl
    by false e = let least = ltb-false store.counter last_revision e in absurd (omega arith)

change-done : (store : Datastore) (k : Key) (old : ℕ) (found : Record) → HasAt store k old found → store.counter < last_revision → reply_to_change store old (row_of k store.rows) ≡ Can (store.counter + 1)
change-done store k old found there left = ap (reply_to_change store old) there ∙ by (old == old) refl
  where
    by : (b : Bool) → (old == old) ≡ b → cond b (granted store) (Conflict old) ≡ Can (store.counter + 1)
    by true e = granted-done store left
    by false e = absurd (eqb-false old old e refl)

create-done : (store : Datastore) (new : Record) → row_of (key_of new) store.rows ≡ None → has_room store (key_of new) ≡ true → store.counter < last_revision → reply_of store (Create new) ≡ Can (store.counter + 1)
create-done store new none room left =
    ap (reply_to_create store (key_of new)) none ∙ (ap (λ (b : Bool). cond b (granted store) Full) room ∙ granted-done store left)

module _ {A : Type 0} (live : List (List ℕ)) (Q : Datastore → A → Type 0) (store : Datastore) (moment : ℕ) where
  pub update-runs : (new found : Record) (old : ℕ) (took : ℕ → Word A) (lost full spent : Word A) → HasAt store (key_of new) old found → store.counter < last_revision
      → Runs live Q (put_in store new) (moment + 1) (took (store.counter + 1))
      → Runs live Q (behind store (Update new old)) (moment + 1) (after_write (reply_of store (Update new old)) took lost full spent)
  update-runs new found old took lost full spent there left h =
      let e : reply_of store (Update new old) ≡ Can (store.counter + 1) = change-done store (key_of new) old found there left in
      let put = (update-puts new old).puts store (store.counter + 1) e in
      subst (λ (s : Datastore). Runs live Q s (moment + 1) (after_write (reply_of store (Update new old)) took lost full spent)) (sym put)
      (subst (λ (said : Said). Runs live Q (put_in store new) (moment + 1) (after_write said took lost full spent)) (sym e) h)

  pub create-runs : (new : Record) (took : ℕ → Word A) (lost full spent : Word A) → row_of (key_of new) store.rows ≡ None → has_room store (key_of new) ≡ true → store.counter < last_revision
      → Runs live Q (put_in store new) (moment + 1) (took (store.counter + 1))
      → Runs live Q (behind store (Create new)) (moment + 1) (after_write (reply_of store (Create new)) took lost full spent)
  create-runs new took lost full spent none room left h =
      let e = create-done store new none room left in
      let put = (create-puts new).puts store (store.counter + 1) e in
      subst (λ (s : Datastore). Runs live Q s (moment + 1) (after_write (reply_of store (Create new)) took lost full spent)) (sym put)
      (subst (λ (said : Said). Runs live Q (put_in store new) (moment + 1) (after_write said took lost full spent)) (sym e) h)

  pub delete-runs : (gone : Key) (found : Record) (old : ℕ) (took : ℕ → Word A) (lost full spent : Word A) → HasAt store gone old found → store.counter < last_revision
      → Runs live Q (cut_in store gone) (moment + 1) (took (store.counter + 1))
      → Runs live Q (behind store (Delete gone old)) (moment + 1) (after_write (reply_of store (Delete gone old)) took lost full spent)
  delete-runs gone found old took lost full spent there left h =
      let e : reply_of store (Delete gone old) ≡ Can (store.counter + 1) = change-done store gone old found there left in
      let cut : behind store (Delete gone old) ≡ cut_in store gone = ap (λ said. store_with (write_granted (Delete gone old) said) store) e in
      subst (λ (s : Datastore). Runs live Q s (moment + 1) (after_write (reply_of store (Delete gone old)) took lost full spent)) (sym cut)
      (subst (λ (said : Said). Runs live Q (cut_in store gone) (moment + 1) (after_write said took lost full spent)) (sym e) h)

-- ---- what a part comes to

-- the part goes on with what was left, and this holds of the store and of what it came to
abbrev pub Comes : {A : Type 0} → Left → (Datastore → A → Type 0) → Datastore → Outcome A → Type 0
Comes left Q then (Went now value) = (now ≡ left) × Q then value
Comes left Q then (Stops now why) = ⊥

module _ {A B : Type 0} (live : List (List ℕ)) (left : Left) (R : Datastore → A → Type 0) (S : Datastore → Outcome B → Type 0) (follows : Left → A → Part B) where
  -- what follows such a part
  pub comes-followed : (part : Part A) (store : Datastore) (moment : ℕ) → Runs live (Comes left R) store moment part
      → ((then : Datastore) (later : ℕ) (value : A) → R then value → Runs live S then later (follows left value))
      → Runs live S store moment (part_then part follows)
  comes-followed part store moment h k = Runs-bound live (Comes left R) S (onward follows) part store moment h ends
    where
      ends : (then : Datastore) (later : ℕ) (outcome : Outcome A) → Comes left R then outcome → Runs live S then later (onward follows outcome)
      ends then later (Went now value) c = subst (λ (l : Left). Runs live S then later (follows l value)) (sym c.0) (k then later value c.1)
      ends then later (Stops now why) c = absurd c

-- a procedure that is one part
pub comes-settled : {A : Type 0} → (live : List (List ℕ)) (left : Left) (Q : Datastore → A → Type 0) (answers : StopAnswers A) (part : Part A) (store : Datastore) (moment : ℕ) → Runs live (Comes left Q) store moment part → Runs live Q store moment (as_word answers part)
comes-settled {A} live left Q answers part store moment h = Runs-bound live (Comes left Q) Q (λ outcome. Ends (answer_of answers outcome)) part store moment h ends
  where
    ends : (then : Datastore) (later : ℕ) (outcome : Outcome A) → Comes left Q then outcome → Q then (answer_of answers outcome)
    ends then later (Went now value) c = c.1
    ends then later (Stops now why) c = absurd c

-- the part goes on, and this holds of the store and of what it came to
abbrev pub Finishes : {A : Type 0} → (Datastore → A → Type 0) → Datastore → Outcome A → Type 0
Finishes Q then (Went now value) = Q then value
Finishes Q then (Stops now why) = ⊥

pub finishes-settled : {A : Type 0} → (live : List (List ℕ)) (Q : Datastore → A → Type 0) (answers : StopAnswers A) (part : Part A) (store : Datastore) (moment : ℕ) → Runs live (Finishes Q) store moment part → Runs live Q store moment (as_word answers part)
finishes-settled {A} live Q answers part store moment h = Runs-bound live (Finishes Q) Q (λ outcome. Ends (answer_of answers outcome)) part store moment h ends
  where
    ends : (then : Datastore) (later : ℕ) (outcome : Outcome A) → Finishes Q then outcome → Q then (answer_of answers outcome)
    ends then later (Went now value) c = c
    ends then later (Stops now why) c = absurd c
