-- What a word comes to that runs alone over a consistent store: whatever happens, the records stay sound
-- and counts cover addresses and what is owed.
use Rattle.std.proofs.Common.{◌≡◌, ℕ, ◌+◌, ◌≤◌, ◌⊎◌, inl, inr, Bool, true, false, cond, List, Option, None, refl, sym, ap, subst, arith}
use Rattle.std.specs.Prelude.{◌==◌, nat_lt}
use Rattle.std.proofs.lemmas.Bool.{eqb-false}
use Rattle.ipam_addr.specs.Shape.{CidrValue}
use Rattle.ipam_records.specs.declared.call.Call.TheVariants.{Get, List as ListAll, Create, Update, Delete}
use Rattle.ipam_records.specs.declared.key.Key.{Key}
use Rattle.ipam_records.specs.declared.key.Kind.{Kind}
use Rattle.ipam_records.specs.declared.record.Record.{Record}
use Rattle.ipam_records.specs.Datastore.{Datastore, granted, has_room, last_revision, reply_of, reply_to_change, reply_to_create, row_of}
use Rattle.ipam_records.specs.Key.{key_of}
use Rattle.ipam_records.specs.Label.{CallLabel, idle}
use Rattle.ipam_records.specs.Said.{Said, Can, Conflict, Full, Spent}
use Rattle.ipam_records.specs.Sound.{IsDatastore, IsRecord}
use Rattle.ipam_records.specs.Word.{Word, Ends, Asks, Waits, bound}
use Rattle.ipam_model.specs.AffinityLaw.{HasAt}
use Rattle.ipam_model.specs.Alone.{alone}
use Rattle.ipam_model.specs.CountLaw.{IsCovered, handle_count, held_count}
use Rattle.ipam_model.specs.Step.{after_write}
use Rattle.ipam_laws.proofs.Calls.{behind-get, behind-list}
use Rattle.ipam_laws.proofs.CountKinds.{step-counts}
use Rattle.ipam_laws.proofs.CountSteps.{owed}
use Rattle.ipam_laws.proofs.Lift.{Agrees, Known, behind, label_to, more}
use Rattle.ipam_laws.proofs.OneRecord.{put-found, remove-found}
use Rattle.ipam_laws.proofs.PartSteps.{Steps, still}
use Rattle.ipam_laws.proofs.SoundBlocks.{IsSoundKnown}
use Rattle.ipam_laws.proofs.SoundHistory.{next-datastore}
use Rattle.ipam_laws.proofs.SoundSteps.{row-there, step-sound}
use Rattle.ipam_laws.proofs.StoreSteps.{StoreStep, Stays, Puts, Removes, granted-step}

-- the records are sound, and counts cover addresses and what the label owes
pub record Good (label : CallLabel) (store : Datastore) : Type 0 where
  pub sound : IsDatastore store
  pub covers : (id : List ℕ) (cidr : CidrValue) → held_count store id cidr + owed id cidr label ≤ handle_count store id cidr

-- and what is known of rows is so
record Known-good (known : Known) (store : Datastore) : Type 0 where
  known_sound : IsSoundKnown known
  below : (k : Key) (revision : ℕ) (found : Record) → known k revision found → revision ≤ store.counter
  agrees : Agrees known store

-- ---- what is known stays so

given-rows : (store : Datastore) → IsDatastore store → (k : Key) (revision : ℕ) (found : Record) → HasAt store k revision found → revision ≤ store.counter
given-rows store sound k revision found there = (row-there store k revision found sound there).given

-- a row of the store after a step is new, or was there
later-row : (store next : Datastore) → StoreStep store next → (k : Key) (revision : ℕ) (found : Record) → HasAt next k revision found → (revision ≡ store.counter + 1) ⊎ HasAt store k revision found
later-row store next (Stays e) k revision found there = inr (subst (λ (s : Datastore). HasAt s k revision found) e there)
later-row store next (Puts new e left place) k revision found there =
    elim (put-found store (store.counter + 1) new k revision found (subst (λ (s : Datastore). HasAt s k revision found) e there)) [ inl is ↦ inl is.1 | inr was ↦ inr was ]
later-row store next (Removes gone e left) k revision found there = inr (remove-found store (store.counter + 1) gone k revision found (subst (λ (s : Datastore). HasAt s k revision found) e there))

counter-grows : (store next : Datastore) → StoreStep store next → store.counter ≤ next.counter
counter-grows store next (Stays e) = let same = ap (λ (s : Datastore). s.counter) e in omega arith
counter-grows store next (Puts new e left place) = let same = ap (λ (s : Datastore). s.counter) e in omega arith
counter-grows store next (Removes gone e left) = let same = ap (λ (s : Datastore). s.counter) e in omega arith

known-next : (known : Known) (store next : Datastore) → StoreStep store next → IsDatastore store → IsDatastore next → Known-good known store → Known-good (more known store next) next
known-next known store next step sound then h = record {
  known_sound = record { sound = sounds };
  below = lower;
  agrees = record { same = same; positive = λ k revision found there. (row-there next k revision found then there).some };
}
  where
    sounds : (k : Key) (revision : ℕ) (found : Record) → more known store next k revision found → IsRecord found
    sounds k revision found (inl was) = h.known_sound.sound k revision found was
    sounds k revision found (inr (inl there)) = (row-there store k revision found sound there).is_record
    sounds k revision found (inr (inr there)) = (row-there next k revision found then there).is_record

    lower : (k : Key) (revision : ℕ) (found : Record) → more known store next k revision found → revision ≤ next.counter
    lower k revision found (inl was) = let a = h.below k revision found was in let b = counter-grows store next step in omega arith
    lower k revision found (inr (inl there)) = let a = given-rows store sound k revision found there in let b = counter-grows store next step in omega arith
    lower k revision found (inr (inr there)) = given-rows next then k revision found there

    same : (k : Key) (revision : ℕ) (one other : Record) → more known store next k revision one → HasAt next k revision other → one ≡ other
    same k revision one other (inr (inr there)) now = let rows : (revision, one) ≡ (revision, other) = cc (there, now) in ap (λ (row : ℕ × Record). row.1) rows
    same k revision one other (inr (inl there)) now = elim (later-row store next step k revision other now) [
      | inl new ↦ let a = given-rows store sound k revision one there in absurd (omega arith)
      | inr was ↦ let rows : (revision, one) ≡ (revision, other) = cc (there, was) in ap (λ (row : ℕ × Record). row.1) rows
    ]
    same k revision one other (inl knew) now = elim (later-row store next step k revision other now) [
      | inl new ↦ let a = h.below k revision one knew in absurd (omega arith)
      | inr was ↦ h.agrees.same k revision one other knew was
    ]

-- ---- runs

module _ (live : List (List ℕ)) where
  -- The word, every call of it done, ends with a store and an answer of which this holds; and before
  -- each call what is good is known.
  abbrev pub Runs : {A : Type 0} → (Datastore → A → Type 0) → Datastore → (moment : ℕ) → Word A → Type 0
  Runs Q store moment (Ends answer) = Q store answer
  Runs Q store moment (Asks label asked next) = Good label store → Runs Q (behind store asked) (moment + 1) (next moment (reply_of store asked))
  Runs Q store moment (Waits next) = Runs Q store (moment + 1) (next live)

  pub Runs-bound : {A B : Type 0} → (R : Datastore → A → Type 0) (Q : Datastore → B → Type 0) (follows : A → Word B) (w : Word A) (store : Datastore) (moment : ℕ) → Runs R store moment w
      → ((then : Datastore) (later : ℕ) (a : A) → R then a → Runs Q then later (follows a)) → Runs Q store moment (bound w follows)
  Runs-bound R Q follows (Ends answer) store moment h k = k store moment answer h
  Runs-bound R Q follows (Asks label asked next) store moment h k = λ good. Runs-bound R Q follows (next moment (reply_of store asked)) (behind store asked) (moment + 1) (h good) k
  Runs-bound R Q follows (Waits next) store moment h k = Runs-bound R Q follows (next live) store (moment + 1) h k

  -- so the word alone does, since it takes its steps
  runs-good : {A : Type 0} → (Q : Datastore → A → Type 0) (w : Word A) (store : Datastore) (moment : ℕ) (known : Known) → Good (label_to still w) store → Known-good known store → Steps still known w → Runs Q store moment w
      → Q (alone store moment live w).1 (alone store moment live w).0
  runs-good Q (Ends answer) store moment known good k steps h = h
  runs-good Q (Asks label asked next) store moment known good k steps h =
      let then = behind store asked in
      let here = steps moment store k.agrees in
      let step = granted-step store asked (reply_of store asked) refl in
      let sound = next-datastore store then step (step-sound known store then label (label_to still (next moment (reply_of store asked))) here.0 k.known_sound good.sound) good.sound in
      let counts = step-counts known store then label (label_to still (next moment (reply_of store asked))) here.0 in
      runs-good Q (next moment (reply_of store asked)) then (moment + 1) (more known store then)
      (record { sound = sound; covers = λ id cidr. let a = counts id cidr in let b = good.covers id cidr in omega arith })
      (known-next known store then step good.sound sound k) here.1 (h good)
  runs-good Q (Waits next) store moment known good k steps h =
      let here = steps live in
      runs-good Q (next live) store (moment + 1) known (record { sound = good.sound; covers = λ id cidr. let a = good.covers id cidr in let e = ap (owed id cidr) here.0 in omega arith }) k here.1 h

  pub runs-alone : {A : Type 0} → (Q : Datastore → A → Type 0) (w : Word A) (store : Datastore) (moment : ℕ) → IsDatastore store → IsCovered store → label_to still w ≡ idle → Steps still (λ k revision found. HasAt store k revision found) w → Runs Q store moment w
      → Q (alone store moment live w).1 (alone store moment live w).0
  runs-alone Q w store moment sound covered label steps h =
      runs-good Q w store moment (λ k revision found. HasAt store k revision found)
      (record { sound = sound; covers = λ id cidr. let a = covered id cidr in let e = ap (owed id cidr) label in omega arith })
      (record {
        known_sound = record { sound = λ k revision found there. (row-there store k revision found sound there).is_record };
        below = given-rows store sound;
        agrees = record {
          same = λ k revision one other there now. let rows : (revision, one) ≡ (revision, other) = cc (there, now) in ap (λ (row : ℕ × Record). row.1) rows;
          positive = λ k revision found there. (row-there store k revision found sound there).some;
        };
      })
      steps h

  -- ---- reads

  pub runs-get : {A : Type 0} → (Q : Datastore → A → Type 0) (store : Datastore) (moment : ℕ) (label : CallLabel) (k : Key) (next : ℕ → Said → Word A) → (Good label store → Runs Q store (moment + 1) (next moment (reply_of store (Get k)))) → Runs Q store moment (Asks label (Get k) next)
  runs-get Q store moment label k next h good = subst (λ (s : Datastore). Runs Q s (moment + 1) (next moment (reply_of store (Get k)))) (sym (behind-get store k)) (h good)

  pub runs-list : {A : Type 0} → (Q : Datastore → A → Type 0) (store : Datastore) (moment : ℕ) (label : CallLabel) (kind : Kind) (next : ℕ → Said → Word A) → (Good label store → Runs Q store (moment + 1) (next moment (reply_of store (ListAll kind)))) → Runs Q store moment (Asks label (ListAll kind) next)
  runs-list Q store moment label kind next h good = subst (λ (s : Datastore). Runs Q s (moment + 1) (next moment (reply_of store (ListAll kind)))) (sym (behind-list store kind)) (h good)

-- ---- writes that lose no race

pub data IsUnlost (said : Said) : Type 0 where
  WasDone : (revision : ℕ) → said ≡ Can revision → IsUnlost said
  WasFull : said ≡ Full → IsUnlost said
  WasSpent : said ≡ Spent → IsUnlost said

granted-unlost : (store : Datastore) → IsUnlost (granted store)
granted-unlost store = by (nat_lt store.counter last_revision)
  where
    by : (b : Bool) → IsUnlost (cond b (Can (store.counter + 1)) Spent)
    by true = WasDone (store.counter + 1) refl
    by false = WasSpent refl

-- a record is created where there is none
pub create-unlost : (store : Datastore) (new : Record) → row_of (key_of new) store.rows ≡ None → IsUnlost (reply_of store (Create new))
create-unlost store new none = subst (λ (o : Option (ℕ × Record)). IsUnlost (reply_to_create store (key_of new) o)) (sym none) (by (has_room store (key_of new)))
  where
    by : (b : Bool) → IsUnlost (cond b (granted store) Full)
    by true = granted-unlost store
    by false = WasFull refl

change-unlost : (store : Datastore) (k : Key) (old : ℕ) (found : Record) → HasAt store k old found → IsUnlost (reply_to_change store old (row_of k store.rows))
change-unlost store k old found there = subst (λ (o : Option (ℕ × Record)). IsUnlost (reply_to_change store old o)) (sym there) (by (old == old) refl)
  where
    by : (b : Bool) → (old == old) ≡ b → IsUnlost (cond b (granted store) (Conflict old))
    by true e = granted-unlost store
    by false e = absurd (eqb-false old old e refl)

-- a record is changed or deleted at its revision
pub update-unlost : (store : Datastore) (new found : Record) (old : ℕ) → HasAt store (key_of new) old found → IsUnlost (reply_of store (Update new old))
update-unlost store new found old there = change-unlost store (key_of new) old found there

pub delete-unlost : (store : Datastore) (k : Key) (found : Record) (old : ℕ) → HasAt store k old found → IsUnlost (reply_of store (Delete k old))
delete-unlost store k found old there = change-unlost store k old found there

-- what follows such a write
pub unlost-runs : {A : Type 0} → (live : List (List ℕ)) (Q : Datastore → A → Type 0) (store : Datastore) (moment : ℕ) (said : Said) (took : ℕ → Word A) (lost full spent : Word A) → IsUnlost said
    → ((revision : ℕ) → said ≡ Can revision → Runs live Q store moment (took revision)) → Runs live Q store moment full → Runs live Q store moment spent → Runs live Q store moment (after_write said took lost full spent)
unlost-runs live Q store moment said took lost full spent (WasDone revision e) a b c = subst (λ (s : Said). Runs live Q store moment (after_write s took lost full spent)) (sym e) (a revision e)
unlost-runs live Q store moment said took lost full spent (WasFull e) a b c = subst (λ (s : Said). Runs live Q store moment (after_write s took lost full spent)) (sym e) b
unlost-runs live Q store moment said took lost full spent (WasSpent e) a b c = subst (λ (s : Said). Runs live Q store moment (after_write s took lost full spent)) (sym e) c
