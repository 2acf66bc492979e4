-- What a ring keeps where a write is pushed.
use Rattle.std.proofs.Common.{arith, ◌≡◌, ℕ, zero, suc, ◌+◌, ◌≤◌, Option, Some, None, List, [], ◌∷◌, take, map, sym, ap, ◌∙◌, refl, subst, length-take, reverse}
use Rattle.std.specs.Option.{option_flatten}
use Rattle.std.specs.List.{AllByRecursion, cons_option, slice_get, take_while}
use Rattle.std.proofs.lemmas.List.Elements.{All-from_recursion, recursion_from_All}
use Rattle.std.specs.List.Sorted.{IsStrictlySortedBy}
use Rattle.ipam_records.specs.declared.record.Record.{Record}
use Rattle.ipam_records.specs.declared.key.Kind.TheVariants as kind
use Rattle.ipam_records.specs.declared.call.Write.{Write}
use Rattle.ipam_records.specs.Datastore.{Datastore, row_key, rows_of_kind}
use Rattle.ipam_records.specs.KeyOrder.{key_cmp, is_of_kind}
use Rattle.ipam_records.specs.Sound.{IsDatastore}
use Rattle.ipam_records.proofs.RowWrites.{sorted-filter}
use Rattle.ipam_store.specs.declared.route.Route.{Route}
use Rattle.ipam_store.specs.declared.change.Change.{Change}
use Rattle.ipam_store.specs.Route.{routes_of}
use Rattle.ipam_store.specs.Feed.{write_revision, store_after_writes, changes_of, changes_since, is_above, revision_or, floor_of, most_changes}
use Rattle.ipam_store.specs.FeedShape.{RingValue}
use Rattle.ipam_store.specs.Turned.{change_of, turned, turned_by, IsPreparedFor}
use Rattle.ipam_store.specs.Follows.{Follows}
use Rattle.ipam_store.specs.FeedKeeping.{AreKept}
use Rattle.ipam_store.proofs.FeedRows.{routes-listed}
use Rattle.ipam_store.proofs.Writes.{counter-written}
use Rattle.ipam_store.proofs.Histories.{changes-step, next_change, next_change_is, in_order, kept_since}

-- ---- one more change is kept, and the oldest of too many goes
abbrev pub kept_with : ℕ → Option Change → List Change → List Change
kept_with n None kept = kept
kept_with n (Some change) kept = change ∷ take n kept

abbrev pub floor_with : ℕ → Option Change → List Change → ℕ → ℕ
floor_with n None kept floor = floor
floor_with n (Some change) kept floor = revision_or floor (slice_get kept n)

take_fewer : {X : Type 0} (n : ℕ) (xs : List X) → take n (take (suc n) xs) ≡ take n xs
take_fewer zero [] = refl
take_fewer zero (x ∷ xs) = refl
take_fewer (suc n) [] = refl
take_fewer (suc n) (x ∷ xs) = ap (λ ys. x ∷ ys) (take_fewer n xs)

kept_step : (n : ℕ) (o : Option Change) (changes : List Change) → kept_with n o (take (suc n) changes) ≡ take (suc n) (cons_option o changes)
kept_step n None changes = refl
kept_step n (Some c) changes = ap (λ ys. c ∷ ys) (take_fewer n changes)

last_or : (n counter : ℕ) (changes : List Change) → revision_or (revision_or counter (slice_get changes (suc n))) (slice_get (take (suc n) changes) n) ≡ revision_or counter (slice_get changes n)
last_or zero counter [] = refl
last_or zero counter (c ∷ cs) = refl
last_or (suc n) counter [] = refl
last_or (suc n) counter (c ∷ cs) = last_or n counter cs

floor_step : (n counter : ℕ) (o : Option Change) (changes : List Change) → floor_with n o (take (suc n) changes) (revision_or counter (slice_get changes (suc n))) ≡ revision_or counter (slice_get (cons_option o changes) (suc n))
floor_step n counter None changes = refl
floor_step n counter (Some c) changes = last_or n counter changes

-- ---- the ring follows
-- the affinities of a datastore stand in order
pub listed-ascend : (base : Datastore) → IsDatastore base → IsStrictlySortedBy key_cmp (map row_key (rows_of_kind kind.Affinity base))
listed-ascend base sound = sorted-filter (λ row. is_of_kind kind.Affinity (row_key row)) base.rows sound.ascending

pub Follows-opened : (ring : RingValue) (base : Datastore) (rows : List (ℕ × Record)) → IsDatastore base → rows ≡ rows_of_kind kind.Affinity base → ring.routes ≡ routes_of rows → ring.changes ≡ [] → ring.floor ≡ base.counter → ring.counter ≡ base.counter → Follows ring base []
Follows-opened ring base rows sound is routes changes floor counter = record {
  ascending = sound.ascending;
  next = tt;
  routes = routes ∙ (ap routes_of is ∙ routes-listed base.rows);
  changes = changes;
  floor = floor;
  counter = counter;
}

-- what was pushed
pub record IsPushed (old new : RingValue) (write : Write) : Type 0 where
  pub routes : new.routes ≡ turned_by (change_of old.routes write) old.routes
  pub changes : new.changes ≡ kept_with 1023 (change_of old.routes write) old.changes
  pub floor : new.floor ≡ floor_with 1023 (change_of old.routes write) old.changes old.floor
  pub counter : new.counter ≡ write_revision write

pub Follows-pushed : (old new : RingValue) (write : Write) (base : Datastore) (writes : List Write) → Follows old base writes → IsPreparedFor old write → IsPushed old new write → Follows new base (write ∷ writes)
Follows-pushed old new write base writes follows prepared pushed =
    let change = next_change base write writes in
    let same : change_of old.routes write ≡ change = ap (λ routes. change_of routes write) follows.routes in
    let step = changes-step base follows.ascending write writes in
    record {
      ascending = follows.ascending;
      next = (prepared.next ∙ ap (λ n. n + 1) follows.counter, follows.next);
      routes = pushed.routes ∙ ((λ i. turned_by (same i) (follows.routes i)) ∙ sym (next_change_is base follows.ascending write writes).after_is);
      changes = pushed.changes ∙ ((λ i. kept_with 1023 (same i) (follows.changes i)) ∙ (kept_step 1023 change (changes_of base writes) ∙ sym (ap (take most_changes) step)));
      floor = pushed.floor ∙ ((λ i. floor_with 1023 (same i) (follows.changes i) (follows.floor i)) ∙ (floor_step 1023 base.counter change (changes_of base writes) ∙ sym (ap (floor_of base.counter) step)));
      counter = pushed.counter ∙ sym (counter-written (store_after_writes base writes) write);
    }

-- ---- what is kept is kept
all_taken : {X : Type 0} (P : X → Type 0) (n : ℕ) (xs : List X) → AllByRecursion P xs → AllByRecursion P (take n xs)
all_taken P zero xs all = tt
all_taken P (suc n) [] all = tt
all_taken P (suc n) (x ∷ xs) all = (all.0, all_taken P n xs all.1)

later_too : (low high : ℕ) → low ≤ high → (changes : List Change) → AllByRecursion (λ (c : Change). c.revision ≤ low) changes → AllByRecursion (λ (c : Change). c.revision ≤ high) changes
later_too low high h [] all = tt
later_too low high h (c ∷ cs) all = let first = all.0 in (omega arith, later_too low high h cs all.1)

floor_past : (n floor counter : ℕ) (changes : List Change) → floor ≤ counter → AllByRecursion (λ (c : Change). c.revision ≤ counter) changes → revision_or floor (slice_get changes n) ≤ counter
floor_past n floor counter [] h all = h
floor_past zero floor counter (c ∷ cs) h all = all.0
floor_past (suc n) floor counter (c ∷ cs) h all = floor_past n floor counter cs h all.1

pub AreKept-pushed : (changes : List Change) (floor counter : ℕ) (change : Change) → AreKept changes floor counter → counter ≤ change.revision → AreKept (change ∷ take 1023 changes) (revision_or floor (slice_get changes 1023)) change.revision
AreKept-pushed changes floor counter change kept le =
    let past = recursion_from_All (λ (c : Change). c.revision ≤ counter) changes kept.past in
    let later = later_too counter change.revision le changes past in
    let reached = floor_past 1023 floor counter changes kept.floor past in
    record {
      few = simp length-take (omega arith);
      past = All-from_recursion (λ (c : Change). c.revision ≤ change.revision) (change ∷ take 1023 changes) (omega arith, all_taken (λ (c : Change). c.revision ≤ change.revision) 1023 changes later);
      floor = omega arith;
    }

pub AreKept-later : (changes : List Change) (floor counter revision : ℕ) → AreKept changes floor counter → counter ≤ revision → AreKept changes floor revision
AreKept-later changes floor counter revision kept le =
    let past = recursion_from_All (λ (c : Change). c.revision ≤ counter) changes kept.past in
    let low = kept.floor in
    record {
      few = kept.few;
      past = All-from_recursion (λ (c : Change). c.revision ≤ revision) changes (later_too counter revision le changes past);
      floor = omega arith;
    }

pub AreKept-none : (counter : ℕ) → AreKept [] counter counter
AreKept-none counter = record { few = omega arith; past = All-from_recursion (λ (c : Change). c.revision ≤ counter) [] tt; floor = omega arith }

-- ---- a write that was prepared
pub next_known : (ready result : Option (Option Change)) (flat known : Option Change) → result ≡ ready → ready ≡ Some known → flat ≡ option_flatten result → flat ≡ known
next_known ready result flat known value is flattened = flattened ∙ (ap option_flatten value ∙ ap option_flatten is)

pub IsPushed-one : (old new : RingValue) (write : Write) (next change : Change) (route : Route) → Some next ≡ change_of old.routes write → change ≡ next → route ≡ next.route → new.routes ≡ turned change.up route old.routes → new.changes ≡ change ∷ take 1023 old.changes → new.floor ≡ revision_or old.floor (slice_get old.changes 1023) → new.counter ≡ write_revision write → IsPushed old new write
IsPushed-one old new write next change route known change_is route_is routes changes floor counter = record {
  routes = routes ∙ ((λ i. turned (change_is i).up (route_is i) old.routes) ∙ ap (λ o. turned_by o old.routes) known);
  changes = changes ∙ ((λ i. change_is i ∷ take 1023 old.changes) ∙ ap (λ o. kept_with 1023 o old.changes) known);
  floor = floor ∙ ap (λ o. floor_with 1023 o old.changes old.floor) known;
  counter = counter;
}

pub IsPushed-none : (old new : RingValue) (write : Write) → None ≡ change_of old.routes write → new.routes ≡ old.routes → new.changes ≡ old.changes → new.floor ≡ old.floor → new.counter ≡ write_revision write → IsPushed old new write
IsPushed-none old new write known routes changes floor counter = record {
  routes = routes ∙ ap (λ o. turned_by o old.routes) known;
  changes = changes ∙ ap (λ o. kept_with 1023 o old.changes) known;
  floor = floor ∙ ap (λ o. floor_with 1023 o old.changes old.floor) known;
  counter = counter;
}

-- ---- what is told
pub changes_told : (ring : RingValue) (base : Datastore) (writes : List Write) (revision : ℕ) → Follows ring base writes → ring.floor ≤ revision → reverse (take_while (is_above revision) ring.changes) ≡ changes_since base writes revision
changes_told ring base writes revision follows floor =
    ap (λ cs. reverse (take_while (is_above revision) cs)) follows.changes
    ∙ kept_since most_changes base.counter revision (changes_of base writes) (in_order base follows.ascending writes follows.next).fall (subst (λ f. f ≤ revision) follows.floor floor)
