-- The rows of a datastore as texts, sorted by their keys.
use Rattle.std.proofs.Common.{◌≡◌, ℕ, ◌+◌, ◌<◌, ◌≤◌, Bool, true, false, List, [], ◌∷◌, ◌++◌, map, length, take, get_or, Some, refl, sym, ap, ◌∙◌, subst, arith, inl, inr}
use Rattle.std.specs.Prelude.{bytes_eq, slice_get, unwrap_or}
use Rattle.std.proofs.lemmas.Option.{slice_get_within, unwrap_or-slice_get}
use Rattle.std.specs.Cmp.Lexicographic.{slice_cmp}
use Rattle.std.specs.Fn.{Called, ComparesAs}
use Rattle.std.specs.List.{All, AllByRecursion, IsDistinct}
use Rattle.std.specs.List.Sorted.{IsPermutation, IsSortedBy, IsStrictlySortedBy}
use Rattle.std.specs.Ordering.{nat_cmp, is_lt, is_eq, ordering_reverse}
use Rattle.std.specs.Cmp.{IsStrictWeakOrder}
use Rattle.std.specs.declared.cmp.Ordering.{Ordering}
use Rattle.std.specs.declared.cmp.Ordering.TheVariants.{Less, Equal, Greater}
use denote.Param.Members.{Mut}
use denote.Ref.{Bor}
use Rattle.std.proofs.lemmas.Bool.{cases_Bool}
use Rattle.std.proofs.lemmas.Cmp.{nat_list_cmp_total}
use Rattle.std.proofs.lemmas.Fn.{always_returns_same}
use Rattle.std.proofs.lemmas.List.{get_or-map, length-map, map_more}
use Rattle.std.proofs.lemmas.List.Elements.{All-head, All-map, All-tail}
use Rattle.std.proofs.lemmas.List.Sorted.{All-permutation, IsPermutation-map, ranks_by}
use Rattle.std.proofs.lemmas.Map.Keys.{IsDistinct-cons, IsDistinct-IsPermutation, apart_from_distinct, sorted_from_all_adjacent, sorted_head, sorted_tail}
use Rattle.std.proofs.lemmas.Map.Text.{is_eq-slice_cmp}
use Rattle.ipam_laws.proofs.Openings.{never-less}
use Rattle.ipam_json.proofs.Held.{bytes_eq-is, bytes_eq-itself}
use Rattle.ipam_records.specs.declared.call.Row.{Row as RowText}
use Rattle.ipam_records.specs.declared.key.Key.{Key}
use Rattle.ipam_records.specs.Datastore.{Datastore, last_revision, row_key}
use Rattle.ipam_records.specs.Key.{key_of}
use Rattle.ipam_records.specs.KeyOrder.{key_cmp}
use Rattle.ipam_records.specs.KeyText.{key_bytes}
use Rattle.ipam_records.specs.Sound.{IsDatastore, IsRow}
use Rattle.ipam_records.proofs.KeyTextLemmas.{key_bytes_injective}
use Rattle.ipam_records.proofs.RecordTexts.{IsKey-key_of}
use Rattle.ipam_model.specs.Opened.{AreByKey, IsTextOf, Texts, text_of, texts_of}
use Rattle.ipam_model.specs.Reads.{StoredRecord}

abbrev pub key_lt : RowText → RowText → Bool
key_lt one other = is_lt (slice_cmp nat_cmp one.key other.key)

-- what a sort by a comparison of keys says
pub sorted_by_key : {F : Type 0} {g : Mut F (Bor RowText × (Bor RowText × Unit {0})) Ordering} {f : F} (xs : List RowText)
    → ((lt : RowText → RowText → Bool) → IsStrictWeakOrder lt → ComparesAs g lt f → IsSortedBy lt xs)
    → ((a : Bor RowText × (Bor RowText × Unit {0})) (r : Ordering) (f' : F) → Called g f a r f' → (r ≡ slice_cmp nat_cmp a.0.now.key a.1.0.now.key) × (f' ≡ f))
    → IsSortedBy key_lt xs
sorted_by_key {g = g} {f = f} xs up h =
    up key_lt (ranks_by nat_list_cmp_total (λ (row : RowText). row.key))
    (always_returns_same g (λ a r. is_lt r ≡ key_lt a.0.now a.1.0.now) f (λ a r f' k. (ap is_lt (h a r f' k).0, (h a r f' k).1)))

-- ---- no two rows have one key text

abbrev text_key : RowText → List ℕ
text_key row = row.key

apart : (row other : StoredRecord) (counter : ℕ) → IsRow counter row → IsRow counter other → key_cmp (row_key row) (row_key other) ≡ Less
    → bytes_eq (key_bytes (row_key row)) (key_bytes (row_key other)) ≡ false
apart row other counter one two less = elim (cases_Bool (bytes_eq (key_bytes (row_key row)) (key_bytes (row_key other)))) [
  | inl same ↦
      let keys = key_bytes_injective (row_key row) (row_key other) (IsKey-key_of row.1 one.is_record) (IsKey-key_of other.1 two.is_record)
      (bytes_eq-is (key_bytes (row_key row)) (key_bytes (row_key other)) same) in
      absurd (never-less (row_key other) (subst (λ (k : Key). key_cmp k (row_key other) ≡ Less) keys less))
  | inr differ ↦ differ
]

apart_from : (row : StoredRecord) (counter : ℕ) → IsRow counter row → (rest : List StoredRecord) → All (IsRow counter) rest
    → AllByRecursion (λ k. key_cmp (row_key row) k ≡ Less) (map row_key rest)
    → AllByRecursion (λ text. bytes_eq (key_bytes (row_key row)) text ≡ false) (map text_key (map text_of rest))
apart_from row counter one [] all less = tt
apart_from row counter one (other ∷ rest) all less = (
  apart row other counter one (All-head (IsRow counter) other rest all) less.0,
  apart_from row counter one rest (All-tail (IsRow counter) other rest all) less.1,
)

distinct : (counter : ℕ) (rows : List StoredRecord) → All (IsRow counter) rows → IsStrictlySortedBy key_cmp (map row_key rows)
    → IsDistinct bytes_eq (map text_key (map text_of rows))
unfolding IsDistinct
distinct counter [] all sorted = tt
distinct counter (row ∷ rest) all sorted = (
  apart_from row counter (All-head (IsRow counter) row rest all) rest (All-tail (IsRow counter) row rest all) (sorted_head key_cmp (row_key row) (map row_key rest) sorted),
  distinct counter rest (All-tail (IsRow counter) row rest all) (sorted_tail key_cmp (row_key row) (map row_key rest) sorted),
)

-- ---- what is sorted and has no text twice ascends

flips : (x y : List ℕ) → bytes_eq x y ≡ bytes_eq y x
flips x y = elim (cases_Bool (bytes_eq x y)) [
  | inl same ↦ let e = bytes_eq-is x y same in same ∙ sym (subst (λ (z : List ℕ). bytes_eq y z ≡ true) (sym e) (bytes_eq-itself y))
  | inr differ ↦ elim (cases_Bool (bytes_eq y x)) [
    | inl same ↦ let e = bytes_eq-is y x same in absurd (by (subst (λ (z : List ℕ). bytes_eq x z ≡ false) e differ))
    | inr other ↦ differ ∙ sym other
  ]
]
  where
    by : bytes_eq x x ≡ false → ⊥
    by differ = let yes = bytes_eq-itself x in cc (yes, differ)

less : (a b : List ℕ) → is_lt (slice_cmp nat_cmp b a) ≡ false → bytes_eq a b ≡ false → slice_cmp nat_cmp a b ≡ Less
less a b not_below differ = by (slice_cmp nat_cmp a b) refl
  where
    by : (o : Ordering) → slice_cmp nat_cmp a b ≡ o → slice_cmp nat_cmp a b ≡ Less
    by Less is = is
    by Equal is = let tied = is_eq-slice_cmp a b in let e = ap is_eq is in absurd (cc (tied, e, differ))
    by Greater is =
        let back : slice_cmp nat_cmp b a ≡ Less = nat_list_cmp_total.antisymm b a ∙ ap ordering_reverse is in
        let below = ap is_lt back in absurd (cc (below, not_below))

nothing : RowText
nothing = record { key = []; revision = 0; body = [] }

ascends : (rows : List RowText) → IsSortedBy key_lt rows → IsDistinct bytes_eq (map text_key rows) → AreByKey rows
ascends rows sorted differ = sorted_from_all_adjacent nat_list_cmp_total (map text_key rows) [] (λ k within.
    let many = length-map rows text_key in
    let lt : k + 1 < length rows = omega arith in
    let one : get_or (map text_key rows) k [] ≡ (get_or rows k nothing).key = get_or-map text_key rows k nothing [] (omega arith) in
    let two : get_or (map text_key rows) (k + 1) [] ≡ (get_or rows (k + 1) nothing).key = get_or-map text_key rows (k + 1) nothing [] lt in
    let below : is_lt (slice_cmp nat_cmp (get_or rows (k + 1) nothing).key (get_or rows k nothing).key) ≡ false = sorted k nothing (omega arith) lt in
    let other = apart_from_distinct bytes_eq (map text_key rows) k (k + 1) [] differ (omega arith) within in
    less (get_or (map text_key rows) k []) (get_or (map text_key rows) (k + 1) [])
    (ap (λ x. is_lt (slice_cmp nat_cmp x (get_or (map text_key rows) k []))) two ∙ ap (λ x. is_lt (slice_cmp nat_cmp (get_or rows (k + 1) nothing).key x)) one ∙ below) other)

-- the rows of a datastore ascend once they are sorted
pub sorted_ascend : (store : Datastore) (given rows : List RowText) → IsDatastore store → given ≡ texts_of store → IsPermutation given rows
    → IsSortedBy key_lt rows → AreByKey rows
sorted_ascend store given rows sound is moved sorted =
    ascends rows sorted
    (IsDistinct-IsPermutation bytes_eq flips (map text_key given) (map text_key rows) (IsPermutation-map text_key given rows moved)
    (subst (λ (xs : List RowText). IsDistinct bytes_eq (map text_key xs)) (sym is) (distinct store.counter store.rows sound.rows sound.ascending)))

-- ---- they are the text of the datastore

row_given : (counter : ℕ) (rows : List StoredRecord) → All (IsRow counter) rows → All (λ (row : StoredRecord). row.0 ≤ counter) rows
row_given counter rows all = λ k d within. (all k d within).given

pub is_text : (store : Datastore) (rows : List RowText) → IsDatastore store → IsPermutation (texts_of store) rows → AreByKey rows
    → IsTextOf (record { rows = rows; counter = store.counter }) store
is_text store rows sound moved by_key = record {
  by_key = by_key;
  same_rows = moved;
  counter = record {
    above = All-permutation (λ (row : RowText). row.revision ≤ store.counter) (texts_of store) rows moved
        (All-map (λ (row : RowText). row.revision ≤ store.counter) text_of store.rows (row_given store.counter store.rows sound.rows));
    below_last = sound.counted;
  };
}

-- ---- one row after the other

pub one_more : (rows : List StoredRecord) (place : ℕ) (row : StoredRecord) → slice_get rows place ≡ Some row
    → map text_of (take (place + 1) rows) ≡ map text_of (take place rows) ++ text_of row ∷ []
one_more rows place row there =
    let at : get_or rows place row ≡ row = sym (unwrap_or-slice_get rows place row) ∙ ap (λ o. unwrap_or o row) there in
    map_more text_of rows place row (slice_get_within rows place row there) ∙ ap (λ r. map text_of (take place rows) ++ text_of r ∷ []) at
