-- Data built of lists is canonical where its parts are, and gives the lists back.
use Rattle.std.proofs.Common.{◌≡◌, ℕ, zero, suc, ◌^◌, ◌<◌, ◌≤◌, List, [], ◌∷◌, ◌++◌, length, map, Bool, Some, option_map, option_and_then, Less, Equal, Greater, Ordering, nat_cmp, string_cmp, string_bytes, refl, sym, ap, ◌∙◌, subst, arith}
use Rattle.std.proofs.lemmas.Cmp.{nat_list_cmp_total, tied_itself}
use Rattle.std.specs.Cmp.Lexicographic.{slice_cmp}
use Rattle.std.specs.List.{All, AllByRecursion, slice_get}
use Rattle.std.specs.List.Sorted.{IsStrictlySortedBy}
use Rattle.std.specs.Map.{keys_of}
use Rattle.std.specs.Ordering.{ordering_reverse, match_ordering}
use Rattle.serde_json.specs.Data.{unsigned, Data, null, boolean, number, string, object, Members, no_members, member, put, depth, items_depth, members_depth}
use Rattle.serde_json.specs.Find.{get_member, get_item, get}
use Rattle.serde_json.specs.Read.{read, max_depth}
use Rattle.serde_json.specs.View.{items_of, items_view, members_view, view}
use Rattle.serde_json.specs.Written.{compact_text}
use Rattle.serde_json.specs.declared.value.Value.{Value}
use Rattle.serde_json.proofs.Views.{Entry}
use Rattle.ipam_json.specs.Built.{Field, array_of, members_from, object_of, item_list, member_list, items_in, members_in, fields_of, names, IsAscending, Count, counts_object, counts_from, counts_in}
use Rattle.ipam_json.proofs.ReadsBack.{read-compact_text}
use Rattle.ipam_json.specs.Canonical.{IsBeforeFirst, IsRegular, ItemsAreRegular, MembersAreRegular, IsCanonicalWithin}

-- ---- each kind of data

pub IsCanonicalWithin-more : (levels more : ℕ) (d : Data) → levels ≤ more → IsCanonicalWithin levels d → IsCanonicalWithin more d
IsCanonicalWithin-more levels more d fewer h = record { regular = h.regular; shallow = omega arith }

pub IsCanonicalWithin-null : (levels : ℕ) → IsCanonicalWithin levels null
IsCanonicalWithin-null levels = record { regular = tt; shallow = omega arith }

pub IsCanonicalWithin-boolean : (levels : ℕ) (b : Bool) → IsCanonicalWithin levels (boolean b)
IsCanonicalWithin-boolean levels b = record { regular = tt; shallow = omega arith }

pub IsCanonicalWithin-number : (levels n : ℕ) → n < 2 ^ 64 → IsCanonicalWithin levels (number (unsigned n))
IsCanonicalWithin-number levels n h = record { regular = h; shallow = omega arith }

pub IsCanonicalWithin-string : (levels : ℕ) (s : List ℕ) → IsCanonicalWithin levels (string s)
IsCanonicalWithin-string levels s = record { regular = tt; shallow = omega arith }

items_canonical : (levels : ℕ) (ds : List Data) → AllByRecursion (IsCanonicalWithin levels) ds → ItemsAreRegular (items_of ds) × (items_depth (items_of ds) ≤ levels)
items_canonical levels [] h = (tt, omega arith)
items_canonical levels (d ∷ ds) h = let more = items_canonical levels ds h.1 in let first = h.0.shallow in ((h.0.regular, more.0), omega (arith, more.1, first))

pub IsCanonicalWithin-array : (levels more : ℕ) (ds : List Data) → levels < more → AllByRecursion (IsCanonicalWithin levels) ds → IsCanonicalWithin more (array_of ds)
IsCanonicalWithin-array levels more ds fewer h = let all = items_canonical levels ds h in record { regular = all.0; shallow = omega (arith, all.1) }

before_first : (k : List ℕ) (ms : List Field) → IsAscending (k ∷ names ms) → IsBeforeFirst k (members_from ms)
before_first k [] h = tt
before_first k (m ∷ ms) h = h.0

pub IsAscending-rest : (k : List ℕ) (ks : List (List ℕ)) → IsAscending (k ∷ ks) → IsAscending ks
IsAscending-rest k [] h = tt
IsAscending-rest k (l ∷ ks) h = h.1

members_canonical : (levels : ℕ) (ms : List Field) → IsAscending (names ms) → AllByRecursion (λ m. IsCanonicalWithin levels m.1) ms → MembersAreRegular (members_from ms) × (members_depth (members_from ms) ≤ levels)
members_canonical levels [] up h = (tt, omega arith)
members_canonical levels (m ∷ ms) up h =
    let more = members_canonical levels ms (IsAscending-rest m.0 (names ms) up) h.1 in
    let first = h.0.shallow in
    ((before_first m.0 ms up, h.0.regular, more.0), omega (arith, more.1, first))

pub IsCanonicalWithin-object : (levels more : ℕ) (ms : List Field) → levels < more → IsAscending (names ms) → AllByRecursion (λ m. IsCanonicalWithin levels m.1) ms → IsCanonicalWithin more (object_of ms)
IsCanonicalWithin-object levels more ms fewer up h = let all = members_canonical levels ms up h in record { regular = all.0; shallow = omega (arith, all.1) }

-- each element, by recursion
pub AllByRecursion-All : {X : Type 0} (P : X → Type 0) (xs : List X) → All P xs → AllByRecursion P xs
AllByRecursion-All P [] h = tt
AllByRecursion-All P (x ∷ xs) h = (h 0 x (omega arith), AllByRecursion-All P xs (λ k d less. h (suc k) d (omega arith)))

pub AllByRecursion-map : {X Y : Type 0} (P : Y → Type 0) (f : X → Y) (xs : List X) → ((x : X) → P (f x)) → AllByRecursion P (map f xs)
AllByRecursion-map P f [] h = tt
AllByRecursion-map P f (x ∷ xs) h = (h x, AllByRecursion-map P f xs h)

-- ---- the lists come back

pub item_list-items_of : (ds : List Data) → item_list (items_of ds) ≡ ds
item_list-items_of [] = refl
item_list-items_of (d ∷ ds) = ap (λ l. d ∷ l) (item_list-items_of ds)

pub items_in-array_of : (ds : List Data) → items_in (array_of ds) ≡ Some ds
items_in-array_of ds = ap Some (item_list-items_of ds)

pub get_item-items_of : (ds : List Data) (i : ℕ) → get_item i (items_of ds) ≡ slice_get ds i
get_item-items_of [] zero = refl
get_item-items_of [] (suc i) = refl
get_item-items_of (d ∷ ds) zero = refl
get_item-items_of (d ∷ ds) (suc i) = get_item-items_of ds i

pub member_list-members_from : (ms : List Field) → member_list (members_from ms) ≡ ms
member_list-members_from [] = refl
member_list-members_from (m ∷ ms) = ap (λ l. m ∷ l) (member_list-members_from ms)

pub members_in-object_of : (ms : List Field) → members_in (object_of ms) ≡ Some ms
members_in-object_of ms = ap Some (member_list-members_from ms)

-- ---- a member is found by its name

-- the first of ascending names comes before each later one
first_before : (k : List ℕ) (ms : List Field) → IsAscending (k ∷ names ms) → (i : ℕ) (m : Field) → slice_get ms i ≡ Some m → slice_cmp nat_cmp k m.0 ≡ Less
first_before k [] up i m e = absurd cc
first_before k (n ∷ ms) up zero m e = let same : n ≡ m = cc in subst (λ l. slice_cmp nat_cmp k l ≡ Less) (ap (λ f. f.0) same) up.0
first_before k (n ∷ ms) up (suc i) m e = nat_list_cmp_total.trans k n.0 m.0 up.0 (first_before n.0 ms up.1 i m e)

pub get_member-members_from : (ms : List Field) → IsAscending (names ms) → (i : ℕ) (m : Field) → slice_get ms i ≡ Some m → get_member m.0 (members_from ms) ≡ Some m.1
get_member-members_from [] up i m e = absurd cc
get_member-members_from (n ∷ ms) up zero m e =
    let same : n ≡ m = cc in
    let level : slice_cmp nat_cmp m.0 n.0 ≡ Equal = ap (λ f. slice_cmp nat_cmp m.0 f.0) same ∙ tied_itself nat_list_cmp_total m.0 in
    rw level (ap (λ f. Some f.1) same)
get_member-members_from (n ∷ ms) up (suc i) m e =
    let above : slice_cmp nat_cmp m.0 n.0 ≡ Greater = nat_list_cmp_total.antisymm m.0 n.0 ∙ ap ordering_reverse (first_before n.0 ms up i m e) in
    rw above (get_member-members_from ms (IsAscending-rest n.0 (names ms) up) i m e)

pub get-object_of : (ms : List Field) → IsAscending (names ms) → (i : ℕ) (m : Field) → slice_get ms i ≡ Some m → get m.0 (object_of ms) ≡ Some m.1
get-object_of ms up i m e = get_member-members_from ms up i m e

-- ---- one more member or item

IsBeforeFirst-put_at : (o : Ordering) (m k l : List ℕ) (d e : Data) (ms : Members) → slice_cmp nat_cmp m k ≡ Less → slice_cmp nat_cmp m l ≡ Less
    → IsBeforeFirst m (match_ordering o (member k d (member l e ms)) (member l d ms) (member l e (put k d ms)))
IsBeforeFirst-put_at Less m k l d e ms new old = new
IsBeforeFirst-put_at Equal m k l d e ms new old = old
IsBeforeFirst-put_at Greater m k l d e ms new old = old

IsBeforeFirst-put : (m k : List ℕ) (d : Data) (ms : Members) → slice_cmp nat_cmp m k ≡ Less → IsBeforeFirst m ms → IsBeforeFirst m (put k d ms)
IsBeforeFirst-put m k d no_members new old = new
IsBeforeFirst-put m k d (member l e ms) new old = IsBeforeFirst-put_at (slice_cmp nat_cmp k l) m k l d e ms new old

-- what holds of members that ascend and of their data holds with one more
module _ (IsGood : Data → Type 0) (AreGood : Members → Type 0) (none : AreGood no_members) (more : (k : List ℕ) (d : Data) (ms : Members) → IsBeforeFirst k ms → IsGood d → AreGood ms → AreGood (member k d ms)) (parts : (k : List ℕ) (d : Data) (ms : Members) → AreGood (member k d ms) → IsBeforeFirst k ms × IsGood d × AreGood ms) where
  good-put_at : (o : Ordering) (k l : List ℕ) (d e : Data) (ms : Members) → slice_cmp nat_cmp k l ≡ o → IsGood d → AreGood (member l e ms) → AreGood (put k d ms) → AreGood (match_ordering o (member k d (member l e ms)) (member l d ms) (member l e (put k d ms)))
  good-put_at Less k l d e ms is value old later = more k d (member l e ms) is value old
  good-put_at Equal k l d e ms is value old later = let p = parts l e ms old in more l d ms p.0 value p.2
  good-put_at Greater k l d e ms is value old later =
      let p = parts l e ms old in
      more l e (put k d ms) (IsBeforeFirst-put l k d ms (nat_list_cmp_total.antisymm l k ∙ ap ordering_reverse is) p.0) p.1 later

  pub good-put : (k : List ℕ) (d : Data) (ms : Members) → IsGood d → AreGood ms → AreGood (put k d ms)
  good-put k d no_members value old = more k d no_members tt value none
  good-put k d (member l e ms) value old = good-put_at _ k l d e ms refl value old (good-put k d ms value (parts l e ms old).2)

pub MembersAreRegular-put : (k : List ℕ) (d : Data) (ms : Members) → IsRegular d → MembersAreRegular ms → MembersAreRegular (put k d ms)
MembersAreRegular-put = good-put IsRegular MembersAreRegular tt (λ k d ms before value old. (before, value, old)) (λ k d ms h. h)

members_depth-put_at : (o : Ordering) (levels : ℕ) (k l : List ℕ) (d e : Data) (ms : Members) → depth d ≤ levels → members_depth (member l e ms) ≤ levels → members_depth (put k d ms) ≤ levels
    → members_depth (match_ordering o (member k d (member l e ms)) (member l d ms) (member l e (put k d ms))) ≤ levels
members_depth-put_at Less levels k l d e ms value old later = omega arith
members_depth-put_at Equal levels k l d e ms value old later = omega arith
members_depth-put_at Greater levels k l d e ms value old later = omega arith

members_depth-put : (levels : ℕ) (k : List ℕ) (d : Data) (ms : Members) → depth d ≤ levels → members_depth ms ≤ levels → members_depth (put k d ms) ≤ levels
members_depth-put levels k d no_members value old = omega arith
members_depth-put levels k d (member l e ms) value old = members_depth-put_at (slice_cmp nat_cmp k l) levels k l d e ms value old (members_depth-put levels k d ms value (omega arith))

-- a member that is put in keeps the object canonical, wherever its name goes
pub IsCanonicalWithin-put : (levels more : ℕ) (k : List ℕ) (d : Data) (ms : Members) → levels < more → IsCanonicalWithin levels d → IsCanonicalWithin more (object ms) → IsCanonicalWithin more (object (put k d ms))
IsCanonicalWithin-put levels zero k d ms fewer value old = absurd (omega arith)
IsCanonicalWithin-put levels (suc more) k d ms fewer value old =
    let deep = members_depth-put more k d ms (omega (arith, value.shallow)) (omega (arith, old.shallow)) in
    record { regular = MembersAreRegular-put k d ms value.regular old.regular; shallow = omega arith }

slice_get-last : (ms : List Field) (m : Field) → slice_get (ms ++ m ∷ []) (length ms) ≡ Some m
slice_get-last [] m = refl
slice_get-last (n ∷ ms) m = slice_get-last ms m

-- a name after all the others goes last
pub put-members_from : (ms : List Field) (k : List ℕ) (d : Data) → IsAscending (names (ms ++ (k, d) ∷ [])) → put k d (members_from ms) ≡ members_from (ms ++ (k, d) ∷ [])
put-members_from [] k d up = refl
put-members_from (m ∷ ms) k d up =
    let above : slice_cmp nat_cmp k m.0 ≡ Greater = nat_list_cmp_total.antisymm k m.0 ∙ ap ordering_reverse (first_before m.0 (ms ++ (k, d) ∷ []) up (length ms) (k, d) (slice_get-last ms (k, d))) in
    rw above (ap (member m.0 m.1) (put-members_from ms k d (IsAscending-rest m.0 _ up)))

map-push : (vs : List Value) (v : Value) → map view (vs ++ v ∷ []) ≡ map view vs ++ view v ∷ []
map-push [] v = refl
map-push (w ∷ vs) v = ap (λ l. view w ∷ l) (map-push vs v)

pub items_view-push : (vs : List Value) (v : Value) → items_view (vs ++ v ∷ []) ≡ items_of (map view vs ++ view v ∷ [])
items_view-push vs v = ap items_of (map-push vs v)

-- ---- a map of counts

abbrev count_field : Count → Field
count_field c = (c.0, number (unsigned c.1))

names-counts : (cs : List Count) → names (map count_field cs) ≡ names cs
names-counts [] = refl
names-counts (c ∷ cs) = ap (λ l. c.0 ∷ l) (names-counts cs)

counts_canonical : (cs : List Count) → AllByRecursion (λ c. c.1 < 2 ^ 64) cs → AllByRecursion (λ m. IsCanonicalWithin 0 m.1) (map count_field cs)
counts_canonical [] h = tt
counts_canonical (c ∷ cs) h = (IsCanonicalWithin-number 0 c.1 h.0, counts_canonical cs h.1)

pub IsCanonicalWithin-counts : (levels : ℕ) (cs : List Count) → 0 < levels → IsAscending (names cs) → AllByRecursion (λ c. c.1 < 2 ^ 64) cs → IsCanonicalWithin levels (counts_object cs)
IsCanonicalWithin-counts levels cs some up h =
    IsCanonicalWithin-object 0 levels (map count_field cs) some (subst IsAscending (sym (names-counts cs)) up) (counts_canonical cs h)

counts_from-counts : (cs : List Count) → counts_from (members_from (map count_field cs)) ≡ Some cs
counts_from-counts [] = refl
counts_from-counts (c ∷ cs) = ap (option_map (λ l. c ∷ l)) (counts_from-counts cs)

pub counts_in-counts_object : (cs : List Count) → counts_in (counts_object cs) ≡ Some cs
counts_in-counts_object cs = counts_from-counts cs

-- a map of counts is read from its text
pub counts_in-read : (cs : List Count) → IsAscending (names cs) → AllByRecursion (λ c. c.1 < 2 ^ 64) cs → option_and_then counts_in (read (compact_text (counts_object cs))) ≡ Some cs
counts_in-read cs up h =
    ap (option_and_then counts_in) (read-compact_text (counts_object cs) (IsCanonicalWithin-counts max_depth cs (omega arith) up h)) ∙ counts_in-counts_object cs

-- ---- what the parts of a `Value` stand for

pub item_list-items_view : (vs : List Value) → item_list (items_view vs) ≡ map view vs
item_list-items_view vs = item_list-items_of (map view vs)

pub member_list-members_view : (es : List Entry) → member_list (members_view es) ≡ fields_of es
member_list-members_view [] = refl
member_list-members_view (e ∷ es) = ap (λ l. (string_bytes e.0, view e.1) ∷ l) (member_list-members_view es)

pub IsAscending-fields_of : (es : List Entry) → IsStrictlySortedBy string_cmp (keys_of es) → IsAscending (names (fields_of es))
unfolding IsStrictlySortedBy
IsAscending-fields_of [] h = tt
IsAscending-fields_of (e ∷ []) h = tt
IsAscending-fields_of (e ∷ f ∷ es) h = (h.0.0, IsAscending-fields_of (f ∷ es) h.1)
