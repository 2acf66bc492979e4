-- Rows that are gathered.
use Rattle.std.proofs.Common.{◌≡◌, ◌≢◌, ℕ, Bool, true, false, cond, ◌||◌, List, [], ◌∷◌, ◌++◌, map, Option, Some, None, BTreeMap, append_assoc, append-nil, refl, sym, ap, ap₂, ◌∙◌, subst, arith, nat_lt}
use Rattle.std.specs.Prelude.{◌↔◌, Result, Ok, Err, bytes_eq, is_some}
use Rattle.std.specs.declared.cmp.Ordering.{Ordering}
use Rattle.std.specs.declared.cmp.Ordering.TheVariants.{Less, Equal, Greater}
use Rattle.std.specs.BTreeMap.{get, insert_entry, is_at}
use Rattle.std.specs.Ordering.{is_eq, match_ordering}
use Rattle.std.specs.List.{list_any}
use Rattle.std.specs.List.Sorted.{IsPermutation, IsStrictlySortedBy}
use Rattle.std.specs.Map.{keys_of, lookup}
use Rattle.std.proofs.lemmas.Bool.{false≢true}
use Rattle.std.proofs.lemmas.Bool.Decides.{nat_tests}
use Rattle.std.proofs.lemmas.List.Sorted.{IsPermutation-insert, IsPermutation-refl, IsPermutation-to_front, IsPermutation-cons, IsPermutation-trans, list_any-IsPermutation}
use Rattle.std.proofs.lemmas.Map.Text.{is_eq-slice_cmp}
use Rattle.std.proofs.lemmas.Simd.{map-map}
use Rattle.ipam_records.specs.declared.call.Row.{Row}
use Rattle.ipam_model.specs.Opened.{AreByKey}
use Rattle.ipam_keeper.specs.Rows.{text_cmp}
use Rattle.ipam_play.specs.declared.gathering.Content.{Content}
use Rattle.ipam_play.specs.declared.gathering.Counter.{Counter}
use Rattle.ipam_play.specs.declared.gathering.Counter.TheVariants.{Greatest, Given}
use Rattle.ipam_play.specs.declared.fault.PlayFault.{PlayFault}
use Rattle.ipam_play.specs.declared.fault.PlayFault.TheVariants as fault
use Rattle.ipam_play.specs.declared.gathering.Gathering.{Gathering}
use Rattle.ipam_play.specs.Gathering.{Gathers, counter_from, raised, row_gathered, rows_gathered}
use Rattle.ipam_play.specs.Played.{counter_of, greatest_of_base}
use Rattle.ipam_play.specs.Script.{Gathered, rows_have_key, nothing_gathered, with_counter, with_base_row}

-- ---- keys

-- the value of the key is there where a row has the key
is_found : (entries : List (List ℕ × Content)) (key : List ℕ) → is_some (lookup (is_at (text_cmp key)) entries) ≡ list_any (λ (row : Row). bytes_eq key row.key) (map row_gathered entries)
is_found [] key = refl
is_found (e ∷ es) key =
    by (is_eq (text_cmp key e.0)) (is_found es key)
    ∙ ap (λ (b : Bool). b || list_any (λ (row : Row). bytes_eq key row.key) (map row_gathered es)) (is_eq-slice_cmp key e.0)
  where
    by : (b : Bool) → is_some (lookup (is_at (text_cmp key)) es) ≡ list_any (λ (row : Row). bytes_eq key row.key) (map row_gathered es)
        → is_some (cond b (Some e.1) (lookup (is_at (text_cmp key)) es)) ≡ (b || list_any (λ (row : Row). bytes_eq key row.key) (map row_gathered es))
    by true rest = refl
    by false rest = rest

pub key_given : (rows : BTreeMap (List ℕ) Content) (given : List Row) (key : List ℕ) → IsPermutation given (rows_gathered rows) → is_some (get text_cmp rows key) ≡ rows_have_key key given
key_given rows given key same = is_found rows.entries key ∙ sym (list_any-IsPermutation (λ (row : Row). bytes_eq key row.key) given (rows_gathered rows) same)

-- ---- a row that was not given before

pub ok_not_again : {T : Type 0} (done : T) → Ok done ≡ Err fault.Base → ⊥
ok_not_again done e = cc e

pub memory_not_again : {T : Type 0} (result : Result T PlayFault) → result ≡ Err fault.Memory → result ≡ Err fault.Base → ⊥
memory_not_again result memory again = cc (sym memory ∙ again)

pub not_again : {T : Type 0} (result : Result T PlayFault) (rows : BTreeMap (List ℕ) Content) (given : List Row) (key : List ℕ) (found : Bool)
    → IsPermutation given (rows_gathered rows) → found ≡ is_some (get text_cmp rows key) → found ≡ false → (result ≡ Err fault.Base → ⊥)
    → (result ≡ Err fault.Base) ↔ (rows_have_key key given ≡ true)
not_again result rows given key found same is never other =
    (λ e. absurd (other e), λ e. absurd (false≢true (sym never ∙ is ∙ key_given rows given key same ∙ e)))

-- ---- lists of rows

-- the keys of the rows ascend as those of the entries
pub by_key : (entries : List (List ℕ × Content)) → IsStrictlySortedBy text_cmp (keys_of entries) → AreByKey (map row_gathered entries)
by_key entries ordered = subst (IsStrictlySortedBy text_cmp) (sym (map-map (λ (row : Row). row.key) row_gathered entries)) ordered

-- the rows so far, and those of the entries that are left
pub listed_more : (e : List ℕ × Content) (row : Row) (done after whole : List Row) (entries left : List (List ℕ × Content))
    → entries ≡ e ∷ left → row ≡ row_gathered e → after ≡ done ++ row ∷ [] → done ++ map row_gathered entries ≡ whole
    → after ++ map row_gathered left ≡ whole
listed_more e row done after whole entries left step is pushed h =
    ap (λ (l : List Row). l ++ map row_gathered left) pushed
    ∙ append_assoc done (row ∷ []) (map row_gathered left)
    ∙ ap (λ (r : Row). done ++ r ∷ map row_gathered left) is
    ∙ sym (ap (λ (l : List (List ℕ × Content)). done ++ map row_gathered l) step)
    ∙ h

pub listed_all : (done whole : List Row) (entries : List (List ℕ × Content)) → entries ≡ [] → done ++ map row_gathered entries ≡ whole → done ≡ whole
listed_all done whole entries end h =
    sym (append-nil done) ∙ sym (ap (λ (l : List (List ℕ × Content)). done ++ map row_gathered l) end) ∙ h

-- a content at a new key is one row more
pub one_more : (entries : List (List ℕ × Content)) (key : List ℕ) (content : Content) → is_some (lookup (is_at (text_cmp key)) entries) ≡ false
    → IsPermutation (row_gathered (key, content) ∷ map row_gathered entries) (map row_gathered (insert_entry text_cmp entries key content))
one_more [] key content none = IsPermutation-refl (row_gathered (key, content) ∷ [])
one_more (e ∷ es) key content none = by (text_cmp key e.0) (one_more es key content) none
  where
    by : (o : Ordering) → (is_some (lookup (is_at (text_cmp key)) es) ≡ false → IsPermutation (row_gathered (key, content) ∷ map row_gathered es) (map row_gathered (insert_entry text_cmp es key content)))
        → is_some (cond (is_eq o) (Some e.1) (lookup (is_at (text_cmp key)) es)) ≡ false
        → IsPermutation (row_gathered (key, content) ∷ row_gathered e ∷ map row_gathered es) (map row_gathered (match_ordering o ((key, content) ∷ e ∷ es) ((e.0, content) ∷ es) (e ∷ insert_entry text_cmp es key content)))
    by Less rest h = IsPermutation-refl (row_gathered (key, content) ∷ row_gathered e ∷ map row_gathered es)
    by Equal rest h = absurd (cc h)
    by Greater rest h =
        IsPermutation-trans _ _ _ (IsPermutation-insert (row_gathered e ∷ map row_gathered es) 1 (row_gathered (key, content)))
        (IsPermutation-cons (row_gathered e) _ _ (rest h))

-- a map with the copy of a row whose key is new
pub inserted : (old new : BTreeMap (List ℕ) Content) (row : Row) (key body : List ℕ) → key ≡ row.key → body ≡ row.body
    → new.entries ≡ insert_entry text_cmp old.entries key (record { revision = row.revision; body = body }) → is_some (get text_cmp old row.key) ≡ false
    → IsPermutation (row ∷ rows_gathered old) (rows_gathered new)
inserted old new row key body same_key same_body is none =
    subst (λ (l : List (List ℕ × Content)). IsPermutation (row ∷ rows_gathered old) (map row_gathered l))
    (sym (is ∙ ap₂ (λ (k b : List ℕ). insert_entry text_cmp old.entries k (record { revision = row.revision; body = b })) same_key same_body))
    (one_more old.entries row.key (record { revision = row.revision; body = row.body }) none)

-- ---- counters

greatest-more : (rows : List Row) (row : Row) → greatest_of_base (rows ++ row ∷ []) ≡ cond (nat_lt (greatest_of_base rows) row.revision) row.revision (greatest_of_base rows)
unfolding greatest_of_base
greatest-more [] row = refl
greatest-more (first ∷ rows) row = ap (λ (n : ℕ). cond (nat_lt n first.revision) first.revision n) (greatest-more rows row) ∙ three (greatest_of_base rows) first.revision row.revision
  where
    three : (a b c : ℕ) → cond (nat_lt (cond (nat_lt a c) c a) b) b (cond (nat_lt a c) c a) ≡ cond (nat_lt (cond (nat_lt a b) b a) c) c (cond (nat_lt a b) b a)
    three a b c = grind (arith, nat_tests)

raised-counter : (gathered : Gathered) (row : Row) → raised (counter_from gathered.counter) (counter_of gathered) row.revision ≡ counter_of (with_base_row row gathered)
raised-counter gathered row = by gathered.counter
  where
    of : Option ℕ → Gathered
    of counter = record { rows = gathered.rows; counter = counter }

    by : (counter : Option ℕ) → raised (counter_from counter) (counter_of (of counter)) row.revision ≡ counter_of (with_base_row row (of counter))
    by None = sym (greatest-more gathered.rows row)
    by (Some counter) = refl

-- ---- what is gathered

pub gathers_row : (old new : Gathering) (gathered : Gathered) (row : Row) → Gathers old gathered
    → IsPermutation (row ∷ rows_gathered old.rows) (rows_gathered new.rows) → new.counter ≡ raised old.from old.counter row.revision → new.from ≡ old.from
    → Gathers new (with_base_row row gathered)
gathers_row old new gathered row h rows counter from = record {
  same_rows =
      IsPermutation-trans _ _ _ (IsPermutation-to_front gathered.rows row)
      (IsPermutation-trans _ _ _ (IsPermutation-cons row gathered.rows (rows_gathered old.rows) h.same_rows) rows);
  counter = counter
      ∙ ap₂ (λ (c : Counter) (n : ℕ). raised c n row.revision) h.from h.counter
      ∙ raised-counter gathered row;
  from = from ∙ h.from;
}

-- the same rows and the same counter
pub gathers_same : (old new : Gathering) (gathered : Gathered) → Gathers old gathered → rows_gathered new.rows ≡ rows_gathered old.rows → new.counter ≡ old.counter → new.from ≡ old.from → Gathers new gathered
gathers_same old new gathered h rows counter from = record {
  same_rows = subst (λ (l : List Row). IsPermutation gathered.rows l) (sym rows) h.same_rows;
  counter = counter ∙ h.counter;
  from = from ∙ h.from;
}

pub gathers_counter : (old new : Gathering) (gathered : Gathered) (counter : ℕ) → Gathers old gathered → rows_gathered new.rows ≡ rows_gathered old.rows → new.counter ≡ counter → new.from ≡ Given → Gathers new (with_counter counter gathered)
gathers_counter old new gathered counter h rows is from = record {
  same_rows = subst (λ (l : List Row). IsPermutation gathered.rows l) (sym rows) h.same_rows;
  counter = is;
  from = from;
}

pub was_given : (gathering : Gathering) (gathered : Gathered) → Gathers gathering gathered → gathering.from ≡ Given → is_some gathered.counter ≡ true
was_given gathering gathered h given = by gathered.counter (sym h.from ∙ given)
  where
    by : (o : Option ℕ) → counter_from o ≡ Given → is_some o ≡ true
    by None e = absurd (cc e)
    by (Some counter) e = refl

pub was_not_given : (gathering : Gathering) (gathered : Gathered) → Gathers gathering gathered → gathering.from ≢ Given → is_some gathered.counter ≡ false
was_not_given gathering gathered h never = by gathered.counter h.from
  where
    by : (o : Option ℕ) → gathering.from ≡ counter_from o → is_some o ≡ false
    by None e = refl
    by (Some counter) e = absurd (never e)

-- ---- no line was read

pub gathers_nothing : (gathering : Gathering) → gathering.rows.entries ≡ [] → gathering.counter ≡ 0 → gathering.from ≡ Greatest → Gathers gathering nothing_gathered
unfolding greatest_of_base
gathers_nothing gathering none zero from = record {
  same_rows = subst (λ (l : List (List ℕ × Content)). IsPermutation [] (map row_gathered l)) (sym none) (IsPermutation-refl []);
  counter = zero;
  from = from;
}
