-- What is found by the text of a key.
use Rattle.std.proofs.Common.{◌≡◌, ◌≢◌, ℕ, zero, suc, inl, inr, true, cond, List, [], ◌∷◌, map, get_or, Option, Some, None, Result, Ok, Err, refl, sym, ap, ◌∙◌, subst, bytes_eq, option_map}
use Rattle.std.specs.Prelude.{Contains, slice_get}
use Rattle.std.specs.declared.cmp.Ordering.{Ordering}
use Rattle.std.specs.declared.cmp.Ordering.TheVariants.{Less, Equal, Greater}
use Rattle.std.specs.Cmp.{tied_itself}
use Rattle.std.specs.Cmp.Lexicographic.{slice_cmp}
use Rattle.std.specs.List.{AllByRecursion, cons_option}
use Rattle.std.specs.List.Sorted.{IsStrictlySortedBy}
use Rattle.std.specs.Ordering.{nat_cmp, is_eq}
use Rattle.std.proofs.lemmas.Bool.{cases_Bool, cases_lt}
use Rattle.std.proofs.lemmas.Cmp.{nat_list_cmp_total}
use Rattle.std.proofs.lemmas.Map.Text.{is_eq-slice_cmp}
use Rattle.std.proofs.lemmas.Slice.Eq.{bytes_eq-Decides}
use Rattle.ipam_records.specs.declared.call.Row.{Row as RowText}
use Rattle.ipam_records.specs.declared.fault.TextFault.{TextFault}
use Rattle.ipam_records.specs.declared.key.Key.{Key}
use Rattle.ipam_records.specs.declared.record.Record.{Record}
use Rattle.ipam_records.specs.Datastore.{row_of}
use Rattle.ipam_records.specs.Key.{key_of}
use Rattle.ipam_records.specs.KeyOrder.{keys_equal}
use Rattle.ipam_records.specs.KeyOrderLaws.{keys_equal-itself, same-keys_equal}
use Rattle.ipam_records.specs.KeyText.{key_bytes}
use Rattle.ipam_records.specs.Places.{IsFoundAt, IsGapAt}
use Rattle.ipam_records.proofs.DatastoreLemmas.{row_key-row_of}
use Rattle.ipam_records.proofs.RecordTexts.{record_read}
use Rattle.ipam_model.specs.Opened.{AreByKey, readable, reading_of, row_read}
use Rattle.ipam_model.specs.Reads.{StoredRecord}
use Rattle.ipam_laws.proofs.Members.{in-cons, in-nothing}
use Rattle.ipam_laws.proofs.OpenedRows.{out-readable}
use Rattle.ipam_laws.proofs.RowOrder.{found-member}
use Rattle.ipam_opening.specs.Rules.{found_in, if_key}

-- ---- texts

pub text-itself : (text : List ℕ) → slice_cmp nat_cmp text text ≡ Equal
text-itself text = tied_itself nat_list_cmp_total text

pub same-text : (one other : List ℕ) → slice_cmp nat_cmp one other ≡ Equal → one ≡ other
same-text one other e =
    let test : bytes_eq one other ≡ true = sym (is_eq-slice_cmp one other) ∙ ap is_eq e in
    (bytes_eq-Decides one other).0 test

-- the keys of the rows after another stand after its own
pub later-key : (first : RowText) (rest : List RowText) → AllByRecursion (λ k. slice_cmp nat_cmp first.key k ≡ Less) (map (λ (t : RowText). t.key) rest) → (row : RowText) → Contains rest row → slice_cmp nat_cmp first.key row.key ≡ Less
later-key first [] all row h = absurd (in-nothing row h)
later-key first (t ∷ rest) all row h = elim (in-cons row t rest h) [
  | inl is ↦ subst (λ (u : RowText). slice_cmp nat_cmp first.key u.key ≡ Less) is all.0
  | inr there ↦ later-key first rest all.1 row there
]

pub other-key : (first : RowText) (rest : List RowText) → AllByRecursion (λ k. slice_cmp nat_cmp first.key k ≡ Less) (map (λ (t : RowText). t.key) rest) → (row : RowText) → Contains rest row → first.key ≢ row.key
other-key first rest all row h same =
    let less : slice_cmp nat_cmp first.key first.key ≡ Less = ap (slice_cmp nat_cmp first.key) same ∙ later-key first rest all row h in
    let itself = text-itself first.key in
    cc (less, itself)

-- one text is the key of one row
pub same-row : (rows : List RowText) → AreByKey rows → (one other : RowText) → Contains rows one → Contains rows other → one.key ≡ other.key → one ≡ other
unfolding IsStrictlySortedBy
same-row [] by_key one other a b e = absurd (in-nothing one a)
same-row (first ∷ rows) by_key one other a b e = elim (in-cons one first rows a) [
  | inl x ↦ elim (in-cons other first rows b) [
    | inl y ↦ sym x ∙ y
    | inr there ↦ absurd (other-key first rows by_key.0 other there (ap (λ (r : RowText). r.key) x ∙ e))
  ]
  | inr here ↦ elim (in-cons other first rows b) [
    | inl y ↦ absurd (other-key first rows by_key.0 one here (ap (λ (r : RowText). r.key) y ∙ sym e))
    | inr there ↦ same-row rows by_key.1 one other here there e
  ]
]

-- ---- records

-- the text of the key of what was read is the row's
pub own-text : (row : RowText) (found : Record) → reading_of row ≡ Ok found → key_bytes (key_of found) ≡ row.key
own-text row found e = (record_read row.key row.body found e).own

-- what was read is found by its key
pub found-own : (rows : List RowText) → AreByKey rows → (row : RowText) (found : Record) → Contains rows row → reading_of row ≡ Ok found → row_of (key_of found) (readable rows) ≡ Some (row.revision, found)
unfolding IsStrictlySortedBy
found-own [] by_key row found h e = absurd (in-nothing row h)
found-own (first ∷ rows) by_key row found h e = elim (in-cons row first rows h) [
  | inl is ↦
      let own : row_read row.revision (reading_of row) ≡ Some (row.revision, found) = ap (row_read row.revision) e in
      let here : row_read first.revision (reading_of first) ≡ Some (row.revision, found) = ap (λ (r : RowText). row_read r.revision (reading_of r)) is ∙ own in
      ap (λ o. row_of (key_of found) (cons_option o (readable rows))) here ∙ ap (λ b. cond b (Some (row.revision, found)) (row_of (key_of found) (readable rows))) (keys_equal-itself (key_of found))
  | inr there ↦ by (reading_of first) refl (found-own rows by_key.1 row found there e) (λ same. other-key first rows by_key.0 row there same)
]
  where
    by : (r : Result Record TextFault) → reading_of first ≡ r → row_of (key_of found) (readable rows) ≡ Some (row.revision, found) → first.key ≢ row.key → row_of (key_of found) (cons_option (row_read first.revision r) (readable rows)) ≡ Some (row.revision, found)
    by (Err broken) f rest differ = rest
    by (Ok other) f rest differ = elim (cases_Bool (keys_equal (key_of other) (key_of found))) [
      | inl same ↦
          let keys = same-keys_equal (key_of other) (key_of found) same in
          absurd (differ (sym (own-text first other f) ∙ (ap key_bytes keys ∙ own-text row found e)))
      | inr other_key ↦ ap (λ b. cond b (Some (first.revision, other)) (row_of (key_of found) (readable rows))) other_key ∙ rest
    ]

-- nothing is found by a key that nothing that was read has
pub found-none : (rows : List RowText) (k : Key) → ((row : RowText) (found : Record) → Contains rows row → reading_of row ≡ Ok found → key_of found ≢ k) → found_in k (readable rows) ≡ None
found-none rows k none = by (row_of k (readable rows)) refl
  where
    by : (o : Option StoredRecord) → row_of k (readable rows) ≡ o → option_map (λ (row : StoredRecord). row.1) o ≡ None
    by None e = refl
    by (Some row) e =
        let (text, among, revision, reads) = out-readable rows row (found-member k (readable rows) row e) in
        absurd (none text row.1 among reads (row_key-row_of k (readable rows) row e))

-- where no row has the text
pub found-nowhere : (rows : List RowText) (k : Key) → ((row : RowText) → Contains rows row → row.key ≢ key_bytes k) → None ≡ found_in k (readable rows)
found-nowhere rows k none = sym (found-none rows k (λ row found among reads is. none row among (sym (own-text row found reads) ∙ ap key_bytes is)))

-- where a row has it
pub found-at : (rows : List RowText) → AreByKey rows → (k : Key) (row : RowText) → Contains rows row → row.key ≡ key_bytes k → if_key k (reading_of row) ≡ found_in k (readable rows)
found-at rows by_key k row among text = by (reading_of row) refl
  where
    only : (other : RowText) (found : Record) → Contains rows other → reading_of other ≡ Ok found → key_of found ≡ k → reading_of row ≡ Ok found
    only other found there reads is =
        let same : other ≡ row = same-row rows by_key other row there among (sym (own-text other found reads) ∙ (ap key_bytes is ∙ sym text)) in
        ap reading_of (sym same) ∙ reads

    by : (r : Result Record TextFault) → reading_of row ≡ r → if_key k r ≡ found_in k (readable rows)
    by (Err broken) e = sym (found-none rows k (λ other found there reads is. let own = only other found there reads is in cc (own, e)))
    by (Ok own_record) e = elim (cases_Bool (keys_equal (key_of own_record) k)) [
      | inl same ↦
          let is = same-keys_equal (key_of own_record) k same in
          ap (λ b. cond b (Some own_record) None) same ∙ sym (ap (option_map (λ (r : StoredRecord). r.1)) (ap (λ l. row_of l (readable rows)) (sym is) ∙ found-own rows by_key row own_record among e))
      | inr differ ↦
          ap (λ b. cond b (Some own_record) None) differ
          ∙ sym (found-none rows k (λ other found there reads is.
          let own = only other found there reads is in
          let alike : own_record ≡ found = cc (own, e) in
          let equal : keys_equal (key_of own_record) k ≡ true = subst (λ (l : Key). keys_equal (key_of own_record) l ≡ true) (ap key_of alike ∙ is) (keys_equal-itself (key_of own_record)) in
          cc (equal, differ)))
    ]

-- ---- places

pub found-place : (rows : List RowText) (text : List ℕ) (place : ℕ) → IsFoundAt (λ (row : RowText). slice_cmp nat_cmp row.key text) rows place → (row : RowText) → slice_get rows place ≡ Some row → row.key ≡ text
found-place rows text place found row e = same-text row.key text (at rows place e (found.same row))
  where
    at : (xs : List RowText) (i : ℕ) → slice_get xs i ≡ Some row → slice_cmp nat_cmp (get_or xs i row).key text ≡ Equal → slice_cmp nat_cmp row.key text ≡ Equal
    at [] i f h = absurd (cc f)
    at (x ∷ xs) zero f h = let same : x ≡ row = cc f in subst (λ (r : RowText). slice_cmp nat_cmp r.key text ≡ Equal) same h
    at (x ∷ xs) (suc i) f h = at xs i f h

pub found-gap : (rows : List RowText) (text : List ℕ) (place : ℕ) → IsGapAt (λ (row : RowText). slice_cmp nat_cmp row.key text) rows place → (row : RowText) → Contains rows row → row.key ≢ text
found-gap rows text place gap row (k, within, is) same =
    let here : slice_cmp nat_cmp row.key text ≡ Equal = subst (λ (t : List ℕ). slice_cmp nat_cmp row.key t ≡ Equal) same (text-itself row.key) in
    elim (cases_lt k place) [
      | inl before ↦ let less = at Less (gap.before k row before) in cc (here, less)
      | inr behind ↦ let greater = at Greater (gap.behind k row behind within) in cc (here, greater)
    ]
  where
    at : (o : Ordering) → slice_cmp nat_cmp (get_or rows k row).key text ≡ o → slice_cmp nat_cmp row.key text ≡ o
    at o h = subst (λ (r : RowText). slice_cmp nat_cmp r.key text ≡ o) is h
