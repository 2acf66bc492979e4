-- Rows as texts, and the rows that are read of them: what is found by a key, and how many there are.
use Rattle.std.proofs.Common.{◌≡◌, ◌≢◌, ◌⊎◌, ℕ, zero, suc, ◌<◌, ◌≤◌, inl, inr, true, List, [], ◌∷◌, ◌++◌, map, length, Option, Some, None, Result, Ok, Err, refl, sym, ap, ◌∙◌, subst, arith}
use Rattle.std.specs.Prelude.{AllPairs, Contains, slice_get}
use Rattle.std.specs.List.{cons_option}
use Rattle.std.specs.List.Sorted.{IsStrictlySortedBy}
use Rattle.std.proofs.lemmas.Bool.{cases_Bool}
use Rattle.std.proofs.lemmas.List.{length-append}
use Rattle.std.proofs.lemmas.List.Kept.{AllPairs-cons}
use Rattle.std.proofs.lemmas.Option.{slice_get_within}
use Rattle.std.proofs.lemmas.List.Elements.{Contains-append_cases, Contains-append_left, Contains-append_right}
use Rattle.ipam_records.specs.declared.call.Row.{Row as RowText}
use Rattle.ipam_records.specs.declared.fault.TextFault.{TextFault}
use Rattle.ipam_records.specs.declared.key.Key.{Key}
use Rattle.ipam_records.specs.declared.record.Record.{Record}
use Rattle.ipam_records.specs.Datastore.{Datastore, row_key, row_of}
use Rattle.ipam_records.specs.Key.{key_of}
use Rattle.ipam_records.specs.KeyOrder.{key_cmp, keys_equal}
use Rattle.ipam_records.specs.KeyOrderLaws.{keys_equal-itself}
use Rattle.ipam_records.specs.KeyText.{key_read}
use Rattle.ipam_records.proofs.DatastoreLemmas.{row_key-row_of}
use Rattle.ipam_records.proofs.KeyTextLemmas.{key_read-key_bytes}
use Rattle.ipam_records.proofs.RecordTexts.{IsKey-key_of, record_read}
use Rattle.ipam_model.specs.Opened.{Texts, reading_of, row_read, readable}
use Rattle.ipam_model.specs.Reads.{StoredRecord}
use Rattle.ipam_laws.proofs.Members.{all-of, in-cons, in-here, in-there, in-nothing}
use Rattle.ipam_laws.proofs.Openings.{less-than, never-less}
use Rattle.ipam_laws.proofs.RowOrder.{member-found, found-member}

-- ---- what can be read

-- what is given of an optional item and the rest
in-option : {X : Type 0} → (o : Option X) (x : X) (xs : List X) → Contains (cons_option o xs) x → (o ≡ Some x) ⊎ Contains xs x
in-option None x xs h = inr h
in-option (Some y) x xs h = elim (in-cons x y xs h) [ inl is ↦ inl (ap Some is) | inr there ↦ inr there ]

option-in : {X : Type 0} → (o : Option X) (x : X) (xs : List X) → (o ≡ Some x) ⊎ Contains xs x → Contains (cons_option o xs) x
option-in None x xs (inl e) = absurd (cc e)
option-in None x xs (inr h) = h
option-in (Some y) x xs (inl e) = let same : y ≡ x = cc e in subst (λ z. Contains (y ∷ xs) z) same (in-here y xs)
option-in (Some y) x xs (inr h) = in-there x y xs h

pub in-readable : (texts : List RowText) (row : RowText) (found : Record) → Contains texts row → reading_of row ≡ Ok found → Contains (readable texts) (row.revision, found)
in-readable [] row found h e = absurd (in-nothing row h)
in-readable (first ∷ texts) row found h e = elim (in-cons row first texts h) [
  | inl is ↦
      let own : row_read row.revision (reading_of row) ≡ Some (row.revision, found) = ap (row_read row.revision) e in
      let here : row_read first.revision (reading_of first) ≡ Some (row.revision, found) = ap (λ (r : RowText). row_read r.revision (reading_of r)) is ∙ own in
      option-in (row_read first.revision (reading_of first)) (row.revision, found) (readable texts) (inl here)
  | inr there ↦ option-in (row_read first.revision (reading_of first)) (row.revision, found) (readable texts) (inr (in-readable texts row found there e))
]

row_read-some : (revision : ℕ) (r : Result Record TextFault) (row : StoredRecord) → row_read revision r ≡ Some row → (revision ≡ row.0) × (r ≡ Ok row.1)
row_read-some revision (Ok found) row e = let same : (revision, found) ≡ row = cc e in (ap (λ (x : StoredRecord). x.0) same, ap (λ (x : StoredRecord). Ok x.1) same)
row_read-some revision (Err broken) row e = absurd (cc e)

pub out-readable : (texts : List RowText) (row : StoredRecord) → Contains (readable texts) row → (text : RowText) × Contains texts text × (text.revision ≡ row.0) × (reading_of text ≡ Ok row.1)
out-readable [] row h = absurd (in-nothing row h)
out-readable (first ∷ texts) row h = elim (in-option (row_read first.revision (reading_of first)) row (readable texts) h) [
  | inl e ↦ let (revision, reads) = row_read-some first.revision (reading_of first) row e in (first, in-here first texts, revision, reads)
  | inr there ↦ let (text, among, revision, reads) = out-readable texts row there in (text, in-there text first texts among, revision, reads)
]

pub readable-fewer : (texts : List RowText) → length (readable texts) ≤ length texts
readable-fewer [] = omega arith
readable-fewer (first ∷ texts) = by (row_read first.revision (reading_of first)) (readable-fewer texts)
  where
    by : (o : Option StoredRecord) → length (readable texts) ≤ length texts → length (cons_option o (readable texts)) ≤ suc (length texts)
    by None rest = omega arith
    by (Some row) rest = omega arith

-- the key of a row that can be read
pub key-is-read : (row : RowText) (found : Record) → reading_of row ≡ Ok found → key_read row.key ≡ Some (key_of found)
key-is-read row found e =
    let texts = record_read row.key row.body found e in
    ap key_read (sym texts.own) ∙ key_read-key_bytes (key_of found) (IsKey-key_of found texts.sound)

-- ---- the texts of a store's rows

-- exactly the rows of the store can be read
pub record AreRowsOf (texts : Texts) (store : Datastore) : Type 0 where
  pub all_read : (row : RowText) (found : Record) → Contains texts.rows row → reading_of row ≡ Ok found → Contains store.rows (row.revision, found)
  pub nothing_else : (revision : ℕ) (found : Record) → Contains store.rows (revision, found)
      → (row : RowText) × Contains texts.rows row × (row.revision ≡ revision) × (reading_of row ≡ Ok found)

-- a key that is not found is no member's
absent-member : (k : Key) (rows : List StoredRecord) (row : StoredRecord) → row_of k rows ≡ None → Contains rows row → row_key row ≢ k
absent-member k [] row e h same = absurd (in-nothing row h)
absent-member k (first ∷ rows) row e h same = elim (cases_Bool (keys_equal (row_key first) k)) [
  | inl equal ↦ let f : Some first ≡ None = rw equal at e in absurd (cc f)
  | inr differ ↦ elim (in-cons row first rows h) [
    | inl is ↦
        let own : keys_equal (row_key first) k ≡ true = subst (λ (l : Key). keys_equal (row_key first) l ≡ true) (ap row_key is ∙ same) (keys_equal-itself (row_key first)) in
        cc (own, differ)
    | inr there ↦ absent-member k rows row (rw differ at e) there same
  ]
]

-- rows with the same members are found alike by their keys
same-found : (rows others : List StoredRecord) → IsStrictlySortedBy key_cmp (map row_key rows) → ((row : StoredRecord) → Contains rows row → Contains others row) → ((row : StoredRecord) → Contains others row → Contains rows row) → (k : Key) → row_of k others ≡ row_of k rows
same-found rows others sorted one other k = by (row_of k others) refl
  where
    none : row_of k others ≡ None → (o : Option StoredRecord) → row_of k rows ≡ o → row_of k others ≡ o
    none e None f = e
    none e (Some row) f = absurd (absent-member k others row e (one row (found-member k rows row f)) (row_key-row_of k rows row f))

    by : (o : Option StoredRecord) → row_of k others ≡ o → row_of k others ≡ row_of k rows
    by (Some row) e =
        let there = member-found rows row sorted (other row (found-member k others row e)) in
        e ∙ sym (ap (λ (l : Key). row_of l rows) (sym (row_key-row_of k others row e)) ∙ there)
    by None e = none e (row_of k rows) refl

pub read-found : (texts : Texts) (store : Datastore) → AreRowsOf texts store → IsStrictlySortedBy key_cmp (map row_key store.rows) → (k : Key) → row_of k (readable texts.rows) ≡ row_of k store.rows
read-found texts store h sorted k =
    same-found store.rows (readable texts.rows) sorted
    (λ row there.
    let (text, among, revision, reads) = h.nothing_else row.0 row.1 there in
    subst (λ (n : ℕ). Contains (readable texts.rows) (n, row.1)) revision (in-readable texts.rows text row.1 among reads))
    (λ row there.
    let (text, among, revision, reads) = out-readable texts.rows row there in
    subst (λ (n : ℕ). Contains store.rows (n, row.1)) revision (h.all_read text row.1 among reads)) k

-- ---- how many there are

-- a list round one of its members
pub split-at : {X : Type 0} → (x : X) (xs : List X) → Contains xs x → (front back : List X) × (xs ≡ front ++ x ∷ back)
split-at x [] h = absurd (in-nothing x h)
split-at x (y ∷ ys) h = elim (in-cons x y ys h) [
  | inl is ↦ ([], ys, ap (λ z. z ∷ ys) is)
  | inr there ↦ let (front, back, e) = split-at x ys there in (y ∷ front, back, ap (λ l. y ∷ l) e)
]

-- members that differ are no more than there are
pub fewer-members : {X : Type 0} → (xs ys : List X) → AllPairs (λ x y. x ≢ y) xs → ((x : X) → Contains xs x → Contains ys x) → length xs ≤ length ys
fewer-members [] ys differ within = omega arith
fewer-members {X} (x ∷ xs) ys differ within =
    let (front, back, e) = split-at x ys (within x (in-here x xs)) in
    let others = fewer-members xs (front ++ back) (λ i j d below inside. differ (suc i) (suc j) d (omega arith) (omega arith)) (λ y there. elsewhere front back e y there) in
    let one = length-append front (x ∷ back) in
    let two = length-append front back in
    let whole = ap length e in
    omega arith
  where
    other : (y : X) → Contains xs y → x ≢ y
    other y (k, inside, is) same = differ zero (suc k) y (omega arith) (omega arith) (same ∙ sym is)

    elsewhere : (front back : List X) → ys ≡ front ++ x ∷ back → (y : X) → Contains xs y → Contains (front ++ back) y
    elsewhere front back e y there =
        let among : Contains (front ++ x ∷ back) y = subst (λ l. Contains l y) e (within y (in-there y x xs there)) in
        elim (Contains-append_cases front (x ∷ back) y among) [
          | inl before ↦ Contains-append_left front back y before
          | inr rest ↦ elim (in-cons y x back rest) [
            | inl is ↦ absurd (other y there is)
            | inr behind ↦ Contains-append_right front back y behind
          ]
        ]

-- rows by ascending keys differ
pub rows-differ : (rows : List StoredRecord) → IsStrictlySortedBy key_cmp (map row_key rows) → AllPairs (λ (r s : StoredRecord). r ≢ s) rows
unfolding IsStrictlySortedBy
rows-differ [] sorted = λ i j d below within. absurd (omega arith)
rows-differ (row ∷ rows) sorted =
    AllPairs-cons (λ (r s : StoredRecord). r ≢ s) row rows
    (all-of (λ (s : StoredRecord). row ≢ s) rows (λ s there same.
    let less = less-than (row_key row) rows s sorted.0 there in
    never-less (row_key row) (ap (λ (r : StoredRecord). key_cmp (row_key row) (row_key r)) same ∙ less)))
    (rows-differ rows sorted.1)

-- a place after the last has nothing
pub few-places : {X : Type 0} → (xs : List X) (n : ℕ) → ((x : X) → slice_get xs n ≢ Some x) → length xs ≤ n
few-places [] n h = omega arith
few-places (x ∷ xs) zero h = absurd (h x refl)
few-places (x ∷ xs) (suc n) h = let rest = few-places xs n h in omega arith

pub places-few : {X : Type 0} → (xs : List X) (n : ℕ) (x : X) → slice_get xs n ≡ Some x → n < length xs
places-few xs n x e = slice_get_within xs n x e
