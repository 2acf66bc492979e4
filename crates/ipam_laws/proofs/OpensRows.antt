-- Rows that may be opened open as a datastore.
use Rattle.std.proofs.Common.{◌≡◌, ◌≢◌, ◌⊎◌, ℕ, zero, suc, inl, inr, List, [], ◌∷◌, map, Ok, Err, Result, refl, sym, ap, ◌∙◌, subst, arith}
use Rattle.std.specs.Prelude.{AllPairs, Contains}
use Rattle.std.specs.declared.cmp.Ordering.{Ordering}
use Rattle.std.specs.declared.cmp.Ordering.TheVariants.{Less, Equal, Greater}
use Rattle.std.specs.Cmp.{tied_itself}
use Rattle.std.specs.Cmp.Lexicographic.{slice_cmp}
use Rattle.std.specs.List.{AllByRecursion, cons_option}
use Rattle.std.specs.List.Sorted.{IsStrictlySortedBy}
use Rattle.std.specs.Ordering.{nat_cmp, is_eq}
use Rattle.std.proofs.lemmas.Bool.{cases_lt}
use Rattle.std.proofs.lemmas.Cmp.{nat_list_cmp_total}
use Rattle.std.proofs.lemmas.List.Kept.{AllPairs-cons}
use Rattle.ipam_records.specs.declared.call.Row.{Row as RowText}
use Rattle.ipam_records.specs.declared.fault.TextFault.{TextFault}
use Rattle.ipam_records.specs.declared.record.Record.{Record}
use Rattle.ipam_records.specs.declared.record.Record.TheVariants as record_of
use Rattle.ipam_records.specs.Datastore.{last_revision, row_at, row_key, with_row}
use Rattle.ipam_records.specs.KeyOrder.{key_cmp}
use Rattle.ipam_records.specs.KeyOrderLaws.{same-keys_equal}
use Rattle.ipam_records.specs.KeyText.{key_bytes}
use Rattle.ipam_records.specs.Sound.{IsCountedBelow, IsDatastore, IsRow}
use Rattle.ipam_records.proofs.RecordTexts.{record_read}
use Rattle.ipam_model.specs.Opened.{Texts, AreByKey, IsBrokenBlock, MayBeOpened, NoBlock, NoRevision, AboveCounter, CounterAboveLast, OpensLaw, readable, reading_of, row_read}
use Rattle.ipam_model.specs.Reads.{StoredRecord}
use Rattle.ipam_laws.proofs.Members.{all-of, in-cons, in-here, in-there, in-nothing}
use Rattle.ipam_laws.proofs.OpenedRows.{in-readable, out-readable}
use Rattle.ipam_records.proofs.RowWrites.{sorted-with_row}

-- ---- rows put in one after the other

-- the rows by ascending keys
unfoldable pub gathered : List StoredRecord → List StoredRecord
gathered [] = []
gathered (row ∷ rows) = with_row row (gathered rows)

gathered-sorted : (rows : List StoredRecord) → IsStrictlySortedBy key_cmp (map row_key (gathered rows))
unfolding gathered IsStrictlySortedBy
gathered-sorted [] = tt
gathered-sorted (row ∷ rows) = sorted-with_row row (gathered rows) (gathered-sorted rows)

in-with_row : (row : StoredRecord) (rows : List StoredRecord) (x : StoredRecord) → Contains (with_row row rows) x → (row ≡ x) ⊎ Contains rows x
in-with_row row [] x h = in-cons x row [] h
in-with_row row (first ∷ rows) x h = by (key_cmp (row_key row) (row_key first)) h (in-with_row row rows x)
  where
    by : (o : Ordering) → Contains (row_at o row first rows (with_row row rows)) x → (Contains (with_row row rows) x → (row ≡ x) ⊎ Contains rows x) → (row ≡ x) ⊎ Contains (first ∷ rows) x
    by Less there rest = in-cons x row (first ∷ rows) there
    by Equal there rest = elim (in-cons x row rows there) [ inl is ↦ inl is | inr more ↦ inr (in-there x first rows more) ]
    by Greater there rest = elim (in-cons x first (with_row row rows) there) [
      | inl is ↦ inr (subst (λ (z : StoredRecord). Contains (first ∷ rows) z) is (in-here first rows))
      | inr more ↦ elim (rest more) [ inl is ↦ inl is | inr own ↦ inr (in-there x first rows own) ]
    ]

own-with_row : (row : StoredRecord) (rows : List StoredRecord) → Contains (with_row row rows) row
own-with_row row [] = in-here row []
own-with_row row (first ∷ rows) = by (key_cmp (row_key row) (row_key first)) (own-with_row row rows)
  where
    by : (o : Ordering) → Contains (with_row row rows) row → Contains (row_at o row first rows (with_row row rows)) row
    by Less rest = in-here row (first ∷ rows)
    by Equal rest = in-here row rows
    by Greater rest = in-there row first (with_row row rows) rest

other-with_row : (row : StoredRecord) (rows : List StoredRecord) (x : StoredRecord) → Contains rows x → row_key row ≢ row_key x → Contains (with_row row rows) x
other-with_row row [] x h differ = absurd (in-nothing x h)
other-with_row row (first ∷ rows) x h differ = by (key_cmp (row_key row) (row_key first)) refl (in-cons x first rows h) (λ there. other-with_row row rows x there differ)
  where
    by : (o : Ordering) → key_cmp (row_key row) (row_key first) ≡ o → (first ≡ x) ⊎ Contains rows x → (Contains rows x → Contains (with_row row rows) x) → Contains (row_at o row first rows (with_row row rows)) x
    by Less e where_is rest = in-there x row (first ∷ rows) h
    by Equal e (inl is) rest = absurd (differ (same-keys_equal (row_key row) (row_key first) (ap is_eq e) ∙ ap row_key is))
    by Equal e (inr there) rest = in-there x row rows there
    by Greater e (inl is) rest = subst (λ (z : StoredRecord). Contains (first ∷ with_row row rows) z) is (in-here first (with_row row rows))
    by Greater e (inr there) rest = in-there x first (with_row row rows) (rest there)

pub gathered-in : (rows : List StoredRecord) (x : StoredRecord) → Contains (gathered rows) x → Contains rows x
unfolding gathered
gathered-in [] x h = h
gathered-in (row ∷ rows) x h = elim (in-with_row row (gathered rows) x h) [
  | inl is ↦ subst (λ (z : StoredRecord). Contains (row ∷ rows) z) is (in-here row rows)
  | inr there ↦ in-there x row rows (gathered-in rows x there)
]

pub in-gathered : (rows : List StoredRecord) (x : StoredRecord) → AllPairs (λ (r s : StoredRecord). row_key r ≢ row_key s) rows → Contains rows x → Contains (gathered rows) x
unfolding gathered
in-gathered [] x differ h = h
in-gathered (row ∷ rows) x differ h = elim (in-cons x row rows h) [
  | inl is ↦ subst (λ (z : StoredRecord). Contains (with_row row (gathered rows)) z) is (own-with_row row (gathered rows))
  | inr there ↦ other-with_row row (gathered rows) x (in-gathered rows x (λ i j d below within. differ (suc i) (suc j) d (omega arith) (omega arith)) there) (apart there)
]
  where
    apart : Contains rows x → row_key row ≢ row_key x
    apart (k, below, is) same = differ zero (suc k) x (omega arith) (omega arith) (same ∙ ap row_key (sym is))

-- ---- rows by the texts of their keys

-- those that can be read have keys of their own
pub readable-differ : (texts : List RowText) → AreByKey texts → AllPairs (λ (r s : StoredRecord). row_key r ≢ row_key s) (readable texts)
unfolding IsStrictlySortedBy
readable-differ [] sorted = λ i j d below within. absurd (omega arith)
readable-differ (first ∷ texts) sorted = by (reading_of first) refl (readable-differ texts sorted.1)
  where
    later : (rest : List RowText) → AllByRecursion (λ k. slice_cmp nat_cmp first.key k ≡ Less) (map (λ (t : RowText). t.key) rest) → (text : RowText) → Contains rest text → slice_cmp nat_cmp first.key text.key ≡ Less
    later [] all text h = absurd (in-nothing text h)
    later (t ∷ rest) all text h = elim (in-cons text t rest h) [
      | inl is ↦ subst (λ (u : RowText). slice_cmp nat_cmp first.key u.key ≡ Less) is all.0
      | inr there ↦ later rest all.1 text there
    ]

    other : (found : Record) → reading_of first ≡ Ok found → (s : StoredRecord) → Contains (readable texts) s → row_key (first.revision, found) ≢ row_key s
    other found e s there same =
        let (text, among, revision, reads) = out-readable texts s there in
        let one = (record_read first.key first.body found e).own in
        let two = (record_read text.key text.body s.1 reads).own in
        let keys : first.key ≡ text.key = sym one ∙ (ap key_bytes same ∙ two) in
        let less : slice_cmp nat_cmp first.key first.key ≡ Less = ap (slice_cmp nat_cmp first.key) keys ∙ later texts sorted.0 text among in
        let itself = tied_itself nat_list_cmp_total first.key in
        cc (less, itself)

    by : (r : Result Record TextFault) → reading_of first ≡ r → AllPairs (λ (r s : StoredRecord). row_key r ≢ row_key s) (readable texts) → AllPairs (λ (r s : StoredRecord). row_key r ≢ row_key s) (cons_option (row_read first.revision r) (readable texts))
    by (Ok found) e rest =
        AllPairs-cons (λ (r s : StoredRecord). row_key r ≢ row_key s) (first.revision, found) (readable texts)
        (all-of (λ (s : StoredRecord). row_key (first.revision, found) ≢ row_key s) (readable texts) (λ s there. other found e s there)) rest
    by (Err broken) e rest = rest

-- ---- what opens

module _ (texts : Texts) (by_key : AreByKey texts.rows) (may : MayBeOpened texts) where
  -- a row that can be read is sound
  pub read-sound : (text : RowText) (found : Record) → Contains texts.rows text → reading_of text ≡ Ok found → IsRow texts.counter (text.revision, found)
  read-sound text found among reads = record {
    is_record = (record_read text.key text.body found reads).sound;
    some = elim (cases_lt 0 text.revision) [
      | inl some ↦ some
      | inr none ↦ absurd (may 10 text.key (NoRevision text among (omega arith)))
    ];
    given = elim (cases_lt texts.counter text.revision) [
      | inl above ↦ absurd (may 10 text.key (AboveCounter text among above))
      | inr given ↦ given
    ];
    counted = counted found reads;
  }
    where
      counted : (found : Record) → reading_of text ≡ Ok found → IsCountedBelow text.revision found
      counted (record_of.Block b) reads = elim (cases_lt b.sequence text.revision) [
        | inl below ↦ below
        | inr above ↦ absurd (may 5 text.key (NoBlock text among (subst (λ (r : Result Record TextFault). IsBrokenBlock text.revision r) (sym reads) above)))
      ]
      counted (record_of.Config config) reads = tt
      counted (record_of.Pools pools) reads = tt
      counted (record_of.Reservations reservations) reads = tt
      counted (record_of.Affinity a) reads = tt
      counted (record_of.Handle handle) reads = tt

  pub gathered-sound : IsDatastore (record { rows = gathered (readable texts.rows); counter = texts.counter })
  gathered-sound = record {
    rows = all-of (IsRow texts.counter) (gathered (readable texts.rows)) (λ row there.
        let (text, among, revision, reads) = out-readable texts.rows row (gathered-in (readable texts.rows) row there) in
        subst (λ (n : ℕ). IsRow texts.counter (n, row.1)) revision (read-sound text row.1 among reads));
    ascending = gathered-sorted (readable texts.rows);
    counted = elim (cases_lt last_revision texts.counter) [
      | inl above ↦ absurd (may 10 _ (CounterAboveLast above))
      | inr below ↦ below
    ];
  }

pub opens_law : OpensLaw
opens_law texts by_key may = (
  record { rows = gathered (readable texts.rows); counter = texts.counter },
  record {
    may_be_opened = may;
    sound = gathered-sound texts by_key may;
    counter = refl;
    all_read = λ row found among reads. in-gathered (readable texts.rows) (row.revision, found) (readable-differ texts.rows by_key) (in-readable texts.rows row found among reads);
    nothing_else = λ revision found there. out-readable texts.rows (revision, found) (gathered-in (readable texts.rows) (revision, found) there);
  },
)
