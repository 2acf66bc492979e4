-- The store while rows are loaded, from the last to the first.
use Rattle.std.proofs.Common.{◌≡◌, ℕ, suc, ◌+◌, ◌<◌, ◌≤◌, inl, inr, Bool, true, false, cond, List, [], ◌∷◌, ◌++◌, map, length, Option, Some, None, Result, Ok, Err, refl, sym, ap, ◌∙◌, subst, arith, append_assoc}
use Rattle.std.specs.Prelude.{Contains, IsTrue, slice_get}
use Rattle.std.specs.Result.{ForOk}
use Rattle.std.specs.declared.cmp.Ordering.{Ordering}
use Rattle.std.specs.declared.cmp.Ordering.TheVariants.{Less, Equal, Greater}
use Rattle.std.specs.List.{cons_option, filter}
use Rattle.std.specs.List.Sorted.{IsStrictlySortedBy}
use Rattle.std.proofs.lemmas.Bool.{cases_lt}
use Rattle.std.proofs.lemmas.List.{append-nil, length-append, length-map}
use Rattle.ipam_records.specs.declared.call.Row.{Row as RowText}
use Rattle.ipam_records.specs.declared.fault.TextFault.{TextFault}
use Rattle.ipam_records.specs.declared.key.Key.{Key}
use Rattle.ipam_records.specs.declared.key.Kind.TheVariants as kind
use Rattle.ipam_records.specs.declared.record.Record.{Record}
use Rattle.ipam_records.specs.Datastore.{Datastore, last_revision, most_blocks, most_rows, row_at, row_key, row_of, with_row}
use Rattle.ipam_records.specs.Key.{key_of}
use Rattle.ipam_records.specs.KeyOrder.{is_of_kind, key_cmp}
use Rattle.ipam_records.specs.KeyText.{key_bytes}
use Rattle.ipam_records.specs.Sound.{IsRow}
use Rattle.ipam_records.proofs.DatastoreLemmas.{row_key-row_of}
use Rattle.ipam_store.specs.Granted.{HasRoomFor}
use Rattle.ipam_model.specs.Opened.{AreByKey, MayBeOpened, OpensAs, CounterAboveLast, TooManyBlocks, TooManyRows, is_block_text, readable, reading_of, row_read}
use Rattle.ipam_model.specs.Reads.{StoredRecord}
use Rattle.ipam_laws.proofs.Members.{in-place}
use Rattle.ipam_laws.proofs.OpenedRows.{few-places, key-is-read, out-readable, readable-fewer}
use Rattle.ipam_laws.proofs.OpensRows.{gathered, gathered-in, read-sound}
use Rattle.ipam_laws.proofs.RowOrder.{found-member}
use Rattle.ipam_opening.specs.Loading.{with_reading}
use Rattle.ipam_opening.specs.Opening.{texts_with}
use Rattle.ipam_opening.proofs.Found.{other-key, own-text}
use Rattle.ipam_opening.proofs.Gathering.{opens-gathered}

-- what is left was read of the front, and the store has what was read of the back
pub record IsLoading (rows : List RowText) (counter : ℕ) (left : List (Result Record TextFault)) (store : Datastore) : Type 0 where
  pub front : List RowText
  pub back : List RowText
  pub whole : rows ≡ front ++ back
  pub read : left ≡ map reading_of front
  pub loaded : store ≡ record { rows = gathered (readable back); counter = counter }

-- what loading one more needs and makes
pub record Loads (rows : List RowText) (counter : ℕ) (left : List (Result Record TextFault)) (revision : ℕ) (reading : Result Record TextFault) (store : Datastore) : Type 0 where
  pub sound : ForOk reading (λ found. IsRow store.counter (revision, found))
  pub room : ForOk reading (λ found. HasRoomFor store found)
  pub fresh : ForOk reading (λ found. row_of (key_of found) store.rows ≡ None)
  pub next : IsLoading rows counter left (with_reading revision reading store)

-- ---- lists

pub record LastOf (front : List RowText) (left : List (Result Record TextFault)) (reading : Result Record TextFault) : Type 0 where
  pub rest : List RowText
  pub row : RowText
  pub whole : front ≡ rest ++ row ∷ []
  pub read : left ≡ map reading_of rest
  pub own : reading ≡ reading_of row

last-of : (front : List RowText) (left : List (Result Record TextFault)) (reading : Result Record TextFault) → map reading_of front ≡ left ++ reading ∷ [] → LastOf front left reading
last-of [] [] reading e = absurd (cc e)
last-of [] (x ∷ left) reading e = absurd (cc e)
last-of (row ∷ []) [] reading e = record { rest = []; row = row; whole = refl; read = refl; own = cc e }
last-of (row ∷ next ∷ front) [] reading e = absurd (cc e)
last-of (row ∷ front) (x ∷ left) reading e =
    let tails : map reading_of front ≡ left ++ reading ∷ [] = cc e in
    let head : reading_of row ≡ x = cc e in
    let more = last-of front left reading tails in
    record { rest = row ∷ more.rest; row = more.row; whole = ap (λ r. row ∷ r) more.whole; read = ap (λ l. x ∷ l) more.read ∙ ap (λ r. r ∷ map reading_of more.rest) (sym head); own = more.own }

at-length : {X : Type 0} → (front : List X) (x : X) (back : List X) → slice_get (front ++ x ∷ back) (length front) ≡ Some x
at-length [] x back = refl
at-length (y ∷ front) x back = at-length front x back

sorted-back : (front back : List RowText) → AreByKey (front ++ back) → AreByKey back
unfolding IsStrictlySortedBy
sorted-back [] back h = h
sorted-back (row ∷ front) back h = sorted-back front back h.1

filter-back : {X : Type 0} → (p : X → Bool) (front back : List X) → length (filter p back) ≤ length (filter p (front ++ back))
filter-back p [] back = omega arith
filter-back p (x ∷ front) back = by (p x) (filter-back p front back)
  where
    by : (b : Bool) → length (filter p back) ≤ length (filter p (front ++ back)) → length (filter p back) ≤ length (cond b (x ∷ filter p (front ++ back)) (filter p (front ++ back)))
    by true h = omega arith
    by false h = h

-- ---- how many rows there are

-- how many rows have such a key
key_count : (Key → Bool) → List StoredRecord → ℕ
key_count p [] = 0
key_count p (row ∷ rows) = cond (p (row_key row)) 1 0 + key_count p rows

filter-key_count : (p : Key → Bool) (rows : List StoredRecord) → length (filter (λ (row : StoredRecord). p (row_key row)) rows) ≡ key_count p rows
unfolding key_count
filter-key_count p [] = refl
filter-key_count p (r ∷ rs) = by (p (row_key r)) (filter-key_count p rs)
  where
    by : (b : Bool) → length (filter (λ (row : StoredRecord). p (row_key row)) rs) ≡ key_count p rs → length (cond b (r ∷ filter (λ (row : StoredRecord). p (row_key row)) rs) (filter (λ (row : StoredRecord). p (row_key row)) rs)) ≡ cond b 1 0 + key_count p rs
    by true rest = omega arith
    by false rest = omega arith

with_row-count : (p : Key → Bool) (row : StoredRecord) (rows : List StoredRecord) → key_count p (with_row row rows) ≤ cond (p (row_key row)) 1 0 + key_count p rows
unfolding key_count
with_row-count p row [] = omega arith
with_row-count p row (first ∷ rows) = by (key_cmp (row_key row) (row_key first)) (with_row-count p row rows)
  where
    by : (o : Ordering) → key_count p (with_row row rows) ≤ cond (p (row_key row)) 1 0 + key_count p rows → key_count p (row_at o row first rows (with_row row rows)) ≤ cond (p (row_key row)) 1 0 + (cond (p (row_key first)) 1 0 + key_count p rows)
    by Less h = omega arith
    by Equal h = omega arith
    by Greater h = omega arith

gathered-count : (p : Key → Bool) (rows : List StoredRecord) → key_count p (gathered rows) ≤ key_count p rows
unfolding gathered key_count
gathered-count p [] = omega arith
gathered-count p (row ∷ rows) = let one = with_row-count p row (gathered rows) in let more = gathered-count p rows in omega arith

with_row-length : (row : StoredRecord) (rows : List StoredRecord) → length (with_row row rows) ≤ suc (length rows)
with_row-length row [] = omega arith
with_row-length row (first ∷ rows) = by (key_cmp (row_key row) (row_key first)) (with_row-length row rows)
  where
    by : (o : Ordering) → length (with_row row rows) ≤ suc (length rows) → length (row_at o row first rows (with_row row rows)) ≤ suc (suc (length rows))
    by Less h = omega arith
    by Equal h = omega arith
    by Greater h = omega arith

gathered-length : (rows : List StoredRecord) → length (gathered rows) ≤ length rows
unfolding gathered
gathered-length [] = omega arith
gathered-length (row ∷ rows) = let one = with_row-length row (gathered rows) in let more = gathered-length rows in omega arith

-- a text is a block's where the key is
text-kind : (row : RowText) (found : Record) → reading_of row ≡ Ok found → is_block_text row ≡ is_of_kind kind.Block (key_of found)
text-kind row found e = let k = key-is-read row found e in simp k

blocks-fewer : (rows : List RowText) → key_count (is_of_kind kind.Block) (readable rows) ≤ length (filter is_block_text rows)
unfolding key_count
blocks-fewer [] = omega arith
blocks-fewer (row ∷ rows) = by (reading_of row) refl (is_block_text row) refl (blocks-fewer rows)
  where
    by : (r : Result Record TextFault) → reading_of row ≡ r → (b : Bool) → is_block_text row ≡ b → key_count (is_of_kind kind.Block) (readable rows) ≤ length (filter is_block_text rows)
        → key_count (is_of_kind kind.Block) (cons_option (row_read row.revision r) (readable rows)) ≤ length (cond b (row ∷ filter is_block_text rows) (filter is_block_text rows))
    by (Err broken) e true f h = omega arith
    by (Err broken) e false f h = h
    by (Ok found) e b f h =
        let same : is_of_kind kind.Block (key_of found) ≡ b = sym (text-kind row found e) ∙ f in
        subst (λ (k : Bool). cond {A = ℕ} k 1 0 + key_count (is_of_kind kind.Block) (readable rows) ≤ length (cond b (row ∷ filter is_block_text rows) (filter is_block_text rows))) (sym same) (both b h)
      where
        both : (b : Bool) → key_count (is_of_kind kind.Block) (readable rows) ≤ length (filter is_block_text rows) → cond {A = ℕ} b 1 0 + key_count (is_of_kind kind.Block) (readable rows) ≤ length (cond b (row ∷ filter is_block_text rows) (filter is_block_text rows))
        both true h = omega arith
        both false h = omega arith

-- ---- one more row

with-next : (back : List RowText) (counter revision : ℕ) (r : Result Record TextFault) → with_reading revision r (record { rows = gathered (readable back); counter = counter }) ≡ record { rows = gathered (cons_option (row_read revision r) (readable back)); counter = counter }
unfolding gathered
with-next back counter revision (Ok found) = refl
with-next back counter revision (Err broken) = refl

module _ (rows : List RowText) (counter : ℕ) (by_key : AreByKey rows) (may : MayBeOpened (texts_with rows counter)) where
  module _ (front : List RowText) (row : RowText) (back : List RowText) (whole : rows ≡ front ++ row ∷ back) (found : Record) (reads : reading_of row ≡ Ok found) where
    among : Contains rows row
    among = in-place rows (length front) row (ap (λ (l : List RowText). slice_get l (length front)) whole ∙ at-length front row back)

    sound-next : IsRow counter (row.revision, found)
    sound-next = read-sound (texts_with rows counter) by_key may row found among reads

    few-rows : length (gathered (readable back)) < most_rows
    few-rows =
        let all = few-places rows most_rows (λ r e. may 9 r.key (TooManyRows r e)) in
        let sizes = ap length whole in
        let parts = length-append front (row ∷ back) in
        let one = gathered-length (readable back) in
        let two = readable-fewer back in
        omega arith

    few-blocks : IsTrue (is_of_kind kind.Block (key_of found)) → length (filter (λ (r : StoredRecord). is_of_kind kind.Block (row_key r)) (gathered (readable back))) < most_blocks
    few-blocks block =
        let all = few-places (filter is_block_text rows) most_blocks (λ r e. may 9 r.key (TooManyBlocks r e)) in
        let own : is_block_text row ≡ true = text-kind row found reads ∙ block in
        let here : length (filter is_block_text (row ∷ back)) ≡ suc (length (filter is_block_text back)) = ap (λ b. length (cond b (row ∷ filter is_block_text back) (filter is_block_text back))) own in
        let behind = filter-back is_block_text front (row ∷ back) in
        let sizes = ap (λ (l : List RowText). length (filter is_block_text l)) whole in
        let counted = filter-key_count (is_of_kind kind.Block) (gathered (readable back)) in
        let one = gathered-count (is_of_kind kind.Block) (readable back) in
        let two = blocks-fewer back in
        omega arith

    fresh-next : row_of (key_of found) (gathered (readable back)) ≡ None
    unfolding IsStrictlySortedBy
    fresh-next = by (row_of (key_of found) (gathered (readable back))) refl
      where
        by : (o : Option StoredRecord) → row_of (key_of found) (gathered (readable back)) ≡ o → o ≡ None
        by None e = refl
        by (Some other) e =
            let (text, there, at, other_reads) = out-readable back other (gathered-in (readable back) other (found-member (key_of found) (gathered (readable back)) other e)) in
            let keys = row_key-row_of (key_of found) (gathered (readable back)) other e in
            let texts : row.key ≡ text.key = sym (own-text row found reads) ∙ (ap key_bytes (sym keys) ∙ own-text text other.1 other_reads) in
            absurd (other-key row back (sorted-back front (row ∷ back) (subst AreByKey whole by_key)).0 text there texts)

  pub load-next : (left : List (Result Record TextFault)) (store : Datastore) → (all : List (Result Record TextFault)) → IsLoading rows counter all store → (reading : Result Record TextFault) → all ≡ left ++ reading ∷ [] → (revision place : ℕ) → place ≡ length left → ((row : RowText) → slice_get rows place ≡ Some row → revision ≡ row.revision) → Loads rows counter left revision reading store
  load-next left store all l reading e revision place is_place at = from (last-of l.front left reading (sym l.read ∙ e))
    where
      from : LastOf l.front left reading → Loads rows counter left revision reading store
      from last =
          let whole : rows ≡ last.rest ++ last.row ∷ l.back = l.whole ∙ (ap (λ f. f ++ l.back) last.whole ∙ append_assoc last.rest (last.row ∷ []) l.back) in
          let size : length left ≡ length last.rest = ap (λ (l : List (Result Record TextFault)). length l) last.read ∙ length-map last.rest reading_of in
          let here : slice_get rows (length left) ≡ Some last.row = ap (λ (r : List RowText). slice_get r (length left)) whole ∙ (ap (λ n. slice_get (last.rest ++ last.row ∷ l.back) n) size ∙ at-length last.rest last.row l.back) in
          let same : revision ≡ last.row.revision = at last.row (ap (slice_get rows) is_place ∙ here) in
          record {
            sound = λ found is. subst (λ (s : Datastore). IsRow s.counter (revision, found)) (sym l.loaded) (subst (λ (r : ℕ). IsRow counter (r, found)) (sym same) (sound-next last.rest last.row l.back whole found (sym last.own ∙ is)));
            room = λ found is. subst (λ (s : Datastore). HasRoomFor s found) (sym l.loaded) (record {
              few = few-rows last.rest last.row l.back whole found (sym last.own ∙ is);
              few_blocks = few-blocks last.rest last.row l.back whole found (sym last.own ∙ is);
            });
            fresh = λ found is. subst (λ (s : Datastore). row_of (key_of found) s.rows ≡ None) (sym l.loaded) (fresh-next last.rest last.row l.back whole found (sym last.own ∙ is));
            next = record {
              front = last.rest;
              back = last.row ∷ l.back;
              whole = whole;
              read = last.read;
              loaded =
                  ap (with_reading revision reading) l.loaded
                  ∙ (with-next l.back counter revision reading
                  ∙ ap (λ (o : Option StoredRecord). record { rows = gathered (cons_option o (readable l.back)); counter = counter }) (ap (λ (r : ℕ). row_read r reading) same ∙ ap (row_read last.row.revision) last.own));
            };
          }

  pub load-first : (readings : List (Result Record TextFault)) (store : Datastore) → readings ≡ map reading_of rows → store ≡ record { rows = []; counter = counter } → IsLoading rows counter readings store
  unfolding gathered
  load-first readings store read e = record { front = rows; back = []; whole = sym (append-nil rows); read = read; loaded = e }

  pub load-last : (readings : List (Result Record TextFault)) (store : Datastore) → IsLoading rows counter readings store → readings ≡ [] → OpensAs (texts_with rows counter) store
  load-last readings store l none = from l.front l.whole (sym l.read ∙ none)
    where
      from : (front : List RowText) → rows ≡ front ++ l.back → map reading_of front ≡ [] → OpensAs (texts_with rows counter) store
      from [] whole e = subst (OpensAs (texts_with rows counter)) (ap (λ (b : List RowText). record { rows = gathered (readable b); counter = counter }) whole ∙ sym l.loaded) (opens-gathered (texts_with rows counter) by_key may)
      from (row ∷ front) whole e = absurd (cc e)

pub counter-fits : (rows : List RowText) (counter : ℕ) → MayBeOpened (texts_with rows counter) → counter ≤ 4611686018427387904
counter-fits rows counter may = elim (cases_lt last_revision counter) [
  | inl above ↦ absurd (may 10 _ (CounterAboveLast above))
  | inr below ↦ below
]
