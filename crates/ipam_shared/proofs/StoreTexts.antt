-- The texts of a datastore's rows: what stands at each key, and what a write makes of them.
use Rattle.std.proofs.Common.{◌≡◌, ◌≢◌, ◌⊎◌, ℕ, inl, inr, Bool, true, false, cond, List, [], ◌∷◌, map, Option, Some, None, Ok, refl, sym, ap, ◌∙◌, subst, arith}
use Rattle.std.specs.Prelude.{AllPairs, Contains}
use Rattle.std.specs.Option.{option_map}
use Rattle.std.specs.List.Sorted.{IsStrictlySortedBy}
use Rattle.std.proofs.lemmas.Bool.{cases_Bool}
use Rattle.std.proofs.lemmas.List.Elements.{All-contains}
use Rattle.std.proofs.lemmas.List.Kept.{AllPairs-cons}
use Rattle.std.proofs.lemmas.List.Sorted.{Contains-permutation, IsPermutation-sym}
use Rattle.ipam_records.specs.declared.call.Row.{Row as RowText}
use Rattle.ipam_records.specs.declared.call.Write.{Write}
use Rattle.ipam_records.specs.declared.call.Write.TheVariants as write
use Rattle.ipam_records.specs.declared.key.Key.{Key}
use Rattle.ipam_records.specs.declared.record.Record.{Record}
use Rattle.ipam_records.specs.Datastore.{Datastore, row_key, written, row_of as row_at_key}
use Rattle.ipam_records.specs.Key.{key_of}
use Rattle.ipam_records.specs.KeyOrder.{key_cmp, keys_equal}
use Rattle.ipam_records.specs.KeyOrderLaws.{keys_equal-itself, same-keys_equal}
use Rattle.ipam_records.specs.KeyText.{IsKey, key_bytes, key_read}
use Rattle.ipam_records.specs.Sound.{IsDatastore, IsRow}
use Rattle.ipam_records.proofs.DatastoreLemmas.{row_key-row_of, row_of-with_row, row_of-with_row-other, row_of-without_row, row_of-without_row-other}
use Rattle.ipam_records.proofs.KeyTextLemmas.{IsTextOf-key_read, key_bytes_injective, key_read-key_bytes}
use Rattle.ipam_records.proofs.RecordTexts.{IsKey-key_of, record_read}
use Rattle.ipam_keeper.specs.Rows.{Ascend, row_of, texts_equal}
use Rattle.ipam_keeper.proofs.Ascending.{Ascend-rows_with, Ascend-rows_without}
use Rattle.ipam_keeper.proofs.Lookups.{row_of-rows_with, row_of-rows_without, same_rows}
use Rattle.ipam_model.specs.Opened.{AreByKey, OpensAs, Texts, reading_of, text_of, texts_of}
use Rattle.ipam_model.specs.Reads.{StoredRecord}
use Rattle.ipam_laws.proofs.AllRead.{all_read}
use Rattle.ipam_laws.proofs.Members.{all-of, in-here, in-map, in-there, out-map}
use Rattle.ipam_laws.proofs.Openings.{less-than, never-less}
use Rattle.ipam_laws.proofs.RowOrder.{found-member as store-member, member-found as store-found}
use Rattle.ipam_shared.specs.declared.write.RowWrite.{RowWrite}
use Rattle.ipam_shared.specs.declared.write.RowWrite.TheVariants.{Put, Remove}
use Rattle.ipam_shared.specs.Rows.{AreTextsOf, key_written, putting_back, row_back, row_of_read_key, rows_after, texts_written}
use Rattle.ipam_shared.proofs.TextRows.{ascend-by_key, by_key-ascend, equal-texts, found-member, member-found, other-texts, permutes, rows-differ, text-itself}

-- ---- what stands at each key

-- the text that a datastore has at a key's text
pub text_found : List ℕ → Datastore → Option RowText
text_found key store = option_map text_of (row_of_read_key (key_read key) store)

-- the keys ascend, and each has the text that the datastore has there
pub record StandAt (rows : List RowText) (store : Datastore) : Type 0 where
  pub ascend : Ascend rows
  pub at : (key : List ℕ) → row_of key rows ≡ text_found key store

module _ (store : Datastore) (sound : IsDatastore store) where
  pub key-sound : (row : StoredRecord) → Contains store.rows row → IsKey (row_key row)
  key-sound row there = IsKey-key_of row.1 (All-contains (IsRow store.counter) store.rows row sound.rows there).is_record

  -- a row of the datastore stands at its key's text
  pub stands-at : (row : StoredRecord) → Contains store.rows row → text_found (key_bytes (row_key row)) store ≡ Some (text_of row)
  unfolding text_found
  stands-at row there =
      ap (λ (k : Option Key). option_map text_of (row_of_read_key k store)) (key_read-key_bytes (row_key row) (key-sound row there))
      ∙ ap (option_map text_of) (store-found store.rows row sound.ascending there)

  -- what stands at a text is a row of the datastore with that key
  pub row-standing : (key : List ℕ) (row : RowText) → text_found key store ≡ Some row → (own : StoredRecord) × Contains store.rows own × (text_of own ≡ row) × (key_bytes (row_key own) ≡ key)
  unfolding text_found
  row-standing key row e = by (key_read key) refl e
    where
      found : (named : Key) → key_read key ≡ Some named → (o : Option StoredRecord) → row_at_key named store.rows ≡ o → option_map text_of o ≡ Some row → (own : StoredRecord) × Contains store.rows own × (text_of own ≡ row) × (key_bytes (row_key own) ≡ key)
      found named is None f g = absurd (cc g)
      found named is (Some own) f g = (
        own,
        store-member named store.rows own f,
        cc g,
        ap key_bytes (row_key-row_of named store.rows own f) ∙ (IsTextOf-key_read key named is).spelled,
      )

      by : (k : Option Key) → key_read key ≡ k → option_map text_of (row_of_read_key k store) ≡ Some row → (own : StoredRecord) × Contains store.rows own × (text_of own ≡ row) × (key_bytes (row_key own) ≡ key)
      by None is g = absurd (cc g)
      by (Some named) is g = found named is (row_at_key named store.rows) refl g

  -- ---- the texts of the datastore's rows are those that stand at its keys

  texts-differ : (rows : List StoredRecord) → ((row : StoredRecord) → Contains rows row → IsKey (row_key row)) → IsStrictlySortedBy key_cmp (map row_key rows) → AllPairs (λ (r s : RowText). r ≢ s) (map text_of rows)
  unfolding IsStrictlySortedBy
  texts-differ [] keys sorted = λ i j d below within. absurd (omega arith)
  texts-differ (row ∷ rows) keys sorted =
      AllPairs-cons (λ (r s : RowText). r ≢ s) (text_of row) (map text_of rows)
      (all-of (λ (other : RowText). text_of row ≢ other) (map text_of rows) (λ other there same.
      let (own, among, is) = out-map text_of other rows there in
      let one : key_bytes (row_key row) ≡ key_bytes (row_key own) = ap (λ (t : RowText). t.key) (same ∙ sym is) in
      let keys_same = key_bytes_injective (row_key row) (row_key own) (keys row (in-here row rows)) (keys own (in-there own row rows among)) one in
      never-less (row_key row) (ap (λ k. key_cmp (row_key row) k) keys_same ∙ less-than (row_key row) rows own sorted.0 among)))
      (texts-differ rows (λ other there. keys other (in-there other row rows there)) sorted.1)

  pub texts-stand : (rows : List RowText) → AreTextsOf rows store → StandAt rows store
  unfolding text_found
  texts-stand rows are = record { ascend = ascend; at = λ key. by key (row_of key rows) refl }
    where
      ascend : Ascend rows
      ascend = by_key-ascend rows are.by_key

      by : (key : List ℕ) → (o : Option RowText) → row_of key rows ≡ o → row_of key rows ≡ text_found key store
      by key (Some row) e =
          let (there, same) = found-member key rows row e in
          let among = Contains-permutation rows (texts_of store) row (IsPermutation-sym (texts_of store) rows are.same_rows) there in
          let (own, own_there, is) = out-map text_of row store.rows among in
          let keys : key_bytes (row_key own) ≡ key = ap (λ (t : RowText). t.key) is ∙ same in
          e ∙ sym (ap (λ k. text_found k store) (sym keys) ∙ (stands-at own own_there ∙ ap Some is))
      by key None e = none (text_found key store) refl
        where
          none : (o : Option RowText) → text_found key store ≡ o → row_of key rows ≡ text_found key store
          none None f = e ∙ sym f
          none (Some row) f =
              let (own, there, is, keys) = row-standing key row f in
              let among = Contains-permutation (texts_of store) rows (text_of own) are.same_rows (in-map text_of own store.rows there) in
              let found = member-found rows (text_of own) ascend among in
              let at_key : row_of key rows ≡ Some (text_of own) = ap (λ k. row_of k rows) (sym keys) ∙ found in
              absurd (cc (at_key, e))

  pub stand-texts : (rows : List RowText) → StandAt rows store → AreTextsOf rows store
  stand-texts rows h = record {
    by_key = ascend-by_key rows h.ascend;
    same_rows = permutes (texts_of store) rows (texts-differ store.rows key-sound sound.ascending) (rows-differ rows h.ascend) forth back;
  }
    where
      forth : (row : RowText) → Contains (texts_of store) row → Contains rows row
      forth row there =
          let (own, among, is) = out-map text_of row store.rows there in
          let at = h.at (key_bytes (row_key own)) ∙ (stands-at own among ∙ ap Some is) in
          (found-member (key_bytes (row_key own)) rows row at).0

      back : (row : RowText) → Contains rows row → Contains (texts_of store) row
      back row there =
          let (own, among, is, keys) = row-standing row.key row (sym (h.at row.key) ∙ member-found rows row h.ascend there) in
          subst (λ t. Contains (texts_of store) t) is (in-map text_of own store.rows among)

-- ---- what a write makes of them

-- two keys' texts equal each other where the keys do
module _ (named : Key) (sound : IsKey named) (key : List ℕ) where
  at-own : (other : Key) → key_read key ≡ Some other → named ≡ other → texts_equal (key_bytes named) key ≡ true
  at-own other is same =
      let spelled : key_bytes named ≡ key = ap key_bytes same ∙ (IsTextOf-key_read key other is).spelled in
      subst (λ k. texts_equal (key_bytes named) k ≡ true) spelled (text-itself (key_bytes named))

  at-other : (k : Option Key) → key_read key ≡ k → k ≢ Some named → texts_equal (key_bytes named) key ≡ false
  at-other k is differ = other-texts (key_bytes named) key (λ e. differ (sym is ∙ (ap key_read (sym e) ∙ key_read-key_bytes named sound)))

pub keys-apart : (k l : Key) → (k ≡ l) ⊎ (k ≢ l)
keys-apart k l = elim (cases_Bool (keys_equal k l)) [
  | inl same ↦ inl (same-keys_equal k l same)
  | inr differ ↦ inr (λ e. let same = subst (λ (x : Key). keys_equal k x ≡ true) e (keys_equal-itself k) in cc (same, differ))
]

-- the key that a write names is sound
abbrev pub IsNamed : Write → Type 0
IsNamed (write.Put revision new) = IsKey (key_of new)
IsNamed (write.Remove revision key) = IsKey key

-- what stands at each key once a row is put in
put-found : (store : Datastore) (revision : ℕ) (new : Record) → IsKey (key_of new) → (key : List ℕ) → text_found key (written store (write.Put revision new)) ≡ cond (texts_equal (key_bytes (key_of new)) key) (Some (text_of (revision, new))) (text_found key store)
unfolding text_found
put-found store revision new sound key = by (key_read key) refl
  where
    row : StoredRecord
    row = (revision, new)

    next : Datastore
    next = written store (write.Put revision new)

    goal : Option Key → Bool → Type 0
    goal k b = option_map text_of (row_of_read_key k next) ≡ cond b (Some (text_of row)) (option_map text_of (row_of_read_key k store))

    named-by : (named : Key) → key_read key ≡ Some named → (key_of new ≡ named) ⊎ (key_of new ≢ named) → goal (Some named) (texts_equal (key_bytes (key_of new)) key)
    named-by named is (inl same) =
        let e = at-own (key_of new) sound key named is same in
        let f : row_at_key named next.rows ≡ Some row = subst (λ (k : Key). row_at_key k next.rows ≡ Some row) same (row_of-with_row row store.rows) in
        rw e (ap (option_map text_of) f)
    named-by named is (inr differ) =
        let e = at-other (key_of new) sound key (Some named) is (λ g. differ (sym (cc g))) in
        rw e (ap (option_map text_of) (row_of-with_row-other named row store.rows differ))

    by : (k : Option Key) → key_read key ≡ k → goal k (texts_equal (key_bytes (key_of new)) key)
    by None is = let e = at-other (key_of new) sound key None is (λ g. cc g) in rw e refl
    by (Some named) is = named-by named is (keys-apart (key_of new) named)

-- and once one is taken out
gone-found : (store : Datastore) (revision : ℕ) (gone : Key) → IsKey gone → (key : List ℕ) → text_found key (written store (write.Remove revision gone)) ≡ cond (texts_equal (key_bytes gone) key) None (text_found key store)
unfolding text_found
gone-found store revision gone sound key = by (key_read key) refl
  where
    next : Datastore
    next = written store (write.Remove revision gone)

    goal : Option Key → Bool → Type 0
    goal k b = option_map text_of (row_of_read_key k next) ≡ cond b None (option_map text_of (row_of_read_key k store))

    named-by : (named : Key) → key_read key ≡ Some named → (gone ≡ named) ⊎ (gone ≢ named) → goal (Some named) (texts_equal (key_bytes gone) key)
    named-by named is (inl same) =
        let e = at-own gone sound key named is same in
        let f : row_at_key named next.rows ≡ None = subst (λ (k : Key). row_at_key k next.rows ≡ None) same (row_of-without_row gone store.rows) in
        rw e (ap (option_map text_of) f)
    named-by named is (inr differ) =
        let e = at-other gone sound key (Some named) is (λ g. differ (sym (cc g))) in
        rw e (ap (option_map text_of) (row_of-without_row-other named gone store.rows differ))

    by : (k : Option Key) → key_read key ≡ k → goal k (texts_equal (key_bytes gone) key)
    by None is = let e = at-other gone sound key None is (λ g. cc g) in rw e refl
    by (Some named) is = named-by named is (keys-apart gone named)

-- the rows once a write is done stand as the datastore's
pub stand-after : (rows : List RowText) (store : Datastore) (done : Write) → IsNamed done → StandAt rows store → StandAt (rows_after (texts_written done) rows) (written store done)
stand-after rows store (write.Put revision new) sound h = record {
  ascend = Ascend-rows_with (text_of (revision, new)) rows h.ascend;
  at = λ key.
      row_of-rows_with key (text_of (revision, new)) rows
      ∙ (ap (cond (texts_equal (key_bytes (key_of new)) key) (Some (text_of (revision, new)))) (h.at key)
      ∙ sym (put-found store revision new sound key));
}
stand-after rows store (write.Remove revision gone) sound h = record {
  ascend = Ascend-rows_without (key_bytes gone) rows h.ascend;
  at = λ key.
      row_of-rows_without key (key_bytes gone) rows
      ∙ (ap (cond (texts_equal (key_bytes gone) key) None) (h.at key) ∙ sym (gone-found store revision gone sound key));
}

-- ---- what is put back

pub ascend-after : (done : RowWrite) (rows : List RowText) → Ascend rows → Ascend (rows_after done rows)
ascend-after (Put row) rows h = Ascend-rows_with row rows h
ascend-after (Remove key) rows h = Ascend-rows_without key rows h

-- the row that a write leaves at its own key
pub row_left : RowWrite → Option RowText
row_left (Put row) = Some row
row_left (Remove key) = None

pub after-at : (done : RowWrite) (rows : List RowText) (key : List ℕ) → row_of key (rows_after done rows) ≡ cond (texts_equal (key_written done) key) (row_left done) (row_of key rows)
unfolding row_left
after-at (Put row) rows key = row_of-rows_with key row rows
after-at (Remove gone) rows key = row_of-rows_without key gone rows

back-is : (key : List ℕ) (o : Option StoredRecord) → ((row : StoredRecord) → o ≡ Some row → key_bytes (row_key row) ≡ key) → (key_written (putting_back key o) ≡ key) × (row_left (putting_back key o) ≡ option_map text_of o)
unfolding row_left
back-is key None own = (refl, refl)
back-is key (Some row) own = (own row refl, refl)

-- the row of the datastore's key is put back by its text
pub row_back-is : (key : List ℕ) (store : Datastore) → (key_written (row_back key store) ≡ key) × (row_left (row_back key store) ≡ text_found key store)
unfolding text_found
row_back-is key store = back-is key (row_of_read_key (key_read key) store) (λ row e. by (key_read key) refl row e)
  where
    by : (k : Option Key) → key_read key ≡ k → (row : StoredRecord) → row_of_read_key k store ≡ Some row → key_bytes (row_key row) ≡ key
    by None is row e = absurd (cc e)
    by (Some named) is row e = ap key_bytes (row_key-row_of named store.rows row e) ∙ (IsTextOf-key_read key named is).spelled

-- what stands at each key once a write is done
found-after : (store : Datastore) (done : Write) → IsNamed done → (key : List ℕ) → text_found key (written store done) ≡ cond (texts_equal (key_written (texts_written done)) key) (row_left (texts_written done)) (text_found key store)
unfolding row_left
found-after store (write.Put revision new) sound key = put-found store revision new sound key
found-after store (write.Remove revision gone) sound key = gone-found store revision gone sound key

-- the rows with a write done, once the row before is put back, stand as those before it
pub stand-before : (rows : List RowText) (store : Datastore) (done : Write) → IsNamed done → StandAt rows (written store done) → StandAt (rows_after (row_back (key_written (texts_written done)) store) rows) store
stand-before rows store done named h = record { ascend = ascend-after back rows h.ascend; at = at }
  where
    key : List ℕ
    key = key_written (texts_written done)

    back : RowWrite
    back = row_back key store

    is : (key_written back ≡ key) × (row_left back ≡ text_found key store)
    is = row_back-is key store

    by : (other : List ℕ) (b : Bool) → texts_equal key other ≡ b → cond b (text_found key store) (row_of other rows) ≡ text_found other store
    by other true e = ap (λ k. text_found k store) (equal-texts key other e)
    by other false e = h.at other ∙ (found-after store done named other ∙ ap (λ b. cond b (row_left (texts_written done)) (text_found other store)) e)

    at : (other : List ℕ) → row_of other (rows_after back rows) ≡ text_found other store
    at other =
        after-at back rows other
        ∙ (ap (λ k. cond (texts_equal k other) (row_left back) (row_of other rows)) is.0
        ∙ (ap (λ o. cond (texts_equal key other) o (row_of other rows)) is.1 ∙ by other (texts_equal key other) refl))

-- so the write makes them of those
pub written-after : (rows : List RowText) (store : Datastore) (done : Write) → IsNamed done → StandAt rows (written store done)
    → rows ≡ rows_after (texts_written done) (rows_after (row_back (key_written (texts_written done)) store) rows)
written-after rows store done named h =
    let before = rows_after (row_back (key_written (texts_written done)) store) rows in
    let again = stand-after before store done named (stand-before rows store done named h) in
    same_rows rows (rows_after (texts_written done) before) h.ascend again.ascend (λ key. h.at key ∙ sym (again.at key))

-- the datastore's rows with another one at a key are its own again once that is put back
pub back-again : (rows others : List RowText) (store : Datastore) (key : List ℕ) → StandAt rows store → Ascend others
    → ((other : List ℕ) → texts_equal key other ≡ false → row_of other others ≡ row_of other rows) → rows_after (row_back key store) others ≡ rows
back-again rows others store key h ascend same =
    same_rows (rows_after (row_back key store) others) rows (ascend-after (row_back key store) others ascend) h.ascend at
  where
    is : (key_written (row_back key store) ≡ key) × (row_left (row_back key store) ≡ text_found key store)
    is = row_back-is key store

    by : (other : List ℕ) (b : Bool) → texts_equal key other ≡ b → cond b (text_found key store) (row_of other others) ≡ row_of other rows
    by other true e = let keys = equal-texts key other e in ap (λ k. text_found k store) keys ∙ sym (h.at other)
    by other false e = same other e

    at : (other : List ℕ) → row_of other (rows_after (row_back key store) others) ≡ row_of other rows
    at other =
        after-at (row_back key store) others other
        ∙ (ap (λ k. cond (texts_equal k other) (row_left (row_back key store)) (row_of other others)) is.0
        ∙ (ap (λ o. cond (texts_equal key other) o (row_of other others)) is.1 ∙ by other (texts_equal key other) refl))

-- so they are once what a write left is put back, and where the write was not done
pub back-after : (rows : List RowText) (store : Datastore) (done : RowWrite) → StandAt rows store → rows_after (row_back (key_written done) store) (rows_after done rows) ≡ rows
back-after rows store done h =
    back-again rows (rows_after done rows) store (key_written done) h (ascend-after done rows h.ascend) (λ other e. after-at done rows other ∙ ap (λ b. cond b (row_left done) (row_of other rows)) e)

pub back-own : (rows : List RowText) (store : Datastore) (key : List ℕ) → StandAt rows store → rows_after (row_back key store) rows ≡ rows
back-own rows store key h = back-again rows rows store key h h.ascend (λ other e. refl)

-- ---- what was opened

module _ (rows : List RowText) (counter : ℕ) (store : Datastore) (by_key : AreByKey rows) (o : OpensAs (record { rows = rows; counter = counter }) store) where
  pub opened-stand : StandAt rows store
  opened-stand = record { ascend = ascend; at = λ key. by key (row_of key rows) refl }
    where
      texts : Texts
      texts = record { rows = rows; counter = counter }

      ascend : Ascend rows
      ascend = by_key-ascend rows by_key

      -- a text that can be read is that of its record
      own-text : (row : RowText) (revision : ℕ) (found : Record) → row.revision ≡ revision → reading_of row ≡ Ok found → text_of (revision, found) ≡ row
      own-text row revision found same reads =
          let has = record_read row.key row.body found reads in
          λ i. record { key = has.own i; body = sym has.said i; revision = sym same i }

      by : (key : List ℕ) → (o : Option RowText) → row_of key rows ≡ o → row_of key rows ≡ text_found key store
      by key (Some row) e =
          let (there, same) = found-member key rows row e in
          let (found, reads) = all_read texts o.may_be_opened row there in
          let own = o.all_read row found there reads in
          let text = own-text row row.revision found refl reads in
          let keys : key_bytes (key_of found) ≡ key = ap (λ (t : RowText). t.key) text ∙ same in
          e ∙ sym (ap (λ k. text_found k store) (sym keys) ∙ (stands-at store o.sound (row.revision, found) own ∙ ap Some text))
      by key None e = none (text_found key store) refl
        where
          none : (f : Option RowText) → text_found key store ≡ f → row_of key rows ≡ text_found key store
          none None f = e ∙ sym f
          none (Some row) f =
              let (own, there, is, keys) = row-standing store o.sound key row f in
              let (text, among, revision, reads) = o.nothing_else own.0 own.1 there in
              let same = own-text text own.0 own.1 revision reads in
              let at_key : text.key ≡ key = ap (λ (t : RowText). t.key) (sym same) ∙ keys in
              let found : row_of key rows ≡ Some text = ap (λ k. row_of k rows) (sym at_key) ∙ member-found rows text ascend among in
              absurd (cc (found, e))
