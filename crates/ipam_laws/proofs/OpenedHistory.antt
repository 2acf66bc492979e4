-- What was opened is consistent, and what is there at every moment may be opened again.
use Rattle.std.proofs.Common.{◌≡◌, ◌≢◌, ℕ, suc, ◌≤◌, inl, inr, Bool, true, false, cond, List, [], ◌∷◌, map, length, Option, Some, None, Result, Ok, Err, refl, sym, ap, ◌∙◌, subst, arith}
use Rattle.std.specs.Prelude.{Contains}
use Rattle.std.specs.List.{filter, list_any}
use Rattle.std.proofs.lemmas.Bool.{cases_Bool, cases_lt}
use Rattle.std.proofs.lemmas.List.{length-map}
use Rattle.std.proofs.lemmas.List.Elements.{All-contains}
use Rattle.std.proofs.lemmas.List.Kept.{AllPairs-filter}
use Rattle.std.proofs.lemmas.List.Sums.{length-filter}
use Rattle.std.proofs.lemmas.List.Sorted.{Contains-permutation, IsPermutation-sym, length_permutation, sum_by-IsPermutation}
use Rattle.ipam_addr.specs.Shape.{CidrValue}
use Rattle.ipam_addr.specs.Width.{IsCidr}
use Rattle.ipam_block.specs.declared.state.State.{State}
use Rattle.ipam_block.specs.declared.state.State.TheVariants.{Confirmed}
use Rattle.ipam_pool.specs.declared.pools.Pool.{Pool}
use Rattle.ipam_pool.specs.Slots.{is_slot_of}
use Rattle.ipam_pool.proofs.SlotsLemmas.{any_slot}
use Rattle.ipam_records.specs.declared.call.Row.{Row as RowText}
use Rattle.ipam_records.specs.declared.fault.TextFault.{TextFault}
use Rattle.ipam_records.specs.declared.fault.TextFault.TheVariants as fault
use Rattle.ipam_records.specs.declared.key.Key.{Key}
use Rattle.ipam_records.specs.declared.key.Key.TheVariants as key
use Rattle.ipam_records.specs.declared.key.Kind.TheVariants as kind
use Rattle.ipam_records.specs.declared.record.Record.{Record}
use Rattle.ipam_records.specs.declared.record.Record.TheVariants as record_of
use Rattle.ipam_records.specs.Datastore.{Datastore, rows_of_kind, most_rows, most_blocks, row_key, row_of}
use Rattle.ipam_records.specs.Key.{key_of}
use Rattle.ipam_records.specs.KeyOrder.{is_of_kind}
use Rattle.ipam_records.specs.KeyText.{key_read}
use Rattle.ipam_records.specs.Sound.{IsDatastore, IsRecord, IsRow}
use Rattle.ipam_model.specs.declared.entry.Entry.TheVariants as entry
use Rattle.ipam_model.specs.declared.entry.Fate.TheVariants.{After}
use Rattle.ipam_model.specs.Consistent.{IsConsistent, IsSlotOfSome, cidr_named, pools_in, pools_in_row}
use Rattle.ipam_model.specs.CountLaw.{count_in_row, handle_count, held_in_row, held_count}
use Rattle.ipam_model.specs.History.{Lawful, store_at}
use Rattle.ipam_model.specs.Opened.{Texts, Breaks, NoText, AnotherKey, NoTable, NoSlot, NoBlock, CountTooLow, NoAffinityFor, NoNodeFor, TooManyRows, TooManyBlocks, NoRevision, AboveCounter, AboveLast, CounterAboveLast, IsBrokenBlock, IsCounterOf, IsTextOf, OpensAs, OpensAsItself, OpenedLaw, OpenedAgainLaw, InDoubtLaw, cidr_of_key, is_block_text, pools_read, read_store, readable, reading_of, text_of, texts_of}
use Rattle.ipam_model.specs.Reads.{StoredRecord}
use Rattle.ipam_laws.proofs.Members.{all-of, in-here, in-there, in-map, out-map, in-filter, filter-in}
use Rattle.ipam_laws.proofs.Openings.{reads-back}
use Rattle.ipam_laws.proofs.OpenedRows.{AreRowsOf, in-readable, readable-fewer, key-is-read, read-found, fewer-members, rows-differ, few-places, places-few}
use Rattle.ipam_laws.proofs.OwnersOrder.{pools-table}
use Rattle.ipam_laws.proofs.AffinityAt.{node_at, node_in_row, state_at, state_in_row}
use Rattle.ipam_laws.proofs.AffinityHolds.{same_or_other}
use Rattle.ipam_laws.proofs.AffinityHistory.{node-has, has-node, state-has, has-state, agreeing-of, of-agreeing}
use Rattle.ipam_laws.proofs.Fates.{any_fate}
use Rattle.ipam_laws.proofs.SlotsHistory.{consistent_law}

-- ---- what is read is what the store has

module _ (texts : Texts) (store : Datastore) (found : (k : Key) → row_of k (readable texts.rows) ≡ row_of k store.rows) where
  read-pools : pools_read texts ≡ pools_in store.rows
  read-pools = ap pools_in_row (found key.Pools)

  read-handle : (id : List ℕ) (cidr : CidrValue) → handle_count (read_store texts) id cidr ≡ handle_count store id cidr
  read-handle id cidr = ap (count_in_row id cidr) (found (key.Handle id))

  read-held : (id : List ℕ) (cidr : CidrValue) → held_count (read_store texts) id cidr ≡ held_count store id cidr
  read-held id cidr = ap (held_in_row id) (found (key.Block cidr))

  read-node : (cidr : CidrValue) → node_at (read_store texts) cidr ≡ node_at store cidr
  read-node cidr = ap node_in_row (found (key.Block cidr))

  read-state : (node : List ℕ) (cidr : CidrValue) → state_at (read_store texts) node cidr ≡ state_at store node cidr
  read-state node cidr = ap state_in_row (found (key.Affinity node cidr))

-- ---- rows that are not broken

-- each row can be read, and there are few
pub record AreReadable (texts : Texts) : Type 0 where
  pub each : (row : RowText) → Contains texts.rows row → (found : Record) × (reading_of row ≡ Ok found)
  pub few_rows : length texts.rows ≤ most_rows
  pub few_blocks : length (filter is_block_text texts.rows) ≤ most_blocks

-- a sound row is no broken block
not-broken : (counter revision : ℕ) (found : Record) → IsRow counter (revision, found) → IsBrokenBlock revision (Ok found) → ⊥
not-broken counter revision (record_of.Block b) row broken = let counted = row.counted in omega arith
not-broken counter revision (record_of.Config config) row broken = broken
not-broken counter revision (record_of.Pools pools) row broken = broken
not-broken counter revision (record_of.Reservations reservations) row broken = broken
not-broken counter revision (record_of.Affinity a) row broken = broken
not-broken counter revision (record_of.Handle handle) row broken = broken

module _ (texts : Texts) (store : Datastore) (c : IsConsistent store) (rows : AreRowsOf texts store) (reads : AreReadable texts) (counter : IsCounterOf texts) where
  there : (row : RowText) → Contains texts.rows row → (found : Record) × (reading_of row ≡ Ok found) × Contains store.rows (row.revision, found)
  there row among = let (found, e) = reads.each row among in (found, e, rows.all_read row found among e)

  sound-row : (row : RowText) (found : Record) → Contains store.rows (row.revision, found) → IsRow store.counter (row.revision, found)
  sound-row row found among = All-contains (IsRow store.counter) store.rows (row.revision, found) c.sound.rows among

  no-err : (row : RowText) (broken : TextFault) → Contains texts.rows row → reading_of row ≢ Err broken
  no-err row broken among e = let (found, is, own) = there row among in cc (e, is)

  same : (k : Key) → row_of k (readable texts.rows) ≡ row_of k store.rows
  same = read-found texts store rows c.sound.ascending

  slot : (row : RowText) (cidr : CidrValue) → Contains texts.rows row → cidr_of_key (key_read row.key) ≡ Some cidr → IsSlotOfSome (pools_read texts) cidr
  slot row cidr among named =
      let (found, e, own) = there row among in
      let here : cidr_named (key_of found) ≡ Some cidr = sym (ap cidr_of_key (key-is-read row found e)) ∙ named in
      subst (λ (l : List Pool). IsSlotOfSome l cidr) (sym (read-pools texts store same)) (c.at_slots (row.revision, found) cidr own here)

  may-open : (number : ℕ) (about : List ℕ) → Breaks texts number about → ⊥
  may-open number about (NoText row among e) = no-err row fault.Form among e
  may-open number about (AnotherKey row among e) = no-err row fault.Key among e
  may-open number about (NoTable row among e) = no-err row fault.Table among e
  may-open number about (NoSlot row cidr among named form key outside) = outside (slot row cidr among named)
  may-open number about (NoBlock row among broken) =
      let (found, e, own) = there row among in
      not-broken store.counter row.revision found (sound-row row found own) (subst (λ (r : Result Record TextFault). IsBrokenBlock row.revision r) e broken)
  may-open number about (CountTooLow id cidr less) =
      let covered = c.covered id cidr in
      let one = read-handle texts store same id cidr in
      let two = read-held texts store same id cidr in
      omega arith
  may-open number about (NoAffinityFor cidr node has none) =
      let h = agreeing-of store c.agrees in
      let node_is = sym (read-node texts store same cidr) ∙ node-has (read_store texts) cidr node has in
      let (state, at) = h.of_block node cidr node_is in
      none state (has-state (read_store texts) node cidr state (read-state texts store same node cidr ∙ at))
  may-open number about (NoNodeFor cidr node has none) =
      let h = agreeing-of store c.agrees in
      let state_is = sym (read-state texts store same node cidr) ∙ state-has (read_store texts) node cidr Confirmed has in
      none (has-node (read_store texts) cidr node (read-node texts store same cidr ∙ h.of_affinity node cidr state_is))
  may-open number about (TooManyRows row e) = let few = reads.few_rows in let many = places-few texts.rows most_rows row e in omega arith
  may-open number about (TooManyBlocks row e) = let few = reads.few_blocks in let many = places-few (filter is_block_text texts.rows) most_blocks row e in omega arith
  may-open number about (NoRevision row among none) =
      let (found, e, own) = there row among in
      let some = (sound-row row found own).some in
      omega arith
  may-open number about (AboveCounter row among above) = let given = All-contains (λ (r : RowText). r.revision ≤ texts.counter) texts.rows row counter.above among in omega arith
  may-open number about (AboveLast row among above) =
      let given = All-contains (λ (r : RowText). r.revision ≤ texts.counter) texts.rows row counter.above among in
      let last = counter.below_last in
      omega arith
  may-open number about (CounterAboveLast above) = let last = counter.below_last in omega arith

-- the texts of blocks, among texts that can be read
block-texts : (rows : List StoredRecord) → ((row : StoredRecord) → Contains rows row → reading_of (text_of row) ≡ Ok row.1) → length (filter is_block_text (map text_of rows)) ≡ length (filter (λ row. is_of_kind kind.Block (row_key row)) rows)
block-texts [] reads = refl
block-texts (row ∷ rows) reads = by (is_of_kind kind.Block (row_key row)) (rw (key-is-read (text_of row) row.1 (reads row (in-here row rows))) refl) (block-texts rows (λ r there. reads r (in-there r row rows there)))
  where
    by : (b : Bool) → is_block_text (text_of row) ≡ b → length (filter is_block_text (map text_of rows)) ≡ length (filter (λ row. is_of_kind kind.Block (row_key row)) rows)
        → length (cond (is_block_text (text_of row)) (text_of row ∷ filter is_block_text (map text_of rows)) (filter is_block_text (map text_of rows))) ≡ length (cond b (row ∷ filter (λ row. is_of_kind kind.Block (row_key row)) rows) (filter (λ row. is_of_kind kind.Block (row_key row)) rows))
    by true e rest = rw e (ap suc rest)
    by false e rest = rw e rest

-- a row that is read of one of the texts
rows-read : (texts : List RowText) (row : StoredRecord) → (text : RowText) × Contains texts text × (text.revision ≡ row.0) × (reading_of text ≡ Ok row.1) → Contains (readable texts) row
rows-read texts row (text, there, revision, reads) = subst (λ (n : ℕ). Contains (readable texts) (n, row.1)) revision (in-readable texts text row.1 there reads)

-- ---- the rows of a store

module _ (texts : Texts) (store : Datastore) (sound : IsDatastore store) (is : IsTextOf texts store) where
  -- each row's text is one of the store's
  own-text : (text : RowText) → Contains texts.rows text → (row : StoredRecord) × Contains store.rows row × (text_of row ≡ text)
  own-text text among = out-map text_of text store.rows (Contains-permutation texts.rows (texts_of store) text (IsPermutation-sym (texts_of store) texts.rows is.same_rows) among)

  text-there : (row : StoredRecord) → Contains store.rows row → Contains texts.rows (text_of row)
  text-there row among = Contains-permutation (texts_of store) texts.rows (text_of row) is.same_rows (in-map text_of row store.rows among)

  own-read : (text : RowText) → Contains texts.rows text → (row : StoredRecord) × Contains store.rows row × (row.0 ≡ text.revision) × (reading_of text ≡ Ok row.1)
  own-read text among =
      let (row, own, e) = own-text text among in
      (row, own, ap (λ (t : RowText). t.revision) e, sym (ap reading_of e) ∙ reads-back store sound row own)

  own-rows : AreRowsOf texts store
  own-rows = record {
    all_read = λ text found among reads.
        let (row, own, revision, e) = own-read text among in
        let records : row.1 ≡ found = cc (e, reads) in
        let pair : row ≡ (text.revision, found) = λ i. (revision i, records i) in
        subst (λ (r : StoredRecord). Contains store.rows r) pair own;
    nothing_else = λ revision found among. (text_of (revision, found), text-there (revision, found) among, refl, reads-back store sound (revision, found) among);
  }

  own-readable : length store.rows ≤ most_rows → length (rows_of_kind kind.Block store) ≤ most_blocks → AreReadable texts
  own-readable few_rows few_blocks = record {
    each = λ text among. let (row, own, revision, e) = own-read text among in (row.1, e);
    few_rows = let a = length_permutation (texts_of store) texts.rows is.same_rows in let b = length-map store.rows text_of in omega arith;
    few_blocks =
        let a = sum_by-IsPermutation (λ (t : RowText). cond {A = ℕ} (is_block_text t) 1 0) (texts_of store) texts.rows is.same_rows in
        let b = length-filter is_block_text texts.rows in
        let d = length-filter is_block_text (texts_of store) in
        let e = block-texts store.rows (λ row among. reads-back store sound row among) in
        omega arith;
  }

-- ---- the laws

-- the range of a key that a sound record has
named-range : (found : Record) (cidr : CidrValue) → IsRecord found → cidr_named (key_of found) ≡ Some cidr → IsCidr cidr
named-range (record_of.Block b) cidr sound e = let same : b.cidr ≡ cidr = cc e in subst (λ (x : CidrValue). IsCidr x) same sound.block.range
named-range (record_of.Affinity a) cidr sound e = let same : a.cidr ≡ cidr = cc e in subst (λ (x : CidrValue). IsCidr x) same sound.range.range
named-range (record_of.Config config) cidr sound e = absurd (cc e)
named-range (record_of.Pools pools) cidr sound e = absurd (cc e)
named-range (record_of.Reservations reservations) cidr sound e = absurd (cc e)
named-range (record_of.Handle handle) cidr sound e = absurd (cc e)

module _ (texts : Texts) (store : Datastore) (o : OpensAs texts store) where
  opened-rows : AreRowsOf texts store
  opened-rows = record { all_read = o.all_read; nothing_else = o.nothing_else }

  opened-same : (k : Key) → row_of k (readable texts.rows) ≡ row_of k store.rows
  opened-same = read-found texts store (record { all_read = o.all_read; nothing_else = o.nothing_else }) o.sound.ascending

  opened-slot : (row : StoredRecord) (cidr : CidrValue) → Contains store.rows row → cidr_named (row_key row) ≡ Some cidr → IsSlotOfSome (pools_in store.rows) cidr
  opened-slot row cidr among named =
      let (text, there, revision, reads) = o.nothing_else row.0 row.1 among in
      let sound = All-contains (IsRow store.counter) store.rows row o.sound.rows among in
      let range = named-range row.1 cidr sound.is_record named in
      let table = pools-table store o.sound in
      let text_named : cidr_of_key (key_read text.key) ≡ Some cidr = ap cidr_of_key (key-is-read text row.1 reads) ∙ named in
      elim (cases_Bool (list_any (λ p. is_slot_of p cidr) (pools_in store.rows))) [
        | inl some ↦ let (k, pool, within, at, slot) = (any_slot (pools_in store.rows) cidr table range).0 some in (pool, (k, within, at), slot)
        | inr none ↦ absurd (o.may_be_opened 4 text.key (NoSlot text cidr there text_named (λ e. cc (e, reads)) (λ e. cc (e, reads)) (λ slot.
            let (pool, (k, within, at), is) = subst (λ (l : List Pool). IsSlotOfSome l cidr) (read-pools texts store opened-same) slot in
            let some = (any_slot (pools_in store.rows) cidr table range).1 (k, pool, within, at, is) in
            cc (some, none))))
      ]

  opened-covered : (id : List ℕ) (cidr : CidrValue) → held_count store id cidr ≤ handle_count store id cidr
  opened-covered id cidr =
      let one = read-handle texts store opened-same id cidr in
      let two = read-held texts store opened-same id cidr in
      elim (cases_lt (handle_count (read_store texts) id cidr) (held_count (read_store texts) id cidr)) [
        | inl low ↦ absurd (o.may_be_opened 6 _ (CountTooLow id cidr low))
        | inr enough ↦ omega arith
      ]

  opened-of_block : (node : List ℕ) (cidr : CidrValue) → node_at store cidr ≡ Some node → (state : State) × (state_at store node cidr ≡ Some state)
  opened-of_block node cidr has = from (state_at store node cidr) refl
    where
      from : (s : Option State) → state_at store node cidr ≡ s → (state : State) × (state_at store node cidr ≡ Some state)
      from (Some state) e = (state, e)
      from None e = absurd (o.may_be_opened 7 _ (NoAffinityFor cidr node (has-node (read_store texts) cidr node (read-node texts store opened-same cidr ∙ has)) (λ state there.
          let at = state-has (read_store texts) node cidr state there in
          let none = read-state texts store opened-same node cidr ∙ e in
          cc (at, none))))

  opened-of_affinity : (node : List ℕ) (cidr : CidrValue) → state_at store node cidr ≡ Some Confirmed → node_at store cidr ≡ Some node
  opened-of_affinity node cidr confirmed = from (node_at store cidr) refl
    where
      broken : node_at store cidr ≢ Some node → ⊥
      broken other = o.may_be_opened 8 _ (NoNodeFor cidr node (has-state (read_store texts) node cidr Confirmed (read-state texts store opened-same node cidr ∙ confirmed)) (λ has. other (sym (read-node texts store opened-same cidr) ∙ node-has (read_store texts) cidr node has)))

      from : (held : Option (List ℕ)) → node_at store cidr ≡ held → node_at store cidr ≡ Some node
      from None e = absurd (broken (λ f. cc (e, f)))
      from (Some other) e = elim (same_or_other other node) [
        | inl same ↦ e ∙ ap Some same
        | inr differ ↦ absurd (broken (λ f. let g : Some other ≡ Some node = cc (e, f) in differ (cc g)))
      ]

  opened-few : length store.rows ≤ most_rows
  opened-few =
      let few = few-places texts.rows most_rows (λ row e. o.may_be_opened 9 row.key (TooManyRows row e)) in
      let fewer = fewer-members store.rows (readable texts.rows) (rows-differ store.rows o.sound.ascending) (λ row among. rows-read texts.rows row (o.nothing_else row.0 row.1 among)) in
      let least = readable-fewer texts.rows in
      omega arith

  opened-blocks : length (rows_of_kind kind.Block store) ≤ most_blocks
  opened-blocks =
      let blocks = filter is_block_text texts.rows in
      let few = few-places blocks most_blocks (λ row e. o.may_be_opened 9 row.key (TooManyBlocks row e)) in
      let differ = AllPairs-filter (λ (r s : StoredRecord). r ≢ s) (λ row. is_of_kind kind.Block (row_key row)) store.rows (rows-differ store.rows o.sound.ascending) in
      let fewer = fewer-members (rows_of_kind kind.Block store) (readable blocks) differ (λ row among.
      let (own, is_block) = in-filter (λ (r : StoredRecord). is_of_kind kind.Block (row_key r)) row store.rows among in
      let (text, there, revision, reads) = o.nothing_else row.0 row.1 own in
      let kept : is_block_text text ≡ true = rw (key-is-read text row.1 reads) is_block in
      rows-read blocks row (text, filter-in is_block_text text texts.rows there kept, revision, reads)) in
      let least = readable-fewer blocks in
      omega arith

pub opened_law : OpenedLaw
opened_law texts store o = record {
  sound = o.sound;
  at_slots = opened-slot texts store o;
  covered = opened-covered texts store o;
  agrees = of-agreeing store (record { of_block = opened-of_block texts store o; of_affinity = opened-of_affinity texts store o });
  few_rows = opened-few texts store o;
  few_blocks = opened-blocks texts store o;
}

-- the store with another counter that may be its own
recounted : (texts : Texts) (store : Datastore) → IsDatastore store → IsTextOf texts store → IsDatastore (record { rows = store.rows; counter = texts.counter })
recounted texts store sound is = record {
  rows = all-of (IsRow texts.counter) store.rows (λ row among.
      let old = All-contains (IsRow store.counter) store.rows row sound.rows among in
      let given = All-contains (λ (r : RowText). r.revision ≤ texts.counter) texts.rows (text_of row) is.counter.above (text-there texts store sound is row among) in
      record { is_record = old.is_record; some = old.some; given = given; counted = old.counted });
  ascending = sound.ascending;
  counted = is.counter.below_last;
}

opens-itself : (store : Datastore) → IsConsistent store → OpensAsItself store
opens-itself store now texts is =
    let rows = own-rows texts store now.sound is in
    record {
      may_be_opened = may-open texts store now rows (own-readable texts store now.sound is now.few_rows now.few_blocks) is.counter;
      sound = recounted texts store now.sound is;
      counter = refl;
      all_read = rows.all_read;
      nothing_else = rows.nothing_else;
    }

pub opened_again : OpenedAgainLaw
opened_again base history c h = opens-itself (store_at base history) (consistent_law base history c h)

pub in_doubt : InDoubtLaw
unfolding Lawful
in_doubt base history c consistent h =
    let (other, same, lawful) = any_fate base history c After h in
    (opened_again base history consistent h.0, (other, same, opened_again base (entry.Called other ∷ history) consistent lawful))
