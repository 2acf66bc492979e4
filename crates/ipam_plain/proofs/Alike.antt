-- Rows that have the same records, whatever their revisions.
use Rattle.std.proofs.Common.{◌≡◌, ◌≢◌, ℕ, inl, inr, List, [], ◌∷◌, map, Option, Some, None, option_map, refl, sym, ap, ◌∙◌, subst}
use Rattle.std.specs.declared.cmp.Ordering.{Ordering}
use Rattle.std.specs.declared.cmp.Ordering.TheVariants.{Less, Equal, Greater}
use Rattle.std.specs.Ordering.{is_eq, ordering_reverse}
use Rattle.std.specs.List.{AllByRecursion}
use Rattle.std.specs.List.Sorted.{IsStrictlySortedBy}
use Rattle.ipam_addr.specs.Shape.{CidrValue}
use Rattle.ipam_block.specs.Shape.{BlockValue}
use Rattle.ipam_block.specs.HandleOperations.{content}
use Rattle.ipam_block.specs.HandleShape.{HandleValue}
use Rattle.ipam_pool.specs.declared.pools.Pool.{Pool}
use Rattle.ipam_records.specs.declared.key.Key.{Key}
use Rattle.ipam_records.specs.declared.key.Key.TheVariants as key
use Rattle.ipam_records.specs.declared.record.Record.{Record}
use Rattle.ipam_records.specs.declared.record.Record.TheVariants as record_of
use Rattle.ipam_records.specs.Datastore.{reply_to_get, row_key, row_of, with_row, without_row}
use Rattle.ipam_records.specs.Key.{key_of}
use Rattle.ipam_records.specs.KeyOrder.{key_cmp}
use Rattle.ipam_records.specs.KeyOrderLaws.{key_cmp_total, keys_equal-itself, keys_equal-other, same-keys_equal}
use Rattle.ipam_records.proofs.DatastoreLemmas.{row_of-with_row, row_of-with_row-other, row_of-without_row, row_of-without_row-other}
use Rattle.ipam_model.specs.Plain.{Rows, block_in_rows, found_in, handle_of, records}
use Rattle.ipam_model.specs.Reads.{StoredRecord, block_said, handle_said, pools_said}
use Rattle.ipam_laws.proofs.OneRecord.{key_cases}
use Rattle.ipam_records.proofs.RowWrites.{later}
use Rattle.ipam_records.proofs.RowKinds.{each-kind}
use Rattle.ipam_laws.proofs.RowOrder.{below-absent}

-- ---- the record of a key

abbrev pub record_in : Option StoredRecord → Option Record
record_in o = option_map (λ (row : StoredRecord). row.1) o

abbrev pub record_at : Key → Rows → Option Record
record_at k rows = record_in (row_of k rows)

-- each key has the same record
abbrev pub Alike : (one other : Rows) → Type 0
Alike one other = (k : Key) → record_at k one ≡ record_at k other

-- the rows stand by ascending keys
abbrev pub IsSorted : Rows → Type 0
IsSorted rows = IsStrictlySortedBy key_cmp (map row_key rows)

pub record_at-put : (row : StoredRecord) (rows : Rows) → record_at (row_key row) (with_row row rows) ≡ Some row.1
record_at-put row rows = ap record_in (row_of-with_row row rows)

pub record_at-other : (k : Key) (row : StoredRecord) (rows : Rows) → row_key row ≢ k → record_at k (with_row row rows) ≡ record_at k rows
record_at-other k row rows other = ap record_in (row_of-with_row-other k row rows other)

pub record_at-cut : (k : Key) (rows : Rows) → record_at k (without_row k rows) ≡ None
record_at-cut k rows = ap record_in (row_of-without_row k rows)

pub record_at-kept : (k gone : Key) (rows : Rows) → gone ≢ k → record_at k (without_row gone rows) ≡ record_at k rows
record_at-kept k gone rows other = ap record_in (row_of-without_row-other k gone rows other)

pub alike-put : (new : Record) (r s : ℕ) (one other : Rows) → Alike one other → Alike (with_row (r, new) one) (with_row (s, new) other)
alike-put new r s one other h k = elim (key_cases (key_of new) k) [
  | inl same ↦ subst (λ (x : Key). record_at x (with_row (r, new) one) ≡ record_at x (with_row (s, new) other)) same (record_at-put (r, new) one ∙ sym (record_at-put (s, new) other))
  | inr differ ↦ record_at-other k (r, new) one differ ∙ (h k ∙ sym (record_at-other k (s, new) other differ))
]

pub alike-cut : (gone : Key) (one other : Rows) → Alike one other → Alike (without_row gone one) (without_row gone other)
alike-cut gone one other h k = elim (key_cases gone k) [
  | inl same ↦ subst (λ (x : Key). record_at x (without_row gone one) ≡ record_at x (without_row gone other)) same (record_at-cut gone one ∙ sym (record_at-cut gone other))
  | inr differ ↦ record_at-kept k gone one differ ∙ (h k ∙ sym (record_at-kept k gone other differ))
]

-- ---- sorted rows that are alike have the same records

head-record : (x : StoredRecord) (xs : Rows) → record_at (row_key x) (x ∷ xs) ≡ Some x.1
head-record x xs = let t = keys_equal-itself (row_key x) in rw t refl

tail-record : (k : Key) (x : StoredRecord) (xs : Rows) → row_key x ≢ k → record_at k (x ∷ xs) ≡ record_at k xs
tail-record k x xs other = let f = keys_equal-other (row_key x) k other in rw f refl

-- a key below all others has no record
none-below : (k : Key) (y : StoredRecord) (ys : Rows) → key_cmp k (row_key y) ≡ Less → AllByRecursion (λ z. key_cmp (row_key y) z ≡ Less) (map row_key ys) → record_at k (y ∷ ys) ≡ None
none-below k y ys less all = ap record_in (below-absent k (y ∷ ys) (less, later k (row_key y) less ys all))

tails : (x y : StoredRecord) (xs ys : Rows) → row_key x ≡ row_key y → AllByRecursion (λ z. key_cmp (row_key x) z ≡ Less) (map row_key xs) → AllByRecursion (λ z. key_cmp (row_key y) z ≡ Less) (map row_key ys) → Alike (x ∷ xs) (y ∷ ys) → Alike xs ys
tails x y xs ys same sx sy h k = elim (key_cases (row_key x) k) [
  | inl is ↦
      let none : record_at (row_key x) xs ≡ None = ap record_in (below-absent (row_key x) xs sx) in
      let also : record_at (row_key y) ys ≡ None = ap record_in (below-absent (row_key y) ys sy) in
      subst (λ (z : Key). record_at z xs ≡ record_at z ys) is (none ∙ sym (subst (λ (z : Key). record_at z ys ≡ None) (sym same) also))
  | inr differ ↦ sym (tail-record k x xs differ) ∙ (h k ∙ tail-record k y ys (λ e. differ (same ∙ e)))
]

pub alike-records : (one other : Rows) → IsSorted one → IsSorted other → Alike one other → records one ≡ records other
unfolding IsStrictlySortedBy
alike-records [] [] s t h = refl
alike-records [] (y ∷ ys) s t h = let e : None ≡ Some y.1 = h (row_key y) ∙ head-record y ys in absurd (cc e)
alike-records (x ∷ xs) [] s t h = let e : Some x.1 ≡ None = sym (head-record x xs) ∙ h (row_key x) in absurd (cc e)
alike-records (x ∷ xs) (y ∷ ys) s t h = by (key_cmp (row_key x) (row_key y)) refl (alike-records xs ys s.1 t.1)
  where
    by : (o : Ordering) → key_cmp (row_key x) (row_key y) ≡ o → (Alike xs ys → records xs ≡ records ys) → records (x ∷ xs) ≡ records (y ∷ ys)
    by Less o rest =
        let e : Some x.1 ≡ None = sym (head-record x xs) ∙ (h (row_key x) ∙ none-below (row_key x) y ys o t.0) in absurd (cc e)
    by Greater o rest =
        let less : key_cmp (row_key y) (row_key x) ≡ Less = key_cmp_total.antisymm (row_key y) (row_key x) ∙ ap ordering_reverse o in
        let e : Some y.1 ≡ None = sym (head-record y ys) ∙ (sym (h (row_key y)) ∙ none-below (row_key y) x xs less s.0) in absurd (cc e)
    by Equal o rest =
        let same = same-keys_equal (row_key x) (row_key y) (ap is_eq o) in
        let own : record_at (row_key x) (y ∷ ys) ≡ Some y.1 = subst (λ (z : Key). record_at z (y ∷ ys) ≡ Some y.1) (sym same) (head-record y ys) in
        let heads : Some x.1 ≡ Some y.1 = sym (head-record x xs) ∙ (h (row_key x) ∙ own) in
        let head : x.1 ≡ y.1 = cc heads in
        let tail = rest (tails x y xs ys same s.0 t.0 h) in
        λ i. head i ∷ tail i

-- ---- what is read of a record

abbrev pub handle_from : List ℕ → Option Record → HandleValue
handle_from id (Some (record_of.Handle h)) = h
handle_from id _ = content id []

pub handle_of-record : (id : List ℕ) (rows : Rows) → handle_of id rows ≡ handle_from id (record_at (key.Handle id) rows)
handle_of-record id rows = each-kind (λ o. handle_said id (reply_to_get o) ≡ handle_from id (record_in o)) refl (λ r x. refl) (λ r x. refl) (λ r x. refl) (λ r x. refl) (λ r x. refl) (λ r x. refl) (row_of (key.Handle id) rows)

pub alike-handle : (id : List ℕ) (one other : Rows) → Alike one other → handle_of id one ≡ handle_of id other
alike-handle id one other h = handle_of-record id one ∙ (ap (handle_from id) (h (key.Handle id)) ∙ sym (handle_of-record id other))

abbrev pub block_from : Option Record → Option BlockValue
block_from (Some (record_of.Block b)) = Some b
block_from _ = None

abbrev pub value_in : Option (ℕ × BlockValue) → Option BlockValue
value_in o = option_map (λ (found : ℕ × BlockValue). found.1) o

pub block_of-record : (cidr : CidrValue) (rows : Rows) → value_in (block_in_rows cidr rows) ≡ block_from (record_at (key.Block cidr) rows)
block_of-record cidr rows = each-kind (λ o. value_in (block_said (reply_to_get o)) ≡ block_from (record_in o)) refl (λ r x. refl) (λ r x. refl) (λ r x. refl) (λ r x. refl) (λ r x. refl) (λ r x. refl) (row_of (key.Block cidr) rows)

pub alike-block : (cidr : CidrValue) (one other : Rows) → Alike one other → value_in (block_in_rows cidr one) ≡ value_in (block_in_rows cidr other)
alike-block cidr one other h = block_of-record cidr one ∙ (ap block_from (h (key.Block cidr)) ∙ sym (block_of-record cidr other))

pub same-handle : (id : List ℕ) (one other : Rows) → record_at (key.Handle id) one ≡ record_at (key.Handle id) other → handle_of id one ≡ handle_of id other
same-handle id one other e = handle_of-record id one ∙ (ap (handle_from id) e ∙ sym (handle_of-record id other))

abbrev pub pools_from : Option Record → List Pool
pools_from (Some (record_of.Pools pools)) = pools
pools_from _ = []

pub pools-record : (rows : Rows) → pools_said (found_in key.Pools rows) ≡ pools_from (record_at key.Pools rows)
pools-record rows = each-kind (λ o. pools_said (reply_to_get o) ≡ pools_from (record_in o)) refl (λ r x. refl) (λ r x. refl) (λ r x. refl) (λ r x. refl) (λ r x. refl) (λ r x. refl) (row_of key.Pools rows)

pub same-pools : (one other : Rows) → record_at key.Pools one ≡ record_at key.Pools other → pools_said (found_in key.Pools one) ≡ pools_said (found_in key.Pools other)
same-pools one other e = pools-record one ∙ (ap pools_from e ∙ sym (pools-record other))

-- the row of a record that is there
pub record-row : (k : Key) (rows : Rows) (there : Record) → record_at k rows ≡ Some there → (revision : ℕ) × (row_of k rows ≡ Some (revision, there))
record-row k rows there e = by (row_of k rows) refl e
  where
    by : (o : Option StoredRecord) → row_of k rows ≡ o → record_in o ≡ Some there → (revision : ℕ) × (row_of k rows ≡ Some (revision, there))
    by None is f = absurd (cc f)
    by (Some row) is f = let same : row.1 ≡ there = cc f in (row.0, is ∙ ap (λ (x : Record). Some (row.0, x)) same)
