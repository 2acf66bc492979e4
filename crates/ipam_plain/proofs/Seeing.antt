-- What a choice sees of the rows, by their records.
use Rattle.std.proofs.Common.{◌≡◌, ◌≢◌, ℕ, ◌+◌, inl, inr, Bool, true, false, cond, List, [], ◌∷◌, Option, Some, None, refl, sym, ap, ◌∙◌, subst, bytes_eq, arith}
use Rattle.std.specs.Prelude.{◌||◌}
use Rattle.std.specs.declared.cmp.Ordering.{Ordering}
use Rattle.std.specs.declared.cmp.Ordering.TheVariants.{Less, Equal, Greater}
use Rattle.std.specs.Ordering.{is_eq}
use Rattle.std.specs.List.{count_by, filter, list_any}
use Rattle.std.specs.List.Sorted.{IsStrictlySortedBy}
use Rattle.std.proofs.lemmas.List.Sums.{sum_by-cons}
use Rattle.ipam_addr.specs.Shape.{CidrValue}
use Rattle.ipam_block.specs.Shape.{BlockValue}
use Rattle.ipam_record_text.specs.declared.config.Config.{Config}
use Rattle.ipam_pool.specs.Shape.{ReservationValue}
use Rattle.ipam_records.specs.declared.key.Key.{Key}
use Rattle.ipam_records.specs.declared.key.Key.TheVariants as key
use Rattle.ipam_records.specs.declared.key.Kind.TheVariants as kind
use Rattle.ipam_records.specs.declared.record.Record.{Record}
use Rattle.ipam_records.specs.declared.record.Record.TheVariants as record_of
use Rattle.ipam_records.specs.Datastore.{reply_to_get, row_at, row_key, row_of, with_row}
use Rattle.ipam_records.specs.KeyOrder.{is_of_kind, key_cmp, keys_equal}
use Rattle.ipam_records.specs.KeyOrderLaws.{keys_equal-itself, same-keys_equal}
use Rattle.std.proofs.lemmas.Bool.{cases_Bool}
use Rattle.ipam_model.specs.Choice.{block_at, block_in_found, is_block_of, is_confirmed_for, is_confirmed_state}
use Rattle.ipam_model.specs.Plain.{Rows, found_in, records, seen_in}
use Rattle.ipam_model.specs.Reads.{StoredRecord, config_said, default_config, reservations_said}
use Rattle.ipam_model.specs.Usable.{Asked, is_same_cidr}
use Rattle.ipam_records.proofs.DatastoreLemmas.{row_key-row_of}
use Rattle.ipam_records.proofs.RowKinds.{each-kind}
use Rattle.ipam_laws.proofs.Calls.{found-block}
use Rattle.ipam_laws.proofs.CountLemmas.{cidr_cases, same_itself, same_text, text_cases}
use Rattle.ipam_laws.proofs.RowOrder.{below-absent}
use Rattle.ipam_laws.proofs.WordSteps.{listed-block}
use Rattle.ipam_plain.proofs.Alike.{IsSorted, block_from, record_at, record_in, value_in}

-- ---- settings

abbrev config_from : Option Record → Config
config_from (Some (record_of.Config config)) = config
config_from _ = default_config

config-record : (rows : Rows) → config_said (found_in key.Config rows) ≡ config_from (record_at key.Config rows)
config-record rows = each-kind (λ o. config_said (reply_to_get o) ≡ config_from (record_in o)) refl (λ r x. refl) (λ r x. refl) (λ r x. refl) (λ r x. refl) (λ r x. refl) (λ r x. refl) (row_of key.Config rows)

pub same-config : (one other : Rows) → record_at key.Config one ≡ record_at key.Config other → (seen_in one).config ≡ (seen_in other).config
same-config one other e = config-record one ∙ (ap config_from e ∙ sym (config-record other))

abbrev reservations_from : Option Record → List ReservationValue
reservations_from (Some (record_of.Reservations reservations)) = reservations
reservations_from _ = []

reservations-record : (rows : Rows) → reservations_said (found_in key.Reservations rows) ≡ reservations_from (record_at key.Reservations rows)
reservations-record rows = each-kind (λ o. reservations_said (reply_to_get o) ≡ reservations_from (record_in o)) refl (λ r x. refl) (λ r x. refl) (λ r x. refl) (λ r x. refl) (λ r x. refl) (λ r x. refl) (row_of key.Reservations rows)

pub same-reservations : (one other : Rows) → record_at key.Reservations one ≡ record_at key.Reservations other → (seen_in one).reservations ≡ (seen_in other).reservations
same-reservations one other e = reservations-record one ∙ (ap reservations_from e ∙ sym (reservations-record other))

-- ---- blocks

-- the block that is listed at a slot
pub block_at-record : (rows : Rows) (cidr : CidrValue) → value_in (block_at (seen_in rows) cidr) ≡ block_from (record_at (key.Block cidr) rows)
block_at-record rows cidr = ap (λ (o : Option StoredRecord). value_in (block_in_found o)) (listed-block rows cidr) ∙ each-kind (λ o. value_in (block_in_found o) ≡ block_from (record_in o)) refl (λ r x. refl) (λ r x. refl) (λ r x. refl) (λ r x. refl) (λ r x. refl) (λ r x. refl) (row_of (key.Block cidr) rows)

pub same-block : (one other : Rows) (cidr : CidrValue) → record_at (key.Block cidr) one ≡ record_at (key.Block cidr) other → value_in (block_at (seen_in one) cidr) ≡ value_in (block_at (seen_in other) cidr)
same-block one other cidr e = block_at-record one cidr ∙ (ap block_from e ∙ sym (block_at-record other cidr))

-- a block that is listed at a slot is the one that is found there
pub block-listed : (rows : Rows) (cidr : CidrValue) (revision : ℕ) (b : BlockValue) → row_of (key.Block cidr) rows ≡ Some (revision, record_of.Block b) → block_at (seen_in rows) cidr ≡ Some (revision, b)
block-listed rows cidr revision b e = ap block_in_found (listed-block rows cidr ∙ e)

-- and has the slot's CIDR
pub block-named : (rows : Rows) (cidr : CidrValue) (found : ℕ × BlockValue) → block_at (seen_in rows) cidr ≡ Some found → found.1.cidr ≡ cidr
block-named rows cidr found e = by (row_of (key.Block cidr) rows) refl (sym (ap block_in_found (listed-block rows cidr)) ∙ e)
  where
    by : (o : Option StoredRecord) → row_of (key.Block cidr) rows ≡ o → block_in_found o ≡ Some found → found.1.cidr ≡ cidr
    by None is f = absurd (cc f)
    by (Some row) is f =
        let (b, at, same) = found-block cidr row.1 (row_key-row_of (key.Block cidr) rows row is) in
        let pair : Some (row.0, b) ≡ Some found = ap (λ (x : Record). block_in_found (Some (row.0, x))) (sym at) ∙ f in
        let whole : (row.0, b) ≡ found = cc pair in
        ap (λ (p : ℕ × BlockValue). p.1.cidr) (sym whole) ∙ same

-- how many blocks the node has is said by the records
counted : Asked → List Record → ℕ
counted asked [] = 0
counted asked (r ∷ rest) = cond (is_block_of asked (0, r)) 1 0 + counted asked rest

revision-none : (asked : Asked) (row : StoredRecord) → is_block_of asked row ≡ is_block_of asked (0, row.1)
revision-none asked (revision, record_of.Block b) = refl
revision-none asked (revision, record_of.Config config) = refl
revision-none asked (revision, record_of.Pools pools) = refl
revision-none asked (revision, record_of.Reservations reservations) = refl
revision-none asked (revision, record_of.Affinity a) = refl
revision-none asked (revision, record_of.Handle h) = refl

no-block : (asked : Asked) (row : StoredRecord) → is_of_kind kind.Block (row_key row) ≡ false → is_block_of asked (0, row.1) ≡ false
no-block asked (revision, record_of.Block b) e = absurd (cc e)
no-block asked (revision, record_of.Config config) e = refl
no-block asked (revision, record_of.Pools pools) e = refl
no-block asked (revision, record_of.Reservations reservations) e = refl
no-block asked (revision, record_of.Affinity a) e = refl
no-block asked (revision, record_of.Handle h) e = refl

count-records : (asked : Asked) (rows : Rows) → count_by (is_block_of asked) (filter (λ row. is_of_kind kind.Block (row_key row)) rows) ≡ counted asked (records rows)
unfolding counted
count-records asked [] = refl
count-records asked (row ∷ rows) = by (is_of_kind kind.Block (row_key row)) refl (count-records asked rows)
  where
    by : (b : Bool) → is_of_kind kind.Block (row_key row) ≡ b → count_by (is_block_of asked) (filter (λ r. is_of_kind kind.Block (row_key r)) rows) ≡ counted asked (records rows)
        → count_by (is_block_of asked) (cond b (row ∷ filter (λ r. is_of_kind kind.Block (row_key r)) rows) (filter (λ r. is_of_kind kind.Block (row_key r)) rows)) ≡ cond (is_block_of asked (0, row.1)) 1 0 + counted asked (records rows)
    by true e rest =
        let same = revision-none asked row in
        sum_by-cons (λ x. cond (is_block_of asked x) 1 0) row (filter (λ r. is_of_kind kind.Block (row_key r)) rows) ∙ (λ i. cond (same i) 1 0 + rest i)
    by false e rest = let none : cond {A = ℕ} (is_block_of asked (0, row.1)) 1 0 ≡ 0 = ap (λ (b : Bool). cond {A = ℕ} b 1 0) (no-block asked row e) in omega arith

zero-of : (asked : Asked) (new row : StoredRecord) → ((r : StoredRecord) → row_key r ≡ row_key new → is_block_of asked (0, r.1) ≡ false) → row_key row ≡ row_key new → cond {A = ℕ} (is_block_of asked (0, row.1)) 1 0 ≡ 0
zero-of asked new row none same = ap (λ (b : Bool). cond {A = ℕ} b 1 0) (none row same)

counted-put : (asked : Asked) (new : StoredRecord) (rows : Rows) → ((row : StoredRecord) → row_key row ≡ row_key new → is_block_of asked (0, row.1) ≡ false) → counted asked (records (with_row new rows)) ≡ counted asked (records rows)
unfolding counted
counted-put asked new [] none = let nothing = zero-of asked new new none refl in omega arith
counted-put asked new (first ∷ rest) none = by (key_cmp (row_key new) (row_key first)) refl (counted-put asked new rest none)
  where
    by : (o : Ordering) → key_cmp (row_key new) (row_key first) ≡ o → counted asked (records (with_row new rest)) ≡ counted asked (records rest)
        → counted asked (records (row_at o new first rest (with_row new rest))) ≡ cond (is_block_of asked (0, first.1)) 1 0 + counted asked (records rest)
    by Less e more = let nothing = zero-of asked new new none refl in omega arith
    by Equal e more =
        let same = same-keys_equal (row_key new) (row_key first) (ap is_eq e) in
        let nothing = zero-of asked new new none refl in
        let also = zero-of asked new first none (sym same) in
        omega arith
    by Greater e more = omega arith

-- a row that is no such block, put where there was none, changes nothing
pub count-put : (asked : Asked) (new : StoredRecord) (rows : Rows) → ((row : StoredRecord) → row_key row ≡ row_key new → is_block_of asked (0, row.1) ≡ false) → count_by (is_block_of asked) (seen_in (with_row new rows)).blocks ≡ count_by (is_block_of asked) (seen_in rows).blocks
count-put asked new rows none = count-records asked (with_row new rows) ∙ (counted-put asked new rows none ∙ sym (count-records asked rows))

pub same-count : (asked : Asked) (one other : Rows) → records one ≡ records other → count_by (is_block_of asked) (seen_in one).blocks ≡ count_by (is_block_of asked) (seen_in other).blocks
same-count asked one other e = count-records asked one ∙ (ap (counted asked) e ∙ sym (count-records asked other))

-- ---- confirmed affinities

abbrev pub confirmed_from : Option Record → Bool
confirmed_from (Some (record_of.Affinity a)) = is_confirmed_state a.state
confirmed_from _ = false

module _ (node : List ℕ) (cidr : CidrValue) where
  -- a row of another key is none of the node's for the block
  other-not : (row : StoredRecord) → row_key row ≢ key.Affinity node cidr → is_confirmed_for node cidr row ≡ false
  other-not (revision, record_of.Affinity a) other = elim (text_cases a.node node) [
    | inr (f, differ) ↦ rw f refl
    | inl (t, same) ↦ elim (cidr_cases a.cidr cidr) [
      | inr (g, differ) ↦ rw (t, g) refl
      | inl (u, is) ↦ absurd (other (λ i. key.Affinity (same i) (is i)))
    ]
  ]
  other-not (revision, record_of.Block b) other = refl
  other-not (revision, record_of.Config config) other = refl
  other-not (revision, record_of.Pools pools) other = refl
  other-not (revision, record_of.Reservations reservations) other = refl
  other-not (revision, record_of.Handle h) other = refl

  own-is : (row : StoredRecord) → row_key row ≡ key.Affinity node cidr → is_confirmed_for node cidr row ≡ confirmed_from (Some row.1)
  own-is (revision, record_of.Affinity a) e =
      let names : a.node ≡ node = cc e in
      let cidrs : a.cidr ≡ cidr = cc e in
      let t : bytes_eq a.node node ≡ true = subst (λ (n : List ℕ). bytes_eq a.node n ≡ true) names (same_text a.node) in
      let u : is_same_cidr a.cidr cidr ≡ true = subst (λ (c : CidrValue). is_same_cidr a.cidr c ≡ true) cidrs (same_itself a.cidr) in
      rw (t, u) refl
  own-is (revision, record_of.Block b) e = absurd (cc e)
  own-is (revision, record_of.Config config) e = absurd (cc e)
  own-is (revision, record_of.Pools pools) e = absurd (cc e)
  own-is (revision, record_of.Reservations reservations) e = absurd (cc e)
  own-is (revision, record_of.Handle h) e = absurd (cc e)

  -- those of another kind are not, so it is among the affinities or nowhere
  kind-not : (row : StoredRecord) → is_of_kind kind.Affinity (row_key row) ≡ false → is_confirmed_for node cidr row ≡ false
  kind-not (revision, record_of.Affinity a) e = absurd (cc e)
  kind-not (revision, record_of.Block b) e = refl
  kind-not (revision, record_of.Config config) e = refl
  kind-not (revision, record_of.Pools pools) e = refl
  kind-not (revision, record_of.Reservations reservations) e = refl
  kind-not (revision, record_of.Handle h) e = refl

  among : (rows : Rows) → list_any (is_confirmed_for node cidr) (filter (λ row. is_of_kind kind.Affinity (row_key row)) rows) ≡ list_any (is_confirmed_for node cidr) rows
  among [] = refl
  among (row ∷ rows) = by (is_of_kind kind.Affinity (row_key row)) refl (among rows)
    where
      by : (b : Bool) → is_of_kind kind.Affinity (row_key row) ≡ b → list_any (is_confirmed_for node cidr) (filter (λ r. is_of_kind kind.Affinity (row_key r)) rows) ≡ list_any (is_confirmed_for node cidr) rows
          → list_any (is_confirmed_for node cidr) (cond b (row ∷ filter (λ r. is_of_kind kind.Affinity (row_key r)) rows) (filter (λ r. is_of_kind kind.Affinity (row_key r)) rows)) ≡ is_confirmed_for node cidr row || list_any (is_confirmed_for node cidr) rows
      by true e rest = ap (λ (b : Bool). is_confirmed_for node cidr row || b) rest
      by false e rest = let none = kind-not row e in rw none rest

  or-false : (b : Bool) → b || false ≡ b
  or-false true = refl
  or-false false = refl

  any-record : (rows : Rows) → IsSorted rows → list_any (is_confirmed_for node cidr) rows ≡ confirmed_from (record_at (key.Affinity node cidr) rows)
  unfolding IsStrictlySortedBy
  any-record [] sorted = refl
  any-record (row ∷ rows) sorted = elim (cases_Bool (keys_equal (row_key row) (key.Affinity node cidr))) [
    | inl same ↦
        let is = same-keys_equal (row_key row) (key.Affinity node cidr) same in
        let absent : record_at (key.Affinity node cidr) rows ≡ None = subst (λ (k : Key). record_at k rows ≡ None) is (ap record_in (below-absent (row_key row) rows sorted.0)) in
        let rest = any-record rows sorted.1 in
        let none : list_any (is_confirmed_for node cidr) rows ≡ false = rest ∙ ap confirmed_from absent in
        rw (same, own-is row is, none) (or-false (confirmed_from (Some row.1)))
    | inr differ ↦
        let not = other-not row (λ e. let t : keys_equal (row_key row) (key.Affinity node cidr) ≡ true = subst (λ (k : Key). keys_equal (row_key row) k ≡ true) e (keys_equal-itself (row_key row)) in cc (t, differ)) in
        rw (differ, not) (any-record rows sorted.1)
  ]

  -- whether the node has a confirmed affinity for the block is said by its record
  pub confirmed-record : (rows : Rows) → IsSorted rows → list_any (is_confirmed_for node cidr) (seen_in rows).affinities ≡ confirmed_from (record_at (key.Affinity node cidr) rows)
  confirmed-record rows sorted = among rows ∙ any-record rows sorted

  pub same-confirmed : (one other : Rows) → IsSorted one → IsSorted other → record_at (key.Affinity node cidr) one ≡ record_at (key.Affinity node cidr) other → list_any (is_confirmed_for node cidr) (seen_in one).affinities ≡ list_any (is_confirmed_for node cidr) (seen_in other).affinities
  same-confirmed one other s t e = confirmed-record one s ∙ (ap confirmed_from e ∙ sym (confirmed-record other t))
