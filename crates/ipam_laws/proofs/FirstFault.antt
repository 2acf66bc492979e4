-- Rows that are to be opened have a first fault, or none.
use Rattle.std.proofs.Common.{◌≡◌, ◌≢◌, ◌⊎◌, ℕ, zero, suc, ◌<◌, inl, inr, Bool, true, false, cond, List, [], ◌∷◌, ◌++◌, map, Option, Some, None, Result, Err, refl, sym, ap, ◌∙◌, subst, arith, ltb-true, eqb-true, eq-eqb, bytes_eq}
use Rattle.std.specs.Prelude.{Contains, ◌&&◌, ◌==◌, not, nat_lt, slice_get, codes}
use Rattle.std.specs.List.{AllByRecursion, count_by, filter, list_any}
use Rattle.std.proofs.lemmas.Bool.{cases_Bool, lt-ltb}
use Rattle.std.proofs.lemmas.List.Sums.{sum_by-cons}
use Rattle.std.proofs.lemmas.List.Elements.{Contains-append_left, Contains-append_right}
use Rattle.std.proofs.lemmas.Slice.Eq.{bytes_eq-Decides}
use Rattle.ipam_addr.specs.Shape.{CidrValue}
use Rattle.ipam_addr.specs.Width.{IsCidr}
use Rattle.ipam_block.specs.declared.state.State.{State}
use Rattle.ipam_block.specs.declared.state.State.TheVariants.{Pending, Confirmed, PendingDeletion}
use Rattle.ipam_block.specs.declared.allocation.Allocation.{Allocation}
use Rattle.ipam_block.specs.Operations.{is_owned}
use Rattle.ipam_pool.specs.Sound.{IsPoolTable}
use Rattle.ipam_pool.specs.Slots.{is_slot_of}
use Rattle.ipam_pool.proofs.SlotsLemmas.{any_slot}
use Rattle.ipam_records.specs.declared.call.Row.{Row as RowText}
use Rattle.ipam_records.specs.declared.fault.TextFault.{TextFault}
use Rattle.ipam_records.specs.declared.fault.TextFault.TheVariants as fault
use Rattle.ipam_records.specs.declared.key.Key.{Key}
use Rattle.ipam_records.specs.declared.key.Key.TheVariants as key
use Rattle.ipam_records.specs.declared.record.Record.{Record}
use Rattle.ipam_records.specs.declared.record.Record.TheVariants as record_of
use Rattle.ipam_records.specs.Datastore.{last_revision, most_rows, most_blocks, row_of}
use Rattle.ipam_records.specs.KeyText.{key_bytes, key_read}
use Rattle.ipam_records.specs.Sound.{IsRecord}
use Rattle.ipam_records.proofs.KeyTextLemmas.{IsTextOf-key_read}
use Rattle.ipam_records.proofs.RecordTexts.{record_read}
use Rattle.ipam_model.specs.Affinities.{affinity}
use Rattle.ipam_model.specs.AffinityLaw.{HasAffinity, HasNode}
use Rattle.ipam_model.specs.Consistent.{IsSlotOfSome, pools_in_row}
use Rattle.ipam_model.specs.CountLaw.{handle_count, held_in_row, held_count}
use Rattle.ipam_model.specs.Opened.{Texts, Breaks, NoText, AnotherKey, NoTable, NoSlot, NoBlock, CountTooLow, NoAffinityFor, NoNodeFor, TooManyRows, TooManyBlocks, NoRevision, AboveCounter, AboveLast, CounterAboveLast, IsRefusedBy, MayBeOpened, FirstFaultLaw, cidr_of_key, is_block_text, pools_read, read_store, readable, reading_of}
use Rattle.ipam_model.specs.Reads.{StoredRecord}
use Rattle.ipam_laws.proofs.Calls.{found-block, found-key}
use Rattle.ipam_laws.proofs.Members.{in-here, in-there, in-nothing, in-map, out-map, in-filter, filter-in}
use Rattle.ipam_laws.proofs.OpenedRows.{out-readable}
use Rattle.ipam_laws.proofs.TextFaults.{broken-is, fault-told, is-broken, is_broken, is_same_fault, reads_fault, told-fault}
use Rattle.ipam_laws.proofs.FaultLists.{Fault, first-of, Faulty, by_rows, by_read, rows-faulty, row-among, both-faulty, none-faulty, one-faulty, read-faulty, read-among}
use Rattle.ipam_laws.proofs.RowOrder.{found-member}
use Rattle.ipam_laws.proofs.AffinityAt.{node_at, state_at}
use Rattle.ipam_laws.proofs.AffinityHistory.{node-has, has-node, state-has, has-state}
use Rattle.ipam_records.specs.BlockLists.{is_node}

-- ---- tests

not-true : (b : Bool) → not b ≡ true → b ≡ false
not-true true e = absurd (cc e)
not-true false e = refl

is_none : {A : Type 0} → Option A → Bool
is_none None = true
is_none (Some x) = false

no-state : (s : Option State) → ((state : State) → s ≢ Some state) → is_none s ≡ true
unfolding is_none
no-state None h = refl
no-state (Some state) h = absurd (h state refl)

no-node : (node : List ℕ) (held : Option (List ℕ)) → held ≢ Some node → is_node node held ≡ false
no-node node None h = refl
no-node node (Some other) h = elim (cases_Bool (bytes_eq other node)) [
  | inl same ↦ absurd (h (ap Some ((bytes_eq-Decides other node).0 same)))
  | inr differ ↦ differ
]

is_confirmed : Option State → Bool
is_confirmed (Some Confirmed) = true
is_confirmed s = false

confirmed-is : (s : Option State) → is_confirmed s ≡ true → s ≡ Some Confirmed
unfolding is_confirmed
confirmed-is None e = absurd (cc e)
confirmed-is (Some Confirmed) e = refl
confirmed-is (Some Pending) e = absurd (cc e)
confirmed-is (Some PendingDeletion) e = absurd (cc e)

-- where some are owned, one is
pub owned-member : (id : List ℕ) (xs : List Allocation) → 0 < count_by (is_owned id) xs → (a : Allocation) × Contains xs a × (is_owned id a ≡ true)
owned-member id [] h = absurd (omega arith)
owned-member id (x ∷ xs) h = by (is_owned id x) refl (owned-member id xs)
  where
    by : (b : Bool) → is_owned id x ≡ b → (0 < count_by (is_owned id) xs → (a : Allocation) × Contains xs a × (is_owned id a ≡ true)) → (a : Allocation) × Contains (x ∷ xs) a × (is_owned id a ≡ true)
    by true e rest = (x, in-here x xs, e)
    by false e rest =
        let both = sum_by-cons (λ (a : Allocation). cond {A = ℕ} (is_owned id a) 1 0) x xs in
        let none : cond {A = ℕ} (is_owned id x) 1 0 ≡ 0 = rw e refl in
        let (a, among, owned) = rest (omega arith) in
        (a, in-there a x xs among, owned)

-- ---- rows that cannot be read

not-fault : (which : TextFault) (r : Result Record TextFault) → r ≢ Err which → reads_fault which r ≡ false
not-fault which r other = elim (cases_Bool (reads_fault which r)) [
  | inl is ↦ absurd (other (fault-told which r is))
  | inr no_fault ↦ no_fault
]

-- ---- slots

-- the range that a key's text names
pub key-range : (k : Option Key) (text : List ℕ) (cidr : CidrValue) → key_read text ≡ k → cidr_of_key k ≡ Some cidr → IsCidr cidr
key-range None text cidr e named = absurd (cc named)
key-range (Some (key.Block r)) text cidr e named = let same : r ≡ cidr = cc named in subst (λ (x : CidrValue). IsCidr x) same (IsTextOf-key_read text (key.Block r) e).sound
key-range (Some (key.Affinity node r)) text cidr e named = let same : r ≡ cidr = cc named in subst (λ (x : CidrValue). IsCidr x) same (IsTextOf-key_read text (key.Affinity node r) e).sound.1
key-range (Some key.Config) text cidr e named = absurd (cc named)
key-range (Some key.Pools) text cidr e named = absurd (cc named)
key-range (Some key.Reservations) text cidr e named = absurd (cc named)
key-range (Some (key.Handle id)) text cidr e named = absurd (cc named)

module _ (texts : Texts) where
  pub read-table : IsPoolTable (pools_read texts)
  read-table = from (row_of key.Pools (readable texts.rows)) refl
    where
      none : IsPoolTable []
      none = record {
        few = omega arith;
        ranges = λ k d within. absurd (omega arith);
        sizes = λ k d within. absurd (omega arith);
        names = λ i j d below within. absurd (omega arith);
        apart = λ i j d below within. absurd (omega arith);
      }

      sound : (row : StoredRecord) → row_of key.Pools (readable texts.rows) ≡ Some row → IsRecord row.1
      sound row e =
          let (text, among, revision, reads) = out-readable texts.rows row (found-member key.Pools (readable texts.rows) row e) in
          (record_read text.key text.body row.1 reads).sound

      from : (o : Option StoredRecord) → row_of key.Pools (readable texts.rows) ≡ o → IsPoolTable (pools_in_row o)
      from None e = none
      from (Some (revision, record_of.Pools pools)) e = (sound (revision, record_of.Pools pools) e).table
      from (Some (revision, record_of.Config config)) e = none
      from (Some (revision, record_of.Reservations reservations)) e = none
      from (Some (revision, record_of.Block b)) e = none
      from (Some (revision, record_of.Affinity a)) e = none
      from (Some (revision, record_of.Handle handle)) e = none

  in_slot : CidrValue → Bool
  in_slot cidr = list_any (λ p. is_slot_of p cidr) (pools_read texts)

  slot-told : (cidr : CidrValue) → IsCidr cidr → in_slot cidr ≡ false → ¬ (IsSlotOfSome (pools_read texts) cidr)
  unfolding in_slot
  slot-told cidr range e (pool, (k, within, at), is) = let some = (any_slot (pools_read texts) cidr read-table range).1 (k, pool, within, at, is) in cc (some, e)

  not-in_slot : (cidr : CidrValue) → IsCidr cidr → ¬ (IsSlotOfSome (pools_read texts) cidr) → in_slot cidr ≡ false
  unfolding in_slot
  not-in_slot cidr range outside = elim (cases_Bool (list_any (λ p. is_slot_of p cidr) (pools_read texts))) [
    | inl some ↦ let (k, pool, within, at, is) = (any_slot (pools_read texts) cidr read-table range).0 some in absurd (outside (pool, (k, within, at), is))
    | inr none ↦ none
  ]

  is_outside : Option CidrValue → Bool
  is_outside None = false
  is_outside (Some cidr) = not (in_slot cidr)

  misplaced : RowText → Bool
  misplaced row = not (reads_fault fault.Form (reading_of row)) && (not (reads_fault fault.Key (reading_of row)) && is_outside (cidr_of_key (key_read row.key)))

  misplaced-is : (row : RowText) → Contains texts.rows row → misplaced row ≡ true → Breaks texts 4 row.key
  unfolding misplaced is_outside reads_fault is_same_fault
  misplaced-is row among e = by (reads_fault fault.Form (reading_of row)) refl (reads_fault fault.Key (reading_of row)) refl (cidr_of_key (key_read row.key)) refl e
    where
      by : (a : Bool) → reads_fault fault.Form (reading_of row) ≡ a → (b : Bool) → reads_fault fault.Key (reading_of row) ≡ b → (o : Option CidrValue) → cidr_of_key (key_read row.key) ≡ o → not a && (not b && is_outside o) ≡ true → Breaks texts 4 row.key
      by true ea b eb o eo f = absurd (cc f)
      by false ea true eb o eo f = absurd (cc f)
      by false ea false eb None eo f = absurd (cc f)
      by false ea false eb (Some cidr) eo f =
          let range = key-range (key_read row.key) row.key cidr refl eo in
          let out : in_slot cidr ≡ false = not-true (in_slot cidr) f in
          NoSlot row cidr among eo (λ g. let h : reads_fault fault.Form (reading_of row) ≡ true = ap (reads_fault fault.Form) g in cc (h, ea)) (λ g. let h : reads_fault fault.Key (reading_of row) ≡ true = ap (reads_fault fault.Key) g in cc (h, eb)) (slot-told cidr range out)

  is-misplaced : (row : RowText) (cidr : CidrValue) → cidr_of_key (key_read row.key) ≡ Some cidr → reading_of row ≢ Err fault.Form → reading_of row ≢ Err fault.Key → ¬ (IsSlotOfSome (pools_read texts) cidr) → misplaced row ≡ true
  unfolding misplaced is_outside
  is-misplaced row cidr named form other outside =
      let a : reads_fault fault.Form (reading_of row) ≡ false = not-fault fault.Form (reading_of row) form in
      let b : reads_fault fault.Key (reading_of row) ≡ false = not-fault fault.Key (reading_of row) other in
      let c = not-in_slot cidr (key-range (key_read row.key) row.key cidr refl named) outside in
      rw (a, b, named, c) refl

  -- ---- counts that are too low

  low_in : StoredRecord → List Fault
  low_in (revision, record_of.Block b) = map (λ (a : Allocation). (6, key_bytes (key.Handle a.attributes.handle))) (filter (λ (a : Allocation). nat_lt (handle_count (read_store texts) a.attributes.handle b.cidr) (held_count (read_store texts) a.attributes.handle b.cidr)) b.allocations)
  low_in row = []

  low-faulty : (row : StoredRecord) → Faulty texts (low_in row)
  unfolding low_in
  low-faulty (revision, record_of.Block b) f there =
      let (a, among, is) = out-map (λ (a : Allocation). (6, key_bytes (key.Handle a.attributes.handle))) f (filter (λ (a : Allocation). nat_lt (handle_count (read_store texts) a.attributes.handle b.cidr) (held_count (read_store texts) a.attributes.handle b.cidr)) b.allocations) there in
      let (own, low) = in-filter (λ (a : Allocation). nat_lt (handle_count (read_store texts) a.attributes.handle b.cidr) (held_count (read_store texts) a.attributes.handle b.cidr)) a b.allocations among in
      subst (λ (g : Fault). Breaks texts g.0 g.1) is (CountTooLow a.attributes.handle b.cidr (ltb-true _ _ low))
  low-faulty (revision, record_of.Config config) f there = absurd (in-nothing f there)
  low-faulty (revision, record_of.Pools pools) f there = absurd (in-nothing f there)
  low-faulty (revision, record_of.Reservations reservations) f there = absurd (in-nothing f there)
  low-faulty (revision, record_of.Affinity a) f there = absurd (in-nothing f there)
  low-faulty (revision, record_of.Handle handle) f there = absurd (in-nothing f there)

  low-among : (id : List ℕ) (cidr : CidrValue) → handle_count (read_store texts) id cidr < held_count (read_store texts) id cidr → Contains (by_read texts low_in) (6, key_bytes (key.Handle id))
  unfolding low_in
  low-among id cidr less = from (row_of (key.Block cidr) (readable texts.rows)) refl
    where
      from : (o : Option StoredRecord) → row_of (key.Block cidr) (readable texts.rows) ≡ o → Contains (by_read texts low_in) (6, key_bytes (key.Handle id))
      from None e = let none : held_count (read_store texts) id cidr ≡ 0 = ap (held_in_row id) e in absurd (omega arith)
      from (Some (revision, found)) e =
          let (b, is, own) = found-block cidr found (found-key (read_store texts) (key.Block cidr) revision found e) in
          let there : row_of (key.Block cidr) (readable texts.rows) ≡ Some (revision, record_of.Block b) = e ∙ ap (λ (r : Record). Some (revision, r)) is in
          let held : held_count (read_store texts) id cidr ≡ count_by (is_owned id) b.allocations = ap (held_in_row id) there in
          let (a, among, owned) = owned-member id b.allocations (omega arith) in
          let handle : a.attributes.handle ≡ id = (bytes_eq-Decides a.attributes.handle id).0 owned in
          let low : nat_lt (handle_count (read_store texts) a.attributes.handle b.cidr) (held_count (read_store texts) a.attributes.handle b.cidr) ≡ true =
          subst (λ (x : List ℕ). nat_lt (handle_count (read_store texts) x b.cidr) (held_count (read_store texts) x b.cidr) ≡ true) (sym handle)
          (subst (λ (x : CidrValue). nat_lt (handle_count (read_store texts) id x) (held_count (read_store texts) id x) ≡ true) (sym own) (lt-ltb _ _ less)) in
          let here = in-map (λ (x : Allocation). (6, key_bytes (key.Handle x.attributes.handle))) a (filter (λ (x : Allocation). nat_lt (handle_count (read_store texts) x.attributes.handle b.cidr) (held_count (read_store texts) x.attributes.handle b.cidr)) b.allocations)
          (filter-in (λ (x : Allocation). nat_lt (handle_count (read_store texts) x.attributes.handle b.cidr) (held_count (read_store texts) x.attributes.handle b.cidr)) a b.allocations among low) in
          subst (λ (x : List ℕ). Contains (by_read texts low_in) (6, key_bytes (key.Handle x))) handle
          (read-among texts low_in (revision, record_of.Block b) (6, key_bytes (key.Handle a.attributes.handle)) (found-member (key.Block cidr) (readable texts.rows) (revision, record_of.Block b) there) here)

  -- ---- blocks and affinities that do not agree

  orphan_at : CidrValue → Option (List ℕ) → List Fault
  orphan_at cidr None = []
  orphan_at cidr (Some node) = cond (is_none (state_at (read_store texts) node cidr)) ((7, key_bytes (key.Block cidr)) ∷ []) []

  orphan_in : StoredRecord → List Fault
  orphan_in (revision, record_of.Block b) = orphan_at b.cidr (node_at (read_store texts) b.cidr)
  orphan_in row = []

  orphan-at-faulty : (cidr : CidrValue) (o : Option (List ℕ)) → node_at (read_store texts) cidr ≡ o → Faulty texts (orphan_at cidr o)
  unfolding orphan_at is_none
  orphan-at-faulty cidr None e f there = absurd (in-nothing f there)
  orphan-at-faulty cidr (Some node) e f there = by (state_at (read_store texts) node cidr) refl there
    where
      by : (s : Option State) → state_at (read_store texts) node cidr ≡ s → Contains (cond (is_none s) ((7, key_bytes (key.Block cidr)) ∷ []) []) f → Breaks texts f.0 f.1
      by None g h = one-faulty texts (7, key_bytes (key.Block cidr)) (NoAffinityFor cidr node (has-node (read_store texts) cidr node e) (λ state has. let at = state-has (read_store texts) node cidr state has in cc (at, g))) f h
      by (Some state) g h = absurd (in-nothing f h)

  orphan-faulty : (row : StoredRecord) → Faulty texts (orphan_in row)
  unfolding orphan_in
  orphan-faulty (revision, record_of.Block b) f there = orphan-at-faulty b.cidr (node_at (read_store texts) b.cidr) refl f there
  orphan-faulty (revision, record_of.Config config) f there = absurd (in-nothing f there)
  orphan-faulty (revision, record_of.Pools pools) f there = absurd (in-nothing f there)
  orphan-faulty (revision, record_of.Reservations reservations) f there = absurd (in-nothing f there)
  orphan-faulty (revision, record_of.Affinity a) f there = absurd (in-nothing f there)
  orphan-faulty (revision, record_of.Handle handle) f there = absurd (in-nothing f there)

  orphan-among : (cidr : CidrValue) (node : List ℕ) → HasNode (read_store texts) cidr node → ((state : State) → ¬ (HasAffinity (read_store texts) node cidr state)) → Contains (by_read texts orphan_in) (7, key_bytes (key.Block cidr))
  unfolding orphan_in orphan_at
  orphan-among cidr node (b, (revision, there), is) none =
      let own : b.cidr ≡ cidr = cc (found-key (read_store texts) (key.Block cidr) revision (record_of.Block b) there) in
      let has = node-has (read_store texts) cidr node (b, (revision, there), is) in
      let lacks = no-state (state_at (read_store texts) node cidr) (λ state e. none state (has-state (read_store texts) node cidr state e)) in
      let here : Contains (orphan_at cidr (node_at (read_store texts) cidr)) (7, key_bytes (key.Block cidr)) = rw (has, lacks) (in-here (7, key_bytes (key.Block cidr)) []) in
      read-among texts orphan_in (revision, record_of.Block b) (7, key_bytes (key.Block cidr)) (found-member (key.Block cidr) (readable texts.rows) (revision, record_of.Block b) there)
      (subst (λ (x : CidrValue). Contains (orphan_at x (node_at (read_store texts) x)) (7, key_bytes (key.Block cidr))) (sym own) here)

  alone_in : StoredRecord → List Fault
  alone_in (revision, record_of.Affinity a) = cond (is_confirmed (state_at (read_store texts) a.node a.cidr) && not (is_node a.node (node_at (read_store texts) a.cidr))) ((8, key_bytes (key.Affinity a.node a.cidr)) ∷ []) []
  alone_in row = []

  alone-faulty : (row : StoredRecord) → Faulty texts (alone_in row)
  unfolding alone_in
  alone-faulty (revision, record_of.Affinity a) f there = by (is_confirmed (state_at (read_store texts) a.node a.cidr)) refl (is_node a.node (node_at (read_store texts) a.cidr)) refl there
    where
      by : (c : Bool) → is_confirmed (state_at (read_store texts) a.node a.cidr) ≡ c → (n : Bool) → is_node a.node (node_at (read_store texts) a.cidr) ≡ n → Contains (cond (c && not n) ((8, key_bytes (key.Affinity a.node a.cidr)) ∷ []) []) f → Breaks texts f.0 f.1
      by true ec true en h = absurd (in-nothing f h)
      by true ec false en h = one-faulty texts (8, key_bytes (key.Affinity a.node a.cidr)) (NoNodeFor a.cidr a.node (has-state (read_store texts) a.node a.cidr Confirmed (confirmed-is (state_at (read_store texts) a.node a.cidr) ec)) (λ has.
          let at = node-has (read_store texts) a.cidr a.node has in
          let own : is_node a.node (Some a.node) ≡ true = (bytes_eq-Decides a.node a.node).1 refl in
          let other : is_node a.node (Some a.node) ≡ false = sym (ap (is_node a.node) at) ∙ en in
          cc (own, other))) f h
      by false ec n en h = absurd (in-nothing f h)
  alone-faulty (revision, record_of.Block b) f there = absurd (in-nothing f there)
  alone-faulty (revision, record_of.Config config) f there = absurd (in-nothing f there)
  alone-faulty (revision, record_of.Pools pools) f there = absurd (in-nothing f there)
  alone-faulty (revision, record_of.Reservations reservations) f there = absurd (in-nothing f there)
  alone-faulty (revision, record_of.Handle handle) f there = absurd (in-nothing f there)

  alone-among : (cidr : CidrValue) (node : List ℕ) → HasAffinity (read_store texts) node cidr Confirmed → ¬ (HasNode (read_store texts) cidr node) → Contains (by_read texts alone_in) (8, key_bytes (key.Affinity node cidr))
  unfolding alone_in is_confirmed
  alone-among cidr node (revision, there) lacks =
      let has = state-has (read_store texts) node cidr Confirmed (revision, there) in
      let other : is_node node (node_at (read_store texts) cidr) ≡ false = no-node node (node_at (read_store texts) cidr) (λ e. lacks (has-node (read_store texts) cidr node e)) in
      read-among texts alone_in (revision, record_of.Affinity (affinity node cidr Confirmed)) (8, key_bytes (key.Affinity node cidr)) (found-member (key.Affinity node cidr) (readable texts.rows) (revision, record_of.Affinity (affinity node cidr Confirmed)) there)
      (rw (has, other) (in-here (8, key_bytes (key.Affinity node cidr)) []))

  -- ---- rows that are too many

  excess : Option RowText → List Fault
  excess None = []
  excess (Some row) = (9, row.key) ∷ []

  excess-faulty : (o : Option RowText) → ((row : RowText) → o ≡ Some row → Breaks texts 9 row.key) → Faulty texts (excess o)
  unfolding excess
  excess-faulty None h f there = absurd (in-nothing f there)
  excess-faulty (Some row) h f there = one-faulty texts (9, row.key) (h row refl) f there

  excess-among : (o : Option RowText) (row : RowText) → o ≡ Some row → Contains (excess o) (9, row.key)
  unfolding excess
  excess-among None row e = absurd (cc e)
  excess-among (Some other) row e = let same : other ≡ row = cc e in subst (λ (r : RowText). Contains (excess (Some other)) (9, r.key)) same (in-here (9, other.key) [])

  above_last : List Fault
  above_last = cond (nat_lt last_revision texts.counter) ((10, codes "counter") ∷ []) []

  above-faulty : Faulty texts above_last
  unfolding above_last
  above-faulty f there = by (nat_lt last_revision texts.counter) refl there
    where
      by : (b : Bool) → nat_lt last_revision texts.counter ≡ b → Contains (cond b ((10, codes "counter") ∷ []) []) f → Breaks texts f.0 f.1
      by true e h = one-faulty texts (10, codes "counter") (CounterAboveLast (ltb-true _ _ e)) f h
      by false e h = absurd (in-nothing f h)

  -- ---- all of them

  spoiled : RowText → Bool
  spoiled row = is_broken row.revision (reading_of row)

  parts : List (List Fault)
  parts =
      by_rows texts 1 (λ row. reads_fault fault.Form (reading_of row))
      ∷ by_rows texts 2 (λ row. reads_fault fault.Key (reading_of row))
      ∷ by_rows texts 3 (λ row. reads_fault fault.Table (reading_of row))
      ∷ by_rows texts 4 misplaced
      ∷ by_rows texts 5 spoiled
      ∷ by_read texts low_in
      ∷ by_read texts orphan_in
      ∷ by_read texts alone_in
      ∷ excess (slice_get texts.rows most_rows)
      ∷ excess (slice_get (filter is_block_text texts.rows) most_blocks)
      ∷ by_rows texts 10 (λ row. row.revision == 0)
      ∷ by_rows texts 10 (λ row. nat_lt texts.counter row.revision)
      ∷ by_rows texts 10 (λ row. nat_lt last_revision row.revision)
      ∷ above_last ∷ []

  joined : List (List Fault) → List Fault
  joined [] = []
  joined (part ∷ more) = part ++ joined more

  joined-faulty : (lists : List (List Fault)) → AllByRecursion (λ list. Faulty texts list) lists → Faulty texts (joined lists)
  unfolding joined
  joined-faulty [] h = none-faulty texts
  joined-faulty (part ∷ more) h = both-faulty texts part (joined more) h.0 (joined-faulty more h.1)

  in-joined : (lists : List (List Fault)) (k : ℕ) (list : List Fault) (f : Fault) → slice_get lists k ≡ Some list → Contains list f → Contains (joined lists) f
  unfolding joined
  in-joined [] k list f e there = absurd (cc e)
  in-joined (part ∷ more) zero list f e there = let same : part ≡ list = cc e in Contains-append_left part (joined more) f (subst (λ (l : List Fault). Contains l f) (sym same) there)
  in-joined (part ∷ more) (suc k) list f e there = Contains-append_right part (joined more) f (in-joined more k list f e there)

  all-faulty : Faulty texts (joined parts)
  unfolding parts spoiled
  all-faulty = joined-faulty parts (
    rows-faulty texts 1 (λ row. reads_fault fault.Form (reading_of row)) (λ row among e. NoText row among (fault-told fault.Form (reading_of row) e)),
    (
      rows-faulty texts 2 (λ row. reads_fault fault.Key (reading_of row)) (λ row among e. AnotherKey row among (fault-told fault.Key (reading_of row) e)),
      (
        rows-faulty texts 3 (λ row. reads_fault fault.Table (reading_of row)) (λ row among e. NoTable row among (fault-told fault.Table (reading_of row) e)),
        (
          rows-faulty texts 4 misplaced misplaced-is,
          (
            rows-faulty texts 5 spoiled (λ row among e. NoBlock row among (broken-is row.revision (reading_of row) e)),
            (
              read-faulty texts low_in low-faulty,
              (
                read-faulty texts orphan_in orphan-faulty,
                (
                  read-faulty texts alone_in alone-faulty,
                  (
                    excess-faulty (slice_get texts.rows most_rows) (λ row e. TooManyRows row e),
                    (
                      excess-faulty (slice_get (filter is_block_text texts.rows) most_blocks) (λ row e. TooManyBlocks row e),
                      (
                        rows-faulty texts 10 (λ row. row.revision == 0) (λ row among e. NoRevision row among (eqb-true row.revision 0 e)),
                        (
                          rows-faulty texts 10 (λ row. nat_lt texts.counter row.revision) (λ row among e. AboveCounter row among (ltb-true _ _ e)),
                          (
                            rows-faulty texts 10 (λ row. nat_lt last_revision row.revision) (λ row among e. AboveLast row among (ltb-true _ _ e)),
                            (
                              above-faulty,
                              (
                                  tt),
                            ),
                          ),
                        ),
                      ),
                    ),
                  ),
                ),
              ),
            ),
          ),
        ),
      ),
    ),
  )

  all-among : (number : ℕ) (about : List ℕ) → Breaks texts number about → Contains (joined parts) (number, about)
  unfolding parts spoiled above_last
  all-among number about (NoText row among e) = in-joined parts 0 _ (1, row.key) refl (row-among texts 1 (λ r. reads_fault fault.Form (reading_of r)) row among (told-fault fault.Form (reading_of row) e))
  all-among number about (AnotherKey row among e) = in-joined parts 1 _ (2, row.key) refl (row-among texts 2 (λ r. reads_fault fault.Key (reading_of r)) row among (told-fault fault.Key (reading_of row) e))
  all-among number about (NoTable row among e) = in-joined parts 2 _ (3, row.key) refl (row-among texts 3 (λ r. reads_fault fault.Table (reading_of r)) row among (told-fault fault.Table (reading_of row) e))
  all-among number about (NoSlot row cidr among named form other outside) = in-joined parts 3 _ (4, row.key) refl (row-among texts 4 misplaced row among (is-misplaced row cidr named form other outside))
  all-among number about (NoBlock row among broken) = in-joined parts 4 _ (5, row.key) refl (row-among texts 5 spoiled row among (is-broken row.revision (reading_of row) broken))
  all-among number about (CountTooLow id cidr less) = in-joined parts 5 _ (6, key_bytes (key.Handle id)) refl (low-among id cidr less)
  all-among number about (NoAffinityFor cidr node has none) = in-joined parts 6 _ (7, key_bytes (key.Block cidr)) refl (orphan-among cidr node has none)
  all-among number about (NoNodeFor cidr node has none) = in-joined parts 7 _ (8, key_bytes (key.Affinity node cidr)) refl (alone-among cidr node has none)
  all-among number about (TooManyRows row e) = in-joined parts 8 _ (9, row.key) refl (excess-among (slice_get texts.rows most_rows) row e)
  all-among number about (TooManyBlocks row e) = in-joined parts 9 _ (9, row.key) refl (excess-among (slice_get (filter is_block_text texts.rows) most_blocks) row e)
  all-among number about (NoRevision row among none) = in-joined parts 10 _ (10, row.key) refl (row-among texts 10 (λ r. r.revision == 0) row among (eq-eqb row.revision 0 none))
  all-among number about (AboveCounter row among above) = in-joined parts 11 _ (10, row.key) refl (row-among texts 10 (λ r. nat_lt texts.counter r.revision) row among (lt-ltb _ _ above))
  all-among number about (AboveLast row among above) = in-joined parts 12 _ (10, row.key) refl (row-among texts 10 (λ r. nat_lt last_revision r.revision) row among (lt-ltb _ _ above))
  all-among number about (CounterAboveLast above) = in-joined parts 13 _ (10, codes "counter") refl (rw (lt-ltb last_revision texts.counter above) (in-here (10, codes "counter") []))

-- ---- the first

pub first_fault : FirstFaultLaw
first_fault texts = from (joined texts (parts texts)) (all-faulty texts) (all-among texts)
  where
    from : (faults : List Fault) → Faulty texts faults → ((number : ℕ) (about : List ℕ) → Breaks texts number about → Contains faults (number, about)) → MayBeOpened texts ⊎ ((number : ℕ) × (about : List ℕ) × IsRefusedBy texts number about)
    from [] faulty among = inl (λ number about broken. in-nothing (number, about) (among number about broken))
    from (f ∷ faults) faulty among =
        let least = first-of f faults in
        inr (
          least.first.0,
          least.first.1,
          record {
            breaks = faulty least.first least.among;
            first = λ n k broken. least.behind (n, k) (among n k broken);
          },
        )
