-- Which rows break each rule.
use Rattle.std.proofs.Common.{◌≡◌, ℕ, inl, inr, Bool, true, false, List, Option, Some, None, Result, Ok, Err, refl, sym, ap, ◌∙◌, subst, arith, option_map}
use Rattle.std.specs.Prelude.{Contains, ◌&&◌, not, is_none}
use Rattle.std.specs.List.{find, list_any}
use Rattle.std.proofs.lemmas.Bool.{cases_Bool}
use Rattle.std.proofs.lemmas.Slice.Eq.{bytes_eq-Decides}
use Rattle.ipam_addr.specs.Shape.{CidrValue}
use Rattle.ipam_addr.specs.Width.{IsCidr}
use Rattle.ipam_block.specs.declared.state.State.{State}
use Rattle.ipam_block.specs.declared.state.State.TheVariants.{Pending, Confirmed, PendingDeletion}
use Rattle.ipam_pool.specs.declared.pools.Pool.{Pool}
use Rattle.ipam_pool.specs.Slots.{is_slot_of}
use Rattle.ipam_pool.proofs.SlotsLemmas.{any_slot}
use Rattle.ipam_records.specs.declared.call.Row.{Row as RowText}
use Rattle.ipam_records.specs.declared.fault.TextFault.{TextFault}
use Rattle.ipam_records.specs.declared.fault.TextFault.TheVariants as fault
use Rattle.ipam_records.specs.declared.key.Key.{Key}
use Rattle.ipam_records.specs.declared.key.Key.TheVariants as key
use Rattle.ipam_records.specs.declared.record.Record.{Record}
use Rattle.ipam_records.specs.declared.record.Record.TheVariants as record_of
use Rattle.ipam_records.specs.Datastore.{row_of}
use Rattle.ipam_records.specs.Key.{key_of}
use Rattle.ipam_records.specs.KeyText.{key_bytes, key_read}
use Rattle.ipam_model.specs.Consistent.{IsSlotOfSome, pools_in, pools_in_row}
use Rattle.ipam_model.specs.Opened.{Texts, Breaks, NoText, AnotherKey, NoTable, NoSlot, NoBlock, NoAffinityFor, NoNodeFor, AreByKey, IsBrokenBlock, cidr_of_key, pools_read, read_store, readable, reading_of}
use Rattle.ipam_model.specs.Reads.{StoredRecord}
use Rattle.ipam_records.proofs.DatastoreLemmas.{row_key-row_of}
use Rattle.ipam_records.proofs.RowKinds.{each-kind}
use Rattle.ipam_block.specs.declared.record.Affinity.{Affinity}
use Rattle.ipam_block.specs.Shape as block
use Rattle.ipam_model.specs.Affinities.{affinity}
use Rattle.ipam_model.specs.AffinityLaw.{HasAffinity, HasNode}
use Rattle.ipam_laws.proofs.FirstFault.{key-range, read-table}
use Rattle.ipam_laws.proofs.TextFaults.{broken-is as broken_block, fault-told as reads-told, is-broken as block_broken, is_broken, is_same_fault, reads_fault, told-fault as told-reads}
use Rattle.ipam_laws.proofs.OpenedRows.{out-readable}
use Rattle.ipam_laws.proofs.RowOrder.{found-member}
use Rattle.ipam_opening.specs.Rules.{breaks, has_fault, is_broken_block, is_outside, pools_found, found_in, is_block_alone, is_affinity_alone, lacks_affinity, is_confirmed, is_block_with}
use Rattle.ipam_opening.specs.Told.{IsClearBelow, IsFirstOf}
use Rattle.ipam_opening.specs.declared.rule.Rule.{Rule}
use Rattle.ipam_opening.specs.declared.rule.Rule.TheVariants as rule
use Rattle.ipam_opening.proofs.Firsts.{IsKeyOf, first-found, first-same}
use Rattle.ipam_opening.proofs.Found.{found-own, own-text}
use Rattle.ipam_records.specs.BlockLists.{is_node}

-- ---- faults of texts

fault-told : (which : TextFault) (r : Result Record TextFault) → has_fault which r ≡ true → r ≡ Err which
unfolding reads_fault is_same_fault
fault-told which r e = reads-told which r e

told-fault : (which : TextFault) (r : Result Record TextFault) → r ≡ Err which → has_fault which r ≡ true
unfolding reads_fault is_same_fault
told-fault which r e = told-reads which r e

-- ---- broken blocks

broken-is : (revision : ℕ) (r : Result Record TextFault) → is_broken_block revision r ≡ true → IsBrokenBlock revision r
unfolding is_broken is_same_fault
broken-is revision r e = broken_block revision r e

is-broken : (revision : ℕ) (r : Result Record TextFault) → IsBrokenBlock revision r → is_broken_block revision r ≡ true
unfolding is_broken is_same_fault
is-broken revision r h = block_broken revision r h

-- ---- slots

-- the pools that are found are those of the rows
pools-same : (rows : List StoredRecord) → pools_found (found_in key.Pools rows) ≡ pools_in rows
pools-same rows = each-kind (λ o. pools_found (option_map (λ (row : StoredRecord). row.1) o) ≡ pools_in_row o) refl (λ r x. refl) (λ r x. refl) (λ r x. refl) (λ r x. refl) (λ r x. refl) (λ r x. refl) (row_of key.Pools rows)

module _ (texts : Texts) where
  outside-is : (cidr : CidrValue) → IsCidr cidr → is_outside (pools_read texts) (Some cidr) ≡ true → ¬ (IsSlotOfSome (pools_read texts) cidr)
  outside-is cidr range e (pool, (k, within, at), is) =
      let some = (any_slot (pools_read texts) cidr (read-table texts) range).1 (k, pool, within, at, is) in
      let f : not true ≡ true = sym (ap not some) ∙ e in
      cc f

  is-outside : (cidr : CidrValue) → IsCidr cidr → ¬ (IsSlotOfSome (pools_read texts) cidr) → is_outside (pools_read texts) (Some cidr) ≡ true
  is-outside cidr range outside = elim (cases_Bool (list_any (λ p. is_slot_of p cidr) (pools_read texts))) [
    | inl some ↦ let (k, pool, within, at, is) = (any_slot (pools_read texts) cidr (read-table texts) range).0 some in absurd (outside (pool, (k, within, at), is))
    | inr none ↦ ap not none
  ]

-- ---- what was found

affinity-found : (node : List ℕ) (cidr : CidrValue) (found : Record) → key_of found ≡ key.Affinity node cidr → (state : State) × (found ≡ record_of.Affinity (affinity node cidr state))
affinity-found node cidr (record_of.Affinity a) e =
    let one : a.node ≡ node = cc e in
    let two : a.cidr ≡ cidr = cc e in
    (a.state, λ i. record_of.Affinity (record { node = one i; cidr = two i; state = a.state }))
affinity-found node cidr (record_of.Config config) e = absurd (cc e)
affinity-found node cidr (record_of.Pools pools) e = absurd (cc e)
affinity-found node cidr (record_of.Reservations reservations) e = absurd (cc e)
affinity-found node cidr (record_of.Block b) e = absurd (cc e)
affinity-found node cidr (record_of.Handle handle) e = absurd (cc e)

node-itself : (node : List ℕ) (held : Option (List ℕ)) → held ≡ Some node → is_node node held ≡ true
node-itself node held e = ap (is_node node) e ∙ (bytes_eq-Decides node node).1 refl

node-is : (node : List ℕ) (held : Option (List ℕ)) → is_node node held ≡ true → held ≡ Some node
node-is node None e = absurd (cc e)
node-is node (Some other) e = ap Some ((bytes_eq-Decides other node).0 e)

confirmed-is : (s : State) → is_confirmed s ≡ true → s ≡ Confirmed
confirmed-is Confirmed e = refl
confirmed-is Pending e = absurd (cc e)
confirmed-is PendingDeletion e = absurd (cc e)

both-true : (a b : Bool) → a && b ≡ true → (a ≡ true) × (b ≡ true)
both-true true b e = (refl, e)
both-true false b e = absurd (cc e)

-- ---- the first row that breaks each rule

not-true : (b : Bool) → not b ≡ true → b ≡ false
not-true true e = absurd (cc e)
not-true false e = refl

-- the key of the first row that breaks the rule
abbrev pub first_key : Rule → Texts → Option (List ℕ)
first_key r texts = option_map (λ (row : RowText). row.key) (find (breaks r texts) texts.rows)

module _ (texts : Texts) (by_key : AreByKey texts.rows) where
  -- where the rows that fail are those that break the rule
  first-of : (r : Rule) (number : ℕ) → ((row : RowText) → Contains texts.rows row → breaks r texts row ≡ true → Breaks texts number row.key) → ((about : List ℕ) → Breaks texts number about → IsKeyOf texts.rows (breaks r texts) about) → IsFirstOf (Breaks texts number) (first_key r texts)
  first-of r number forth back =
      first-same (IsKeyOf texts.rows (breaks r texts)) (Breaks texts number) (λ about h. subst (Breaks texts number) h.own (forth h.row h.among h.failed)) back
      (option_map (λ (row : RowText). row.key) (find (breaks r texts) texts.rows)) (first-found (breaks r texts) texts.rows by_key)

  pub first-form : IsFirstOf (Breaks texts 1) (first_key rule.Form texts)
  first-form = first-of rule.Form 1 (λ row among e. NoText row among (fault-told fault.Form (reading_of row) e)) back
    where
      back : (about : List ℕ) → Breaks texts 1 about → IsKeyOf texts.rows (breaks rule.Form texts) about
      back about (NoText row among e) = record { row = row; among = among; own = refl; failed = told-fault fault.Form (reading_of row) e }

  pub first-other : IsFirstOf (Breaks texts 2) (first_key rule.Key texts)
  first-other = first-of rule.Key 2 (λ row among e. AnotherKey row among (fault-told fault.Key (reading_of row) e)) back
    where
      back : (about : List ℕ) → Breaks texts 2 about → IsKeyOf texts.rows (breaks rule.Key texts) about
      back about (AnotherKey row among e) = record { row = row; among = among; own = refl; failed = told-fault fault.Key (reading_of row) e }

  pub first-table : IsFirstOf (Breaks texts 3) (first_key rule.Table texts)
  first-table = first-of rule.Table 3 (λ row among e. NoTable row among (fault-told fault.Table (reading_of row) e)) back
    where
      back : (about : List ℕ) → Breaks texts 3 about → IsKeyOf texts.rows (breaks rule.Table texts) about
      back about (NoTable row among e) = record { row = row; among = among; own = refl; failed = told-fault fault.Table (reading_of row) e }

  pub first-slot : IsClearBelow texts 4 → IsFirstOf (Breaks texts 4) (first_key rule.Slot texts)
  first-slot below = first-of rule.Slot 4 (λ row among e. forth row among (cidr_of_key (key_read row.key)) refl (sym (outside row) ∙ e)) back
    where
      outside : (row : RowText) → breaks rule.Slot texts row ≡ is_outside (pools_read texts) (cidr_of_key (key_read row.key))
      outside row = ap (λ (pools : List Pool). is_outside pools (cidr_of_key (key_read row.key))) (pools-same (readable texts.rows))

      forth : (row : RowText) → Contains texts.rows row → (o : Option CidrValue) → cidr_of_key (key_read row.key) ≡ o → is_outside (pools_read texts) o ≡ true → Breaks texts 4 row.key
      forth row among None eo e = absurd (cc e)
      forth row among (Some cidr) eo e =
          NoSlot row cidr among eo (λ f. below.clear 1 row.key (omega arith) (NoText row among f)) (λ f. below.clear 2 row.key (omega arith) (AnotherKey row among f))
          (outside-is texts cidr (key-range (key_read row.key) row.key cidr refl eo) e)

      back : (about : List ℕ) → Breaks texts 4 about → IsKeyOf texts.rows (breaks rule.Slot texts) about
      back about (NoSlot row cidr among named form other none) = record {
        row = row;
        among = among;
        own = refl;
        failed = outside row ∙ (ap (is_outside (pools_read texts)) named ∙ is-outside texts cidr (key-range (key_read row.key) row.key cidr refl named) none);
      }

  pub first-block : IsFirstOf (Breaks texts 5) (first_key rule.Block texts)
  first-block = first-of rule.Block 5 (λ row among e. NoBlock row among (broken-is row.revision (reading_of row) e)) back
    where
      back : (about : List ℕ) → Breaks texts 5 about → IsKeyOf texts.rows (breaks rule.Block texts) about
      back about (NoBlock row among broken) = record { row = row; among = among; own = refl; failed = is-broken row.revision (reading_of row) broken }

  -- what is found by the key of a record that was read
  own-found : (k : Key) (revision : ℕ) (found : Record) → row_of k (readable texts.rows) ≡ Some (revision, found) → (row : RowText) × Contains texts.rows row × (row.key ≡ key_bytes k) × (reading_of row ≡ Ok found) × (key_of found ≡ k)
  own-found k revision found e =
      let (row, among, at, reads) = out-readable texts.rows (revision, found) (found-member k (readable texts.rows) (revision, found) e) in
      let own = row_key-row_of k (readable texts.rows) (revision, found) e in
      (row, among, sym (own-text row found reads) ∙ ap key_bytes own, reads, own)

  pub first-node : IsFirstOf (Breaks texts 7) (first_key rule.Node texts)
  first-node = first-of rule.Node 7 (λ row among e. forth row among (reading_of row) refl e) back
    where
      lacking : (row : RowText) (b : block.BlockValue) → Contains texts.rows row → reading_of row ≡ Ok (record_of.Block b) → (o : Option (List ℕ)) → b.node ≡ o → lacks_affinity (readable texts.rows) b.cidr o ≡ true → Breaks texts 7 row.key
      lacking row b among reads None eo e = absurd (cc e)
      lacking row b among reads (Some node) eo e =
          subst (Breaks texts 7) (own-text row (record_of.Block b) reads)
          (NoAffinityFor b.cidr node (b, (row.revision, found-own texts.rows by_key row (record_of.Block b) among reads), eo)
          (λ state has. let f : is_none (found_in (key.Affinity node b.cidr) (readable texts.rows)) ≡ false = ap (λ (o : Option StoredRecord). is_none (option_map (λ (r : StoredRecord). r.1) o)) has.1 in cc (e, f)))

      forth : (row : RowText) → Contains texts.rows row → (r : Result Record TextFault) → reading_of row ≡ r → is_block_alone (readable texts.rows) r ≡ true → Breaks texts 7 row.key
      forth row among (Ok (record_of.Block b)) reads e = lacking row b among reads b.node refl e
      forth row among (Ok (record_of.Config config)) reads e = absurd (cc e)
      forth row among (Ok (record_of.Pools pools)) reads e = absurd (cc e)
      forth row among (Ok (record_of.Reservations reservations)) reads e = absurd (cc e)
      forth row among (Ok (record_of.Affinity a)) reads e = absurd (cc e)
      forth row among (Ok (record_of.Handle handle)) reads e = absurd (cc e)
      forth row among (Err broken) reads e = absurd (cc e)

      absent : (cidr : CidrValue) (node : List ℕ) → ((state : State) → ¬ (HasAffinity (read_store texts) node cidr state)) → (o : Option StoredRecord) → row_of (key.Affinity node cidr) (readable texts.rows) ≡ o → is_none (option_map (λ (r : StoredRecord). r.1) o) ≡ true
      absent cidr node none None e = refl
      absent cidr node none (Some row) e =
          let (state, is) = affinity-found node cidr row.1 (row_key-row_of (key.Affinity node cidr) (readable texts.rows) row e) in
          absurd (none state (row.0, e ∙ ap (λ (found : Record). Some (row.0, found)) is))

      back : (about : List ℕ) → Breaks texts 7 about → IsKeyOf texts.rows (breaks rule.Node texts) about
      back about (NoAffinityFor cidr node (b, (revision, found), held) none) =
          let (row, among, text, reads, own) = own-found (key.Block cidr) revision (record_of.Block b) found in
          let range : b.cidr ≡ cidr = cc own in
          record {
            row = row;
            among = among;
            own = text;
            failed = ap (is_block_alone (readable texts.rows)) reads
                ∙ (ap (lacks_affinity (readable texts.rows) b.cidr) held
                ∙ (ap (λ (r : CidrValue). is_none (found_in (key.Affinity node r) (readable texts.rows))) range
                ∙ absent cidr node none (row_of (key.Affinity node cidr) (readable texts.rows)) refl));
          }

  pub first-confirmed : IsFirstOf (Breaks texts 8) (first_key rule.Confirmed texts)
  first-confirmed = first-of rule.Confirmed 8 (λ row among e. forth row among (reading_of row) refl e) back
    where
      lacking : (row : RowText) (a : Affinity) → Contains texts.rows row → reading_of row ≡ Ok (record_of.Affinity a) → is_affinity_alone (readable texts.rows) (Ok (record_of.Affinity a)) ≡ true → Breaks texts 8 row.key
      lacking row a among reads e =
          let (state, alone) = both-true (is_confirmed a.state) (not (is_block_with a.node (found_in (key.Block a.cidr) (readable texts.rows)))) e in
          let confirmed = confirmed-is a.state state in
          let found = found-own texts.rows by_key row (record_of.Affinity a) among reads in
          let same : Some (row.revision, record_of.Affinity a) ≡ Some (row.revision, record_of.Affinity (affinity a.node a.cidr Confirmed)) = λ i. Some (row.revision, record_of.Affinity (record { node = a.node; cidr = a.cidr; state = confirmed i })) in
          subst (Breaks texts 8) (own-text row (record_of.Affinity a) reads)
          (NoNodeFor a.cidr a.node (row.revision, found ∙ same) (λ has.
          let (b, (revision, is), held) = has in
          let f : is_block_with a.node (found_in (key.Block a.cidr) (readable texts.rows)) ≡ true = ap (λ (o : Option StoredRecord). is_block_with a.node (option_map (λ (r : StoredRecord). r.1) o)) is ∙ node-itself a.node b.node held in
          let g : not true ≡ true = sym (ap not f) ∙ alone in
          cc g))

      forth : (row : RowText) → Contains texts.rows row → (r : Result Record TextFault) → reading_of row ≡ r → is_affinity_alone (readable texts.rows) r ≡ true → Breaks texts 8 row.key
      forth row among (Ok (record_of.Affinity a)) reads e = lacking row a among reads e
      forth row among (Ok (record_of.Config config)) reads e = absurd (cc e)
      forth row among (Ok (record_of.Pools pools)) reads e = absurd (cc e)
      forth row among (Ok (record_of.Reservations reservations)) reads e = absurd (cc e)
      forth row among (Ok (record_of.Block b)) reads e = absurd (cc e)
      forth row among (Ok (record_of.Handle handle)) reads e = absurd (cc e)
      forth row among (Err broken) reads e = absurd (cc e)

      absent : (cidr : CidrValue) (node : List ℕ) → ¬ (HasNode (read_store texts) cidr node) → (o : Option StoredRecord) → row_of (key.Block cidr) (readable texts.rows) ≡ o → is_block_with node (option_map (λ (r : StoredRecord). r.1) o) ≡ false
      absent cidr node none None e = refl
      absent cidr node none (Some (revision, record_of.Block b)) e = elim (cases_Bool (is_node node b.node)) [
        | inl own ↦ absurd (none (b, (revision, e), node-is node b.node own))
        | inr other ↦ other
      ]
      absent cidr node none (Some (revision, record_of.Config config)) e = refl
      absent cidr node none (Some (revision, record_of.Pools pools)) e = refl
      absent cidr node none (Some (revision, record_of.Reservations reservations)) e = refl
      absent cidr node none (Some (revision, record_of.Affinity a)) e = refl
      absent cidr node none (Some (revision, record_of.Handle handle)) e = refl

      back : (about : List ℕ) → Breaks texts 8 about → IsKeyOf texts.rows (breaks rule.Confirmed texts) about
      back about (NoNodeFor cidr node (revision, found) none) =
          let (row, among, text, reads, own) = own-found (key.Affinity node cidr) revision (record_of.Affinity (affinity node cidr Confirmed)) found in
          record {
            row = row;
            among = among;
            own = text;
            failed = ap (is_affinity_alone (readable texts.rows)) reads ∙ ap not (absent cidr node none (row_of (key.Block cidr) (readable texts.rows)) refl);
          }
