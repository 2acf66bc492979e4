-- How counts follow what is held.
use Rattle.std.proofs.Common.{◌≡◌, ◌≢◌, ◌⊎◌, ℕ, zero, suc, ◌+◌, ◌-◌, ◌≤◌, inl, inr, Bool, true, false, cond, not, List, [], ◌∷◌, Option, Some, None, unwrap_or, refl, sym, ap, ◌∙◌, subst, arith, bytes_eq}
use Rattle.std.specs.BTreeMap.{is_at}
use Rattle.std.specs.Cmp.{IsEquivalence, eq_by_cmp_equiv, tied_itself}
use Rattle.std.specs.List.{count_by, filter}
use Rattle.std.specs.List.Sorted.{IsStrictlySortedBy}
use Rattle.std.specs.Map.{keys_of, lookup}
use Rattle.std.specs.Ordering.{eq_by_cmp, is_eq}
use Rattle.std.proofs.lemmas.Map.{lookup-remove_entry}
use Rattle.std.proofs.lemmas.Map.Keys.{IsDistinct-from_sorted}
use Rattle.ipam_addr.specs.Shape.{CidrValue}
use Rattle.ipam_block.specs.declared.allocation.Allocation.{Allocation}
use Rattle.ipam_block.specs.declared.allocation.Attributes.{Attributes}
use Rattle.ipam_block.specs.Operations.{block_with_ordinal, block_without, is_owned, next_block}
use Rattle.ipam_block.specs.Shape.{BlockValue}
use Rattle.ipam_block.proofs.Entries.{sorted-insert_entry, sorted-remove_entry}
use Rattle.ipam_block.proofs.Order.{cidr_cmp_total}
use Rattle.ipam_block.proofs.Reading.{counts_with-some}
use Rattle.ipam_block.specs.HandleOperations.{count_in, count_of, counts_with, with_lowered_count, with_raised_count}
use Rattle.ipam_block.specs.Order.{cidr_cmp}
use Rattle.ipam_block.specs.HandleShape.{HandleValue}
use Rattle.ipam_records.specs.declared.key.Key.TheVariants as key
use Rattle.ipam_records.specs.declared.record.Record.{Record}
use Rattle.ipam_records.specs.declared.record.Record.TheVariants as record_of
use Rattle.ipam_records.specs.Datastore.{Datastore, row_of}
use Rattle.ipam_records.proofs.DatastoreLemmas.{row_key-row_of}
use Rattle.ipam_records.proofs.RowKinds.{each-kind}
use Rattle.ipam_model.specs.Affinities.{BlockRead}
use Rattle.ipam_model.specs.CountLaw.{count_in_row, handle_count, held_count, held_in_row}
use Rattle.ipam_model.specs.Counting.{FreedOfHandle}
use Rattle.ipam_model.specs.Plain.{Rows, block_in_rows, claimed_block, handle_of, kept_or_gone, put, with_assigned, with_freed, with_freed_found, with_these_freed}
use Rattle.ipam_laws.proofs.Calls.{found-handle}
use Rattle.ipam_model.specs.Usable.{is_same_cidr}
use Rattle.ipam_laws.proofs.CountLemmas.{cidr_cases, count-elsewhere, count-here, held-assigned, held-filter, kept-others, raised-here, same_text, text_cases}
use Rattle.ipam_plain.proofs.Alike.{block_from, block_of-record, handle_from, handle_of-record, record-row, record_at, record_at-cut, record_at-kept, record_at-other, record_at-put, record_in, same-handle, value_in}
use Rattle.ipam_plain.proofs.Claiming.{IsClaimedIn}
use Rattle.ipam_plain.proofs.Held.{found-record, named}

-- ---- counts and what is held, by the rows

abbrev pub counted_at : Rows → List ℕ → CidrValue → ℕ
counted_at rows id cidr = count_of (handle_of id rows) cidr

abbrev pub held_from : List ℕ → Option Record → ℕ
held_from id (Some (record_of.Block b)) = count_by (is_owned id) b.allocations
held_from id _ = 0

abbrev pub held_at : Rows → List ℕ → CidrValue → ℕ
held_at rows id cidr = held_from id (record_at (key.Block cidr) rows)

-- they are those of a store
pub counted-store : (store : Datastore) (id : List ℕ) (cidr : CidrValue) → handle_count store id cidr ≡ counted_at store.rows id cidr
counted-store store id cidr = each-kind (λ o. count_in_row id cidr o ≡ count_of (handle_from id (record_in o)) cidr) refl (λ r x. refl) (λ r x. refl) (λ r x. refl) (λ r x. refl) (λ r x. refl) (λ r x. refl) (row_of (key.Handle id) store.rows) ∙ ap (λ (h : HandleValue). count_of h cidr) (sym (handle_of-record id store.rows))

pub held-store : (store : Datastore) (id : List ℕ) (cidr : CidrValue) → held_count store id cidr ≡ held_at store.rows id cidr
held-store store id cidr = each-kind (λ o. held_in_row id o ≡ held_from id (record_in o)) refl (λ r x. refl) (λ r x. refl) (λ r x. refl) (λ r x. refl) (λ r x. refl) (λ r x. refl) (row_of (key.Block cidr) store.rows)

-- the blocks of each handle ascend, and counts cover what is held
pub record AreSoundCounts (rows : Rows) : Type 0 where
  pub ascending : (id : List ℕ) → IsStrictlySortedBy cidr_cmp (keys_of (handle_of id rows).counts)
  pub covered : (id : List ℕ) (cidr : CidrValue) → held_at rows id cidr ≤ counted_at rows id cidr

-- each count changes as much as what is held
abbrev pub Evens : (old new : Rows) → Type 0
Evens old new = (id : List ℕ) (cidr : CidrValue) → counted_at new id cidr + held_at old id cidr ≡ counted_at old id cidr + held_at new id cidr

pub record Follows (old new : Rows) : Type 0 where
  pub even : Evens old new
  pub sound : AreSoundCounts new

pub follows-itself : (rows : Rows) → AreSoundCounts rows → Follows rows rows
follows-itself rows sound = record { even = λ id cidr. refl; sound = sound }

pub follows-trans : (one two three : Rows) → Follows one two → Follows two three → Follows one three
follows-trans one two three h g = record { even = λ id cidr. let a = h.even id cidr in let b = g.even id cidr in omega arith; sound = g.sound }

follows-from : (old new : Rows) → AreSoundCounts old → Evens old new → ((id : List ℕ) → IsStrictlySortedBy cidr_cmp (keys_of (handle_of id new).counts)) → Follows old new
follows-from old new sound even ascending = record {
  even = even;
  sound = record { ascending = ascending; covered = λ id cidr. let a = even id cidr in let b = sound.covered id cidr in omega arith };
}

-- ---- counts of one handle

same_block : IsEquivalence (eq_by_cmp cidr_cmp)
same_block = eq_by_cmp_equiv cidr_cmp_total

-- a count that is 0 is gone
zero-here : (es : List (CidrValue × ℕ)) (block : CidrValue) → IsStrictlySortedBy cidr_cmp (keys_of es) → count_in (counts_with es block 0) block ≡ 0
zero-here es block ascending =
    ap (λ o. unwrap_or o 0) (lookup-remove_entry same_block (is_at (cidr_cmp block)) one block es (IsDistinct-from_sorted cidr_cmp _ ascending))
    ∙ ap (λ (b : Bool). unwrap_or (cond b None (lookup (is_at (cidr_cmp block)) es)) 0) (ap is_eq (tied_itself cidr_cmp_total block))
  where
    one : (x y : CidrValue) → is_at (cidr_cmp block) x ≡ true → is_at (cidr_cmp block) y ≡ eq_by_cmp cidr_cmp x y
    one x y h = same_block.congr block x y h

written-here : (es : List (CidrValue × ℕ)) (block : CidrValue) (n : ℕ) → IsStrictlySortedBy cidr_cmp (keys_of es) → count_in (counts_with es block n) block ≡ n
written-here es block zero ascending = zero-here es block ascending
written-here es block (suc n) ascending = count-here es block n

written-ascending : (es : List (CidrValue × ℕ)) (block : CidrValue) (n : ℕ) → IsStrictlySortedBy cidr_cmp (keys_of es) → IsStrictlySortedBy cidr_cmp (keys_of (counts_with es block n))
written-ascending es block zero ascending = sorted-remove_entry cidr_cmp (is_at (cidr_cmp block)) es ascending
written-ascending es block (suc n) ascending =
    subst (λ (l : List (CidrValue × ℕ)). IsStrictlySortedBy cidr_cmp (keys_of l)) (sym (counts_with-some es block (suc n) (omega arith))) (sorted-insert_entry cidr_cmp_total block (suc n) es ascending)

-- ---- handles among rows

-- what is found has its id
handle-named : (id : List ℕ) (rows : Rows) → (handle_of id rows).id ≡ id
handle-named id rows = ap (λ (h : HandleValue). h.id) (handle_of-record id rows) ∙ by (record_at (key.Handle id) rows) refl
  where
    by : (o : Option Record) → record_at (key.Handle id) rows ≡ o → (handle_from id o).id ≡ id
    by None e = refl
    by (Some found) e =
        let (revision, there) = record-row (key.Handle id) rows found e in
        let (h, is, same) = found-handle id found (row_key-row_of (key.Handle id) rows (revision, found) there) in
        ap (λ (x : Record). (handle_from id (Some x)).id) is ∙ same

-- a block that is put leaves handles
put-block-handle : (rows : Rows) (b : BlockValue) (id : List ℕ) → handle_of id (put (record_of.Block b) rows) ≡ handle_of id rows
put-block-handle rows b id = same-handle id (put (record_of.Block b) rows) rows (record_at-other (key.Handle id) (0, record_of.Block b) rows (λ e. cc e))

put-handle-own : (rows : Rows) (h : HandleValue) → handle_of h.id (put (record_of.Handle h) rows) ≡ h
put-handle-own rows h = handle_of-record h.id (put (record_of.Handle h) rows) ∙ ap (handle_from h.id) (record_at-put (0, record_of.Handle h) rows)

put-handle-other : (rows : Rows) (h : HandleValue) (id : List ℕ) → h.id ≢ id → handle_of id (put (record_of.Handle h) rows) ≡ handle_of id rows
put-handle-other rows h id differ = same-handle id (put (record_of.Handle h) rows) rows (record_at-other (key.Handle id) (0, record_of.Handle h) rows (λ e. differ (cc e)))

-- a handle without counts is as good as none
kept-own : (h : HandleValue) (counts : List (CidrValue × ℕ)) (rows : Rows) → h.counts ≡ counts → (handle_of h.id (kept_or_gone h counts rows)).counts ≡ h.counts
kept-own h [] rows e =
    ap (λ (g : HandleValue). g.counts) (handle_of-record h.id (kept_or_gone h [] rows) ∙ ap (handle_from h.id) (record_at-cut (key.Handle h.id) rows)) ∙ sym e
kept-own h (count ∷ counts) rows e = ap (λ (g : HandleValue). g.counts) (put-handle-own rows h)

kept-other : (h : HandleValue) (counts : List (CidrValue × ℕ)) (rows : Rows) (id : List ℕ) → h.id ≢ id → handle_of id (kept_or_gone h counts rows) ≡ handle_of id rows
kept-other h [] rows id differ = same-handle id (kept_or_gone h [] rows) rows (record_at-kept (key.Handle id) (key.Handle h.id) rows (λ e. differ (cc e)))
kept-other h (count ∷ counts) rows id differ = put-handle-other rows h id differ

kept-blocks : (h : HandleValue) (counts : List (CidrValue × ℕ)) (rows : Rows) (cidr : CidrValue) → record_at (key.Block cidr) (kept_or_gone h counts rows) ≡ record_at (key.Block cidr) rows
kept-blocks h [] rows cidr = record_at-kept (key.Block cidr) (key.Handle h.id) rows (λ e. cc e)
kept-blocks h (count ∷ counts) rows cidr = record_at-other (key.Block cidr) (0, record_of.Handle h) rows (λ e. cc e)

-- ---- an assignment

module _ (attributes : Attributes) (rows : Rows) (b : BlockValue) (ordinal : ℕ) (there : record_at (key.Block b.cidr) rows ≡ Some (record_of.Block b)) where
  abbrev owner_id : List ℕ
  owner_id = attributes.handle

  abbrev more : HandleValue
  more = with_raised_count (handle_of owner_id rows) b.cidr 1

  abbrev after : Rows
  after = with_assigned attributes b ordinal rows

  more-id : (with_raised_count (handle_of attributes.handle rows) b.cidr 1).id ≡ attributes.handle
  more-id = handle-named attributes.handle rows

  assigned-own : handle_of owner_id after ≡ more
  assigned-own =
      put-block-handle (put (record_of.Handle more) rows) (block_with_ordinal (next_block b) ordinal attributes) owner_id
      ∙ subst (λ (i : List ℕ). handle_of i (put (record_of.Handle more) rows) ≡ more) more-id (put-handle-own rows more)

  assigned-other : (id : List ℕ) → owner_id ≢ id → handle_of id after ≡ handle_of id rows
  assigned-other id differ =
      put-block-handle (put (record_of.Handle more) rows) (block_with_ordinal (next_block b) ordinal attributes) id ∙ put-handle-other rows more id (λ e. differ (sym more-id ∙ e))

  held-here : (id : List ℕ) → held_at after id b.cidr ≡ held_at rows id b.cidr + cond (bytes_eq owner_id id) 1 0
  held-here id =
      ap (held_from id) (record_at-put (0, record_of.Block (block_with_ordinal (next_block b) ordinal attributes)) (put (record_of.Handle more) rows))
      ∙ (held-assigned b ordinal attributes id ∙ ap (λ (n : ℕ). n + cond (bytes_eq owner_id id) 1 0) (sym (ap (held_from id) there)))

  held-elsewhere : (id : List ℕ) (cidr : CidrValue) → b.cidr ≢ cidr → held_at after id cidr ≡ held_at rows id cidr
  held-elsewhere id cidr differ =
      ap (held_from id) (record_at-other (key.Block cidr) (0, record_of.Block (block_with_ordinal (next_block b) ordinal attributes)) (put (record_of.Handle more) rows) (λ e. differ (cc e)) ∙ record_at-other (key.Block cidr) (0, record_of.Handle more) rows (λ e. cc e))

  assigned-even : Evens rows after
  assigned-even id cidr = elim (text_cases owner_id id) [
    | inl (t, same) ↦ subst (λ (i : List ℕ). counted_at after i cidr + held_at rows i cidr ≡ counted_at rows i cidr + held_at after i cidr) same (own (cidr_cases b.cidr cidr))
    | inr (f, differ) ↦
        let kept = ap (λ (h : HandleValue). count_of h cidr) (assigned-other id differ) in
        let none : cond {A = ℕ} (bytes_eq owner_id id) 1 0 ≡ 0 = ap (λ (c : Bool). cond {A = ℕ} c 1 0) f in
        elim (cidr_cases b.cidr cidr) [
          | inr (g, other) ↦ let held = held-elsewhere id cidr other in omega arith
          | inl (u, is) ↦
              let held = subst (λ (c : CidrValue). held_at after id c ≡ held_at rows id c + cond (bytes_eq owner_id id) 1 0) is (held-here id) in
              omega arith
        ]
  ]
    where
      own : ((is_same_cidr b.cidr cidr ≡ true) × (b.cidr ≡ cidr)) ⊎ ((is_same_cidr b.cidr cidr ≡ false) × (b.cidr ≢ cidr)) → counted_at after owner_id cidr + held_at rows owner_id cidr ≡ counted_at rows owner_id cidr + held_at after owner_id cidr
      own (inl (u, is)) =
          let count : counted_at after owner_id cidr ≡ counted_at rows owner_id cidr + 1 =
          subst (λ (c : CidrValue). counted_at after owner_id c ≡ counted_at rows owner_id c + 1) is (ap (λ (h : HandleValue). count_of h b.cidr) assigned-own ∙ raised-here (handle_of owner_id rows) b.cidr) in
          let one : cond {A = ℕ} (bytes_eq owner_id owner_id) 1 0 ≡ 1 = ap (λ (c : Bool). cond {A = ℕ} c 1 0) (same_text owner_id) in
          let held = subst (λ (c : CidrValue). held_at after owner_id c ≡ held_at rows owner_id c + cond (bytes_eq owner_id owner_id) 1 0) is (held-here owner_id) in
          omega arith
      own (inr (f, other)) =
          let h = handle_of owner_id rows in
          let count : counted_at after owner_id cidr ≡ counted_at rows owner_id cidr = ap (λ (g : HandleValue). count_of g cidr) assigned-own ∙ count-elsewhere h.counts b.cidr cidr (count_of h b.cidr + 1) other in
          let held = held-elsewhere owner_id cidr other in
          omega arith

  pub assigned-follows : AreSoundCounts rows → Follows rows after
  assigned-follows sound = follows-from rows after sound assigned-even ascending
    where
      ascending : (id : List ℕ) → IsStrictlySortedBy cidr_cmp (keys_of (handle_of id after).counts)
      ascending id = elim (text_cases owner_id id) [
        | inl (t, same) ↦
            let h = handle_of owner_id rows in
            subst (λ (i : List ℕ). IsStrictlySortedBy cidr_cmp (keys_of (handle_of i after).counts)) same
            (subst (λ (g : HandleValue). IsStrictlySortedBy cidr_cmp (keys_of g.counts)) (sym assigned-own) (written-ascending h.counts b.cidr (count_of h b.cidr + 1) (sound.ascending owner_id)))
        | inr (f, differ) ↦ subst (λ (g : HandleValue). IsStrictlySortedBy cidr_cmp (keys_of g.counts)) (sym (assigned-other id differ)) (sound.ascending id)
      ]

-- ---- a claim

module _ (node : List ℕ) (slot : CidrValue) (rows then : Rows) (h : IsClaimedIn rows then node slot (claimed_block node slot (block_in_rows slot rows))) where
  claimed-handle : (id : List ℕ) → handle_of id then ≡ handle_of id rows
  claimed-handle id = same-handle id then rows (h.others (key.Handle id) (λ e. cc e) (λ e. cc e))

  claimed-held : (id : List ℕ) (cidr : CidrValue) → held_at then id cidr ≡ held_at rows id cidr
  claimed-held id cidr = elim (cidr_cases slot cidr) [
    | inr (f, differ) ↦ ap (held_from id) (h.others (key.Block cidr) (λ e. differ (cc e)) (λ e. cc e))
    | inl (t, same) ↦ subst (λ (c : CidrValue). held_at then id c ≡ held_at rows id c) same (ap (held_from id) h.has_block ∙ by (block_in_rows slot rows) refl)
  ]
    where
      none-held : (o : Option Record) → record_at (key.Block slot) rows ≡ o → block_from o ≡ None → 0 ≡ held_from id o
      none-held None e f = refl
      none-held (Some (record_of.Block b)) e f = absurd (cc f)
      none-held (Some (record_of.Handle g)) e f = refl
      none-held (Some (record_of.Affinity a)) e f = refl
      none-held (Some (record_of.Config config)) e f = refl
      none-held (Some (record_of.Pools pools)) e f = refl
      none-held (Some (record_of.Reservations reservations)) e f = refl

      by : (o : BlockRead) → block_in_rows slot rows ≡ o → held_from id (Some (record_of.Block (claimed_block node slot o))) ≡ held_at rows id slot
      by None e = none-held (record_at (key.Block slot) rows) refl (sym (block_of-record slot rows) ∙ ap value_in e)
      by (Some found) e = sym (ap (held_from id) (found-record rows slot found.1 (ap value_in e)))

  pub claimed-follows : AreSoundCounts rows → Follows rows then
  claimed-follows sound =
      follows-from rows then sound
      (λ id cidr. let counts = ap (λ (g : HandleValue). count_of g cidr) (claimed-handle id) in let held = claimed-held id cidr in omega arith)
      (λ id. subst (λ (g : HandleValue). IsStrictlySortedBy cidr_cmp (keys_of g.counts)) (sym (claimed-handle id)) (sound.ascending id))

-- ---- freeing

module _ (what : FreedOfHandle) (own : (a : Allocation) → what.picks a ≡ true → is_owned what.handle a ≡ true) (rows : Rows) (sound : AreSoundCounts rows) where
  -- so many of a block
  module _ (b : BlockValue) (there : record_at (key.Block b.cidr) rows ≡ Some (record_of.Block b)) (amount : ℕ) (picked : count_by what.picks b.allocations ≡ amount) where
    abbrev left : BlockValue
    left = block_without what.picks (next_block b)

    abbrev written : Rows
    written = put (record_of.Block left) rows

    abbrev low : HandleValue
    low = with_lowered_count (handle_of what.handle written) b.cidr amount

    abbrev then : Rows
    then = kept_or_gone low low.counts written

    old-handle : handle_of what.handle written ≡ handle_of what.handle rows
    old-handle = put-block-handle rows left what.handle

    low-id : low.id ≡ what.handle
    low-id = handle-named what.handle written

    own-counts : (handle_of what.handle then).counts ≡ counts_with (handle_of what.handle rows).counts b.cidr (count_of (handle_of what.handle rows) b.cidr - amount)
    own-counts =
        subst (λ (i : List ℕ). (handle_of i then).counts ≡ low.counts) low-id (kept-own low low.counts written refl)
        ∙ ap (λ (g : HandleValue). counts_with g.counts b.cidr (count_of g b.cidr - amount)) old-handle

    other-handle : (id : List ℕ) → what.handle ≢ id → handle_of id then ≡ handle_of id rows
    other-handle id differ = kept-other low low.counts written id (λ e. differ (sym low-id ∙ e)) ∙ put-block-handle rows left id

    held-left : (id : List ℕ) → held_at then id b.cidr ≡ count_by (is_owned id) (filter (λ a. not (what.picks a)) b.allocations)
    held-left id = ap (held_from id) (kept-blocks low low.counts written b.cidr ∙ record_at-put (0, record_of.Block left) rows)

    held-others : (id : List ℕ) (cidr : CidrValue) → b.cidr ≢ cidr → held_at then id cidr ≡ held_at rows id cidr
    held-others id cidr differ = ap (held_from id) (kept-blocks low low.counts written cidr ∙ record_at-other (key.Block cidr) (0, record_of.Block left) rows (λ e. differ (cc e)))

    freed-own : (cidr : CidrValue) → counted_at then what.handle cidr + held_at rows what.handle cidr ≡ counted_at rows what.handle cidr + held_at then what.handle cidr
    freed-own cidr = elim (cidr_cases b.cidr cidr) [
      | inr (f, other) ↦
          let h = handle_of what.handle rows in
          let count : counted_at then what.handle cidr ≡ counted_at rows what.handle cidr =
          ap (λ (l : List (CidrValue × ℕ)). count_in l cidr) own-counts ∙ count-elsewhere h.counts b.cidr cidr (count_of h b.cidr - amount) other in
          let held = held-others what.handle cidr other in
          omega arith
      | inl (t, same) ↦ subst (λ (c : CidrValue). counted_at then what.handle c + held_at rows what.handle c ≡ counted_at rows what.handle c + held_at then what.handle c) same here
    ]
      where
        here : counted_at then what.handle b.cidr + held_at rows what.handle b.cidr ≡ counted_at rows what.handle b.cidr + held_at then what.handle b.cidr
        here =
            let h = handle_of what.handle rows in
            let count : counted_at then what.handle b.cidr ≡ counted_at rows what.handle b.cidr - amount =
            ap (λ (l : List (CidrValue × ℕ)). count_in l b.cidr) own-counts ∙ written-here h.counts b.cidr (count_of h b.cidr - amount) (sound.ascending what.handle) in
            let now = held-left what.handle in
            let was : held_at rows what.handle b.cidr ≡ count_by (is_owned what.handle) b.allocations = ap (held_from what.handle) there in
            let parts = held-filter what.handle what.picks own b.allocations in
            let covers = sound.covered what.handle b.cidr in
            let many = picked in
            omega arith

    freed-other : (id : List ℕ) (cidr : CidrValue) → what.handle ≢ id → counted_at then id cidr + held_at rows id cidr ≡ counted_at rows id cidr + held_at then id cidr
    freed-other id cidr differ =
        let count = ap (λ (g : HandleValue). count_of g cidr) (other-handle id differ) in
        elim (cidr_cases b.cidr cidr) [
          | inr (f, other) ↦ let held = held-others id cidr other in omega arith
          | inl (t, same) ↦
              let here : held_at then id b.cidr ≡ held_at rows id b.cidr = held-left id ∙ (kept-others what.handle id what.picks own differ b.allocations ∙ sym (ap (held_from id) there)) in
              let held = subst (λ (c : CidrValue). held_at then id c ≡ held_at rows id c) same here in
              omega arith
        ]

    these-follow : Follows rows then
    these-follow = follows-from rows then sound even ascending
      where
        even : Evens rows then
        even id cidr = elim (text_cases what.handle id) [
          | inl (t, same) ↦ subst (λ (i : List ℕ). counted_at then i cidr + held_at rows i cidr ≡ counted_at rows i cidr + held_at then i cidr) same (freed-own cidr)
          | inr (f, differ) ↦ freed-other id cidr differ
        ]

        ascending : (id : List ℕ) → IsStrictlySortedBy cidr_cmp (keys_of (handle_of id then).counts)
        ascending id = elim (text_cases what.handle id) [
          | inl (t, same) ↦
              let h = handle_of what.handle rows in
              subst (λ (i : List ℕ). IsStrictlySortedBy cidr_cmp (keys_of (handle_of i then).counts)) same
              (subst (λ (l : List (CidrValue × ℕ)). IsStrictlySortedBy cidr_cmp (keys_of l)) (sym own-counts) (written-ascending h.counts b.cidr (count_of h b.cidr - amount) (sound.ascending what.handle)))
          | inr (f, differ) ↦ subst (λ (g : HandleValue). IsStrictlySortedBy cidr_cmp (keys_of g.counts)) (sym (other-handle id differ)) (sound.ascending id)
        ]

  pub freed-follows : Follows rows (with_freed what rows)
  freed-follows = by (block_in_rows what.block rows) refl
    where
      these : (b : BlockValue) → record_at (key.Block b.cidr) rows ≡ Some (record_of.Block b) → (amount : ℕ) → count_by what.picks b.allocations ≡ amount → Follows rows (with_these_freed what amount b rows)
      these b there zero picked = follows-itself rows sound
      these b there (suc more) picked = these-follow b there (suc more) picked

      by : (o : Option (ℕ × BlockValue)) → block_in_rows what.block rows ≡ o → Follows rows (with_freed_found what o rows)
      by None e = follows-itself rows sound
      by (Some found) e =
          let at = found-record rows what.block found.1 (ap value_in e) in
          let there = subst (λ (c : CidrValue). record_at (key.Block c) rows ≡ Some (record_of.Block found.1)) (sym (named rows what.block found.1 at)) at in
          these found.1 there (count_by what.picks found.1.allocations) refl
