-- The lists of blocks where a row is put in or taken out.
use Rattle.std.proofs.Common.{◌≡◌, ℕ, List, [], ◌∷◌, map, Bool, true, false, cond, not, Some, None, is_none, IsTrue, ap, sym, ◌∙◌, subst, refl}
use Rattle.std.proofs.lemmas.List.Elements.{All-nil}
use Rattle.std.specs.declared.cmp.Ordering.{Ordering}
use Rattle.std.specs.declared.cmp.Ordering.TheVariants.{Less, Equal, Greater}
use Rattle.std.specs.Ordering.{is_eq, ordering_reverse, match_ordering}
use Rattle.std.specs.List.{AllByRecursion, cons_option}
use Rattle.std.specs.List.Sorted.{IsStrictlySortedBy}
use Rattle.ipam_addr.specs.Shape.{CidrValue}
use Rattle.ipam_block.specs.Shape.{BlockValue}
use Rattle.ipam_block.specs.Order.{cidr_cmp}
use Rattle.ipam_records.specs.declared.key.Key.{Key}
use Rattle.ipam_records.specs.declared.key.Key.TheVariants as key
use Rattle.ipam_records.specs.declared.record.Record.{Record}
use Rattle.ipam_records.specs.declared.record.Record.TheVariants as record_of
use Rattle.ipam_records.specs.KeyOrder.{key_cmp, keys_equal}
use Rattle.ipam_records.specs.KeyOrderLaws.{cidr_cmp_total, key_cmp_total}
use Rattle.ipam_records.specs.Datastore.{row_key, row_of, row_at, with_row, without_row}
use Rattle.ipam_records.specs.BlockLists.{is_block, is_node, has_queue, cidr_if, cidrs_where, list_under, AreBlocks}
use Rattle.ipam_records.proofs.BlockMembers.{row_from, rows_from, IsBlockRow, blocks_in, cons_cond, cidrs_where-above}
use Rattle.ipam_store.specs.CidrLists.{with_cidr, without_cidr}
use Rattle.ipam_store.specs.Indexed.{Indexed, IsIndexOf}
use Rattle.ipam_store.proofs.Searching.{without_step}
use Rattle.ipam_records.proofs.RowWrites.{later}

cond_same : {X : Type 0} (b : Bool) (x : X) → cond b x x ≡ x
cond_same true x = refl
cond_same false x = refl

-- ---- a row is put in
module _ (passes : BlockValue → Bool) (revision : ℕ) (b : BlockValue) where
  abbrev new : ℕ × Record
  new = (revision, record_of.Block b)

  front_with : (ys : List CidrValue) → AllByRecursion (λ y. cidr_cmp b.cidr y ≡ Less) ys → with_cidr b.cidr ys ≡ b.cidr ∷ ys
  front_with [] all = refl
  front_with (y ∷ ys) all = ap (λ o. match_ordering o (b.cidr ∷ y ∷ ys) (y ∷ ys) (y ∷ with_cidr b.cidr ys)) all.0

  shared : (s t : Bool) (c : CidrValue) (ys : List CidrValue) → cidr_cmp b.cidr c ≡ Greater → cons_option (cond t (Some c) None) (cond s (with_cidr b.cidr ys) ys) ≡ cond s (with_cidr b.cidr (cons_option (cond t (Some c) None) ys)) (cons_option (cond t (Some c) None) ys)
  shared true true c ys h = sym (ap (λ o. match_ordering o (b.cidr ∷ c ∷ ys) (c ∷ ys) (c ∷ with_cidr b.cidr ys)) h)
  shared true false c ys h = refl
  shared false true c ys h = refl
  shared false false c ys h = refl

  where-with : (xs : List (ℕ × BlockValue)) → IsStrictlySortedBy key_cmp (map row_key (rows_from xs)) → row_of (key.Block b.cidr) (rows_from xs) ≡ None → cidrs_where passes (with_row new (rows_from xs)) ≡ cond (passes b) (with_cidr b.cidr (cidrs_where passes (rows_from xs))) (cidrs_where passes (rows_from xs))
  unfolding IsStrictlySortedBy
  where-with [] s none = cons_cond (passes b) b.cidr []
  where-with (x ∷ xs) s none = by_order (cidr_cmp b.cidr x.1.cidr) refl (λ rest. where-with xs s.1 rest)
    where
      reversed : (o : Ordering) → cidr_cmp b.cidr x.1.cidr ≡ o → cidr_cmp x.1.cidr b.cidr ≡ ordering_reverse o
      reversed o h = cidr_cmp_total.antisymm x.1.cidr b.cidr ∙ ap ordering_reverse h

      looked : (o : Ordering) → cidr_cmp b.cidr x.1.cidr ≡ o → cond (is_eq (ordering_reverse o)) (Some (row_from x)) (row_of (key.Block b.cidr) (rows_from xs)) ≡ None
      looked o h = sym (ap (λ v. cond (is_eq v) (Some (row_from x)) (row_of (key.Block b.cidr) (rows_from xs))) (reversed o h)) ∙ none

      by_order : (o : Ordering) → cidr_cmp b.cidr x.1.cidr ≡ o → (row_of (key.Block b.cidr) (rows_from xs) ≡ None → cidrs_where passes (with_row new (rows_from xs)) ≡ cond (passes b) (with_cidr b.cidr (cidrs_where passes (rows_from xs))) (cidrs_where passes (rows_from xs))) → cidrs_where passes (row_at o new (row_from x) (rows_from xs) (with_row new (rows_from xs))) ≡ cond (passes b) (with_cidr b.cidr (cidrs_where passes (row_from x ∷ rows_from xs))) (cidrs_where passes (row_from x ∷ rows_from xs))
      by_order Less h further =
          cons_cond (passes b) b.cidr (cidrs_where passes (row_from x ∷ rows_from xs))
          ∙ ap (λ ys. cond (passes b) ys (cidrs_where passes (row_from x ∷ rows_from xs)))
          (sym (front_with (cidrs_where passes (row_from x ∷ rows_from xs)) (cidrs_where-above passes b.cidr (x ∷ xs) (h, later (key.Block b.cidr) (row_key (row_from x)) h (rows_from xs) s.0))))
      by_order Equal h further = let bad = looked Equal h in absurd (cc bad)
      by_order Greater h further =
          ap (cons_option (cidr_if passes (row_from x))) (further (looked Greater h))
          ∙ shared (passes b) (passes x.1) x.1.cidr (cidrs_where passes (rows_from xs)) h

  pub cidrs_where-with_row : (rows : List (ℕ × Record)) → AreBlocks rows → row_of (key.Block b.cidr) rows ≡ None → cidrs_where passes (with_row new rows) ≡ cond (passes b) (with_cidr b.cidr (cidrs_where passes rows)) (cidrs_where passes rows)
  cidrs_where-with_row rows are none =
      let (blocks, e) = blocks_in rows are.blocks in
      let s : IsStrictlySortedBy key_cmp (map row_key (rows_from blocks)) = subst (λ (r : List (ℕ × Record)). IsStrictlySortedBy key_cmp (map row_key r)) (sym e) are.ascending in
      let absent : row_of (key.Block b.cidr) (rows_from blocks) ≡ None = ap (row_of (key.Block b.cidr)) e ∙ none in
      let P : List (ℕ × Record) → Type 0 = λ r. cidrs_where passes (with_row new r) ≡ cond (passes b) (with_cidr b.cidr (cidrs_where passes r)) (cidrs_where passes r) in
      subst P e (where-with blocks s absent)

-- ---- a row is taken out
where_cond : (passes : BlockValue → Bool) (t : Bool) (row : ℕ × Record) (rows : List (ℕ × Record)) → cidrs_where passes (cond t (row ∷ rows) rows) ≡ cond t (cons_option (cidr_if passes row) (cidrs_where passes rows)) (cidrs_where passes rows)
where_cond passes true row rows = refl
where_cond passes false row rows = refl

module _ (passes : BlockValue → Bool) (c : CidrValue) where
  dropped : (s : Bool) (d : CidrValue) (ys : List CidrValue) → cond (not (is_eq (cidr_cmp d c))) (cons_option (cond s (Some d) None) (without_cidr c ys)) (without_cidr c ys) ≡ without_cidr c (cons_option (cond s (Some d) None) ys)
  dropped true d ys = refl
  dropped false d ys = cond_same (not (is_eq (cidr_cmp d c))) (without_cidr c ys)

  where-without : (xs : List (ℕ × BlockValue)) → cidrs_where passes (without_row (key.Block c) (rows_from xs)) ≡ without_cidr c (cidrs_where passes (rows_from xs))
  where-without [] = refl
  where-without (x ∷ xs) =
      where_cond passes (not (is_eq (cidr_cmp x.1.cidr c))) (x.0, record_of.Block x.1) (without_row (key.Block c) (rows_from xs))
      ∙ ap (λ ys. cond (not (is_eq (cidr_cmp x.1.cidr c))) (cons_option (cidr_if passes (x.0, record_of.Block x.1)) ys) ys) (where-without xs)
      ∙ dropped (passes x.1) x.1.cidr (cidrs_where passes (rows_from xs))

  none_same : (k : Key) → key_cmp k (key.Block c) ≡ Equal → (rows : List (ℕ × Record)) → AllByRecursion (λ z. key_cmp k z ≡ Less) (map row_key rows) → without_row (key.Block c) rows ≡ rows
  none_same k h [] all = refl
  none_same k h (r ∷ rs) all =
      let less : key_cmp (key.Block c) (row_key r) ≡ Less = sym (key_cmp_total.congr k (key.Block c) (row_key r) h) ∙ all.0 in
      without_step (key.Block c) r rs Greater (key_cmp_total.antisymm (row_key r) (key.Block c) ∙ ap ordering_reverse less)
      ∙ ap (λ x. r ∷ x) (none_same k h rs all.1)

  equal_is : (o : Ordering) → is_eq o ≡ true → o ≡ Equal
  equal_is Less e = cc e
  equal_is Equal e = refl
  equal_is Greater e = cc e

  -- a list in which the block wasn't stays
  where-without-other : (revision : ℕ) (b : BlockValue) → passes b ≡ false → (xs : List (ℕ × BlockValue)) → IsStrictlySortedBy key_cmp (map row_key (rows_from xs)) → row_of (key.Block c) (rows_from xs) ≡ Some (revision, record_of.Block b) → cidrs_where passes (without_row (key.Block c) (rows_from xs)) ≡ cidrs_where passes (rows_from xs)
  unfolding IsStrictlySortedBy
  where-without-other revision b fails [] s found = refl
  where-without-other revision b fails (x ∷ xs) s found =
      by_test (is_eq (cidr_cmp x.1.cidr c)) refl (λ rest. where-without-other revision b fails xs s.1 rest)
    where
      looked : (t : Bool) → is_eq (cidr_cmp x.1.cidr c) ≡ t → cond t (Some (row_from x)) (row_of (key.Block c) (rows_from xs)) ≡ Some (revision, record_of.Block b)
      looked t h = sym (ap (λ v. cond v (Some (row_from x)) (row_of (key.Block c) (rows_from xs))) h) ∙ found

      by_test : (t : Bool) → is_eq (cidr_cmp x.1.cidr c) ≡ t → (row_of (key.Block c) (rows_from xs) ≡ Some (revision, record_of.Block b) → cidrs_where passes (without_row (key.Block c) (rows_from xs)) ≡ cidrs_where passes (rows_from xs)) → cidrs_where passes (without_row (key.Block c) (row_from x ∷ rows_from xs)) ≡ cidrs_where passes (row_from x ∷ rows_from xs)
      by_test true h further =
          let is = looked true h in
          let pair : row_from x ≡ (revision, record_of.Block b) = cc is in
          let records : record_of.Block x.1 ≡ record_of.Block b = ap (λ (r : ℕ × Record). r.1) pair in
          let same : x.1 ≡ b = cc records in
          let fails_here : passes x.1 ≡ false = ap passes same ∙ fails in
          ap (λ v. cidrs_where passes (cond (not v) ((row_from x) ∷ without_row (key.Block c) (rows_from xs)) (without_row (key.Block c) (rows_from xs)))) h
          ∙ ap (cidrs_where passes) (none_same (row_key (row_from x)) (equal_is (cidr_cmp x.1.cidr c) h) (rows_from xs) s.0)
          ∙ sym (ap (λ v. cons_option (cond v (Some x.1.cidr) None) (cidrs_where passes (rows_from xs))) fails_here)
      by_test false h further =
          ap (λ v. cidrs_where passes (cond (not v) ((row_from x) ∷ without_row (key.Block c) (rows_from xs)) (without_row (key.Block c) (rows_from xs)))) h
          ∙ ap (cons_option (cidr_if passes (row_from x))) (further (looked false h))

  pub cidrs_where-without_row : (revision : ℕ) (b : BlockValue) (rows : List (ℕ × Record)) → AreBlocks rows → row_of (key.Block c) rows ≡ Some (revision, record_of.Block b) → cidrs_where passes (without_row (key.Block c) rows) ≡ cond (passes b) (without_cidr c (cidrs_where passes rows)) (cidrs_where passes rows)
  cidrs_where-without_row revision b rows are found =
      let (blocks, e) = blocks_in rows are.blocks in
      let s : IsStrictlySortedBy key_cmp (map row_key (rows_from blocks)) = subst (λ (r : List (ℕ × Record)). IsStrictlySortedBy key_cmp (map row_key r)) (sym e) are.ascending in
      let here : row_of (key.Block c) (rows_from blocks) ≡ Some (revision, record_of.Block b) = ap (row_of (key.Block c)) e ∙ found in
      let P : List (ℕ × Record) → Type 0 = λ r. cidrs_where passes (without_row (key.Block c) r) ≡ cond (passes b) (without_cidr c (cidrs_where passes r)) (cidrs_where passes r) in
      subst P e (by_test blocks s here (passes b) refl)
    where
      by_test : (blocks : List (ℕ × BlockValue)) → IsStrictlySortedBy key_cmp (map row_key (rows_from blocks)) → row_of (key.Block c) (rows_from blocks) ≡ Some (revision, record_of.Block b) → (t : Bool) → passes b ≡ t → cidrs_where passes (without_row (key.Block c) (rows_from blocks)) ≡ cond t (without_cidr c (cidrs_where passes (rows_from blocks))) (cidrs_where passes (rows_from blocks))
      by_test blocks s here true h = where-without blocks
      by_test blocks s here false h = where-without-other revision b h blocks s here

-- ---- the index
pub IsIndexOf-with_row : (revision : ℕ) (b : BlockValue) (rows : List (ℕ × Record)) (old new : Indexed)
    → ((node : List ℕ) → list_under node new.owned ≡ cond (is_node node b.node) (with_cidr b.cidr (list_under node old.owned)) (list_under node old.owned))
    → new.unowned ≡ cond (is_none b.node) (with_cidr b.cidr old.unowned) old.unowned
    → new.roomy ≡ cond (has_queue b.queue) (with_cidr b.cidr old.roomy) old.roomy
    → AreBlocks rows → row_of (key.Block b.cidr) rows ≡ None → IsIndexOf old rows → IsIndexOf new (with_row (revision, record_of.Block b) rows)
IsIndexOf-with_row revision b rows old new owned unowned roomy are none is = record {
  of_node = λ node.
      owned node
      ∙ ap (λ xs. cond (is_node node b.node) (with_cidr b.cidr xs) xs) (is.of_node node)
      ∙ sym (cidrs_where-with_row (λ x. is_node node x.node) revision b rows are none);
  unowned_is =
      unowned
      ∙ ap (λ xs. cond (is_none b.node) (with_cidr b.cidr xs) xs) is.unowned_is
      ∙ sym (cidrs_where-with_row (λ x. is_none x.node) revision b rows are none);
  roomy_is =
      roomy
      ∙ ap (λ xs. cond (has_queue b.queue) (with_cidr b.cidr xs) xs) is.roomy_is
      ∙ sym (cidrs_where-with_row (λ x. has_queue x.queue) revision b rows are none);
}

pub IsIndexOf-without_row : (revision : ℕ) (b : BlockValue) (rows : List (ℕ × Record)) (old new : Indexed)
    → ((node : List ℕ) → list_under node new.owned ≡ cond (is_node node b.node) (without_cidr b.cidr (list_under node old.owned)) (list_under node old.owned))
    → new.unowned ≡ cond (is_none b.node) (without_cidr b.cidr old.unowned) old.unowned
    → new.roomy ≡ cond (has_queue b.queue) (without_cidr b.cidr old.roomy) old.roomy
    → AreBlocks rows → row_of (key.Block b.cidr) rows ≡ Some (revision, record_of.Block b) → IsIndexOf old rows → IsIndexOf new (without_row (key.Block b.cidr) rows)
IsIndexOf-without_row revision b rows old new owned unowned roomy are found is = record {
  of_node = λ node.
      owned node
      ∙ ap (λ xs. cond (is_node node b.node) (without_cidr b.cidr xs) xs) (is.of_node node)
      ∙ sym (cidrs_where-without_row (λ x. is_node node x.node) b.cidr revision b rows are found);
  unowned_is =
      unowned
      ∙ ap (λ xs. cond (is_none b.node) (without_cidr b.cidr xs) xs) is.unowned_is
      ∙ sym (cidrs_where-without_row (λ x. is_none x.node) b.cidr revision b rows are found);
  roomy_is =
      roomy
      ∙ ap (λ xs. cond (has_queue b.queue) (without_cidr b.cidr xs) xs) is.roomy_is
      ∙ sym (cidrs_where-without_row (λ x. has_queue x.queue) b.cidr revision b rows are found);
}

-- without a row of the key, no row goes
pub without_row-none : (k : Key) (rows : List (ℕ × Record)) → row_of k rows ≡ None → without_row k rows ≡ rows
without_row-none k [] none = refl
without_row-none k (r ∷ rs) none = by_test (keys_equal (row_key r) k) refl (λ rest. without_row-none k rs rest)
  where
    by_test : (t : Bool) → keys_equal (row_key r) k ≡ t → (row_of k rs ≡ None → without_row k rs ≡ rs) → without_row k (r ∷ rs) ≡ r ∷ rs
    by_test true h further =
        let bad = sym (ap (λ v. cond v (Some r) (row_of k rs)) h) ∙ none in
        absurd (cc bad)
    by_test false h further =
        let rest : row_of k rs ≡ None = sym (ap (λ v. cond v (Some r) (row_of k rs)) h) ∙ none in
        ap (λ v. cond (not v) (r ∷ without_row k rs) (without_row k rs)) h ∙ ap (λ x. r ∷ x) (further rest)

pub AreBlocks-none : AreBlocks []
unfolding IsStrictlySortedBy
AreBlocks-none = record { blocks = All-nil IsBlockRow; ascending = tt }

pub not_block : (r : Record) → IsTrue (is_block r) → ((b : BlockValue) → r ≡ record_of.Block b → ⊥) → ⊥
not_block (record_of.Config c) is other = cc is
not_block (record_of.Pools p) is other = cc is
not_block (record_of.Reservations r) is other = cc is
not_block (record_of.Block b) is other = other b refl
not_block (record_of.Affinity a) is other = cc is
not_block (record_of.Handle h) is other = cc is
