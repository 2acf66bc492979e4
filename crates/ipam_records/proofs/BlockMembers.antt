-- What is in a list of blocks, and its order.
use Rattle.std.proofs.Common.{◌≡◌, ◌⊎◌, inl, inr, ℕ, zero, suc, ◌<◌, List, [], ◌∷◌, length, get_or, map, Bool, true, false, cond, Some, None, IsTrue, ap, sym, ◌∙◌, subst, arith, refl}
use Rattle.std.proofs.lemmas.List.Elements.{All-head, All-tail, All-contains_itself}
use Rattle.std.specs.declared.cmp.Ordering.TheVariants.{Less}
use Rattle.std.specs.Cmp.{tied_itself}
use Rattle.std.specs.List.{All, AllByRecursion, Contains, cons_option}
use Rattle.std.specs.List.Sorted.{IsStrictlySortedBy}
use Rattle.ipam_addr.specs.Shape.{CidrValue}
use Rattle.ipam_block.specs.Shape.{BlockValue}
use Rattle.ipam_block.specs.Order.{cidr_cmp}
use Rattle.ipam_records.specs.declared.key.Key.{Key}
use Rattle.ipam_records.specs.declared.key.Key.TheVariants as key
use Rattle.ipam_records.specs.declared.record.Record.{Record}
use Rattle.ipam_records.specs.declared.record.Record.TheVariants as record_of
use Rattle.ipam_records.specs.KeyOrder.{key_cmp}
use Rattle.ipam_records.specs.KeyOrderLaws.{key_cmp_total}
use Rattle.ipam_records.specs.Datastore.{row_key, row_of}
use Rattle.ipam_records.specs.Places.{IsFoundAt}
use Rattle.ipam_records.specs.BlockLists.{is_block, cidr_if, cidrs_where, AreBlocks}
use Rattle.ipam_records.proofs.RowSearch.{row_of-found}
use Rattle.ipam_records.proofs.HearingLemmas.{All-row_of}

-- ---- rows of blocks
abbrev pub row_from : ℕ × BlockValue → ℕ × Record
row_from x = (x.0, record_of.Block x.1)

abbrev pub rows_from : List (ℕ × BlockValue) → List (ℕ × Record)
rows_from [] = []
rows_from (x ∷ xs) = row_from x ∷ rows_from xs

abbrev pub IsBlockRow : ℕ × Record → Type 0
IsBlockRow row = IsTrue (is_block row.1)

pub blocks_in : (rows : List (ℕ × Record)) → All IsBlockRow rows → (blocks : List (ℕ × BlockValue)) × (rows_from blocks ≡ rows)
blocks_in [] all = ([], refl)
blocks_in ((revision, record_of.Block b) ∷ rows) all =
    let rest = blocks_in rows (All-tail IsBlockRow _ rows all) in
    ((revision, b) ∷ rest.0, ap (λ (x : List (ℕ × Record)). (revision, record_of.Block b) ∷ x) rest.1)
blocks_in ((revision, record_of.Config c) ∷ rows) all = let bad = All-head IsBlockRow _ rows all in absurd (cc bad)
blocks_in ((revision, record_of.Pools p) ∷ rows) all = let bad = All-head IsBlockRow _ rows all in absurd (cc bad)
blocks_in ((revision, record_of.Reservations r) ∷ rows) all = let bad = All-head IsBlockRow _ rows all in absurd (cc bad)
blocks_in ((revision, record_of.Affinity a) ∷ rows) all = let bad = All-head IsBlockRow _ rows all in absurd (cc bad)
blocks_in ((revision, record_of.Handle h) ∷ rows) all = let bad = All-head IsBlockRow _ rows all in absurd (cc bad)

pub cons_cond : (s : Bool) (c : CidrValue) (xs : List CidrValue) → cons_option (cond s (Some c) None) xs ≡ cond s (c ∷ xs) xs
cons_cond true c xs = refl
cons_cond false c xs = refl

-- ---- the order of a list
module _ (passes : BlockValue → Bool) where
  -- what is below all rows is below all blocks in the list
  pub cidrs_where-above : (c : CidrValue) (xs : List (ℕ × BlockValue)) → AllByRecursion (λ k. key_cmp (key.Block c) k ≡ Less) (map row_key (rows_from xs)) → AllByRecursion (λ y. cidr_cmp c y ≡ Less) (cidrs_where passes (rows_from xs))
  cidrs_where-above c [] all = tt
  cidrs_where-above c (x ∷ xs) all =
      let rest = cidrs_where-above c xs all.1 in
      subst (AllByRecursion (λ y. cidr_cmp c y ≡ Less)) (sym (cons_cond (passes x.1) x.1.cidr (cidrs_where passes (rows_from xs))))
      (elim (passes x.1) as (λ s. AllByRecursion (λ y. cidr_cmp c y ≡ Less) (cond s (x.1.cidr ∷ cidrs_where passes (rows_from xs)) (cidrs_where passes (rows_from xs)))) [
        | true ↦ (all.0, rest)
        | false ↦ rest
      ])

  ascends : (xs : List (ℕ × BlockValue)) → IsStrictlySortedBy key_cmp (map row_key (rows_from xs)) → IsStrictlySortedBy cidr_cmp (cidrs_where passes (rows_from xs))
  unfolding IsStrictlySortedBy
  ascends [] s = tt
  ascends (x ∷ xs) s =
      let rest = ascends xs s.1 in
      let above = cidrs_where-above x.1.cidr xs s.0 in
      subst (IsStrictlySortedBy cidr_cmp) (sym (cons_cond (passes x.1) x.1.cidr (cidrs_where passes (rows_from xs))))
      (elim (passes x.1) as (λ s. IsStrictlySortedBy cidr_cmp (cond s (x.1.cidr ∷ cidrs_where passes (rows_from xs)) (cidrs_where passes (rows_from xs)))) [
        | true ↦ (above, rest)
        | false ↦ rest
      ])

  -- a list has its blocks by family, base and prefix, each once
  pub cidrs_where-ascends : (rows : List (ℕ × Record)) → AreBlocks rows → IsStrictlySortedBy cidr_cmp (cidrs_where passes rows)
  cidrs_where-ascends rows are =
      let (blocks, e) = blocks_in rows are.blocks in
      let s : IsStrictlySortedBy key_cmp (map row_key (rows_from blocks)) = subst (λ (r : List (ℕ × Record)). IsStrictlySortedBy key_cmp (map row_key r)) (sym e) are.ascending in
      subst (λ (r : List (ℕ × Record)). IsStrictlySortedBy cidr_cmp (cidrs_where passes r)) e (ascends blocks s)

-- ---- what is in a list
-- a row of this block, which passes
pub record HasRow (passes : BlockValue → Bool) (rows : List (ℕ × Record)) (c : CidrValue) : Type 0 where
  pub revision : ℕ
  pub block : BlockValue
  pub row : Contains rows (revision, record_of.Block block)
  pub cidr : block.cidr ≡ c
  pub passed : passes block ≡ true

there : {X : Type 0} (x : X) (xs : List X) (y : X) → Contains xs y → Contains (x ∷ xs) y
there x xs y (k, h, e) = (suc k, omega arith, e)

first_or_later : {X : Type 0} (x : X) (xs : List X) (y : X) → Contains (x ∷ xs) y → (x ≡ y) ⊎ Contains xs y
first_or_later x xs y (zero, h, e) = inl e
first_or_later x xs y (suc k, h, e) = inr (k, omega arith, e)

block_or_not : (r : Record) → ((b : BlockValue) × (r ≡ record_of.Block b)) ⊎ ((passes : BlockValue → Bool) (revision : ℕ) → cidr_if passes (revision, r) ≡ None)
block_or_not (record_of.Config c) = inr (λ passes revision. refl)
block_or_not (record_of.Pools p) = inr (λ passes revision. refl)
block_or_not (record_of.Reservations x) = inr (λ passes revision. refl)
block_or_not (record_of.Block b) = inl (b, refl)
block_or_not (record_of.Affinity a) = inr (λ passes revision. refl)
block_or_not (record_of.Handle h) = inr (λ passes revision. refl)

module _ (passes : BlockValue → Bool) (c : CidrValue) where
  later : (row : ℕ × Record) (rows : List (ℕ × Record)) → HasRow passes rows c → HasRow passes (row ∷ rows) c
  later row rows has = record { revision = has.revision; block = has.block; row = there row rows _ has.row; cidr = has.cidr; passed = has.passed }

  -- what is in a list has a row that passes
  pub cidrs_where-has : (rows : List (ℕ × Record)) → Contains (cidrs_where passes rows) c → HasRow passes rows c
  cidrs_where-has [] (k, h, e) = absurd (omega arith)
  cidrs_where-has (row ∷ rows) is = by_record (block_or_not row.1) (λ rest. cidrs_where-has rows rest)
    where
      by_test : (b : BlockValue) → row.1 ≡ record_of.Block b → (t : Bool) → passes b ≡ t → Contains (cons_option (cond t (Some b.cidr) None) (cidrs_where passes rows)) c → (Contains (cidrs_where passes rows) c → HasRow passes rows c) → HasRow passes (row ∷ rows) c
      by_test b e false h among further = later row rows (further among)
      by_test b e true h among further = elim (first_or_later b.cidr (cidrs_where passes rows) c among) [
        | inl same ↦ record { revision = row.0; block = b; row = (0, omega arith, λ i. (row.0, e i)); cidr = same; passed = h }
        | inr rest ↦ later row rows (further rest)
      ]

      by_record : ((b : BlockValue) × (row.1 ≡ record_of.Block b)) ⊎ ((passes : BlockValue → Bool) (revision : ℕ) → cidr_if passes (revision, row.1) ≡ None) → (Contains (cidrs_where passes rows) c → HasRow passes rows c) → HasRow passes (row ∷ rows) c
      by_record (inl (b, e)) further =
          by_test b e (passes b) refl (subst (λ (r : Record). Contains (cons_option (cidr_if passes (row.0, r)) (cidrs_where passes rows)) c) e is) further
      by_record (inr none) further =
          later row rows (further (subst (λ o. Contains (cons_option o (cidrs_where passes rows)) c) (none passes row.0) is))

pub cidrs_where-in : (passes : BlockValue → Bool) (rows : List (ℕ × Record)) (revision : ℕ) (b : BlockValue) → passes b ≡ true → Contains rows (revision, record_of.Block b) → Contains (cidrs_where passes rows) b.cidr
cidrs_where-in passes [] revision b h (k, l, e) = absurd (omega arith)
cidrs_where-in passes (row ∷ rows) revision b h is = elim (first_or_later row rows (revision, record_of.Block b) is) [
  | inl same ↦
      subst (λ (r : ℕ × Record). Contains (cons_option (cidr_if passes r) (cidrs_where passes rows)) b.cidr) (sym same)
      (subst (λ t. Contains (cons_option (cond t (Some b.cidr) None) (cidrs_where passes rows)) b.cidr) (sym h) (0, omega arith, refl))
  | inr rest ↦
      let further = cidrs_where-in passes rows revision b h rest in
      elim (cidr_if passes row) as (λ o. Contains (cons_option o (cidrs_where passes rows)) b.cidr) [ None ↦ further | Some c ↦ there c (cidrs_where passes rows) b.cidr further ]
]

-- ---- rows and what is found by their keys
get_or-anywhere : {X : Type 0} (xs : List X) (i : ℕ) (d e : X) → i < length xs → get_or xs i d ≡ get_or xs i e
get_or-anywhere [] i d e h = absurd (omega arith)
get_or-anywhere (x ∷ xs) zero d e h = refl
get_or-anywhere (x ∷ xs) (suc i) d e h = get_or-anywhere xs i d e (omega arith)

pub row_of-contained : (rows : List (ℕ × Record)) → IsStrictlySortedBy key_cmp (map row_key rows) → (row : ℕ × Record) → Contains rows row → row_of (row_key row) rows ≡ Some row
row_of-contained rows s row (k, h, e) =
    let found : IsFoundAt (λ r. key_cmp (row_key r) (row_key row)) rows k = record {
      within = h;
      same = λ d. ap (λ (r : ℕ × Record). key_cmp (row_key r) (row_key row)) (get_or-anywhere rows k d row h ∙ e) ∙ tied_itself key_cmp_total (row_key row);
    } in
    row_of-found rows s (row_key row) k row found ∙ ap Some e

pub contained-row_of : (key : Key) (rows : List (ℕ × Record)) (row : ℕ × Record) → row_of key rows ≡ Some row → Contains rows row
contained-row_of key rows row found = All-row_of (Contains rows) key rows row (All-contains_itself rows) found
