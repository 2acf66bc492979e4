-- The lists of blocks among rows.
use Rattle.std.proofs.Common.{◌≡◌, ℕ, zero, suc, ◌<◌, inl, inr, List, [], ◌∷◌, length, get_or, map, Bool, true, false, cond, Some, None, ap, ◌∙◌, arith, refl, subst, bytes_eq, Result, Ok, Err, IfOk, IfErr, sym}
use Rattle.std.proofs.lemmas.List.Elements.{All-head, All-tail}
use Rattle.std.specs.Ordering.{is_eq}
use Rattle.std.specs.Cmp.Lexicographic.{nat_list_cmp_total, texts_ties}
use Rattle.std.proofs.lemmas.Bool.{cases_lt}
use Rattle.std.specs.declared.cmp.Ordering.TheVariants.{Less, Equal, Greater}
use Rattle.std.specs.Global.{Vec}
use Rattle.std.specs.List.{cons_option, AllByRecursion}
use Rattle.std.specs.List.Sorted.{IsStrictlySortedBy, IsSearchInRange, IsBinarySearchResult}
use Rattle.std.specs.declared.cmp.Ordering.TheVariants.{Less}
use Rattle.ipam_addr.specs.Shape.{CidrValue}
use Rattle.ipam_block.specs.Shape.{BlockValue}
use Rattle.ipam_records.specs.declared.key.Key.TheVariants as key
use Rattle.ipam_records.specs.declared.record.Record.{Record}
use Rattle.ipam_records.specs.declared.record.Record.TheVariants as record_of
use Rattle.ipam_block.specs.Order.{cidr_cmp}
use Rattle.ipam_records.specs.KeyOrder.{key_cmp, keys_equal}
use Rattle.ipam_records.specs.Datastore.{row_key, row_of}
use Rattle.ipam_records.specs.BlockLists.{is_block, cidr_if, cidrs_where, HasNoBlock, name_cmp, named_lists, list_under, AreNamedLists, AreBlocks}
use Rattle.ipam_records.specs.Places.{IsFoundAt, IsGapAt}
use Rattle.ipam_records.proofs.SearchLemmas.{searched, before_found, behind_found}

-- ---- rows without blocks
other_key : (cidr : CidrValue) (row : ℕ × Record) → is_block row.1 ≡ false → keys_equal (row_key row) (key.Block cidr) ≡ false
other_key cidr (revision, record_of.Config c) e = refl
other_key cidr (revision, record_of.Pools p) e = refl
other_key cidr (revision, record_of.Reservations r) e = refl
other_key cidr (revision, record_of.Block b) e = cc e
other_key cidr (revision, record_of.Affinity a) e = refl
other_key cidr (revision, record_of.Handle h) e = refl

no_cidr : (passes : BlockValue → Bool) (row : ℕ × Record) → is_block row.1 ≡ false → cidr_if passes row ≡ None
no_cidr passes (revision, record_of.Config c) e = refl
no_cidr passes (revision, record_of.Pools p) e = refl
no_cidr passes (revision, record_of.Reservations r) e = refl
no_cidr passes (revision, record_of.Block b) e = cc e
no_cidr passes (revision, record_of.Affinity a) e = refl
no_cidr passes (revision, record_of.Handle h) e = refl

abbrev IsNoBlock : ℕ × Record → Type 0
IsNoBlock row = is_block row.1 ≡ false

pub cidrs_where-none : (passes : BlockValue → Bool) (rows : List (ℕ × Record)) → HasNoBlock rows → cidrs_where passes rows ≡ []
cidrs_where-none passes [] none = refl
cidrs_where-none passes (row ∷ rows) none =
    ap (λ o. cons_option o (cidrs_where passes rows)) (no_cidr passes row (All-head IsNoBlock row rows none))
    ∙ cidrs_where-none passes rows (All-tail IsNoBlock row rows none)

pub row_of-none : (cidr : CidrValue) (rows : List (ℕ × Record)) → HasNoBlock rows → row_of (key.Block cidr) rows ≡ None
row_of-none cidr [] none = refl
row_of-none cidr (row ∷ rows) none =
    ap (λ b. cond b (Some row) (row_of (key.Block cidr) rows)) (other_key cidr row (All-head IsNoBlock row rows none))
    ∙ row_of-none cidr rows (All-tail IsNoBlock row rows none)

-- ---- the lists ascend as their rows do
module _ (passes : BlockValue → Bool) where
  behind : (first : CidrValue) (rows : List (ℕ × Record)) → AllByRecursion (λ y. key_cmp (key.Block first) y ≡ Less) (map row_key rows) → AllByRecursion (λ c. cidr_cmp first c ≡ Less) (cidrs_where passes rows)
  behind first [] all = tt
  behind first ((revision, record_of.Config c) ∷ rows) all = behind first rows all.1
  behind first ((revision, record_of.Pools p) ∷ rows) all = behind first rows all.1
  behind first ((revision, record_of.Reservations r) ∷ rows) all = behind first rows all.1
  behind first ((revision, record_of.Block b) ∷ rows) all =
      elim (passes b) as (λ v. AllByRecursion (λ c. cidr_cmp first c ≡ Less) (cons_option (cond v (Some b.cidr) None) (cidrs_where passes rows))) [
        | true ↦ (all.0, behind first rows all.1)
        | false ↦ behind first rows all.1
      ]
  behind first ((revision, record_of.Affinity a) ∷ rows) all = behind first rows all.1
  behind first ((revision, record_of.Handle h) ∷ rows) all = behind first rows all.1

  pub cidrs_where-ascends : (rows : List (ℕ × Record)) → IsStrictlySortedBy key_cmp (map row_key rows) → IsStrictlySortedBy cidr_cmp (cidrs_where passes rows)
  unfolding IsStrictlySortedBy
  cidrs_where-ascends [] s = tt
  cidrs_where-ascends ((revision, record_of.Config c) ∷ rows) s = cidrs_where-ascends rows s.1
  cidrs_where-ascends ((revision, record_of.Pools p) ∷ rows) s = cidrs_where-ascends rows s.1
  cidrs_where-ascends ((revision, record_of.Reservations r) ∷ rows) s = cidrs_where-ascends rows s.1
  cidrs_where-ascends ((revision, record_of.Block b) ∷ rows) s =
      elim (passes b) as (λ v. IsStrictlySortedBy cidr_cmp (cons_option (cond v (Some b.cidr) None) (cidrs_where passes rows))) [
        | true ↦ (behind b.cidr rows s.0, cidrs_where-ascends rows s.1)
        | false ↦ cidrs_where-ascends rows s.1
      ]
  cidrs_where-ascends ((revision, record_of.Affinity a) ∷ rows) s = cidrs_where-ascends rows s.1
  cidrs_where-ascends ((revision, record_of.Handle h) ∷ rows) s = cidrs_where-ascends rows s.1

  pub list-ascends : (rows : List (ℕ × Record)) (list : List CidrValue) → list ≡ cidrs_where passes rows → AreBlocks rows → IsStrictlySortedBy cidr_cmp list
  list-ascends rows list is blocks = subst (IsStrictlySortedBy cidr_cmp) (sym is) (cidrs_where-ascends rows blocks.ascending)

pub none-ascends : IsStrictlySortedBy cidr_cmp []
unfolding IsStrictlySortedBy
none-ascends = tt

-- ---- lists under names
pub names-named_lists : (owned : List (Vec ℕ × Vec CidrValue)) → map (λ entry. entry.0) (named_lists owned) ≡ map (λ entry. entry.0.items) owned
names-named_lists [] = refl
names-named_lists (entry ∷ rest) = ap (λ names. entry.0.items ∷ names) (names-named_lists rest)

-- ---- entries as plain data
abbrev pub Entry : Type 0
Entry = List ℕ × List CidrValue

abbrev pub plain : Vec ℕ × Vec CidrValue → Entry
plain entry = (entry.0.items, entry.1.items)

pub length-named : (owned : List (Vec ℕ × Vec CidrValue)) → length (named_lists owned) ≡ length owned
length-named [] = refl
length-named (e ∷ es) = ap suc (length-named es)

pub named-at : (P : Entry → Type 0) (owned : List (Vec ℕ × Vec CidrValue)) (i : ℕ) (d : Entry) → i < length owned → ((e : Vec ℕ × Vec CidrValue) → P (plain (get_or owned i e))) → P (get_or (named_lists owned) i d)
named-at P [] i d h p = absurd (omega arith)
named-at P (e ∷ es) zero d h p = p e
named-at P (e ∷ es) (suc i) d h p = named-at P es i d (omega arith) p

pub named-get : (owned : List (Vec ℕ × Vec CidrValue)) (i : ℕ) (e : Vec ℕ × Vec CidrValue) (d : Entry) → i < length owned → get_or (named_lists owned) i d ≡ plain (get_or owned i e)
named-get [] i e d h = absurd (omega arith)
named-get (x ∷ xs) zero e d h = refl
named-get (x ∷ xs) (suc i) e d h = named-get xs i e d (omega arith)

-- ---- a list is the first of its name
pub under-at : (node : List ℕ) (lists : List Entry) (i : ℕ) (d : Entry) → i < length lists → ((j : ℕ) (d : Entry) → j < i → bytes_eq (get_or lists j d).0 node ≡ false) → ((d : Entry) → bytes_eq (get_or lists i d).0 node ≡ true) → list_under node lists ≡ (get_or lists i d).1
under-at node [] i d h before here = absurd (omega arith)
under-at node (e ∷ es) zero d h before here = ap (λ b. cond b e.1 (list_under node es)) (here e)
under-at node (e ∷ es) (suc i) d h before here =
    ap (λ b. cond b e.1 (list_under node es)) (before 0 e (omega arith))
    ∙ under-at node es i d (omega arith) (λ j x l. before (suc j) x (omega arith)) here

pub under-none : (node : List ℕ) (lists : List Entry) → ((j : ℕ) (d : Entry) → j < length lists → bytes_eq (get_or lists j d).0 node ≡ false) → list_under node lists ≡ []
under-none node [] none = refl
under-none node (e ∷ es) none =
    ap (λ b. cond b e.1 (list_under node es)) (none 0 e (omega arith))
    ∙ under-none node es (λ j x l. none (suc j) x (omega arith))

module _ (node : List ℕ) (lists : List Entry) where
  pub differs : (j : ℕ) (d : Entry) → is_eq (name_cmp (get_or lists j d).0 node) ≡ false → bytes_eq (get_or lists j d).0 node ≡ false
  differs j d e = texts_ties (get_or lists j d).0 node ∙ e

  pub under-gap : (i : ℕ) → IsGapAt (λ entry. name_cmp entry.0 node) lists i → list_under node lists ≡ []
  under-gap i gap = under-none node lists (λ j d h. elim (cases_lt j i) [
    | inl before ↦ differs j d (ap is_eq (gap.before j d before))
    | inr behind ↦ differs j d (ap is_eq (gap.behind j d behind h))
  ])

  module _ (named : AreNamedLists lists) (i : ℕ) (here : IsFoundAt (λ entry. name_cmp entry.0 node) lists i) where
    pub name_at : (d : Entry) → bytes_eq (get_or lists i d).0 node ≡ true
    name_at d = texts_ties (get_or lists i d).0 node ∙ ap is_eq (here.same d)

    pub earlier : (j : ℕ) (d : Entry) → j < i → bytes_eq (get_or lists j d).0 node ≡ false
    earlier j d h = differs j d (ap is_eq (before_found name_cmp nat_list_cmp_total (λ (e : Entry). e.0) lists named.ascending node i here j d h))

    pub later : (j : ℕ) (d : Entry) → i < j → j < length lists → bytes_eq (get_or lists j d).0 node ≡ false
    later j d h within = differs j d (ap is_eq (behind_found name_cmp nat_list_cmp_total (λ (e : Entry). e.0) lists named.ascending node i here j d h within))

    pub under-found : (d : Entry) → list_under node lists ≡ (get_or lists i d).1
    under-found d = under-at node lists i d here.within earlier name_at

-- ---- what a search by a name finds
pub names_searched : (node : List ℕ) (owned : List (Vec ℕ × Vec CidrValue)) → AreNamedLists (named_lists owned) → (r : Result ℕ ℕ) → IsSearchInRange r (length owned) → IsBinarySearchResult (λ entry. name_cmp entry.0.items node) owned r → record { found : IfOk r (IsFoundAt (λ entry. name_cmp entry.0 node) (named_lists owned)); absent : IfErr r (IsGapAt (λ entry. name_cmp entry.0 node) (named_lists owned)) }
names_searched node owned named r within result =
    by_answer r (searched name_cmp nat_list_cmp_total (λ (entry : Vec ℕ × Vec CidrValue). entry.0.items) owned (subst (IsStrictlySortedBy name_cmp) (names-named_lists owned) named.ascending) node r within result)
  where
    by_answer : (r : Result ℕ ℕ) → record { found : IfOk r (IsFoundAt (λ entry. name_cmp entry.0.items node) owned); absent : IfErr r (IsGapAt (λ entry. name_cmp entry.0.items node) owned) } → record { found : IfOk r (IsFoundAt (λ entry. name_cmp entry.0 node) (named_lists owned)); absent : IfErr r (IsGapAt (λ entry. name_cmp entry.0 node) (named_lists owned)) }
    by_answer (Ok at) facts = record {
      found =
          let within = facts.found.within in
          record {
            within = omega (arith, length-named owned);
            same = λ d. named-at (λ entry. name_cmp entry.0 node ≡ Equal) owned at d within facts.found.same;
          };
      absent = tt;
    }
    by_answer (Err at) facts = record {
      found = tt;
      absent =
          let within = facts.absent.within in
          record {
            within = omega (arith, length-named owned);
            before = λ i d h. named-at (λ entry. name_cmp entry.0 node ≡ Less) owned i d (omega arith) (λ e. facts.absent.before i e h);
            behind = λ i d h m.
                let here : i < length owned = omega (arith, length-named owned) in
                named-at (λ entry. name_cmp entry.0 node ≡ Greater) owned i d here (λ e. facts.absent.behind i e h here);
          };
    }
