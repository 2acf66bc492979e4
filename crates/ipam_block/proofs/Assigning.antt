-- A block stays a block where one of its queued ordinals is assigned.
use Rattle.std.proofs.Common.{◌≡◌, ◌≢◌, ℕ, zero, suc, ◌+◌, ◌<◌, ◌≤◌, Bool, true, false, not, cond, eqb, List, [], ◌∷◌, ◌++◌, length, get_or, ap, ◌∙◌, arith, refl, subst, inl, inr, eqb-true, eq-eqb}
use Rattle.std.specs.Prelude.{filter, insert, count_by, sum_by, nat_lt, ◌==◌}
use Rattle.std.specs.List.{range_with_len, list_any}
use Rattle.std.specs.List.Sorted.{IsPermutation}
use Rattle.std.proofs.lemmas.Bool.{cases_lt}
use Rattle.std.proofs.lemmas.Bool.Decides.{eqb_tells}
use Rattle.std.proofs.lemmas.List.{nil_from_length}
use Rattle.std.proofs.lemmas.List.Sorted.{IsPermutation-trans, IsPermutation-append_left, IsPermutation-append_right, IsPermutation-middle, IsPermutation-insert, IsPermutation-map, IsPermutation-filter_both, All-permutation, sum_by-IsPermutation}
use Rattle.std.proofs.lemmas.List.Sums.{sum_by-append, sum_by-cons}
use Rattle.std.proofs.lemmas.List.Elements.{All-cons}
use Rattle.ipam_block.proofs.Ordinals.{shared_count}
use Rattle.ipam_block.proofs.Ascending.{lower_count-is, Ascend-insert}
use Rattle.ipam_addr.specs.Width.{cidr_size}
use Rattle.ipam_block.specs.declared.allocation.Allocation.{Allocation}
use Rattle.ipam_block.specs.declared.allocation.Attributes.{Attributes}
use Rattle.ipam_block.specs.Shape.{BlockValue}
use Rattle.ipam_block.specs.Sound.{IsBlock, held_ordinals}
use Rattle.ipam_block.specs.Operations.{is_held, block_with_ordinal}

-- one for the ordinal, and 0 for another
mark : ℕ → ℕ → ℕ
mark o x = cond (eqb x o) 1 0

mark-test : (o x : ℕ) (v : Bool) → eqb x o ≡ v → mark o x ≡ cond v 1 0
unfolding mark
mark-test o x v e = let f : Bool → ℕ = λ w. cond w 1 0 in ap f e

mark-other : (o x : ℕ) → x ≢ o → mark o x ≡ 0
mark-other o x ne = elim (eqb_tells x o) [
  | inl h ↦ absurd (ne h.1)
  | inr h ↦ mark-test o x false h.0
]

mark-same : (o : ℕ) → mark o o ≡ 1
mark-same o = mark-test o o true (eq-eqb o o refl)

marks_above : (o a n : ℕ) → o < a → sum_by (mark o) (range_with_len a n) ≡ 0
marks_above o a zero below = refl
marks_above o a (suc n) below =
    let here = mark-other o a (λ e. omega arith) in
    let rest = marks_above o (a + 1) n (omega arith) in
    let both = sum_by-cons (mark o) a (range_with_len (a + 1) n) in
    omega arith

-- each ordinal of the block stands once among the first numbers
marks_within : (o a n : ℕ) → a ≤ o → o < a + n → sum_by (mark o) (range_with_len a n) ≡ 1
marks_within o a zero from below = absurd (omega arith)
marks_within o a (suc n) from below =
    let both = sum_by-cons (mark o) a (range_with_len (a + 1) n) in
    elim (cases_lt a o) [
      | inl before ↦
          let here = mark-other o a (λ e. omega arith) in
          let rest = marks_within o (a + 1) n (omega arith) (omega arith) in
          omega arith
      | inr reached ↦
          let same : a ≡ o = omega arith in
          let here : mark o a ≡ 1 = ap (λ x. mark o x) same ∙ mark-same o in
          let rest = marks_above o (a + 1) n (omega arith) in
          omega arith
    ]

-- an ordinal that is not held stands nowhere among the held ones
marks_held : (o : ℕ) (xs : List Allocation) → list_any (λ a. a.ordinal == o) xs ≡ false → sum_by (mark o) (held_ordinals xs) ≡ 0
marks_held o [] none = refl
marks_held o (x ∷ xs) none =
    elim (eqb x.ordinal o) as (λ v. (eqb x.ordinal o ≡ v) → sum_by (mark o) (held_ordinals (x ∷ xs)) ≡ 0) [
      | true ↦ λ e. let both = rw e at none in cc
      | false ↦ λ e.
          let rest = marks_held o xs (rw e at none) in
          let here = mark-test o x.ordinal false e in
          let both = sum_by-cons (mark o) x.ordinal (held_ordinals xs) in
          omega arith
    ] refl

-- an ordinal that is not held stands once in the queue
marks_queued : (b : BlockValue) (o : ℕ) → IsBlock b → o < cidr_size b.cidr → is_held b o ≡ false → sum_by (mark o) b.queue ≡ 1
marks_queued b o h own none =
    let kept = sum_by-IsPermutation (mark o) _ _ h.each_once in
    let all = marks_within o 0 (cidr_size b.cidr) (omega arith) (omega arith) in
    let both = sum_by-append (mark o) (held_ordinals b.allocations) b.queue in
    let held = marks_held o b.allocations none in
    omega arith

-- where it stands once, the queue is it and the others
only : (o : ℕ) (xs : List ℕ) → sum_by (mark o) xs ≡ 0 → filter (λ x. eqb x o) xs ≡ []
only o [] none = refl
only o (x ∷ xs) none =
    elim (eqb x o) as (λ v. (eqb x o ≡ v) → filter (λ y. eqb y o) (x ∷ xs) ≡ []) [
      | true ↦ λ e.
          let here = mark-test o x true e in
          let both = sum_by-cons (mark o) x xs in
          absurd (omega arith)
      | false ↦ λ e.
          let here = mark-test o x false e in
          let both = sum_by-cons (mark o) x xs in
          rw e (only o xs (omega arith))
    ] refl

filter-once : (o : ℕ) (xs : List ℕ) → sum_by (mark o) xs ≡ 1 → filter (λ x. eqb x o) xs ≡ o ∷ []
filter-once o [] once = absurd (omega arith)
filter-once o (x ∷ xs) once =
    elim (eqb x o) as (λ v. (eqb x o ≡ v) → filter (λ y. eqb y o) (x ∷ xs) ≡ o ∷ []) [
      | true ↦ λ e.
          let here = mark-test o x true e in
          let both = sum_by-cons (mark o) x xs in
          let rest = only o xs (omega arith) in
          let same : x ≡ o = eqb-true x o e in
          rw (e, rest, same) refl
      | false ↦ λ e.
          let here = mark-test o x false e in
          let both = sum_by-cons (mark o) x xs in
          rw e (filter-once o xs (omega arith))
    ] refl

-- the queue without the ordinal, and the ordinal
taken : (o : ℕ) (queue : List ℕ) → sum_by (mark o) queue ≡ 1 → IsPermutation queue (o ∷ filter (λ x. not (x == o)) queue)
taken o queue once =
    subst (λ (l : List ℕ). IsPermutation queue (l ++ filter (λ x. not (x == o)) queue))
    (filter-once o queue once)
    (IsPermutation-filter_both (λ x. x == o) (λ x. not (x == o)) (λ _. refl) queue)

assigned-shares : (xs : List Allocation) (a : Allocation) (i : ℕ) (queue : List ℕ) → sum_by (mark a.ordinal) queue ≡ 1 → IsPermutation (held_ordinals xs ++ queue) (held_ordinals (insert xs i a) ++ filter (λ x. not (x == a.ordinal)) queue)
assigned-shares xs a i queue once =
    let others = filter (λ x. not (x == a.ordinal)) queue in
    let first = IsPermutation-append_right (held_ordinals xs) _ _ (taken a.ordinal queue once) in
    let second = IsPermutation-middle (held_ordinals xs) a.ordinal others in
    let put = IsPermutation-map (λ (x : Allocation). x.ordinal) _ _ (IsPermutation-insert xs i a) in
    let third = IsPermutation-append_left others _ _ put in
    IsPermutation-trans _ _ _ first (IsPermutation-trans _ _ _ second third)

-- where an ordinal is not held, one more can be
pub few_held : (b : BlockValue) (o : ℕ) → IsBlock b → o < cidr_size b.cidr → is_held b o ≡ false → length b.allocations < cidr_size b.cidr
few_held b o h own none =
    let once = marks_queued b o h own none in
    let both = shared_count b h in
    elim (cases_lt (length b.allocations) (cidr_size b.cidr)) [
      | inl few ↦ few
      | inr all ↦
          let empty : length b.queue ≡ 0 = omega arith in
          let nothing = ap (λ (l : List ℕ). sum_by (mark o) l) (nil_from_length b.queue empty) in
          let zero_sum : sum_by (mark o) [] ≡ 0 = refl in
          absurd (omega arith)
    ]

-- no allocation has an ordinal that is not held
other_ordinals : (o : ℕ) (xs : List Allocation) (k : ℕ) (d : Allocation) → list_any (λ a. a.ordinal == o) xs ≡ false → k < length xs → (get_or xs k d).ordinal ≢ o
other_ordinals o [] k d none within same = absurd (omega arith)
other_ordinals o (x ∷ xs) zero d none within same =
    let e : eqb x.ordinal o ≡ true = eq-eqb x.ordinal o same in
    let both = rw e at none in
    cc
other_ordinals o (x ∷ xs) (suc k) d none within same =
    elim (eqb_tells x.ordinal o) [
      | inl h ↦ let both = rw h.0 at none in cc
      | inr h ↦ other_ordinals o xs k d (rw h.0 at none) (omega arith) same
    ]

pub IsBlock-assigned : (b : BlockValue) (o : ℕ) (attributes : Attributes) → IsBlock b → o < cidr_size b.cidr → 0 < b.sequence → is_held b o ≡ false → IsBlock (block_with_ordinal b o attributes)
IsBlock-assigned b o attributes h own written none =
    let a : Allocation = record { ordinal = o; attributes = attributes; stamp = b.sequence } in
    let place = lower_count-is o b.allocations in
    record {
      range = h.range;
      small = h.small;
      ascending = rw place (Ascend-insert b.allocations a h.ascending (λ k d within. other_ordinals o b.allocations k d none within));
      each_once = IsPermutation-trans _ _ _ h.each_once (assigned-shares b.allocations a (count_by (λ x. nat_lt x.ordinal o) b.allocations) b.queue (marks_queued b o h own none));
      stamped = All-permutation (λ x. (0 < x.stamp) × (x.stamp ≤ b.sequence)) (a ∷ b.allocations) _ (IsPermutation-insert b.allocations _ a) (All-cons (λ x. (0 < x.stamp) × (x.stamp ≤ b.sequence)) a b.allocations (written, omega arith) h.stamped);
    }
