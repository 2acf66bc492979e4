-- An allocation that is put after those of lower ordinals keeps them ascending.
use Rattle.std.proofs.Common.{◌≡◌, ◌≢◌, ℕ, zero, suc, ◌+◌, ◌-◌, ◌<◌, ◌≤◌, ◌⊎◌, Bool, cond, List, [], ◌∷◌, length, get_or, ap, sym, arith, refl, subst, inl, inr, lt-ltb, le-ltb}
use Rattle.std.specs.Prelude.{AllPairs, insert, count_by, sum_by, nat_lt}
use Rattle.std.proofs.lemmas.Bool.{cases_lt}
use Rattle.std.proofs.lemmas.List.Sums.{sum_by-cons}
use Rattle.std.proofs.lemmas.List.Edits.{get_or-insert_at, get_or-insert_below, get_or-insert_above, length-insert}
use Rattle.ipam_block.specs.declared.allocation.Allocation.{Allocation}

-- one where the ordinal is lower, and 0 elsewhere
lower : ℕ → Allocation → ℕ
lower o a = cond (nat_lt a.ordinal o) 1 0

-- how many ordinals are lower
pub lower_count : ℕ → List Allocation → ℕ
lower_count o xs = sum_by (lower o) xs

pub lower_count-is : (o : ℕ) (xs : List Allocation) → count_by (λ a. nat_lt a.ordinal o) xs ≡ lower_count o xs
unfolding lower lower_count
lower_count-is o xs = refl

lower_count-nil : (o : ℕ) → lower_count o [] ≡ 0
unfolding lower_count
lower_count-nil o = refl

lower_count-cons : (o : ℕ) (x : Allocation) (xs : List Allocation) → ((x.ordinal < o) × (lower_count o (x ∷ xs) ≡ 1 + lower_count o xs)) ⊎ ((o ≤ x.ordinal) × (lower_count o (x ∷ xs) ≡ lower_count o xs))
unfolding lower lower_count
lower_count-cons o x xs =
    let f : Bool → ℕ = λ v. cond v 1 0 in
    let both = sum_by-cons (lower o) x xs in
    elim (cases_lt x.ordinal o) [
      | inl h ↦ let one = ap f (lt-ltb x.ordinal o h) in inl (h, omega arith)
      | inr h ↦ let none = ap f (le-ltb x.ordinal o h) in inr (h, omega arith)
    ]

-- where no ordinal is lower, none is counted
lower_count-none : (o : ℕ) (xs : List Allocation) → ((k : ℕ) (d : Allocation) → k < length xs → o ≤ (get_or xs k d).ordinal) → lower_count o xs ≡ 0
lower_count-none o [] above = lower_count-nil o
lower_count-none o (x ∷ xs) above =
    let rest = lower_count-none o xs (λ k d h. above (suc k) d (omega arith)) in
    let first : o ≤ x.ordinal = above 0 x (omega arith) in
    elim (lower_count-cons o x xs) [ inl h ↦ absurd (omega arith) | inr h ↦ omega arith ]

abbrev pub Ascend : List Allocation → Type 0
Ascend = AllPairs (λ x y. x.ordinal < y.ordinal)

tail-ascends : (x : Allocation) (xs : List Allocation) → Ascend (x ∷ xs) → Ascend xs
tail-ascends x xs h i j d before within = h (suc i) (suc j) d (omega arith) (omega arith)

later-above : (o : ℕ) (x : Allocation) (xs : List Allocation) → Ascend (x ∷ xs) → o ≤ x.ordinal → (k : ℕ) (d : Allocation) → k < length xs → o ≤ (get_or xs k d).ordinal
later-above o x xs h high k d within =
    let later : x.ordinal < (get_or xs k d).ordinal = h 0 (suc k) d (omega arith) (omega arith) in
    omega arith

-- as many stand in front as are lower
pub in_front : (o : ℕ) (xs : List Allocation) (k : ℕ) (d : Allocation) → Ascend xs → k < lower_count o xs → (get_or xs k d).ordinal < o
in_front o [] k d h below = let none = lower_count-nil o in absurd (omega arith)
in_front o (x ∷ xs) zero d h below =
    elim (lower_count-cons o x xs) [
      | inl low ↦ low.0
      | inr high ↦
          let none = lower_count-none o xs (later-above o x xs h high.0) in
          absurd (omega arith)
    ]
in_front o (x ∷ xs) (suc k) d h below =
    elim (lower_count-cons o x xs) [
      | inl low ↦ in_front o xs k d (tail-ascends x xs h) (omega arith)
      | inr high ↦
          let none = lower_count-none o xs (later-above o x xs h high.0) in
          absurd (omega arith)
    ]

-- and none after them
pub behind : (o : ℕ) (xs : List Allocation) (k : ℕ) (d : Allocation) → Ascend xs → lower_count o xs ≤ k → k < length xs → o ≤ (get_or xs k d).ordinal
behind o [] k d h from within = absurd (omega arith)
behind o (x ∷ xs) zero d h from within =
    elim (lower_count-cons o x xs) [ inl low ↦ absurd (omega arith) | inr high ↦ high.0 ]
behind o (x ∷ xs) (suc k) d h from within =
    elim (lower_count-cons o x xs) [
      | inl low ↦ behind o xs k d (tail-ascends x xs h) (omega arith) (omega arith)
      | inr high ↦ later-above o x xs h high.0 k d (omega arith)
    ]

pub lower_count-le : (o : ℕ) (xs : List Allocation) → lower_count o xs ≤ length xs
lower_count-le o [] = let none = lower_count-nil o in omega arith
lower_count-le o (x ∷ xs) =
    let rest = lower_count-le o xs in
    elim (lower_count-cons o x xs) [ inl low ↦ omega arith | inr high ↦ omega arith ]

strict : (m n : ℕ) → m ≤ n → n ≢ m → m < n
strict m n reached other = elim (cases_lt m n) [
  | inl below ↦ below
  | inr above ↦ absurd (other (omega arith))
]

-- where the items of an insertion come from
at_later : (xs : List Allocation) (p : ℕ) (a d : Allocation) (j : ℕ) → p < j → p ≤ length xs → get_or (insert xs p a) j d ≡ get_or xs (j - 1) d
at_later xs p a d j after within =
    let e : j - 1 + 1 ≡ j = omega arith in
    let P : ℕ → Type 0 = λ k. get_or (insert xs p a) k d ≡ get_or xs (j - 1) d in
    subst P e (get_or-insert_above xs p a d (j - 1) (omega arith) within)

at_place : (xs : List Allocation) (p : ℕ) (a d : Allocation) (j : ℕ) → j ≡ p → p ≤ length xs → get_or (insert xs p a) j d ≡ a
at_place xs p a d j e within =
    let P : ℕ → Type 0 = λ k. get_or (insert xs p a) k d ≡ a in
    subst P (sym e) (get_or-insert_at xs p a d within)

-- an allocation of an ordinal that none has, put after the lower ones
pub Ascend-insert : (xs : List Allocation) (a : Allocation) → Ascend xs → ((k : ℕ) (d : Allocation) → k < length xs → (get_or xs k d).ordinal ≢ a.ordinal) → Ascend (insert xs (lower_count a.ordinal xs) a)
Ascend-insert xs a h new i j d before within =
    let p = lower_count a.ordinal xs in
    let few = lower_count-le a.ordinal xs in
    let long = length-insert xs p a few in
    elim (cases_lt j p) [
      | inl left ↦
          let at_i = get_or-insert_below xs p a d i (omega arith) few in
          let at_j = get_or-insert_below xs p a d j left few in
          let both = h i j d before (omega arith) in
          rw (at_i, at_j) both
      | inr right ↦ elim (cases_lt p j) [
        | inl after ↦ rw (at_later xs p a d j after few) (before_later after)
        | inr here ↦
            let at_j = at_place xs p a d j (omega arith) few in
            let at_i = get_or-insert_below xs p a d i (omega arith) few in
            rw (at_i, at_j) (in_front a.ordinal xs i d h (omega arith))
      ]
    ]
  where
    before_later : lower_count a.ordinal xs < j → (get_or (insert xs (lower_count a.ordinal xs) a) i d).ordinal < (get_or xs (j - 1) d).ordinal
    before_later after =
        let p = lower_count a.ordinal xs in
        let few = lower_count-le a.ordinal xs in
        let long = length-insert xs p a few in
        elim (cases_lt i p) [
          | inl left ↦
              rw (get_or-insert_below xs p a d i left few) (h i (j - 1) d (omega arith) (omega arith))
          | inr right ↦ elim (cases_lt p i) [
            | inl later ↦
                rw (at_later xs p a d i later few) (h (i - 1) (j - 1) d (omega arith) (omega arith))
            | inr here ↦
                let reached = behind a.ordinal xs (j - 1) d h (omega arith) (omega arith) in
                let other = new (j - 1) d (omega arith) in
                rw (at_place xs p a d i (omega arith) few) (strict _ _ reached other)
          ]
        ]
