-- The test of a content tells whether it is a block's.
use Rattle.std.proofs.Common.{◌≡◌, ℕ, zero, suc, ◌+◌, ◌<◌, ◌≤◌, Bool, true, List, [], ◌∷◌, Option, length, get_or, sym, arith, refl, subst, eqb-true, eq-eqb, inl, inr}
use Rattle.std.specs.Prelude.{All, AllPairs, nat_lt, nat_le, ◌==◌, ◌&&◌, Contains, remove}
use Rattle.std.specs.List.{range_with_len, list_any, list_all}
use Rattle.std.specs.List.Sorted.{IsPermutation}
use Rattle.std.proofs.lemmas.Bool.{and_parts, and_from, leb-true, le-leb, ltb-true, lt-ltb}
use Rattle.std.proofs.lemmas.List.FromFn.{length-range_with_len, get_or-range_with_len}
use Rattle.std.proofs.lemmas.List.Sorted.{IsPermutation-trans, IsPermutation-sym, IsPermutation-cons, IsPermutation-remove, IsPermutation-refl, Contains-permutation, length_permutation}
use Rattle.std.proofs.lemmas.Bool.Decides.{eqb_tells}
use Rattle.std.proofs.lemmas.List.Elements.{All-contains, Contains-get_or}
use Rattle.std.proofs.lemmas.List.Folds.{list_any_at}
use Rattle.ipam_addr.specs.Shape.{CidrValue}
use Rattle.ipam_addr.specs.Width.{cidr_size, IsCidr}
use Rattle.ipam_block.specs.declared.allocation.Allocation.{Allocation}
use Rattle.ipam_block.specs.declared.limits.TheConstants.{ADDRESSES_MAX}
use Rattle.ipam_block.specs.Shape.{BlockValue}
use Rattle.ipam_block.specs.Sound.{IsBlock, ordinals_below}
use Rattle.ipam_block.specs.Test.{ascends_from, are_all_below, has_stamp_within, is_block, content_of}

-- ---- the ordinals ascend

from_above : (least : ℕ) (xs : List Allocation) → ascends_from least xs ≡ true → All (λ a. least ≤ a.ordinal) xs
from_above least [] h i d within = absurd (omega arith)
from_above least (x ∷ xs) h zero d within = leb-true _ _ (and_parts _ _ h).0
from_above least (x ∷ xs) h (suc i) d within =
    let parts = and_parts (nat_le least x.ordinal) (ascends_from (x.ordinal + 1) xs) h in
    let first = leb-true _ _ parts.0 in
    let later = from_above (x.ordinal + 1) xs parts.1 i d (omega arith) in
    omega arith

ascends-true : (least : ℕ) (xs : List Allocation) → ascends_from least xs ≡ true → AllPairs (λ x y. x.ordinal < y.ordinal) xs
ascends-true least [] h i j d before within = absurd (omega arith)
ascends-true least (x ∷ xs) h i zero d before within = absurd (omega arith)
ascends-true least (x ∷ xs) h zero (suc j) d before within =
    let parts = and_parts (nat_le least x.ordinal) (ascends_from (x.ordinal + 1) xs) h in
    let later = from_above (x.ordinal + 1) xs parts.1 j d (omega arith) in
    omega arith
ascends-true least (x ∷ xs) h (suc i) (suc j) d before within =
    let parts = and_parts (nat_le least x.ordinal) (ascends_from (x.ordinal + 1) xs) h in
    ascends-true (x.ordinal + 1) xs parts.1 i j d (omega arith) (omega arith)

true-ascends : (least : ℕ) (xs : List Allocation) → AllPairs (λ x y. x.ordinal < y.ordinal) xs → All (λ a. least ≤ a.ordinal) xs → ascends_from least xs ≡ true
true-ascends least [] h low = refl
true-ascends least (x ∷ xs) h low =
    and_from _ _
    (le-leb _ _ (low 0 x (omega arith)))
    (true-ascends (x.ordinal + 1) xs
    (λ i j d before within. h (suc i) (suc j) d (omega arith) (omega arith))
    (λ i d within. let later = h 0 (suc i) d (omega arith) (omega arith) in omega arith))

-- ---- each ordinal stands there once

Contains-range : (n o : ℕ) → o < n → Contains (ordinals_below n) o
Contains-range n o below =
    let long = length-range_with_len 0 n in
    let at = get_or-range_with_len 0 n o o below in
    (o, omega arith, omega arith)

All-from_list_all : {X : Type 0} (p : X → Bool) (xs : List X) → list_all p xs ≡ true → All (λ x. p x ≡ true) xs
All-from_list_all p [] h i d within = absurd (omega arith)
All-from_list_all p (x ∷ xs) h zero d within = (and_parts (p x) _ h).0
All-from_list_all p (x ∷ xs) h (suc i) d within =
    All-from_list_all p xs (and_parts (p x) _ h).1 i d (omega arith)

list_all-from_All : {X : Type 0} (p : X → Bool) (xs : List X) → All (λ x. p x ≡ true) xs → list_all p xs ≡ true
list_all-from_All p [] h = refl
list_all-from_All p (x ∷ xs) h =
    and_from _ _ (h 0 x (omega arith)) (list_all-from_All p xs (λ i d within. h (suc i) d (omega arith)))

other_than_first : (x a : ℕ) (xs : List ℕ) → a < x → Contains (a ∷ xs) x → Contains xs x
other_than_first x a xs above h = go h.0 h.1 h.2
  where
    go : (k : ℕ) → k < length (a ∷ xs) → get_or (a ∷ xs) k x ≡ x → Contains xs x
    go zero within is = absurd (omega arith)
    go (suc k) within is = (k, omega arith, is)

each_below : (a n : ℕ) (xs : List ℕ) → length xs ≡ n → ((o : ℕ) → a ≤ o → o < a + n → Contains xs o) → IsPermutation (range_with_len a n) xs
each_below a zero [] long all = IsPermutation-refl []
each_below a zero (x ∷ xs) long all = absurd (omega arith)
each_below a (suc n) xs long all =
    let here = all a (omega arith) (omega arith) in
    let out = IsPermutation-remove xs here.0 a here.1 (sym here.2) in
    let left = remove xs here.0 in
    let fewer = length_permutation _ _ out in
    let rest = each_below (a + 1) n left (omega arith)
    (λ o from below. other_than_first o a left (omega arith) (Contains-permutation _ _ o out (all o (omega arith) (omega arith)))) in
    IsPermutation-trans _ _ _ (IsPermutation-cons a _ _ rest) (IsPermutation-sym _ _ out)

is_equal_to : (o : ℕ) (xs : List ℕ) → list_any (λ x. x == o) xs ≡ true → Contains xs o
is_equal_to o [] h = absurd cc
is_equal_to o (x ∷ xs) h =
    elim (eqb_tells x o) [
      | inl same ↦ (0, omega arith, same.1)
      | inr other ↦
          let rest = is_equal_to o xs (rw other.0 at h) in
          (suc rest.0, omega (arith, rest.1), rest.2)
    ]

stands_there : (o : ℕ) (xs : List ℕ) → Contains xs o → list_any (λ x. x == o) xs ≡ true
stands_there o xs h = list_any_at (λ x. x == o) xs h.0 o h.1 (eq-eqb _ _ h.2)

are_all_below-true : (n : ℕ) (xs : List ℕ) → are_all_below n xs ≡ true → IsPermutation (ordinals_below n) xs
are_all_below-true n xs h =
    let parts = and_parts (length xs == n) (list_all (λ o. list_any (λ x. x == o) xs) (ordinals_below n)) h in
    let long = eqb-true _ _ parts.0 in
    let all = All-from_list_all (λ o. list_any (λ x. x == o) xs) (ordinals_below n) parts.1 in
    each_below 0 n xs long (λ o from below.
    let here = Contains-range n o (omega arith) in
    is_equal_to o xs (All-contains (λ q. list_any (λ x. x == q) xs ≡ true) _ o all here))

true-are_all_below : (n : ℕ) (xs : List ℕ) → IsPermutation (ordinals_below n) xs → are_all_below n xs ≡ true
true-are_all_below n xs h =
    let long = length_permutation _ _ h in
    let count = length-range_with_len 0 n in
    and_from _ _
    (eq-eqb _ _ (omega arith))
    (list_all-from_All (λ o. list_any (λ x. x == o) xs) (ordinals_below n)
    (λ k d within. stands_there _ xs (Contains-permutation _ _ _ h (Contains-get_or (ordinals_below n) k d within))))

-- ---- the whole test

stamped-true : (s : ℕ) (xs : List Allocation) → list_all (has_stamp_within s) xs ≡ true → All (λ a. (0 < a.stamp) × (a.stamp ≤ s)) xs
stamped-true s [] h i d within = absurd (omega arith)
stamped-true s (x ∷ xs) h zero d within =
    let here = and_parts (nat_lt 0 x.stamp) (nat_le x.stamp s) (and_parts (has_stamp_within s x) _ h).0 in
    (ltb-true _ _ here.0, leb-true _ _ here.1)
stamped-true s (x ∷ xs) h (suc i) d within =
    stamped-true s xs (and_parts (has_stamp_within s x) _ h).1 i d (omega arith)

true-stamped : (s : ℕ) (xs : List Allocation) → All (λ a. (0 < a.stamp) × (a.stamp ≤ s)) xs → list_all (has_stamp_within s) xs ≡ true
true-stamped s [] h = refl
true-stamped s (x ∷ xs) h =
    let here = h 0 x (omega arith) in
    and_from _ _
    (and_from _ _ (lt-ltb _ _ here.0) (le-leb _ _ here.1))
    (true-stamped s xs (λ i d within. h (suc i) d (omega arith)))

pub is_block-true : (b : BlockValue) → IsCidr b.cidr → cidr_size b.cidr ≤ ADDRESSES_MAX → is_block b ≡ true → IsBlock b
is_block-true b range small h =
    let parts = and_parts (ascends_from 0 b.allocations && list_all (has_stamp_within b.sequence) b.allocations) _ h in
    let front = and_parts (ascends_from 0 b.allocations) _ parts.0 in
    record {
      range = range;
      small = small;
      ascending = ascends-true 0 b.allocations front.0;
      each_once = are_all_below-true _ _ parts.1;
      stamped = stamped-true b.sequence b.allocations front.1;
    }

pub true-is_block : (b : BlockValue) → IsBlock b → is_block b ≡ true
true-is_block b h =
    and_from _ _
    (and_from _ _
    (true-ascends 0 b.allocations h.ascending (λ i d within. omega arith))
    (true-stamped b.sequence b.allocations h.stamped))
    (true-are_all_below _ _ h.each_once)

-- the same held and queued
pub IsBlock-same : (cidr : CidrValue) (node : Option (List ℕ)) (held others : List Allocation) (queue rest : List ℕ) (sequence : ℕ) → others ≡ held → rest ≡ queue → IsBlock (content_of cidr node held queue sequence) → IsBlock (content_of cidr node others rest sequence)
IsBlock-same cidr node held others queue rest sequence e f h =
    let P : List Allocation → Type 0 = λ l. IsBlock (content_of cidr node l rest sequence) in
    let Q : List ℕ → Type 0 = λ l. IsBlock (content_of cidr node held l sequence) in
    subst P (sym e) (subst Q (sym f) h)
