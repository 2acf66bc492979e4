-- A queued ordinal is free: no allocation holds it, because each ordinal stands once among the held and the queued.
use Rattle.std.proofs.Common.{◌≡◌, ℕ, zero, suc, ◌+◌, ◌<◌, ◌≤◌, inl, inr, Bool, true, false, cond, List, [], ◌∷◌, ◌++◌, refl, ap, ◌∙◌, arith, eqb-true}
use Rattle.std.specs.Prelude.{Contains, ◌==◌}
use Rattle.std.specs.List.{list_any, sum_by, range_with_len}
use Rattle.std.proofs.lemmas.Bool.{cases_Bool, eqb-false}
use Rattle.std.proofs.lemmas.List.Sorted.{sum_by-IsPermutation}
use Rattle.std.proofs.lemmas.List.Sums.{sum_by-append, sum_by-cons}
use Rattle.ipam_addr.specs.Width.{cidr_size}
use Rattle.ipam_block.specs.declared.allocation.Allocation.{Allocation}
use Rattle.ipam_block.specs.Shape.{BlockValue}
use Rattle.ipam_block.specs.Operations.{is_held}
use Rattle.ipam_block.specs.Sound.{IsBlock, held_ordinals, ordinals_below}
use Rattle.ipam_block.proofs.Members.{in-cons, in-nothing}

-- counts one number in a sum
mark : ℕ → ℕ → ℕ
mark o x = cond (x == o) 1 0

mark-above : (o a n : ℕ) → o < a → sum_by (mark o) (range_with_len a n) ≡ 0
unfolding mark
mark-above o a zero below = refl
mark-above o a (suc n) below = elim (cases_Bool (a == o)) [
  | inl same ↦ let e = eqb-true a o same in absurd (omega arith)
  | inr differ ↦
      let rest = mark-above o (a + 1) n (omega arith) in
      let both = sum_by-cons (mark o) a (range_with_len (a + 1) n) in
      let here : mark o a ≡ 0 = rw differ refl in
      omega arith
]

-- an ordinal stands once at most among the first numbers
mark-range : (o a n : ℕ) → sum_by (mark o) (range_with_len a n) ≤ 1
unfolding mark
mark-range o a zero = omega arith
mark-range o a (suc n) = elim (cases_Bool (a == o)) [
  | inl same ↦
      let e = eqb-true a o same in
      let rest = mark-above o (a + 1) n (omega arith) in
      let both = sum_by-cons (mark o) a (range_with_len (a + 1) n) in
      let here : mark o a ≡ 1 = rw same refl in
      omega arith
  | inr differ ↦
      let rest = mark-range o (a + 1) n in
      let both = sum_by-cons (mark o) a (range_with_len (a + 1) n) in
      let here : mark o a ≡ 0 = rw differ refl in
      omega arith
]

mark-member : (o : ℕ) (xs : List ℕ) → Contains xs o → 1 ≤ sum_by (mark o) xs
unfolding mark
mark-member o [] h = absurd (in-nothing o h)
mark-member o (x ∷ xs) h =
    let both = sum_by-cons (mark o) x xs in
    elim (in-cons o x xs h) [
      | inl is ↦ let here : mark o x ≡ 1 = ap (mark o) is ∙ mark-itself o in omega arith
      | inr there ↦ let rest = mark-member o xs there in omega arith
    ]
  where
    from : (o : ℕ) (b : Bool) → (o == o) ≡ b → cond {A = ℕ} b 1 0 ≡ 1
    from o true e = refl
    from o false e = absurd (eqb-false o o e refl)

    mark-itself : (o : ℕ) → mark o o ≡ 1
    mark-itself o = from o (o == o) refl

mark-held : (o : ℕ) (xs : List Allocation) → list_any (λ a. a.ordinal == o) xs ≡ true → 1 ≤ sum_by (mark o) (held_ordinals xs)
unfolding mark
mark-held o [] e = absurd (cc e)
mark-held o (x ∷ xs) e =
    let both = sum_by-cons (mark o) x.ordinal (held_ordinals xs) in
    elim (cases_Bool (x.ordinal == o)) [
      | inl same ↦ let here : mark o x.ordinal ≡ 1 = rw same refl in omega arith
      | inr differ ↦ let f = rw differ at e in let rest = mark-held o xs f in omega arith
    ]

-- a queued ordinal is not held
pub queued-free : (b : BlockValue) (o : ℕ) → IsBlock b → Contains b.queue o → is_held b o ≡ false
queued-free b o h queued = elim (cases_Bool (is_held b o)) [
  | inl held ↦
      let one = mark-held o b.allocations held in
      let two = mark-member o b.queue queued in
      let all = sum_by-append (mark o) (held_ordinals b.allocations) b.queue in
      let same = sum_by-IsPermutation (mark o) (ordinals_below (cidr_size b.cidr)) (held_ordinals b.allocations ++ b.queue) h.each_once in
      let most = mark-range o 0 (cidr_size b.cidr) in
      absurd (omega arith)
  | inr free ↦ free
]
