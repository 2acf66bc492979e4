-- What a search among counts finds, and what a write at that place does.
use Rattle.std.proofs.Common.{◌≡◌, ℕ, ◌+◌, ◌<◌, ◌≤◌, inl, inr, List, length, get_or, set, unwrap_or, Result, Ok, Err, IfOk, IfErr, IsTrue, ◌↔◌, Bool, true, false, ap, sym, ◌∙◌, arith, refl, subst}
use Rattle.std.specs.declared.cmp.Ordering.{Ordering}
use Rattle.std.specs.declared.cmp.Ordering.TheVariants.{Less, Equal, Greater}
use Rattle.std.specs.Ordering.{is_lt, ordering_index, ordering_reverse}
use Rattle.std.specs.Cmp.{alike_right}
use Rattle.std.specs.List.{insert, remove, IsAllAdjacentAnswer}
use Rattle.std.specs.List.Sorted.{IsStrictlySortedBy, IsSearchInRange, IsBinarySearchResult, IsNonDecreasingBy}
use Rattle.std.specs.Map.{keys_of}
use Rattle.std.proofs.Math.ListN.{get_or-map}
use Rattle.std.proofs.lemmas.Bool.{cases_lt}
use Rattle.std.proofs.lemmas.Map.Keys.{sorted_from_all_adjacent}
use Rattle.std.proofs.lemmas.Map.Entries.{length-keys_of}
use Rattle.ipam_addr.specs.declared.address.Family.TheVariants.{V4}
use Rattle.ipam_addr.specs.Shape.{CidrValue}
use Rattle.ipam_addr.specs.contracts.cidrs.CidrOrd.TheImpl.{ghosts}
use Rattle.ipam_block.specs.Order.{cidr_cmp}
use Rattle.ipam_block.specs.HandleSound.{AreCounts}
use Rattle.ipam_block.specs.Places.{IsPlace, IsGap}
use Rattle.ipam_block.specs.HandleOperations.{count_in, counts_with}
use Rattle.ipam_block.proofs.Order.{derived-is, cidr_cmp_total, cidr_cmp_exact}
use Rattle.ipam_block.proofs.Entries.{key_below, set-insert_entry, insert-insert_entry, remove-remove_entry, lookup-gap, lookup-place}
use Rattle.ipam_block.proofs.Reading.{counts_with-some}

index_le_two : (r : Ordering) → ordering_index r ≤ 2
index_le_two Less = omega arith
index_le_two Equal = omega arith
index_le_two Greater = omega arith

-- what is below another block does not compare above it
rises : (x y block : CidrValue) → cidr_cmp x y ≡ Less → ordering_index (ghosts.cmp x block) ≤ ordering_index (ghosts.cmp y block)
rises x y block below =
    let P : Ordering → Ordering → Type 0 = λ r s. ordering_index r ≤ ordering_index s in
    subst (λ r. P r (ghosts.cmp y block)) (sym (derived-is x block))
    (subst (λ s. P (cidr_cmp x block) s) (sym (derived-is y block)) (by_answer (cidr_cmp y block) refl))
  where
    by_answer : (s : Ordering) → cidr_cmp y block ≡ s → ordering_index (cidr_cmp x block) ≤ ordering_index s
    by_answer Less h =
        let e = ap ordering_index (cidr_cmp_total.trans x y block below h) in omega arith
    by_answer Equal h =
        let e = ap ordering_index (sym (alike_right cidr_cmp_total y block x h) ∙ below) in omega arith
    by_answer Greater h = index_le_two (cidr_cmp x block)

module _ (es : List (CidrValue × ℕ)) (sound : AreCounts es) (block : CidrValue) where
  comparisons_rise : IsNonDecreasingBy (λ e. ordering_index (ghosts.cmp e.0 block)) es
  comparisons_rise i j d le within =
      elim (cases_lt i j) [
        | inl before ↦ rises _ _ block (key_below cidr_cmp es i j d sound.ascending before within)
        | inr reached ↦
            let same : i ≡ j = omega arith in
            let P : ℕ → Type 0 = λ k. ordering_index (ghosts.cmp (get_or es i d).0 block) ≤ ordering_index (ghosts.cmp (get_or es k d).0 block) in
            subst P same (omega arith)
      ]

  turned : (x : CidrValue) (r : Ordering) → ghosts.cmp x block ≡ r → cidr_cmp block x ≡ ordering_reverse r
  turned x r h = cidr_cmp_total.antisymm block x ∙ ap ordering_reverse (sym (derived-is x block) ∙ h)

  -- a binary search ends at the block, or at the gap for it
  pub searched : (r : Result ℕ ℕ) → IsSearchInRange r (length es) → IsBinarySearchResult (λ e. ghosts.cmp e.0 block) es r → record { found : IfOk r (IsPlace es block); absent : IfErr r (IsGap es block) }
  searched (Ok at) within equal = record {
    found = record {
      within = within;
      same = λ d. cidr_cmp_exact _ _ (sym (derived-is _ block) ∙ equal d);
    };
    absent = tt;
  }
  searched (Err at) within parted = record {
    found = tt;
    absent = record {
      within = within;
      before = λ i d h. turned _ Less ((parted comparisons_rise).0 i d (omega arith) h);
      behind = λ i d h m. turned _ Greater ((parted comparisons_rise).1 i d h m);
    };
  }

  pub count_in-place : (i : ℕ) (d : CidrValue × ℕ) → IsPlace es block i → count_in es block ≡ (get_or es i d).1
  count_in-place i d place = ap (λ o. unwrap_or o 0) (lookup-place cidr_cmp_total block 0 es i d sound.ascending place.within place.same)

  pub count_in-gap : (i : ℕ) → IsGap es block i → count_in es block ≡ 0
  count_in-gap i gap = ap (λ o. unwrap_or o 0) (lookup-gap cidr_cmp_total block 0 es i gap.before gap.behind)

  pub set-counts_with : (i n : ℕ) → 0 < n → IsPlace es block i → set es i (block, n) ≡ counts_with es block n
  set-counts_with i n some place =
      set-insert_entry cidr_cmp_total block n es i sound.ascending place.within place.same
      ∙ sym (counts_with-some es block n some)

  pub insert-counts_with : (i n : ℕ) → 0 < n → IsGap es block i → insert es i (block, n) ≡ counts_with es block n
  insert-counts_with i n some gap =
      insert-insert_entry cidr_cmp_total block n es i gap.within gap.before gap.behind
      ∙ sym (counts_with-some es block n some)

  pub remove-counts_with : (i : ℕ) → IsPlace es block i → remove es i ≡ counts_with es block 0
  remove-counts_with i place = remove-remove_entry cidr_cmp_total block 0 es i sound.ascending place.within place.same

less : (r : Ordering) → true ≡ is_lt r → r ≡ Less
less Less e = refl
less Equal e = cc e
less Greater e = cc e

first_cidr : CidrValue
first_cidr = record { family = V4; base = 0; prefix = 0 }

-- a test of each block and the next tells whether all ascend
pub ascend-told : (es : List (CidrValue × ℕ)) (r : Bool) → IsAllAdjacentAnswer (λ x y b. b ≡ is_lt (ghosts.cmp x.0 y.0)) es r → IsTrue r ↔ IsStrictlySortedBy cidr_cmp (keys_of es)
ascend-told es true told =
    (λ _. sorted_from_all_adjacent cidr_cmp_total (keys_of es) first_cidr adjacent, λ _. refl)
  where
    adjacent : (k : ℕ) → k + 1 < length (keys_of es) → cidr_cmp (get_or (keys_of es) k first_cidr) (get_or (keys_of es) (k + 1) first_cidr) ≡ Less
    adjacent k within =
        let d : CidrValue × ℕ = (first_cidr, 0) in
        let below : ghosts.cmp (get_or es k d).0 (get_or es (k + 1) d).0 ≡ Less = less _ (told k d (omega (arith, length-keys_of es))) in
        let key : CidrValue × ℕ → CidrValue = λ e. e.0 in
        (λ i. cidr_cmp (get_or-map key es k d i) (get_or-map key es (k + 1) d i)) ∙ sym (derived-is (key (get_or es k d)) (key (get_or es (k + 1) d))) ∙ below
ascend-told es false (k, within, told) = (
  λ h. absurd (cc h),
  λ s. absurd (
      let d : CidrValue × ℕ = (first_cidr, 0) in
      let below = key_below cidr_cmp es k (k + 1) d s (omega arith) within in
      let test : false ≡ true = told d ∙ ap is_lt (derived-is (get_or es k d).0 (get_or es (k + 1) d).0 ∙ below) in
      cc test),
)
