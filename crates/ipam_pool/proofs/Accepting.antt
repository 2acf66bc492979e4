-- A pool that is not refused may stand after the others.
use Rattle.std.proofs.Common.{◌≡◌, ◌≢◌, ℕ, zero, suc, ◌<◌, Bool, true, false, List, [], ◌∷◌, ◌++◌, length, length-append, get_or, Option, Some, None, inl, inr, arith, refl, subst}
use Rattle.std.specs.Prelude.{All, option_map, position}
use Rattle.std.specs.List.{list_any, position_or_len}
use Rattle.std.specs.Option.{option_or}
use Rattle.std.proofs.lemmas.Bool.{ltb-false, leb-true, leb-false, lt-ltb, and_parts, and_from, not-false, or_parts, cases_lt}
use Rattle.std.proofs.lemmas.List.Sums.{fails_before_first}
use Rattle.std.proofs.lemmas.List.Elements.{All-push}
use Rattle.std.proofs.lemmas.List.Quantifiers.{all_pairs_push}
use Rattle.std.proofs.lemmas.Slice.Eq.{bytes_eq-Decides}
use Rattle.ipam_addr.specs.declared.address.Family.{Family}
use Rattle.ipam_addr.specs.declared.address.Family.TheVariants.{V4, V6}
use Rattle.ipam_addr.specs.Shape.{CidrValue}
use Rattle.ipam_addr.specs.Width.{IsCidr}
use Rattle.ipam_addr.specs.Holding.{Overlap, cidrs_overlap, is_same_family}
use Rattle.ipam_addr.specs.Slots.{AllowsSize, HasSlots}
use Rattle.ipam_pool.specs.declared.pools.Pool.{Pool}
use Rattle.ipam_pool.specs.declared.pools.PoolRefusal.TheVariants.{NameTaken, Size, Prefix, TooMany}
use Rattle.ipam_pool.specs.declared.pools.PoolRefusal.TheVariants.{Overlap as OverlapAt}
use Rattle.ipam_pool.specs.Changes.{refusal_if, refusal_of, has_name, is_size_allowed}
use Rattle.ipam_pool.specs.Sound.{IsPoolTable}

-- where nothing refuses, no condition of a refusal holds
parts : (a : Bool) (b : Option ℕ) (c d e : Bool) → option_or (refusal_if a NameTaken) (option_or (option_map OverlapAt b) (option_or (option_or (refusal_if c Size) (refusal_if d Prefix)) (refusal_if e TooMany))) ≡ None → (a ≡ false) × (b ≡ None) × (c ≡ false) × (d ≡ false) × (e ≡ false)
parts true b c d e h = cc
parts false (Some k) c d e h = cc
parts false None true d e h = cc
parts false None false true e h = cc
parts false None false false true h = cc
parts false None false false false h = (refl, refl, refl, refl, refl)

pub allowed : (f : Family) (size : ℕ) → is_size_allowed f size ≡ true → AllowsSize f size
allowed V4 size h =
    let (low, high) = and_parts _ _ h in
    (leb-true _ _ low, leb-true _ _ high)
allowed V6 size h =
    let (low, high) = and_parts _ _ h in
    (leb-true _ _ low, leb-true _ _ high)

-- no element passes where none is found
pub none_found : {X : Type 0} (p : X → Bool) (xs : List X) → position p xs ≡ None → All (λ x. p x ≡ false) xs
none_found p xs none k d within = elim (cases_lt (position_or_len p xs) (length xs)) [
  | inl found ↦ let e = rw (lt-ltb _ _ found) at none in cc
  | inr past ↦ fails_before_first p xs k d (omega arith)
]

-- no element passes where the test of all says so
pub none_passes : {X : Type 0} (p : X → Bool) (xs : List X) → list_any p xs ≡ false → (k : ℕ) (d : X) → k < length xs → p (get_or xs k d) ≡ false
none_passes p [] none k d within = absurd (omega arith)
none_passes p (x ∷ xs) none zero d within = (or_parts (p x) (list_any p xs) none).0
none_passes p (x ∷ xs) none (suc k) d within =
    let below : k < length xs = omega arith in
    none_passes p xs (or_parts (p x) (list_any p xs) none).1 k d below

same_family_test : (f : Family) → is_same_family f f ≡ true
same_family_test V4 = refl
same_family_test V6 = refl

-- the test of an overlap that holds
overlap_test : (r s : CidrValue) → Overlap r s → cidrs_overlap r s ≡ true
overlap_test r s h =
    let same : is_same_family r.family s.family ≡ true = subst (λ f. is_same_family r.family f ≡ true) h.same_family (same_family_test r.family) in
    and_from _ _ (and_from _ _ same (lt-ltb _ _ h.first_reaches)) (lt-ltb _ _ h.second_reaches)

pub IsPoolTable-push : (pools : List Pool) (p : Pool) → IsPoolTable pools → IsCidr p.cidr → refusal_of pools p ≡ None → IsPoolTable (pools ++ p ∷ [])
IsPoolTable-push pools p h sound none =
    let (fresh, apart, size, prefix, room) = parts _ _ _ _ _ none in
    let long = length-append pools (p ∷ []) in
    let few = leb-false 64 (length pools) room in
    record {
      few = omega arith;
      ranges = All-push (λ x. IsCidr x.cidr) pools p h.ranges sound;
      sizes = All-push (λ x. HasSlots x.cidr x.size) pools p h.sizes (record {
        allowed = allowed p.cidr.family p.size (not-false _ size);
        fits = ltb-false _ _ prefix;
      });
      names = all_pairs_push (λ x y. x.name ≢ y.name) pools p h.names (λ k d within same.
          let other = none_passes (has_name p.name) pools fresh k d within in
          let taken = (bytes_eq-Decides (get_or pools k d).name p.name).1 same in
          cc);
      apart = all_pairs_push (λ x y. ¬ (Overlap x.cidr y.cidr)) pools p h.apart (λ k d within shared.
          let other = none_found (λ x. cidrs_overlap x.cidr p.cidr) pools apart k d within in
          let met = overlap_test (get_or pools k d).cidr p.cidr shared in
          cc);
    }
