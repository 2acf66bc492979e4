-- The pools of a table that stands are added one after the other.
use Rattle.std.proofs.Common.{◌≡◌, ◌≢◌, ℕ, suc, ◌^◌, ◌<◌, List, [], ◌∷◌, ◌++◌, length, length-append, get_or, Bool, true, false, None, bytes_eq, inl, inr, refl, sym, subst, arith, le-ltb, ltb-true, append_assoc}
use Rattle.std.specs.Prelude.{position}
use Rattle.std.specs.List.{list_any, position_or_len}
use Rattle.std.proofs.Math.ListN.{get_or-append}
use Rattle.std.proofs.Math.Seq.{get_or-append_seam}
use Rattle.std.proofs.lemmas.Bool.{cases_Bool, and_parts, lt-leb, le-leb}
use Rattle.ipam_addr.specs.declared.address.Family.{Family}
use Rattle.ipam_addr.specs.declared.address.Family.TheVariants.{V4, V6}
use Rattle.ipam_addr.specs.Shape.{CidrValue}
use Rattle.ipam_addr.specs.Holding.{Overlap, cidrs_overlap, cidr_end, is_same_family}
use Rattle.ipam_addr.specs.Slots.{HasSlots, AllowsSize}
use Rattle.ipam_json.proofs.Constructors.{AllByRecursion-All}
use Rattle.std.specs.Prelude.{is_none, Option, Some}
use Rattle.std.specs.List.{AllByRecursion}
use Rattle.std.proofs.Common.{append-nil}
use Rattle.std.proofs.lemmas.List.Elements.{All-from_recursion}
use Rattle.ipam_pool.specs.declared.pools.PoolRefusal.{PoolRefusal}
use Rattle.ipam_pool.proofs.Accepting.{IsPoolTable-push}
use Rattle.ipam_pool.specs.Changes.{refusal_of, has_name, is_size_allowed}
use Rattle.ipam_pool.specs.Sound.{IsPoolTable}
use Rattle.ipam_pool.specs.declared.pools.Pool.{Pool}
use Rattle.ipam_record_text.specs.Pools.{are_added, IsSoundPool, IsPoolsRecord}
use Rattle.ipam_json.proofs.Held.{bytes_eq-is}

-- a size that the family allows passes the test
allowed_test : (f : Family) (size : ℕ) → AllowsSize f size → is_size_allowed f size ≡ true
allowed_test V4 size h = rw (le-leb 20 size h.0, le-leb size 32 h.1) refl
allowed_test V6 size h = rw (le-leb 116 size h.0, le-leb size 128 h.1) refl

any_none : {A : Type 0} (p : A → Bool) (xs : List A) → ((k : ℕ) (d : A) → k < length xs → p (get_or xs k d) ≡ false) → list_any p xs ≡ false
any_none p [] h = refl
any_none p (x ∷ xs) h = rw (h 0 x (omega arith)) (any_none p xs (λ k d less. h (suc k) d (omega arith)))

past_end : {A : Type 0} (p : A → Bool) (xs : List A) → ((k : ℕ) (d : A) → k < length xs → p (get_or xs k d) ≡ false) → position_or_len p xs ≡ length xs
past_end p [] h = refl
past_end p (x ∷ xs) h =
    let rest = past_end p xs (λ k d less. h (suc k) d (omega arith)) in
    rw (h 0 x (omega arith)) (omega (arith, rest))

none_at : {A : Type 0} (p : A → Bool) (xs : List A) → ((k : ℕ) (d : A) → k < length xs → p (get_or xs k d) ≡ false) → position p xs ≡ None
none_at p xs h = rw (past_end p xs h, le-ltb (length xs) (length xs) (omega arith)) refl

other_name : (a b : List ℕ) → a ≢ b → bytes_eq a b ≡ false
other_name a b h = elim (cases_Bool (bytes_eq a b)) [
  | inl same ↦ absurd (h (bytes_eq-is a b same))
  | inr other ↦ other
]

one_family : (f g : Family) → is_same_family f g ≡ true → f ≡ g
one_family V4 V4 e = refl
one_family V4 V6 e = cc
one_family V6 V4 e = cc
one_family V6 V6 e = refl

no_overlap : (r s : CidrValue) → ¬ (Overlap r s) → cidrs_overlap r s ≡ false
no_overlap r s h = elim (cases_Bool (cidrs_overlap r s)) [
  | inl met ↦
      let (front, second) = and_parts _ _ met in
      let (same, first) = and_parts _ _ front in
      absurd (h (record {
        same_family = one_family r.family s.family same;
        first_reaches = ltb-true s.base (cidr_end r) first;
        second_reaches = ltb-true r.base (cidr_end s) second;
      }))
  | inr apart ↦ apart
]

-- the next pool of a table is not refused by those before it
next_accepted : (there rest : List Pool) (p : Pool) → IsPoolTable (there ++ p ∷ rest) → refusal_of there p ≡ None
next_accepted there rest p h =
    let long = length-append there (p ∷ rest) in
    let taken : list_any (has_name p.name) there ≡ false = any_none (has_name p.name) there (λ k d less.
    let pair = h.names k (length there) d less (omega arith) in
    let differ : (get_or there k d).name ≢ p.name = rw (get_or-append there (p ∷ rest) d k less, get_or-append_seam there p rest d) at pair in
    other_name (get_or there k d).name p.name differ) in
    let met : position (λ q. cidrs_overlap q.cidr p.cidr) there ≡ None = none_at (λ q. cidrs_overlap q.cidr p.cidr) there (λ k d less.
    let pair = h.apart k (length there) d less (omega arith) in
    let apart : ¬ (Overlap (get_or there k d).cidr p.cidr) = rw (get_or-append there (p ∷ rest) d k less, get_or-append_seam there p rest d) at pair in
    no_overlap (get_or there k d).cidr p.cidr apart) in
    let slots : HasSlots p.cidr p.size = rw (get_or-append_seam there p rest p) at (h.sizes (length there) p (omega arith)) in
    let size : is_size_allowed p.cidr.family p.size ≡ true = allowed_test p.cidr.family p.size slots.allowed in
    let few : length there < 64 = omega (arith, h.few) in
    rw (taken, met, size, le-ltb p.size p.cidr.prefix slots.fits, lt-leb 64 (length there) few) refl

pub standing_added : (there pools : List Pool) → IsPoolTable (there ++ pools) → are_added there pools ≡ true
standing_added there [] h = refl
standing_added there (p ∷ pools) h =
    rw (next_accepted there pools p h) (standing_added (there ++ p ∷ []) pools (subst IsPoolTable (sym (append_assoc there (p ∷ []) pools)) h))

small_size : (f : Family) (size : ℕ) → AllowsSize f size → size < 2 ^ 8
small_size V4 size h = omega arith
small_size V6 size h = omega arith

-- sound pools that can be added one after the other to an empty table
pub record IsSoundTable (pools : List Pool) : Type 0 where
  pub each : AllByRecursion IsSoundPool pools
  pub added : are_added [] pools ≡ true

-- a table that stands is added pool by pool
pub standing_table : (pools : List Pool) → IsPoolsRecord pools → IsSoundTable pools
standing_table pools h = record {
  each = AllByRecursion-All IsSoundPool pools (λ k d less. record {
    name = h.names k d less;
    cidr = h.table.ranges k d less;
    size = small_size _ _ (h.table.sizes k d less).allowed;
    selector = h.selectors k d less;
  });
  added = standing_added [] pools h.table;
}

none_is : (o : Option PoolRefusal) → is_none o ≡ true → o ≡ None
none_is None h = refl
none_is (Some refusal) h = absurd cc

added_table : (there pools : List Pool) → IsPoolTable there → AllByRecursion IsSoundPool pools → are_added there pools ≡ true → IsPoolTable (there ++ pools)
added_table there [] h each e = subst IsPoolTable (sym (append-nil there)) h
added_table there (p ∷ pools) h each e =
    let parts = and_parts (is_none (refusal_of there p)) (are_added (there ++ p ∷ []) pools) e in
    let pushed = IsPoolTable-push there p h (each.0).cidr (none_is (refusal_of there p) parts.0) in
    subst IsPoolTable (append_assoc there (p ∷ []) pools) (added_table (there ++ p ∷ []) pools pushed each.1 parts.1)

empty_table : IsPoolTable []
empty_table = record {
  few = omega arith;
  ranges = λ k d within. absurd (omega arith);
  sizes = λ k d within. absurd (omega arith);
  names = λ i j d before within. absurd (omega arith);
  apart = λ i j d before within. absurd (omega arith);
}

-- a table that was added pool by pool stands
pub added_stands : (pools : List Pool) → IsSoundTable pools → IsPoolsRecord pools
added_stands pools h = record {
  table = added_table [] pools empty_table h.each h.added;
  names = λ k d within. (All-from_recursion IsSoundPool pools h.each k d within).name;
  selectors = λ k d within. (All-from_recursion IsSoundPool pools h.each k d within).selector;
}
