-- A pool that is there has its name there.
use Rattle.std.proofs.Common.{◌≡◌, ◌≢◌, Bool, true, false, List, [], ◌∷◌, ◌||◌, Option, Some, None, Result, Ok, Err, IfSome, refl, ap, ◌∙◌, subst, inl, inr}
use Rattle.std.specs.Prelude.{◌&&◌, IsNone, IsOkUnless}
use Rattle.std.specs.List.{list_any}
use Rattle.std.proofs.lemmas.Bool.{cases_Bool}
use Rattle.ipam_pool.specs.declared.pools.Pool.{Pool}
use Rattle.ipam_pool.specs.declared.pools.PoolRefusal.{PoolRefusal}
use Rattle.ipam_pool.specs.declared.pools.PoolRefusal.TheVariants.{Memory}
use Rattle.ipam_pool.specs.Changes.{has_name, refusal_of}
use Rattle.ipam_model.specs.Admin.{Changed, is_same_pool, pool_changed, pool_appended, pool_refused}

first_true : (a b c : Bool) → a && b && c ≡ true → a ≡ true
first_true true b c all = refl
first_true false true true all = all
first_true false true false all = all
first_true false false true all = all
first_true false false false all = all

or_true : (a b : Bool) → b ≡ true → a || b ≡ true
or_true true b is = refl
or_true false b is = is

pub is_named_there : (pool : Pool) (pools : List Pool) → list_any (is_same_pool pool) pools ≡ true
    → list_any (has_name pool.name) pools ≡ true
is_named_there pool [] some = absurd (cc some)
is_named_there pool (first ∷ rest) some = elim (cases_Bool (is_same_pool pool first)) [
  | inl same ↦
      let named : has_name pool.name first ≡ true = first_true (has_name pool.name first) _ _ same in
      rw named refl
  | inr differ ↦
      let later = rw differ at some in
      or_true (has_name pool.name first) (list_any (has_name pool.name) rest) (is_named_there pool rest later)
]

-- ---- a pool that is not there

refuses_by : (found : Option PoolRefusal) (pools : List Pool) (pool : Pool) (result : Result (Unit {0}) PoolRefusal) (refusal : PoolRefusal)
    → result ≡ Err refusal → IfSome found (λ r. result ≡ Err r) → (IsNone found → IsOkUnless result Memory) → refusal ≢ Memory
    → pool_refused pools pool refusal ≡ pool_appended pools pool found
refuses_by None pools pool result refusal is some none told =
    let P : Result (Unit {0}) PoolRefusal → Type 0 = λ r. IsOkUnless r Memory in absurd (told (subst P is (none refl)))
refuses_by (Some r) pools pool result refusal is some none told =
    let same : refusal ≡ r = cc (is, some) in ap (pool_refused pools pool) same

-- it is refused for the reason that the table gives, where that is no want of memory
pub refuses : (pools : List Pool) (pool : Pool) (result : Result (Unit {0}) PoolRefusal) (refusal : PoolRefusal) (change : Changed)
    → list_any (is_same_pool pool) pools ≡ false → result ≡ Err refusal
    → IfSome (refusal_of pools pool) (λ r. result ≡ Err r) → (IsNone (refusal_of pools pool) → IsOkUnless result Memory)
    → refusal ≢ Memory → change ≡ pool_refused pools pool refusal → change ≡ pool_changed pools pool
refuses pools pool result refusal change apart is some none told refused =
    rw apart (refused ∙ refuses_by (refusal_of pools pool) pools pool result refusal is some none told)
