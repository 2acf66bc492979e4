-- The pool of a name, where its place was looked for.
use Rattle.std.proofs.Common.{◌≡◌, ◌∙◌, ℕ, ◌<◌, true, false, List, length, get_or, Option, Some, None, sym, ap}
use Rattle.std.specs.Prelude.{position}
use Rattle.std.specs.List.{list_any}
use Rattle.std.proofs.lemmas.List.Quantifiers.{position-Some}
use Rattle.std.proofs.lemmas.List.Folds.{list_any_at, list_any_none}
use Rattle.ipam_pool.specs.declared.pools.Pool.{Pool}
use Rattle.ipam_pool.specs.Changes.{has_name}
use Rattle.ipam_pool.proofs.Accepting.{none_found}

-- the pool at the place has the name
pub record IsNamed (name : List ℕ) (pools : List Pool) (place : ℕ) (pool : Pool) : Type 0 where
  pub within : place < length pools
  pub named : has_name name pool ≡ true
  pub any : list_any (has_name name) pools ≡ true

pub found_named : (name : List ℕ) (pools searched : List Pool) (found : Option ℕ) (place : ℕ) (pool : Pool) → searched ≡ pools → found ≡ position (has_name name) searched → found ≡ Some place → pool ≡ get_or pools place pool → IsNamed name pools place pool
found_named name pools searched found place pool same value is at =
    let first_at : position (has_name name) pools ≡ Some place = ap (position (has_name name)) (sym same) ∙ sym value ∙ is in
    let first = position-Some (has_name name) pools place pool first_at in
    record {
      within = first.0;
      named = ap (has_name name) at ∙ first.1;
      any = list_any_at (has_name name) pools place pool first.0 first.1;
    }

pub none_named : (name : List ℕ) (pools searched : List Pool) (found : Option ℕ) → searched ≡ pools → found ≡ position (has_name name) searched → found ≡ None → list_any (has_name name) pools ≡ false
none_named name pools searched found same value is =
    let missing : position (has_name name) pools ≡ None = ap (position (has_name name)) (sym same) ∙ sym value ∙ is in
    list_any_none (has_name name) pools (none_found (has_name name) pools missing)
