-- Pairs of texts, as labels of a node or what an address is recorded with: a key and its value.
use Rattle.std.specs.Prelude.{ℕ, Bool, false, List, Option, bytes_eq, option_map, unwrap_or}
use Rattle.std.specs.List.{find}
pub use Rattle.ipam_block.specs.Pairs.{Pair}

-- the value of a key, where there is one
abbrev pub value_of : List ℕ → List Pair → Option (List ℕ)
value_of key pairs = option_map (λ pair. pair.1) (find (λ pair. bytes_eq pair.0 key) pairs)

-- whether the key has a value that passes
abbrev pub has_value : List ℕ → (List ℕ → Bool) → List Pair → Bool
has_value key passes pairs = unwrap_or (option_map passes (value_of key pairs)) false
