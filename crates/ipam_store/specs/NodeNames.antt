-- What the lists under names keep, and what the next one has.
use Rattle.std.specs.Prelude.{◌≡◌, ℕ, ◌<◌, ◌≤◌, List, All, Option, Some, None}
use Rattle.std.specs.Global.{Vec}
use Rattle.std.specs.Vec.{vec_len, vec_capacity}
use Rattle.ipam_addr.specs.Shape.{CidrValue}
use Rattle.ipam_addr.specs.declared.names.TheConstants.{MOST_NAME_BYTES}
use Rattle.ipam_records.specs.BlockLists.{name_cmp, AreNamedLists}
use Rattle.ipam_records.specs.Places.{IsFoundAt, IsGapAt}
use Rattle.ipam_store.specs.CidrLists.{CidrsAscend}

-- the lists are under ascending names, none is empty, and each ascends
pub record AreNodeLists (lists : List (List ℕ × List CidrValue)) : Type 0 where
  pub named : AreNamedLists lists
  pub ascending : All (λ entry. CidrsAscend entry.1) lists

-- the list has room for one more
pub record HasRoom (entry : Vec ℕ × Vec CidrValue) : Type 0 where
  pub is : vec_len entry.1 < vec_capacity entry.1

-- an empty name and an empty list, with the memory for the next node and its first block
abbrev pub IsNext : Option (Vec ℕ × Vec CidrValue) → Type 0
IsNext None = Unit {0}
IsNext (Some entry) =
    (vec_len entry.0 ≡ 0) × (vec_len entry.1 ≡ 0) × (MOST_NAME_BYTES ≤ vec_capacity entry.0) × (1 ≤ vec_capacity entry.1)

-- the node's list stands at this place, or would go there
abbrev pub IsListAt : List ℕ → List (List ℕ × List CidrValue) → ℕ → Type 0
IsListAt node lists = IsFoundAt (λ entry. name_cmp entry.0 node) lists

abbrev pub IsGapFor : List ℕ → List (List ℕ × List CidrValue) → ℕ → Type 0
IsGapFor node lists = IsGapAt (λ entry. name_cmp entry.0 node) lists
