-- The texts of cells.
use Rattle.std.specs.Prelude.{ℕ, ◌*◌, ◌/◌, List, ◌++◌, codes, decimal, Option, Some, None}
use Rattle.ipam_block.specs.declared.state.State.{State}
use Rattle.ipam_block.specs.State.{state_text}

-- how many of a hundred, rounded down
abbrev pub percent_of : (used size : ℕ) → ℕ
percent_of used size = used * 100 / size

abbrev pub percent_text : (used size : ℕ) → List ℕ
percent_text used size = decimal (percent_of used size) ++ codes "%"

-- the node, or `-`
abbrev pub node_word : Option (List ℕ) → List ℕ
node_word (Some node) = node
node_word None = codes "-"

-- the state, or `-`
abbrev pub state_word : Option State → List ℕ
state_word (Some state) = state_text state
state_word None = codes "-"
