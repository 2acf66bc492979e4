-- What a pool is for, and how many blocks can still be taken of it.
use Rattle.std.specs.Prelude.{ℕ, ◌+◌, ◌-◌, List, codes, if◌then◌else◌}
use Rattle.ipam_addr.specs.Slots.{HasSlots, last_slot_of}
use Rattle.ipam_pool.specs.declared.pools.Mode.{Mode}
use Rattle.ipam_pool.specs.declared.pools.Mode.TheVariants.{Automatic, Manual}
use Rattle.ipam_pool.specs.declared.pools.Pool.{Pool}
use Rattle.ipam_show.specs.declared.counting.BlockCount.{BlockCount}
use Rattle.ipam_show.specs.Scopes.{block_sum, is_taken}

abbrev pub mode_word : Mode → List ℕ
mode_word Automatic = codes "usable"
mode_word Manual = codes "manual"

-- what an ADD may use the pool for
abbrev pub use_word : Pool → List ℕ
use_word pool = if pool.disabled then codes "disabled" else mode_word pool.mode

-- the slots without a block, and the blocks without a node: all slots, less the blocks that have a node
abbrev pub blocks_left : List BlockCount → Pool → ℕ
blocks_left counts pool = last_slot_of pool.cidr pool.size + 1 - block_sum (is_taken pool.cidr) counts

-- the pool is one of slots
abbrev pub IsOfSlots : Pool → Type 0
IsOfSlots pool = HasSlots pool.cidr pool.size
