-- What some of the blocks come to.
use Rattle.std.specs.Prelude.{ℕ, ◌-◌, Bool, true, ◌&&◌, List, is_some, if◌then◌else◌, count_by, sum_by}
use Rattle.ipam_addr.specs.Holding.{first_address, holds_address}
use Rattle.ipam_addr.specs.Shape.{CidrValue}
use Rattle.ipam_records.specs.BlockLists.{is_node}
use Rattle.ipam_show.specs.declared.counting.BlockCount.{BlockCount}
use Rattle.ipam_show.specs.declared.sums.Amount.{Amount}
use Rattle.ipam_show.specs.declared.sums.Amount.TheVariants.{Size, Used, Free, Reserved}
use Rattle.ipam_show.specs.declared.sums.Scope.{Scope}
use Rattle.ipam_show.specs.declared.sums.Scope.TheVariants.{All, Pool, Taken, Node}

-- ---- which blocks count

abbrev pub is_any : BlockCount → Bool
is_any c = true

-- a block is a slot of a pool, so it lies in the pool that has its first address
abbrev pub is_in_pool : CidrValue → BlockCount → Bool
is_in_pool cidr c = holds_address cidr (first_address c.cidr)

abbrev pub is_taken : CidrValue → BlockCount → Bool
is_taken cidr c = is_in_pool cidr c && is_some c.node

abbrev pub is_of_node : List ℕ → BlockCount → Bool
is_of_node node c = is_node node c.node

abbrev pub is_within : Scope → BlockCount → Bool
is_within All = is_any
is_within (Pool cidr) = is_in_pool cidr
is_within (Taken cidr) = is_taken cidr
is_within (Node node) = is_of_node node.now

-- ---- how many addresses they have, how many of them are used, how many could still be given, how many are neither, and how
-- many blocks they are

-- what is neither assigned nor could be given is reserved
abbrev pub amount_of : Amount → BlockCount → ℕ
amount_of Size c = c.size
amount_of Used c = c.used
amount_of Free c = c.free
amount_of Reserved c = c.size - c.used - c.free

abbrev pub amount_for : Amount → (BlockCount → Bool) → BlockCount → ℕ
amount_for amount test c = if test c then amount_of amount c else 0

abbrev pub size_sum : (BlockCount → Bool) → List BlockCount → ℕ
size_sum test = sum_by (amount_for Size test)

abbrev pub used_sum : (BlockCount → Bool) → List BlockCount → ℕ
used_sum test = sum_by (amount_for Used test)

abbrev pub free_sum : (BlockCount → Bool) → List BlockCount → ℕ
free_sum test = sum_by (amount_for Free test)

abbrev pub reserved_sum : (BlockCount → Bool) → List BlockCount → ℕ
reserved_sum test = sum_by (amount_for Reserved test)

abbrev pub block_sum : (BlockCount → Bool) → List BlockCount → ℕ
block_sum test = count_by test
