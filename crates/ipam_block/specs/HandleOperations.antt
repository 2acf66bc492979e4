-- What each operation makes of a handle.
use Rattle.std.specs.Prelude.{◌≡◌, ◌≢◌, ℕ, ◌+◌, ◌-◌, ◌==◌, List, Contains, unwrap_or, if◌then◌else◌}
use Rattle.std.specs.Map.{keys_of, lookup, remove_entry}
use Rattle.std.specs.BTreeMap.{is_at, insert_entry}
use Rattle.ipam_addr.specs.Shape.{CidrValue}
use Rattle.ipam_block.specs.HandleShape.{HandleValue}
use Rattle.ipam_block.specs.Order.{cidr_cmp}

abbrev pub content : List ℕ → List (CidrValue × ℕ) → HandleValue
content id counts = record { id = id; counts = counts }

-- the count of a block, 0 where it has none
abbrev pub count_in : List (CidrValue × ℕ) → CidrValue → ℕ
count_in counts block = unwrap_or (lookup (is_at (cidr_cmp block)) counts) 0

abbrev pub count_of : HandleValue → CidrValue → ℕ
count_of h block = count_in h.counts block

-- the block has a count
abbrev pub HasBlock : HandleValue → CidrValue → Type 0
HasBlock h block = Contains (keys_of h.counts) block

-- each other block has the count that it had
abbrev pub KeepsOthers : HandleValue → HandleValue → CidrValue → Type 0
KeepsOthers old new block = (other : CidrValue) → other ≢ block → count_of new other ≡ count_of old other

-- the counts with this one of the block at its place in the order, and with none where it is 0
abbrev pub counts_with : List (CidrValue × ℕ) → CidrValue → ℕ → List (CidrValue × ℕ)
counts_with counts block count =
    if count == 0 then remove_entry (is_at (cidr_cmp block)) counts
    else insert_entry cidr_cmp counts block count

-- the handle with more, or fewer, addresses of the block
abbrev pub with_raised_count : HandleValue → CidrValue → ℕ → HandleValue
with_raised_count h block by = record h { counts = counts_with h.counts block (count_of h block + by) }

abbrev pub with_lowered_count : HandleValue → CidrValue → ℕ → HandleValue
with_lowered_count h block by = record h { counts = counts_with h.counts block (count_of h block - by) }
