-- The blocks among rows, as lists of their CIDRs.
use Rattle.std.specs.Prelude.{◌≡◌, ℕ, ◌≤◌, Bool, true, false, List, [], ◌∷◌, length, map, All, Option, Some, None, IsTrue, is_none, bytes_eq, if◌then◌else◌}
use Rattle.std.specs.List.{filter_map}
use Rattle.std.specs.List.Sorted.{IsStrictlySortedBy}
use Rattle.std.specs.declared.cmp.Ordering.{Ordering}
use Rattle.std.specs.Ordering.{nat_cmp}
use Rattle.std.specs.Cmp.Lexicographic.{slice_cmp}
use Rattle.std.specs.Global.{Vec}
use Rattle.ipam_addr.specs.Shape.{CidrValue}
use Rattle.ipam_block.specs.Shape.{BlockValue}
use Rattle.ipam_records.specs.declared.record.Record.{Record}
use Rattle.ipam_records.specs.declared.record.Record.TheVariants as record_of
use Rattle.ipam_records.specs.Key.{key_of}
use Rattle.ipam_records.specs.KeyOrder.{key_cmp}

-- whether the node is this one
abbrev pub is_node : List ℕ → Option (List ℕ) → Bool
is_node node None = false
is_node node (Some other) = bytes_eq other node

-- whether some address of the block is free
abbrev pub has_queue : List ℕ → Bool
has_queue [] = false
has_queue (ordinal ∷ rest) = true

-- whether the record is that of a block
abbrev pub is_block : Record → Bool
is_block (record_of.Block b) = true
is_block _ = false

-- the CIDR of a block that passes the test
abbrev pub cidr_if : (BlockValue → Bool) → ℕ × Record → Option CidrValue
cidr_if passes (revision, record_of.Block b) = if passes b then Some b.cidr else None
cidr_if passes _ = None

-- the CIDRs of the blocks that pass the test, in the order of their rows
abbrev pub cidrs_where : (BlockValue → Bool) → List (ℕ × Record) → List CidrValue
cidrs_where passes = filter_map (cidr_if passes)

-- the blocks with this node, those without a node, and those with a free address
abbrev pub cidrs_of_node : List ℕ → List (ℕ × Record) → List CidrValue
cidrs_of_node node = cidrs_where (λ b. is_node node b.node)

abbrev pub cidrs_unowned : List (ℕ × Record) → List CidrValue
cidrs_unowned = cidrs_where (λ b. is_none b.node)

abbrev pub cidrs_roomy : List (ℕ × Record) → List CidrValue
cidrs_roomy = cidrs_where (λ b. has_queue b.queue)

-- ---- lists by the names of nodes

-- names stand by their bytes
abbrev pub name_cmp : List ℕ → List ℕ → Ordering
name_cmp = slice_cmp nat_cmp

-- the lists under their names, as plain data
abbrev pub named_lists : List (Vec ℕ × Vec CidrValue) → List (List ℕ × List CidrValue)
named_lists [] = []
named_lists (entry ∷ rest) = (entry.0.items, entry.1.items) ∷ named_lists rest

-- the list under this name, or none
abbrev pub list_under : List ℕ → List (List ℕ × List CidrValue) → List CidrValue
list_under node [] = []
list_under node (entry ∷ rest) = if bytes_eq entry.0 node then entry.1 else list_under node rest

-- each list has an entry, and their names ascend, so that each name has one list
pub record AreNamedLists (lists : List (List ℕ × List CidrValue)) : Type 0 where
  pub some : All (λ entry. 1 ≤ length entry.1) lists
  pub ascending : IsStrictlySortedBy name_cmp (map (λ entry. entry.0) lists)

-- the lists are those that the rows give, each a filter of them: one for each node that has a
-- block, the blocks without a node, and the blocks with a free address
pub record AreListsOf (rows : List (ℕ × Record)) (owned : List (List ℕ × List CidrValue)) (unowned roomy : List CidrValue) : Type 0 where
  pub of_node : (node : List ℕ) → list_under node owned ≡ cidrs_of_node node rows
  pub unowned_is : unowned ≡ cidrs_unowned rows
  pub roomy_is : roomy ≡ cidrs_roomy rows

-- all rows are blocks, by family, base and prefix, each CIDR once
pub record AreBlocks (rows : List (ℕ × Record)) : Type 0 where
  pub blocks : All (λ row. IsTrue (is_block row.1)) rows
  pub ascending : IsStrictlySortedBy key_cmp (map (λ row. key_of row.1) rows)

-- no row is a block
abbrev pub HasNoBlock : List (ℕ × Record) → Type 0
HasNoBlock = All (λ row. is_block row.1 ≡ false)
