-- The JSON value of a block, and its text.
use Rattle.std.specs.Prelude.{ℕ, List, [], ◌∷◌, ◌++◌, Option, Some, None, codes, decimal, map, fold}
use Rattle.serde_json.specs.Data.{Data, null, string, object, Members, no_members, put}
use Rattle.serde_json.specs.Written.{compact_text}
use Rattle.ipam_addr.specs.Text.{cidr_text_of}
use Rattle.ipam_block.specs.declared.allocation.Allocation.{Allocation}
use Rattle.ipam_block.specs.declared.allocation.Attributes.{Attributes}
use Rattle.ipam_block.specs.Shape.{BlockValue}
use Rattle.ipam_json.specs.Built.{object_of, array_of, whole_data}
use Rattle.ipam_block_text.specs.declared.parts.Parts.{Parts}
use Rattle.ipam_block_text.specs.Attributes.{Pair}
use Rattle.ipam_block_text.specs.Parts.{block_parts}

-- the node that the block is affine to
abbrev pub host_data : Option (List ℕ) → Data
host_data None = null
host_data (Some node) = string (codes "host:" ++ node)

-- the index of an ordinal's attributes, where it is held
abbrev pub place_data : Option ℕ → Data
place_data None = null
place_data (Some index) = whole_data index

abbrev pub with_pair : Members → Pair → Members
with_pair members pair = put pair.0 (string pair.1) members

-- the pairs by the bytes of their keys
abbrev pub secondary_data : List Pair → Data
secondary_data pairs = object (fold with_pair no_members pairs)

abbrev pub attributes_data : Attributes → Data
attributes_data a =
    object_of
    ((codes "handle_id", string a.handle) ∷ (codes "secondary", secondary_data a.secondary) ∷ [])

abbrev pub with_stamp : Members → Allocation → Members
with_stamp members a = put (decimal a.ordinal) (whole_data a.stamp) members

-- the stamp of each held ordinal, by the bytes of the ordinals in decimal
abbrev pub stamps_data : List Allocation → Data
stamps_data allocations = object (fold with_stamp no_members allocations)

-- the value with these parts and these stamps
unfoldable pub parts_data : Parts → Data → Data
parts_data p stamps =
    object_of
    ((codes "affinity", host_data p.node)
    ∷ (codes "allocations", array_of (map place_data p.places))
    ∷ (codes "attributes", array_of (map attributes_data p.attributes))
    ∷ (codes "cidr", string (cidr_text_of p.cidr))
    ∷ (codes "sequenceNumber", whole_data p.sequence)
    ∷ (codes "sequenceNumberForAllocation", stamps)
    ∷ (codes "unallocated", array_of (map whole_data p.queue))
    ∷ [])

-- the JSON value of a block
abbrev pub block_data : BlockValue → Data
block_data b = parts_data (block_parts b) (stamps_data b.allocations)

-- the text of a block
unfoldable pub block_body : BlockValue → List ℕ
block_body b = compact_text (block_data b)
