-- The text of a block in two pieces, as it is written.
use Rattle.std.specs.Prelude.{ℕ, List, ◌++◌, Option, codes, decimal, map}
use Rattle.serde_json.specs.Written.{compact_text}
use Rattle.ipam_block.specs.declared.allocation.Attributes.{Attributes}
use Rattle.ipam_json.specs.Built.{array_of, whole_data}
use Rattle.ipam_block_text.specs.Body.{host_data, place_data, attributes_data}

-- the node and who holds what
abbrev pub holders_text : Option (List ℕ) → List (Option ℕ) → List Attributes → List ℕ
holders_text node places attributes =
    codes "{\"affinity\":" ++ (compact_text (host_data node)
    ++ (codes ",\"allocations\":" ++ (compact_text (array_of (map place_data places))
    ++ (codes ",\"attributes\":" ++ compact_text (array_of (map attributes_data attributes))))))

-- the rest after the CIDR, with the text of the stamps
abbrev pub rest_text : (sequence : ℕ) → (stamps : List ℕ) → (queue : List ℕ) → List ℕ
rest_text sequence stamps queue =
    codes ",\"sequenceNumber\":" ++ (decimal sequence
    ++ (codes ",\"sequenceNumberForAllocation\":" ++ (stamps
    ++ (codes ",\"unallocated\":" ++ (compact_text (array_of (map whole_data queue)) ++ codes "}")))))

-- the sequence number, and the name of the stamps
abbrev pub sequence_text : ℕ → List ℕ
sequence_text sequence =
    codes ",\"sequenceNumber\":" ++ (decimal sequence ++ codes ",\"sequenceNumberForAllocation\":")

-- the queue, and the end
abbrev pub queue_text : List ℕ → List ℕ
queue_text queue = codes ",\"unallocated\":" ++ (compact_text (array_of (map whole_data queue)) ++ codes "}")
