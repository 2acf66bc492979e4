-- Handles whose count of a block is below their addresses there, and which of their keys is first.
use Rattle.std.specs.Prelude.{ℕ, Bool, nat_lt, List, [], ◌∷◌, Option, Some, Result, Ok, if◌then◌else◌}
use Rattle.std.specs.List.{count_by}
use Rattle.std.specs.Borrow.{Bor}
use Rattle.std.specs.BTreeMap.{BTreeMap, get_by}
use Rattle.std.specs.Cmp.Lexicographic.{slice_cmp}
use Rattle.std.specs.Option.{unwrap_or}
use Rattle.std.specs.Ordering.{nat_cmp}
use Rattle.ipam_addr.specs.Shape.{CidrValue}
use Rattle.ipam_block.specs.declared.allocation.Allocation.{Allocation}
use Rattle.ipam_block.specs.Operations.{is_owned}
use Rattle.ipam_block.specs.Shape.{BlockValue}
use Rattle.ipam_block.specs.HandleOperations.{count_of}
use Rattle.ipam_records.specs.declared.fault.TextFault.{TextFault}
use Rattle.ipam_records.specs.declared.key.Key.TheVariants as key
use Rattle.ipam_records.specs.declared.record.Record.{Record}
use Rattle.ipam_records.specs.declared.record.Record.TheVariants as record_of
use Rattle.ipam_records.specs.KeyText.{key_bytes}
use Rattle.ipam_model.specs.Reads.{StoredRecord}
use Rattle.ipam_opening.specs.Earlier.{earlier}
use Rattle.ipam_opening.specs.Rules.{found_in}

-- the count of the block in the handle that was found
abbrev pub count_found : CidrValue → Option Record → ℕ
count_found cidr (Some (record_of.Handle h)) = count_of h cidr
count_found cidr _ = 0

-- how many addresses are counted by the id of their handle
abbrev pub held_in : BTreeMap (Bor (List ℕ)) ℕ → List ℕ → ℕ
held_in counts id = unwrap_or (get_by (λ k. slice_cmp nat_cmp id k.now) counts) 0

-- whether the handle of this id counts fewer addresses of the block than it owns there
abbrev pub is_short : List StoredRecord → BlockValue → List ℕ → Bool
is_short rows b id = nat_lt (count_found b.cidr (found_in (key.Handle id) rows)) (count_by (is_owned id) b.allocations)

-- the first of the keys, where the handle of this id is among them if it is short
abbrev pub with_short : List StoredRecord → BlockValue → List ℕ → Option (List ℕ) → Option (List ℕ)
with_short rows b id first =
    if is_short rows b id then earlier first (Some (key_bytes (key.Handle id))) else first

-- the first of the keys, where the handles of these allocations are among them if they are short
abbrev pub with_shorts : List StoredRecord → BlockValue → Option (List ℕ) → List Allocation → Option (List ℕ)
with_shorts rows b first [] = first
with_shorts rows b first (a ∷ rest) = with_shorts rows b (with_short rows b a.attributes.handle first) rest

-- the first of the keys, where the handles of what was read of one row are among them if they are
-- short
abbrev pub with_shorts_in : List StoredRecord → Option (List ℕ) → Result Record TextFault → Option (List ℕ)
with_shorts_in rows first (Ok (record_of.Block b)) = with_shorts rows b first b.allocations
with_shorts_in rows first _ = first

-- of what was read of these rows
abbrev pub first_short : List StoredRecord → Option (List ℕ) → List (Result Record TextFault) → Option (List ℕ)
first_short rows first [] = first
first_short rows first (reading ∷ rest) = first_short rows (with_shorts_in rows first reading) rest
