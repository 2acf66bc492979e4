-- The first row that is one too many.
use Rattle.std.specs.Prelude.{ℕ, zero, suc, Bool, true, false, List, [], ◌∷◌, Option, Some, None, Result, Ok, nat_lt, codes, if◌then◌else◌}
use Rattle.ipam_records.specs.declared.call.Row.{Row as RowText}
use Rattle.ipam_records.specs.declared.fault.TextFault.{TextFault}
use Rattle.ipam_records.specs.declared.record.Record.{Record}
use Rattle.ipam_records.specs.declared.record.Record.TheVariants as record_of
use Rattle.ipam_records.specs.Datastore.{last_revision}
use Rattle.ipam_model.specs.Opened.{reading_of}

abbrev pub is_block_read : Result Record TextFault → Bool
is_block_read (Ok (record_of.Block b)) = true
is_block_read _ = false

-- how many others come first after a row, or none where it is the one that is looked for
abbrev pub left_behind : Bool → ℕ → Option ℕ
left_behind false left = Some left
left_behind true zero = None
left_behind true (suc n) = Some n

abbrev pub or_behind : RowText → (ℕ → Option RowText) → Option ℕ → Option RowText
or_behind row behind None = Some row
or_behind row behind (Some left) = behind left

-- the block before which there are so many others
abbrev pub at_block : List RowText → ℕ → Option RowText
at_block [] = λ left. None
at_block (row ∷ rows) = λ left. or_behind row (at_block rows) (left_behind (is_block_read (reading_of row)) left)

-- the text of the fault where the counter is above the last revision: `counter`
abbrev pub counter_above : ℕ → Option (List ℕ)
counter_above counter = if nat_lt last_revision counter then Some (codes "counter") else None
