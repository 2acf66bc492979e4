-- The numbers that are counted, as a summary.
use Rattle.std.specs.Prelude.{◌≡◌, ℕ, List, length, sum_by}
use Rattle.ipam_block.specs.declared.allocation.Allocation.{Allocation}
use Rattle.ipam_records.specs.declared.record.Record.{Record}
use Rattle.ipam_records.specs.declared.record.Record.TheVariants as record_of
use Rattle.ipam_model.specs.declared.entry.Entry.{Entry}
use Rattle.ipam_model.specs.Reads.{StoredRecord}
use Rattle.ipam_command.specs.declared.gen_summary.Numbers.{Numbers}
use Rattle.ipam_command.specs.Generated.{IsGenerated}
use Rattle.ipam_command.specs.Summary.{Summary, summary_of}

abbrev pub summary_in : Numbers → Summary
summary_in numbers = record {
  requests = numbers.requests;
  entries = numbers.entries;
  owners = numbers.owners;
  again = numbers.again;
  exhausted = numbers.exhausted;
  freed = numbers.freed;
}

-- how many addresses the record owns
abbrev pub owned_in : Record → ℕ
owned_in (record_of.Block b) = length b.allocations
owned_in _ = 0

-- how many by what all of them say
abbrev pub owned_among : List StoredRecord → ℕ
owned_among rows = sum_by (λ (row : StoredRecord). owned_in row.1) rows

-- these are the numbers of the generator's course
pub record IsCourse (count : ℕ) (summary : Summary) : Type 0 where
  pub answered : List Entry
  pub whole : List Entry
  pub generated : IsGenerated count answered whole
  pub is : summary ≡ summary_of count answered whole
