-- For which base the rows stand that were gathered.
use Rattle.std.specs.Prelude.{◌≡◌, ℕ, List, map, nat_lt, Option, Some, None, if◌then◌else◌}
use Rattle.std.specs.BTreeMap.{BTreeMap}
use Rattle.std.specs.List.Sorted.{IsPermutation}
use Rattle.ipam_records.specs.declared.call.Row.{Row}
use Rattle.ipam_play.specs.declared.gathering.Counter.{Counter}
use Rattle.ipam_play.specs.declared.gathering.Counter.TheVariants.{Greatest, Given}
use Rattle.ipam_play.specs.declared.gathering.Content.{Content}
use Rattle.ipam_play.specs.declared.gathering.Gathering.{Gathering}
use Rattle.ipam_play.specs.Script.{Gathered}
use Rattle.ipam_play.specs.Played.{counter_of}

abbrev pub counter_from : Option ℕ → Counter
counter_from None = Greatest
counter_from (Some counter) = Given

-- the counter after a row of this revision
abbrev pub raised : Counter → (counter revision : ℕ) → ℕ
raised Greatest counter revision = if nat_lt counter revision then revision else counter
raised Given counter revision = counter

-- the row of a key, with what it has beside it
abbrev pub row_gathered : List ℕ × Content → Row
row_gathered e = record { key = e.0; revision = e.1.revision; body = e.1.body }

abbrev pub rows_gathered : BTreeMap (List ℕ) Content → List Row
rows_gathered rows = map row_gathered rows.entries

-- the rows that were gathered, in the order of their keys, and the counter that they are
-- opened with
pub record Gathers (gathering : Gathering) (gathered : Gathered) : Type 0 where
  pub same_rows : IsPermutation gathered.rows (rows_gathered gathering.rows)
  pub counter : gathering.counter ≡ counter_of gathered
  pub from : gathering.from ≡ counter_from gathered.counter
