-- What contracts see of the rows of one list: plain data.
use Rattle.std.specs.Prelude.{ℕ, List}
use Rattle.ipam_records.specs.declared.record.Record.{Record}

-- the rows, and how many further ones take no memory at least
pub record Shelved : Type 0 where
  pub rows : List (ℕ × Record)
  pub spare : ℕ
