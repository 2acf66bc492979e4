-- What contracts see of a pass.
use Rattle.std.specs.Prelude.{ℕ, List, Option}
use Rattle.atomic_table.specs.Seated.{TableId}
use Rattle.ipam_model.specs.declared.entry.Entry.{Entry}
use Rattle.ipam_model.specs.History.{Base}

-- Which lock it is of, how many turns it has left, its slot, how many slots below 64 it knows to be given
-- out and how many passes were joined into it; and the history that it has seen: the base, and the
-- entries, the newest first. Of these it has learned all that there were at a moment, and it may know how
-- many are sure.
pub record PassValue : Type 0 where
  pub lock : TableId
  pub left : ℕ
  pub slot : ℕ
  pub made : ℕ
  pub joined : ℕ
  pub base : Base
  pub seen : List Entry
  pub moment : ℕ
  pub sure : Option ℕ
