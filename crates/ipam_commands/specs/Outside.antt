-- What becomes of the sink and of the keeper where resources are applied.
use Rattle.std.specs.Prelude.{◌≡◌, ℕ, List, Option}
use Rattle.std.specs.Io.KnownBytes.{append_known}
use Rattle.ipam_keeper.specs.Outside.{Outside}
use Rattle.ipam_records.specs.Datastore.{Datastore}
use Rattle.ipam_commands.specs.declared.status.Status.{Status}
use Rattle.ipam_commands.specs.declared.status.Status.TheVariants as status
use Rattle.ipam_commands.specs.Courses.{AreRowsOf}
use Rattle.ipam_commands.specs.Telling.{Writes}

-- the sink took this too
abbrev pub with_told : Outside → List ℕ → Outside
with_told out text = record out { written = append_known out.written text }

-- the sink took all of the text, and neither it nor the keeper failed
pub record Took (old new : Outside) (text : List ℕ) : Type 0 where
  pub written : new.written ≡ append_known old.written text
  pub no_write_fault : new.write_faults ≡ old.write_faults
  pub no_keeper_fault : new.keeper_faults ≡ old.keeper_faults

-- what the sink took of the text that a run ends with, and the status
abbrev pub EndsSaying : (old new : Outside) (text : List ℕ) (own : Status) → Status → Type 0
EndsSaying old new text own = Writes old.written new.written old.write_faults new.write_faults text own

-- nothing is written, since there was no memory
pub record IsUntold (old new : Outside) (end : Status) : Type 0 where
  pub written : new.written ≡ old.written
  pub no_write_fault : new.write_faults ≡ old.write_faults
  pub no_memory : end ≡ status.NoMemory

-- the rows are the datastore's, and the keeper did not fail
pub record IsLeft (store : Datastore) (old new : Outside) : Type 0 where
  pub rows : AreRowsOf new.rows store
  pub no_keeper_fault : new.keeper_faults ≡ old.keeper_faults
