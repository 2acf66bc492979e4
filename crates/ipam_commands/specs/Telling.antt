-- How a command that only reads the rows ends, and what it writes.
use Rattle.std.specs.Prelude.{◌≡◌, ℕ, List, [], codes, Option}
use Rattle.std.specs.Io.KnownBytes.{append_known}
use Rattle.ipam_io.specs.Counts.{Rose}
use Rattle.ipam_io.specs.Streams.{AppendsPrefix}
use Rattle.ipam_keeper.specs.Keeping.{IsTold}
use Rattle.ipam_records.specs.declared.call.Row.{Row as RowText}
use Rattle.ipam_records.specs.Datastore.{Datastore}
use Rattle.ipam_model.specs.Opened.{IsRefusedBy, OpensAs}
use Rattle.ipam_shared.specs.declared.kept.KeptFault.{KeptFault}
use Rattle.ipam_shared.specs.declared.kept.KeptFault.TheVariants.{Keeper, Refused, Memory}
use Rattle.ipam_shared.specs.Broken.{broken_line}
use Rattle.ipam_shared.specs.Rows.{texts_loaded}
use Rattle.ipam_commands.specs.declared.status.Status.{Status}
use Rattle.ipam_commands.specs.declared.status.Status.TheVariants as status
pub use Rattle.ipam_keeper.specs.Keeping.{keeper_line}

-- ---- what is written

-- a command that ends so has something to write
abbrev pub IsSaid : Status → Type 0
IsSaid status.NoMemory = ⊥
IsSaid _ = Unit {0}

-- what a command that ends so writes takes memory to be made; the line for unknown words, or for a fault of
-- the source or of the keeper, does not
abbrev pub IsMade : Status → Type 0
IsMade status.UnknownWords = ⊥
IsMade status.ReadFault = ⊥
IsMade status.KeeperFault = ⊥
IsMade _ = Unit {0}

-- What a sink took of the text that a command ends with, what its count of faults came to, and the
-- status: all of it, with the text's own status; or a front part, since the sink failed; or nothing,
-- since there was no memory.
pub data Writes (old new : Option (List ℕ)) (faults faults' : ℕ) (text : List ℕ) (own : Status) : Status → Type 0 where
  Whole : new ≡ append_known old text → faults' ≡ faults → Writes old new faults faults' text own own
  Cut : IsSaid own → AppendsPrefix old new text → Rose faults faults' → Writes old new faults faults' text own status.WriteFault
  Untold : IsMade own → new ≡ old → faults' ≡ faults → Writes old new faults faults' text own status.NoMemory

-- ---- what is written of a keeper's rows

-- these are the rows, and they open as the datastore
pub record AreOpened (told : Option (List RowText)) (rows : List RowText) (store : Datastore) : Type 0 where
  pub loaded : IsTold told rows
  pub opens : OpensAs (texts_loaded rows) store

-- what was opened of these rows: the rows themselves, and the datastore that they open as
pub record IsLoadedAs (loaded : List RowText) (rows : List RowText) (store : Datastore) : Type 0 where
  pub same : rows ≡ loaded
  pub opens : OpensAs (texts_loaded loaded) store

-- the rows may not be opened: they break this rule first, and first at this key
pub record AreBroken (told : Option (List RowText)) (number : ℕ) (about : List ℕ) : Type 0 where
  pub rows : List RowText
  pub loaded : IsTold told rows
  pub refused : IsRefusedBy (texts_loaded rows) number about

-- why the rows were not opened, and what the keeper's count of faults came to
abbrev pub IsNotLoaded : (told : Option (List RowText)) (faults faults' : ℕ) → KeptFault → Type 0
IsNotLoaded told faults faults' Keeper = Rose faults faults'
IsNotLoaded told faults faults' (Refused number about) = AreBroken told number about × (faults' ≡ faults)
IsNotLoaded told faults faults' Memory = faults' ≡ faults

-- what is written where the rows were not opened
abbrev pub FaultWrites : (writes : List ℕ → Status → Type 0) → KeptFault → Type 0
FaultWrites writes Keeper = writes keeper_line status.KeeperFault
FaultWrites writes (Refused number about) = writes (broken_line number about) status.BrokenRows
FaultWrites writes Memory = writes [] status.NoMemory

-- How a command that says this of the rows ends: it says it; or the rows may not be opened; or the
-- keeper failed; or there was no memory. `writes` is what is so of the text and the status that it
-- ends with.
pub data ReportsRows (told : Option (List RowText)) (faults faults' : ℕ) (says : List RowText → Datastore → List ℕ) (writes : List ℕ → Status → Type 0) : Type 0 where
  Opened : (rows : List RowText) (store : Datastore) → AreOpened told rows store → faults' ≡ faults
      → writes (says rows store) status.Done → ReportsRows told faults faults' says writes
  NotOpened : (fault : KeptFault) → IsNotLoaded told faults faults' fault → FaultWrites writes fault
      → ReportsRows told faults faults' says writes
