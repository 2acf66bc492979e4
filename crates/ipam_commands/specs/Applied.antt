-- How `apply` ends.
use Rattle.std.specs.Prelude.{◌≡◌, ◌≢◌, ℕ, List, codes, Option, Ok, Err}
use Rattle.ipam_io.specs.Counts.{Rose}
use Rattle.ipam_records.specs.declared.call.Row.{Row as RowText}
use Rattle.ipam_records.specs.Datastore.{Datastore}
use Rattle.ipam_shared.specs.declared.kept.KeptFault.{KeptFault}
use Rattle.ipam_resources.specs.declared.fault.DocumentFault.{DocumentFault}
use Rattle.ipam_resources.specs.declared.resource.Resource.{Resource}
use Rattle.ipam_resources.specs.Documents.{IsReadable, document_reading}
use Rattle.ipam_resources.specs.Printed.{HasFixedLine, fault_line}
use Rattle.ipam_commands.specs.declared.status.Status.{Status}
use Rattle.ipam_commands.specs.declared.status.Status.TheVariants as status
use Rattle.ipam_commands.specs.Telling.{AreOpened, FaultWrites, IsNotLoaded}
use Rattle.ipam_commands.specs.Applying.{RunEnds}
use Rattle.ipam_commands.specs.Inputs.{IsDocument}
use Rattle.ipam_keeper.specs.Outside.{Outside}
use Rattle.ipam_commands.specs.Outside.{IsUntold, EndsSaying}

abbrev pub read_line : List ℕ
read_line = codes "read fault\n"

-- How resources end over a keeper's rows: the rows are opened, and the resources are applied one after
-- another; or the rows are not opened, and stay.
pub data ResourcesEnd (resources : List Resource) (old new : Outside) (end : Status) : Type 0 where
  Opened : (rows : List RowText) (store : Datastore) → AreOpened old.rows rows store
      → RunEnds store resources old new end → ResourcesEnd resources old new end
  NotOpened : (fault : KeptFault) → IsNotLoaded old.rows old.keeper_faults new.keeper_faults fault → new.rows ≡ old.rows
      → FaultWrites (λ text own. EndsSaying old new text own end) fault → ResourcesEnd resources old new end

-- How a document ends. All of it is read first: a bad one is refused by its first fault, and nothing is
-- asked of the keeper. One that is too long or no text is refused whether or not there is memory, and a line
-- that is the same for each document takes none. `same`: the keeper is the same.
pub data DocumentEnds (same : Type 0) (document : List ℕ) (old new : Outside) (end : Status) : Type 0 where
  Good : (resources : List Resource) → document_reading document ≡ Ok resources
      → ResourcesEnd resources old new end → DocumentEnds same document old new end
  Bad : (fault : DocumentFault) → document_reading document ≡ Err fault → same
      → EndsSaying old new (fault_line fault) status.Refused end → (HasFixedLine fault → end ≢ status.NoMemory)
      → DocumentEnds same document old new end
  NoRoom : IsReadable document → same → IsUntold old new end → DocumentEnds same document old new end

-- How `apply` ends: with what the source's document comes to; or the source failed, or there was no
-- memory for the document, and nothing is asked of the keeper.
pub data ApplyEnds (same : Type 0) (old new : Outside) (end : Status) : Type 0 where
  Read : (document : List ℕ) → IsDocument old.left new.left document → new.read_faults ≡ old.read_faults
      → DocumentEnds same document old new end → ApplyEnds same old new end
  ReadFailed : Rose old.read_faults new.read_faults → same → EndsSaying old new read_line status.ReadFault end
      → ApplyEnds same old new end
  NoInput : new.read_faults ≡ old.read_faults → same → IsUntold old new end → ApplyEnds same old new end
