-- What a keeper answers of a step that did not end well.
use Rattle.std.specs.Prelude.{Result, Ok, Err}
use Rattle.ipam_keeper.specs.declared.keeper.KeepFault.{KeepFault}
use Rattle.ipam_keeper.specs.declared.keeper.KeepFault.TheVariants as kept
use Rattle.ipam_table.specs.declared.fault.TableFault.{TableFault}
use Rattle.ipam_table.specs.declared.fault.TableFault.TheVariants as table
use Rattle.ipam_sqlite.specs.declared.fault.StorageFault.{StorageFault}
use Rattle.ipam_sqlite.specs.declared.fault.Trouble.{Trouble}
use Rattle.ipam_sqlite.specs.declared.fault.Trouble.TheVariants.{Memory, Fault}

-- want of memory stays want of memory, and every other cause is a failure
abbrev pub answer_of : {T : Type 0} → Result T Trouble → Result T KeepFault
answer_of (Ok value) = Ok value
answer_of (Err Memory) = Err kept.Memory
answer_of (Err (Fault cause)) = Err kept.Failed

-- the fault of a step, as the keeper over the table has it
abbrev pub fault_of : Trouble → TableFault StorageFault
fault_of Memory = table.Memory
fault_of (Fault cause) = table.Failed cause
