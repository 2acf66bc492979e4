-- How a fault of loading or opening rows becomes one of a kept cluster.
use Rattle.std.specs.Prelude.{◌≡◌, List, Result, Ok, Err}
use Rattle.std.specs.Global.{Vec}
use Rattle.ipam_records.specs.declared.call.Row.{Row as RowText}
use Rattle.ipam_keeper.specs.declared.keeper.KeepFault.{KeepFault}
use Rattle.ipam_keeper.specs.declared.keeper.KeepFault.TheVariants as keeping
use Rattle.ipam_opening.specs.declared.fault.OpenFault.{OpenFault}
use Rattle.ipam_opening.specs.declared.fault.OpenFault.TheVariants as opening
use Rattle.ipam_opening.specs.Opening.{IsFaultOf}
use Rattle.ipam_shared.specs.declared.kept.KeptFault.{KeptFault}
use Rattle.ipam_shared.specs.declared.kept.KeptFault.TheVariants.{Keeper, Refused, Memory}
use Rattle.ipam_shared.specs.Rows.{texts_loaded}

abbrev pub not_loaded : KeepFault → KeptFault
not_loaded keeping.Failed = Keeper
not_loaded keeping.Memory = Memory

abbrev pub not_opened : OpenFault → KeptFault
not_opened (opening.Refused number about) = Refused number about
not_opened opening.Memory = Memory

-- What becomes of rows that were loaded: they are opened, or the fault is that of the opening; and where they
-- were not loaded, it is that of the loading.
abbrev pub IsOpening : {O : Type 0} → (opens : List RowText → O → Type 0) → (refuses : List RowText → OpenFault → Type 0) → Result (Vec RowText) KeepFault → Result O KeptFault → Type 0
IsOpening opens refuses (Ok rows) (Ok opened) = opens rows.items opened
IsOpening opens refuses (Ok rows) (Err fault) = (why : OpenFault) × refuses rows.items why × (fault ≡ not_opened why)
IsOpening opens refuses (Err why) (Ok opened) = ⊥
IsOpening opens refuses (Err why) (Err fault) = fault ≡ not_loaded why

-- Why rows were not opened: the fault is theirs, and want of memory comes only with what is so where none was found.
abbrev pub IsWhyNot : (wants : Type 0) → List RowText → OpenFault → Type 0
IsWhyNot wants rows fault = IsFaultOf (texts_loaded rows) fault × ((fault ≡ opening.Memory) → wants)
