-- What rows are opened as, or refused for.
use Rattle.std.specs.Prelude.{ℕ, List, Option, Some, None, Result, Ok, Err}
use Rattle.ipam_records.specs.declared.call.Row.{Row as RowText}
use Rattle.ipam_model.specs.Opened.{Texts, IsRefusedBy}
use Rattle.ipam_opening.specs.declared.fault.OpenFault.{OpenFault}
use Rattle.ipam_opening.specs.declared.fault.OpenFault.TheVariants.{Refused, Memory}

abbrev pub texts_with : List RowText → (counter : ℕ) → Texts
texts_with rows counter = record { rows = rows; counter = counter }

-- what a refusal says; want of memory may come at any time
abbrev pub IsFaultOf : Texts → OpenFault → Type 0
IsFaultOf texts (Refused number about) = IsRefusedBy texts number about
IsFaultOf texts Memory = Unit {0}

-- what a rule comes to, by the first key that was found to break it: the fault, and want of memory only
-- where there was none to find it
abbrev pub told : {E : Type 0} → (number : ℕ) → Result (Option (List ℕ)) E → Result (Unit {0}) OpenFault
told number (Ok None) = Ok tt
told number (Ok (Some about)) = Err (Refused number about)
told number (Err none) = Err Memory
