-- A kept cluster stays one.
use Rattle.std.proofs.Common.{◌∷◌, Option, Some, None, Result, Ok, Err, IfOk, IfSome, IfNone, OnErr}
use Rattle.ipam_model.specs.declared.entry.Entry.{Entry}
use Rattle.ipam_shared.specs.declared.kept.Kept.{Kept}
use Rattle.ipam_shared.specs.Kept.{IsKept, KeepsWith, Stays, Tells}
use Rattle.ipam_shared.proofs.Standing.{kept-over}

pub kept-after : {D E : Type 0} (tells : Tells D) (old new : Kept D) (answer : Result Entry E)
    → IfOk answer (KeepsWith tells old new) → OnErr answer (Stays tells old new) → IsKept tells old → IsKept tells new
kept-after tells old new (Ok told) keeps stays kept = (kept.0, (told ∷ kept.1.0, keeps kept.0 kept.1.0 kept.1.1))
kept-after tells old new (Err fault) keeps stays kept = kept-over tells old new stays kept

pub kept-after-stop : {D : Type 0} (tells : Tells D) (old new : Kept D) (answer : Option Entry)
    → IfSome answer (KeepsWith tells old new) → IfNone answer (Stays tells old new) → IsKept tells old → IsKept tells new
kept-after-stop tells old new (Some told) keeps stays kept = (kept.0, (told ∷ kept.1.0, keeps kept.0 kept.1.0 kept.1.1))
kept-after-stop tells old new None keeps stays kept = kept-over tells old new stays kept
