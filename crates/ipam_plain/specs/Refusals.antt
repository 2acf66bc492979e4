-- Events that a slot refuses.
use Rattle.std.specs.Prelude.{[], ◌∷◌, codes}
use Rattle.ipam_model.specs.declared.entry.Entry.TheVariants as entry
use Rattle.ipam_model.specs.declared.entry.Fate.TheVariants.{Well}
use Rattle.ipam_model.specs.Course.{Begin, Turn, Stop, Idle, Busy}
use Rattle.ipam_plain.specs.Setting.{base_of, add, stops}

abbrev pub CallOfIdle : Type 0
CallOfIdle = stops (base_of [] 0) (Turn 0 Well ∷ []) [] Idle

abbrev pub StopOfIdle : Type 0
StopOfIdle = stops (base_of [] 0) (Stop 0 ∷ []) [] Idle

-- of two beginnings in one slot the second is refused
abbrev pub BeginOfBusy : Type 0
BeginOfBusy = stops (base_of [] 0)
    (Begin 0 (add (codes "n.c1") (codes "a")) ∷ Begin 0 (add (codes "n.c2") (codes "a")) ∷ [])
    (entry.Began 0 (add (codes "n.c1") (codes "a")) ∷ [])
    Busy
