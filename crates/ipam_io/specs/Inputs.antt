-- What comes of reading a source as a whole.
use Rattle.std.specs.Prelude.{⊤, Result, Ok, Err}
use Rattle.ipam_io.specs.declared.input.InputFault.{InputFault}
use Rattle.ipam_io.specs.declared.input.InputFault.TheVariants.{Read, Memory}

-- a fact where a read failed
abbrev pub OnReadFault : {T : Type 0} → Result T InputFault → Type 0 → Type 0
OnReadFault (Ok value) p = ⊤
OnReadFault (Err Read) p = p
OnReadFault (Err Memory) p = ⊤

-- a fact where no read failed
abbrev pub OnNoReadFault : {T : Type 0} → Result T InputFault → Type 0 → Type 0
OnNoReadFault (Ok value) p = p
OnNoReadFault (Err Read) p = ⊤
OnNoReadFault (Err Memory) p = p
