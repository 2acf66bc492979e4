-- A keeper whose file was refused.
use Rattle.std.specs.Prelude.{◌≡◌, ⊤, Result, Err}
use Rattle.ipam_keeper.specs.declared.keeper.KeepFault.TheVariants as kept
use Rattle.ipam_sqlite.specs.declared.fault.Trouble.{Trouble}
use Rattle.ipam_sqlite.specs.declared.lazy.State.{State}
use Rattle.ipam_sqlite.specs.declared.lazy.State.TheVariants.{Closed, Open, Copied, Refused}
use Rattle.ipam_sqlite.specs.Answers.{answer_of}

-- its opening failed, or its file is gone
abbrev pub IsRefused : State → Type 0
IsRefused Closed = ⊥
IsRefused (Open opened) = ⊥
IsRefused Copied = ⊥
IsRefused (Refused fault) = ⊤

-- a step over it failed, and left it refused
abbrev pub AnswersRefused : {T : Type 0} → Result T Trouble → State → Type 0
AnswersRefused result state = (answer_of result ≡ Err kept.Failed) × IsRefused state
