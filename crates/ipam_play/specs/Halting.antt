-- Why a script is not played on, and what was written then.
use Rattle.std.specs.Prelude.{◌≡◌, ℕ, List, [], ◌+◌, Option, Result, Ok, Err, ◌⊎◌}
use Rattle.ipam_io.specs.Counts.{Rose}
use Rattle.ipam_model.specs.declared.entry.Entry.{Entry}
use Rattle.ipam_play.specs.declared.fault.PlayFault.{PlayFault}
use Rattle.ipam_play.specs.declared.fault.PlayFault.TheVariants as fault
use Rattle.ipam_play.specs.declared.refusal.LineRefusal.TheVariants as refusal
use Rattle.ipam_play.specs.Played.{IsPlayed, LineRefused, NotOpened}
use Rattle.ipam_play.specs.Readings.{LineReading}
use Rattle.ipam_play.specs.Script.{Script, steps_from}
use Rattle.ipam_play.specs.declared.game.Game.{Game}
use Rattle.ipam_play.specs.declared.halt.Halt.{Halt}
use Rattle.ipam_play.specs.declared.halt.Halt.TheVariants as halt
use Rattle.ipam_play.specs.Outcome.{IsGatheringOn, IsPlayingOn, IsToCome}
use Rattle.ipam_play.specs.Writing.{WritesFront, WritesPart, Wrote, held_in}

abbrev pub halt_of : PlayFault → Halt
halt_of fault.Base = halt.Refused refusal.Base
halt_of fault.Busy = halt.Refused refusal.Busy
halt_of fault.Idle = halt.Refused refusal.Idle
halt_of fault.Waiting = halt.Refused refusal.Waiting
halt_of fault.NotWaiting = halt.Refused refusal.NotWaiting
halt_of fault.TooSoon = halt.Refused refusal.TooSoon
halt_of fault.Worn = halt.Refused refusal.Worn
halt_of (fault.Open rule about) = halt.NotOpened rule about
halt_of fault.Memory = halt.Memory

-- ---- where a game stands

-- the lines that it holds
abbrev pub held_by : Game → List ℕ
held_by game = held_in game.output

-- the rest of the script is to come, and what came before was written or is held
pub record IsAt (script : Script) (first now : Option (List ℕ)) (game : Game) (rest : Script) : Type 0 where
  pub past : List Entry
  pub wrote : Wrote first now (held_by game) past
  pub to_come : IsToCome script game.player past rest

-- the base was opened, the rest of the script is to come, and what came before was
-- written or is held
pub record IsGoing (script : Script) (first now : Option (List ℕ)) (game : Game) (rest : Script) : Type 0 where
  pub past : List Entry
  pub wrote : Wrote first now (held_by game) past
  pub playing : IsPlayingOn script game.player past rest

-- the base is gathered, and the lines from this number on are to come
pub record IsBefore (script : Script) (first now : Option (List ℕ)) (game : Game) (number : ℕ) (more : List LineReading) : Type 0 where
  pub wrote : Wrote first now (held_by game) []
  pub gathering : IsGatheringOn script game.player number more

-- ---- how it ends

abbrev pub IsHalted : Halt → Script → (first now : Option (List ℕ)) → Game → (number : ℕ) → Type 0
IsHalted (halt.Refused why) script first now game number =
    (past : List Entry) × (Wrote first now (held_by game) past × IsPlayed script past (LineRefused number why))
IsHalted (halt.NotOpened rule about) script first now game number =
    (past : List Entry) × (Wrote first now (held_by game) past × IsPlayed script past (NotOpened rule about))
IsHalted halt.Write script first now game number = WritesPart script first now
IsHalted halt.Memory script first now game number = WritesFront script first now []

-- the count of faults rose where a write failed, and else stays
abbrev pub CountsWrites : {T : Type 0} → Result T Halt → (old new : ℕ) → Type 0
CountsWrites (Ok done) old new = new ≡ old
CountsWrites (Err halt.Write) old new = Rose old new
CountsWrites (Err (halt.Refused why)) old new = new ≡ old
CountsWrites (Err (halt.NotOpened rule about)) old new = new ≡ old
CountsWrites (Err halt.Memory) old new = new ≡ old

-- the game is there, or it was halted at the line of this number
abbrev pub IsAtOr : {T : Type 0} → Result T Halt → Script → (first now : Option (List ℕ)) → Game → (number : ℕ) → (rest : Script) → Type 0
IsAtOr (Ok done) script first now game number rest = IsGoing script first now game rest
IsAtOr (Err why) script first now game number rest = IsHalted why script first now game number

-- the next line of the base is to come, or it was halted
abbrev pub IsBeforeOr : {T : Type 0} → Result T Halt → Script → (first now : Option (List ℕ)) → Game → (number : ℕ) → List LineReading → Type 0
IsBeforeOr (Ok done) script first now game number more = IsBefore script first now game (number + 1) more
IsBeforeOr (Err why) script first now game number more = IsHalted why script first now game number

-- the lines from this number on are to come
abbrev pub IsOn : (script : Script) (first now : Option (List ℕ)) → Game → (number : ℕ) → List LineReading → Type 0
IsOn script first now game number more =
    IsBefore script first now game number more ⊎ IsGoing script first now game (steps_from number script.base more)

abbrev pub IsOnOr : {T : Type 0} → Result T Halt → (script : Script) (first now : Option (List ℕ)) → Game → (number : ℕ) → List LineReading → Type 0
IsOnOr (Ok done) script first now game number more = IsOn script first now game (number + 1) more
IsOnOr (Err why) script first now game number more = IsHalted why script first now game number

-- a line of the base comes too late
abbrev pub IsLate : {T : Type 0} → Result T Halt → (script : Script) (first now : Option (List ℕ)) → Game → (number : ℕ) → Type 0
IsLate (Ok done) script first now game number = ⊥
IsLate (Err why) script first now game number = IsHalted why script first now game number
