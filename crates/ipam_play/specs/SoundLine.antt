-- Which lines are sound: those that can be read from some text.
use Rattle.std.specs.Prelude.{◌<◌, ◌≤◌, ⊤}
use Rattle.std.specs.List.{All}
use Rattle.ipam_records.specs.Sound.{IsHandleId}
use Rattle.ipam_model.specs.Course.{slot_count}
use Rattle.ipam_model.specs.SoundRequest.{IsSoundRequest}
use Rattle.ipam_answer_text.specs.declared.line.Line.{Line}
use Rattle.ipam_answer_text.specs.declared.line.Line.TheVariants.{Row, Counter, Begin, Turn, Fail, Lose, Feed, Stop, Restart}

-- the slot is there, and what is given is sound
abbrev pub IsSoundLine : Line → Type 0
IsSoundLine (Row row) = ⊤
IsSoundLine (Counter counter) = ⊤
IsSoundLine (Begin slot request) = (slot < slot_count) × IsSoundRequest request
IsSoundLine (Turn slot count) = (slot < slot_count) × (1 ≤ count)
IsSoundLine (Fail slot) = slot < slot_count
IsSoundLine (Lose slot) = slot < slot_count
IsSoundLine (Feed slot at live) = (slot < slot_count) × All IsHandleId live
IsSoundLine (Stop slot) = slot < slot_count
IsSoundLine Restart = ⊤
