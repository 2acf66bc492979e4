-- The slots of a cluster.
use Rattle.std.specs.Prelude.{◌≡◌, ℕ, List, Option, Some, None, IsTrue, slice_index_or, slice_set}
use Rattle.ipam_records.specs.Word.{Word, waits}
use Rattle.ipam_model.specs.declared.answer.Answer.{Answer}
use Rattle.ipam_cluster.specs.declared.running.Running.{Running}
use Rattle.ipam_cluster.specs.declared.running.RunningTurned.{RunningTurned}
use Rattle.ipam_cluster.specs.Running.{running_rest, running_grace, FitsRunning, is_over}

-- what runs in a slot; nothing in one that is not there
abbrev pub slot_in : List (Option Running) → ℕ → Option Running
slot_in slots slot = slice_index_or slots slot None

-- it has this word now and the same times, and the other slots are as they were
pub record RunsOn (old new : List (Option Running)) (slot : ℕ) (was : Running) (left : Word Answer) : Type 0 where
  pub running : Running
  pub slots : new ≡ slice_set old slot (Some running)
  pub word : running_rest running ≡ left
  pub grace : running_grace running ≡ running_grace was

-- something runs there that may go so
abbrev pub MayGo : Option Running → RunningTurned → Type 0
MayGo None turned = ⊥
MayGo (Some running) turned = FitsRunning running turned

-- a collection waits there, and a second list that was made at this time is late enough
abbrev pub IsDue : Option Running → (at : ℕ) → Type 0
IsDue None at = ⊥
IsDue (Some running) at = IsTrue (waits (running_rest running)) × IsTrue (is_over (running_grace running) at)
