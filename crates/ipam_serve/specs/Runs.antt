-- What a session's slot does by turns after passes of a gate.
use Rattle.std.specs.Prelude.{◌≡◌, ◌⊎◌, ℕ, true, false, List, Option, Some, None}
use Rattle.ipam_model.specs.declared.answer.Answer.{Answer}
use Rattle.ipam_model.specs.declared.entry.Entry.{Entry}
use Rattle.ipam_model.specs.Cluster.{RunningRequest}
use Rattle.ipam_shared.specs.PassValue.{PassValue}
use Rattle.ipam_shared.specs.Passes.{runs_in}
use Rattle.ipam_serve.specs.Gains.{Passed, TookTurns, is_early, is_waiting}
use Rattle.ipam_serve.specs.Spans.{Deed, Did, DidPart, Feeds, Nothing, Reaches}

-- nothing runs, or a collection waits
abbrev pub IsAtRest : Option RunningRequest → Type 0
IsAtRest runs = (runs ≡ None) ⊎ (is_waiting runs ≡ true)

-- What a session takes turns with: its pass, and how often its gate was passed at a turn, where the
-- gate counts that.
pub record Taker : Type 0 where
  pub pass : PassValue
  pub turns : Option ℕ

-- what runs made calls, up to this answer or with none so far
pub record WentOn (old : Taker) (answer : Option Answer) (spared : ℕ) (new : Taker) : Type 0 where
  pub calls : List Entry
  pub reaches : Reaches old.pass.slot answer calls
  pub took : TookTurns old.pass calls spared new.pass
  pub passed : Passed calls old.turns new.turns

-- this was done in the slot, with this answer or with none yet
pub record DoesDeed (old : Taker) (deed : Deed) (answer : Option Answer) (spared : ℕ) (new : Taker) : Type 0 where
  pub entries : List Entry
  pub did : Did old.pass.slot deed answer entries
  pub took : TookTurns old.pass entries spared new.pass
  pub passed : Passed entries old.turns new.turns

-- this was done as far as it came
pub record DoesPart (old : Taker) (deed : Deed) (spared : ℕ) (new : Taker) : Type 0 where
  pub entries : List Entry
  pub did : DidPart old.pass.slot deed entries
  pub took : TookTurns old.pass entries spared new.pass
  pub passed : Passed entries old.turns new.turns

-- a second list came too early, and the collection waits as before; or it was fed, and this answered
abbrev pub FeedsList : Taker → (live : List (List ℕ)) (at : ℕ) → Option Answer → Taker → Type 0
FeedsList old live at None new =
    (is_early (runs_in old.pass) at ≡ true) × (is_waiting (runs_in new.pass) ≡ true) × DoesDeed old Nothing None 1 new
FeedsList old live at (Some told) new =
    (is_early (runs_in old.pass) at ≡ false) × (runs_in new.pass ≡ None) × DoesDeed old (Feeds live at) (Some told) 0 new
