-- The course of the generator's events. Histories have the newest entry first.
use Rattle.std.specs.Prelude.{◌≡◌, ℕ, ◌+◌, ◌<◌, List, [], ◌∷◌, Option, Some, None, Ok}
use Rattle.ipam_model.specs.declared.entry.Entry.{Entry}
use Rattle.ipam_model.specs.declared.entry.Fate.TheVariants.{Well}
use Rattle.ipam_model.specs.declared.request.Request.TheVariants.{Collect}
use Rattle.ipam_model.specs.Cluster.{RunningRequest}
use Rattle.ipam_model.specs.Course.{Event, Begin, Turn, Feed, entries_of}
use Rattle.ipam_model.specs.History.{Lawful, cluster_at}
use Rattle.ipam_command.specs.Draws.{draw, next_state}
use Rattle.ipam_command.specs.Requests.{base, collection, live_below, request_of}

-- after this history the event makes this entry
abbrev pub Makes : List Entry → Event → Entry → Type 0
Makes history event made = entries_of (cluster_at base history) event ≡ Ok (made ∷ [])

-- what runs in the slot after this history
abbrev pub slot_at : List Entry → (slot : ℕ) → Option RunningRequest
slot_at history slot = (cluster_at base history).slots slot

-- ---- the draws

-- the slot that is drawn from this state
abbrev pub slot_drawn : (x : ℕ) → ℕ
slot_drawn x = draw 8 x

-- By these draws the generator has come to the state x, has begun so many of its requests, and this
-- has happened. A slot is drawn while not all are begun: one that is busy takes a turn, and in one that
-- is idle the next request begins, which is drawn from the state after that draw.
pub data IsDrawn (count : ℕ) : (x begun : ℕ) → List Entry → Type 0 where
  NothingDrawn : IsDrawn count 1 0 []
  TurnDrawn : (x begun : ℕ) (history : List Entry) (running : RunningRequest) (made : Entry)
      → IsDrawn count x begun history → begun < count → slot_at history (slot_drawn x) ≡ Some running
      → Makes history (Turn (slot_drawn x) Well) made → IsDrawn count (next_state x) begun (made ∷ history)
  RequestDrawn : (x begun : ℕ) (history : List Entry) (made : Entry)
      → IsDrawn count x begun history → begun < count → slot_at history (slot_drawn x) ≡ None
      → Makes history (Begin (slot_drawn x) (request_of begun (next_state x))) made
      → IsDrawn count (next_state (next_state x)) (begun + 1) (made ∷ history)

-- ---- the slots run to their ends

-- the second history is the first with turns of the slot
pub data TakesTurns (slot : ℕ) (before : List Entry) : List Entry → Type 0 where
  NoTurn : TakesTurns slot before before
  OneTurn : (history : List Entry) (made : Entry) → TakesTurns slot before history
      → Makes history (Turn slot Well) made → TakesTurns slot before (made ∷ history)

-- the slot takes turns until nothing runs there
pub record RunsOut (slot : ℕ) (before after : List Entry) : Type 0 where
  pub turns : TakesTurns slot before after
  pub ended : slot_at after slot ≡ None

-- the slots below this number run to their ends, one after the other
pub data AreRunOut (before : List Entry) : (slots : ℕ) → List Entry → Type 0 where
  NoSlot : AreRunOut before 0 before
  OneSlot : (slot : ℕ) (history after : List Entry) → AreRunOut before slot history
      → RunsOut slot history after → AreRunOut before (slot + 1) after

-- ---- the collection

-- slot 0 takes turns, and is fed this list, made at the time 0, where it waits
pub data Collects (live : List (List ℕ)) (before : List Entry) : List Entry → Type 0 where
  NothingCollected : Collects live before before
  TurnTaken : (history : List Entry) (made : Entry) → Collects live before history
      → Makes history (Turn 0 Well) made → Collects live before (made ∷ history)
  ListFed : (history : List Entry) (made : Entry) → Collects live before history
      → Makes history (Feed 0 0 live) made → Collects live before (made ∷ history)

-- the collection begins in slot 0, and runs to its end
pub record IsGeneratedCollection (count : ℕ) (before after : List Entry) : Type 0 where
  pub made : Entry
  pub begins : Makes before (Begin 0 (Collect (collection count))) made
  pub collects : Collects (live_below count) (made ∷ before) after
  pub ended : slot_at after 0 ≡ None

-- ---- all of it

-- So many requests are drawn and run, after the first history of which each has its answer; and then
-- the collection runs, after the second.
pub record IsGenerated (count : ℕ) (answered whole : List Entry) : Type 0 where
  pub x : ℕ
  pub drawn : List Entry
  pub draws : IsDrawn count x count drawn
  pub runs_out : AreRunOut drawn 8 answered
  pub collected : IsGeneratedCollection count answered whole
  pub lawful : Lawful base whole
