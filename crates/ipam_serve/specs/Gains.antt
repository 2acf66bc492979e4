-- What a pass gains by turns, and how often the gate was passed before them.
use Rattle.std.specs.Prelude.{◌≡◌, ◌⊎◌, ℕ, zero, suc, ◌+◌, ◌<◌, ◌≤◌, ◌==◌, Bool, false, not, List, [], ◌∷◌, ◌++◌, length, Option, Some, None, option_map, if◌then◌else◌}
use Rattle.ipam_io.specs.Counts.{next_count}
use Rattle.ipam_records.specs.Word.{waits}
use Rattle.ipam_model.specs.declared.answer.Answer.{Answer}
use Rattle.ipam_model.specs.declared.entry.Entry.{Entry}
use Rattle.ipam_model.specs.declared.entry.Entry.TheVariants as entry
use Rattle.ipam_model.specs.declared.request.Request.{Request}
use Rattle.ipam_model.specs.Cluster.{RunningRequest}
use Rattle.ipam_model.specs.Course.{is_due}
use Rattle.ipam_model.specs.History.{moment_of, slot_of_entry}
use Rattle.ipam_shared.specs.PassValue.{PassValue}
use Rattle.ipam_shared.specs.Passes.{IsSamePass, runs_in}

-- ---- what runs

-- the request that runs, if one does
abbrev pub request_running : Option RunningRequest → Option Request
request_running runs = option_map (λ (running : RunningRequest). running.request) runs

-- a collection waits for its second list
abbrev pub is_waiting : Option RunningRequest → Bool
is_waiting None = false
is_waiting (Some running) = waits running.word

-- a second list that is made at this time comes before the grace is over
abbrev pub is_early : Option RunningRequest → (at : ℕ) → Bool
is_early None at = false
is_early (Some running) at = not (is_due running.request at)

abbrev pub unless_answered : Option Answer → Option Request → Option Request
unless_answered None asked = asked
unless_answered (Some told) asked = None

-- the request that runs after these entries of a slot, the newest first
unfoldable pub asked_after : Option Request → List Entry → Option Request
asked_after asked [] = asked
asked_after asked (entry.Began slot request ∷ earlier) = Some request
asked_after asked (entry.Fed slot at live ∷ earlier) = asked_after asked earlier
asked_after asked (entry.Called c ∷ earlier) = unless_answered c.answer (asked_after asked earlier)
asked_after asked (entry.Stopped slot ∷ earlier) = None

-- ---- turns

-- the entries of the slot, the newest first
unfoldable pub of_slot : ℕ → List Entry → List Entry
of_slot slot [] = []
of_slot slot (new ∷ history) = if slot_of_entry new == slot then new ∷ of_slot slot history else of_slot slot history

-- the later history has more entries, and of the slot these, the newest first
pub record Gained (slot : ℕ) (earlier entries later : List Entry) : Type 0 where
  pub more : List Entry
  pub grew : later ≡ more ++ earlier
  pub own : of_slot slot more ≡ entries

-- The pass took turns, by which its slot gained these entries, the newest first. No more than so many
-- turns were spared an entry, and none was taken with less than two turns left. It knows no more to be sure
-- than before; and it took no turn, or the last one told it of all that it has seen.
pub record TookTurns (old : PassValue) (entries : List Entry) (spared : ℕ) (new : PassValue) : Type 0 where
  pub same : IsSamePass old new
  pub gained : Gained old.slot old.seen entries new.seen
  pub runs : request_running (runs_in new) ≡ asked_after (request_running (runs_in old)) entries
  pub at_least : new.left + length entries ≤ old.left
  pub at_most : old.left ≤ new.left + length entries + spared
  pub one_stays : 0 < old.left → 0 < new.left
  pub sure : new.sure ≡ old.sure
  pub told : (new ≡ old) ⊎ (new.moment ≡ moment_of new.base new.seen)

-- it took turns, of which no more than so many were spared an entry
pub record Spends (spared : ℕ) (old new : PassValue) : Type 0 where
  pub entries : List Entry
  pub took : TookTurns old entries spared new

-- The pass took at most one turn, in which it made sure of all that it had learned. Its slot gained
-- nothing.
pub record Settles (old new : PassValue) : Type 0 where
  pub same : IsSamePass old new
  pub gained : Gained old.slot old.seen [] new.seen
  pub runs : runs_in new ≡ runs_in old
  pub at_least : new.left ≤ old.left
  pub at_most : old.left ≤ new.left + 1
  pub one_stays : 0 < old.left → 0 < new.left
  pub moment : new.moment ≡ old.moment

-- ---- the gate

-- how many of the entries are calls
unfoldable pub calls_in : List Entry → ℕ
calls_in [] = 0
calls_in (entry.Began slot request ∷ earlier) = calls_in earlier
calls_in (entry.Fed slot at live ∷ earlier) = calls_in earlier
calls_in (entry.Called c ∷ earlier) = suc (calls_in earlier)
calls_in (entry.Stopped slot ∷ earlier) = calls_in earlier

-- the count after so many more of what it counts
unfoldable pub counted : (more : ℕ) → ℕ → ℕ
counted zero count = count
counted (suc more) count = next_count (counted more count)

-- the gate was passed at a turn at least once for each call, where it counts its passes
pub record Passed (entries : List Entry) (old new : Option ℕ) : Type 0 where
  pub passes : ℕ
  pub enough : calls_in entries ≤ passes
  pub counts : new ≡ option_map (counted passes) old
