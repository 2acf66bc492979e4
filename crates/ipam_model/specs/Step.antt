-- What the parts of a request have in common: what is left of it, how a write ends, and how a part
-- does.
use Rattle.std.specs.Prelude.{ℕ, zero, suc, ◌+◌, ◌-◌}
use Rattle.ipam_records.specs.declared.call.Call.{Call}
use Rattle.ipam_records.specs.declared.call.Call.TheVariants.{Create, Update}
use Rattle.ipam_records.specs.declared.record.Record.{Record}
use Rattle.ipam_records.specs.Said.{Said, Found, Missing, Listed, Can, Exists, Conflict, Full, Spent}
use Rattle.ipam_records.specs.Word.{Word, Ends, bound}
use Rattle.ipam_model.specs.declared.limits.TheConstants.{LOST_RACES_MAX, CLAIMS_MAX}
use Rattle.ipam_model.specs.declared.part.Left.{Left}
use Rattle.ipam_model.specs.declared.part.Stop.{Stop}
use Rattle.ipam_model.specs.declared.part.Stop.TheVariants.{OutOfTries, OutOfClaims, NoRoom, CountAtLimit, NoRevisions}
use Rattle.ipam_model.specs.declared.part.Outcome.{Outcome}
use Rattle.ipam_model.specs.declared.part.Outcome.TheVariants.{Went, Stops}

-- ---- what is left

-- the lost race and the confirmed claim that end a request
abbrev pub most_lost : ℕ
most_lost = LOST_RACES_MAX

abbrev pub most_claims : ℕ
most_claims = CLAIMS_MAX

abbrev pub left_of : (races claims : ℕ) → Left
left_of races claims = record { races = races; claims = claims }

abbrev pub all_left : Left
all_left = left_of (most_lost - 1) (most_claims - 1)

-- how many races were lost, and how many claims confirmed
abbrev pub lost_so_far : Left → ℕ
lost_so_far left = all_left.races - left.races

abbrev pub confirmed_so_far : Left → ℕ
confirmed_so_far left = all_left.claims - left.claims

-- ---- how a write ends

-- the record is written at the revision at which it was read, and created where it was missing
abbrev pub write_back : Said → Record → Call
write_back (Found revision found) new = Update new revision
write_back _ new = Create new

-- what follows a write: where it took a revision; where a race was lost, since the record is there
-- already, has another revision or is missing; where there is no room; where there are no revisions
abbrev pub after_write : {A : Type 0} → Said → (took : ℕ → Word A) → (lost full spent : Word A) → Word A
after_write (Can revision) took lost full spent = took revision
after_write Missing took lost full spent = lost
after_write (Exists revision) took lost full spent = lost
after_write (Conflict revision) took lost full spent = lost
after_write Full took lost full spent = full
after_write Spent took lost full spent = spent
-- a write is answered in none of these ways
after_write (Found revision found) took lost full spent = lost
after_write (Listed rows) took lost full spent = lost

-- ---- how a part ends

-- a part of a request
abbrev pub Part : Type 0 → Type 0
Part A = Word (Outcome A)

abbrev pub goes : {A : Type 0} → Left → A → Part A
goes left value = Ends (Went left value)

abbrev pub stops : {A : Type 0} → Left → Stop → Part A
stops left why = Ends (Stops left why)

-- what follows what a part came to; where it stopped, nothing does
abbrev pub onward : {A B : Type 0} → (Left → A → Part B) → Outcome A → Part B
onward follows (Went left value) = follows left value
onward follows (Stops left why) = stops left why

-- one part after another
abbrev pub part_then : {A B : Type 0} → Part A → (Left → A → Part B) → Part B
part_then part follows = bound part (onward follows)

-- what follows a write in a part
abbrev pub on_write : {A : Type 0} → Said → Left → (took : ℕ → Part A) → (lost : Part A) → Part A
on_write said left took lost = after_write said took lost (stops left NoRoom) (stops left NoRevisions)

-- ---- lost races

-- what follows a lost race with one less left, where it was not the last
abbrev pub after_lost : {A : Type 0} → (races claims : ℕ) → (on : Left → Part A) → Part A
after_lost zero claims on = stops (left_of zero claims) OutOfTries
after_lost (suc races) claims on = on (left_of races claims)

-- A part that begins again where it loses a race. Each try is given what then follows, and what is left.
unfoldable pub tries : {A : Type 0} → (try : Part A → Left → Part A) → (races claims : ℕ) → Part A
tries try zero claims = try (stops (left_of zero claims) OutOfTries) (left_of zero claims)
tries try (suc races) claims = try (tries try races claims) (left_of (suc races) claims)

abbrev pub with_retries : {A : Type 0} → (try : Part A → Left → Part A) → Left → Part A
with_retries try left = tries try left.races left.claims

-- Rounds, of which each but the first follows a lost race or a confirmed claim. So with this many more
-- that may be lost or confirmed there are as many more rounds. Each is given the next, and what is left.
unfoldable pub rounds : {A : Type 0} → (round : (Left → Part A) → Left → Part A) → (more : ℕ) → Left → Part A
rounds round zero left = round (λ now. stops now OutOfTries) left
rounds round (suc more) left = round (rounds round more) left

abbrev pub in_rounds : {A : Type 0} → (round : (Left → Part A) → Left → Part A) → Left → Part A
in_rounds round left = rounds round (left.races + left.claims) left

-- ---- what a stop is answered

-- the answers of a procedure where it stops
pub record StopAnswers (A : Type 0) : Type 0 where
  pub again : (lost claims : ℕ) → A
  pub full : A
  pub count_full : (moment : ℕ) → A
  pub spent : A

abbrev pub stop_answer : {A : Type 0} → StopAnswers A → Left → Stop → A
stop_answer answers left OutOfTries = answers.again most_lost (confirmed_so_far left)
stop_answer answers left OutOfClaims = answers.again (lost_so_far left) most_claims
stop_answer answers left NoRoom = answers.full
stop_answer answers left (CountAtLimit moment) = answers.count_full moment
stop_answer answers left NoRevisions = answers.spent

-- the answers of a procedure that raises no count, where it stops
abbrev pub without_count : {A : Type 0} → (again : ℕ → A) → (full spent : A) → StopAnswers A
without_count again full spent = record {
  again = λ lost claims. again lost;
  full = full;
  count_full = λ moment. full;
  spent = spent;
}

abbrev pub answer_of : {A : Type 0} → StopAnswers A → Outcome A → A
answer_of answers (Went left answer) = answer
answer_of answers (Stops left why) = stop_answer answers left why

-- a procedure that is one part
abbrev pub as_word : {A : Type 0} → StopAnswers A → Part A → Word A
as_word answers part = bound part (λ outcome. Ends (answer_of answers outcome))
