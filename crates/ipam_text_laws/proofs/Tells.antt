-- Words that call by sound names and end with sound answers, whatever sound replies they hear.
use Rattle.std.proofs.Common.{ℕ, zero, suc, ◌-◌, List, Option, Some, None, arith}
use Rattle.std.specs.List.{AllByRecursion}
use Rattle.ipam_block.specs.Sound.{IsBlockRecord}
use Rattle.ipam_block.specs.declared.record.Affinity.{Affinity}
use Rattle.ipam_records.specs.declared.record.Record.{Record}
use Rattle.ipam_records.specs.declared.record.Record.TheVariants as record_of
use Rattle.ipam_records.specs.Key.{key_of}
use Rattle.ipam_records.specs.KeyText.{IsKey}
use Rattle.ipam_records.specs.Said.{Said, Found, Missing, Listed, Can, Exists, Conflict, Full, Spent}
use Rattle.ipam_records.specs.Sound.{IsHandleId, IsRecord}
use Rattle.ipam_records.specs.Word.{Word, Ends, Asks, Waits, bound}
use Rattle.ipam_model.specs.declared.part.Left.{Left}
use Rattle.ipam_model.specs.declared.part.Outcome.{Outcome}
use Rattle.ipam_model.specs.declared.part.Outcome.TheVariants.{Went, Stops}
use Rattle.ipam_model.specs.declared.part.Stop.{Stop}
use Rattle.ipam_model.specs.declared.part.Stop.TheVariants.{OutOfTries, OutOfClaims, NoRoom, NoRevisions, CountAtLimit}
use Rattle.ipam_model.specs.Affinities.{BlockRead}
use Rattle.ipam_model.specs.Named.{name_of}
use Rattle.ipam_model.specs.Reads.{StoredRecord, handle_said, block_said, affinity_said, rows_said}
use Rattle.ipam_model.specs.Step.{most_lost, most_claims, lost_so_far, confirmed_so_far, left_of, Part, StopAnswers, stop_answer, answer_of, stops, tries, rounds, as_word, after_write, on_write, onward, part_then, write_back}
use Rattle.ipam_text_laws.specs.Answers.{FitsIn64}
use Rattle.ipam_text_laws.specs.Limits.{IsSoundName}

-- ---- replies

abbrev pub IsSoundRow : StoredRecord → Type 0
IsSoundRow row = IsRecord row.1 × FitsIn64 row.0

-- every record that is told of is sound, and every revision fits 64 bits
abbrev pub IsSoundSaid : Said → Type 0
IsSoundSaid (Found revision found) = IsRecord found × FitsIn64 revision
IsSoundSaid Missing = Unit {0}
IsSoundSaid (Listed rows) = AllByRecursion IsSoundRow rows
IsSoundSaid (Can revision) = FitsIn64 revision
IsSoundSaid (Exists revision) = FitsIn64 revision
IsSoundSaid (Conflict revision) = FitsIn64 revision
IsSoundSaid Full = Unit {0}
IsSoundSaid Spent = Unit {0}

-- ---- words

-- each call has a sound name, and the answer has this, whatever sound replies are heard at whatever
-- moments that fit 64 bits
abbrev pub Tells : {A : Type 0} → (A → Type 0) → Word A → Type 0
Tells P (Ends answer) = P answer
Tells P (Asks label asked next) =
    IsSoundName (name_of asked) × ((moment : ℕ) (said : Said) → FitsIn64 moment → IsSoundSaid said → Tells P (next moment said))
Tells P (Waits next) = (live : List (List ℕ)) → Tells P (next live)

-- whatever it is
abbrev pub Any : {A : Type 0} → A → Type 0
Any a = Unit {0}

abbrev pub IsSoundStop : Stop → Type 0
IsSoundStop OutOfTries = Unit {0}
IsSoundStop OutOfClaims = Unit {0}
IsSoundStop NoRoom = Unit {0}
IsSoundStop (CountAtLimit moment) = FitsIn64 moment
IsSoundStop NoRevisions = Unit {0}

-- what a part came to has this, or it stopped for a sound cause
abbrev pub Comes : {A : Type 0} → (A → Type 0) → Outcome A → Type 0
Comes P (Went left value) = P value
Comes P (Stops left why) = IsSoundStop why

pub bound-tells : {A B : Type 0} → (P : A → Type 0) (Q : B → Type 0) (w : Word A) (follows : A → Word B) → Tells P w → ((a : A) → P a → Tells Q (follows a)) → Tells Q (bound w follows)
bound-tells P Q (Ends answer) follows h k = k answer h
bound-tells P Q (Asks label asked next) follows h k =
    (h.0, λ moment said fits told. bound-tells P Q (next moment said) follows (h.1 moment said fits told) k)
bound-tells P Q (Waits next) follows h k = λ live. bound-tells P Q (next live) follows (h live) k

pub followed-tells : {A B : Type 0} → (P : A → Type 0) (Q : B → Type 0) (part : Part A) (follows : Left → A → Part B) → Tells (Comes P) part → ((left : Left) (a : A) → P a → Tells (Comes Q) (follows left a)) → Tells (Comes Q) (part_then part follows)
followed-tells {A = A} P Q part follows h k = bound-tells (Comes P) (Comes Q) part (onward follows) h ends
  where
    ends : (o : Outcome A) → Comes P o → Tells (Comes Q) (onward follows o)
    ends (Went left a) c = k left a c
    ends (Stops left why) c = c

-- what a procedure is answered where it stops has this
pub record AreSoundStops (A : Type 0) (Q : A → Type 0) (answers : StopAnswers A) : Type 0 where
  pub again : (lost claims : ℕ) → FitsIn64 lost → FitsIn64 claims → Q (answers.again lost claims)
  pub full : Q answers.full
  pub count_full : (moment : ℕ) → FitsIn64 moment → Q (answers.count_full moment)
  pub spent : Q answers.spent

few-left : (n : ℕ) → FitsIn64 (63 - n)
few-left n = omega arith

pub stop-sound : {A : Type 0} → (Q : A → Type 0) (answers : StopAnswers A) (left : Left) (why : Stop) → AreSoundStops A Q answers → IsSoundStop why → Q (stop_answer answers left why)
stop-sound Q answers left OutOfTries sound h = sound.again most_lost (confirmed_so_far left) (omega arith) (few-left left.claims)
stop-sound Q answers left OutOfClaims sound h = sound.again (lost_so_far left) most_claims (few-left left.races) (omega arith)
stop-sound Q answers left NoRoom sound h = sound.full
stop-sound Q answers left (CountAtLimit moment) sound h = sound.count_full moment h
stop-sound Q answers left NoRevisions sound h = sound.spent

pub settled-tells : {A : Type 0} → (Q : A → Type 0) (answers : StopAnswers A) (part : Part A) → AreSoundStops A Q answers → Tells (Comes Q) part → Tells Q (as_word answers part)
settled-tells {A = A} Q answers part sound h = bound-tells (Comes Q) Q part (λ outcome. Ends (answer_of answers outcome)) h ends
  where
    ends : (o : Outcome A) → Comes Q o → Q (answer_of answers o)
    ends (Went left a) c = c
    ends (Stops left why) c = stop-sound Q answers left why sound c

pub after_write-tells : {A : Type 0} → (P : A → Type 0) (said : Said) (took : ℕ → Word A) (lost full spent : Word A) → IsSoundSaid said → ((revision : ℕ) → FitsIn64 revision → Tells P (took revision)) → Tells P lost → Tells P full → Tells P spent → Tells P (after_write said took lost full spent)
after_write-tells P (Can revision) took lost full spent told a b c d = a revision told
after_write-tells P Missing took lost full spent told a b c d = b
after_write-tells P (Exists revision) took lost full spent told a b c d = b
after_write-tells P (Conflict revision) took lost full spent told a b c d = b
after_write-tells P Full took lost full spent told a b c d = c
after_write-tells P Spent took lost full spent told a b c d = d
after_write-tells P (Found revision found) took lost full spent told a b c d = b
after_write-tells P (Listed rows) took lost full spent told a b c d = b

pub on_write-tells : {A : Type 0} → (P : A → Type 0) (said : Said) (left : Left) (took : ℕ → Part A) (lost : Part A) → IsSoundSaid said → ((revision : ℕ) → FitsIn64 revision → Tells (Comes P) (took revision)) → Tells (Comes P) lost → Tells (Comes P) (on_write said left took lost)
on_write-tells P said left took lost told a b = after_write-tells (Comes P) said took lost (stops left NoRoom) (stops left NoRevisions) told a b tt tt

pub tries-tells : {A : Type 0} → (P : A → Type 0) (try : Part A → Left → Part A) → ((again : Part A) (left : Left) → Tells (Comes P) again → Tells (Comes P) (try again left)) → (races claims : ℕ) → Tells (Comes P) (tries try races claims)
unfolding tries
tries-tells P try h zero claims = h (stops (left_of zero claims) OutOfTries) (left_of zero claims) tt
tries-tells P try h (suc races) claims = h (tries try races claims) (left_of (suc races) claims) (tries-tells P try h races claims)

pub rounds-tells : {A : Type 0} → (P : A → Type 0) (round : (Left → Part A) → Left → Part A) → ((next : Left → Part A) (left : Left) → ((now : Left) → Tells (Comes P) (next now)) → Tells (Comes P) (round next left)) → (more : ℕ) (left : Left) → Tells (Comes P) (rounds round more left)
unfolding rounds
rounds-tells P round h zero left = h (λ now. stops now OutOfTries) left (λ now. tt)
rounds-tells P round h (suc more) left = h (rounds round more) left (rounds-tells P round h more)

-- ---- what is read and written

pub write_back-sound : (said : Said) (new : Record) → IsSoundSaid said → IsKey (key_of new) → IsSoundName (name_of (write_back said new))
write_back-sound (Found revision found) new told h = (h, told.1)
write_back-sound Missing new told h = h
write_back-sound (Listed rows) new told h = h
write_back-sound (Can revision) new told h = h
write_back-sound (Exists revision) new told h = h
write_back-sound (Conflict revision) new told h = h
write_back-sound Full new told h = h
write_back-sound Spent new told h = h

-- the handle that is told of has an id
pub handle_said-id : (id : List ℕ) (said : Said) → IsHandleId id → IsSoundSaid said → IsHandleId (handle_said id said).id
handle_said-id id (Found revision (record_of.Handle found)) h told = told.0.id
handle_said-id id other h told = h

-- a block that was read is sound, and its revision fits 64 bits
abbrev pub IsSoundRead : BlockRead → Type 0
IsSoundRead None = Unit {0}
IsSoundRead (Some found) = IsBlockRecord found.1 × FitsIn64 found.0

pub block_said-sound : (said : Said) → IsSoundSaid said → IsSoundRead (block_said said)
block_said-sound (Found revision (record_of.Block b)) told = told
block_said-sound other told = tt

-- the revision of an affinity that was read fits 64 bits
abbrev pub IsSoundTie : Option (ℕ × Affinity) → Type 0
IsSoundTie None = Unit {0}
IsSoundTie (Some found) = FitsIn64 found.0

pub affinity_said-sound : (said : Said) → IsSoundSaid said → IsSoundTie (affinity_said said)
affinity_said-sound (Found revision (record_of.Affinity a)) told = told.1
affinity_said-sound other told = tt

pub rows_said-sound : (said : Said) → IsSoundSaid said → AllByRecursion IsSoundRow (rows_said said)
rows_said-sound (Listed rows) told = told
rows_said-sound other told = tt
