-- Words that end with calls to spare.
use Rattle.std.proofs.Common.{ℕ, ◌-◌, ◌<◌, List}
use Rattle.ipam_records.specs.Bound.{AtMost}
use Rattle.ipam_records.specs.Said.{Said, Found, Missing, Listed, Can, Exists, Conflict, Full, Spent}
use Rattle.ipam_records.specs.Word.{Word, Ends, Asks, Waits, bound}
use Rattle.ipam_model.specs.declared.part.Left.{Left}
use Rattle.ipam_model.specs.declared.part.Stop.{Stop}
use Rattle.ipam_model.specs.declared.part.Outcome.{Outcome}
use Rattle.ipam_model.specs.declared.part.Outcome.TheVariants.{Went, Stops}
use Rattle.ipam_model.specs.Step.{Part, StopAnswers, answer_of, as_word, after_write, onward, part_then}

-- with so many calls left at first, it is true of the answer and of the calls that are left then
abbrev pub Within : {A : Type 0} → (A → ℕ → Type 0) → Word A → ℕ → Type 0
Within P (Ends answer) count = P answer count
Within P (Asks label call next) count = (0 < count) × ((moment : ℕ) (said : Said) → Within P (next moment said) (count - 1))
Within P (Waits next) count = (live : List (List ℕ)) → Within P (next live) count

pub AtMost-Within : {A : Type 0} → (P : A → ℕ → Type 0) (w : Word A) (count : ℕ) → Within P w count → AtMost w count
AtMost-Within P (Ends answer) count h = tt
AtMost-Within P (Asks label call next) count h = (h.0, λ moment said. AtMost-Within P (next moment said) (count - 1) (h.1 moment said))
AtMost-Within P (Waits next) count h = λ live. AtMost-Within P (next live) count (h live)

pub Within-bound : {A B : Type 0} → (P : A → ℕ → Type 0) (Q : B → ℕ → Type 0) (w : Word A) (follows : A → Word B) (count : ℕ) → Within P w count → ((a : A) (left : ℕ) → P a left → Within Q (follows a) left) → Within Q (bound w follows) count
Within-bound P Q (Ends answer) follows count h k = k answer count h
Within-bound P Q (Asks label call next) follows count h k = (h.0, λ moment said. Within-bound P Q (next moment said) follows (count - 1) (h.1 moment said) k)
Within-bound P Q (Waits next) follows count h k = λ live. Within-bound P Q (next live) follows count (h live) k

-- a part after another
pub Within-followed : {A B : Type 0} → (P : Outcome A → ℕ → Type 0) (Q : Outcome B → ℕ → Type 0) (part : Part A) (follows : Left → A → Part B) (count : ℕ) → Within P part count → ((left : Left) (a : A) (rest : ℕ) → P (Went left a) rest → Within Q (follows left a) rest) → ((left : Left) (why : Stop) (rest : ℕ) → P (Stops left why) rest → Q (Stops left why) rest) → Within Q (part_then part follows) count
Within-followed {A} P Q part follows count h goes stops = Within-bound P Q part (onward follows) count h after
  where
    after : (o : Outcome A) (rest : ℕ) → P o rest → Within Q (onward follows o) rest
    after (Went left a) rest k = goes left a rest k
    after (Stops left why) rest k = stops left why rest k

-- nothing is said of an answer
abbrev pub Any : {A : Type 0} → A → ℕ → Type 0
Any answer count = Unit {0}

pub Within-settled : {A : Type 0} → (P : Outcome A → ℕ → Type 0) (answers : StopAnswers A) (part : Part A) (count : ℕ) → Within P part count → Within Any (as_word answers part) count
Within-settled P answers part count h = Within-bound P Any part (λ outcome. Ends (answer_of answers outcome)) count h (λ o rest k. tt)

-- whatever a write is answered
pub Within-after_write : {A : Type 0} → (P : A → ℕ → Type 0) (said : Said) (took : ℕ → Word A) (lost full spent : Word A) (count : ℕ) → ((revision : ℕ) → Within P (took revision) count) → Within P lost count → Within P full count → Within P spent count → Within P (after_write said took lost full spent) count
Within-after_write P (Can revision) took lost full spent count a b c d = a revision
Within-after_write P Missing took lost full spent count a b c d = b
Within-after_write P (Exists revision) took lost full spent count a b c d = b
Within-after_write P (Conflict revision) took lost full spent count a b c d = b
Within-after_write P Full took lost full spent count a b c d = c
Within-after_write P Spent took lost full spent count a b c d = d
Within-after_write P (Found revision found) took lost full spent count a b c d = b
Within-after_write P (Listed rows) took lost full spent count a b c d = b
