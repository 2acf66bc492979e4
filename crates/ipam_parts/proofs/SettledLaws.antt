-- A part with others after it that ends in an answer.
use Rattle.std.proofs.Common.{◌≡◌, refl, ap, ℕ, Some, None, IsSome}
use Rattle.ipam_records.specs.Hearing.{MayHear}
use Rattle.ipam_records.specs.Said.{Said}
use Rattle.ipam_records.specs.Word.{Word, Ends, Asks, Waits, next_call, after_reply, answer_in, bound}
use Rattle.ipam_model.specs.declared.part.Left.{Left}
use Rattle.ipam_model.specs.declared.part.Outcome.{Outcome}
use Rattle.ipam_model.specs.Step.{Part, StopAnswers, as_word, part_then, onward}

-- while the part asks, so does the whole, and the same
pub asked_settled : {A B : Type 0} (answers : StopAnswers B) (part : Part A) (follows : Left → A → Part B)
    → IsSome (next_call part) → next_call (as_word answers (part_then part follows)) ≡ next_call part
asked_settled answers (Ends outcome) follows some = absurd (cc some)
asked_settled answers (Asks label call next) follows some = refl
asked_settled answers (Waits next) follows some = absurd (cc some)

pub heard_settled : {A B : Type 0} (answers : StopAnswers B) (part : Part A) (follows : Left → A → Part B)
    (moment : ℕ) (said : Said) → IsSome (next_call part)
    → as_word answers (part_then (after_reply part moment said) follows)
    ≡ after_reply (as_word answers (part_then part follows)) moment said
heard_settled answers (Ends outcome) follows moment said some = absurd (cc some)
heard_settled answers (Asks label call next) follows moment said some = refl
heard_settled answers (Waits next) follows moment said some = absurd (cc some)

pub may_hear_settled : {A B : Type 0} (answers : StopAnswers B) (part : Part A) (follows : Left → A → Part B)
    (said : Said) → IsSome (next_call part)
    → MayHear (as_word answers (part_then part follows)) said → MayHear part said
may_hear_settled answers (Ends outcome) follows said some may = absurd (cc some)
may_hear_settled answers (Asks label call next) follows said some may = may
may_hear_settled answers (Waits next) follows said some may = absurd (cc some)

-- while the part goes on, so does the whole
pub goes_on_settled : {A B : Type 0} (answers : StopAnswers B) (part : Part A) (follows : Left → A → Part B)
    → None ≡ answer_in part → None ≡ answer_in (as_word answers (part_then part follows))
goes_on_settled answers (Ends outcome) follows none = absurd (cc none)
goes_on_settled answers (Asks label call next) follows none = refl
goes_on_settled answers (Waits next) follows none = refl

-- once the part has come to something, the rest follows
pub ended_settled : {A B : Type 0} (answers : StopAnswers B) (part : Part A) (follows : Left → A → Part B)
    (outcome : Outcome A) → Some outcome ≡ answer_in part
    → as_word answers (onward follows outcome) ≡ as_word answers (part_then part follows)
ended_settled answers (Ends found) follows outcome is = ap (λ o. as_word answers (onward follows o)) (cc is)
ended_settled answers (Asks label call next) follows outcome is = absurd (cc is)
ended_settled answers (Waits next) follows outcome is = absurd (cc is)
