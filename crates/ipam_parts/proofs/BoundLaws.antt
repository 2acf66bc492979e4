-- A word with another after it.
use Rattle.std.proofs.Common.{◌≡◌, refl, ap, ℕ, Some, None, IsSome}
use Rattle.ipam_records.specs.Hearing.{MayHear}
use Rattle.ipam_records.specs.Said.{Said}
use Rattle.ipam_records.specs.Word.{Word, Ends, Asks, Waits, next_call, after_reply, answer_in, bound}

-- while the first asks, so does the whole, and the same
pub asked_bound : {A B : Type 0} (word : Word A) (follows : A → Word B) → IsSome (next_call word)
    → next_call (bound word follows) ≡ next_call word
asked_bound (Ends answer) follows some = absurd (cc some)
asked_bound (Asks label call next) follows some = refl
asked_bound (Waits next) follows some = absurd (cc some)

pub heard_bound : {A B : Type 0} (word : Word A) (follows : A → Word B) (moment : ℕ) (said : Said) → IsSome (next_call word)
    → after_reply (bound word follows) moment said ≡ bound (after_reply word moment said) follows
heard_bound (Ends answer) follows moment said some = absurd (cc some)
heard_bound (Asks label call next) follows moment said some = refl
heard_bound (Waits next) follows moment said some = absurd (cc some)

pub may_hear_bound : {A B : Type 0} (word : Word A) (follows : A → Word B) (said : Said) → IsSome (next_call word)
    → MayHear (bound word follows) said → MayHear word said
may_hear_bound (Ends answer) follows said some may = absurd (cc some)
may_hear_bound (Asks label call next) follows said some may = may
may_hear_bound (Waits next) follows said some may = absurd (cc some)

-- while the first goes on, so does the whole
pub goes_on_bound : {A B : Type 0} (word : Word A) (follows : A → Word B) → None ≡ answer_in word
    → None ≡ answer_in (bound word follows)
goes_on_bound (Ends answer) follows none = absurd (cc none)
goes_on_bound (Asks label call next) follows none = refl
goes_on_bound (Waits next) follows none = refl

-- once the first has its answer, the rest follows
pub ended_bound : {A B : Type 0} (word : Word A) (follows : A → Word B) (answer : A) → Some answer ≡ answer_in word
    → bound word follows ≡ follows answer
ended_bound (Ends found) follows answer is = ap follows (cc is)
ended_bound (Asks label call next) follows answer is = absurd (cc is)
ended_bound (Waits next) follows answer is = absurd (cc is)
