-- A word whose answers are told so asks, hears, waits and ends as the word does.
use Rattle.std.proofs.Common.{◌≡◌, ℕ, ◌≤◌, List, Some, None, true, IsSome, refl, ap, ◌∙◌, sym, subst, arith}
use Rattle.std.specs.Prelude.{option_map}
use Rattle.ipam_records.specs.Said.{Said}
use Rattle.ipam_records.specs.Hearing.{MayHear}
use Rattle.ipam_records.specs.Word.{Word, Ends, Asks, Waits, next_call, after_reply, answer_in, waits, after_feed}
use Rattle.ipam_model.specs.declared.answer.Answer.{Answer}
use Rattle.ipam_model.specs.declared.outcome.ReleaseAnswer.{ReleaseAnswer}
use Rattle.ipam_model.specs.declared.outcome.ReleaseAnswer.TheVariants.{NoAffinity}
use Rattle.ipam_model.specs.Told.{of_release}
use Rattle.ipam_collect.specs.declared.collect.CollectProc.{CollectProc}
use Rattle.ipam_collect.specs.Collect.{due_from, grace_in}
use Rattle.ipam_cluster.specs.Running.{telling, is_over}
use Rattle.std.proofs.lemmas.Bool.Decides.{nat_tests}

pub asked_telling : {A : Type 0} (tell : A → Answer) (word : Word A) → next_call (telling tell word) ≡ next_call word
unfolding telling
asked_telling tell (Ends answer) = refl
asked_telling tell (Asks label call next) = refl
asked_telling tell (Waits next) = refl

pub waits_telling : {A : Type 0} (tell : A → Answer) (word : Word A) → waits (telling tell word) ≡ waits word
unfolding telling
waits_telling tell (Ends answer) = refl
waits_telling tell (Asks label call next) = refl
waits_telling tell (Waits next) = refl

pub ended_telling : {A : Type 0} (tell : A → Answer) (word : Word A) → answer_in (telling tell word) ≡ option_map tell (answer_in word)
unfolding telling
ended_telling tell (Ends answer) = refl
ended_telling tell (Asks label call next) = refl
ended_telling tell (Waits next) = refl

pub heard_telling : {A : Type 0} (tell : A → Answer) (word : Word A) (moment : ℕ) (said : Said)
    → after_reply (telling tell word) moment said ≡ telling tell (after_reply word moment said)
unfolding telling
heard_telling tell (Ends answer) moment said = refl
heard_telling tell (Asks label call next) moment said = refl
heard_telling tell (Waits next) moment said = refl

pub fed_telling : {A : Type 0} (tell : A → Answer) (word : Word A) (live : List (List ℕ))
    → after_feed (telling tell word) live ≡ telling tell (after_feed word live)
unfolding telling
fed_telling tell (Ends answer) live = refl
fed_telling tell (Asks label call next) live = refl
fed_telling tell (Waits next) live = refl

-- what may be said to the one may be said to the other
pub may_hear_telling : {A : Type 0} (tell : A → Answer) (word : Word A) (said : Said) → MayHear (telling tell word) said → MayHear word said
unfolding telling
may_hear_telling tell (Ends answer) said may = may
may_hear_telling tell (Asks label call next) said may = may
may_hear_telling tell (Waits next) said may = may

-- ---- for one arm each

pub arm_asks : {A : Type 0} (tell : A → Answer) (word : Word A) → IsSome (next_call (telling tell word)) → IsSome (next_call word)
arm_asks tell word some = subst (λ call. IsSome call) (asked_telling tell word) some

pub arm_took : {A : Type 0} (tell : A → Answer) (word leaves : Word A) (moment : ℕ) (said : Said)
    → leaves ≡ after_reply word moment said → telling tell leaves ≡ after_reply (telling tell word) moment said
arm_took tell word leaves moment said is = ap (telling tell) is ∙ sym (heard_telling tell word moment said)

pub arm_ends : {A : Type 0} (tell : A → Answer) (leaves : Word A) (answer : A)
    → Some answer ≡ answer_in leaves → Some (tell answer) ≡ answer_in (telling tell leaves)
arm_ends tell leaves answer is = ap (option_map tell) is ∙ sym (ended_telling tell leaves)

pub arm_goes_on : {A : Type 0} (tell : A → Answer) (leaves : Word A)
    → None ≡ answer_in leaves → None ≡ answer_in (telling tell leaves)
arm_goes_on tell leaves is = ap (option_map tell) is ∙ sym (ended_telling tell leaves)

-- a release that finds nothing is answered so
pub absent_ends : (moment : ℕ) (answer : ReleaseAnswer) → Some answer ≡ answer_in (Ends (NoAffinity moment))
    → Some (of_release answer) ≡ answer_in (telling of_release (Ends (NoAffinity moment)))
absent_ends moment answer is = arm_ends of_release (Ends (NoAffinity moment)) answer is

-- what is over is late enough
pub over_late : (p : CollectProc) (at : ℕ) → is_over (Some (grace_in p)) at ≡ true → due_from p ≤ at
over_late p at over = grind (arith, nat_tests)
