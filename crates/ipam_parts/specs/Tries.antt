-- What is left of a request's tries.
use Rattle.std.specs.Prelude.{ℕ, zero, suc, Result, Ok, Err}
use Rattle.ipam_model.specs.declared.part.Left.{Left}
use Rattle.ipam_model.specs.declared.part.Stop.{Stop}
use Rattle.ipam_model.specs.declared.part.Stop.TheVariants.{OutOfTries, OutOfClaims}
use Rattle.ipam_records.specs.Word.{Word, Ends}
use Rattle.ipam_model.specs.Step.{left_of, Part, StopAnswers, stops, stop_answer, as_word, after_lost, with_retries}

abbrev pub less_races : (races claims : ℕ) → Result Left Stop
less_races zero claims = Err OutOfTries
less_races (suc races) claims = Ok (left_of races claims)

-- what is left after a lost race
abbrev pub less_a_race : Left → Result Left Stop
less_a_race left = less_races left.races left.claims

abbrev pub less_claims : (races claims : ℕ) → Result Left Stop
less_claims races zero = Err OutOfClaims
less_claims races (suc claims) = Ok (left_of races claims)

-- what is left after a confirmed claim
abbrev pub less_a_claim : Left → Result Left Stop
less_a_claim left = less_claims left.races left.claims

-- what follows, where something is left
abbrev pub on_left : {A : Type 0} → Left → Result Left Stop → (on : Left → Part A) → Part A
on_left left (Ok now) on = on now
on_left left (Err why) on = stops left why

-- what follows where a try loses a race
abbrev pub again_of : {A : Type 0} → (try : Part A → Left → Part A) → Left → Part A
again_of try left = after_lost left.races left.claims (with_retries try)

-- what is left where the part is a whole request: its next try, or the answer that it stops with
abbrev pub settled_try : {A : Type 0} → StopAnswers A → (try : Part A → Left → Part A) → Left → Result Left Stop → Word A
settled_try answers try left (Ok now) = as_word answers (try (again_of try now) now)
settled_try answers try left (Err why) = Ends (stop_answer answers left why)

-- what is left of a part: its next try, or that it stopped
abbrev pub next_try : {A : Type 0} → (try : Part A → Left → Part A) → Left → Result Left Stop → Part A
next_try try left (Ok now) = try (again_of try now) now
next_try try left (Err why) = stops left why
