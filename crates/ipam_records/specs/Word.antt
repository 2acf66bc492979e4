-- What is left of a procedure: its answer, or the next call and what follows each reply.
use Rattle.std.specs.Prelude.{ℕ, Bool, true, false, List, Option, Some, None}
use Rattle.ipam_records.specs.declared.call.Call.{Call}
use Rattle.ipam_records.specs.Said.{Said}
use Rattle.ipam_records.specs.Label.{CallLabel, idle}

-- an answer; or a call, with where the procedure stands before it and what follows its moment and
-- its reply; or a wait for a list of handle ids
pub data Word (A : Type 0) : Type 0 where
  Ends : A → Word A
  Asks : CallLabel → Call → (ℕ → Said → Word A) → Word A
  Waits : (List (List ℕ) → Word A) → Word A

-- the call that comes next
abbrev pub next_call : {A : Type 0} → Word A → Option Call
next_call (Ends answer) = None
next_call (Asks label call next) = Some call
next_call (Waits next) = None

-- where the procedure stands
abbrev pub label_of : {A : Type 0} → Word A → CallLabel
label_of (Ends answer) = idle
label_of (Asks label call next) = label
label_of (Waits next) = idle

-- the answer, once there is one
abbrev pub answer_in : {A : Type 0} → Word A → Option A
answer_in (Ends answer) = Some answer
answer_in (Asks label call next) = None
answer_in (Waits next) = None

abbrev pub waits : {A : Type 0} → Word A → Bool
waits (Ends answer) = false
waits (Asks label call next) = false
waits (Waits next) = true

-- what is left once the call had this reply at this moment
abbrev pub after_reply : {A : Type 0} → Word A → ℕ → Said → Word A
after_reply (Ends answer) moment said = Ends answer
after_reply (Asks label call next) moment said = next moment said
after_reply (Waits next) moment said = Waits next

-- what is left once these ids were handed in
abbrev pub after_feed : {A : Type 0} → Word A → List (List ℕ) → Word A
after_feed (Ends answer) live = Ends answer
after_feed (Asks label call next) live = Asks label call next
after_feed (Waits next) live = next live

-- the word, and at its end another that may depend on the answer
abbrev pub bound : {A B : Type 0} → Word A → (A → Word B) → Word B
bound (Ends answer) follows = follows answer
bound (Asks label call next) follows = Asks label call (λ moment said. bound (next moment said) follows)
bound (Waits next) follows = Waits (λ live. bound (next live) follows)
