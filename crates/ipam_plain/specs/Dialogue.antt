-- What a procedure asks and answers, where its replies are given.
use Rattle.std.specs.Prelude.{ℕ, ◌+◌, List, [], ◌∷◌, Option, Some, None}
use Rattle.ipam_records.specs.Said.{Said}
use Rattle.ipam_records.specs.Word.{Word, Ends, Asks, Waits}
use Rattle.ipam_model.specs.declared.entry.CallName.{CallName}
use Rattle.ipam_model.specs.Named.{name_of}

-- the calls, and the answer
pub record Dialogue (A : Type 0) : Type 0 where
  pub calls : List CallName
  pub answer : Option A

abbrev pub asked_first : {A : Type 0} → CallName → Dialogue A → Dialogue A
asked_first asked rest = record { calls = asked ∷ rest.calls; answer = rest.answer }

-- where these are the replies, one after the other, from this moment on
abbrev pub dialogue : {A : Type 0} → (moment : ℕ) → List Said → Word A → Dialogue A
dialogue moment [] (Ends told) = record { calls = []; answer = Some told }
dialogue moment [] (Asks label asked next) = record { calls = []; answer = None }
dialogue moment [] (Waits next) = record { calls = []; answer = None }
dialogue moment (reply ∷ replies) (Ends told) = record { calls = []; answer = Some told }
dialogue moment (reply ∷ replies) (Asks label asked next) =
    asked_first (name_of asked) (dialogue (moment + 1) replies (next moment reply))
dialogue moment (reply ∷ replies) (Waits next) = record { calls = []; answer = None }
