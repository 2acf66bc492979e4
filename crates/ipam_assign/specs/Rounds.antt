-- What follows a round.
use Rattle.std.specs.Prelude.{ℕ, zero, suc, Option, Some, None}
use Rattle.ipam_model.specs.declared.part.Left.{Left}
use Rattle.ipam_model.specs.declared.part.Stop.TheVariants.{OutOfTries}
use Rattle.ipam_model.specs.Step.{Part, stops, rounds}
use Rattle.ipam_assign.specs.declared.rounds.Rounds.{Rounds}

abbrev pub fewer_than : ℕ → Option Rounds
fewer_than zero = None
fewer_than (suc more) = Some (record { more = more })

abbrev pub fewer : Rounds → Option Rounds
fewer rounds = fewer_than rounds.more

-- the rounds that follow, where so many may
abbrev pub next_of : {A : Type 0} → (round : (Left → Part A) → Left → Part A) → (more : ℕ) → Left → Part A
next_of round zero now = stops now OutOfTries
next_of round (suc more) now = rounds round more now
