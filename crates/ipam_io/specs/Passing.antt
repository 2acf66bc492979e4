-- What a pass of a gate says and counts.
use Rattle.std.specs.Prelude.{ℕ, ⊤}
use Rattle.ipam_io.specs.Counts.{next_count}
use Rattle.ipam_io.specs.declared.gate.Point.{Point}
use Rattle.ipam_io.specs.declared.gate.Point.TheVariants.{Line, Turn}
use Rattle.ipam_io.specs.declared.gate.Passed.{Passed}
use Rattle.ipam_io.specs.declared.gate.Passed.TheVariants.{Go, Stop}

-- a fact of a pass that was stopped
abbrev pub OnStop : Passed → Type 0 → Type 0
OnStop Stop p = p
OnStop Go p = ⊤

-- a fact of a pass that may go on
abbrev pub OnGo : Passed → Type 0 → Type 0
OnGo Stop p = ⊤
OnGo Go p = p

-- how many passes at a turn there are, after a pass at this point
abbrev pub count_of_turns : Point → ℕ → ℕ
count_of_turns Line turns = turns
count_of_turns Turn turns = next_count turns
