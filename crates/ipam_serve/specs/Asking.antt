-- What a pass of a session's gate counts, and which call it lets come.
use Rattle.std.specs.Prelude.{◌≡◌, ℕ, List, []}
use Rattle.ipam_io.specs.Counts.{next_count}
use Rattle.ipam_io.specs.declared.gate.Point.{Point}
use Rattle.ipam_io.specs.declared.gate.Point.TheVariants.{Line, Turn}
use Rattle.ipam_model.specs.declared.entry.Called.{Called as OneCall}
use Rattle.ipam_model.specs.declared.entry.Entry.{Entry}
use Rattle.ipam_model.specs.History.{Base}
use Rattle.ipam_shared.specs.PassValue.{PassValue}
use Rattle.ipam_serve.specs.Gains.{Gained}

-- how many passes before a line there are, after a pass at this point
abbrev pub count_of_lines : Point → ℕ → ℕ
count_of_lines Line lines = next_count lines
count_of_lines Turn lines = lines

-- of a gate before, a point, the session's pass and the gate after, whether it was asked there and let it go on
abbrev pub Admits : Type 0 → Type 1
Admits G = G → Point → PassValue → G → Type 0

-- The gate was asked before the call came, and let it come: the session's pass had then seen all entries of its
-- slot that came before the call.
pub record WasAdmitted {G : Type 0} (admits : Admits G) (base : Base) (slot : ℕ) (call : OneCall) (earlier : List Entry) : Type 0 where
  pub pass : PassValue
  pub own : pass.slot ≡ slot
  pub since : Gained slot pass.seen [] earlier
  pub before : G
  pub after : G
  pub asked : admits before Turn pass after
