use Rattle.std.proofs.Common.{◌≡◌, ◌++◌, drop}
use Rattle.std.specs.String.{string_bytes}
use Rattle.ipam_show.specs.Rows.{rows_text}
use Rattle.ipam_show.proofs.rows.rows_text.Given as goal

-- with what is still to come, it is the text of all
abbrev pub invariant-loop-row : goal.invariant-loop-row
invariant-loop-row l = string_bytes l.text ++ rows_text l.kind (drop l.row-index l.rows) ≡ rows_text l.kind l.rows
