use Rattle.std.proofs.Common.{◌≡◌, ◌++◌, map}
use Rattle.ipam_play.specs.Gathering.{row_gathered, rows_gathered}
use Rattle.ipam_play.proofs.gathering.Gathering.listed.Given as goal

-- the rows so far, and those of the entries that are left
abbrev pub invariant-loop-key : goal.invariant-loop-key
invariant-loop-key l = l.rows.items ++ map row_gathered l.key-iterator ≡ rows_gathered l.self.rows
