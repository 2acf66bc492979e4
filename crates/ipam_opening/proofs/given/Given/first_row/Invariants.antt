use Rattle.std.proofs.Common.{◌≡◌, drop}
use Rattle.std.specs.List.{find}
use Rattle.ipam_opening.specs.Given.{texts_given}
use Rattle.ipam_opening.specs.Rules.{breaks}
use Rattle.ipam_opening.proofs.given.Given.first_row.Given as goal

abbrev pub invariant-loop-place : goal.invariant-loop-place
invariant-loop-place l =
    find (breaks l.rule (texts_given l.self)) (drop l.place l.self.rows.now)
    ≡ find (breaks l.rule (texts_given l.self)) l.self.rows.now
