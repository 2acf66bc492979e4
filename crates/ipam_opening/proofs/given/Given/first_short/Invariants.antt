use Rattle.std.proofs.Common.{◌≡◌, drop, None}
use Rattle.ipam_model.specs.Opened.{readable}
use Rattle.ipam_opening.specs.Counts.{first_short}
use Rattle.ipam_opening.proofs.given.Given.first_short.Given as goal

abbrev pub invariant-loop-reading : goal.invariant-loop-reading
invariant-loop-reading l =
    first_short (readable l.self.rows.now) l.first (drop l.reading-index l.self.readings.now)
    ≡ first_short (readable l.self.rows.now) None l.self.readings.now
