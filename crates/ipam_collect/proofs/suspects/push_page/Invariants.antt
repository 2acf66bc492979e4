use Rattle.std.proofs.Common.{◌≡◌, ◌++◌, take}
use Rattle.ipam_model.specs.Remove.{suspects}
use Rattle.ipam_collect.proofs.suspects.push_page.Given as goal

abbrev pub invariant-loop-row : goal.invariant-loop-row
invariant-loop-row l = l.found ≡ l.initial.found ++ suspects l.request (take l.row-index l.page)
