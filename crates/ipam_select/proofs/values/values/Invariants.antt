use Rattle.std.proofs.Common.{◌≡◌, [], length}
use Rattle.ipam_select.specs.Reading.{values}
use Rattle.ipam_select.proofs.values.values.Given as goal

abbrev pub invariant-loop-text : goal.invariant-loop-text
invariant-loop-text l = values l.all.items l.tokens.items ≡ values [] l.fn.tokens.items

abbrev pub decreases-loop-text : goal.decreases-loop-text
decreases-loop-text l = length l.tokens.items
