use Rattle.std.proofs.Common.{◌≡◌, ◌++◌, take, drop}
use Rattle.ipam_select.specs.Reading.{put_value}
use Rattle.ipam_select.proofs.values.place.Given as goal

abbrev pub invariant-loop-at : goal.invariant-loop-at
invariant-loop-at l = put_value l.text l.all ≡ take l.at l.all ++ put_value l.text (drop l.at l.all)
