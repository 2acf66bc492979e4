use Rattle.std.proofs.Common.{◌≡◌, drop}
use Rattle.ipam_select.specs.Formula.{formulas}
use Rattle.ipam_select.specs.Admitting.{all_admit, some_admits}
use Rattle.ipam_select.proofs.+admits.Given as goal

abbrev pub invariant-admitting::all_admit-loop-member : goal.invariant-admitting::all_admit-loop-member
invariant-admitting::all_admit-loop-member l =
    all_admit (formulas l.members) l.labels ≡ all_admit (formulas (drop l.member-index l.members)) l.labels

abbrev pub invariant-admitting::some_admits-loop-member : goal.invariant-admitting::some_admits-loop-member
invariant-admitting::some_admits-loop-member l =
    some_admits (formulas l.members) l.labels ≡ some_admits (formulas (drop l.member-index l.members)) l.labels
