use Rattle.std.proofs.Common.{List, subst}
use Rattle.std.specs.List.Sorted.{IsStrictlySortedBy}
use Rattle.ipam_addr.specs.Shape.{CidrValue}
use Rattle.ipam_block.specs.Order.{cidr_cmp}
use Rattle.ipam_choice.specs.First.{Has}
use Rattle.ipam_choice.proofs.PartLemmas.{ascend-drop, all-behind, kept_from_found, kept_from_gap}
use Rattle.ipam_choice.proofs.part.part_from.Goals as goal

pub returns-in-Ok-clause-ascending : goal.returns-in-Ok-clause-ascending
returns-in-Ok-clause-ascending c =
    let xs = c.args.blocks.now in
    subst (IsStrictlySortedBy cidr_cmp) (all-behind xs c.in-Ok.place) (ascend-drop xs c.in-Ok.place c.requires)

pub returns-in-Ok-clause-kept : goal.returns-in-Ok-clause-kept
returns-in-Ok-clause-kept c = λ cidr has other.
    let xs = c.args.blocks.now in
    subst (λ (ys : List CidrValue). Has cidr ys) (all-behind xs c.in-Ok.place) (kept_from_found xs c.args.first c.in-Ok.place c.requires c.in-Ok.ensures.found cidr has other)

pub returns-in-Err-clause-ascending : goal.returns-in-Err-clause-ascending
returns-in-Err-clause-ascending c =
    let xs = c.args.blocks.now in
    subst (IsStrictlySortedBy cidr_cmp) (all-behind xs c.in-Err.place) (ascend-drop xs c.in-Err.place c.requires)

pub returns-in-Err-clause-kept : goal.returns-in-Err-clause-kept
returns-in-Err-clause-kept c = λ cidr has other.
    let xs = c.args.blocks.now in
    subst (λ (ys : List CidrValue). Has cidr ys) (all-behind xs c.in-Err.place) (kept_from_gap xs c.args.first c.in-Err.place c.in-Err.ensures.absent cidr has other)
