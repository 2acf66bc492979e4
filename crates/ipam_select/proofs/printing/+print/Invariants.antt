use Rattle.std.proofs.Common.{◌≡◌, ◌++◌, true, drop}
use Rattle.std.specs.String.{string_bytes}
use Rattle.ipam_select.specs.Formula.{formulas}
use Rattle.ipam_select.specs.Printing.{members_text}
use Rattle.ipam_select.proofs.printing.+print.Given as goal

-- what is printed, and then the members that are left
abbrev pub invariant-push_members-loop-member : goal.invariant-push_members-loop-member
invariant-push_members-loop-member l =
    string_bytes l.fn.out ++ members_text l.tight true (formulas l.members)
    ≡ string_bytes l.out ++ members_text l.tight l.first (formulas (drop l.member-index l.members))
