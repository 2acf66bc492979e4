use Rattle.std.proofs.Common.{◌≡◌, ◌++◌, drop}
use Rattle.std.specs.String.{string_bytes}
use Rattle.ipam_commands.specs.Texts.{route_lines}
use Rattle.ipam_commands.proofs.routing.push_page.Given as goal

-- with what is still to come, it is the text before and that of all
abbrev pub invariant-loop-row : goal.invariant-loop-row
invariant-loop-row l =
    string_bytes l.text ++ route_lines l.node (drop l.row-index l.page.items) ≡ string_bytes l.initial.text ++ route_lines l.node l.page.items
