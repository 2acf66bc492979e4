use Rattle.std.proofs.Common.{◌≡◌, ◌++◌, drop}
use Rattle.std.specs.String.{string_bytes}
use Rattle.ipam_records.specs.Pages.{rows_of_pages}
use Rattle.ipam_commands.specs.Texts.{route_lines}
use Rattle.ipam_commands.proofs.routing.routes_text.Given as goal

-- with what is still to come, it is the text of all
abbrev pub invariant-loop-page : goal.invariant-loop-page
invariant-loop-page l =
    string_bytes l.text ++ route_lines l.node (rows_of_pages (drop l.page-index l.pages)) ≡ route_lines l.node (rows_of_pages l.pages)
