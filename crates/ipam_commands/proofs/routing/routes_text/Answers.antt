use Rattle.std.proofs.Common.{arith, drop, ◌+◌}
use Rattle.std.proofs.lemmas.Grind.{common_steps}
use Rattle.ipam_records.specs.Pages.{rows_of_pages}
use Rattle.ipam_commands.proofs.RouteLines.{route_lines-append}
use Rattle.ipam_commands.proofs.routing.routes_text.Goals as goal

pub loop-page-preserved : goal.loop-page-preserved
loop-page-preserved c =
    let both =
    route_lines-append c.args.node.now c.page-item.result.items
    (rows_of_pages (drop (c.loop-page.page-index + 1) c.affinity_pages-pages.result.now)) in
    grind (arith, common_steps, both)
