use Rattle.std.proofs.Common.{drop, sym, ◌∙◌}
use Rattle.ipam_records.specs.Pages.{rows_of_pages}
use Rattle.ipam_session.specs.Page.{so_far}
use Rattle.ipam_session.proofs.Taking.{full-stays, page-step}
use Rattle.ipam_session.proofs.taken.take_pages.Goals as goal

pub loop-page-preserved : goal.loop-page-preserved
loop-page-preserved c =
    let value = rw c.deref.ensures.value at c.in_ok-take_rows.ensures in
    page-step c.args.after.now _ _ _ c.page-item.is c.loop-page-test.true _ _ _ c.loop-page.invariant value

pub returns-then-taken-eq0 : goal.returns-then-taken-eq0
returns-then-taken-eq0 c =
    let rest = rows_of_pages (drop c.loop-page.page-index c.args.pages.now) in
    sym (full-stays c.args.after.now (so_far c.loop-page.taken) rest c.if-taken-eq0.true c.if-taken.true) ∙ c.loop-page.invariant
