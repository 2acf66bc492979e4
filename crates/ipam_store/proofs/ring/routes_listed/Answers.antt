use Rattle.ipam_store.proofs.FeedRows.{routes-page}
use Rattle.ipam_store.proofs.ring.routes_listed.Goals as goal

pub loop-page-preserved : goal.loop-page-preserved
loop-page-preserved c =
    let value = rw c.deref.ensures.value at c.in_ok-add_routes.ensures in
    routes-page _ _ _ c.page-item.is c.loop-page-test.true _ _ _ c.loop-page.invariant value
