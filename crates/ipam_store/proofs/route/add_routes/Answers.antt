use Rattle.std.proofs.Common.{sym, append-nil, refl}
use Rattle.ipam_store.proofs.FeedRows.{routes-row}
use Rattle.ipam_store.proofs.route.add_routes.Goals as goal
use Rattle.ipam_store.proofs.route.add_routes.Goals.{in-Some+in_ok-push, in_default}

pub loop-row-preserved : goal.loop-row-preserved
loop-row-preserved c =
    let step = routes-row c.args.rows.now c.loop-row.row-index c.row-item.result c.row-item.is c.loop-row-test.true c.in_ok-route.field-0 c.in_ok-route.ensures c.loop-row.routes.items in
    elim c.match-branch-2.branch [
      | in-Some+in_ok-push w ↦
          let route = w.in-Some.is in
          let pushed = w.in_ok-push.ensures.items in
          step _ _ c.loop-row.invariant (rw (w.routes-is, pushed, route) refl)
      | in_default w ↦
          let none = w.in_default.is in
          step _ _ c.loop-row.invariant (rw (w.routes-is, none) (sym (append-nil c.loop-row.routes.items)))
    ]
