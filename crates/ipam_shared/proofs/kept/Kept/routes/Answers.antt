use Rattle.std.proofs.Common.{ap, ◌∙◌}
use Rattle.ipam_store.specs.Shape.{StoreValue}
use Rattle.ipam_shared.proofs.FedStanding.{routes-told}
use Rattle.ipam_shared.proofs.kept.Kept.routes.Goals as goal

pub returns : goal.returns
returns g c =
    routes-told g.D.Keeper.rows c.args.self.now c.counter.result (c.counter.ensures.value ∙ ap (λ (s : StoreValue). s.store.counter) c.store.ensures)
    c.in_ok-routes.routes.items c.in_ok-routes.ensures.routes
