use Rattle.std.proofs.Common.{ap, ◌∙◌}
use Rattle.ipam_store.specs.declared.feed_fault.SinceFault.TheVariants.{Compacted, Ahead}
use Rattle.ipam_store.specs.Shape.{StoreValue}
use Rattle.ipam_shared.proofs.FedStanding.{ahead-told, changes-told, compacted-told, told-fault, told-no_fault}
use Rattle.ipam_shared.proofs.kept.Kept.routes_since.Goals as goal

pub returns-in-Ok-clause-changes : goal.returns-in-Ok-clause-changes
returns-in-Ok-clause-changes g c =
    changes-told g.D.Keeper.rows c.args.self.now c.counter.result (c.counter.ensures.value ∙ ap (λ (s : StoreValue). s.store.counter) c.store.ensures)
    c.args.revision c.in-Ok.changes.items c.in-Ok.ensures.exact c.in-Ok.ensures.leads

pub returns-in-Ok-clause-compacted : goal.returns-in-Ok-clause-compacted
returns-in-Ok-clause-compacted g c base history floor =
    compacted-told g.D.Keeper.rows c.args.self.now _ c.args.revision floor (told-no_fault (Compacted floor) c.in-Ok.changes (c.counter.result, c.in-Ok.changes) (c.in-Ok.ensures.compacted floor)) base history

pub returns-in-Ok-clause-ahead : goal.returns-in-Ok-clause-ahead
returns-in-Ok-clause-ahead g c base history counter =
    ahead-told g.D.Keeper.rows c.args.self.now _ c.args.revision counter (told-no_fault (Ahead counter) c.in-Ok.changes (c.counter.result, c.in-Ok.changes) (c.in-Ok.ensures.ahead counter)) base history

pub returns-in-Err-clause-compacted : goal.returns-in-Err-clause-compacted
returns-in-Err-clause-compacted g c base history floor =
    compacted-told g.D.Keeper.rows c.args.self.now _ c.args.revision floor (told-fault (Compacted floor) c.in-Err.fault (c.in-Err.ensures.compacted floor)) base history

pub returns-in-Err-clause-ahead : goal.returns-in-Err-clause-ahead
returns-in-Err-clause-ahead g c base history counter =
    ahead-told g.D.Keeper.rows c.args.self.now _ c.args.revision counter (told-fault (Ahead counter) c.in-Err.fault (c.in-Err.ensures.ahead counter)) base history
