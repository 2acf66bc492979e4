use Rattle.std.proofs.Common.{refl}
use Rattle.ipam_shared.proofs.Openings.{has-cause}
use Rattle.ipam_shared.specs.declared.kept.KeptFault.TheVariants as fault
use Rattle.ipam_commands.specs.Telling.{AreOpened, IsLoadedAs}
use Rattle.ipam_commands.specs.declared.loading.Loaded.{Loaded}
use Rattle.ipam_commands.proofs.Loadings.{are-opened, none-failed, not-loaded, opened-as}
use Rattle.ipam_commands.proofs.loading.load.Goals as goal

pub returns-clause-opened : goal.returns-clause-opened
returns-clause-opened g c =
    let told = g.D.Keeper.rows c.args.keeper.now in
    opened-as (λ rows (loaded : Loaded). IsLoadedAs rows loaded.rows.items loaded.store.store) (g.T.OpensRows.wants c.args.alloc) told 0 0
    (λ (loaded : Loaded). AreOpened told loaded.rows.items loaded.store.store) c.load-loaded.result c.open_loaded.result c.open_loaded.ensures c.load-loaded.ensures.told
    (λ rows opened are is. are-opened told rows opened.rows.items opened.store.store are is)

pub returns-clause-no_fault : goal.returns-clause-no_fault
returns-clause-no_fault g c =
    none-failed (λ rows (loaded : Loaded). IsLoadedAs rows loaded.rows.items loaded.store.store) (g.T.OpensRows.wants c.args.alloc) (g.D.Keeper.rows c.args.keeper.now)
    (g.D.Keeper.faults c.args.keeper.now) (g.D.Keeper.faults c.load-loaded.new.keeper) c.load-loaded.result c.open_loaded.result c.open_loaded.ensures c.load-loaded.ensures.no_fault

pub returns-clause-refused : goal.returns-clause-refused
returns-clause-refused g c =
    not-loaded (λ rows (loaded : Loaded). IsLoadedAs rows loaded.rows.items loaded.store.store) (g.T.OpensRows.wants c.args.alloc) (g.D.Keeper.rows c.args.keeper.now)
    (g.D.Keeper.faults c.args.keeper.now) (g.D.Keeper.faults c.load-loaded.new.keeper) c.load-loaded.result c.open_loaded.result c.open_loaded.ensures
    c.load-loaded.ensures.told c.load-loaded.ensures.fault c.load-loaded.ensures.no_fault

pub returns-clause-want_of_memory_has_its_cause : goal.returns-clause-want_of_memory_has_its_cause
returns-clause-want_of_memory_has_its_cause g c =
    λ is. has-cause (λ rows (loaded : Loaded). IsLoadedAs rows loaded.rows.items loaded.store.store) (g.T.OpensRows.wants c.args.alloc) c.load-loaded.result fault.Memory
    (rw is at c.open_loaded.ensures) c.load-loaded.ensures.wants refl
