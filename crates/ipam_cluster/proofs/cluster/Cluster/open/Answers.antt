use Rattle.std.proofs.Common.{List, refl, subst}
use Rattle.ipam_model.specs.Opened.{OpensAs}
use Rattle.ipam_opening.specs.Opening.{texts_with}
use Rattle.ipam_records.specs.declared.call.Row.{Row as RowText}
use Rattle.ipam_cluster.specs.Turns.{texts_in}
use Rattle.ipam_cluster.proofs.Opening.{opens}
use Rattle.ipam_cluster.proofs.cluster.Cluster.open.Goals as goal

pub returns-clause-stands : goal.returns-clause-stands
returns-clause-stands c =
    let opened : OpensAs (texts_in c.args.base.now) c.in_ok-store.store.store =
    subst (λ (rows : List RowText). OpensAs (texts_with rows c.args.base.now.counter) c.in_ok-store.store.store) c.as_slice.ensures.value c.in_ok-store.ensures.opened in
    opens _ (texts_in c.args.base.now) c.args.base.now.first opened refl c.in-Ok.ensures.idle
