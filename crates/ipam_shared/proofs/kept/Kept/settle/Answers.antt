use Rattle.std.proofs.Common.{inl, List, Option, refl, sym, subst}
use Rattle.ipam_records.specs.declared.call.Row.{Row as RowText}
use Rattle.ipam_shared.specs.Rows.{AreToldKept}
use Rattle.ipam_shared.proofs.FedStanding.{stays-fed}
use Rattle.ipam_shared.proofs.Standing.{stays}
use Rattle.ipam_shared.proofs.SureStanding.{settled-sure, unsettled-sure}
use Rattle.ipam_shared.proofs.kept.Kept.settle.Goals as goal

pub returns-in_err-settle-clause-unchanged : goal.returns-in_err-settle-clause-unchanged
returns-in_err-settle-clause-unchanged g c =
    let old = c.args.self.now in
    stays g.D.Keeper.rows old (record { cluster = old.cluster; keeper = c.settle.new.self; doubt = old.doubt; ring = old.ring; settled = old.settled }) (record { store = refl; entries = refl; slots = λ slot. refl })
    (λ sound are. subst (λ (t : Option (List RowText)). AreToldKept t old.cluster.store.store old.doubt) (sym c.settle.ensures.kept) are) (inl refl) refl

pub returns-in_err-settle-clause-still_fed : goal.returns-in_err-settle-clause-still_fed
returns-in_err-settle-clause-still_fed g c =
    let old = c.args.self.now in
    stays-fed g.D.Keeper.rows old (record { cluster = old.cluster; keeper = c.settle.new.self; doubt = old.doubt; ring = old.ring; settled = old.settled }) (returns-in_err-settle-clause-unchanged g c) (λ base writes h. h)

pub returns-in_err-settle-clause-still_sure : goal.returns-in_err-settle-clause-still_sure
returns-in_err-settle-clause-still_sure g c =
    let old = c.args.self.now in
    unsettled-sure g.D.Keeper.rows g.D.Keeper.settled old (record { cluster = old.cluster; keeper = c.settle.new.self; doubt = old.doubt; ring = old.ring; settled = old.settled }) refl c.settle.ensures.settled (returns-in_err-settle-clause-unchanged g c)

pub returns-clause-unchanged : goal.returns-clause-unchanged
returns-clause-unchanged g c =
    let old = c.args.self.now in
    stays g.D.Keeper.rows old (record { cluster = old.cluster; keeper = c.settle.new.self; doubt = old.doubt; ring = old.ring; settled = c.entries-self.result }) (record { store = refl; entries = refl; slots = λ slot. refl })
    (λ sound are. subst (λ (t : Option (List RowText)). AreToldKept t old.cluster.store.store old.doubt) (sym c.settle.ensures.kept) are) (inl refl) refl

pub returns-clause-still_fed : goal.returns-clause-still_fed
returns-clause-still_fed g c =
    let old = c.args.self.now in
    stays-fed g.D.Keeper.rows old (record { cluster = old.cluster; keeper = c.settle.new.self; doubt = old.doubt; ring = old.ring; settled = c.entries-self.result }) (returns-clause-unchanged g c) (λ base writes h. h)

pub returns-clause-still_sure : goal.returns-clause-still_sure
returns-clause-still_sure g c =
    let old = c.args.self.now in
    settled-sure g.D.Keeper.rows g.D.Keeper.settled old (record { cluster = old.cluster; keeper = c.settle.new.self; doubt = old.doubt; ring = old.ring; settled = c.entries-self.result }) c.entries-self.ensures c.in_ok-settle.ensures.done (returns-clause-unchanged g c)
