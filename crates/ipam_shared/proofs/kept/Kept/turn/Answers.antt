use Rattle.std.proofs.Common.{◌≡◌, ◌⊎◌, ℕ, Ok, Err, Result, refl, subst}
use Rattle.std.specs.Prelude.{IfOk, OnErr}
use Rattle.ipam_model.specs.declared.entry.Entry.{Entry}
use Rattle.ipam_cluster.specs.declared.cluster.Cluster.{Cluster}
use Rattle.ipam_cluster.specs.declared.faults.PrepareFault.{PrepareFault}
use Rattle.ipam_cluster.specs.Cluster.{IsUnchanged}
use Rattle.ipam_shared.specs.declared.kept.Kept.{Kept}
use Rattle.ipam_shared.specs.Feed.{StaysFed}
use Rattle.ipam_shared.specs.Giving.{Gives}
use Rattle.ipam_shared.specs.Kept.{KeepsWith, Stays, Tells}
use Rattle.ipam_shared.specs.KeptTurning.{IsDone, IsFailed}
use Rattle.ipam_shared.proofs.FedStanding.{stays-fed}
use Rattle.ipam_shared.proofs.Standing.{keeps-over, stays-left, turned-over}
use Rattle.ipam_shared.proofs.SureStanding.{sure-over, unmade-over}
use Rattle.ipam_shared.proofs.kept.Kept.turn.Goals as goal

-- what is prepared leaves the cluster as it was
made-over : {D E : Type 0} (tells : Tells D) (old between new : Kept D) → Stays tells old between → (result : Result Entry E) → IfOk result (KeepsWith tells between new) → IfOk result (KeepsWith tells old new)
made-over tells old between new stay (Ok told) keeps = keeps-over tells old between new told stay keeps
made-over tells old between new stay (Err e) keeps = tt

pub returns-clause-keeps : goal.returns-clause-keeps
returns-clause-keeps g c =
    made-over g.D.Keeper.rows c.args.self.now (record { cluster = c.prepare.new.self; keeper = c.args.self.now.keeper; doubt = c.args.self.now.doubt; ring = c.args.self.now.ring; settled = c.args.self.now.settled }) c.make.new.self
    (stays-left g.D.Keeper.rows c.args.self.now (record { cluster = c.prepare.new.self; keeper = c.args.self.now.keeper; doubt = c.args.self.now.doubt; ring = c.args.self.now.ring; settled = c.args.self.now.settled }) c.prepare.ensures.unchanged (record { keeper = refl; doubt = refl }) refl)
    c.make.result c.make.ensures.keeps

done-over : {D : Type 0} (gives : Gives D) (faults : D → ℕ) (slot at : ℕ) (old : Kept D) (cluster : Cluster) (new : Kept D) → IsUnchanged old.cluster cluster → at ≡ slot
    → (result : Result Entry PrepareFault)
    → IfOk result (λ told. IsDone faults at (record { cluster = cluster; keeper = old.keeper; doubt = old.doubt; ring = old.ring; settled = old.settled }) new told ⊎ IsFailed gives faults at (record { cluster = cluster; keeper = old.keeper; doubt = old.doubt; ring = old.ring; settled = old.settled }) new told)
    → IfOk result (λ told. IsDone faults slot old new told ⊎ IsFailed gives faults slot old new told)
done-over gives faults slot at old cluster new unchanged own (Ok told) turned =
    turned-over gives faults slot old cluster unchanged new told
    (subst (λ n. IsDone faults n (record { cluster = cluster; keeper = old.keeper; doubt = old.doubt; ring = old.ring; settled = old.settled }) new told ⊎ IsFailed gives faults n (record { cluster = cluster; keeper = old.keeper; doubt = old.doubt; ring = old.ring; settled = old.settled }) new told) own turned)
done-over gives faults slot at old cluster new unchanged own (Err e) turned = tt

pub returns-clause-turned : goal.returns-clause-turned
returns-clause-turned g c =
    done-over g.D.Keeper.given g.D.Keeper.faults c.args.slot c.in_ok-prepared.prepared.slot c.args.self.now c.prepare.new.self c.make.new.self
    c.prepare.ensures.unchanged c.in_ok-prepared.ensures.slot c.make.result c.make.ensures.turned

pub returns-clause-sure : goal.returns-clause-sure
returns-clause-sure g c =
    sure-over g.D.Keeper.rows g.D.Keeper.settled c.args.self.now (record { cluster = c.prepare.new.self; keeper = c.args.self.now.keeper; doubt = c.args.self.now.doubt; ring = c.args.self.now.ring; settled = c.args.self.now.settled }) c.make.new.self
    (stays-left g.D.Keeper.rows c.args.self.now (record { cluster = c.prepare.new.self; keeper = c.args.self.now.keeper; doubt = c.args.self.now.doubt; ring = c.args.self.now.ring; settled = c.args.self.now.settled }) c.prepare.ensures.unchanged (record { keeper = refl; doubt = refl }) refl) refl (λ base history h. h)
    c.make.result c.make.ensures.sure

pub returns-clause-still_sure : goal.returns-clause-still_sure
returns-clause-still_sure g c =
    unmade-over g.D.Keeper.rows g.D.Keeper.settled c.args.self.now (record { cluster = c.prepare.new.self; keeper = c.args.self.now.keeper; doubt = c.args.self.now.doubt; ring = c.args.self.now.ring; settled = c.args.self.now.settled }) c.make.new.self
    (stays-left g.D.Keeper.rows c.args.self.now (record { cluster = c.prepare.new.self; keeper = c.args.self.now.keeper; doubt = c.args.self.now.doubt; ring = c.args.self.now.ring; settled = c.args.self.now.settled }) c.prepare.ensures.unchanged (record { keeper = refl; doubt = refl }) refl) (λ base history h. h)
    c.make.result c.make.ensures.still_sure

unfed-over : {D E : Type 0} (tells : Tells D) (old between new : Kept D) → StaysFed tells old between → (result : Result Entry E) → OnErr result (StaysFed tells between new) → OnErr result (StaysFed tells old new)
unfed-over tells old between new stay (Ok told) behind = tt
unfed-over tells old between new stay (Err e) behind = λ base history h. behind base history (stay base history h)

pub returns-clause-still_fed : goal.returns-clause-still_fed
returns-clause-still_fed g c =
    unfed-over g.D.Keeper.rows c.args.self.now (record { cluster = c.prepare.new.self; keeper = c.args.self.now.keeper; doubt = c.args.self.now.doubt; ring = c.args.self.now.ring; settled = c.args.self.now.settled }) c.make.new.self
    (stays-fed g.D.Keeper.rows c.args.self.now (record { cluster = c.prepare.new.self; keeper = c.args.self.now.keeper; doubt = c.args.self.now.doubt; ring = c.args.self.now.ring; settled = c.args.self.now.settled })
    (stays-left g.D.Keeper.rows c.args.self.now (record { cluster = c.prepare.new.self; keeper = c.args.self.now.keeper; doubt = c.args.self.now.doubt; ring = c.args.self.now.ring; settled = c.args.self.now.settled }) c.prepare.ensures.unchanged (record { keeper = refl; doubt = refl }) refl) (λ base writes h. h))
    c.make.result c.make.ensures.still_fed
