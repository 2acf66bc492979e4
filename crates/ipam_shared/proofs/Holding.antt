-- What each deed leaves the cluster kept, fed and sure for.
use Rattle.std.proofs.Common.{◌≡◌, ◌<◌, ℕ, inr, refl, List, ◌∷◌, ◌++◌, Option, Some, None, Result, Ok, Err}
use Rattle.std.specs.Prelude.{IfOk, IfSome, IfNone, OnErr}
use Rattle.ipam_io.specs.Counts.{Rose}
use Rattle.ipam_keeper.specs.declared.keeper.KeepFault.{KeepFault}
use Rattle.ipam_keeper.specs.declared.keeper.KeepFault.TheVariants.{Failed, Memory}
use Rattle.ipam_keeper.specs.Keeping.{OnFailed, UnlessFailed}
use Rattle.ipam_model.specs.declared.entry.Entry.{Entry}
use Rattle.ipam_model.specs.History.{Base}
use Rattle.ipam_shared.specs.declared.kept.Kept.{Kept}
use Rattle.ipam_shared.specs.Feed.{FedWith, StaysFed}
use Rattle.ipam_shared.specs.Kept.{Tells}
use Rattle.ipam_shared.specs.Sure.{HeldFor, StaysSure, SureWith}
use Rattle.ipam_shared.specs.Deeds.{told_by, told_if}
use Rattle.ipam_shared.specs.Settling.{Settles}

module _ {D : Type 0} (tells sure : Tells D) (old new : Kept D) where
  held-with : (told : Entry) → FedWith tells old new told → SureWith tells sure old new told → (base : Base) (history : List Entry) → HeldFor tells sure old base history → HeldFor tells sure new base (told ∷ history)
  held-with told fed surely base history h = record { fed = fed base history h.fed; is_sure = surely.stays base history h.fed.kept_for h.is_sure }

  pub held-still : StaysFed tells old new → StaysSure tells sure old new → (base : Base) (history : List Entry) → HeldFor tells sure old base history → HeldFor tells sure new base history
  held-still fed surely base history h = record { fed = fed base history h.fed; is_sure = surely base history h.fed.kept_for h.is_sure }

  -- by an answer with an entry, or with a fault
  pub held-by : {E : Type 0} (result : Result Entry E) → IfOk result (FedWith tells old new) → OnErr result (StaysFed tells old new) → IfOk result (SureWith tells sure old new) → OnErr result (StaysSure tells sure old new)
      → (base : Base) (history : List Entry) → HeldFor tells sure old base history → HeldFor tells sure new base (told_by result ++ history)
  held-by (Ok told) fed still surely still_sure = held-with told fed surely
  held-by (Err fault) fed still surely still_sure = held-still still still_sure

  -- by an entry, or none
  pub held-if : (result : Option Entry) → IfSome result (FedWith tells old new) → IfNone result (StaysFed tells old new) → IfSome result (SureWith tells sure old new) → IfNone result (StaysSure tells sure old new)
      → (base : Base) (history : List Entry) → HeldFor tells sure old base history → HeldFor tells sure new base (told_if result ++ history)
  held-if (Some told) fed still surely still_sure = held-with told fed surely
  held-if None fed still surely still_sure = held-still still still_sure

-- what a settling that was asked for answers
module _ {D : Type 0} (tells sure : Tells D) (faults : D → ℕ) (broken : D → Type 0) (moment : ℕ) (before after : Kept D) (due : before.settled < moment) where
  pub settles-not : (why : KeepFault) → OnFailed {T = Unit {0}} (Err why) (Rose (faults before.keeper) (faults after.keeper)) → OnFailed {T = Unit {0}} (Err why) (broken after.keeper)
      → UnlessFailed {T = Unit {0}} (Err why) (faults after.keeper ≡ faults before.keeper) → Settles tells sure faults broken moment before (Err why) after
  settles-not Failed rose breaks same = record { due = due; fault = rose; breaks = breaks }
  settles-not Memory rose breaks same = record { due = due; no_fault = same }

  pub settles-so : sure after.keeper ≡ tells after.keeper → after.settled ≡ after.cluster.entries → faults after.keeper ≡ faults before.keeper → Settles tells sure faults broken moment before (Ok after.settled) after
  settles-so done counted same = (refl, inr (record { due = due; done = done; counted = counted; no_fault = same }))
