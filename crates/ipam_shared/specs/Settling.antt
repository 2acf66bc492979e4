-- What a pass knows to be sure, and what a settling turn does.
use Rattle.std.specs.Prelude.{◌≡◌, ℕ, ◌<◌, ◌≤◌, ◌⊎◌, ⊤, List, ◌++◌, Option, Some, None, Result, Ok, Err, IfSome}
use Rattle.ipam_io.specs.Counts.{Rose}
use Rattle.ipam_keeper.specs.declared.keeper.KeepFault.{KeepFault}
use Rattle.ipam_keeper.specs.declared.keeper.KeepFault.TheVariants.{Failed, Memory}
use Rattle.ipam_model.specs.declared.entry.Entry.{Entry}
use Rattle.ipam_model.specs.History.{Base}
use Rattle.ipam_shared.specs.declared.kept.Kept.{Kept}
use Rattle.ipam_shared.specs.Kept.{KeptFor, Tells}
use Rattle.ipam_shared.specs.Sure.{SureFor}
use Rattle.ipam_shared.specs.declared.faults.SharedFault.{SharedFault}
use Rattle.ipam_shared.specs.declared.faults.SharedFault.TheVariants.{SpentPass, Inner}
use Rattle.ipam_shared.specs.PassValue.{PassValue}
use Rattle.ipam_shared.specs.Passes.{IsReached}

-- ---- what is sure

-- At a turn within what was seen, the cluster was kept for the history that there was then, and its keeper
-- was sure of what it had at a moment with at least so many entries.
pub record HadSettledIn {D : Type 0} (tells sure : Tells D) (base : Base) (seen : List Entry) (count : ℕ) : Type 0 where
  pub kept : Kept D
  pub later : List Entry
  pub earlier : List Entry
  pub is_seen : seen ≡ later ++ earlier
  pub stood : KeptFor tells kept base earlier
  pub is_sure : SureFor sure kept base earlier
  pub enough : count ≤ kept.settled

abbrev pub HadSettled : {D : Type 0} → (tells sure : Tells D) → PassValue → (count : ℕ) → Type 0
HadSettled tells sure pass count = HadSettledIn tells sure pass.base pass.seen count

-- all that the pass has learned was sure at such a turn, and with it all that was done in its slot
pub record WasSettled {D : Type 0} (tells sure : Tells D) (pass : PassValue) : Type 0 where
  pub had : HadSettled tells sure pass pass.moment
  pub reached : IsReached pass

-- what the pass knows to be sure was sure
abbrev pub IsSure : {D : Type 0} → (tells sure : Tells D) → PassValue → Type 0
IsSure tells sure pass = IfSome pass.sure (HadSettled tells sure pass)

-- so many entries are known to be sure, and these are enough
abbrev pub IsWithin : (moment : ℕ) → Option ℕ → Type 0
IsWithin moment None = ⊥
IsWithin moment (Some count) = moment ≤ count

-- the pass knows all that it has learned to be sure
abbrev pub KnowsSure : PassValue → Type 0
KnowsSure pass = IsWithin pass.moment pass.sure

-- ---- a settling

module _ {D : Type 0} (tells sure : Tells D) (faults : D → ℕ) (broken : D → Type 0) (moment : ℕ) where
  -- so many entries were not sure, and now the keeper is sure of all rows
  pub record MakesSure (before after : Kept D) : Type 0 where
    pub due : before.settled < moment
    pub done : sure after.keeper ≡ tells after.keeper
    pub counted : after.settled ≡ after.cluster.entries
    pub no_fault : faults after.keeper ≡ faults before.keeper

  -- they were not, and the keeper failed to make sure of them
  pub record FailsToSettle (before after : Kept D) : Type 0 where
    pub due : before.settled < moment
    pub fault : Rose (faults before.keeper) (faults after.keeper)
    pub breaks : broken after.keeper

  -- they were not, and there was no memory for that
  pub record FindsNoMemory (before after : Kept D) : Type 0 where
    pub due : before.settled < moment
    pub no_fault : faults after.keeper ≡ faults before.keeper

  -- they were, and nothing was asked of the keeper
  pub record WasSureBefore (before after : Kept D) : Type 0 where
    pub enough : moment ≤ before.settled
    pub same : after ≡ before

  abbrev pub IsMadeSure : (before after : Kept D) → Type 0
  IsMadeSure before after = WasSureBefore before after ⊎ MakesSure before after

  -- what the turn did, by how many entries it answers to be sure, and by its fault
  abbrev pub Settles : (before : Kept D) → Result ℕ KeepFault → (after : Kept D) → Type 0
  Settles before (Ok count) after = (count ≡ after.settled) × IsMadeSure before after
  Settles before (Err Failed) after = FailsToSettle before after
  Settles before (Err Memory) after = FindsNoMemory before after

  abbrev pub SettlesAs : {T : Type 0} → Result T (SharedFault KeepFault) → (before after : Kept D) → Type 0
  SettlesAs (Ok done) before after = IsMadeSure before after
  SettlesAs (Err SpentPass) before after = ⊤
  SettlesAs (Err (Inner Failed)) before after = FailsToSettle before after
  SettlesAs (Err (Inner Memory)) before after = FindsNoMemory before after
