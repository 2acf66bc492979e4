-- What comes of a turn.
use Rattle.std.specs.Prelude.{◌≡◌, ℕ, ◌⊎◌, Some, None}
use Rattle.ipam_io.specs.Counts.{Rose}
use Rattle.ipam_records.specs.declared.call.Write.{Write}
use Rattle.ipam_model.specs.declared.entry.Called.{Called}
use Rattle.ipam_model.specs.declared.entry.Entry.{Entry}
use Rattle.ipam_model.specs.declared.entry.Entry.TheVariants as entry
use Rattle.ipam_model.specs.declared.entry.Fate.TheVariants.{Well, Before}
use Rattle.ipam_cluster.specs.Cluster.{slot_of_cluster}
use Rattle.ipam_cluster.specs.Preparing.{write_next}
use Rattle.ipam_cluster.specs.Turns.{IsTurn}
use Rattle.ipam_shared.specs.declared.kept.Kept.{Kept}
use Rattle.ipam_shared.specs.declared.write.RowWrite.{RowWrite}
use Rattle.ipam_shared.specs.Doubt.{WritesKeyOf}
use Rattle.ipam_shared.specs.Giving.{Gives}
use Rattle.ipam_shared.specs.Rows.{change_of, key_written, row_back, texts_written}

-- the call was done: the keeper took what there was to write, and nothing is in doubt
pub record IsDone {D : Type 0} (faults : D → ℕ) (slot : ℕ) (old new : Kept D) (told : Entry) : Type 0 where
  pub turn : IsTurn slot Well told
  pub no_fault : faults new.keeper ≡ faults old.keeper
  pub sure : new.doubt ≡ None

module _ {D : Type 0} (gives : Gives D) where
  -- what was in doubt could not be put back: the keeper was given its row, and failed
  pub record StaysInDoubt (old new : Kept D) : Type 0 where
    pub write : RowWrite
    pub was : old.doubt ≡ Some write
    pub same : new.doubt ≡ old.doubt
    pub given : gives old.keeper (change_of (row_back (key_written write) old.cluster.store.store)) new.keeper

  -- Nothing was in doubt any more, and now the call's own write is: what the slot's next call asks for
  -- was given to the keeper, which failed. Where nothing had been in doubt, that was all it was given.
  pub record ComesInDoubt (slot : ℕ) (old new : Kept D) (told : Entry) : Type 0 where
    pub write : Write
    pub asked : write_next (slot_of_cluster old.cluster slot) old.cluster.store.store ≡ Some write
    pub doubt : new.doubt ≡ Some (texts_written write)
    pub between : D
    pub first : old.doubt ≡ None → between ≡ old.keeper
    pub given : gives between (change_of (texts_written write)) new.keeper
    pub call : Called
    pub is_called : told ≡ entry.Called call
    pub own : WritesKeyOf (texts_written write) call.call

  -- the keeper failed, so the call failed before it was done
  pub record IsFailed (faults : D → ℕ) (slot : ℕ) (old new : Kept D) (told : Entry) : Type 0 where
    pub turn : IsTurn slot Before told
    pub fault : Rose (faults old.keeper) (faults new.keeper)
    pub doubt : StaysInDoubt old new ⊎ ComesInDoubt slot old new told

-- where no call was made, what was in doubt may have been put back
pub record IsRefused {D : Type 0} (faults : D → ℕ) (old new : Kept D) : Type 0 where
  pub no_fault : faults new.keeper ≡ faults old.keeper
  pub doubt : (new.doubt ≡ old.doubt) ⊎ (new.doubt ≡ None)
