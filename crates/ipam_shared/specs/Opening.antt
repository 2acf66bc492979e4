-- What comes of opening a keeper's rows.
use Rattle.std.specs.Prelude.{◌≡◌, ℕ, List, [], None}
use Rattle.ipam_io.specs.Counts.{Rose}
use Rattle.ipam_records.specs.declared.call.Row.{Row as RowText}
use Rattle.ipam_keeper.specs.Keeping.{IsTold}
use Rattle.ipam_model.specs.Opened.{IsRefusedBy, OpensAs}
use Rattle.ipam_cluster.specs.declared.cluster.Cluster.{Cluster}
use Rattle.ipam_cluster.specs.Cluster.{StandsFor, slot_of_cluster}
use Rattle.ipam_store.specs.Follows.{Follows}
use Rattle.ipam_store.specs.FeedShape.{RingValue}
use Rattle.ipam_shared.specs.declared.kept.Kept.{Kept}
use Rattle.ipam_shared.specs.declared.kept.KeptFault.{KeptFault}
use Rattle.ipam_shared.specs.declared.kept.KeptFault.TheVariants.{Keeper, Refused, Memory}
use Rattle.ipam_shared.specs.Kept.{KeptFor, Tells}
use Rattle.ipam_shared.specs.Rows.{texts_loaded}

-- the rows were loaded and opened, in a cluster in which nothing runs and of which nothing is in doubt
pub record IsOpened {D : Type 0} (tells : Tells D) (faults name : D → ℕ) (keeper : D) (first : ℕ) (kept : Kept D) : Type 0 where
  pub loaded : List RowText
  pub told : IsTold (tells keeper) loaded
  pub opens : OpensAs (texts_loaded loaded) kept.cluster.store.store
  pub entries : kept.cluster.entries ≡ first
  pub idle : (slot : ℕ) → slot_of_cluster kept.cluster slot ≡ None
  pub stands : KeptFor tells kept (record { store = kept.cluster.store.store; first = first }) []
  pub sure : kept.doubt ≡ None
  pub same_rows : tells kept.keeper ≡ tells keeper
  pub no_fault : faults kept.keeper ≡ faults keeper
  pub same : name kept.keeper ≡ name keeper

-- the rows were opened in a cluster after so many entries, in which nothing runs, and its routes are fed
pub record IsFed (first : ℕ) (rows : List RowText) (both : Cluster × RingValue) : Type 0 where
  pub opens : OpensAs (texts_loaded rows) both.0.store.store
  pub entries : both.0.entries ≡ first
  pub idle : (slot : ℕ) → slot_of_cluster both.0 slot ≡ None
  pub stands : StandsFor both.0 (record { store = both.0.store.store; first = first }) []
  pub fed : Follows both.1 both.0.store.store []

-- what is so of each fault
abbrev pub IsFaultOf : {D : Type 0} → Tells D → (faults : D → ℕ) → (keeper after : D) → KeptFault → Type 0
IsFaultOf tells faults keeper after Keeper = Rose (faults keeper) (faults after)
IsFaultOf tells faults keeper after (Refused number about) =
    (faults after ≡ faults keeper)
    × ((loaded : List RowText) × IsTold (tells keeper) loaded × IsRefusedBy (texts_loaded loaded) number about)
IsFaultOf tells faults keeper after Memory = faults after ≡ faults keeper

-- the keeper comes back with its rows, and with the fault
pub record IsNotOpened {D : Type 0} (tells : Tells D) (faults name : D → ℕ) (keeper : D) (answer : D × KeptFault) : Type 0 where
  pub same_rows : tells answer.0 ≡ tells keeper
  pub same : name answer.0 ≡ name keeper
  pub fault : IsFaultOf tells faults keeper answer.0 answer.1
