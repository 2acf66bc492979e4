-- What a failed call may have done.
use Rattle.std.specs.Prelude.{◌≡◌, List, ◌∷◌}
use Rattle.ipam_model.specs.declared.entry.Called.{Called}
use Rattle.ipam_model.specs.declared.entry.Entry.{Entry}
use Rattle.ipam_model.specs.declared.entry.Entry.TheVariants as entry
use Rattle.ipam_model.specs.declared.entry.Fate.{Fate}
use Rattle.ipam_model.specs.declared.entry.Fate.TheVariants.{After, Before}
use Rattle.ipam_model.specs.Cluster.{ClusterState}
use Rattle.ipam_model.specs.History.{Base, Lawful, cluster_at}

-- the slot's call of this name, with this fate
pub record IsSameCall (c other : Called) (fate : Fate) : Type 0 where
  pub same_slot : other.slot ≡ c.slot
  pub same_call : other.call ≡ c.call
  pub has_fate : other.fate ≡ fate

-- A call of any fate may have had any other.
abbrev pub FateLaw : Type 0
FateLaw =
    (base : Base) (history : List Entry) (c : Called) (fate : Fate) → Lawful base (entry.Called c ∷ history)
    → (other : Called) × IsSameCall c other fate × Lawful base (entry.Called other ∷ history)

-- each slot runs in both clusters alike
abbrev pub HasSameSlots : (cluster other : ClusterState) → Type 0
HasSameSlots cluster other = cluster.slots ≡ other.slots

-- A call that failed before may have failed after instead: its request has the same answer, and every
-- slot has the same left, so that only the write may differ.
abbrev pub MayHaveDoneLaw : Type 0
MayHaveDoneLaw =
    (base : Base) (history : List Entry) (c : Called) → Lawful base (entry.Called c ∷ history) → c.fate ≡ Before
    → (other : Called) × IsSameCall c other After × Lawful base (entry.Called other ∷ history)
    × (other.answer ≡ c.answer)
    × HasSameSlots (cluster_at base (entry.Called c ∷ history)) (cluster_at base (entry.Called other ∷ history))
