-- How blocks change over time.
use Rattle.std.specs.Prelude.{◌≡◌, ℕ, ◌<◌, ◌≤◌, ◌⊎◌, Contains, List}
use Rattle.ipam_addr.specs.Shape.{CidrValue}
use Rattle.ipam_block.specs.declared.allocation.Allocation.{Allocation}
use Rattle.ipam_block.specs.Shape.{BlockValue}
use Rattle.ipam_records.specs.Datastore.{Datastore}
use Rattle.ipam_records.specs.declared.key.Key.TheVariants as key
use Rattle.ipam_records.specs.declared.record.Record.TheVariants as record_of
use Rattle.ipam_records.specs.Sound.{IsDatastore}
use Rattle.ipam_model.specs.declared.entry.Entry.{Entry}
use Rattle.ipam_model.specs.AffinityLaw.{HasAt}
use Rattle.ipam_model.specs.Consistent.{IsConsistent}
use Rattle.ipam_model.specs.History.{Base, Lawful, store_before}
use Rattle.ipam_model.specs.Moments.{Owns}
use Rattle.ipam_model.specs.Owners.{Owner}

-- the block of this CIDR, with the revision of its row
pub record BlockAt (store : Datastore) (cidr : CidrValue) : Type 0 where
  pub revision : ℕ
  pub b : BlockValue
  pub there : HasAt store (key.Block cidr) revision (record_of.Block b)

-- It was not written between, or was written with a higher sequence number and a later revision.
abbrev pub IsLater : {old new : Datastore} → {cidr : CidrValue} → BlockAt old cidr → BlockAt new cidr → Type 0
IsLater old new =
    ((new.revision ≡ old.revision) × (new.b ≡ old.b))
    ⊎ ((old.revision < new.revision) × (old.b.sequence < new.b.sequence))

-- A block that is there stays. Its sequence number never falls, and rises with each write of it.
abbrev pub BlocksStayLaw : Type 0
BlocksStayLaw =
    (base : Base) (history : List Entry) → IsDatastore base.store → Lawful base history
    → (first second : ℕ) → first ≤ second
    → (cidr : CidrValue) (old : BlockAt (store_before base history first) cidr)
    → (new : BlockAt (store_before base history second) cidr) × IsLater old new

-- What a block holds with a stamp that it could have given before, it held before.
abbrev pub StampsLaw : Type 0
StampsLaw =
    (base : Base) (history : List Entry) → IsDatastore base.store → Lawful base history
    → (first second : ℕ) → first ≤ second
    → (cidr : CidrValue) (old : BlockAt (store_before base history first) cidr) (new : BlockAt (store_before base history second) cidr)
    → (a : Allocation) → Contains new.b.allocations a → a.stamp ≤ old.b.sequence → Contains old.b.allocations a

-- Who owns an address at two moments, with one stamp, owned it at each moment between. So an owner that
-- is gone never comes back with the same stamp.
abbrev pub NoReturnLaw : Type 0
NoReturnLaw =
    (base : Base) (history : List Entry) → IsConsistent base.store → Lawful base history
    → (first second third : ℕ) → first ≤ second → second ≤ third
    → (owner : Owner) → Owns (store_before base history first) owner → Owns (store_before base history third) owner
    → Owns (store_before base history second) owner
