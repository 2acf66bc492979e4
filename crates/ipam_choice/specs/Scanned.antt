-- What a scan sees, and what it finds.
use Rattle.std.specs.Prelude.{◌≡◌, ◌⊎◌, ℕ, ◌<◌, ◌≤◌, Bool, true, false, ◌&&◌, nat_le, List, [], Option, Some, None, is_none, if◌then◌else◌}
use Rattle.ipam_addr.specs.Shape.{AddrValue, CidrValue}
use Rattle.ipam_addr.specs.Slots.{last_slot_of, slot_of}
use Rattle.ipam_pool.specs.declared.pools.Pool.{Pool}
use Rattle.ipam_pool.specs.Spans.{is_reserved_by}
use Rattle.ipam_records.specs.Listing.{rows_of}
use Rattle.ipam_records.specs.BlockLists.{cidrs_of_node, cidrs_unowned, cidrs_roomy}
use Rattle.ipam_model.specs.Reads.{StoredRecord}
use Rattle.ipam_model.specs.Usable.{Asked, is_usable}
use Rattle.ipam_model.specs.Choice.{Ranked, Pick, Picks, Lacks}
use Rattle.ipam_choice.specs.declared.level.Level.{Level}
use Rattle.ipam_choice.specs.declared.level.Level.TheVariants.{Own, Unconfirmed, Unclaimed, Foreign}
use Rattle.ipam_choice.specs.declared.scan.Scan.{Scan}
use Rattle.ipam_choice.specs.Confirmed.{has_confirmed}
use Rattle.ipam_choice.specs.First.{first_of}
use Rattle.ipam_choice.specs.Sight.{Sight, block_under, has_free, first_in}

abbrev pub sight_of : Scan → Sight
sight_of scan = record {
  node = scan.node.now;
  strict = scan.strict;
  may_claim = scan.may_claim;
  confirmed = has_confirmed scan.confirmed.now;
  reserved = is_reserved_by scan.reserved.now;
  blocks = rows_of scan.blocks;
}

-- all blocks that may have a rank of the level are in the list: those of the node are all of its
-- blocks, or all with a free address, since a block without one has no rank
abbrev pub IsListFor : Sight → Level → List CidrValue → Type 0
IsListFor sight Own list = (list ≡ cidrs_of_node sight.node sight.blocks) ⊎ (list ≡ cidrs_roomy sight.blocks)
IsListFor sight Unconfirmed list = (list ≡ cidrs_of_node sight.node sight.blocks) ⊎ (list ≡ cidrs_roomy sight.blocks)
IsListFor sight Unclaimed list = list ≡ (if sight.may_claim then cidrs_unowned sight.blocks else [])
IsListFor sight Foreign list = list ≡ (if sight.strict then [] else cidrs_roomy sight.blocks)

-- whether the first is there, and the other not or at a higher base
abbrev pub is_lower : Option Ranked → Option Ranked → Bool
is_lower None other = false
is_lower (Some found) None = true
is_lower (Some found) (Some other) = nat_le found.slot.base other.slot.base

abbrev pub lower : Option Ranked → Option Ranked → Option Ranked
lower found other = if is_lower found other then found else other

-- whether the slot of this number has no block and some address that is not reserved
abbrev pub is_bare_slot : (AddrValue → Bool) → List StoredRecord → Pool → ℕ → Bool
is_bare_slot reserved blocks pool k =
    is_none (block_under blocks (slot_of pool.cidr pool.size k)) && has_free reserved (slot_of pool.cidr pool.size k)

-- the first such slot
pub record IsFirstBare (reserved : AddrValue → Bool) (blocks : List StoredRecord) (pool : Pool) (k : ℕ) : Type 0 where
  pub within : k ≤ last_slot_of pool.cidr pool.size
  pub bare : is_bare_slot reserved blocks pool k ≡ true
  pub least : (j : ℕ) → j < k → is_bare_slot reserved blocks pool j ≡ false

-- the first slot of the pool that has a rank of this number, where the pool may be used
abbrev pub if_usable : Asked → Sight → (number : ℕ) → Pool → Option Ranked
if_usable asked sight number pool = if is_usable asked pool then first_in sight number pool else None

abbrev pub first_usable : Asked → Sight → List Pool → (number : ℕ) → Option Ranked
first_usable asked sight pools number = first_of (if_usable asked sight number) pools

abbrev pub pick_from : Option Ranked → Pick
pick_from None = Lacks
pick_from (Some ranked) = Picks ranked
