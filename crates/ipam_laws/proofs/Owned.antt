-- Owners and the blocks that hold them.
use Rattle.std.proofs.Common.{◌≡◌, inl, inr, ℕ, List, [], ◌∷◌, map, Some, refl, sym, ap, ◌∙◌, subst}
use Rattle.std.specs.Prelude.{Contains}
use Rattle.std.proofs.lemmas.List.Elements.{Contains-append_cases, Contains-append_left, Contains-append_right}
use Rattle.ipam_addr.specs.Shape.{AddrValue, CidrValue}
use Rattle.ipam_addr.specs.Holding.{Holds}
use Rattle.ipam_block.specs.declared.allocation.Allocation.{Allocation}
use Rattle.ipam_block.specs.Shape.{BlockValue}
use Rattle.ipam_block.specs.Sound.{IsBlock}
use Rattle.ipam_records.specs.declared.key.Key.TheVariants as key
use Rattle.ipam_records.specs.declared.record.Record.{Record}
use Rattle.ipam_records.specs.declared.record.Record.TheVariants as record_of
use Rattle.ipam_records.specs.Datastore.{Datastore}
use Rattle.ipam_records.specs.Sound.{IsDatastore}
use Rattle.ipam_model.specs.BlockLaw.{BlockAt}
use Rattle.ipam_model.specs.Consistent.{IsConsistent, IsSlotOfSome, pools_in}
use Rattle.ipam_model.specs.Moments.{Owns}
use Rattle.ipam_model.specs.Owners.{Owner, owner_of, owners_in, owners_in_row}
use Rattle.ipam_model.specs.Reads.{StoredRecord}
use Rattle.ipam_laws.proofs.Calls.{found-block, found-key}
use Rattle.ipam_laws.proofs.Members.{in-cons, in-here, in-map, in-nothing, in-there, out-map}
use Rattle.ipam_laws.proofs.OwnersOrder.{owned-inside, pools-table, same-slot}
use Rattle.ipam_laws.proofs.RowOrder.{found-member, member-found}
use Rattle.ipam_laws.proofs.SoundSteps.{row-there}

-- ---- owners of rows

pub owner-row : (rows : List StoredRecord) (o : Owner) → Contains (owners_in rows) o → (row : StoredRecord) × Contains rows row × Contains (owners_in_row row) o
owner-row [] o h = absurd (in-nothing o h)
owner-row (row ∷ rows) o h = elim (Contains-append_cases (owners_in_row row) (owners_in rows) o h) [
  | inl own ↦ (row, in-here row rows, own)
  | inr other ↦ let (found, among, own) = owner-row rows o other in (found, in-there found row rows among, own)
]

pub row-owner : (rows : List StoredRecord) (row : StoredRecord) (o : Owner) → Contains rows row → Contains (owners_in_row row) o → Contains (owners_in rows) o
row-owner [] row o among own = absurd (in-nothing row among)
row-owner (first ∷ rows) row o among own = elim (in-cons row first rows among) [
  | inl same ↦ Contains-append_left (owners_in_row first) (owners_in rows) o (subst (λ (r : StoredRecord). Contains (owners_in_row r) o) (sym same) own)
  | inr rest ↦ Contains-append_right (owners_in_row first) (owners_in rows) o (row-owner rows row o rest own)
]

-- ---- owners of blocks

-- the allocation that records the owner, in the block of this CIDR
pub record HeldIn (store : Datastore) (cidr : CidrValue) (o : Owner) : Type 0 where
  pub holding : BlockAt store cidr
  pub named : holding.b.cidr ≡ cidr
  pub a : Allocation
  pub among : Contains holding.b.allocations a
  pub is_owner : owner_of cidr a ≡ o

-- the block at a CIDR has it
pub block-named : (store : Datastore) (cidr : CidrValue) (at : BlockAt store cidr) → at.b.cidr ≡ cidr
block-named store cidr at =
    let (b, is, same) = found-block cidr (record_of.Block at.b) (found-key store (key.Block cidr) at.revision (record_of.Block at.b) at.there) in
    let here : at.b ≡ b = cc is in
    ap (λ (x : BlockValue). x.cidr) here ∙ same

pub held-in : (store : Datastore) (cidr : CidrValue) (at : BlockAt store cidr) (a : Allocation) → Contains at.b.allocations a → HeldIn store cidr (owner_of cidr a)
held-in store cidr at a among = record { holding = at; named = block-named store cidr at; a = a; among = among; is_owner = refl }

pub owns-held : (store : Datastore) (o : Owner) → IsDatastore store → Owns store o → (cidr : CidrValue) × HeldIn store cidr o
owns-held store o sound owns = let (row, among, own) = owner-row store.rows o owns in by row.0 row.1 among own
  where
    by : (revision : ℕ) (found : Record) → Contains store.rows (revision, found) → Contains (owners_in_row (revision, found)) o → (cidr : CidrValue) × HeldIn store cidr o
    by revision (record_of.Block b) among own =
        let (a, there, is) = out-map (owner_of b.cidr) o b.allocations own in (
          b.cidr,
          record {
            holding = record { revision = revision; b = b; there = member-found store.rows (revision, record_of.Block b) sound.ascending among };
            named = refl;
            a = a;
            among = there;
            is_owner = is;
          },
        )
    by revision (record_of.Config config) among own = absurd (in-nothing o own)
    by revision (record_of.Pools pools) among own = absurd (in-nothing o own)
    by revision (record_of.Reservations reservations) among own = absurd (in-nothing o own)
    by revision (record_of.Affinity a) among own = absurd (in-nothing o own)
    by revision (record_of.Handle handle) among own = absurd (in-nothing o own)

-- an owner in the words of its block
in-block : (store : Datastore) (cidr : CidrValue) (o : Owner) (h : HeldIn store cidr o) → Contains (map (owner_of h.holding.b.cidr) h.holding.b.allocations) o
in-block store cidr o h =
    let is : owner_of h.holding.b.cidr h.a ≡ o = ap (λ (x : CidrValue). owner_of x h.a) h.named ∙ h.is_owner in
    subst (λ (x : Owner). Contains (map (owner_of h.holding.b.cidr) h.holding.b.allocations) x) is (in-map (owner_of h.holding.b.cidr) h.a h.holding.b.allocations h.among)

pub held-owns : (store : Datastore) (cidr : CidrValue) (o : Owner) → HeldIn store cidr o → Owns store o
held-owns store cidr o h =
    row-owner store.rows (h.holding.revision, record_of.Block h.holding.b) o
    (found-member (key.Block cidr) store.rows (h.holding.revision, record_of.Block h.holding.b) h.holding.there)
    (in-block store cidr o h)

-- ---- in which block an address lies

pub block-sound : (store : Datastore) (cidr : CidrValue) (at : BlockAt store cidr) → IsDatastore store → IsBlock at.b
block-sound store cidr at sound = (row-there store (key.Block cidr) at.revision (record_of.Block at.b) sound at.there).is_record.block

pub held-inside : (store : Datastore) (cidr : CidrValue) (o : Owner) → IsDatastore store → HeldIn store cidr o → Holds cidr o.address
held-inside store cidr o sound h =
    let (family, from, below) = owned-inside h.holding.b o (block-sound store cidr h.holding sound) (in-block store cidr o h) in
    subst (λ (x : CidrValue). Holds x o.address) h.named (record { same_family = family; from_base = from; below_end = below })

-- the block of a CIDR lies at a slot
pub block-slot : (store : Datastore) (cidr : CidrValue) (at : BlockAt store cidr) → IsConsistent store → IsSlotOfSome (pools_in store.rows) cidr
block-slot store cidr at c =
    c.at_slots (at.revision, record_of.Block at.b) cidr
    (found-member (key.Block cidr) store.rows (at.revision, record_of.Block at.b) at.there)
    (ap Some (block-named store cidr at))

-- an address lies in one block at most
pub one-block : (store : Datastore) (one other : CidrValue) (address : AddrValue) → IsConsistent store → BlockAt store one → BlockAt store other → Holds one address → Holds other address → one ≡ other
one-block store one other address c first second holds also =
    same-slot (pools_in store.rows) one other address (pools-table store c.sound) (block-slot store one first c) (block-slot store other second c) holds also
