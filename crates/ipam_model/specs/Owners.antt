-- Who owns which address.
use Rattle.std.specs.Prelude.{◌≡◌, ℕ, ◌<◌, ◌⊎◌, AllPairs, Bool, ◌&&◌, ◌==◌, List, [], length, map, Option, Some, bytes_eq}
use Rattle.std.specs.List.{list_any, flat_map}
use Rattle.ipam_addr.specs.Shape.{AddrValue, CidrValue}
use Rattle.ipam_addr.specs.Holding.{is_same_family}
use Rattle.ipam_block.specs.declared.allocation.Allocation.{Allocation}
use Rattle.ipam_block.specs.Operations.{ordinal_address}
use Rattle.ipam_block.specs.Order.{family_rank}
use Rattle.ipam_records.specs.declared.key.Key.TheVariants as key
use Rattle.ipam_records.specs.declared.record.Record.TheVariants as record_of
use Rattle.ipam_records.specs.Datastore.{Datastore, row_of}
use Rattle.ipam_model.specs.Reads.{StoredRecord}

-- an address that is recorded to a handle, with the stamp of its assignment
pub record Owner : Type 0 where
  pub address : AddrValue
  pub handle : List ℕ
  pub stamp : ℕ

abbrev pub owner_of : CidrValue → Allocation → Owner
owner_of cidr a = record {
  address = ordinal_address cidr a.ordinal;
  handle = a.attributes.handle;
  stamp = a.stamp;
}

abbrev pub owners_in_row : StoredRecord → List Owner
owners_in_row (revision, record_of.Block b) = map (owner_of b.cidr) b.allocations
owners_in_row _ = []

-- the owners that the blocks among the rows record
abbrev pub owners_in : List StoredRecord → List Owner
owners_in rows = flat_map owners_in_row rows

-- all owners, by family and address
abbrev pub owners : Datastore → List Owner
owners store = owners_in store.rows

abbrev pub same_address : AddrValue → AddrValue → Bool
same_address a b = is_same_family a.family b.family && (a.number == b.number)

abbrev pub same_owner : Owner → Owner → Bool
same_owner o p =
    same_address o.address p.address && bytes_eq o.handle p.handle && (o.stamp == p.stamp)

abbrev pub is_owner_in : List StoredRecord → Owner → Bool
is_owner_in rows owner = list_any (same_owner owner) (owners_in rows)

abbrev pub owned_in_row : Option StoredRecord → ℕ
owned_in_row (Some (revision, record_of.Block b)) = length b.allocations
owned_in_row _ = 0

-- how many addresses of the block are owned
abbrev pub owned_in : Datastore → CidrValue → ℕ
owned_in store cidr = owned_in_row (row_of (key.Block cidr) store.rows)

-- by family and address
abbrev pub IsBefore : AddrValue → AddrValue → Type 0
IsBefore a b =
    (family_rank a.family < family_rank b.family) ⊎ ((a.family ≡ b.family) × (a.number < b.number))

-- the owners are listed by family and address, strictly, so that no address has two
abbrev pub AreInOrder : List Owner → Type 0
AreInOrder list = AllPairs (λ (o p : Owner). IsBefore o.address p.address) list
