-- Reading a record from the text of its key and its body.
use Rattle.std.specs.Prelude.{◌≡◌, ◌≢◌, ◌⊎◌, ℕ, List, bytes_eq, Option, Some, None, Result, Ok, Err, if◌then◌else◌}
use Rattle.ipam_addr.specs.Shape.{CidrValue}
use Rattle.ipam_block.specs.Shape as block
use Rattle.ipam_block_text.specs.declared.fault.BodyFault as block_fault
use Rattle.ipam_block_text.specs.declared.fault.BodyFault.TheVariants as in_block
use Rattle.ipam_block_text.specs.Reading.{block_reading, cidr_said}
use Rattle.ipam_record_text.specs.declared.fault.BodyFault.{BodyFault}
use Rattle.ipam_record_text.specs.declared.fault.BodyFault.TheVariants as in_body
use Rattle.ipam_record_text.specs.Config.{config_reading}
use Rattle.ipam_record_text.specs.Pools.{pools_reading}
use Rattle.ipam_record_text.specs.Reservations.{reservations_reading}
use Rattle.ipam_record_text.specs.Affinity.{affinity_reading}
use Rattle.ipam_record_text.specs.Handle.{handle_reading}
use Rattle.ipam_records.specs.declared.fault.TextFault.{TextFault}
use Rattle.ipam_records.specs.declared.fault.TextFault.TheVariants as fault
use Rattle.ipam_records.specs.declared.key.Key.{Key}
use Rattle.ipam_records.specs.declared.key.Key.TheVariants as key_of_kind
use Rattle.ipam_records.specs.declared.record.Record.{Record}
use Rattle.ipam_records.specs.declared.record.Record.TheVariants.{Config, Pools, Reservations, Block, Affinity, Handle}
use Rattle.ipam_records.specs.Key.{key_of}
use Rattle.ipam_records.specs.KeyText.{key_bytes, key_read}
use Rattle.ipam_records.specs.Body.{body_of}
use Rattle.ipam_records.specs.Sound.{IsRecord}

abbrev pub fault_of_body : BodyFault → TextFault
fault_of_body in_body.Form = fault.Form
fault_of_body in_body.Table = fault.Table
fault_of_body in_body.Memory = fault.Memory

-- an unsound block has another fault where its key has another text
abbrev pub unsound_fault : List ℕ → CidrValue → TextFault
unsound_fault key cidr =
    if bytes_eq (key_bytes (key_of_kind.Block cidr)) key then fault.Unsound else fault.Key

-- the fault of the body of a block
abbrev pub fault_of_block : List ℕ → block_fault.BodyFault → TextFault
fault_of_block key in_block.Form = fault.Form
fault_of_block key (in_block.Unsound cidr) = unsound_fault key cidr
fault_of_block key in_block.Memory = fault.Memory

-- the record, where its key has this text
abbrev pub if_key : List ℕ → Record → Result Record TextFault
if_key key found = if bytes_eq (key_bytes (key_of found)) key then Ok found else Err fault.Key

-- the record of what was read of a body, where its key has this text, or else the fault
abbrev pub keyed : {A : Type 0} → (A → Record) → List ℕ → Result A BodyFault → Result Record TextFault
keyed make key (Ok value) = if_key key (make value)
keyed make key (Err body) = Err (fault_of_body body)

abbrev pub keyed_block : List ℕ → Result block.BlockValue block_fault.BodyFault → Result Record TextFault
keyed_block key (Ok value) = if_key key (Block value)
keyed_block key (Err body) = Err (fault_of_block key body)

-- what is read of a body, by the kind of the key that was read of the key's text
abbrev pub reading_of_kind : Key → (key body : List ℕ) → Result Record TextFault
reading_of_kind key_of_kind.Config key body = keyed Config key (config_reading body)
reading_of_kind key_of_kind.Pools key body = keyed Pools key (pools_reading body)
reading_of_kind key_of_kind.Reservations key body = keyed Reservations key (reservations_reading body)
reading_of_kind (key_of_kind.Block cidr) key body = keyed_block key (block_reading body)
reading_of_kind (key_of_kind.Affinity node cidr) key body = keyed Affinity key (affinity_reading body)
reading_of_kind (key_of_kind.Handle id) key body = keyed Handle key (handle_reading body)

abbrev pub reading_at : Option Key → (key body : List ℕ) → Result Record TextFault
reading_at None key body = Err fault.Form
reading_at (Some found) key body = reading_of_kind found key body

-- the record with this text of its key and this body, or else the first fault
unfoldable pub record_reading : (key body : List ℕ) → Result Record TextFault
record_reading key body = reading_at (key_read key) key body

-- ---- what the faults mean

-- the body is a sound record's with this key, or has the form of the block of this key
abbrev pub SaysKey : List ℕ → Key → Type 0
SaysKey body own =
    ((r : Record) × IsRecord r × (body ≡ body_of r) × (key_of r ≡ own))
    ⊎ ((cidr : CidrValue) × (cidr_said body ≡ Some cidr) × (key_of_kind.Block cidr ≡ own))

-- the body says a key, and this has another text
pub record SaysAnotherKey (key body : List ℕ) : Type 0 where
  pub own : Key
  pub said : SaysKey body own
  pub other : key_bytes own ≢ key

-- the body has the form of a block, and says the CIDR whose key has this text
pub record SaysBlock (key body : List ℕ) : Type 0 where
  pub cidr : CidrValue
  pub said : cidr_said body ≡ Some cidr
  pub own : key_bytes (key_of_kind.Block cidr) ≡ key
