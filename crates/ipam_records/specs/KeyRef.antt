-- Keys that are borrowed.
use Rattle.std.specs.Prelude.{ℕ, List}
use Rattle.ipam_records.specs.declared.key.Key.{Key}
use Rattle.ipam_records.specs.declared.key.Key.TheVariants as key
use Rattle.ipam_records.specs.declared.key_ref.KeyRef.{KeyRef}
use Rattle.ipam_records.specs.declared.key_ref.KeyRef.TheVariants.{Config, Pools, Reservations, Block, Affinity, Handle}
use Rattle.ipam_records.specs.KeyText.{key_bytes}

-- the key that is borrowed
abbrev pub owned_key : KeyRef → Key
owned_key Config = key.Config
owned_key Pools = key.Pools
owned_key Reservations = key.Reservations
owned_key (Block cidr) = key.Block cidr
owned_key (Affinity node cidr) = key.Affinity node.now cidr
owned_key (Handle id) = key.Handle id.now

-- the text of the key that is borrowed
abbrev pub key_ref_bytes : KeyRef → List ℕ
key_ref_bytes key = key_bytes (owned_key key)
