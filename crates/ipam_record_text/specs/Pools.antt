-- The body of a pool table.
use Rattle.std.specs.Prelude.{◌≡◌, ℕ, ◌^◌, ◌<◌, List, [], ◌∷◌, ◌++◌, map, codes, All, IsTrue, Bool, true, false, ◌&&◌, is_none, nat_lt, Option, Some, None, Result, Ok, Err, if◌then◌else◌}
use Rattle.std.specs.List.{AllByRecursion}
use Rattle.serde_json.specs.Data.{Data, boolean, number, unsigned, string, Items, no_items, item}
use Rattle.serde_json.specs.Written.{compact_text}
use Rattle.ipam_addr.specs.Text.{cidr_text_of}
use Rattle.ipam_addr.specs.Width.{IsCidr}
use Rattle.ipam_addr.specs.Names.{is_name_text}
use Rattle.ipam_json.specs.Built.{Field, object_of, array_of}
use Rattle.ipam_select.specs.Formula.{every}
use Rattle.ipam_select.specs.Sound.{is_sound}
use Rattle.ipam_pool.specs.Changes.{refusal_of}
use Rattle.ipam_pool.specs.Sound.{IsPoolTable}
use Rattle.ipam_pool.specs.declared.pools.Pool.{Pool}
use Rattle.ipam_pool.specs.declared.pools.PoolRefusal.{PoolRefusal}
use Rattle.ipam_pool.specs.declared.pools.PoolRefusal.TheVariants.{Memory as OutOfMemory}
use Rattle.ipam_record_text.specs.declared.fault.BodyFault.{BodyFault}
use Rattle.ipam_record_text.specs.declared.fault.BodyFault.TheVariants.{Form, Table, Memory as NoMemory}
use Rattle.ipam_json.specs.Members.{◌>>=◌, only_if, truth_at, number_at, items_at}
use Rattle.ipam_json.specs.Held.{held}
use Rattle.ipam_record_text.specs.Blocks.{cidr_at, name_at}
use Rattle.ipam_record_text.specs.Rules.{mode_fields, selector_fields, mode_kept_in, node_selector_in}

-- what stands in the object of each pool
abbrev pub plain_fields : Pool → List Field
plain_fields p =
    (codes "blockSize", number (unsigned p.size))
    ∷ (codes "cidr", string (cidr_text_of p.cidr))
    ∷ (codes "disabled", boolean p.disabled)
    ∷ (codes "name", string p.name) ∷ []

-- the JSON of one pool
unfoldable pub pool_data : Pool → Data
pool_data p = object_of (mode_fields p.mode ++ (plain_fields p ++ selector_fields p.selector))

-- the JSON of a table
unfoldable pub pools_data : List Pool → Data
pools_data pools = object_of ((codes "pools", array_of (map pool_data pools)) ∷ [])

-- the body of a table
unfoldable pub pools_body : List Pool → List ℕ
pools_body pools = compact_text (pools_data pools)

-- the pool has a name and a CIDR, its size fits 8 bits, and its selector is read of some text
pub record IsSoundPool (p : Pool) : Type 0 where
  pub name : is_name_text p.name ≡ true
  pub cidr : IsCidr p.cidr
  pub size : p.size < 2 ^ 8
  pub selector : is_sound p.selector ≡ true

-- none of the pools is refused when they are added one after the other after those that are there
abbrev pub are_added : List Pool → List Pool → Bool
are_added there [] = true
are_added there (p ∷ pools) = is_none (refusal_of there p) && are_added (there ++ p ∷ []) pools

-- a table whose pools have names, and selectors that are read of some text
pub record IsPoolsRecord (pools : List Pool) : Type 0 where
  pub table : IsPoolTable pools
  pub names : All (λ p. IsTrue (is_name_text p.name)) pools
  pub selectors : All (λ p. IsTrue (is_sound p.selector)) pools

-- the body is that of sound pools of which one is refused by those before it
pub record HasRefusedPool (body : List ℕ) : Type 0 where
  pub pools : List Pool
  pub each : AllByRecursion IsSoundPool pools
  pub is_body : body ≡ pools_body pools
  pub refused : are_added [] pools ≡ false

-- the size of slots, where 8 bits hold it
unfoldable pub size_at : List ℕ → Data → Option ℕ
size_at name d = do
  n ← number_at name d
  only_if (nat_lt n (2 ^ 8)) n

-- the pool that the JSON holds, but for its selector
unfoldable pub plain_in : Data → Option Pool
plain_in d = do
  size ← size_at (codes "blockSize") d
  cidr ← cidr_at (codes "cidr") d
  disabled ← truth_at (codes "disabled") d
  name ← name_at (codes "name") d
  Some (record { name = name; cidr = cidr; size = size; disabled = disabled; mode = mode_kept_in d; selector = every })

-- the pool that the JSON holds
unfoldable pub pool_in : Data → Option Pool
pool_in d = do
  plain ← plain_in d
  selector ← node_selector_in d
  Some (record plain { selector = selector })

-- the pools, and after them those that the items hold
abbrev pub pools_after : List Pool → Items → Option (List Pool)
pools_after pools no_items = Some pools
pools_after pools (item d ds) = do
  p ← pool_in d
  pools_after (pools ++ p ∷ []) ds

-- the pools that the JSON holds
unfoldable pub pool_list_in : Data → Option (List Pool)
pool_list_in d = do
  items ← items_at (codes "pools") d
  pools_after [] items

-- the pools, where none is refused
unfoldable pub table_of : Option (List Pool) → Result (List Pool) BodyFault
table_of None = Err Form
table_of (Some pools) = if are_added [] pools then Ok pools else Err Table

-- why a body whose table refuses a pool is not read
abbrev pub refusal_fault : PoolRefusal → BodyFault
refusal_fault OutOfMemory = NoMemory
refusal_fault _ = Table

-- what is read of a table's body
unfoldable pub pools_reading : List ℕ → Result (List Pool) BodyFault
pools_reading body = table_of (held pool_list_in pools_body body)
