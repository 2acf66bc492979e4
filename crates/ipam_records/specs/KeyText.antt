-- The texts of keys.
use Rattle.std.specs.Prelude.{◌≡◌, ℕ, List, ◌++◌, length, take, drop, codes, bytes_eq, Option, Some, None, option_map, Result, Ok, Err, IsTrue, if◌then◌else◌}
use Rattle.std.specs.List.{before_first, after_first}
use Rattle.ipam_addr.specs.declared.cidrs.AddrFault.{AddrFault}
use Rattle.ipam_addr.specs.Shape.{CidrValue}
use Rattle.ipam_addr.specs.Width.{IsCidr}
use Rattle.ipam_addr.specs.Names.{is_name_text, is_handle_text}
use Rattle.ipam_addr.specs.Text.{is_slash, cidr_reading, cidr_text_of}
use Rattle.ipam_records.specs.declared.key.Key.{Key}
use Rattle.ipam_records.specs.declared.key.Key.TheVariants.{Config, Pools, Reservations, Block, Affinity, Handle}

-- the text of a key, where a CIDR has the spelling that is printed
abbrev pub key_bytes : Key → List ℕ
key_bytes Config = codes "config"
key_bytes Pools = codes "pools"
key_bytes Reservations = codes "reservations"
key_bytes (Block cidr) = codes "block/" ++ cidr_text_of cidr
key_bytes (Affinity node cidr) = codes "affinity/" ++ (node ++ (codes "/" ++ cidr_text_of cidr))
key_bytes (Handle id) = codes "handle/" ++ id

-- the node is a name, the id a handle's, and the block a CIDR
abbrev pub IsKey : Key → Type 0
IsKey Config = Unit {0}
IsKey Pools = Unit {0}
IsKey Reservations = Unit {0}
IsKey (Block cidr) = IsCidr cidr
IsKey (Affinity node cidr) = IsTrue (is_name_text node) × IsCidr cidr
IsKey (Handle id) = IsTrue (is_handle_text id)

-- the text is the key's, and the key's parts are sound
pub record IsTextOf (text : List ℕ) (key : Key) : Type 0 where
  pub sound : IsKey key
  pub spelled : key_bytes key ≡ text

-- the CIDR, where the text is what is printed of it
abbrev pub cidr_printed : List ℕ → Result CidrValue AddrFault → Option CidrValue
cidr_printed text (Ok cidr) = if bytes_eq (cidr_text_of cidr) text then Some cidr else None
cidr_printed text (Err fault) = None

abbrev pub cidr_read : List ℕ → Option CidrValue
cidr_read text = cidr_printed text (cidr_reading text)

-- the key of a block, of an affinity and of a handle, from what stands after the kind
abbrev pub block_read : List ℕ → Option Key
block_read text = option_map Block (cidr_read text)

abbrev pub affinity_of_parts : List ℕ → List ℕ → Option Key
affinity_of_parts node block =
    if is_name_text node then option_map (Affinity node) (cidr_read block) else None

abbrev pub affinity_read : List ℕ → Option Key
affinity_read text = affinity_of_parts (before_first is_slash text) (after_first is_slash text)

abbrev pub handle_read : List ℕ → Option Key
handle_read text = if is_handle_text text then Some (Handle text) else None

-- what stands after this beginning, where the text has it
abbrev pub text_behind : List ℕ → List ℕ → Option (List ℕ)
text_behind start text = if bytes_eq (take (length start) text) start then Some (drop (length start) text) else None

-- the key of a kind, from what stands after `block/`, `affinity/` or `handle/`
abbrev pub key_of_kind : (block affinity handle : Option (List ℕ)) → Option Key
key_of_kind (Some text) affinity handle = block_read text
key_of_kind None (Some text) handle = affinity_read text
key_of_kind None None (Some text) = handle_read text
key_of_kind None None None = None

-- the key that the text is of, if it is a key's
unfoldable pub key_read : List ℕ → Option Key
key_read text =
    if bytes_eq text (codes "config") then Some Config
    else (if bytes_eq text (codes "pools") then Some Pools
    else (if bytes_eq text (codes "reservations") then Some Reservations
    else key_of_kind (text_behind (codes "block/") text) (text_behind (codes "affinity/") text) (text_behind (codes "handle/") text)))
