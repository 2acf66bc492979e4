-- The names and CIDRs that stand in bodies.
use Rattle.std.specs.Prelude.{ℕ, List, nat_le, Option, Some, None, Result, Ok, Err, option_and_then}
use Rattle.serde_json.specs.Data.{Data}
use Rattle.ipam_addr.specs.declared.cidrs.AddrFault.{AddrFault}
use Rattle.ipam_addr.specs.Shape.{CidrValue}
use Rattle.ipam_addr.specs.Text.{cidr_reading}
use Rattle.ipam_addr.specs.Width.{cidr_size}
use Rattle.ipam_addr.specs.Names.{is_name_text, is_handle_text}
use Rattle.ipam_block.specs.declared.limits.TheConstants.{ADDRESSES_MAX}
use Rattle.ipam_json.specs.Members.{◌>>=◌, only_if, text_at}

abbrev pub ok_cidr : Result CidrValue AddrFault → Option CidrValue
ok_cidr (Ok r) = Some r
ok_cidr (Err fault) = None

-- the CIDR that a text writes
unfoldable pub cidr_of : List ℕ → Option CidrValue
cidr_of text = ok_cidr (cidr_reading text)

-- the CIDR that a text writes, where a block may have it
unfoldable pub block_cidr_of : List ℕ → Option CidrValue
block_cidr_of text = do
  r ← cidr_of text
  only_if (nat_le (cidr_size r) ADDRESSES_MAX) r

-- the text, where it is a name
unfoldable pub name_read : List ℕ → Option (List ℕ)
name_read text = only_if (is_name_text text) text

-- the text, where it is the id of a handle
unfoldable pub id_of : List ℕ → Option (List ℕ)
id_of text = only_if (is_handle_text text) text

-- the CIDR whose text has this name
abbrev pub cidr_at : List ℕ → Data → Option CidrValue
cidr_at name d = option_and_then cidr_of (text_at name d)

-- the CIDR whose text has this name, if a block may have it
abbrev pub block_cidr_at : List ℕ → Data → Option CidrValue
block_cidr_at name d = option_and_then block_cidr_of (text_at name d)

-- the name that has this name
abbrev pub name_at : List ℕ → Data → Option (List ℕ)
name_at name d = option_and_then name_read (text_at name d)

-- the id of a handle that has this name
abbrev pub id_at : List ℕ → Data → Option (List ℕ)
id_at name d = option_and_then id_of (text_at name d)
