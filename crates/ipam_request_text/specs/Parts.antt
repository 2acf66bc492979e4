-- The JSON of what requests are made of.
use Rattle.std.specs.Prelude.{ℕ, List, [], ◌∷◌, codes, map, fold}
use Rattle.serde_json.specs.Data.{Data, string, object, no_members}
use Rattle.ipam_json.specs.Built.{object_of, array_of}
use Rattle.ipam_addr.specs.Shape.{AddrValue, CidrValue}
use Rattle.ipam_addr.specs.Text.{address_text}
use Rattle.ipam_select.specs.Formula.{Formula}
use Rattle.ipam_select.specs.Printing.{printed}
use Rattle.ipam_model.specs.Pairs.{Pair}
use Rattle.ipam_block_text.specs.Body.{with_pair}
use Rattle.ipam_record_text.specs.Reservations.{cidr_data}

abbrev pub texts_data : List (List ℕ) → Data
texts_data texts = array_of (map string texts)

-- the pairs by the bytes of their keys
abbrev pub pairs_data : List Pair → Data
pairs_data pairs = object (fold with_pair no_members pairs)

abbrev pub address_data : AddrValue → Data
address_data a = string (address_text a)

abbrev pub addresses_data : List AddrValue → Data
addresses_data addresses = array_of (map address_data addresses)

abbrev pub cidrs_data : List CidrValue → Data
cidrs_data cidrs = array_of (map cidr_data cidrs)

-- a network and a node
abbrev pub scope_data : List ℕ × List ℕ → Data
scope_data scope =
    object_of ((codes "network", string scope.0) ∷ (codes "node", string scope.1) ∷ [])

abbrev pub selector_data : Formula → Data
selector_data f = string (printed f)
