-- What is read in the reply to the line on routes, and what is written of it.
use Rattle.std.specs.Prelude.{ℕ, List, [], ◌++◌, codes, bytes_eq, Option, Some, None, Result, Ok, Err, if◌then◌else◌}
use Rattle.serde_json.specs.Data.{Data, Items, no_items, item}
use Rattle.ipam_addr.specs.Shape.{CidrValue}
use Rattle.ipam_addr.specs.declared.cidrs.AddrFault.{AddrFault}
use Rattle.ipam_addr.specs.Text.{cidr_text_of, cidr_reading}
use Rattle.ipam_json.specs.Members.{◌>>=◌, text_at, items_at}
use Rattle.ipam_operator.specs.Answers.{json_of_line}

abbrev pub routes_line : List ℕ
routes_line = codes "{\"routes\":true}\n"

-- the block's CIDR, where the route is the node's
abbrev pub text_of_route : (node : List ℕ) → (other : List ℕ) → CidrValue → List ℕ
text_of_route node other cidr = if bytes_eq other node then cidr_text_of cidr ++ codes "\n" else []

abbrev pub found_cidr : Result CidrValue AddrFault → Option CidrValue
found_cidr (Ok cidr) = Some cidr
found_cidr (Err fault) = None

unfoldable pub route_text : (node : List ℕ) → Data → Option (List ℕ)
route_text node d = do
  text ← text_at (codes "cidr") d
  cidr ← found_cidr (cidr_reading text)
  other ← text_at (codes "node") d
  Some (text_of_route node other cidr)

-- the lines of the node's routes, in the order of the items, after those found before; none where an item is no route
abbrev pub route_texts : (node : List ℕ) → (before : List ℕ) → Items → Option (List ℕ)
route_texts node before no_items = Some before
route_texts node before (item d ds) = do
  text ← route_text node d
  route_texts node (before ++ text) ds

unfoldable pub routes_in : (node : List ℕ) → Data → Option (List ℕ)
routes_in node d = do
  ds ← items_at (codes "routes") d
  route_texts node [] ds

-- what is written of the line
unfoldable pub routes_of_line : (node : List ℕ) → List ℕ → Option (List ℕ)
routes_of_line node line = do
  d ← json_of_line line
  routes_in node d
