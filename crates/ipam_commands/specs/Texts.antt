-- The texts of the operator's commands.
use Rattle.std.specs.Prelude.{ℕ, ◌&&◌, List, [], ◌∷◌, ◌++◌, Bool, true, false, bytes_eq, codes, if◌then◌else◌}
use Rattle.ipam_addr.specs.Text.{cidr_text_of}
use Rattle.ipam_block.specs.declared.record.Affinity.{Affinity}
pub use Rattle.ipam_block.specs.State.{is_confirmed}
use Rattle.ipam_records.specs.declared.key.Kind.TheVariants as kind
use Rattle.ipam_records.specs.declared.record.Record.{Record}
use Rattle.ipam_records.specs.declared.record.Record.TheVariants as record_of
use Rattle.ipam_records.specs.Datastore.{Datastore, rows_of_kind}
use Rattle.ipam_model.specs.Reads.{StoredRecord}

-- ---- the routes of a node

abbrev pub is_route : (node : List ℕ) → Affinity → Bool
is_route node affinity = bytes_eq affinity.node node && is_confirmed affinity.state

-- the CIDR of a confirmed affinity of the node
unfoldable pub line_if_route : (node : List ℕ) → Affinity → List ℕ
line_if_route node affinity = if is_route node affinity then cidr_text_of affinity.cidr ++ codes "\n" else []

abbrev pub route_line : (node : List ℕ) → Record → List ℕ
route_line node (record_of.Affinity affinity) = line_if_route node affinity
route_line node _ = []

abbrev pub route_lines : (node : List ℕ) → List StoredRecord → List ℕ
route_lines node [] = []
route_lines node (row ∷ rows) = route_line node row.1 ++ route_lines node rows

-- the node's affinities stand by family, base and prefix
abbrev pub routes_text : (node : List ℕ) → Datastore → List ℕ
routes_text node store = route_lines node (rows_of_kind kind.Affinity store)
