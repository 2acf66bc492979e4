-- What is shown of a node.
use Rattle.std.specs.Prelude.{ℕ, List, [], ◌∷◌, ◌++◌, codes, decimal, filter, map, option_map}
use Rattle.serde_json.specs.Data.{Data, string}
use Rattle.serde_json.specs.Written.{compact_text}
use Rattle.ipam_addr.specs.Text.{cidr_text_of}
use Rattle.ipam_block.specs.State.{state_text}
use Rattle.ipam_json.specs.Built.{array_of, object_of, whole_data}
use Rattle.ipam_records.specs.Datastore.{Datastore}
use Rattle.ipam_words.specs.declared.view.Form.{Form}
use Rattle.ipam_words.specs.declared.view.Form.TheVariants.{Table, Json}
use Rattle.ipam_words.specs.Views.{BorrowedBy}
use Rattle.ipam_show.specs.declared.counting.BlockCount.{BlockCount}
use Rattle.ipam_show.specs.Addresses.{addresses_text, text_or_null, use_data}
use Rattle.ipam_show.specs.Blocks.{block_state}
use Rattle.ipam_show.specs.Columns.{Cells, table_text}
use Rattle.ipam_show.specs.Counts.{counts_kept}
use Rattle.ipam_show.specs.InUse.{uses_kept}
use Rattle.ipam_show.specs.Scopes.{free_sum, is_any, is_of_node, used_sum}
use Rattle.ipam_show.specs.Words.{state_word}

-- the blocks of the node by family, base and prefix
abbrev pub own_counts : (node : List ℕ) → Datastore → List BlockCount
own_counts node store = filter (is_of_node node) (counts_kept store)

-- ---- the table

abbrev pub own_head : Cells
own_head = codes "BLOCK" ∷ codes "STATE" ∷ codes "ADDRESSES" ∷ codes "USED" ∷ codes "FREE" ∷ []

-- a block: the state of its node's affinity to it, how many addresses it has, how many of them are used, and how many
-- could still be given
unfoldable pub own_row : Datastore → BlockCount → Cells
own_row store c =
    cidr_text_of c.cidr ∷ state_word (block_state store c) ∷ decimal c.size ∷ decimal c.used ∷ decimal c.free ∷ []

unfoldable pub own_total : List BlockCount → Cells
own_total counts = codes "total" ∷ [] ∷ [] ∷ decimal (used_sum is_any counts) ∷ decimal (free_sum is_any counts) ∷ []

abbrev pub own_rows : Datastore → List BlockCount → List Cells
own_rows store counts = own_head ∷ (map (own_row store) counts ++ own_total counts ∷ [])

unfoldable pub own_table : Datastore → List BlockCount → List ℕ
own_table store counts = table_text 5 (own_rows store counts)

-- the node's blocks; and behind an empty line its addresses in blocks that are not its own, as `show borrowed` has them
unfoldable pub node_table : (node : List ℕ) → Datastore → List BlockCount → List ℕ
node_table node store counts = own_table store counts ++ (codes "\n" ++ addresses_text (BorrowedBy node) Table store)

-- ---- JSON, whose members stand by the bytes of their names

unfoldable pub own_data : Datastore → BlockCount → Data
own_data store c =
    object_of
    ((codes "block", string (cidr_text_of c.cidr))
    ∷ (codes "free", whole_data c.free)
    ∷ (codes "size", whole_data c.size)
    ∷ (codes "state", text_or_null (option_map state_text (block_state store c)))
    ∷ (codes "used", whole_data c.used)
    ∷ [])

unfoldable pub node_data : (node : List ℕ) → Datastore → List BlockCount → Data
node_data node store counts =
    object_of
    ((codes "blocks", array_of (map (own_data store) counts))
    ∷ (codes "borrowed", array_of (map use_data (uses_kept (BorrowedBy node) store)))
    ∷ (codes "node", string node)
    ∷ [])

unfoldable pub node_json : (node : List ℕ) → Datastore → List BlockCount → List ℕ
node_json node store counts = compact_text (node_data node store counts) ++ codes "\n"

-- ---- both

abbrev pub node_shown : (node : List ℕ) → Form → Datastore → List BlockCount → List ℕ
node_shown node Table store counts = node_table node store counts
node_shown node Json store counts = node_json node store counts

abbrev pub node_text : (node : List ℕ) → Form → Datastore → List ℕ
node_text node form store = node_shown node form store (own_counts node store)
