-- What is shown of addresses in use.
use Rattle.std.specs.Prelude.{ℕ, List, [], ◌∷◌, ◌++◌, codes, map, Option, Some, None, if◌then◌else◌}
use Rattle.serde_json.specs.Data.{Data, null, string}
use Rattle.serde_json.specs.Written.{compact_text}
use Rattle.ipam_addr.specs.Names.{is_name_text}
use Rattle.ipam_addr.specs.Text.{address_text, cidr_text_of}
use Rattle.ipam_json.specs.Built.{array_of, object_of}
use Rattle.ipam_records.specs.Datastore.{Datastore}
use Rattle.ipam_words.specs.declared.view.Form.{Form}
use Rattle.ipam_words.specs.declared.view.Form.TheVariants.{Table, Json}
use Rattle.ipam_words.specs.Views.{AskedChoice, Borrowed, BorrowedBy}
use Rattle.ipam_show.specs.Columns.{Cells, table_text}
use Rattle.ipam_show.specs.declared.in_use.InUse.{InUse}
use Rattle.ipam_show.specs.InUse.{uses_kept, value_in_use}
use Rattle.ipam_show.specs.Words.{node_word}

-- ---- the table

-- A value that has no name's form stands as JSON: so `-` stands for none, and a line for an address.
abbrev pub value_word : Option (List ℕ) → List ℕ
value_word None = codes "-"
value_word (Some value) = if is_name_text value then value else compact_text (string value)

abbrev pub plain_row : InUse → Cells
plain_row u =
    address_text u.address
    ∷ u.attributes.handle
    ∷ value_word (value_in_use (codes "network") u)
    ∷ value_word (value_in_use (codes "node") u)
    ∷ value_word (value_in_use (codes "namespace") u)
    ∷ value_word (value_in_use (codes "pod") u)
    ∷ []

abbrev pub borrowed_row : InUse → Cells
borrowed_row u =
    address_text u.address
    ∷ value_word (value_in_use (codes "node") u)
    ∷ cidr_text_of u.block
    ∷ node_word u.block_node
    ∷ u.attributes.handle
    ∷ []

-- of borrowed addresses the block and its node are shown
abbrev pub columns_of : AskedChoice → ℕ
columns_of Borrowed = 5
columns_of (BorrowedBy node) = 5
columns_of _ = 6

abbrev pub borrowed_head : Cells
borrowed_head = codes "ADDRESS" ∷ codes "NODE" ∷ codes "BLOCK" ∷ codes "NODE OF BLOCK" ∷ codes "HANDLE" ∷ []

abbrev pub plain_head : Cells
plain_head =
    codes "ADDRESS" ∷ codes "HANDLE" ∷ codes "NETWORK" ∷ codes "NODE" ∷ codes "NAMESPACE" ∷ codes "POD" ∷ []

abbrev pub use_head : AskedChoice → Cells
use_head Borrowed = borrowed_head
use_head (BorrowedBy node) = borrowed_head
use_head _ = plain_head

abbrev pub use_row : AskedChoice → InUse → Cells
use_row Borrowed u = borrowed_row u
use_row (BorrowedBy node) u = borrowed_row u
use_row _ u = plain_row u

abbrev pub use_rows : AskedChoice → List InUse → List Cells
use_rows chosen uses = use_head chosen ∷ map (use_row chosen) uses

unfoldable pub uses_table : AskedChoice → List InUse → List ℕ
uses_table chosen uses = table_text (columns_of chosen) (use_rows chosen uses)

-- ---- JSON, whose members stand by the bytes of their names

abbrev pub text_or_null : Option (List ℕ) → Data
text_or_null None = null
text_or_null (Some text) = string text

unfoldable pub use_data : InUse → Data
use_data u =
    object_of
    ((codes "address", string (address_text u.address))
    ∷ (codes "block", string (cidr_text_of u.block))
    ∷ (codes "blockNode", text_or_null u.block_node)
    ∷ (codes "handle", string u.attributes.handle)
    ∷ (codes "namespace", text_or_null (value_in_use (codes "namespace") u))
    ∷ (codes "network", text_or_null (value_in_use (codes "network") u))
    ∷ (codes "node", text_or_null (value_in_use (codes "node") u))
    ∷ (codes "pod", text_or_null (value_in_use (codes "pod") u))
    ∷ [])

unfoldable pub uses_data : List InUse → Data
uses_data uses = object_of ((codes "addresses", array_of (map use_data uses)) ∷ [])

unfoldable pub uses_json : List InUse → List ℕ
uses_json uses = compact_text (uses_data uses) ++ codes "\n"

-- ---- both

abbrev pub uses_text : AskedChoice → Form → List InUse → List ℕ
uses_text chosen Table uses = uses_table chosen uses
uses_text chosen Json uses = uses_json uses

abbrev pub addresses_text : AskedChoice → Form → Datastore → List ℕ
addresses_text chosen form store = uses_text chosen form (uses_kept chosen store)
