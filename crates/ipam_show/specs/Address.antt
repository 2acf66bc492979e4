-- What is shown of one address.
use Rattle.std.specs.Prelude.{ℕ, ◌-◌, Bool, not, List, [], ◌∷◌, ◌++◌, codes, Option, Some, None, option_map, if◌then◌else◌}
use Rattle.std.specs.Borrow.{Bor}
use Rattle.std.specs.List.{list_any}
use Rattle.std.specs.Option.{option_or}
use Rattle.serde_json.specs.Written.{compact_text}
use Rattle.ipam_addr.specs.Holding.{holds_address}
use Rattle.ipam_addr.specs.Shape.{AddrValue}
use Rattle.ipam_addr.specs.Text.{address_text, cidr_text_of}
use Rattle.ipam_block.specs.declared.allocation.Attributes.{Attributes}
use Rattle.ipam_block.specs.Operations.{holder, holding}
use Rattle.ipam_block.specs.Shape.{BlockValue}
use Rattle.ipam_block_text.specs.Body.{secondary_data}
use Rattle.ipam_records.specs.declared.record.Record.{Record}
use Rattle.ipam_records.specs.declared.record.Record.TheVariants as record_of
use Rattle.ipam_records.specs.Datastore.{Datastore}
use Rattle.ipam_model.specs.Reads.{StoredRecord}
use Rattle.ipam_show.specs.Kept.{blocks_kept, is_reserved_kept, pools_kept}
use Rattle.ipam_show.specs.Words.{node_word}

-- ---- where an address is assigned

-- the block, and what the address is recorded to
abbrev pub Held : Type 0
Held = BlockValue × Attributes

abbrev pub lent_holding : Option (Bor BlockValue × Bor Attributes) → Option Held
lent_holding = option_map (λ found. (found.0.now, found.1.now))

abbrev pub recorded_in : BlockValue → Option (Attributes × ℕ) → Option Held
recorded_in b = option_map (λ recorded. (b, recorded.0))

abbrev pub held_in_block : AddrValue → BlockValue → Option Held
held_in_block a b =
    if holds_address b.cidr a then recorded_in b (option_map holding (holder b (a.number - b.cidr.base))) else None

abbrev pub held_at : AddrValue → Record → Option Held
held_at a (record_of.Block b) = held_in_block a b
held_at a _ = None

-- in the first of the blocks in which the address is assigned: no two blocks share an address
abbrev pub held_in : AddrValue → List StoredRecord → Option Held
held_in a [] = None
held_in a (row ∷ rows) = option_or (held_at a row.1) (held_in a rows)

-- ---- the text

-- the block and its node
unfoldable pub place_text : BlockValue → List ℕ
place_text b = codes "\nblock " ++ (cidr_text_of b.cidr ++ (codes "\nnode " ++ (node_word b.node ++ codes "\n")))

unfoldable pub handle_text : Attributes → List ℕ
handle_text recorded = codes " in use\nhandle " ++ (recorded.handle ++ codes "\nattributes ")

-- the handle, the pairs beside it as JSON, and the block
unfoldable pub held_text : BlockValue → Attributes → List ℕ
held_text b recorded = handle_text recorded ++ (compact_text (secondary_data recorded.secondary) ++ place_text b)

abbrev pub has_pool : AddrValue → Datastore → Bool
has_pool a store = list_any (λ pool. holds_address pool.cidr a) (pools_kept store)

-- the words for an address that is not assigned
abbrev pub unheld_word : AddrValue → Datastore → List ℕ
unheld_word a store =
    if not (has_pool a store) then codes " in no pool\n"
    else (if is_reserved_kept store a then codes " reserved\n" else codes " free\n")

-- the words for an address: who holds it, or that nobody does
abbrev pub said_of : AddrValue → Datastore → Option Held → List ℕ
said_of a store (Some (b, recorded)) = held_text b recorded
said_of a store None = unheld_word a store

abbrev pub address_shown : AddrValue → Datastore → List ℕ
address_shown a store = address_text a ++ said_of a store (held_in a (blocks_kept store))
