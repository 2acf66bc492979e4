-- The table of blocks.
use Rattle.std.specs.Prelude.{ℕ, ◌==◌, List, [], ◌∷◌, ◌++◌, codes, decimal, map, Option, Some, None, if◌then◌else◌}
use Rattle.ipam_addr.specs.Text.{cidr_text_of}
use Rattle.ipam_block.specs.declared.state.State.{State}
use Rattle.ipam_records.specs.Datastore.{Datastore}
use Rattle.ipam_show.specs.declared.counting.BlockCount.{BlockCount}
use Rattle.ipam_show.specs.Columns.{Cells, table_text}
use Rattle.ipam_show.specs.Counts.{counts_kept}
use Rattle.ipam_show.specs.Kept.{state_kept}
use Rattle.ipam_show.specs.Words.{node_word, state_word}

abbrev pub block_head : Cells
block_head = codes "BLOCK" ∷ codes "NODE" ∷ codes "STATE" ∷ codes "USED" ∷ codes "BORROWED" ∷ []

-- the state of the affinity of the block's node to it, where there is one
abbrev pub state_kept_at : Datastore → Option (List ℕ) → BlockCount → Option State
state_kept_at store (Some node) c = state_kept store node c.cidr
state_kept_at store None c = None

abbrev pub block_state : Datastore → BlockCount → Option State
block_state store c = state_kept_at store c.node c

-- how many addresses are used, and how many there are
unfoldable pub used_word : BlockCount → List ℕ
used_word c = decimal c.used ++ (codes "/" ++ decimal c.size)

-- how many addresses another node uses, or `-` where none of those used is recorded with a node
abbrev pub borrowed_word : BlockCount → List ℕ
borrowed_word c = if c.told == 0 then codes "-" else decimal c.borrowed

abbrev pub block_row : Datastore → BlockCount → Cells
block_row store c =
    cidr_text_of c.cidr ∷ node_word c.node ∷ state_word (block_state store c) ∷ used_word c ∷ borrowed_word c ∷ []

abbrev pub block_rows : Datastore → List BlockCount → List Cells
block_rows store counts = block_head ∷ map (block_row store) counts

-- the blocks by family, base and prefix
unfoldable pub blocks_text : Datastore → List ℕ
blocks_text store = table_text 5 (block_rows store (counts_kept store))
