-- The table of pools.
use Rattle.std.specs.Prelude.{ℕ, List, [], ◌∷◌, ◌++◌, codes, decimal, map}
use Rattle.ipam_addr.specs.Text.{cidr_text_of}
use Rattle.ipam_addr.specs.Width.{cidr_size}
use Rattle.ipam_pool.specs.declared.pools.Pool.{Pool}
use Rattle.ipam_records.specs.Datastore.{Datastore}
use Rattle.ipam_show.specs.declared.counting.BlockCount.{BlockCount}
use Rattle.ipam_show.specs.Columns.{Cells, table_text}
use Rattle.ipam_show.specs.Counts.{counts_kept}
use Rattle.ipam_show.specs.Kept.{pools_kept}
use Rattle.ipam_show.specs.Left.{blocks_left, use_word}
use Rattle.ipam_show.specs.Scopes.{block_sum, free_sum, is_any, is_in_pool, used_sum}
use Rattle.ipam_show.specs.Words.{percent_text}

abbrev pub pool_head : Cells
pool_head =
    codes "CIDR"
    ∷ codes "NAME"
    ∷ codes "USE"
    ∷ codes "ADDRESSES"
    ∷ codes "USED"
    ∷ codes "FREE IN BLOCKS"
    ∷ codes "PERCENT USED"
    ∷ codes "BLOCKS LEFT"
    ∷ codes "BLOCKS"
    ∷ []

-- A pool: its CIDR, its name, what an ADD may use it for, and how many addresses it has; how many of them are used, how
-- many could still be given in the blocks that are there, how many of a hundred are used; how many blocks can still be
-- taken, and how many it has.
unfoldable pub pool_row : List BlockCount → Pool → Cells
pool_row counts pool =
    cidr_text_of pool.cidr
    ∷ pool.name
    ∷ use_word pool
    ∷ decimal (cidr_size pool.cidr)
    ∷ decimal (used_sum (is_in_pool pool.cidr) counts)
    ∷ decimal (free_sum (is_in_pool pool.cidr) counts)
    ∷ percent_text (used_sum (is_in_pool pool.cidr) counts) (cidr_size pool.cidr)
    ∷ decimal (blocks_left counts pool)
    ∷ decimal (block_sum (is_in_pool pool.cidr) counts)
    ∷ []

-- what all blocks come to
unfoldable pub pools_total : List BlockCount → Cells
pools_total counts =
    codes "total"
    ∷ []
    ∷ []
    ∷ []
    ∷ decimal (used_sum is_any counts)
    ∷ decimal (free_sum is_any counts)
    ∷ []
    ∷ []
    ∷ decimal (block_sum is_any counts)
    ∷ []

abbrev pub pool_rows : List BlockCount → List Pool → List Cells
pool_rows counts pools = pool_head ∷ (map (pool_row counts) pools ++ pools_total counts ∷ [])

-- the pools in the order in which they were added
unfoldable pub pools_text : Datastore → List ℕ
pools_text store = table_text 9 (pool_rows (counts_kept store) (pools_kept store))
