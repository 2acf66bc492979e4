-- The pools as JSON. The members of an object stand by the bytes of their names.
use Rattle.std.specs.Prelude.{ℕ, List, [], ◌∷◌, ◌++◌, codes, decimal, map}
use Rattle.serde_json.specs.Data.{Data, string}
use Rattle.serde_json.specs.Written.{compact_text}
use Rattle.ipam_json.specs.Built.{array_of, object_of, whole_data}
use Rattle.ipam_addr.specs.Text.{cidr_text_of}
use Rattle.ipam_addr.specs.Width.{cidr_size}
use Rattle.ipam_pool.specs.declared.pools.Pool.{Pool}
use Rattle.ipam_records.specs.Datastore.{Datastore}
use Rattle.ipam_show.specs.declared.counting.BlockCount.{BlockCount}
use Rattle.ipam_show.specs.Counts.{counts_kept}
use Rattle.ipam_show.specs.Kept.{pools_kept}
use Rattle.ipam_show.specs.Left.{blocks_left, use_word}
use Rattle.ipam_show.specs.Scopes.{block_sum, free_sum, is_any, is_in_pool, used_sum}

-- `addresses` and `blocksLeft` are texts, since no number of JSON's readers holds 2^128
unfoldable pub pool_shown_data : List BlockCount → Pool → Data
pool_shown_data counts pool =
    object_of
    ((codes "addresses", string (decimal (cidr_size pool.cidr)))
    ∷ (codes "blocks", whole_data (block_sum (is_in_pool pool.cidr) counts))
    ∷ (codes "blocksLeft", string (decimal (blocks_left counts pool)))
    ∷ (codes "cidr", string (cidr_text_of pool.cidr))
    ∷ (codes "freeInBlocks", whole_data (free_sum (is_in_pool pool.cidr) counts))
    ∷ (codes "name", string pool.name)
    ∷ (codes "use", string (use_word pool))
    ∷ (codes "used", whole_data (used_sum (is_in_pool pool.cidr) counts))
    ∷ [])

-- the pools in the order in which they were added, and what all blocks come to
unfoldable pub pools_shown_data : List BlockCount → List Pool → Data
pools_shown_data counts pools =
    object_of
    ((codes "blocks", whole_data (block_sum is_any counts))
    ∷ (codes "freeInBlocks", whole_data (free_sum is_any counts))
    ∷ (codes "pools", array_of (map (pool_shown_data counts) pools))
    ∷ (codes "used", whole_data (used_sum is_any counts))
    ∷ [])

unfoldable pub json_text : Datastore → List ℕ
json_text store = compact_text (pools_shown_data (counts_kept store) (pools_kept store)) ++ codes "\n"
