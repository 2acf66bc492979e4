-- Numbers in the text format that Prometheus reads.
use Rattle.std.specs.Prelude.{ℕ, nat_lt, List, [], ◌∷◌, ◌++◌, bytes_eq, codes, decimal, fold, length, Option, Some, None, if◌then◌else◌}
use Rattle.std.specs.List.{list_any}
use Rattle.ipam_addr.specs.Text.{cidr_text_of}
use Rattle.ipam_addr.specs.Width.{cidr_size}
use Rattle.ipam_pool.specs.declared.pools.Pool.{Pool}
use Rattle.ipam_records.specs.Datastore.{Datastore, most_blocks, most_rows}
use Rattle.ipam_model.specs.Reads.{StoredRecord}
use Rattle.ipam_show.specs.declared.counting.BlockCount.{BlockCount}
use Rattle.ipam_show.specs.Counts.{counts_kept}
use Rattle.ipam_show.specs.Kept.{pools_kept}
use Rattle.ipam_show.specs.Left.{blocks_left}
use Rattle.ipam_show.specs.Scopes.{block_sum, free_sum, is_any, is_in_pool, is_of_node, size_sum, used_sum}
use Rattle.ipam_views.specs.declared.metrics.NodeMetric.{NodeMetric}
use Rattle.ipam_views.specs.declared.metrics.NodeMetric.TheVariants as of_node
use Rattle.ipam_views.specs.declared.metrics.PoolMetric.{PoolMetric}
use Rattle.ipam_views.specs.declared.metrics.PoolMetric.TheVariants as of_pool

-- the lines before the numbers of a metric
unfoldable pub head_text : (name help : List ℕ) → List ℕ
head_text name help =
    codes "# HELP " ++ (name ++ (codes " " ++ (help ++ (codes "\n# TYPE " ++ (name ++ codes " gauge\n")))))

-- ---- numbers of pools

abbrev pub pool_metric_name : PoolMetric → List ℕ
pool_metric_name of_pool.Addresses = codes "ipam_pool_addresses"
pool_metric_name of_pool.Used = codes "ipam_pool_addresses_in_use"
pool_metric_name of_pool.Free = codes "ipam_pool_addresses_free_in_blocks"
pool_metric_name of_pool.Blocks = codes "ipam_pool_blocks"
pool_metric_name of_pool.BlocksLeft = codes "ipam_pool_blocks_left"

abbrev pub pool_metric_help : PoolMetric → List ℕ
pool_metric_help of_pool.Addresses = codes "Addresses of the pool."
pool_metric_help of_pool.Used = codes "Addresses of the pool that are in use."
pool_metric_help of_pool.Free = codes "Addresses of the pool's blocks that could still be given."
pool_metric_help of_pool.Blocks = codes "Blocks of the pool."
pool_metric_help of_pool.BlocksLeft = codes "Blocks of the pool that a node can still take."

abbrev pub pool_number : PoolMetric → List BlockCount → Pool → ℕ
pool_number of_pool.Addresses counts pool = cidr_size pool.cidr
pool_number of_pool.Used counts pool = used_sum (is_in_pool pool.cidr) counts
pool_number of_pool.Free counts pool = free_sum (is_in_pool pool.cidr) counts
pool_number of_pool.Blocks counts pool = block_sum (is_in_pool pool.cidr) counts
pool_number of_pool.BlocksLeft counts pool = blocks_left counts pool

unfoldable pub pool_labels : Pool → List ℕ
pool_labels pool = codes "{cidr=\"" ++ (cidr_text_of pool.cidr ++ (codes "\",pool=\"" ++ (pool.name ++ codes "\"} ")))

unfoldable pub pool_sample : PoolMetric → List BlockCount → Pool → List ℕ
pool_sample metric counts pool =
    pool_metric_name metric ++ (pool_labels pool ++ (decimal (pool_number metric counts pool) ++ codes "\n"))

abbrev pub pool_samples : PoolMetric → List BlockCount → List Pool → List ℕ
pool_samples metric counts [] = []
pool_samples metric counts (pool ∷ pools) = pool_sample metric counts pool ++ pool_samples metric counts pools

abbrev pub pool_family : PoolMetric → List BlockCount → List Pool → List ℕ
pool_family metric counts pools =
    head_text (pool_metric_name metric) (pool_metric_help metric) ++ pool_samples metric counts pools

unfoldable pub pool_families : List BlockCount → List Pool → List ℕ
pool_families counts pools =
    pool_family of_pool.Addresses counts pools
    ++ (pool_family of_pool.Used counts pools
    ++ (pool_family of_pool.Free counts pools
    ++ (pool_family of_pool.Blocks counts pools ++ pool_family of_pool.BlocksLeft counts pools)))

-- ---- numbers of nodes

-- the nodes that have blocks, each once, by their first blocks
abbrev pub with_node : List (List ℕ) → Option (List ℕ) → List (List ℕ)
with_node nodes None = nodes
with_node nodes (Some node) = if list_any (bytes_eq node) nodes then nodes else nodes ++ node ∷ []

abbrev pub nodes_of : List BlockCount → List (List ℕ)
nodes_of counts = fold (λ nodes c. with_node nodes c.node) [] counts

abbrev pub node_metric_name : NodeMetric → List ℕ
node_metric_name of_node.Addresses = codes "ipam_node_addresses"
node_metric_name of_node.Used = codes "ipam_node_addresses_in_use"
node_metric_name of_node.Free = codes "ipam_node_addresses_free_in_blocks"
node_metric_name of_node.Blocks = codes "ipam_node_blocks"

abbrev pub node_metric_help : NodeMetric → List ℕ
node_metric_help of_node.Addresses = codes "Addresses of the node's blocks."
node_metric_help of_node.Used = codes "Addresses of the node's blocks that are in use."
node_metric_help of_node.Free = codes "Addresses of the node's blocks that could still be given."
node_metric_help of_node.Blocks = codes "Blocks of the node."

abbrev pub node_number : NodeMetric → List BlockCount → (node : List ℕ) → ℕ
node_number of_node.Addresses counts node = size_sum (is_of_node node) counts
node_number of_node.Used counts node = used_sum (is_of_node node) counts
node_number of_node.Free counts node = free_sum (is_of_node node) counts
node_number of_node.Blocks counts node = block_sum (is_of_node node) counts

unfoldable pub node_sample : NodeMetric → List BlockCount → (node : List ℕ) → List ℕ
node_sample metric counts node =
    node_metric_name metric
    ++ (codes "{node=\"" ++ (node ++ (codes "\"} " ++ (decimal (node_number metric counts node) ++ codes "\n"))))

abbrev pub node_samples : NodeMetric → List BlockCount → (nodes : List (List ℕ)) → List ℕ
node_samples metric counts [] = []
node_samples metric counts (node ∷ nodes) = node_sample metric counts node ++ node_samples metric counts nodes

abbrev pub node_family : NodeMetric → List BlockCount → (nodes : List (List ℕ)) → List ℕ
node_family metric counts nodes =
    head_text (node_metric_name metric) (node_metric_help metric) ++ node_samples metric counts nodes

unfoldable pub node_families : List BlockCount → (nodes : List (List ℕ)) → List ℕ
node_families counts nodes =
    node_family of_node.Addresses counts nodes
    ++ (node_family of_node.Used counts nodes
    ++ (node_family of_node.Free counts nodes ++ node_family of_node.Blocks counts nodes))

-- ---- numbers of all rows

abbrev pub later : ℕ → ℕ → ℕ
later most revision = if nat_lt most revision then revision else most

-- the greatest revision of a row
abbrev pub last_of : List StoredRecord → ℕ
last_of = fold (λ most row. later most row.0) 0

unfoldable pub one_family : (name help : List ℕ) → (number : ℕ) → List ℕ
one_family name help number = head_text name help ++ (name ++ (codes " " ++ (decimal number ++ codes "\n")))

unfoldable pub row_families : List BlockCount → Datastore → List ℕ
row_families counts store =
    one_family (codes "ipam_blocks") (codes "Blocks.") (block_sum is_any counts)
    ++ (one_family (codes "ipam_blocks_limit") (codes "Blocks that there may be.") most_blocks
    ++ (one_family (codes "ipam_rows") (codes "Rows.") (length store.rows)
    ++ (one_family (codes "ipam_rows_limit") (codes "Rows that there may be.") most_rows
    ++ one_family (codes "ipam_revision") (codes "Greatest revision of a row.") (last_of store.rows))))

-- ---- all of them

unfoldable pub numbers_text : List BlockCount → Datastore → List ℕ
numbers_text counts store =
    pool_families counts (pools_kept store) ++ (node_families counts (nodes_of counts) ++ row_families counts store)

abbrev pub metrics_text : Datastore → List ℕ
metrics_text store = numbers_text (counts_kept store) store
