use Rattle.std.proofs.Common.{◌≡◌, map, take}
use Rattle.serde_json.specs.View.{view}
use Rattle.ipam_show.specs.Json.{pool_shown_data}
use Rattle.ipam_show.proofs.json_shown.list_value.Given as goal

abbrev pub invariant-loop-pool : goal.invariant-loop-pool
invariant-loop-pool l = map view l.list.items ≡ map (pool_shown_data l.counts) (take l.pool-index l.pools)
