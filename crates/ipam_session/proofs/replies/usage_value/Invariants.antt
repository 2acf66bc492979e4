use Rattle.std.proofs.Common.{◌≡◌, map, take}
use Rattle.serde_json.specs.View.{view}
use Rattle.ipam_session.specs.Replies.{pool_usage_data}
use Rattle.ipam_session.proofs.replies.usage_value.Given as goal

abbrev pub invariant-loop-pool : goal.invariant-loop-pool
invariant-loop-pool l = map view l.list.items ≡ map pool_usage_data (take l.pool-index l.pools)
