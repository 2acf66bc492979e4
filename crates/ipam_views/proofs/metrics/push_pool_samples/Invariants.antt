use Rattle.std.proofs.Common.{◌≡◌, ◌++◌, drop}
use Rattle.std.specs.String.{string_bytes}
use Rattle.ipam_views.specs.Metrics.{pool_samples}
use Rattle.ipam_views.proofs.metrics.push_pool_samples.Given as goal

-- with what is still to come, it is the text of all
abbrev pub invariant-loop-pool : goal.invariant-loop-pool
invariant-loop-pool l =
    string_bytes l.text ++ pool_samples l.metric l.counts (drop l.pool-index l.pools)
    ≡ string_bytes l.initial.text ++ pool_samples l.metric l.counts l.pools
