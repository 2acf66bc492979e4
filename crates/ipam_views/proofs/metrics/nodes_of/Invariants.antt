use Rattle.std.proofs.Common.{◌≡◌, take}
use Rattle.ipam_views.specs.Metrics.{nodes_of}
use Rattle.ipam_views.proofs.metrics.nodes_of.Given as goal

abbrev pub invariant-loop-count : goal.invariant-loop-count
invariant-loop-count l = l.nodes.items ≡ nodes_of (take l.count-index l.counts)
