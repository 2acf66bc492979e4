use Rattle.std.proofs.Common.{◌≡◌, ◌++◌, drop}
use Rattle.std.specs.String.{string_bytes}
use Rattle.ipam_views.specs.Metrics.{node_samples}
use Rattle.ipam_views.proofs.metrics.push_node_samples.Given as goal

-- with what is still to come, it is the text of all
abbrev pub invariant-loop-node : goal.invariant-loop-node
invariant-loop-node l =
    string_bytes l.text ++ node_samples l.metric l.counts (drop l.node-index l.nodes)
    ≡ string_bytes l.initial.text ++ node_samples l.metric l.counts l.nodes
