use Rattle.std.proofs.Common.{◌++◌, refl}
use Rattle.std.specs.String.{string_bytes}
use Rattle.ipam_show.proofs.Steps.{step_list}
use Rattle.ipam_views.specs.Metrics.{node_sample, node_samples}
use Rattle.ipam_views.proofs.metrics.push_node_samples.Goals as goal

pub loop-node-preserved : goal.loop-node-preserved
loop-node-preserved c =
    let l = c.loop-node in
    let counts = c.args.counts.now in
    let all = string_bytes c.args.text.now ++ node_samples c.args.metric counts c.args.nodes.now in
    step_list (node_samples c.args.metric counts) (node_sample c.args.metric counts) (λ x xs. refl) c.args.nodes.now l.node-index c.node-item.result c.node-item.is c.loop-node-test.true (string_bytes l.text) (string_bytes c.push_node_sample.new.text) all l.invariant c.in_ok-push_node_sample.ensures
