use Rattle.std.proofs.Common.{sym, ◌∙◌}
use Rattle.ipam_command.proofs.CollectLemmas.{goes-feed, goes-first, goes-somewhere, goes-turn}
use Rattle.ipam_command.proofs.RunLemmas.{waits-at-once}
use Rattle.ipam_command.proofs.gen_collecting.run.Goals as goal

pub loop-counted-init : goal.loop-counted-init
loop-counted-init c = goes-first c.args.counted.now c.args.live.now

pub turn-requires-clause-somewhere : goal.turn-requires-clause-somewhere
turn-requires-clause-somewhere c =
    goes-somewhere c.args.counted.now c.loop-counted.counted c.args.live.now c.loop-counted.freed c.requires.begun c.loop-counted.invariant

pub feed-requires-clause-somewhere : goal.feed-requires-clause-somewhere
feed-requires-clause-somewhere c =
    goes-somewhere c.args.counted.now c.loop-counted.counted c.args.live.now c.loop-counted.freed c.requires.begun c.loop-counted.invariant

pub feed-requires-clause-waits : goal.feed-requires-clause-waits
feed-requires-clause-waits c =
    let at = c.loop-counted.invariant c.requires.begun.0 c.requires.begun.1 in
    waits-at-once c.loop-counted.counted.cluster at.history 0 at.is_counted.stands at.at_once (sym c.state.ensures ∙ c.in-Waiting.is)

pub loop-counted-preserved-in-Running : goal.loop-counted-preserved-in-Running
loop-counted-preserved-in-Running c =
    goes-turn c.args.counted.now c.loop-counted.counted c.turn.new.counted c.args.live.now c.loop-counted.freed c.in_ok-freed-in-Running.freed c.loop-counted.invariant c.in_ok-freed-in-Running.ensures.turned

pub loop-counted-preserved : goal.loop-counted-preserved
loop-counted-preserved c =
    goes-feed c.args.counted.now c.loop-counted.counted c.feed.new.self c.args.live.now c.loop-counted.freed c.loop-counted.invariant c.in_ok-feed-in-Waiting.ensures.happens
