use Rattle.std.proofs.Common.{◌∷◌, ◌∙◌}
use Rattle.ipam_command.proofs.CollectLemmas.{has-collected, starts}
use Rattle.ipam_command.proofs.gen_collecting.collect.Goals as goal

pub run-requires-clause-begun : goal.run-requires-clause-begun
run-requires-clause-begun c =
    let happens = c.in_ok-begin.ensures c.args.requests c.in_ok-live.ensures.live in (
      happens.0 ∷ c.requires.plain.history,
      starts c.args.counted.now c.begin.new.counted c.args.requests c.requires.plain.history happens c.requires.plain.is_counted c.requires.plain.plain,
    )

pub returns : goal.returns
returns c =
    has-collected c.args.counted.now c.begin.new.counted c.run.new.counted c.args.requests _ c.in_ok-freed.freed
    (c.as_slice.ensures ∙ c.in_ok-live.ensures.live)
    (c.in_ok-begin.ensures c.args.requests c.in_ok-live.ensures.live) c.in_ok-freed.ensures.collected c.in_ok-freed.ensures.idle
