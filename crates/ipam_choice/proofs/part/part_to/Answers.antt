use Rattle.std.proofs.Common.{◌+◌}
use Rattle.ipam_choice.proofs.PartLemmas.{ascend-take, kept_to_found, kept_to_gap}
use Rattle.ipam_choice.proofs.part.part_to.Goals as goal

pub returns-in-Ok-clause-ascending : goal.returns-in-Ok-clause-ascending
returns-in-Ok-clause-ascending c = ascend-take c.args.blocks.now (c.in-Ok.place + 1) c.requires

pub returns-in-Ok-clause-kept : goal.returns-in-Ok-clause-kept
returns-in-Ok-clause-kept c =
    kept_to_found c.args.blocks.now c.args.last c.in-Ok.place c.requires c.in-Ok.ensures.found

pub returns-in-Err-clause-ascending : goal.returns-in-Err-clause-ascending
returns-in-Err-clause-ascending c = ascend-take c.args.blocks.now c.in-Err.place c.requires

pub returns-in-Err-clause-kept : goal.returns-in-Err-clause-kept
returns-in-Err-clause-kept c =
    kept_to_gap c.args.blocks.now c.args.last c.in-Err.place c.in-Err.ensures.absent
