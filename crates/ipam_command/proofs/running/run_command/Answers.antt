use Rattle.ipam_command.proofs.Causes as rules
use Rattle.ipam_command.proofs.Complete.{complete}
use Rattle.ipam_command.proofs.running.run_command.Goals as goal

pub returns-clause-status_0 : goal.returns-clause-status_0
returns-clause-status_0 g c = rules.at_end _ c.args.env.now _ _ _ _ c.run_named.ensures.does

pub returns-clause-status_2_source : goal.returns-clause-status_2_source
returns-clause-status_2_source g c =
    λ is. let left = (rules.unknown _ c.args.env.now _ _ _ _ c.run_named.ensures.does is).0 in (left.left, left.read_faults)

pub returns-clause-status_2_keeper : goal.returns-clause-status_2_keeper
returns-clause-status_2_keeper g c =
    λ is. let left = (rules.unknown _ c.args.env.now _ _ _ _ c.run_named.ensures.does is).1 in (left.rows, left.keeper_faults)

pub returns-clause-status_3 : goal.returns-clause-status_3
returns-clause-status_3 g c = rules.read_rose _ c.args.env.now _ _ _ _ c.run_named.ensures.does

pub returns-clause-status_4 : goal.returns-clause-status_4
returns-clause-status_4 g c = rules.write_rose _ c.args.env.now _ _ _ _ c.run_named.ensures.does

pub returns-clause-status_5 : goal.returns-clause-status_5
returns-clause-status_5 g c = rules.keeper_rose _ c.args.env.now _ _ _ _ c.run_named.ensures.does

pub returns-clause-status_7 : goal.returns-clause-status_7
returns-clause-status_7 g c = rules.broken_stay _ c.args.env.now _ _ _ _ c.run_named.ensures.does

pub returns-clause-status_8 : goal.returns-clause-status_8
returns-clause-status_8 g c = rules.only_play _ c.args.env.now _ _ _ _ c.run_named.ensures.does

pub returns-clause-unread : goal.returns-clause-unread
returns-clause-unread g c =
    λ quiet. let left = rules.leaves_source _ c.args.env.now _ _ _ _ c.run_named.ensures.does quiet in (left.left, left.read_faults)

pub returns-clause-unasked : goal.returns-clause-unasked
returns-clause-unasked g c =
    λ quiet. let left = rules.leaves_keeper _ c.args.env.now _ _ _ _ c.run_named.ensures.does quiet in (left.rows, left.keeper_faults)

pub returns-clause-complete : goal.returns-clause-complete
returns-clause-complete g c = complete _ c.args.env.now _ _ _ _ c.run_named.ensures.does
