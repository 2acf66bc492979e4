use Rattle.ipam_daemon_tests.proofs.Standing.{kept-after}
use Rattle.ipam_daemon_tests.proofs.steps.goes_on.Goals as goal

pub returns-then-ne : goal.returns-then-ne
returns-then-ne g c =
    kept-after g.D.Keeper.rows c.args.kept.now c.turn.new.self c.turn.result c.turn.ensures.keeps c.turn.ensures.unchanged c.requires.kept
