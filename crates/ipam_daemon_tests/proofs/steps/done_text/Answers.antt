use Rattle.ipam_daemon_tests.proofs.Standing.{kept-after, kept-after-stop}
use Rattle.ipam_daemon_tests.proofs.steps.done_text.Goals as goal

pub returns-then-eq-2 : goal.returns-then-eq-2
returns-then-eq-2 g c =
    kept-after g.D.Keeper.rows c.args.kept.now c.feed.new.self c.feed.result c.feed.ensures.keeps c.feed.ensures.unchanged c.requires.kept

pub returns-then-eq-3 : goal.returns-then-eq-3
returns-then-eq-3 g c =
    kept-after g.D.Keeper.rows c.args.kept.now c.turn.new.self c.turn.result c.turn.ensures.keeps c.turn.ensures.unchanged c.requires.kept

pub returns : goal.returns
returns g c =
    kept-after-stop g.D.Keeper.rows c.args.kept.now c.stop.new.self c.stop.result c.stop.ensures.keeps c.stop.ensures.unchanged c.requires.kept
