use Rattle.ipam_daemon_tests.proofs.Standing.{kept-after, kept-after-stop}
use Rattle.ipam_daemon_tests.proofs.steps.begun_text.Goals as goal

pub returns-in-Some : goal.returns-in-Some
returns-in-Some g c =
    kept-after g.D.Keeper.rows c.args.kept.now c.begin.new.self c.begin.result c.begin.ensures.keeps c.begin.ensures.unchanged c.requires.kept
