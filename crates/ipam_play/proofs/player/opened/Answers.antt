use Rattle.std.proofs.Common.{[]}
use Rattle.ipam_play.specs.Played.{base_of}
use Rattle.ipam_play.proofs.player.opened.Goals as goal

pub returns-in-Ok-open-clause-standing : goal.returns-in-Ok-open-clause-standing
returns-in-Ok-open-clause-standing g c =
    let (store, opens, stands) = c.in-Ok-open.ensures.opened in
    ((base_of store, ([], stands)), c.in-Ok-open.ensures.timed)
