use Rattle.std.proofs.Common.{sym}
use Rattle.ipam_play.proofs.Timings.{no_times}
use Rattle.ipam_play.proofs.playing.times_asked.Goals as goal

pub returns-in_default : goal.returns-in_default
returns-in_default c = sym (no_times c.args.request.now c.in_default.not-Collect)
