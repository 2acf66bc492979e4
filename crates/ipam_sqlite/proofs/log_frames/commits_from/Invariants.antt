use Rattle.std.proofs.Common.{IsTrue}
use Rattle.ipam_sqlite.proofs.log_frames.commits_from.Given as goal

abbrev pub invariant-frames : goal.invariant-frames
invariant-frames g l = IsTrue (g.D.Disk.is_usable l.log)
