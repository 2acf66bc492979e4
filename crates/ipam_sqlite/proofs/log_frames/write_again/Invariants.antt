use Rattle.std.proofs.Common.{IsTrue}
use Rattle.ipam_sqlite.proofs.log_frames.write_again.Given as goal

abbrev pub invariant-pieces : goal.invariant-pieces
invariant-pieces g l = IsTrue (g.D.Disk.is_usable l.log)
