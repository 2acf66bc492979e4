use Rattle.std.proofs.Common.{refl, inr}
use Rattle.ipam_daemon.proofs.served.tell_made.Goals as goal

pub returns-in-Err-clause-written : goal.returns-in-Err-clause-written
returns-in-Err-clause-written g c = λ said made. inr (record { same = refl; well = refl; own = refl })
