use Rattle.std.proofs.Common.{refl}
use Rattle.ipam_daemon.proofs.served.tell_served.Goals as goal

pub returns-in-KeeperFault-clause-told : goal.returns-in-KeeperFault-clause-told
returns-in-KeeperFault-clause-told g c = rw c.in-KeeperFault.is c.tell.ensures.written

pub returns-in-NoMemory-clause-told : goal.returns-in-NoMemory-clause-told
returns-in-NoMemory-clause-told g c = rw c.in-NoMemory.is (record { same = refl; well = refl; own = refl })
