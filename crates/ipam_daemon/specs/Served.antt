-- How serving ends, and what is written of it.
use Rattle.std.specs.Prelude.{◌≡◌, ◌⊎◌, ℕ, List, codes, Option, Some, None}
use Rattle.std.specs.Io.KnownBytes.{append_known}
use Rattle.ipam_io.specs.Counts.{Rose}
use Rattle.ipam_io.specs.Streams.{AppendsPrefix}
use Rattle.ipam_shared.specs.Broken.{broken_line}
use Rattle.ipam_daemon.specs.declared.served.Served.{Served}
use Rattle.ipam_daemon.specs.declared.served.Served.TheVariants.{KeeperFault, NoMemory, BrokenRows, ListenFault}

-- What a sink took of a line, what its count of faults came to, and the status: all of it, with the
-- line's own status; or a front part, since the sink failed.
pub data WritesLine (old new : Option (List ℕ)) (faults faults' : ℕ) (line : List ℕ) (own : ℕ) : ℕ → Type 0 where
  Whole : new ≡ append_known old line → faults' ≡ faults → WritesLine old new faults faults' line own own
  Cut : AppendsPrefix old new line → Rose faults faults' → WritesLine old new faults faults' line own 4

-- nothing is written, since there was no memory
pub record IsUntold (old new : Option (List ℕ)) (faults faults' status : ℕ) : Type 0 where
  pub same : new ≡ old
  pub well : faults' ≡ faults
  pub own : status ≡ 6

-- what is written of an end, and the exit status
abbrev pub WritesServed : Served → (old new : Option (List ℕ)) (faults faults' : ℕ) → ℕ → Type 0
WritesServed KeeperFault old new faults faults' status = WritesLine old new faults faults' (codes "keeper fault\n") 5 status
WritesServed NoMemory old new faults faults' status = IsUntold old new faults faults' status
WritesServed (BrokenRows number about) old new faults faults' status =
    WritesLine old new faults faults' (broken_line number about) 7 status ⊎ IsUntold old new faults faults' status
WritesServed ListenFault old new faults faults' status = WritesLine old new faults faults' (codes "listen fault\n") 9 status

-- the count of faults of the listener: it rises where listening failed, and else not
abbrev pub ListenFaults : Served → (faults faults' : ℕ) → Type 0
ListenFaults KeeperFault faults faults' = faults' ≡ faults
ListenFaults NoMemory faults faults' = faults' ≡ faults
ListenFaults (BrokenRows number about) faults faults' = faults' ≡ faults
ListenFaults ListenFault faults faults' = Rose faults faults'

-- how many looks found the alarm raised: the count rises where a keeper fault ends serving, and else not
abbrev pub FindsAlarmAtEnd : Served → (found found' : ℕ) → Type 0
FindsAlarmAtEnd KeeperFault found found' = Rose found found'
FindsAlarmAtEnd NoMemory found found' = found' ≡ found
FindsAlarmAtEnd (BrokenRows number about) found found' = found' ≡ found
FindsAlarmAtEnd ListenFault found found' = found' ≡ found

-- how many looks of the whole daemon found the alarm raised: where its rows are not opened, and the keeper
-- comes back, it looks at no alarm
abbrev pub FindsAlarm : {D : Type 0} → Option D → Served → (found found' : ℕ) → Type 0
FindsAlarm (Some keeper) served found found' = found' ≡ found
FindsAlarm None served found found' = FindsAlarmAtEnd served found found'
