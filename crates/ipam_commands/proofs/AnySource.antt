-- It does not matter which source there is beside what is not given one.
use Rattle.std.proofs.Common.{ℕ, List, Option, None}
use Rattle.ipam_records.specs.declared.call.Row.{Row as RowText}
use Rattle.ipam_records.specs.Datastore.{Datastore}
use Rattle.ipam_keeper.specs.Outside.{Outside, outside_of, without_source}
use Rattle.ipam_resources.specs.declared.resource.Resource.{Resource}
use Rattle.ipam_commands.specs.declared.status.Status.{Status}
use Rattle.ipam_commands.specs.Applied.{Bad, DocumentEnds, Good, NoRoom, NotOpened, Opened, ResourcesEnd}
use Rattle.ipam_commands.specs.Applying.{All, EndsAt, KeeperFailed, Refused, RunEnds, Stopped, UpTo, Untold, alone_on, applied_lines}
use Rattle.ipam_commands.specs.Outside.{IsLeft, IsUntold, Took, with_told}

took-any : (old new : Outside) (text : List ℕ) → Took (without_source old) (without_source new) text → Took old new text
took-any old new text t = record { written = t.written; no_write_fault = t.no_write_fault; no_keeper_fault = t.no_keeper_fault }

left-any : (store : Datastore) (old new : Outside) → IsLeft store (without_source old) (without_source new) → IsLeft store old new
left-any store old new t = record { rows = t.rows; no_keeper_fault = t.no_keeper_fault }

untold-any : (old new : Outside) (end : Status) → IsUntold (without_source old) (without_source new) end → IsUntold old new end
untold-any old new end t = record { written = t.written; no_write_fault = t.no_write_fault; no_memory = t.no_memory }

ends-any : (store : Datastore) (one : Resource) (old new : Outside) (end : Status) → EndsAt store one (without_source old) (without_source new) end → EndsAt store one old new end
ends-any store one old new end (Refused why is course left said) = Refused why is course (left-any (alone_on store one).1 old new left) said
ends-any store one old new end (Untold applied left said not) = Untold applied (left-any (alone_on store one).1 old new left) said not
ends-any store one old new end (KeeperFailed first course rose said) = KeeperFailed first course rose said
ends-any store one old new end (Stopped first course none kept) = Stopped first course (untold-any old new end none) kept

run-any : (store : Datastore) (resources : List Resource) (old new : Outside) (end : Status) → RunEnds store resources (without_source old) (without_source new) end → RunEnds store resources old new end
run-any store resources old new end (All left applied is took done) =
    All left applied (left-any left old new is) (took-any old new (applied_lines resources) took) done
run-any store resources old new end (UpTo front one rest before same applied ends) =
    UpTo front one rest before same applied (ends-any before one (with_told old (applied_lines front)) new end ends)

resources-any : (resources : List Resource) (old new : Outside) (end : Status) → ResourcesEnd resources (without_source old) (without_source new) end → ResourcesEnd resources old new end
resources-any resources old new end (Opened rows store opens ran) = Opened rows store opens (run-any store resources old new end ran)
resources-any resources old new end (NotOpened why is same said) = NotOpened why is same said

of-any : (same : Type 0) (document : List ℕ) (old new : Outside) (end : Status) → DocumentEnds same document (without_source old) (without_source new) end → DocumentEnds same document old new end
of-any same document old new end (Good resources is ends) = Good resources is (resources-any resources old new end ends)
of-any same document old new end (Bad why is kept said fixed) = Bad why is kept said fixed
of-any same document old new end (NoRoom readable kept none) = NoRoom readable kept (untold-any old new end none)

pub document-any : (same : Type 0) (document : List ℕ) (left left' : Option (List ℕ)) (reads reads' : ℕ) (written written' : Option (List ℕ)) (writes writes' : ℕ) (rows rows' : Option (List RowText)) (keeps keeps' : ℕ) (end : Status)
    → DocumentEnds same document (outside_of None 0 written writes rows keeps) (outside_of None 0 written' writes' rows' keeps') end
    → DocumentEnds same document (outside_of left reads written writes rows keeps) (outside_of left' reads' written' writes' rows' keeps') end
document-any same document left left' reads reads' written written' writes writes' rows rows' keeps keeps' end ends =
    of-any same document (outside_of left reads written writes rows keeps) (outside_of left' reads' written' writes' rows' keeps') end ends
