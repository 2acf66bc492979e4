-- What is left of the raising of a count at each of its stages.
use Rattle.std.specs.Prelude.{ℕ, List, Option, Some, None}
use Rattle.ipam_addr.specs.Shape.{CidrValue}
use Rattle.ipam_records.specs.declared.call.Call.{Call}
use Rattle.ipam_records.specs.declared.call.Call.TheVariants.{Create, Update}
use Rattle.ipam_records.specs.declared.record.Record.{Record}
use Rattle.ipam_records.specs.declared.record.Record.TheVariants as record_of
use Rattle.ipam_records.specs.Label.{idle}
use Rattle.ipam_records.specs.Said.{Said}
use Rattle.ipam_records.specs.Word.{Ends, Asks}
use Rattle.ipam_model.specs.declared.part.Left.{Left}
use Rattle.ipam_model.specs.Counting.{raise_once}
use Rattle.ipam_model.specs.Step.{Part, goes as went, on_write}
use Rattle.ipam_parts.specs.Tries.{again_of}
use Rattle.ipam_parts.specs.declared.raising.Stage.{Stage}
use Rattle.ipam_parts.specs.declared.raising.Stage.TheVariants.{Reads, Writes}
use Rattle.ipam_parts.specs.declared.raising.Goes.{Goes}
use Rattle.ipam_parts.specs.declared.raising.Goes.TheVariants as goes
use Rattle.ipam_parts.specs.declared.raising.Raising.{Raising}
use Rattle.ipam_parts.specs.declared.raising.RaisingTurned.{RaisingTurned}

abbrev pub raising_again : List ℕ → CidrValue → Left → Part (Unit {0})
raising_again id cidr left = again_of (raise_once id cidr) left

-- a record is changed at the revision at which it was found, and created where it was missing
abbrev pub put_at : Option ℕ → Record → Call
put_at (Some revision) new = Update new revision
put_at None new = Create new

-- what follows the write
abbrev pub raising_written : List ℕ → CidrValue → Left → Said → Part (Unit {0})
raising_written id cidr left reply = on_write reply left (λ revision. went left tt) (raising_again id cidr left)

abbrev pub raising_at : List ℕ → CidrValue → Left → Stage → Part (Unit {0})
raising_at id cidr left Reads = raise_once id cidr (raising_again id cidr left) left
raising_at id cidr left (Writes raised) =
    Asks idle (put_at raised.revision (record_of.Handle raised.handle))
    (λ moment reply. raising_written id cidr left reply)

abbrev pub raising_rest : List ℕ → Raising → Part (Unit {0})
raising_rest id r = raising_at id r.cidr r.left r.stage

-- what is left once it goes there
abbrev pub raising_goes : List ℕ → Raising → Goes → Part (Unit {0})
raising_goes id r (goes.Writes raised) = raising_at id r.cidr r.left (Writes raised)
raising_goes id r (goes.Again left) = raising_at id r.cidr left Reads
raising_goes id r (goes.Ends outcome) = Ends outcome

abbrev pub raising_leaves : List ℕ → Raising → RaisingTurned → Part (Unit {0})
raising_leaves id r turned = raising_goes id r turned.goes
