-- Which writes of calls are sound.
use Rattle.std.proofs.Common.{◌≡◌, ℕ, Some, subst}
use Rattle.ipam_records.specs.declared.record.Record.{Record}
use Rattle.ipam_records.specs.declared.call.Call.{Call}
use Rattle.ipam_records.specs.declared.call.Call.TheVariants.{Get, List, Create, Update, Delete}
use Rattle.ipam_records.specs.declared.call.Write.{Write}
use Rattle.ipam_records.specs.declared.call.Write.TheVariants.{Put, Remove}
use Rattle.ipam_records.specs.Datastore.{write_of}
use Rattle.ipam_records.specs.Sound.{IsRecord}
use Rattle.ipam_store.specs.Granted.{IsSoundWrite}
use Rattle.ipam_tests.specs.RecordCall.{IsRecordCall, IsCountedWrite}

sound_put : (new put : Record) (r revision : ℕ) → IsRecord new → Some (Put r new) ≡ Some (Put revision put) → IsRecord put
sound_put new put r revision sound e = let same : new ≡ put = cc e in subst IsRecord same sound

pub IsSoundWrite-asked : (call : Call) (r : ℕ) (write : Write) → IsRecordCall call → write_of call r ≡ Some write → IsCountedWrite write → IsSoundWrite write
IsSoundWrite-asked (Create new) r (Put revision put) sound e counted = (sound_put new put r revision sound e, counted)
IsSoundWrite-asked (Update new seen) r (Put revision put) sound e counted = (sound_put new put r revision sound e, counted)
IsSoundWrite-asked (Get key) r (Put revision put) sound e counted = cc e
IsSoundWrite-asked (List kind) r (Put revision put) sound e counted = cc e
IsSoundWrite-asked (Delete key seen) r (Put revision put) sound e counted = cc e
IsSoundWrite-asked call r (Remove revision key) sound e counted = tt
