-- Which writes of creations are sound.
use Rattle.std.proofs.Common.{◌≡◌, ℕ, Some, subst}
use Rattle.ipam_records.specs.declared.record.Record.{Record}
use Rattle.ipam_records.specs.declared.call.Call.TheVariants.{Create}
use Rattle.ipam_records.specs.declared.call.Write.{Write}
use Rattle.ipam_records.specs.declared.call.Write.TheVariants.{Put, Remove}
use Rattle.ipam_records.specs.Datastore.{write_of}
use Rattle.ipam_records.specs.Sound.{IsRecord}
use Rattle.ipam_store.specs.Granted.{IsSoundWrite}
use Rattle.ipam_bench.specs.Counted.{IsCountedWrite}

sound_put : (new put : Record) (r revision : ℕ) → IsRecord new → Some (Put r new) ≡ Some (Put revision put) → IsRecord put
sound_put new put r revision sound e = let same : new ≡ put = cc e in subst IsRecord same sound

pub IsSoundWrite-created : (new : Record) (r : ℕ) (write : Write) → IsRecord new → write_of (Create new) r ≡ Some write → IsCountedWrite write → IsSoundWrite write
IsSoundWrite-created new r (Put revision put) sound e counted = (sound_put new put r revision sound e, counted)
IsSoundWrite-created new r (Remove revision key) sound e counted = tt
