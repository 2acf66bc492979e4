use Rattle.ipam_store.proofs.Grants.{IsDatastore-written}
use Rattle.ipam_store.proofs.laws.granted_sound_writes_keep_the_datastore_sound.Goals as goal

pub returns : goal.returns
returns c = IsDatastore-written
