-- Each entry of a lawful history is about what has a name.
use Rattle.std.proofs.Common.{List, [], ◌∷◌}
use Rattle.std.specs.List.{AllByRecursion}
use Rattle.ipam_records.specs.declared.key.Key.{Key}
use Rattle.ipam_records.specs.declared.key.Key.TheVariants as key
use Rattle.ipam_records.specs.KeyText.{IsKey}
use Rattle.ipam_records.specs.Sound.{IsDatastore}
use Rattle.ipam_model.specs.declared.entry.CallName.{CallName}
use Rattle.ipam_model.specs.declared.entry.CallName.TheVariants as name
use Rattle.ipam_model.specs.declared.entry.Entry.{Entry}
use Rattle.ipam_model.specs.declared.entry.Entry.TheVariants as entry
use Rattle.ipam_model.specs.History.{Base, Lawful}
use Rattle.ipam_text_laws.specs.Entries.{HasSoundName}
use Rattle.ipam_text_laws.specs.Limits.{IsSoundName}
use Rattle.ipam_text_laws.proofs.SoundEntries as sound_entries
use Rattle.ipam_text_laws.specs.Names.{HasName, HasNames, IsAboutName}

-- a sound key's node or handle is named
pub HasName-key : (k : Key) → IsKey k → HasName k
HasName-key key.Config h = tt
HasName-key key.Pools h = tt
HasName-key key.Reservations h = tt
HasName-key (key.Block cidr) h = tt
HasName-key (key.Affinity node cidr) h = h.0
HasName-key (key.Handle id) h = h

named-call : (c : CallName) → IsSoundName c → IsAboutName c
named-call (name.Get key) h = HasName-key key h
named-call (name.List kind) h = tt
named-call (name.Create key) h = HasName-key key h
named-call (name.Update key revision) h = HasName-key key h.0
named-call (name.Delete key revision) h = HasName-key key h.0

named-entry : (one : Entry) → HasSoundName one → HasNames one
named-entry (entry.Began slot request) h = tt
named-entry (entry.Fed slot at live) h = tt
named-entry (entry.Called c) h = named-call c.call h
named-entry (entry.Stopped slot) h = tt

all-named : (history : List Entry) → AllByRecursion HasSoundName history → AllByRecursion HasNames history
all-named [] h = tt
all-named (new ∷ history) h = (named-entry new h.0, all-named history h.1)

pub history_named : (base : Base) (history : List Entry) → IsDatastore base.store → Lawful base history → AllByRecursion HasNames history
history_named base history sound h = all-named history (sound_entries.history_named base history sound h)
