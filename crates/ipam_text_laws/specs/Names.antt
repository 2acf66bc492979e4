-- Which entries are about what has a name.
use Rattle.std.specs.Prelude.{⊤}
use Rattle.ipam_records.specs.declared.key.Key.{Key}
use Rattle.ipam_records.specs.declared.key.Key.TheVariants as key
use Rattle.ipam_records.specs.Sound.{IsName, IsHandleId}
use Rattle.ipam_model.specs.declared.entry.CallName.{CallName}
use Rattle.ipam_model.specs.declared.entry.CallName.TheVariants as name
use Rattle.ipam_model.specs.declared.entry.Entry.{Entry}
use Rattle.ipam_model.specs.declared.entry.Entry.TheVariants as entry

-- the node of an affinity is a name, and that of a handle its id; every other key has a text of its own
abbrev pub HasName : Key → Type 0
HasName key.Config = ⊤
HasName key.Pools = ⊤
HasName key.Reservations = ⊤
HasName (key.Block cidr) = ⊤
HasName (key.Affinity node cidr) = IsName node
HasName (key.Handle id) = IsHandleId id

abbrev pub IsAboutName : CallName → Type 0
IsAboutName (name.Get key) = HasName key
IsAboutName (name.List kind) = ⊤
IsAboutName (name.Create key) = HasName key
IsAboutName (name.Update key revision) = HasName key
IsAboutName (name.Delete key revision) = HasName key

-- a call is about a key whose node or handle is named
abbrev pub HasNames : Entry → Type 0
HasNames (entry.Began slot request) = ⊤
HasNames (entry.Fed slot at live) = ⊤
HasNames (entry.Called called) = IsAboutName called.call
HasNames (entry.Stopped slot) = ⊤
