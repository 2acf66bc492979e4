-- A call and a reply in short, as a journal has them.
use Rattle.std.specs.Prelude.{length}
use Rattle.ipam_records.specs.declared.call.Call.{Call}
use Rattle.ipam_records.specs.declared.call.Call.TheVariants as call
use Rattle.ipam_records.specs.Key.{key_of}
use Rattle.ipam_records.specs.Said.{Said, Found, Missing, Listed, Can, Exists, Conflict, Full, Spent}
use Rattle.ipam_model.specs.declared.entry.CallName.{CallName}
use Rattle.ipam_model.specs.declared.entry.CallName.TheVariants as name
use Rattle.ipam_model.specs.declared.entry.Told.{Told}
use Rattle.ipam_model.specs.declared.entry.Told.TheVariants as told

-- what a call is about, without the record that it writes
abbrev pub name_of : Call → CallName
name_of (call.Get key) = name.Get key
name_of (call.List kind) = name.List kind
name_of (call.Create new) = name.Create (key_of new)
name_of (call.Update new revision) = name.Update (key_of new) revision
name_of (call.Delete key revision) = name.Delete key revision

-- a reply without its records
abbrev pub told_of : Said → Told
told_of (Found revision found) = told.Found revision
told_of Missing = told.Missing
told_of (Listed rows) = told.Listed (length rows)
told_of (Can revision) = told.Done revision
told_of (Exists revision) = told.Exists revision
told_of (Conflict revision) = told.Conflict revision
told_of Full = told.Full
told_of Spent = told.Spent
