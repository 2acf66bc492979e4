-- Which names of calls and which replies keep the limits.
use Rattle.std.specs.Prelude.{◌^◌, ◌<◌, ⊤}
use Rattle.ipam_records.specs.KeyText.{IsKey}
use Rattle.ipam_model.specs.declared.entry.CallName.{CallName}
use Rattle.ipam_model.specs.declared.entry.CallName.TheVariants as name
use Rattle.ipam_model.specs.declared.entry.Told.{Told}
use Rattle.ipam_model.specs.declared.entry.Told.TheVariants as told

-- the key is sound, and the revision fits 64 bits
abbrev pub IsSoundName : CallName → Type 0
IsSoundName (name.Get key) = IsKey key
IsSoundName (name.List kind) = ⊤
IsSoundName (name.Create key) = IsKey key
IsSoundName (name.Update key revision) = IsKey key × (revision < 2 ^ 64)
IsSoundName (name.Delete key revision) = IsKey key × (revision < 2 ^ 64)

-- the number fits 64 bits
abbrev pub IsSoundTold : Told → Type 0
IsSoundTold told.Nothing = ⊤
IsSoundTold (told.Found revision) = revision < 2 ^ 64
IsSoundTold told.Missing = ⊤
IsSoundTold (told.Listed count) = count < 2 ^ 64
IsSoundTold (told.Done revision) = revision < 2 ^ 64
IsSoundTold (told.Exists revision) = revision < 2 ^ 64
IsSoundTold (told.Conflict revision) = revision < 2 ^ 64
IsSoundTold told.Full = ⊤
IsSoundTold told.Spent = ⊤
