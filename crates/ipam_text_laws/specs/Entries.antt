-- Which entries of a journal are sound.
use Rattle.std.specs.Prelude.{◌≡◌, Option, Some, None, ⊤}
use Rattle.std.specs.List.{AllByRecursion}
use Rattle.ipam_records.specs.declared.key.Key.{Key}
use Rattle.ipam_records.specs.declared.record.Record.{Record}
use Rattle.ipam_records.specs.Key.{key_of}
use Rattle.ipam_records.specs.Sound.{IsHandleId, IsRecord}
use Rattle.ipam_model.specs.declared.answer.Answer.{Answer}
use Rattle.ipam_model.specs.declared.entry.CallName.{CallName}
use Rattle.ipam_model.specs.declared.entry.CallName.TheVariants as name
use Rattle.ipam_model.specs.declared.entry.Called.{Called}
use Rattle.ipam_model.specs.declared.entry.Entry.{Entry}
use Rattle.ipam_model.specs.declared.entry.Entry.TheVariants as entry
use Rattle.ipam_model.specs.SoundRequest.{IsSoundRequest}
use Rattle.ipam_text_laws.specs.Answers.{FitsIn64, IsSoundAnswer}
use Rattle.ipam_text_laws.specs.Limits.{IsSoundName, IsSoundTold}

-- the key whose record the call writes
abbrev pub key_written : CallName → Option Key
key_written (name.Get key) = None
key_written (name.List kind) = None
key_written (name.Create key) = Some key
key_written (name.Update key revision) = Some key
key_written (name.Delete key revision) = None

-- the record is sound, and that of the key that the call names
abbrev pub IsSoundWritten : CallName → Option Record → Type 0
IsSoundWritten call None = ⊤
IsSoundWritten call (Some new) = IsRecord new × (key_written call ≡ Some (key_of new))

abbrev pub IsSoundEnding : Option Answer → Type 0
IsSoundEnding None = ⊤
IsSoundEnding (Some answer) = IsSoundAnswer answer

pub record IsSoundCall (c : Called) : Type 0 where
  pub call : IsSoundName c.call
  pub reply : IsSoundTold c.reply
  pub written : IsSoundWritten c.call c.written
  pub answer : IsSoundEnding c.answer

abbrev pub IsSoundEntry : Entry → Type 0
IsSoundEntry (entry.Began slot request) = IsSoundRequest request
IsSoundEntry (entry.Fed slot at live) = FitsIn64 at × AllByRecursion IsHandleId live
IsSoundEntry (entry.Called c) = IsSoundCall c
IsSoundEntry (entry.Stopped slot) = ⊤

-- the time of a second list fits 64 bits
abbrev pub HasTime : Entry → Type 0
HasTime (entry.Began slot request) = ⊤
HasTime (entry.Fed slot at live) = FitsIn64 at
HasTime (entry.Called c) = ⊤
HasTime (entry.Stopped slot) = ⊤

-- a call is about a sound key, at a revision that fits 64 bits
abbrev pub HasSoundName : Entry → Type 0
HasSoundName (entry.Began slot request) = ⊤
HasSoundName (entry.Fed slot at live) = ⊤
HasSoundName (entry.Called c) = IsSoundName c.call
HasSoundName (entry.Stopped slot) = ⊤
