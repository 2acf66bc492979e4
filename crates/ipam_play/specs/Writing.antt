-- What is written of a script.
use Rattle.std.specs.Prelude.{◌≡◌, ℕ, ◌<◌, List, [], ◌++◌, ◌⊎◌, length, flat_map, Option, Result, Ok, Err, codes, string_bytes}
use denote.Ref.{Bor}
use Rattle.std.specs.Io.KnownBytes.{append_known}
use Rattle.ipam_io.specs.Counts.{Rose}
use Rattle.ipam_io.specs.Streams.{AppendsPrefix}
use Rattle.ipam_model.specs.declared.entry.Entry.{Entry}
use Rattle.ipam_play.specs.Output.{journal_text, output_text}
use Rattle.ipam_play.specs.Played.{Ending, IsPlayed, Whole, LineRefused, NotOpened}
use Rattle.ipam_play.specs.Readings.{AreReadWhole, readings}
use Rattle.ipam_play.specs.Script.{Ended, Script, script_of}
use Rattle.ipam_play.specs.declared.refusal.LineRefusal.{LineRefusal}
use Rattle.ipam_play.specs.declared.end.PlayEnd.{PlayEnd}
use Rattle.ipam_play.specs.declared.output.Output.{Output}
use Rattle.ipam_play.specs.declared.end.PlayEnd.TheVariants as end

-- the pieces, one after another
abbrev pub joined : List (Bor (List ℕ)) → List ℕ
joined pieces = flat_map (λ piece. piece.now) pieces

-- the lines that are held to be written
abbrev pub held_in : Output → List ℕ
held_in output = string_bytes output.text

-- so few bytes are not worth a write: fewer than 65,536
abbrev pub AreFew : List ℕ → Type 0
AreFew held = length held < 65536

-- the lines of these entries were written, or are held to be written
pub record Wrote (first now : Option (List ℕ)) (held : List ℕ) (past : List Entry) : Type 0 where
  pub done : List Entry
  pub kept : List Entry
  pub is_past : past ≡ done ++ kept
  pub written : now ≡ append_known first (journal_text done)
  pub is_held : held ≡ journal_text kept

-- a script makes these entries, and more may follow
pub record IsPart (script : Script) (done : List Entry) : Type 0 where
  pub more : List Entry
  pub ending : Ending
  pub is_played : IsPlayed script (done ++ more) ending

-- nothing yet, or the entries that the script makes first
abbrev pub IsFront : Script → List Entry → Type 0
IsFront script done = (done ≡ []) ⊎ IsPart script done

-- ---- all that is written

-- all that the script comes to was written, and it ends so
pub record WritesAll (script : Script) (first now : Option (List ℕ)) (IsEnding : Ending → Type 0) : Type 0 where
  pub entries : List Entry
  pub ending : Ending
  pub is_played : IsPlayed script entries ending
  pub is_ending : IsEnding ending
  pub written : now ≡ append_known first (output_text entries ending)

abbrev pub IsWhole : Ending → Type 0
IsWhole ending = ending ≡ Whole

abbrev pub IsRefusedLine : Ending → Type 0
IsRefusedLine ending = (number : ℕ) × ((why : LineRefusal) × (ending ≡ LineRefused number why))

abbrev pub IsRefusedBase : Ending → Type 0
IsRefusedBase ending = (rule : ℕ) × ((about : List ℕ) × (ending ≡ NotOpened rule about))

-- whole lines of the journal were written, and after them this
pub record WritesFront (script : Script) (first now : Option (List ℕ)) (last : List ℕ) : Type 0 where
  pub done : List Entry
  pub is_front : IsFront script done
  pub written : now ≡ append_known first (journal_text done ++ last)

abbrev pub read_fault_text : List ℕ
read_fault_text = codes "read fault\n"

-- ---- what is written where a read of the source fails

-- What a script comes to as far as it was read: nothing before its base is opened, and then all that its
-- lines ask, of which none is refused.
pub data IsSoFar (script : Script) : List Entry → Type 0 where
  Unopened : script.steps ≡ [] → script.stops ≡ Ended → IsSoFar script []
  Opened : (entries : List Entry) → IsPlayed script entries Whole → IsSoFar script entries

-- the lines of all entries so far were written, and after them the fault
pub record WroteSoFar (script : Script) (first now : Option (List ℕ)) : Type 0 where
  pub entries : List Entry
  pub is_so_far : IsSoFar script entries
  pub written : now ≡ append_known first (journal_text entries ++ read_fault_text)

-- The lines that were read whole of the source have entries, whose lines were written, and after them
-- the fault.
pub record WritesSoFar (was left first now : Option (List ℕ)) : Type 0 where
  pub lines : List ℕ
  pub are_read : AreReadWhole lines was left
  pub wrote : WroteSoFar (script_of (readings lines)) first now

-- what a run that ended without a fault of the sink may have to write
pub data IsText (script : Script) : List ℕ → Type 0 where
  OfAll : (entries : List Entry) (ending : Ending) → IsPlayed script entries ending → IsText script (output_text entries ending)
  OfFront : (done : List Entry) → IsFront script done → IsText script (journal_text done ++ read_fault_text)

-- a front part of what was to be written was written
pub record WritesPart (script : Script) (first now : Option (List ℕ)) : Type 0 where
  pub text : List ℕ
  pub is_text : IsText script text
  pub written : AppendsPrefix first now text

-- what a run that ends so has written of the script
abbrev pub HasWrittenJournal : PlayEnd → Script → (first now : Option (List ℕ)) → Type 0
HasWrittenJournal end.Done script first now = WritesAll script first now IsWhole
HasWrittenJournal end.LineRefused script first now = WritesAll script first now IsRefusedLine
HasWrittenJournal end.NotOpened script first now = WritesAll script first now IsRefusedBase
HasWrittenJournal end.ReadFault script first now = WritesFront script first now read_fault_text
HasWrittenJournal end.NoMemory script first now = WritesFront script first now []
HasWrittenJournal end.WriteFault script first now = WritesPart script first now

-- how it ended, with a last line to be written
abbrev pub ended_so : {T E : Type 0} → Result T E → PlayEnd → PlayEnd
ended_so (Ok done) otherwise = otherwise
ended_so (Err failed) otherwise = end.WriteFault

-- the count of faults rose where a write failed, and else stays
abbrev pub CountsEnd : PlayEnd → (old new : ℕ) → Type 0
CountsEnd end.WriteFault old new = Rose old new
CountsEnd end.Done old new = new ≡ old
CountsEnd end.ReadFault old new = new ≡ old
CountsEnd end.NoMemory old new = new ≡ old
CountsEnd end.NotOpened old new = new ≡ old
CountsEnd end.LineRefused old new = new ≡ old
