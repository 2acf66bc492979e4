-- What is written of a script is that of a right history.
use Rattle.std.specs.Prelude.{◌≢◌, ℕ, List, [], reverse, Option}
use Rattle.ipam_records.specs.Datastore.{Datastore}
use Rattle.ipam_model.specs.declared.entry.Entry.{Entry}
use Rattle.ipam_laws.specs.Right.{IsRight}
use Rattle.ipam_play.specs.Played.{Ending, IsPlayed, base_of}
use Rattle.ipam_play.specs.Player.{IsBaseOpened}
use Rattle.ipam_play.specs.Readings.{readings}
use Rattle.ipam_play.specs.Script.{Script, script_of}
use Rattle.ipam_play.specs.declared.end.PlayEnd.{PlayEnd}
use Rattle.ipam_play.specs.declared.end.PlayEnd.TheVariants as end
use Rattle.ipam_play.specs.Writing.{HasWrittenJournal, IsRefusedBase, IsRefusedLine, IsText, IsWhole, OfAll, OfFront, WritesAll, WritesFront, WritesPart, WritesSoFar, read_fault_text}

-- the script that these bytes are
abbrev pub script_in : List ℕ → Script
script_in bytes = script_of (readings bytes)

-- These entries, the oldest first, are a right history over whatever the script's base opens as; and
-- where there is an entry, it opens.
pub record IsRightOf (script : Script) (entries : List Entry) : Type 0 where
  pub right : (store : Datastore) → IsBaseOpened script.base store → IsRight (base_of store) (reverse entries)
  pub opened : entries ≢ [] → (store : Datastore) × IsBaseOpened script.base store

-- ---- what is played

-- However a script ends, restarts and refused lines included, what was played of it is right.
abbrev pub PlayedRightLaw : Type 0
PlayedRightLaw =
    (bytes : List ℕ) (entries : List Entry) (ending : Ending)
    → IsPlayed (script_in bytes) entries ending → IsRightOf (script_in bytes) entries

-- ---- what is written

-- the entries of the text are right
abbrev pub IsRightText : (script : Script) (text : List ℕ) → IsText script text → Type 0
IsRightText script _ (OfAll entries ending is_played) = IsRightOf script entries
IsRightText script _ (OfFront done is_front) = IsRightOf script done

-- What a run that ends so has written, by `HasWrittenJournal`, is the journal of these entries with the
-- last line of its ending, and these entries are right. Where the source failed or memory was wanted,
-- they are the entries so far; where the sink failed, a front part was written.
abbrev pub HasWrittenRight : PlayEnd → Script → (first now : Option (List ℕ)) → Type 0
HasWrittenRight end.Done script first now =
    (w : WritesAll script first now IsWhole) × IsRightOf script w.entries
HasWrittenRight end.LineRefused script first now =
    (w : WritesAll script first now IsRefusedLine) × IsRightOf script w.entries
HasWrittenRight end.NotOpened script first now =
    (w : WritesAll script first now IsRefusedBase) × IsRightOf script w.entries
HasWrittenRight end.ReadFault script first now =
    (w : WritesFront script first now read_fault_text) × IsRightOf script w.done
HasWrittenRight end.NoMemory script first now = (w : WritesFront script first now []) × IsRightOf script w.done
HasWrittenRight end.WriteFault script first now =
    (w : WritesPart script first now) × IsRightText script w.text w.is_text

abbrev pub WrittenRightLaw : Type 0
WrittenRightLaw =
    (bytes : List ℕ) (ending : PlayEnd) (first now : Option (List ℕ))
    → HasWrittenJournal ending (script_in bytes) first now → HasWrittenRight ending (script_in bytes) first now

-- ---- what is written where a read of the source fails

-- The lines that were read whole were played, all of their entries were written with the fault after them, and
-- these entries are right.
abbrev pub HasWrittenSoFarRight : (was left first now : Option (List ℕ)) → Type 0
HasWrittenSoFarRight was left first now = (w : WritesSoFar was left first now) × IsRightOf (script_in w.lines) w.wrote.entries

abbrev pub SoFarRightLaw : Type 0
SoFarRightLaw = (was left first now : Option (List ℕ)) → WritesSoFar was left first now → HasWrittenSoFarRight was left first now
