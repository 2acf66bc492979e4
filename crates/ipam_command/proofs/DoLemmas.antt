-- What each command does is what is asked by its words.
use Rattle.std.proofs.Common.{◌≡◌, ℕ, List, Option, Some, None, sym, subst}
use Rattle.std.specs.Prelude.{IfSome}
use Rattle.ipam_play.specs.Readings.{readings}
use Rattle.ipam_play.specs.Script.{script_of}
use Rattle.ipam_play.specs.Writing as play_run
use Rattle.ipam_command.specs.Headline.{HasWrittenRight, script_in}
use Rattle.ipam_command.proofs.Generating.{counted_right}
use Rattle.ipam_command.proofs.Writing.{written_right}
use Rattle.cni_types.specs.Reading.{Pair}
use Rattle.ipam_records.specs.declared.call.Row.{Row as RowText}
use Rattle.ipam_records.specs.Datastore.{Datastore}
use Rattle.ipam_words.specs.Words.{AskedCommand}
use Rattle.ipam_play.specs.declared.end.PlayEnd.{PlayEnd}
use Rattle.ipam_command.specs.declared.gen_end.GenEnd.{GenEnd}
use Rattle.ipam_command.specs.Summary as gen
use Rattle.ipam_commands.specs.Applied.{ApplyEnds, DocumentEnds, Read, ReadFailed, NoInput, Good, Bad, NoRoom}
use Rattle.ipam_commands.specs.declared.status.Status.{Status}
use Rattle.ipam_commands.specs.Telling.{ReportsRows, Writes}
use Rattle.ipam_command.specs.Commands.{Does, DoesGen, DoesPlay, DoesTell, PlayEnds, SaysFixedText, unknown_text}
use Rattle.ipam_keeper.specs.Outside.{LeavesKeeper, LeavesSource, Outside}
use Rattle.ipam_commands.specs.Statuses.{code_of_status}
use Rattle.ipam_command.specs.Statuses.{code_of_gen, code_of_play}

-- what is done of what is asked
pub asked : (same : Type 0) (env : List Pair) (one other : Option AskedCommand) (old new : Outside) (status : ℕ) → one ≡ other → Does same env other old new status → Does same env one old new status
asked kept env one other old new status is does = subst (λ (a : Option AskedCommand). Does kept env a old new status) (sym is) does

-- words that name no command
pub does-unknown : (same : Type 0) (env : List Pair) (words : Option AskedCommand) (old new : Outside) (status : ℕ) → words ≡ None → SaysFixedText unknown_text 2 old.written new.written old.write_faults new.write_faults status
    → LeavesSource old new → LeavesKeeper old new → Does same env words old new status
does-unknown kept env words old new status is told source keeper = asked kept env words None old new status is (record { said = told; source = source; keeper = keeper })

pub does-play : (old new : Outside) (ending : PlayEnd) (status : ℕ) → status ≡ code_of_play ending → PlayEnds old new ending → LeavesKeeper old new → DoesPlay old new status
does-play old new ending status is played keeper = record { ending = ending; has_status = is; played = played; keeper = keeper }

pub does-gen : (count : ℕ) (old new : Outside) (ending : GenEnd) (status : ℕ) → status ≡ code_of_gen ending → gen.HasWrittenSummary ending count old.written new.written
    → gen.CountsFaults ending old.write_faults new.write_faults → LeavesSource old new → LeavesKeeper old new → DoesGen count old new status
does-gen count old new ending status is written faults source keeper =
    record { ending = ending; has_status = is; written = counted_right count ending old.written new.written written; faults = faults; source = source; keeper = keeper }

pub does-tell : (text : List RowText → Datastore → List ℕ) (old new : Outside) (ending : Status) (status : ℕ) → status ≡ code_of_status ending
    → ReportsRows old.rows old.keeper_faults new.keeper_faults text (λ said own. Writes old.written new.written old.write_faults new.write_faults said own ending)
    → LeavesSource old new → new.rows ≡ old.rows → DoesTell text old new status
does-tell text old new ending status is tells source rows = record { ending = ending; has_status = is; tells = tells; source = source; same_rows = rows }

-- ---- `apply`: that the keeper is the same may be said in a weaker way

document-ends : {same other : Type 0} {document : List ℕ} {old new : Outside} {end : Status} → (same → other)
    → DocumentEnds same document old new end → DocumentEnds other document old new end
document-ends weaker (Good resources is ends) = Good resources is ends
document-ends weaker (Bad fault is same says fixed) = Bad fault is (weaker same) says fixed
document-ends weaker (NoRoom readable same untold) = NoRoom readable (weaker same) untold

pub apply-ends : {same other : Type 0} {old new : Outside} {end : Status} → (same → other)
    → ApplyEnds same old new end → ApplyEnds other old new end
apply-ends weaker (Read document is faults ends) = Read document is faults (document-ends weaker ends)
apply-ends weaker (ReadFailed rose same says) = ReadFailed rose (weaker same) says
apply-ends weaker (NoInput faults same untold) = NoInput faults (weaker same) untold

-- ---- `play`: what was written of a script tells of a right history

pub written-right : (left : Option (List ℕ)) (ending : PlayEnd) (first now : Option (List ℕ))
    → IfSome left (λ bytes. play_run.HasWrittenJournal ending (script_of (readings bytes)) first now)
    → IfSome left (λ bytes. HasWrittenRight ending (script_in bytes) first now)
written-right (Some bytes) ending first now written = written_right bytes ending first now written
written-right None ending first now written = written
