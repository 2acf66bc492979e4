-- Where no count of faults rose, a command writes its whole text, or there was no memory.
use Rattle.std.proofs.Common.{◌≡◌, ◌≢◌, ℕ, ◌⊎◌, inl, inr, List, [], ◌++◌, Option, Some, None, Result, Ok, Err, refl, sym, ap, ◌∙◌, append_assoc}
use Rattle.std.specs.Prelude.{IfSome}
use Rattle.std.specs.Io.KnownBytes.{append_known}
use Rattle.ipam_records.specs.declared.call.Row.{Row as RowText}
use Rattle.ipam_records.specs.Datastore.{Datastore}
use Rattle.ipam_addr.specs.Shape.{CidrValue}
use Rattle.ipam_model.specs.declared.request.Request.TheVariants as request
use Rattle.ipam_shared.specs.Broken.{broken_line}
use Rattle.ipam_shared.specs.declared.kept.KeptFault.{KeptFault}
use Rattle.ipam_shared.specs.declared.kept.KeptFault.TheVariants as fault
use Rattle.ipam_words.specs.declared.texts.TheConstants.{HELP, VERSION}
use Rattle.ipam_words.specs.Words.{AskedCommand, Audit, Call, Cni, Play, Apply, Get, Help, Routes, Release, Gen, Serve, Show, Version}
use Rattle.ipam_play.specs.declared.end.PlayEnd.{PlayEnd}
use Rattle.ipam_play.specs.declared.end.PlayEnd.TheVariants as play
use Rattle.ipam_play.specs.Writing.{WritesAll}
use Rattle.ipam_command.specs.declared.gen_end.GenEnd.{GenEnd}
use Rattle.ipam_command.specs.declared.gen_end.GenEnd.TheVariants as gen
use Rattle.ipam_command.specs.Summary.{CountsFaults, WritesSummary}
use Rattle.ipam_command.specs.Generating.{HasCountedRight}
use Rattle.ipam_command.specs.Headline.{HasWrittenRight, script_in}
use Rattle.ipam_commands.specs.declared.outcome.ChangeOutcome.{ChangeOutcome}
use Rattle.ipam_commands.specs.declared.status.Status.{Status}
use Rattle.ipam_commands.specs.declared.status.Status.TheVariants as status
use Rattle.ipam_commands.specs.Changing.{ChangeEnds, ChangeWrites, outcome_status, release_line}
use Rattle.ipam_commands.specs.Statuses.{code_of_status}
use Rattle.ipam_commands.specs.Telling.{AreOpened, Cut, NotOpened, Opened, ReportsRows, Untold, Whole, Writes}
use Rattle.ipam_views.specs.Shown.{shown_text}
use Rattle.ipam_commands.specs.Texts.{routes_text}
use Rattle.ipam_show.specs.Rows.{rows_text}
use Rattle.ipam_resources.specs.declared.resource.Resource.{Resource}
use Rattle.ipam_resources.specs.Documents.{document_reading}
use Rattle.ipam_resources.specs.Printed.{applied_line, fault_line, refused_line}
use Rattle.ipam_commands.specs.Applied as apply
use Rattle.ipam_commands.specs.Applying as applying
use Rattle.ipam_commands.specs.Inputs.{IsDocument}
use Rattle.cni_types.specs.declared.version.Version as versions
use Rattle.cni_types.specs.Reading.{Pair}
use Rattle.cni_types.specs.Texts.{error_text}
use Rattle.ipam_command.specs.declared.cni_end.CniEnd.{CniEnd}
use Rattle.ipam_command.specs.declared.cni_end.CniEnd.TheVariants.{Told, Failed}
use Rattle.ipam_command.specs.declared.cni_end.CniFault.TheVariants as cni_fault
use Rattle.ipam_command.specs.Calls as cni
use Rattle.ipam_command.specs.Ends as cni_ends
use Rattle.ipam_command.specs.Replies.{Refused}
use Rattle.ipam_command.specs.Commands as does
use Rattle.ipam_command.specs.Commands.{Does, SaysFixedText, unknown_text}
use Rattle.ipam_keeper.specs.Outside.{LeavesKeeper, Outside}
use Rattle.ipam_command.specs.Rules as rules
use Rattle.ipam_command.specs.Rules.{CompleteLaw, IsWholeText, NoFault, ending_status}
use Rattle.ipam_command.specs.Statuses.{code_of_gen, code_of_play}

or-else : {A B C : Type 0} → (B → C) → A ⊎ B → A ⊎ C
or-else f (inl a) = inl a
or-else f (inr b) = inr (f b)

append-twice : (bytes : Option (List ℕ)) (front text : List ℕ) → append_known (append_known bytes front) text ≡ append_known bytes (front ++ text)
append-twice None front text = refl
append-twice (Some xs) front text = rw append_assoc

if-some : (P Q : List ℕ → Type 0) (left : Option (List ℕ)) → ((bytes : List ℕ) → P bytes → Q bytes) → IfSome left P → IfSome left Q
if-some P Q None f h = h
if-some P Q (Some bytes) f h = f bytes h

module _ (old new : Outside) (well : NoFault old new) (code : ℕ) where
  -- ---- what is written

  -- after what was written before it
  by-writes : (front text : List ℕ) (own ending : Status) → code ≡ code_of_status ending
      → Writes (append_known old.written front) new.written old.write_faults new.write_faults text own ending
      → (code ≡ 6) ⊎ IsWholeText (front ++ text) (code_of_status own) old new code
  by-writes front text own _ has (Whole is none) = inr (is ∙ append-twice old.written front text, has)
  by-writes front text own _ has (Cut said is rose) = absurd (well.sink rose)
  by-writes front text own _ has (Untold made same none) = inl has

  at-once : (text : List ℕ) (own ending : Status) → code ≡ code_of_status ending
      → Writes old.written new.written old.write_faults new.write_faults text own ending
      → (code ≡ 6) ⊎ IsWholeText text (code_of_status own) old new code
  at-once text own _ has (Whole is none) = inr (is, has)
  at-once text own _ has (Cut said is rose) = absurd (well.sink rose)
  at-once text own _ has (Untold made same none) = inl has

  not-done : (first : Option (List ℕ)) (text : List ℕ) (ending : Status) → code ≡ code_of_status ending
      → Writes first new.written old.write_faults new.write_faults text status.Done ending → ending ≢ status.Done → code ≡ 6
  not-done first text _ has (Whole is none) other = absurd (other refl)
  not-done first text _ has (Cut said is rose) other = absurd (well.sink rose)
  not-done first text _ has (Untold made same none) other = has

  no-memory : (ending : Status) → code ≡ code_of_status ending → Writes old.written new.written old.write_faults new.write_faults [] status.NoMemory ending → code ≡ 6
  no-memory _ has (Whole is none) = has
  no-memory _ has (Cut said is rose) = absurd (well.sink rose)
  no-memory _ has (Untold made same none) = has

  said : (text : List ℕ) (own : ℕ) → SaysFixedText text own old.written new.written old.write_faults new.write_faults code → (code ≡ 6) ⊎ IsWholeText text own old new code
  said text own s = by code s refl
    where
      by : (n : ℕ) → SaysFixedText text own old.written new.written old.write_faults new.write_faults n → code ≡ n → (code ≡ 6) ⊎ IsWholeText text own old new code
      by _ (does.Told is none) has = inr (is, has)
      by _ (does.Cut is rose) has = absurd (well.sink rose)

  -- ---- the rows

  told-rows : (says : List RowText → Datastore → List ℕ) (ending : Status) → code ≡ code_of_status ending
      → ReportsRows old.rows old.keeper_faults new.keeper_faults says (λ text own. Writes old.written new.written old.write_faults new.write_faults text own ending)
      → (code ≡ 6) ⊎ rules.OfRows old.rows says (λ text own. IsWholeText text own old new code)
  told-rows says ending has (Opened rows store is none w) =
      or-else (λ whole. rules.Opened rows store is whole) (at-once (says rows store) status.Done ending has w)
  told-rows says ending has (NotOpened fault.Keeper is w) = absurd (well.keeper is)
  told-rows says ending has (NotOpened (fault.Refused number about) is w) =
      or-else (λ whole. rules.Broken number about is.0 whole) (at-once (broken_line number about) status.BrokenRows ending has w)
  told-rows says ending has (NotOpened fault.Memory is w) = inl (no-memory ending has w)

  released : (node : List ℕ) (cidr : CidrValue) (came : Result ChangeOutcome KeptFault) (ending : Status) (told : Type 0) → code ≡ code_of_status ending
      → ChangeEnds (request.Release node cidr) came old.rows new.rows old.keeper_faults new.keeper_faults
      → ChangeWrites release_line (λ text own. Writes old.written new.written old.write_faults new.write_faults text own ending) told came
      → (code ≡ 6) ⊎ rules.OfRelease node cidr old new (λ text own. IsWholeText text own old new code)
  released node cidr (Ok found) ending told has ends w =
      or-else (λ whole. rules.Came found ends.1 whole) (at-once (release_line found) (outcome_status found) ending has w.0)
  released node cidr (Err fault.Keeper) ending told has ends w = absurd (well.keeper ends.0)
  released node cidr (Err (fault.Refused number about)) ending told has ends w =
      or-else (λ whole. rules.NotCome number about ends.1 whole) (at-once (broken_line number about) status.BrokenRows ending has w)
  released node cidr (Err fault.Memory) ending told has ends w = inl (no-memory ending has w)

  -- ---- a document

  module _ (ending : Status) (has : code ≡ code_of_status ending) where
    abbrev IsComplete : Type 0
    IsComplete = (code ≡ 6) ⊎ rules.OfApply old new (λ text own. IsWholeText text own old new code)

    untold : ending ≡ status.NoMemory → code ≡ 6
    untold is = has ∙ ap code_of_status is

    module _ (document : List ℕ) (resources : List Resource) (input : IsDocument old.left new.left document) (is_good : document_reading document ≡ Ok resources) where
      run : (rows : List RowText) (store : Datastore) → AreOpened old.rows rows store → applying.RunEnds store resources old new ending → IsComplete
      run rows store opens (applying.All left applied is took done) =
          inr (rules.All document resources rows store left input is_good opens applied (took.written, has ∙ ap code_of_status done))
      run rows store opens (applying.UpTo front one rest before split applied (applying.Refused why is course left says)) =
          or-else (λ whole. rules.UpTo document resources front one rest rows store before why input is_good opens split applied is whole)
          (by-writes (applying.applied_lines front) (refused_line one why) status.Refused ending has says)
      run rows store opens (applying.UpTo front one rest before split applied (applying.Untold is left says not_done)) =
          inl (not-done _ (applied_line one) ending has says not_done)
      run rows store opens (applying.UpTo front one rest before split applied (applying.KeeperFailed first course rose says)) = absurd (well.keeper rose)
      run rows store opens (applying.UpTo front one rest before split applied (applying.Stopped first course none same)) = inl (untold none.no_memory)

      resources-end : apply.ResourcesEnd resources old new ending → IsComplete
      resources-end (apply.Opened rows store opens ends) = run rows store opens ends
      resources-end (apply.NotOpened fault.Keeper is same w) = absurd (well.keeper is)
      resources-end (apply.NotOpened (fault.Refused number about) is same w) =
          or-else (λ whole. rules.NotApplied document resources number about input is_good is.0 whole) (at-once (broken_line number about) status.BrokenRows ending has w)
      resources-end (apply.NotOpened fault.Memory is same w) = inl (no-memory ending has w)

    document-end : (same : Type 0) (document : List ℕ) → IsDocument old.left new.left document → apply.DocumentEnds same document old new ending → IsComplete
    document-end same document input (apply.Good resources is ends) = resources-end document resources input is ends
    document-end same document input (apply.Bad why is unasked says fixed) =
        or-else (λ whole. rules.Bad document why input is whole) (at-once (fault_line why) status.Refused ending has says)
    document-end same document input (apply.NoRoom readable unasked none) = inl (untold none.no_memory)

    applied : (same : Type 0) → apply.ApplyEnds same old new ending → IsComplete
    applied same (apply.Read document input faults ends) = document-end same document input ends
    applied same (apply.ReadFailed rose unasked says) = absurd (well.source rose)
    applied same (apply.NoInput faults unasked none) = inl (untold none.no_memory)

  -- ---- a script, and the generator

  abbrev AllWritten : List ℕ → Type 0
  AllWritten bytes = WritesAll (script_in bytes) old.written new.written (λ ending. code ≡ ending_status ending)

  abbrev WrittenAs : PlayEnd → List ℕ → Type 0
  WrittenAs ending bytes = HasWrittenRight ending (script_in bytes) old.written new.written

  played : (ending : PlayEnd) → code ≡ code_of_play ending → does.PlayEnds old new ending → (code ≡ 6) ⊎ IfSome old.left AllWritten
  played play.Done has is = inr (if-some (WrittenAs play.Done) AllWritten old.left (λ bytes w. record {
    entries = w.0.entries;
    ending = w.0.ending;
    is_played = w.0.is_played;
    written = w.0.written;
    is_ending = has ∙ ap ending_status (sym w.0.is_ending);
  }) is.written)
  played play.LineRefused has is = inr (if-some (WrittenAs play.LineRefused) AllWritten old.left (λ bytes w. record {
    entries = w.0.entries;
    ending = w.0.ending;
    is_played = w.0.is_played;
    written = w.0.written;
    is_ending = let (number, (why, e)) = w.0.is_ending in has ∙ ap ending_status (sym e);
  }) is.written)
  played play.NotOpened has is = inr (if-some (WrittenAs play.NotOpened) AllWritten old.left (λ bytes w. record {
    entries = w.0.entries;
    ending = w.0.ending;
    is_played = w.0.is_played;
    written = w.0.written;
    is_ending = let (rule, (about, e)) = w.0.is_ending in has ∙ ap ending_status (sym e);
  }) is.written)
  played play.ReadFault has is = absurd (well.source (is.read_fault refl))
  played play.WriteFault has is = absurd (well.sink (is.write_fault refl))
  played play.NoMemory has is = inl has

  generated : (count : ℕ) (ending : GenEnd) → code ≡ code_of_gen ending → HasCountedRight ending count old.written new.written → CountsFaults ending old.write_faults new.write_faults
      → (code ≡ 6) ⊎ (WritesSummary count old.written new.written × (code ≡ 0))
  generated count gen.Done has w faults = inr (w.0, has)
  generated count gen.WriteFault has w faults = absurd (well.sink faults)
  generated count gen.NoMemory has w faults = inl has

  -- ---- a CNI call

  called : (same : Type 0) (env : List Pair) (ending : CniEnd) → cni.CniCallWent same env ending old new → cni_ends.WritesCniEnd ending old.written new.written old.write_faults new.write_faults code
      → (code ≡ 6) ⊎ rules.OfCall env old new code
  called kept env (Told own text) went (inl (is, same)) =
      inr (rules.Replied went.stdin (own, text) went.input went.ends.1 (record { text = is.bytes; has_status = same }))
  called kept env (Told own text) went (inr (is, same)) = absurd (well.sink is.fault)
  called kept env (Failed version cni_fault.Read) went tells = absurd (well.source went.input_faults)
  called kept env (Failed version cni_fault.Undecodable) went (inl (is, same)) =
      inr (rules.Replied went.stdin (1, error_text (cni_ends.fault_error version cni_fault.Undecodable)) went.input (Refused (cni_ends.fault_error version cni_fault.Undecodable) went.ends.1 went.ends.2) (record { text = is.bytes; has_status = same }))
  called kept env (Failed version cni_fault.Undecodable) went (inr (is, same)) = absurd (well.sink is.fault)
  called kept env (Failed version cni_fault.Keeper) went tells = absurd (well.keeper went.ends.0)
  called kept env (Failed version cni_fault.Memory) (inl none) (inl (is, same)) =
      inr (rules.Unread (record { rows = none.rows; keeper_faults = none.keeper_faults })
      (record { text = is.bytes ∙ ap (λ (v : versions.Version). append_known old.written (error_text (cni_ends.fault_error v cni_fault.Memory))) none.in_version; has_status = same }))
  called kept env (Failed version cni_fault.Memory) (inr went) (inl (is, same)) =
      inr (rules.NoMemory went.stdin went.input
      (record { text = is.bytes ∙ ap (λ (v : versions.Version). append_known old.written (error_text (cni_ends.fault_error v cni_fault.Memory))) went.in_version; has_status = same }))
  called kept env (Failed version cni_fault.Memory) went (inr (is, same)) = absurd (well.sink is.fault)

-- ---- all

pub complete : (same : Type 0) (env : List Pair) (asked : Option AskedCommand) (old new : Outside) (code : ℕ) → Does same env asked old new code → CompleteLaw env asked old new code
complete kept env (Some Cni) old new code d well = called old new well code kept env d.ending d.went d.tells
complete kept env (Some Play) old new code d well = played old new well code d.ending d.has_status d.played
complete kept env (Some (Gen count)) old new code d well = generated old new well code count d.ending d.has_status d.written d.faults
complete kept env (Some (Get kind)) old new code d well = told-rows old new well code (λ rows store. rows_text kind rows) d.ending d.has_status d.tells
complete kept env (Some (Show view)) old new code d well = told-rows old new well code (λ rows store. shown_text view store) d.ending d.has_status d.tells
complete kept env (Some (Routes node)) old new code d well = told-rows old new well code (λ rows store. routes_text node store) d.ending d.has_status d.tells
complete kept env (Some (Release node cidr)) old new code d well = released old new well code node cidr d.came d.ending _ d.has_status d.ends d.writes
complete kept env (Some Apply) old new code d well = applied old new well code d.ending d.has_status (LeavesKeeper old new) d.ends
complete kept env (Some Help) old new code d well = said old new well code HELP.now 0 d.said
complete kept env (Some Version) old new code d well = said old new well code VERSION.now 0 d.said
complete kept env (Some (Audit workers)) old new code d well = said old new well code unknown_text 2 d.said
complete kept env (Some (Serve address workers)) old new code d well = said old new well code unknown_text 2 d.said
complete kept env (Some (Call address)) old new code d well = said old new well code unknown_text 2 d.said
complete kept env None old new code d well = said old new well code unknown_text 2 d.said
