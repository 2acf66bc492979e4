-- Each status has its cause.
use Rattle.std.proofs.Common.{◌≡◌, ℕ, zero, suc, ◌≤◌, ◌==◌, inl, inr, true, false, List, [], Option, Some, None, Result, Ok, Err, refl, sym, ap, ◌∙◌, subst, arith}
use Rattle.std.specs.Prelude.{if◌then◌else◌}
use Rattle.std.specs.Io.KnownBytes.{IsAtEnd}
use Rattle.ipam_io.specs.Counts.{Rose}
use Rattle.ipam_records.specs.declared.call.Row.{Row as RowText}
use Rattle.ipam_records.specs.Datastore.{Datastore}
use Rattle.ipam_addr.specs.Shape.{CidrValue}
use Rattle.ipam_model.specs.declared.request.Request.{Request}
use Rattle.ipam_model.specs.declared.request.Request.TheVariants as request
use Rattle.ipam_shared.specs.Broken.{broken_line}
use Rattle.ipam_shared.specs.declared.kept.KeptFault.{KeptFault}
use Rattle.ipam_shared.specs.declared.kept.KeptFault.TheVariants as fault
use Rattle.ipam_words.specs.declared.texts.TheConstants.{HELP, VERSION}
use Rattle.ipam_words.specs.Words.{AskedCommand, Audit, Call, Cni, Play, Apply, Get, Help, Routes, Release, Gen, Serve, Show, Version}
use Rattle.ipam_play.specs.declared.end.PlayEnd.{PlayEnd}
use Rattle.ipam_play.specs.declared.end.PlayEnd.TheVariants as play
use Rattle.ipam_command.specs.declared.gen_end.GenEnd.{GenEnd}
use Rattle.ipam_command.specs.declared.gen_end.GenEnd.TheVariants as gen
use Rattle.ipam_command.specs.Summary.{CountsFaults}
use Rattle.ipam_commands.specs.declared.outcome.ChangeOutcome.{ChangeOutcome}
use Rattle.ipam_commands.specs.declared.outcome.ChangeOutcome.TheVariants as outcome
use Rattle.ipam_commands.specs.declared.status.Status.{Status}
use Rattle.ipam_commands.specs.declared.status.Status.TheVariants as status
use Rattle.ipam_commands.specs.Changing.{ChangeEnds, ChangeWrites, outcome_status, release_line}
use Rattle.ipam_commands.specs.Statuses.{code_of_status}
use Rattle.ipam_commands.specs.Telling.{Cut, FaultWrites, IsNotLoaded, NotOpened, Opened, ReportsRows, Untold, Whole, Writes, keeper_line}
use Rattle.ipam_views.specs.Shown.{shown_text}
use Rattle.ipam_commands.specs.Texts.{routes_text}
use Rattle.ipam_show.specs.Rows.{rows_text}
use Rattle.ipam_resources.specs.declared.resource.Resource.{Resource}
use Rattle.ipam_resources.specs.Printed.{applied_line, fault_line, refused_line}
use Rattle.ipam_commands.specs.Applied as apply
use Rattle.ipam_commands.specs.Applying as applying
use Rattle.ipam_commands.specs.Outside as apply_outside
use Rattle.cni_types.specs.Reading.{Pair}
use Rattle.cni_asks.specs.declared.replies.CniReply.{CniReply}
use Rattle.cni_asks.specs.declared.replies.CniReply.TheVariants.{Addresses, Success, Failure}
use Rattle.cni_asks.specs.Replying.{reply_status}
use Rattle.cni_types.specs.declared.version.Version as versions
use Rattle.ipam_command.specs.declared.cni_end.CniEnd.{CniEnd}
use Rattle.ipam_command.specs.declared.cni_end.CniEnd.TheVariants.{Told, Failed}
use Rattle.ipam_command.specs.Calls as cni
use Rattle.ipam_command.specs.Ends as cni_ends
use Rattle.ipam_command.specs.Replies as replies
use Rattle.ipam_command.specs.Commands as does
use Rattle.ipam_command.specs.Commands.{Does, DoesApply, DoesCni, DoesGen, DoesPlay, DoesRelease, DoesSay, DoesTell, SaysFixedText, unknown_text}
use Rattle.ipam_keeper.specs.Outside.{LeavesKeeper, LeavesSource, Outside}
use Rattle.ipam_command.specs.Rules.{asks_keeper, reads}
use Rattle.ipam_command.specs.Statuses.{code_of_gen, code_of_play}

-- ---- statuses

-- what is so where a command ends in this way
abbrev Causes : (asked : Option AskedCommand) → (old new : Outside) → Status → Type 0
Causes asked old new status.Done = reads asked ≡ true → IsAtEnd new.left
Causes asked old new status.Refused = Unit {0}
Causes asked old new status.UnknownWords = LeavesSource old new × LeavesKeeper old new
Causes asked old new status.ReadFault = Rose old.read_faults new.read_faults
Causes asked old new status.WriteFault = Rose old.write_faults new.write_faults
Causes asked old new status.KeeperFault = Rose old.keeper_faults new.keeper_faults
Causes asked old new status.NoMemory = Unit {0}
Causes asked old new status.BrokenRows = new.rows ≡ old.rows
Causes asked old new status.LineRefused = asked ≡ Some Play

-- the status is that of an end with its cause
record HasCause (asked : Option AskedCommand) (old new : Outside) (code : ℕ) : Type 0 where
  ending : Status
  has_code : code ≡ code_of_status ending
  cause : Causes asked old new ending

status_at : ℕ → Status
status_at n =
    if n == 0 then status.Done else (if n == 1 then status.Refused else (if n == 2 then status.UnknownWords
    else (if n == 3 then status.ReadFault else (if n == 4 then status.WriteFault else (if n == 5 then status.KeeperFault
    else (if n == 6 then status.NoMemory else (if n == 7 then status.BrokenRows else status.LineRefused)))))))

status-of-code : (ending : Status) → status_at (code_of_status ending) ≡ ending
unfolding status_at
status-of-code status.Done = refl
status-of-code status.Refused = refl
status-of-code status.UnknownWords = refl
status-of-code status.ReadFault = refl
status-of-code status.WriteFault = refl
status-of-code status.KeeperFault = refl
status-of-code status.NoMemory = refl
status-of-code status.BrokenRows = refl
status-of-code status.LineRefused = refl

-- the cause of a status
cause-of : (asked : Option AskedCommand) (old new : Outside) (code : ℕ) (other : Status) → HasCause asked old new code → code ≡ code_of_status other → Causes asked old new other
cause-of asked old new code other h is =
    subst (λ (s : Status). Causes asked old new s)
    (sym (status-of-code h.ending) ∙ ap status_at (sym h.has_code ∙ is) ∙ status-of-code other) h.cause

-- ---- what is written

by-writes : (asked : Option AskedCommand) (old new : Outside) (first : Option (List ℕ)) (text : List ℕ) (own ending : Status)
    → Writes first new.written old.write_faults new.write_faults text own ending
    → (ending ≡ own → Causes asked old new own) → Causes asked old new ending
by-writes asked old new first text own _ (Whole is none) h = h refl
by-writes asked old new first text own _ (Cut said is rose) h = rose
by-writes asked old new first text own _ (Untold made same none) h = tt

by-fault : (asked : Option AskedCommand) (old new : Outside) (why : KeptFault) (ending : Status)
    → FaultWrites (λ text own. Writes old.written new.written old.write_faults new.write_faults text own ending) why
    → IsNotLoaded old.rows old.keeper_faults new.keeper_faults why → new.rows ≡ old.rows → Causes asked old new ending
by-fault asked old new fault.Keeper ending w is same = by-writes asked old new old.written keeper_line status.KeeperFault ending w (λ e. is)
by-fault asked old new (fault.Refused number about) ending w is same = by-writes asked old new old.written (broken_line number about) status.BrokenRows ending w (λ e. same)
by-fault asked old new fault.Memory ending w is same = by-writes asked old new old.written [] status.NoMemory ending w (λ e. tt)

-- a command that reads no source may be done
unread : (asked : Option AskedCommand) (old new : Outside) → reads asked ≡ false → Causes asked old new status.Done
unread asked old new quiet = λ yes. absurd (cc (quiet, yes))

-- ---- `get` and `routes`

tells-cause : (asked : Option AskedCommand) (old new : Outside) (says : List RowText → Datastore → List ℕ) (ending : Status) → reads asked ≡ false → new.rows ≡ old.rows
    → ReportsRows old.rows old.keeper_faults new.keeper_faults says (λ said own. Writes old.written new.written old.write_faults new.write_faults said own ending)
    → Causes asked old new ending
tells-cause asked old new says ending quiet same (Opened rows store is none w) =
    by-writes asked old new old.written (says rows store) status.Done ending w (λ e. unread asked old new quiet)
tells-cause asked old new says ending quiet same (NotOpened why is w) = by-fault asked old new why ending w is same

tell-cause : (asked : Option AskedCommand) (says : List RowText → Datastore → List ℕ) (old new : Outside) (code : ℕ) → reads asked ≡ false → DoesTell says old new code → HasCause asked old new code
tell-cause asked says old new code quiet d = record {
  ending = d.ending;
  has_code = d.has_status;
  cause = tells-cause asked old new says d.ending quiet d.same_rows d.tells;
}

-- ---- `release`

outcome-cause : (asked : Option AskedCommand) (old new : Outside) (found : ChangeOutcome) → reads asked ≡ false → Causes asked old new (outcome_status found)
outcome-cause asked old new outcome.Made quiet = unread asked old new quiet
outcome-cause asked old new outcome.Absent quiet = tt
outcome-cause asked old new outcome.Full quiet = tt
outcome-cause asked old new outcome.Spent quiet = tt

came-cause : (asked : Option AskedCommand) (old new : Outside) (made : Request) (came : Result ChangeOutcome KeptFault) (ending : Status) (told : Type 0) → reads asked ≡ false
    → ChangeEnds made came old.rows new.rows old.keeper_faults new.keeper_faults
    → ChangeWrites release_line (λ said own. Writes old.written new.written old.write_faults new.write_faults said own ending) told came
    → Causes asked old new ending
came-cause asked old new made (Ok found) ending told quiet ends w =
    by-writes asked old new old.written (release_line found) (outcome_status found) ending w.0 (λ e. outcome-cause asked old new found quiet)
came-cause asked old new made (Err fault.Keeper) ending told quiet ends w =
    by-writes asked old new old.written keeper_line status.KeeperFault ending w (λ e. ends.0)
came-cause asked old new made (Err (fault.Refused number about)) ending told quiet ends w =
    by-writes asked old new old.written (broken_line number about) status.BrokenRows ending w (λ e. ends.2)
came-cause asked old new made (Err fault.Memory) ending told quiet ends w =
    by-writes asked old new old.written [] status.NoMemory ending w (λ e. tt)

release-cause : (asked : Option AskedCommand) (node : List ℕ) (cidr : CidrValue) (old new : Outside) (code : ℕ) → reads asked ≡ false → DoesRelease node cidr old new code → HasCause asked old new code
release-cause asked node cidr old new code quiet d = record {
  ending = d.ending;
  has_code = d.has_status;
  cause = came-cause asked old new (request.Release node cidr) d.came d.ending _ quiet d.ends d.writes;
}

-- ---- `apply`

module _ (asked : Option AskedCommand) (old new : Outside) (ending : Status) (at_end : ending ≡ status.Done → IsAtEnd new.left) where
  no-memory : ending ≡ status.NoMemory → Causes asked old new ending
  no-memory is = subst (λ (s : Status). Causes asked old new s) (sym is) tt

  at-cause : (store : Datastore) (one : Resource) (front : List ℕ) → applying.EndsAt store one (apply_outside.with_told old front) new ending → Causes asked old new ending
  at-cause store one front (applying.Refused why is course left says) = by-writes asked old new _ (refused_line one why) status.Refused ending says (λ e. tt)
  at-cause store one front (applying.Untold is left says not_done) = by-writes asked old new _ (applied_line one) status.Done ending says (λ e. absurd (not_done e))
  at-cause store one front (applying.KeeperFailed first course rose says) = by-writes asked old new _ keeper_line status.KeeperFault ending says (λ e. rose)
  at-cause store one front (applying.Stopped first course untold none) = no-memory untold.no_memory

  run-cause : (store : Datastore) (resources : List Resource) → applying.RunEnds store resources old new ending → Causes asked old new ending
  run-cause store resources (applying.All left applied is took done) =
      subst (λ (s : Status). Causes asked old new s) (sym done) (λ yes. at_end done)
  run-cause store resources (applying.UpTo front one rest before split applied ends) = at-cause before one (applying.applied_lines front) ends

  resources-cause : (resources : List Resource) → apply.ResourcesEnd resources old new ending → Causes asked old new ending
  resources-cause resources (apply.Opened rows store opened run) = run-cause store resources run
  resources-cause resources (apply.NotOpened why is same w) = by-fault asked old new why ending w is same

  document-cause : (same : Type 0) (document : List ℕ) → apply.DocumentEnds same document old new ending → Causes asked old new ending
  document-cause same document (apply.Good resources is ends) = resources-cause resources ends
  document-cause same document (apply.Bad why is unasked says fixed) = by-writes asked old new old.written (fault_line why) status.Refused ending says (λ e. tt)
  document-cause same document (apply.NoRoom readable unasked untold) = no-memory untold.no_memory

  apply-cause : (same : Type 0) → apply.ApplyEnds same old new ending → Causes asked old new ending
  apply-cause same (apply.Read document is faults ends) = document-cause same document ends
  apply-cause same (apply.ReadFailed rose unasked says) = by-writes asked old new old.written apply.read_line status.ReadFault ending says (λ e. rose)
  apply-cause same (apply.NoInput faults unasked untold) = no-memory untold.no_memory

applied-cause : (asked : Option AskedCommand) (old new : Outside) (code : ℕ) → DoesApply old new code → HasCause asked old new code
applied-cause asked old new code d = record {
  ending = d.ending;
  has_code = d.has_status;
  cause = apply-cause asked old new d.ending d.at_end (LeavesKeeper old new) d.ends;
}

-- ---- `play` and `gen`

abbrev status_of_play : PlayEnd → Status
status_of_play play.Done = status.Done
status_of_play play.ReadFault = status.ReadFault
status_of_play play.WriteFault = status.WriteFault
status_of_play play.NoMemory = status.NoMemory
status_of_play play.NotOpened = status.BrokenRows
status_of_play play.LineRefused = status.LineRefused

play-code : (ending : PlayEnd) → code_of_play ending ≡ code_of_status (status_of_play ending)
play-code play.Done = refl
play-code play.ReadFault = refl
play-code play.WriteFault = refl
play-code play.NoMemory = refl
play-code play.NotOpened = refl
play-code play.LineRefused = refl

play-end : (old new : Outside) (ending : PlayEnd) → does.PlayEnds old new ending → LeavesKeeper old new → Causes (Some Play) old new (status_of_play ending)
play-end old new play.Done is keeper = λ yes. is.at_end refl
play-end old new play.ReadFault is keeper = is.read_fault refl
play-end old new play.WriteFault is keeper = is.write_fault refl
play-end old new play.NoMemory is keeper = tt
play-end old new play.NotOpened is keeper = keeper.rows
play-end old new play.LineRefused is keeper = refl

play-cause : (old new : Outside) (code : ℕ) → DoesPlay old new code → HasCause (Some Play) old new code
play-cause old new code d = record {
  ending = status_of_play d.ending;
  has_code = d.has_status ∙ play-code d.ending;
  cause = play-end old new d.ending d.played d.keeper;
}

gen-end : (asked : Option AskedCommand) (old new : Outside) (code : ℕ) (ending : GenEnd) → reads asked ≡ false → code ≡ code_of_gen ending → CountsFaults ending old.write_faults new.write_faults → HasCause asked old new code
gen-end asked old new code gen.Done quiet is faults = record { ending = status.Done; has_code = is; cause = unread asked old new quiet }
gen-end asked old new code gen.WriteFault quiet is faults = record { ending = status.WriteFault; has_code = is; cause = faults }
gen-end asked old new code gen.NoMemory quiet is faults = record { ending = status.NoMemory; has_code = is; cause = tt }

-- ---- a fixed text

said-cause : (asked : Option AskedCommand) (text : List ℕ) (own : Status) (old new : Outside) (code : ℕ) → Causes asked old new own
    → SaysFixedText text (code_of_status own) old.written new.written old.write_faults new.write_faults code → HasCause asked old new code
said-cause asked text own old new _ h (does.Told is none) = record { ending = own; has_code = refl; cause = h }
said-cause asked text own old new _ h (does.Cut is rose) = record { ending = status.WriteFault; has_code = refl; cause = rose }

unknown-cause : (asked : Option AskedCommand) (old new : Outside) (code : ℕ) → DoesSay unknown_text 2 old new code → HasCause asked old new code
unknown-cause asked old new code d = said-cause asked unknown_text status.UnknownWords old new code (d.source, d.keeper) d.said

-- ---- a CNI call

reply-small : (reply : CniReply) → reply_status reply ≤ 1
reply-small (Addresses addresses) = omega arith
reply-small Success = omega arith
reply-small (Failure code details) = omega arith

request-small : (asked : Request) (version : versions.Version) (old new : Option (List RowText)) (reply : replies.StatusAndText) → replies.RequestComesTo asked version old new reply → reply.0 ≤ 1
request-small asked version old new _ (replies.BadRows loaded number about is refused same) = omega arith
request-small asked version old new _ (replies.Answered loaded store reply is opens told rows course) = reply-small reply

comes-small : (env : List Pair) (stdin : List ℕ) (old new : Option (List RowText)) (reply : replies.StatusAndText) → replies.ComesTo env stdin old new reply → reply.0 ≤ 1
comes-small env stdin old new _ (replies.Refused error is same) = omega arith
comes-small env stdin old new _ (replies.AtOnce look text is begins same) = omega arith
comes-small env stdin old new _ (replies.Asked look asked version reply is begins comes) = request-small asked version old new reply comes

small-cause : (asked : Option AskedCommand) (old new : Outside) (code : ℕ) → code ≤ 1 → (code ≡ 0 → IsAtEnd new.left) → HasCause asked old new code
small-cause asked old new zero small at_end = record { ending = status.Done; has_code = refl; cause = λ yes. at_end refl }
small-cause asked old new (suc zero) small at_end = record { ending = status.Refused; has_code = refl; cause = tt }
small-cause asked old new (suc (suc n)) small at_end = absurd (omega arith)

cut-cause : (asked : Option AskedCommand) (old new : Outside) (code : ℕ) → Rose old.write_faults new.write_faults → code ≡ 4 → HasCause asked old new code
cut-cause asked old new code rose is = record { ending = status.WriteFault; has_code = is; cause = rose }

call-cause : (same : Type 0) (asked : Option AskedCommand) (env : List Pair) (ending : CniEnd) (old new : Outside) (code : ℕ) → (code ≡ 0 → IsAtEnd new.left)
    → cni.CniCallWent same env ending old new → cni_ends.WritesCniEnd ending old.written new.written old.write_faults new.write_faults code → HasCause asked old new code
call-cause kept asked env (Told own text) old new code at_end went (inl (is, same)) =
    small-cause asked old new code
    (subst (λ (n : ℕ). n ≤ 1) (sym same) (comes-small env went.stdin old.rows new.rows (own, text) went.ends.1)) at_end
call-cause kept asked env (Told own text) old new code at_end went (inr (is, same)) = cut-cause asked old new code is.fault same
call-cause kept asked env (Failed version why) old new code at_end went (inl (is, same)) = small-cause asked old new code (omega arith) at_end
call-cause kept asked env (Failed version why) old new code at_end went (inr (is, same)) = cut-cause asked old new code is.fault same

-- ---- all

has-cause : (same : Type 0) (env : List Pair) (asked : Option AskedCommand) (old new : Outside) (code : ℕ) → Does same env asked old new code → HasCause asked old new code
has-cause kept env (Some Cni) old new code d = call-cause kept (Some Cni) env d.ending old new code d.at_end d.went d.tells
has-cause kept env (Some Play) old new code d = play-cause old new code d
has-cause kept env (Some (Gen count)) old new code d = gen-end (Some (Gen count)) old new code d.ending refl d.has_status d.faults
has-cause kept env (Some (Get kind)) old new code d = tell-cause (Some (Get kind)) (λ rows store. rows_text kind rows) old new code refl d
has-cause kept env (Some (Show view)) old new code d = tell-cause (Some (Show view)) (λ rows store. shown_text view store) old new code refl d
has-cause kept env (Some (Routes node)) old new code d = tell-cause (Some (Routes node)) (λ rows store. routes_text node store) old new code refl d
has-cause kept env (Some (Release node cidr)) old new code d = release-cause (Some (Release node cidr)) node cidr old new code refl d
has-cause kept env (Some Apply) old new code d = applied-cause (Some Apply) old new code d
has-cause kept env (Some Help) old new code d = said-cause (Some Help) HELP.now status.Done old new code (unread (Some Help) old new refl) d.said
has-cause kept env (Some Version) old new code d = said-cause (Some Version) VERSION.now status.Done old new code (unread (Some Version) old new refl) d.said
has-cause kept env (Some (Audit workers)) old new code d = unknown-cause (Some (Audit workers)) old new code d
has-cause kept env (Some (Serve address workers)) old new code d = unknown-cause (Some (Serve address workers)) old new code d
has-cause kept env (Some (Call address)) old new code d = unknown-cause (Some (Call address)) old new code d
has-cause kept env None old new code d = unknown-cause None old new code d

module _ (same : Type 0) (env : List Pair) (asked : Option AskedCommand) (old new : Outside) (code : ℕ) (d : Does same env asked old new code) where
  causes-at : (other : Status) → code ≡ code_of_status other → Causes asked old new other
  causes-at other is = cause-of asked old new code other (has-cause same env asked old new code d) is

  pub at_end : code ≡ 0 → reads asked ≡ true → IsAtEnd new.left
  at_end is = causes-at status.Done is

  pub unknown : code ≡ 2 → LeavesSource old new × LeavesKeeper old new
  unknown is = causes-at status.UnknownWords is

  pub read_rose : code ≡ 3 → Rose old.read_faults new.read_faults
  read_rose is = causes-at status.ReadFault is

  pub write_rose : code ≡ 4 → Rose old.write_faults new.write_faults
  write_rose is = causes-at status.WriteFault is

  pub keeper_rose : code ≡ 5 → Rose old.keeper_faults new.keeper_faults
  keeper_rose is = causes-at status.KeeperFault is

  pub broken_stay : code ≡ 7 → new.rows ≡ old.rows
  broken_stay is = causes-at status.BrokenRows is

  pub only_play : code ≡ 8 → asked ≡ Some Play
  only_play is = causes-at status.LineRefused is

-- ---- what is left as it was

pub leaves_source : (same : Type 0) (env : List Pair) (asked : Option AskedCommand) (old new : Outside) (code : ℕ) → Does same env asked old new code → reads asked ≡ false → LeavesSource old new
leaves_source kept env (Some Cni) old new code d quiet = absurd cc
leaves_source kept env (Some Play) old new code d quiet = absurd cc
leaves_source kept env (Some (Gen count)) old new code d quiet = d.source
leaves_source kept env (Some (Get kind)) old new code d quiet = d.source
leaves_source kept env (Some (Show view)) old new code d quiet = d.source
leaves_source kept env (Some (Routes node)) old new code d quiet = d.source
leaves_source kept env (Some (Release node cidr)) old new code d quiet = d.source
leaves_source kept env (Some Apply) old new code d quiet = absurd cc
leaves_source kept env (Some Help) old new code d quiet = d.source
leaves_source kept env (Some Version) old new code d quiet = d.source
leaves_source kept env (Some (Audit workers)) old new code d quiet = d.source
leaves_source kept env (Some (Serve address workers)) old new code d quiet = d.source
leaves_source kept env (Some (Call address)) old new code d quiet = d.source
leaves_source kept env None old new code d quiet = d.source

pub leaves_keeper : (same : Type 0) (env : List Pair) (asked : Option AskedCommand) (old new : Outside) (code : ℕ) → Does same env asked old new code → asks_keeper asked ≡ false → LeavesKeeper old new
leaves_keeper kept env (Some Cni) old new code d quiet = absurd cc
leaves_keeper kept env (Some Play) old new code d quiet = d.keeper
leaves_keeper kept env (Some (Gen count)) old new code d quiet = d.keeper
leaves_keeper kept env (Some (Get kind)) old new code d quiet = absurd cc
leaves_keeper kept env (Some (Show view)) old new code d quiet = absurd cc
leaves_keeper kept env (Some (Routes node)) old new code d quiet = absurd cc
leaves_keeper kept env (Some (Release node cidr)) old new code d quiet = absurd cc
leaves_keeper kept env (Some Apply) old new code d quiet = absurd cc
leaves_keeper kept env (Some Help) old new code d quiet = d.keeper
leaves_keeper kept env (Some Version) old new code d quiet = d.keeper
leaves_keeper kept env (Some (Audit workers)) old new code d quiet = d.keeper
leaves_keeper kept env (Some (Serve address workers)) old new code d quiet = d.keeper
leaves_keeper kept env (Some (Call address)) old new code d quiet = d.keeper
leaves_keeper kept env None old new code d quiet = d.keeper
