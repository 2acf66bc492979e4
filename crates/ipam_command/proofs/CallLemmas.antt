-- A CNI call that goes well over rows with spare.
use Rattle.std.proofs.Common.{◌≡◌, ℕ, ◌≤◌, ◌+◌, inl, inr, List, [], ◌++◌, length, Option, Some, None, Ok, Err, refl, sym, ap, ◌∙◌, subst, arith, append-nil, length-append}
use Rattle.ipam_records.specs.declared.call.Row.{Row as RowText}
use Rattle.ipam_records.specs.Datastore.{Datastore}
use Rattle.cni_types.specs.declared.calls.Look.{Look}
use Rattle.cni_types.specs.declared.calls.Look.TheVariants.{Gc, Status}
use Rattle.cni_types.specs.declared.error.CniError.{CniError}
use Rattle.cni_types.specs.Looking.{look_reading}
use Rattle.cni_types.specs.Reading.{Pair}
use Rattle.ipam_command.specs.declared.cni_end.CniEnd.{CniEnd}
use Rattle.ipam_command.specs.declared.cni_end.CniEnd.TheVariants.{Told, Failed}
use Rattle.ipam_command.specs.declared.cni_end.CniFault.TheVariants.{Read, Undecodable, Keeper, Memory}
use Rattle.ipam_command.specs.Calls as cni
use Rattle.ipam_command.specs.Ends as cni_ends
use Rattle.ipam_command.specs.Replies.{ComesTo, StatusAndText}
use Rattle.ipam_command.proofs.Records.{by_records}
use Rattle.ipam_command.proofs.Spared as spared
use Rattle.ipam_command.proofs.Spared.{gc_leaves, status_adds}
use Rattle.ipam_command.proofs.TryAgain.{call_never_again}
use Rattle.ipam_command.specs.Alone.{SaysTryAgain}
use Rattle.ipam_shared.specs.Rows.{texts_loaded}
use Rattle.ipam_command.proofs.Shortness.{look_short}
use Rattle.ipam_command.specs.CniCalls.{Finds, GoesWell, IsCallByRecords, IsReplySaid, LeavesWhatIsSpared, NeverSaysTryAgain, TellsOfAdd}
use Rattle.ipam_keeper.specs.Outside.{Outside}

-- what was read of standard input that is a call is all of it
whole-input : (env : List Pair) (bytes stdin : List ℕ) (old new : Option (List ℕ)) (look : Look) → cni.IsInput bytes old new → old ≡ Some stdin → look_reading env stdin ≡ Ok look → bytes ≡ stdin
whole-input env bytes stdin old None look is known looks = absurd (cc (is.bytes, known))
whole-input env bytes stdin old (Some rest) look is known looks =
    let same : bytes ++ rest ≡ stdin = cc (is.bytes, known) in
    let short : length (bytes ++ rest) ≤ 1048576 = subst (λ (x : List ℕ). length x ≤ 1048576) (sym same) (look_short env stdin look looks) in
    let both : length (bytes ++ rest) ≡ length bytes + length rest = length-append bytes rest in
    let none : rest ≡ [] = is.whole (omega arith) in
    sym (append-nil bytes) ∙ ap (λ (x : List ℕ). bytes ++ x) (sym none) ∙ same

-- what is a call is no refusal
no-call : (env : List Pair) (bytes stdin : List ℕ) (look : Look) (error : CniError) → bytes ≡ stdin → look_reading env stdin ≡ Ok look → look_reading env bytes ≡ Err error → ⊥
no-call env bytes stdin look error same is refused = absurd (cc (ap (look_reading env) same, is, refused))

-- this is what the call comes to, and it was said
record IsReplied (env : List Pair) (stdin : List ℕ) (loaded : List RowText) (old new : Outside) (status : ℕ) : Type 0 where
  reply : StatusAndText
  comes : ComesTo env stdin (Some loaded) new.rows reply
  said : IsReplySaid reply old new status

is-said : (own : ℕ) (text : List ℕ) (ending : CniEnd) (old new : Outside) (status : ℕ) → cni_ends.WritesWith own text old.written new.written old.write_faults new.write_faults status → GoesWell ending old new → IsReplySaid (own, text) old new status
is-said own text ending old new status (inl (is, same)) well = record { text = is.bytes; has_status = same }
is-said own text ending old new status (inr (is, same)) well = absurd (well.sink is.fault)

replied : (same : Type 0) (env : List Pair) (ending : CniEnd) (old new : Outside) (status : ℕ) (look : Look) (store : Datastore) → cni.CniCallWent same env ending old new → cni_ends.WritesCniEnd ending old.written new.written old.write_faults new.write_faults status → (found : Finds env old look store) → GoesWell ending old new → IsReplied env found.stdin found.loaded old new status
replied kept env (Told own text) old new status look store went tells found well =
    let same = whole-input env went.stdin found.stdin old.left new.left look went.input found.input found.is_look in
    let comes = subst (λ (rows : Option (List RowText)). ComesTo env went.stdin rows new.rows (own, text)) found.rows went.ends.1 in
    record {
      reply = (own, text);
      comes = subst (λ (stdin : List ℕ). ComesTo env stdin (Some found.loaded) new.rows (own, text)) same comes;
      said = is-said own text (Told own text) old new status tells well;
    }
replied kept env (Failed version Undecodable) old new status look store went tells found well =
    let same = whole-input env went.stdin found.stdin old.left new.left look went.input found.input found.is_look in
    absurd (no-call env went.stdin found.stdin look _ same found.is_look went.ends.1)
replied kept env (Failed version Read) old new status look store went tells found well = absurd (well.source went.input_faults)
replied kept env (Failed version Keeper) old new status look store went tells found well = absurd (well.keeper went.ends.0)
replied kept env (Failed version Memory) old new status look store went tells found well = absurd (well.memory version refl)

pub call_by_records : (same : Type 0) (env : List Pair) (ending : CniEnd) (old new : Outside) (status : ℕ) → cni.CniCallWent same env ending old new → cni_ends.WritesCniEnd ending old.written new.written old.write_faults new.write_faults status → IsCallByRecords env ending old new status
call_by_records kept env ending old new status went tells look asked version store result found begins spare says well =
    let r = replied kept env ending old new status look store went tells found well in
    record {
      reply = r.reply;
      by_records = by_records env found.stdin look asked version found.loaded new.rows r.reply store result found.is_look begins r.comes found.opens spare says;
      said = r.said;
    }

pub never_says_try_again : (same : Type 0) (env : List Pair) (ending : CniEnd) (old new : Outside) (status : ℕ) → cni.CniCallWent same env ending old new → cni_ends.WritesCniEnd ending old.written new.written old.write_faults new.write_faults status → NeverSaysTryAgain env ending old new status
never_says_try_again kept env ending old new status went tells look asked version store found begins well =
    let r = replied kept env ending old new status look store went tells found well in
    let is = spared.replied env found.stdin look asked version found.loaded new.rows r.reply store found.is_look begins found.opens r.comes in
    record {
      reply = is.is_told;
      said = subst (λ (reply : StatusAndText). IsReplySaid reply old new status) (sym is.text) r.said;
      not_later = λ h. call_never_again env found.stdin look asked version (texts_loaded found.loaded) store found.is_look begins found.opens (subst SaysTryAgain (sym is.answer) h);
    }

pub leaves_spared : (same : Type 0) (env : List Pair) (ending : CniEnd) (old new : Outside) (status : ℕ) → cni.CniCallWent same env ending old new → cni_ends.WritesCniEnd ending old.written new.written old.write_faults new.write_faults status → LeavesWhatIsSpared env ending old new status
leaves_spared kept env ending old new status went tells call store found spare well =
    let r = replied kept env ending old new status (Gc call) store went tells found well in
    let leaves = gc_leaves env found.stdin call found.loaded new.rows r.reply store found.is_look r.comes found.opens spare in
    (subst (λ (reply : StatusAndText). IsReplySaid reply old new status) leaves.0 r.said, leaves.1)

pub tells_of_add : (same : Type 0) (env : List Pair) (ending : CniEnd) (old new : Outside) (status : ℕ) → cni.CniCallWent same env ending old new → cni_ends.WritesCniEnd ending old.written new.written old.write_faults new.write_faults status → TellsOfAdd env ending old new status
tells_of_add kept env ending old new status went tells call store request found same sound spare well =
    let r = replied kept env ending old new status (Status call) store went tells found well in
    let adds = status_adds env found.stdin call found.loaded new.rows r.reply store request found.is_look r.comes found.opens same sound spare in
    (λ zero. adds.0 (sym r.said.has_status ∙ zero), λ given. r.said.has_status ∙ adds.1 given)
