-- Which statuses a call has, and what the status 0 says.
use Rattle.std.proofs.Common.{◌≡◌, ℕ, ◌≤◌, inl, inr, List, Option, sym, ◌∙◌, subst, arith}
use Rattle.std.specs.Io.KnownBytes.{IsAtEnd}
use Rattle.cni_types.specs.Reading.{Pair}
use Rattle.cni_types.specs.declared.version.Version.{Version}
use Rattle.cni_asks.specs.declared.replies.CniReply.{CniReply}
use Rattle.cni_asks.specs.declared.replies.CniReply.TheVariants.{Addresses, Success, Failure}
use Rattle.cni_asks.specs.Replying.{reply_status}
use Rattle.ipam_records.specs.declared.call.Row.{Row as RowText}
use Rattle.ipam_model.specs.declared.request.Request.{Request}
use Rattle.ipam_command.specs.declared.cni_end.CniEnd.{CniEnd}
use Rattle.ipam_command.specs.declared.cni_end.CniEnd.TheVariants.{Told, Failed}
use Rattle.ipam_command.specs.Calls.{CniCallWent}
use Rattle.ipam_keeper.specs.Outside.{Outside}
use Rattle.ipam_call.specs.Ends.{IsStatus}
use Rattle.ipam_command.specs.Ends.{WritesCniEnd}
use Rattle.ipam_command.specs.Replies.{Answered, Asked, AtOnce, BadRows, ComesTo, Refused, StatusAndText, RequestComesTo}
use Rattle.ipam_command.proofs.Shortness.{comes_short}

reply-small : (reply : CniReply) → reply_status reply ≤ 1
reply-small (Addresses addresses) = omega arith
reply-small Success = omega arith
reply-small (Failure code details) = omega arith

request-small : (asked : Request) (version : Version) (old new : Option (List RowText)) (reply : StatusAndText) → RequestComesTo asked version old new reply → reply.0 ≤ 1
request-small asked version old new _ (BadRows loaded number about is refused same) = omega arith
request-small asked version old new _ (Answered loaded store reply is opens told rows course) = reply-small reply

comes-small : (env : List Pair) (stdin : List ℕ) (old new : Option (List RowText)) (reply : StatusAndText) → ComesTo env stdin old new reply → reply.0 ≤ 1
comes-small env stdin old new _ (Refused error is same) = omega arith
comes-small env stdin old new _ (AtOnce look text is begins same) = omega arith
comes-small env stdin old new _ (Asked look asked version reply is begins comes) = request-small asked version old new reply comes

pub told_status : (keeper : Type 0) (env : List Pair) (end : CniEnd) (old new : Outside) (written written' : Option (List ℕ)) (before after status : ℕ) → CniCallWent keeper env end old new → WritesCniEnd end written written' before after status → IsStatus status
told_status keeper env (Told own text) old new written written' before after status went (inl (is, same)) =
    inl (subst (λ (n : ℕ). n ≤ 1) (sym same) (comes-small env went.stdin old.rows new.rows (own, text) went.ends.1))
told_status keeper env (Told own text) old new written written' before after status went (inr (is, same)) = inr same
told_status keeper env (Failed version fault) old new written written' before after status went (inl (is, same)) = inl (omega arith)
told_status keeper env (Failed version fault) old new written written' before after status went (inr (is, same)) = inr same

-- success is told of standard input that was read to its end
pub told_to_end : (keeper : Type 0) (env : List Pair) (end : CniEnd) (old new : Outside) (written written' : Option (List ℕ)) (before after status : ℕ) → CniCallWent keeper env end old new → WritesCniEnd end written written' before after status → status ≡ 0 → IsAtEnd new.left
told_to_end keeper env (Told own text) old new written written' before after status went (inl (is, same)) none =
    went.input.whole (comes_short env went.stdin old.rows new.rows (own, text) went.ends.1 (sym same ∙ none))
told_to_end keeper env (Told own text) old new written written' before after status went (inr (is, same)) none = absurd (omega arith)
told_to_end keeper env (Failed version fault) old new written written' before after status went (inl (is, same)) none = absurd (omega arith)
told_to_end keeper env (Failed version fault) old new written written' before after status went (inr (is, same)) none = absurd (omega arith)
