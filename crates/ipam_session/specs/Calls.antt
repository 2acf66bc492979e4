-- What a CNI call of a session comes to: which request it begins or its reply at once, and its
-- reply to the request's answer.
use Rattle.std.specs.Prelude.{ℕ, List, Option, Some, None, option_map, Result, Ok, Err, Bool, true, false, IsTrue}
use Rattle.ipam_model.specs.declared.answer.Answer.{Answer}
use Rattle.ipam_model.specs.declared.request.Request.{Request}
use Rattle.ipam_model.specs.declared.request.Request.TheVariants.{Add, AddThis, Del, Check, Release, Collect, Admin, Probe}
use Rattle.ipam_model.specs.SoundRequest.{IsSoundRequest}
use Rattle.cni_types.specs.declared.calls.Look.{Look}
use Rattle.cni_types.specs.declared.calls.Look.TheVariants as look
use Rattle.cni_types.specs.declared.error.CniError.{CniError}
use Rattle.cni_types.specs.declared.version.Version.{Version}
use Rattle.cni_types.specs.Looking.{look_reading}
use Rattle.cni_types.specs.Reading.{Pair}
use Rattle.cni_types.specs.Texts.{error_text}
use Rattle.cni_asks.specs.declared.asks.Ask.{Ask}
use Rattle.cni_asks.specs.declared.asks.Ask.TheVariants.{Tell, Begin}
use Rattle.cni_asks.specs.declared.replies.CniReply.{CniReply}
use Rattle.cni_asks.specs.Asking.{ask_of}
use Rattle.cni_asks.specs.Replying.{is_of_container, cni_reply_of, told}
use Rattle.cni_asks.specs.GcAsking.{collect_of, probe_of}
use Rattle.cni_asks.specs.GcReplying.{gc_reply_of, status_reply_of}
use Rattle.ipam_session.specs.declared.call.CallBegun.{CallBegun}
use Rattle.ipam_session.specs.declared.call.CallBegun.TheVariants.{Told, Runs}

-- ---- beginning

-- GC begins a collection and STATUS a probe
abbrev pub ask_of_call : Look → Option Ask
ask_of_call (look.Gc gc) = Some (Begin (Collect (collect_of gc)) gc.version)
ask_of_call (look.Status status) = Some (Begin (Probe (probe_of status)) status.version)
ask_of_call other = ask_of other

abbrev pub begun_of : Ask → CallBegun
begun_of (Tell text) = Told 0 text
begun_of (Begin request version) = Runs request version

-- a call that is refused has its error as the reply
abbrev pub begun_at : Result Look CniError → Option CallBegun
begun_at (Err error) = Some (Told 1 (error_text error))
begun_at (Ok found) = option_map begun_of (ask_of_call found)

-- what a call with this environment and this standard input begins
unfoldable pub call_begun : List Pair → List ℕ → Option CallBegun
call_begun env stdin = begun_at (look_reading env stdin)

abbrev pub IsSoundBegun : CallBegun → Type 0
IsSoundBegun (Told status text) = Unit {0}
IsSoundBegun (Runs request version) = IsSoundRequest request

-- ---- ending

-- the requests that calls begin
abbrev pub is_of_call : Request → Bool
is_of_call (Collect collect) = true
is_of_call (Probe probe) = true
is_of_call other = is_of_container other

abbrev pub IsOfCall : CallBegun → Type 0
IsOfCall (Told status text) = Unit {0}
IsOfCall (Runs request version) = IsTrue (is_of_call request)

-- what a call is answered whose request came to this answer
abbrev pub call_reply_of : Request → Answer → Option CniReply
call_reply_of (Collect collect) found = gc_reply_of found
call_reply_of (Probe probe) found = status_reply_of found
call_reply_of other found = cni_reply_of other found

-- the status and the text of the call's reply, in a version
abbrev pub call_reply_told : Request → Version → Answer → Option (ℕ × List ℕ)
call_reply_told request version found = option_map (told version) (call_reply_of request found)
