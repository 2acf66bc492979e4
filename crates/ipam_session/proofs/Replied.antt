-- Each line has a reply once its request is answered.
use Rattle.std.proofs.Common.{◌≡◌, ℕ, List, Bool, true, false, Option, Some, None, IsSome, IsTrue, Result, Ok, Err, refl, ap, option_map, if◌then◌else◌}
use Rattle.ipam_json.specs.Members.{◌>>=◌}
use Rattle.ipam_model.specs.CanAnswer.{CanAnswer}
use Rattle.ipam_model.specs.declared.answer.Answer.{Answer}
use Rattle.ipam_model.specs.declared.request.Request.{Request}
use Rattle.ipam_model.specs.declared.request.Request.TheVariants as request
use Rattle.cni_types.specs.declared.calls.Look.{Look}
use Rattle.cni_types.specs.declared.calls.Look.TheVariants.{Version, Add, Del, Check, Gc, Status}
use Rattle.cni_types.specs.declared.error.CniError.{CniError}
use Rattle.cni_types.specs.declared.version.Version as versions
use Rattle.cni_types.specs.Looking.{look_reading}
use Rattle.cni_types.specs.Reading.{Pair}
use Rattle.cni_asks.specs.declared.replies.CniReply.{CniReply}
use Rattle.cni_asks.specs.Replying.{cni_reply_of, told}
use Rattle.cni_asks.proofs.AllReplies.{each_has_one}
use Rattle.cni_asks.proofs.GcReplies.{gc_has_one, status_has_one}
use Rattle.ipam_session.specs.declared.call.CallBegun.{CallBegun}
use Rattle.ipam_session.specs.declared.call.CallBegun.TheVariants.{Told, Runs}
use Rattle.ipam_session.specs.declared.refusal.Refusal.TheVariants.{Waiting, NotWaiting, TooSoon, Line}
use Rattle.ipam_session.specs.declared.replies.Reply.{Reply}
use Rattle.ipam_session.specs.declared.replies.Reply.TheVariants as reply
use Rattle.ipam_session.specs.declared.wish.Wish.{Wish}
use Rattle.ipam_session.specs.declared.wish.Wish.TheVariants as wish
use Rattle.ipam_session.specs.Calls.{begun_at, call_begun, is_of_call, IsOfCall, call_reply_of, call_reply_told}
use Rattle.ipam_session.specs.Lines.{Standing, AnswersWish, refused, answered, called_reply, call_replied, reply_unless_unread, reply_to_line}
use Rattle.ipam_session.specs.Wishes.{wish_of_line}
use Rattle.ipam_session.proofs.Asked.{begun_of_call}

mapped : {A B : Type 0} (f : A → B) (o : Option A) → IsSome o → IsSome (option_map f o)
mapped f None h = absurd cc
mapped f (Some a) h = refl

-- ---- calls

look_some : (found : Result Look CniError) → IsSome (begun_at found)
look_some (Err error) = refl
look_some (Ok (Version version)) = refl
look_some (Ok (Add add)) = refl
look_some (Ok (Del del)) = refl
look_some (Ok (Check check)) = refl
look_some (Ok (Gc gc)) = refl
look_some (Ok (Status status)) = refl

begun_some : (env : List Pair) (stdin : List ℕ) → IsSome (call_begun env stdin)
unfolding call_begun
begun_some env stdin = look_some (look_reading env stdin)

reply_some : (asked : Request) (found : Answer) → IsTrue (is_of_call asked) → CanAnswer asked found → IsSome (call_reply_of asked found)
reply_some (request.Add add) found of can = each_has_one (request.Add add) found refl can
reply_some (request.AddThis add address) found of can = each_has_one (request.AddThis add address) found refl can
reply_some (request.Del id) found of can = each_has_one (request.Del id) found refl can
reply_some (request.Check id addresses) found of can = each_has_one (request.Check id addresses) found refl can
reply_some (request.Release node cidr) found of can = absurd cc
reply_some (request.Collect collect) found of can = gc_has_one found (collect, can)
reply_some (request.Admin change) found of can = absurd cc
reply_some (request.Probe probe) found of can = status_has_one found (probe, can)

pub told_some : (asked : Request) (version : versions.Version) (found : Answer) → IsTrue (is_of_call asked) → CanAnswer asked found → IsSome (call_reply_told asked version found)
told_some asked version found of can = mapped (told version) (call_reply_of asked found) (reply_some asked found of can)

call_some : (begun : CallBegun) (found : Answer) → IsOfCall begun → ((asked : Request) (version : versions.Version) → begun ≡ Runs asked version → CanAnswer asked found) → IsSome (call_replied begun (Some found))
call_some (Told status text) found of can = refl
call_some (Runs asked version) found of can = mapped called_reply (call_reply_told asked version found) (told_some asked version found of (can asked version refl))

cni_some : (waited : Bool) (begun : Option CallBegun) (found : Answer) → IsSome begun → ((one : CallBegun) → begun ≡ Some one → IsOfCall one) → ((asked : Request) (version : versions.Version) → begun ≡ Some (Runs asked version) → CanAnswer asked found) → IsSome (if waited then refused Waiting else (begun >>= λ one. call_replied one (Some found)))
cni_some true begun found some of can = refl
cni_some false None found some of can = absurd cc
cni_some false (Some one) found some of can = call_some one found (of one refl) (λ asked version e. can asked version (ap Some e))

-- ---- lines

request_some : (waited waits : Bool) (found : Answer) → IsSome (if waited then refused Waiting else (if waits then Some reply.Waiting else answered (Some found)))
request_some true waits found = refl
request_some false true found = refl
request_some false false found = refl

feed_some : (waited soon : Bool) (found : Answer) → IsSome (if waited then (if soon then refused TooSoon else answered (Some found)) else refused NotWaiting)
feed_some true true found = refl
feed_some true false found = refl
feed_some false soon found = refl

stop_some : (waited : Bool) → IsSome (if waited then Some reply.Stopped else refused NotWaiting)
stop_some true = refl
stop_some false = refl

wish_some : (asked : Option Wish) (s : Standing) (found : Answer) → s.answer ≡ Some found → AnswersWish asked found → IsSome (reply_unless_unread asked s)
wish_some None s found e h = refl
wish_some (Some (wish.Cni env stdin)) s found e h =
    rw e (cni_some s.waited (call_begun env stdin) found (begun_some env stdin) (begun_of_call env stdin) h)
wish_some (Some (wish.Request request)) s found e h = rw e (request_some s.waited s.waits found)
wish_some (Some (wish.Feed live)) s found e h = rw e (feed_some s.waited s.too_soon found)
wish_some (Some wish.Stop) s found e h = stop_some s.waited
wish_some (Some wish.Routes) s found e h = refl
wish_some (Some (wish.RoutesSince revision)) s found e h = refl
wish_some (Some (wish.Rows kind after)) s found e h = refl
wish_some (Some wish.Usage) s found e h = refl
wish_some (Some wish.Opened) s found e h = refl

pub answered_line : (line : List ℕ) (s : Standing) (found : Answer) → s.answer ≡ Some found → AnswersWish (wish_of_line line) found → IsSome (reply_to_line line s)
unfolding reply_to_line
answered_line line s found e h = wish_some (wish_of_line line) s found e h
