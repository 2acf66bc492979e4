-- Which reply a line of a session has.
use Rattle.std.specs.Prelude.{◌≡◌, ℕ, ⊤, List, Bool, true, false, Option, Some, None, option_map, if◌then◌else◌}
use Rattle.ipam_json.specs.Members.{◌>>=◌}
use Rattle.ipam_model.specs.declared.answer.Answer.{Answer}
use Rattle.ipam_model.specs.declared.request.Request.{Request}
use Rattle.ipam_model.specs.CanAnswer.{CanAnswer}
use Rattle.cni_types.specs.declared.version.Version.{Version}
use Rattle.ipam_session.specs.declared.call.CallBegun.{CallBegun}
use Rattle.ipam_session.specs.declared.call.CallBegun.TheVariants.{Told, Runs}
use Rattle.ipam_session.specs.declared.refusal.Refusal.{Refusal}
use Rattle.ipam_session.specs.declared.refusal.Refusal.TheVariants as refusal
use Rattle.ipam_session.specs.declared.replies.Reply.{Reply}
use Rattle.ipam_session.specs.declared.replies.Reply.TheVariants as reply
use Rattle.ipam_records.specs.declared.key.Key.{Key}
use Rattle.ipam_words.specs.declared.kind.RowKind.{RowKind}
use Rattle.ipam_session.specs.declared.page.Page.{Page}
use Rattle.ipam_show.specs.declared.usage.PoolUsage.{PoolUsage}
use Rattle.ipam_store.specs.declared.route.Route.{Route as OneRoute}
use Rattle.ipam_session.specs.declared.route.Since.{Since}
use Rattle.ipam_session.specs.declared.wish.Wish.{Wish}
use Rattle.ipam_session.specs.declared.wish.Wish.TheVariants as wish
use Rattle.ipam_session.specs.Calls.{call_begun, call_reply_told}
use Rattle.ipam_session.specs.Wishes.{wish_of_line}

-- What a reply rests on beside its line.
pub record Standing : Type 0 where
  -- a collection waits for its second list when the line is read
  pub waited : Bool
  -- one waits when the reply is given
  pub waits : Bool
  -- the list that is fed comes before the grace is over
  pub too_soon : Bool
  -- the answer of the request that the line began or fed, if it has one
  pub answer : Option Answer
  -- the datastore's revision
  pub revision : ℕ
  pub routes : List OneRoute
  -- what became of the routes after a revision
  pub since : ℕ → Since
  -- the page of the rows of a kind after a key
  pub page : RowKind → (after : Option Key) → Page
  -- what each pool is used for
  pub usage : List PoolUsage
  -- the text of the opening of the datastore
  pub opened : List ℕ

abbrev pub refused : Refusal → Option Reply
refused why = Some (reply.Refused why)

-- the reply with the answer, once there is one
abbrev pub answered : Option Answer → Option Reply
answered answer = option_map reply.Answered answer

abbrev pub called_reply : ℕ × List ℕ → Reply
called_reply told = reply.Called told.0 told.1

-- the reply to a call that runs is that of its request's answer
abbrev pub call_replied : CallBegun → Option Answer → Option Reply
call_replied (Told status text) answer = Some (reply.Called status text)
call_replied (Runs request version) answer = do
  found ← answer
  option_map called_reply (call_reply_told request version found)

-- While a collection waits, no other request is begun; it is fed or stopped then alone.
abbrev pub reply_to_wish : Wish → Standing → Option Reply
reply_to_wish (wish.Cni env stdin) s =
    if s.waited then refused refusal.Waiting
    else (call_begun env stdin >>= λ begun. call_replied begun s.answer)
reply_to_wish (wish.Request request) s =
    if s.waited then refused refusal.Waiting
    else (if s.waits then Some reply.Waiting else answered s.answer)
reply_to_wish (wish.Feed live) s =
    if s.waited then (if s.too_soon then refused refusal.TooSoon else answered s.answer)
    else refused refusal.NotWaiting
reply_to_wish wish.Stop s = if s.waited then Some reply.Stopped else refused refusal.NotWaiting
reply_to_wish wish.Routes s = Some (reply.Routes s.revision s.routes)
reply_to_wish (wish.RoutesSince revision) s = Some (reply.RoutesSince (s.since revision))
reply_to_wish (wish.Rows kind after) s = Some (reply.Rows (s.page kind after))
reply_to_wish wish.Usage s = Some (reply.Usage s.revision s.usage)
reply_to_wish wish.Opened s = Some (reply.Opened s.opened)

abbrev pub reply_unless_unread : Option Wish → Standing → Option Reply
reply_unless_unread None s = refused refusal.Line
reply_unless_unread (Some asked) s = reply_to_wish asked s

-- the reply to a line; none while its request runs
unfoldable pub reply_to_line : List ℕ → Standing → Option Reply
reply_to_line line s = reply_unless_unread (wish_of_line line) s

-- the answer is one that the request which the line begins can have
abbrev pub AnswersWish : Option Wish → Answer → Type 0
AnswersWish None found = ⊤
AnswersWish (Some (wish.Cni env stdin)) found =
    (asked : Request) (version : Version) → call_begun env stdin ≡ Some (Runs asked version) → CanAnswer asked found
AnswersWish (Some (wish.Request request)) found = ⊤
AnswersWish (Some (wish.Feed live)) found = ⊤
AnswersWish (Some wish.Stop) found = ⊤
AnswersWish (Some wish.Routes) found = ⊤
AnswersWish (Some (wish.RoutesSince revision)) found = ⊤
AnswersWish (Some (wish.Rows kind after)) found = ⊤
AnswersWish (Some wish.Usage) found = ⊤
AnswersWish (Some wish.Opened) found = ⊤

-- ---- what a line asks for

abbrev pub begins : Option Wish → Bool
begins None = false
begins (Some (wish.Cni env stdin)) = true
begins (Some (wish.Request request)) = true
begins (Some (wish.Feed live)) = false
begins (Some wish.Stop) = false
begins (Some wish.Routes) = false
begins (Some (wish.RoutesSince revision)) = false
begins (Some (wish.Rows kind after)) = false
begins (Some wish.Usage) = false
begins (Some wish.Opened) = false

abbrev pub feeds : Option Wish → Bool
feeds None = false
feeds (Some (wish.Cni env stdin)) = false
feeds (Some (wish.Request request)) = false
feeds (Some (wish.Feed live)) = true
feeds (Some wish.Stop) = false
feeds (Some wish.Routes) = false
feeds (Some (wish.RoutesSince revision)) = false
feeds (Some (wish.Rows kind after)) = false
feeds (Some wish.Usage) = false
feeds (Some wish.Opened) = false

abbrev pub stops : Option Wish → Bool
stops None = false
stops (Some (wish.Cni env stdin)) = false
stops (Some (wish.Request request)) = false
stops (Some (wish.Feed live)) = false
stops (Some wish.Stop) = true
stops (Some wish.Routes) = false
stops (Some (wish.RoutesSince revision)) = false
stops (Some (wish.Rows kind after)) = false
stops (Some wish.Usage) = false
stops (Some wish.Opened) = false
