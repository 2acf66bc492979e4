-- What a line has a session do, and what it is replied.
use Rattle.std.specs.Prelude.{◌≡◌, ◌⊎◌, ℕ, suc, ⊤, ◌+◌, ◌<◌, ◌≤◌, ◌^◌, Bool, true, false, not, IsSome, List, [], ◌∷◌, Option, Some, None, option_map, nat_lt, if◌then◌else◌}
use Rattle.ipam_io.specs.Readings.{prepend_known_readings}
use Rattle.ipam_model.specs.declared.answer.Answer.{Answer}
use Rattle.ipam_model.specs.declared.request.Request.{Request}
use Rattle.ipam_model.specs.declared.request.Request.TheVariants.{Collect}
use Rattle.ipam_records.specs.declared.key.Key.{Key}
use Rattle.ipam_words.specs.declared.kind.RowKind.{RowKind}
use Rattle.ipam_session.specs.declared.page.Page.{Page}
use Rattle.ipam_session.specs.Page.{page_in}
use Rattle.ipam_show.specs.Usage.{pools_usage}
use Rattle.ipam_store.specs.Feed.{changes_since}
use Rattle.ipam_store.specs.Route.{routes_in}
use Rattle.ipam_shared.specs.Feed.{floor_in, writes_in}
use Rattle.ipam_model.specs.Cluster.{RunningRequest}
use Rattle.ipam_model.specs.History.{moment_of, store_at}
use Rattle.ipam_session.specs.declared.call.CallBegun.{CallBegun}
use Rattle.ipam_session.specs.declared.call.CallBegun.TheVariants.{Told, Runs}
use Rattle.ipam_session.specs.declared.replies.Reply.{Reply}
use Rattle.ipam_session.specs.declared.route.Since.{Since}
use Rattle.ipam_session.specs.declared.route.Since.TheVariants.{Ahead, Changes, Compacted}
use Rattle.ipam_session.specs.declared.wish.Wish.{Wish}
use Rattle.ipam_session.specs.declared.wish.Wish.TheVariants as wish
use Rattle.cni_types.specs.declared.version.Version.{Version}
use Rattle.ipam_session.specs.declared.refusal.Refusal.TheVariants.{TooSoon}
use Rattle.ipam_session.specs.declared.replies.Reply.TheVariants as reply
use Rattle.ipam_session.specs.Calls.{call_begun, call_reply_told}
use Rattle.ipam_session.specs.Lines.{Standing, called_reply, reply_unless_unread}
use Rattle.ipam_session.specs.Wishes.{wish_of_line}
use Rattle.ipam_shared.specs.PassValue.{PassValue}
use Rattle.ipam_shared.specs.Passes.{runs_in}
use Rattle.ipam_serve.specs.declared.ran.Ran.{Ran}
use Rattle.ipam_serve.specs.declared.ran.Ran.TheVariants.{Answered, Waits}
use Rattle.ipam_serve.specs.Gains.{Gained, Spends, is_early, is_waiting}
use Rattle.ipam_serve.specs.Faults.{FoundFed, FoundOnWay, FoundRoom}
use Rattle.ipam_serve.specs.Turns.{IsInFeed}
use Rattle.ipam_serve.specs.Runs.{DoesDeed, DoesPart, Taker}
use Rattle.ipam_serve.specs.Spans.{Begins, Calls, Deed, Nothing, Stops, list_deed, waits_of}

-- what the line asks of a session
abbrev pub asked_by : List ℕ → Option Wish
asked_by line = wish_of_line line

-- ---- what is done

-- the request as it is begun: the time of a collection is the clock's
abbrev pub timed : (at : ℕ) → Request → Request
timed at (Collect asked) = Collect (record asked { at = at })
timed at other = other

abbrev pub is_collect : Request → Bool
is_collect (Collect asked) = true
is_collect other = false

-- what a CNI call has the session do
abbrev pub deed_of_call : Option CallBegun → Deed
deed_of_call None = Nothing
deed_of_call (Some (Told status text)) = Nothing
deed_of_call (Some (Runs request version)) = Calls request

-- what is done for a wish where this runs in the slot, at this time by the clock
abbrev pub deed_of : Option Wish → Option RunningRequest → (at : ℕ) → Deed
deed_of None runs at = Nothing
deed_of (Some (wish.Cni env stdin)) runs at =
    if is_waiting runs then Nothing else deed_of_call (call_begun env stdin)
deed_of (Some (wish.Request request)) runs at = if is_waiting runs then Nothing else Begins (timed at request)
deed_of (Some (wish.Feed live)) runs at =
    if is_waiting runs then list_deed (is_early runs at) live at else Nothing
deed_of (Some wish.Stop) runs at = if is_waiting runs then Stops else Nothing
deed_of (Some wish.Routes) runs at = Nothing
deed_of (Some (wish.RoutesSince revision)) runs at = Nothing
deed_of (Some (wish.Rows kind after)) runs at = Nothing
deed_of (Some wish.Usage) runs at = Nothing
deed_of (Some wish.Opened) runs at = Nothing

-- The clock is read for a collection that is to be begun, and for a second list while one waits.
abbrev pub reads_clock : Option Wish → Option RunningRequest → Bool
reads_clock None runs = false
reads_clock (Some (wish.Cni env stdin)) runs = false
reads_clock (Some (wish.Request request)) runs = if is_waiting runs then false else is_collect request
reads_clock (Some (wish.Feed live)) runs = is_waiting runs
reads_clock (Some wish.Stop) runs = false
reads_clock (Some wish.Routes) runs = false
reads_clock (Some (wish.RoutesSince revision)) runs = false
reads_clock (Some (wish.Rows kind after)) runs = false
reads_clock (Some wish.Usage) runs = false
reads_clock (Some wish.Opened) runs = false

abbrev pub clock_reading : Bool → (at : ℕ) → List ℕ
clock_reading read at = if read then at ∷ [] else []

-- ---- replies

-- what became of the routes after a revision, at the end of what the pass has seen
abbrev pub since_in : PassValue → (revision : ℕ) → Since
since_in pass revision =
    if nat_lt revision (floor_in pass.base pass.seen) then Compacted (floor_in pass.base pass.seen)
    else (if nat_lt (store_at pass.base pass.seen).counter revision then Ahead (store_at pass.base pass.seen).counter
    else Changes (store_at pass.base pass.seen).counter (changes_since pass.base.store (writes_in pass.seen) revision))

-- the page of the rows of a kind after a key, at the end of what the pass has seen
abbrev pub page_seen : PassValue → RowKind → (after : Option Key) → Page
page_seen pass kind after = page_in (store_at pass.base pass.seen) kind after

-- on what the reply rests: what the pass has seen before the line and after it, and the text of the
-- opening
abbrev pub standing_after : (old new : PassValue) (at : ℕ) → Option Answer → (opened : List ℕ) → Standing
standing_after old new at answer opened = record {
  waited = is_waiting (runs_in old);
  waits = is_waiting (runs_in new);
  too_soon = is_early (runs_in old) at;
  answer = answer;
  revision = (store_at new.base new.seen).counter;
  routes = routes_in (store_at new.base new.seen);
  since = since_in new;
  page = page_seen new;
  usage = pools_usage (store_at new.base new.seen);
  opened = opened;
}

-- ---- a line

-- What a session serves a line with: what takes turns, and the readings that its clock is still to give,
-- where the clock tells them.
pub record Server : Type 0 where
  pub taker : Taker
  pub ahead : Option (ℕ → ℕ)

-- a server with this pass, so many turns passed by its gate, and these readings ahead of its clock
abbrev pub server_at : PassValue → (turns : Option ℕ) → (ahead : Option (ℕ → ℕ)) → Server
server_at pass turns ahead = record { taker = record { pass = pass; turns = turns }; ahead = ahead }

-- a line on routes, rows or usage takes one turn, and what it is replied is from that turn
abbrev pub TakesTurn : Option Wish → (old new : PassValue) → Type 0
TakesTurn None old new = ⊤
TakesTurn (Some (wish.Cni env stdin)) old new = ⊤
TakesTurn (Some (wish.Request request)) old new = ⊤
TakesTurn (Some (wish.Feed live)) old new = ⊤
TakesTurn (Some wish.Stop) old new = ⊤
TakesTurn (Some wish.Routes) old new = new.left + 1 ≡ old.left
TakesTurn (Some (wish.RoutesSince revision)) old new = new.left + 1 ≡ old.left
TakesTurn (Some (wish.Rows kind after)) old new = new.left + 1 ≡ old.left
TakesTurn (Some wish.Usage) old new = new.left + 1 ≡ old.left
TakesTurn (Some wish.Opened) old new = ⊤

-- a wish was done, and this is its reply
pub record Replies (asked : Option Wish) (reply : Reply) (old new : Server) : Type 0 where
  pub at : ℕ
  pub answer : Option Answer
  pub opened : List ℕ
  pub does : DoesDeed old.taker (deed_of asked (runs_in old.taker.pass) at) answer 1 new.taker
  pub reads : old.ahead ≡ prepend_known_readings (clock_reading (reads_clock asked (runs_in old.taker.pass)) at) new.ahead
  pub turned : TakesTurn asked old.taker.pass new.taker.pass
  pub replied : reply_unless_unread asked (standing_after old.taker.pass new.taker.pass at answer opened) ≡ Some reply

-- a line that asks which opening this is, is replied its text
abbrev pub TellsOpened : (opened : List ℕ) → Option Wish → Reply → Type 0
TellsOpened opened asked one = asked ≡ Some wish.Opened → one ≡ reply.Opened opened

-- a wish was done as far as it came
pub record BreaksOff (asked : Option Wish) (old new : Server) : Type 0 where
  pub at : ℕ
  pub does : DoesPart old.taker (deed_of asked (runs_in old.taker.pass) at) 2 new.taker
  pub reads : (new.ahead ≡ old.ahead)
      ⊎ (old.ahead ≡ prepend_known_readings (clock_reading (reads_clock asked (runs_in old.taker.pass)) at) new.ahead)

-- ---- too few turns, or too many entries

-- a CNI call has something to run
abbrev pub is_run : Option CallBegun → Bool
is_run None = false
is_run (Some (Told status text)) = false
is_run (Some (Runs request version)) = true

-- the line wants a turn, where a collection waits or none does
abbrev pub wants_turn : Option Wish → (waits : Bool) → Bool
wants_turn None waits = false
wants_turn (Some (wish.Cni env stdin)) waits = if waits then false else is_run (call_begun env stdin)
wants_turn (Some (wish.Request request)) waits = not waits
wants_turn (Some (wish.Feed live)) waits = waits
wants_turn (Some wish.Stop) waits = waits
wants_turn (Some wish.Routes) waits = true
wants_turn (Some (wish.RoutesSince revision)) waits = true
wants_turn (Some (wish.Rows kind after)) waits = true
wants_turn (Some wish.Usage) waits = true
wants_turn (Some wish.Opened) waits = false

-- the line begins, feeds or calls, which a full history has no room for
abbrev pub wants_entry : Option Wish → Bool
wants_entry None = false
wants_entry (Some (wish.Cni env stdin)) = true
wants_entry (Some (wish.Request request)) = true
wants_entry (Some (wish.Feed live)) = true
wants_entry (Some wish.Stop) = false
wants_entry (Some wish.Routes) = false
wants_entry (Some (wish.RoutesSince revision)) = false
wants_entry (Some (wish.Rows kind after)) = false
wants_entry (Some wish.Usage) = false
wants_entry (Some wish.Opened) = false

-- No answer was recorded: the slot gained no entry, or what was begun still runs.
abbrev pub IsUnanswered : (old new : PassValue) → Type 0
IsUnanswered old new = Gained old.slot old.seen [] new.seen ⊎ IsSome (runs_in new)

-- where it wears out, a line that takes one turn alone has not taken it
abbrev pub KeepsTurn : Option Wish → (old new : PassValue) → Type 0
KeepsTurn None old new = ⊤
KeepsTurn (Some (wish.Cni env stdin)) old new = ⊤
KeepsTurn (Some (wish.Request request)) old new = ⊤
KeepsTurn (Some (wish.Feed live)) old new = ⊤
KeepsTurn (Some wish.Stop) old new = new ≡ old
KeepsTurn (Some wish.Routes) old new = new ≡ old
KeepsTurn (Some (wish.RoutesSince revision)) old new = new ≡ old
KeepsTurn (Some (wish.Rows kind after)) old new = new ≡ old
KeepsTurn (Some wish.Usage) old new = new ≡ old
KeepsTurn (Some wish.Opened) old new = ⊤

abbrev pub waits_of_call : Option CallBegun → ℕ
waits_of_call None = 0
waits_of_call (Some (Told status text)) = 0
waits_of_call (Some (Runs request version)) = waits_of request

-- How many turns it may have taken that made no entry: the collection of a CNI call was found to wait.
abbrev pub spared_in : Option Wish → ℕ
spared_in None = 0
spared_in (Some (wish.Cni env stdin)) = waits_of_call (call_begun env stdin)
spared_in (Some (wish.Request request)) = 0
spared_in (Some (wish.Feed live)) = 0
spared_in (Some wish.Stop) = 0
spared_in (Some wish.Routes) = 0
spared_in (Some (wish.RoutesSince revision)) = 0
spared_in (Some (wish.Rows kind after)) = 0
spared_in (Some wish.Usage) = 0
spared_in (Some wish.Opened) = 0

-- The line wanted a turn, of which fewer than two were left, or an entry, for which the history has no room. No
-- turn was taken in vain: each made an entry, but for one that found a collection to wait, and one that found that
-- there is no room.
pub record WearsOut (asked : Option Wish) (old new : PassValue) : Type 0 where
  pub due : wants_turn asked (is_waiting (runs_in old)) ≡ true
  pub worn : ((new.left < 2) × Spends (spared_in asked) old new)
      ⊎ ((wants_entry asked ≡ true) × (2 ^ 62 ≤ moment_of new.base new.seen) × Spends (suc (spared_in asked)) old new)
  pub unanswered : IsUnanswered old new
  pub untaken : KeepsTurn asked old new

-- ---- no memory

-- the pass was left with fewer turns
abbrev pub TookTurn : (old new : Server) → Type 0
TookTurn old new = new.taker.pass.left < old.taker.pass.left

-- the request of a CNI call was answered, and its reply takes memory
abbrev pub WasAnswered : Request → (old new : Taker) → Type 0
WasAnswered request old new = (told : Answer) × DoesDeed old (Calls request) (Some told) 1 new

-- the request of a CNI call is not answered, or its reply is not made, for want of memory
abbrev pub FoundInCall : Request → (old new : Taker) → Type 0
FoundInCall request old new = FoundOnWay request old.pass new.pass ⊎ WasAnswered request old new

-- What is so of a line that was read and found no memory: a turn was taken that found so, and that made no entry. So a
-- request was not worn, a second list neither worn nor too soon, and the routes after a revision neither compacted nor
-- ahead. The texts of a CNI call take memory too, and so does the text of the opening. A line that asks nothing takes
-- none, nor does a stop.
abbrev pub FoundNone : Option Wish → (old new : Server) → Type 0
FoundNone None old new = ⊥
FoundNone (Some (wish.Cni env stdin)) old new =
    (new ≡ old)
    ⊎ ((request : Request) × (version : Version) × (call_begun env stdin ≡ Some (Runs request version)) × FoundInCall request old.taker new.taker)
FoundNone (Some (wish.Request request)) old new = FoundRoom old.taker.pass new.taker.pass
FoundNone (Some (wish.Feed live)) old new =
    (at : ℕ) × (old.ahead ≡ prepend_known_readings (at ∷ []) new.ahead) × FoundFed old.taker.pass at new.taker.pass
FoundNone (Some wish.Stop) old new = ⊥
FoundNone (Some wish.Routes) old new = TookTurn old new
FoundNone (Some (wish.RoutesSince revision)) old new = TookTurn old new × IsInFeed new.taker.pass revision
FoundNone (Some (wish.Rows kind after)) old new = TookTurn old new
FoundNone (Some wish.Usage) old new = TookTurn old new
FoundNone (Some wish.Opened) old new = new ≡ old

-- ---- parts of a line

abbrev pub reply_ran : Ran → Reply
reply_ran (Answered told) = reply.Answered told
reply_ran Waits = reply.Waiting

-- no answer: the list came too early
abbrev pub reply_fed : Option Answer → Reply
reply_fed (Some told) = reply.Answered told
reply_fed None = reply.Refused TooSoon

-- the request of a CNI call was answered, and this tells so
pub record TellsRun (request : Request) (version : Version) (old : Taker) (reply : Reply) (new : Taker) : Type 0 where
  pub told : Answer
  pub does : DoesDeed old (Calls request) (Some told) 1 new
  pub tells : option_map called_reply (call_reply_told request version told) ≡ Some reply
