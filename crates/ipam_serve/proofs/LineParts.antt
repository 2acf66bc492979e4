-- What a line comes to.
use Rattle.std.proofs.Common.{◌≡◌, ◌↔◌, ◌⊎◌, ◌<◌, ◌≤◌, ◌^◌, ℕ, suc, arith, Bool, true, false, inl, inr, List, [], ◌∷◌, Option, Some, None, Result, Ok, Err, IsSome, IsTrue, refl, sym, ap, subst}
use Rattle.std.specs.Prelude.{IfOk, OnErr, option_map}
use Rattle.ipam_io.specs.Readings.{prepend_known_readings}
use Rattle.ipam_addr.specs.Shape.{AddrValue}
use Rattle.ipam_records.specs.declared.key.Key.{Key}
use Rattle.ipam_words.specs.declared.kind.RowKind.{RowKind}
use Rattle.ipam_model.specs.declared.answer.Answer.{Answer}
use Rattle.ipam_model.specs.declared.entry.Entry.TheVariants as entry
use Rattle.ipam_model.specs.declared.request.AddRequest.{AddRequest}
use Rattle.ipam_model.specs.declared.request.Request.{Request}
use Rattle.ipam_model.specs.Cluster.{RunningRequest}
use Rattle.ipam_model.specs.History.{moment_of}
use Rattle.cni_types.specs.declared.calls.Look.{Look}
use Rattle.cni_types.specs.declared.calls.Look.TheVariants.{Version, Add, Del, Check, Gc, Status}
use Rattle.cni_types.specs.declared.error.CniError.{CniError}
use Rattle.cni_types.specs.declared.version.Version as versions
use Rattle.cni_types.specs.Looking.{look_reading}
use Rattle.cni_types.specs.Reading.{Pair}
use Rattle.cni_asks.specs.Asking.{wanting, add_of}
use Rattle.ipam_session.specs.declared.call.CallBegun.{CallBegun}
use Rattle.ipam_session.specs.declared.call.CallBegun.TheVariants.{Told, Runs}
use Rattle.ipam_session.specs.declared.refusal.Refusal.TheVariants as refusal
use Rattle.ipam_session.specs.declared.replies.Reply.{Reply}
use Rattle.ipam_session.specs.declared.replies.Reply.TheVariants as reply
use Rattle.ipam_session.specs.declared.wish.Wish.{Wish}
use Rattle.ipam_session.specs.declared.wish.Wish.TheVariants as wish
use Rattle.ipam_session.specs.Calls.{begun_at, call_begun, call_reply_told}
use Rattle.ipam_session.specs.Lines.{called_reply, reply_unless_unread}
use Rattle.ipam_shared.specs.PassValue.{PassValue}
use Rattle.ipam_shared.specs.Passes.{runs_in}
use Rattle.ipam_serve.specs.declared.ran.Broken.{Broken}
use Rattle.ipam_serve.specs.declared.ran.Ran.{Ran}
use Rattle.ipam_serve.specs.declared.ran.Ran.TheVariants.{Answered, Waits}
use Rattle.ipam_serve.specs.Faults.{IfAnswered, IsWorn, OnWaits, answer_ran, spared_by}
use Rattle.ipam_serve.specs.Gains.{Gained, Spends, TookTurns, asked_after, calls_in, is_early, is_waiting}
use Rattle.ipam_serve.specs.Lines.{BreaksOff, IsUnanswered, Replies, Server, TakesTurn, TellsRun, WearsOut, deed_of, wants_entry, is_collect, clock_reading, reads_clock, reply_fed, reply_ran, server_at, spared_in, standing_after, timed, waits_of_call}
use Rattle.ipam_serve.specs.Runs.{DoesDeed, DoesPart, FeedsList, IsAtRest, Taker}
use Rattle.ipam_serve.specs.Spans.{Begins, Calls, Deed, Feeds, IsTimeless, Nothing, list_deed, waits_of}
use Rattle.ipam_serve.proofs.Going.{does-spared}
use Rattle.ipam_serve.proofs.Running.{does-part, none-asked, part-spared}
use Rattle.ipam_serve.proofs.Turning.{passed-nothing, spends-same, took-nothing, took-rest, took-spared}

-- ---- what runs

pub none-waits : (o : Option RunningRequest) → o ≡ None → is_waiting o ≡ false
none-waits o e = ap is_waiting e

pub rests-waits : (o : Option RunningRequest) (b : Bool) → IsAtRest o → (IsTrue b ↔ IsSome o) → b ≡ true → is_waiting o ≡ true
rests-waits None b rests knows e = absurd (cc (knows.0 e))
rests-waits (Some running) b (inl none) knows e = absurd (cc none)
rests-waits (Some running) b (inr waits) knows e = waits

pub rests-none : (o : Option RunningRequest) (b : Bool) → (IsTrue b ↔ IsSome o) → b ≡ false → o ≡ None
rests-none None b knows e = refl
rests-none (Some running) b knows e = let yes = knows.1 refl in absurd (cc (yes, e))

-- ---- nothing is done

does-nothing : (taker : Taker) → DoesDeed taker Nothing None 1 taker
does-nothing taker = record { entries = []; did = (refl, refl); took = took-rest taker.pass; passed = passed-nothing taker.turns }

pub reads-none : (ahead : Option (ℕ → ℕ)) → ahead ≡ prepend_known_readings [] ahead
reads-none None = refl
reads-none (Some ahead) = refl

module _ (server : Server) where
  nothing : (asked : Option Wish) (one : Reply) (opened : List ℕ) → deed_of asked (runs_in server.taker.pass) 0 ≡ Nothing → reads_clock asked (runs_in server.taker.pass) ≡ false
      → TakesTurn asked server.taker.pass server.taker.pass → reply_unless_unread asked (standing_after server.taker.pass server.taker.pass 0 None opened) ≡ Some one → Replies asked one server server
  nothing asked one opened deed reads turned replied = record {
    at = 0;
    answer = None;
    opened = opened;
    does = subst (λ (d : Deed). DoesDeed server.taker d None 1 server.taker) (sym deed) (does-nothing server.taker);
    reads = subst (λ (b : Bool). server.ahead ≡ prepend_known_readings (clock_reading b 0) server.ahead) (sym reads) (reads-none server.ahead);
    turned = turned;
    replied = replied;
  }

  pub unread : Replies None (reply.Refused refusal.Line) server server
  unread = nothing None (reply.Refused refusal.Line) [] refl refl tt refl

  pub call-waiting : (env : List Pair) (stdin : List ℕ) → is_waiting (runs_in server.taker.pass) ≡ true → Replies (Some (wish.Cni env stdin)) (reply.Refused refusal.Waiting) server server
  call-waiting env stdin waits = nothing (Some (wish.Cni env stdin)) (reply.Refused refusal.Waiting) [] (rw waits refl) refl tt (rw waits refl)

  pub request-waiting : (request : Request) → is_waiting (runs_in server.taker.pass) ≡ true → Replies (Some (wish.Request request)) (reply.Refused refusal.Waiting) server server
  request-waiting request waits = nothing (Some (wish.Request request)) (reply.Refused refusal.Waiting) [] (rw waits refl) (rw waits refl) tt (rw waits refl)

  pub feed-idle : (live : List (List ℕ)) → is_waiting (runs_in server.taker.pass) ≡ false → Replies (Some (wish.Feed live)) (reply.Refused refusal.NotWaiting) server server
  feed-idle live idle = nothing (Some (wish.Feed live)) (reply.Refused refusal.NotWaiting) [] (rw idle refl) idle tt (rw idle refl)

  pub stop-idle : is_waiting (runs_in server.taker.pass) ≡ false → Replies (Some wish.Stop) (reply.Refused refusal.NotWaiting) server server
  stop-idle idle = nothing (Some wish.Stop) (reply.Refused refusal.NotWaiting) [] (rw idle refl) refl tt (rw idle refl)

  pub opened-replies : (text : List ℕ) → Replies (Some wish.Opened) (reply.Opened text) server server
  opened-replies text = nothing (Some wish.Opened) (reply.Opened text) text refl refl tt refl

  -- as far as it came, which is nowhere
  pub breaks-at-once : (asked : Option Wish) → BreaksOff asked server server
  breaks-at-once asked = record {
    at = 0;
    does = record { entries = []; did = inl refl; took = took-spared server.taker.pass server.taker.pass [] 1 2 (omega arith) (took-rest server.taker.pass); passed = passed-nothing server.taker.turns };
    reads = inl refl;
  }

-- ---- requests

module _ (old new : Server) (request : Request) (at : ℕ) (idle : is_waiting (runs_in old.taker.pass) ≡ false) (reads : old.ahead ≡ prepend_known_readings (clock_reading (is_collect request) at) new.ahead) where
  request-reads : old.ahead ≡ prepend_known_readings (clock_reading (reads_clock (Some (wish.Request request)) (runs_in old.taker.pass)) at) new.ahead
  request-reads = rw idle reads

  request-did : (answer : Option Answer) (spared : ℕ) → spared ≤ 1 → DoesDeed old.taker (Begins (timed at request)) answer spared new.taker → DoesDeed old.taker (deed_of (Some (wish.Request request)) (runs_in old.taker.pass) at) answer 1 new.taker
  request-did answer spared few d = rw idle (does-spared old.taker new.taker (Begins (timed at request)) answer spared 1 few d)

  pub request-replies : (ran : Ran) → DoesDeed old.taker (Begins (timed at request)) (answer_ran ran) (spared_by ran) new.taker → IfAnswered ran (λ told. runs_in new.taker.pass ≡ None) → OnWaits ran (is_waiting (runs_in new.taker.pass) ≡ true)
      → Replies (Some (wish.Request request)) (reply_ran ran) old new
  request-replies (Answered told) d none waits = record {
    at = at;
    answer = Some told;
    opened = [];
    does = request-did (Some told) 0 (omega arith) d;
    reads = request-reads;
    turned = tt;
    replied = let not = none-waits (runs_in new.taker.pass) none in rw (idle, not) refl;
  }
  request-replies Waits d none waits = record {
    at = at;
    answer = None;
    opened = [];
    does = request-did None 1 (omega arith) d;
    reads = request-reads;
    turned = tt;
    replied = rw (idle, waits) refl;
  }

  pub request-breaks : DoesPart old.taker (Begins (timed at request)) 1 new.taker → BreaksOff (Some (wish.Request request)) old new
  request-breaks d = record {
    at = at;
    does = rw idle (part-spared old.taker new.taker (Begins (timed at request)) 1 2 (omega arith) d);
    reads = inr request-reads;
  }

-- ---- a second list

module _ (old new : Server) (live : List (List ℕ)) (at : ℕ) (waits : is_waiting (runs_in old.taker.pass) ≡ true) (reads : old.ahead ≡ prepend_known_readings (at ∷ []) new.ahead) where
  feed-reads : old.ahead ≡ prepend_known_readings (clock_reading (reads_clock (Some (wish.Feed live)) (runs_in old.taker.pass)) at) new.ahead
  feed-reads = rw waits reads

  pub feed-replies : (told : Option Answer) → FeedsList old.taker live at told new.taker → Replies (Some (wish.Feed live)) (reply_fed told) old new
  feed-replies None (early, still, d) = record {
    at = at;
    answer = None;
    opened = [];
    does = rw (waits, early) d;
    reads = feed-reads;
    turned = tt;
    replied = rw (waits, early) refl;
  }
  feed-replies (Some told) (due, none, d) = record {
    at = at;
    answer = Some told;
    opened = [];
    does = rw (waits, due) (does-spared old.taker new.taker (Feeds live at) (Some told) 0 1 (omega arith) d);
    reads = feed-reads;
    turned = tt;
    replied = rw (waits, due) refl;
  }

  pub feed-breaks : DoesPart old.taker (list_deed (is_early (runs_in old.taker.pass) at) live at) 1 new.taker → BreaksOff (Some (wish.Feed live)) old new
  feed-breaks d = record {
    at = at;
    does = rw waits (part-spared old.taker new.taker (list_deed (is_early (runs_in old.taker.pass) at) live at) 1 2 (omega arith) d);
    reads = inr feed-reads;
  }

pub feed-rests : (old new : Taker) (live : List (List ℕ)) (at : ℕ) (told : Option Answer) → FeedsList old live at told new → IsAtRest (runs_in new.pass)
feed-rests old new live at None (early, still, d) = inr still
feed-rests old new live at (Some told) (due, none, d) = inl none

pub ran-rests : (o : Option RunningRequest) (ran : Ran) → IfAnswered ran (λ told. o ≡ None) → OnWaits ran (is_waiting o ≡ true) → IsAtRest o
ran-rests o (Answered told) none waits = inl none
ran-rests o Waits none waits = inr waits

-- ---- a stop

pub stop-replies : (server : Server) (new : PassValue) → is_waiting (runs_in server.taker.pass) ≡ true → TookTurns server.taker.pass (entry.Stopped server.taker.pass.slot ∷ []) 0 new
    → Replies (Some wish.Stop) reply.Stopped server (server_at new server.taker.turns server.ahead)
unfolding calls_in
stop-replies server new waits took = record {
  at = 0;
  answer = None;
  opened = [];
  does = rw waits (record {
    entries = entry.Stopped server.taker.pass.slot ∷ [];
    did = (refl, refl);
    took = took-spared server.taker.pass new (entry.Stopped server.taker.pass.slot ∷ []) 0 1 (omega arith) took;
    passed = let p = passed-nothing server.taker.turns in record { passes = p.passes; enough = omega arith; counts = p.counts };
  });
  reads = reads-none server.ahead;
  turned = tt;
  replied = rw waits refl;
}

pub stop-breaks : (server : Server) (new : PassValue) → new ≡ server.taker.pass → BreaksOff (Some wish.Stop) server (server_at new server.taker.turns server.ahead)
stop-breaks server new same =
    subst (λ (p : PassValue). BreaksOff (Some wish.Stop) server (server_at p server.taker.turns server.ahead)) (sym same)
    (breaks-at-once server (Some wish.Stop))

-- ---- a CNI call

abbrev IsTimelessBegun : CallBegun → Type 0
IsTimelessBegun (Told status text) = Unit {0}
IsTimelessBegun (Runs request version) = IsTimeless request

wanting-timeless : (address : Option AddrValue) (add : AddRequest) → IsTimeless (wanting address add)
wanting-timeless None add = tt
wanting-timeless (Some address) add = tt

same-timeless : (one begun : CallBegun) → Some one ≡ Some begun → IsTimelessBegun one → IsTimelessBegun begun
same-timeless one begun e h = let same : one ≡ begun = cc e in rw (← same) h

look-timeless : (found : Result Look CniError) (begun : CallBegun) → begun_at found ≡ Some begun → IsTimelessBegun begun
look-timeless (Err error) begun e = same-timeless _ begun e tt
look-timeless (Ok (Version version)) begun e = same-timeless _ begun e tt
look-timeless (Ok (Add add)) begun e = same-timeless _ begun e (wanting-timeless add.address (add_of add))
look-timeless (Ok (Del del)) begun e = same-timeless _ begun e tt
look-timeless (Ok (Check check)) begun e = same-timeless _ begun e tt
look-timeless (Ok (Gc gc)) begun e = same-timeless _ begun e (refl, refl)
look-timeless (Ok (Status status)) begun e = same-timeless _ begun e tt

pub call-timeless : (env : List Pair) (stdin : List ℕ) (request : Request) (version : versions.Version) → call_begun env stdin ≡ Some (Runs request version) → IsTimeless request
unfolding call_begun
call-timeless env stdin request version e = look-timeless (look_reading env stdin) (Runs request version) e

module _ (server : Server) (env : List Pair) (stdin : List ℕ) (idle : is_waiting (runs_in server.taker.pass) ≡ false) where
  pub call-told : (status : ℕ) (text : List ℕ) → call_begun env stdin ≡ Some (Told status text) → Replies (Some (wish.Cni env stdin)) (reply.Called status text) server server
  call-told status text begun = nothing server (Some (wish.Cni env stdin)) (reply.Called status text) [] (rw (idle, begun) refl) refl tt (rw (idle, begun) refl)

  pub call-replies : (new : Taker) (request : Request) (version : versions.Version) (one : Reply) → call_begun env stdin ≡ Some (Runs request version) → TellsRun request version server.taker one new → Replies (Some (wish.Cni env stdin)) one server (record { taker = new; ahead = server.ahead })
  call-replies new request version one begun t = record {
    at = 0;
    answer = Some t.told;
    opened = [];
    does = rw (idle, begun) t.does;
    reads = reads-none server.ahead;
    turned = tt;
    replied = rw (idle, begun) t.tells;
  }

  pub call-breaks : (new : Taker) (request : Request) (version : versions.Version) → call_begun env stdin ≡ Some (Runs request version) → DoesPart server.taker (Calls request) 2 new → BreaksOff (Some (wish.Cni env stdin)) server (record { taker = new; ahead = server.ahead })
  call-breaks new request version begun d = record { at = 0; does = rw (idle, begun) d; reads = inl refl }

  pub call-some-replies : (new : Taker) (request : Request) (version : versions.Version) (r : Result Reply Broken) → call_begun env stdin ≡ Some (Runs request version) → IfOk r (λ one. TellsRun request version server.taker one new) → IfOk r (λ one. Replies (Some (wish.Cni env stdin)) one server (record { taker = new; ahead = server.ahead }))
  call-some-replies new request version (Ok one) begun t = call-replies new request version one begun t
  call-some-replies new request version (Err broken) begun t = tt

  pub call-some-broken : (new : Taker) (request : Request) (version : versions.Version) (r : Result Reply Broken) → call_begun env stdin ≡ Some (Runs request version) → OnErr r (DoesPart server.taker (Calls request) 2 new) → OnErr r (BreaksOff (Some (wish.Cni env stdin)) server (record { taker = new; ahead = server.ahead }))
  call-some-broken new request version (Ok one) begun d = tt
  call-some-broken new request version (Err broken) begun d = call-breaks new request version begun d

-- ---- parts

pub waits-alone : (p q : Type 0) (ran : Ran) → OnWaits ran (p × q) → OnWaits ran p
waits-alone p q (Answered told) h = tt
waits-alone p q Waits h = h.0

pub stopped-idle : (old new : PassValue) → TookTurns old (entry.Stopped old.slot ∷ []) 0 new → runs_in new ≡ None
unfolding asked_after
stopped-idle old new took = none-asked (runs_in new) took.runs

pub told-so : (old new : Taker) (request : Request) (version : versions.Version) (told : Answer) (r : Result Reply Broken) → DoesDeed old (Calls request) (Some told) 1 new → IfOk r (λ one. option_map called_reply (call_reply_told request version told) ≡ Some one) → IfOk r (λ one. TellsRun request version old one new)
told-so old new request version told (Ok one) d t = record { told = told; does = d; tells = t }
told-so old new request version told (Err broken) d t = tt

pub told-broken : (old new : Taker) (request : Request) (told : Answer) (r : Result Reply Broken) → DoesDeed old (Calls request) (Some told) 1 new → OnErr r (DoesPart old (Calls request) 2 new)
told-broken old new request told (Ok one) d = tt
told-broken old new request told (Err broken) d = part-spared old new (Calls request) 1 2 (omega arith) (does-part old new (Calls request) (Some told) 1 d)

-- ---- too few turns, or too many entries

-- where the line wants an entry
full : (asked : Option Wish) (old new : PassValue) → wants_entry asked ≡ true → IsWorn (spared_in asked) old new
    → ((new.left < 2) × Spends (spared_in asked) old new) ⊎ ((wants_entry asked ≡ true) × (2 ^ 62 ≤ moment_of new.base new.seen) × Spends (suc (spared_in asked)) old new)
full asked old new wants (inl few) = inl few
full asked old new wants (inr (many, spends)) = inr (wants, many, spends)

module _ (old new : PassValue) where
  pub request-wears : (request : Request) → is_waiting (runs_in old) ≡ false → IsWorn 0 old new → IsUnanswered old new → WearsOut (Some (wish.Request request)) old new
  request-wears request idle worn unanswered = record { due = rw idle refl; worn = full (Some (wish.Request request)) old new refl worn; unanswered = unanswered; untaken = tt }

  pub call-wears : (env : List Pair) (stdin : List ℕ) (request : Request) (version : versions.Version) → is_waiting (runs_in old) ≡ false → call_begun env stdin ≡ Some (Runs request version) → IsWorn (waits_of request) old new → IsUnanswered old new → WearsOut (Some (wish.Cni env stdin)) old new
  call-wears env stdin request version idle begun worn unanswered = record { due = rw (idle, begun) refl; worn = full (Some (wish.Cni env stdin)) old new refl (subst (λ (o : Option CallBegun). IsWorn (waits_of_call o) old new) (sym begun) worn); unanswered = unanswered; untaken = tt }

  pub feed-wears : (live : List (List ℕ)) → is_waiting (runs_in old) ≡ true → IsWorn 0 old new → IsSome (runs_in new) → WearsOut (Some (wish.Feed live)) old new
  feed-wears live waits worn runs = record { due = waits; worn = full (Some (wish.Feed live)) old new refl worn; unanswered = inr runs; untaken = tt }

  pub stop-wears : is_waiting (runs_in old) ≡ true → new ≡ old → new.left < 2 → WearsOut (Some wish.Stop) old new
  stop-wears waits same few = record { due = waits; worn = inl (few, spends-same old new same); unanswered = inl (subst (λ (p : PassValue). Gained old.slot old.seen [] p.seen) (sym same) (took-nothing old).gained); untaken = same }

  pub routes-wears : TookTurns old [] 1 new → (new ≡ old) × (new.left < 2) → WearsOut (Some wish.Routes) old new
  routes-wears took (same, few) = record { due = refl; worn = inl (few, spends-same old new same); unanswered = inl took.gained; untaken = same }

  pub since-wears : (revision : ℕ) → TookTurns old [] 1 new → (new ≡ old) × (new.left < 2) → WearsOut (Some (wish.RoutesSince revision)) old new
  since-wears revision took (same, few) = record { due = refl; worn = inl (few, spends-same old new same); unanswered = inl took.gained; untaken = same }

  pub page-wears : (kind : RowKind) (after : Option Key) → TookTurns old [] 1 new → (new ≡ old) × (new.left < 2) → WearsOut (Some (wish.Rows kind after)) old new
  page-wears kind after took (same, few) = record { due = refl; worn = inl (few, spends-same old new same); unanswered = inl took.gained; untaken = same }

  pub usage-wears : TookTurns old [] 1 new → (new ≡ old) × (new.left < 2) → WearsOut (Some wish.Usage) old new
  usage-wears took (same, few) = record { due = refl; worn = inl (few, spends-same old new same); unanswered = inl took.gained; untaken = same }
