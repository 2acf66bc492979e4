-- What comes of a wish.
use Rattle.std.proofs.Common.{◌≡◌, ◌<◌, ℕ, Bool, true, false, inl, inr, List, [], ◌∷◌, Option, Some, None, Result, Ok, Err, IsSome, refl, sym, subst}
use Rattle.std.specs.Prelude.{IfOk, OnOk, OnErr, option_map}
use Rattle.ipam_io.specs.Readings.{prepend_known_readings}
use Rattle.cni_types.specs.declared.version.Version as versions
use Rattle.cni_types.specs.Reading.{Pair}
use Rattle.ipam_shared.specs.Giving.{Gives}
use Rattle.ipam_shared.specs.Kept.{Tells}
use Rattle.ipam_model.specs.declared.answer.Answer.{Answer}
use Rattle.ipam_model.specs.declared.entry.Entry.TheVariants as entry
use Rattle.ipam_model.specs.declared.request.Request.{Request}
use Rattle.ipam_model.specs.Cluster.{RunningRequest}
use Rattle.ipam_session.specs.declared.call.CallBegun.TheVariants.{Runs}
use Rattle.ipam_session.specs.declared.replies.Reply.{Reply}
use Rattle.ipam_session.specs.declared.replies.Reply.TheVariants as reply
use Rattle.ipam_session.specs.declared.wish.Wish.{Wish}
use Rattle.ipam_session.specs.declared.wish.Wish.TheVariants as wish
use Rattle.ipam_session.specs.Calls.{call_begun, call_reply_told}
use Rattle.ipam_session.specs.Lines.{called_reply}
use Rattle.ipam_shared.specs.PassValue.{PassValue}
use Rattle.ipam_shared.specs.Passes.{runs_in}
use Rattle.ipam_serve.specs.declared.ran.Broken.{Broken}
use Rattle.ipam_serve.specs.declared.ran.Broken.TheVariants.{Halted, Worn, Memory}
use Rattle.ipam_serve.specs.declared.ran.Ran.{Ran}
use Rattle.ipam_serve.specs.Faults.{FoundFed, FoundOnWay, FoundRoom, Halts, IfAnswered, IsWorn, OnHalted, OnMemory, OnWaits, OnWorn, answer_ran, spared_by}
use Rattle.ipam_serve.specs.Gains.{TookTurns, is_early, is_waiting}
use Rattle.ipam_serve.specs.Keeping.{MakesCalls}
use Rattle.ipam_serve.specs.Lines.{BreaksOff, FoundNone, IsUnanswered, Replies, Server, WearsOut, is_collect, clock_reading, reply_fed, reply_ran, server_at, timed}
use Rattle.ipam_serve.specs.Outcomes.{Comes, ComesOfCall}
use Rattle.ipam_serve.specs.Runs.{DoesDeed, DoesPart, FeedsList, IsAtRest, Taker}
use Rattle.ipam_serve.specs.Spans.{Begins, Calls, list_deed, waits_of}
use Rattle.ipam_serve.proofs.Going.{memory-worn, worn-both, worn-from, worn-so}
use Rattle.ipam_serve.proofs.Keeping.{makes-none, makes-nothing, makes-same, makes-stopped}
use Rattle.ipam_serve.proofs.LineParts.{breaks-at-once, call-some-broken, call-some-replies, call-wears, feed-breaks, feed-replies, feed-rests, feed-wears, opened-replies, ran-rests, request-breaks, request-replies, request-wears, stop-breaks, stop-replies, stop-wears, stopped-idle, told-broken, told-so, waits-alone}
use Rattle.ipam_serve.proofs.Routing.{same-rests}
use Rattle.ipam_serve.proofs.Wearing.{memory-any, memory-so}

-- no gate was passed, so none stopped it
pub never-halts : (why : Broken) (count : ℕ) → OnHalted {T = Unit {0}} (Err why) ⊥ → Halts {T = Unit {0}} (Err why) count count
never-halts Halted count h = absurd h
never-halts Worn count h = refl
never-halts Memory count h = refl

idle-rests : {T : Type 0} (r : Result T Broken) (o : Option RunningRequest) → OnOk r (o ≡ None) → OnOk r (IsAtRest o)
idle-rests (Ok value) o none = inl none
idle-rests (Err broken) o none = tt

module _ {D : Type 0} (tells : Tells D) (gives : Gives D) (faults : D → ℕ) where
  -- ---- nothing is done

  -- it is replied to at once
  pub comes-nothing : (server : Server) (asked : Option Wish) (one : Reply) → IsAtRest (runs_in server.taker.pass) → Replies asked one server server → Comes tells gives faults asked (Ok one) server server
  comes-nothing server asked one rests replied = record {
    replied = replied;
    broken = tt;
    rests = rests;
    worn = tt;
    memory = tt;
    keeper = makes-nothing tells gives faults server.taker.pass;
  }

  pub comes-memory : (server : Server) (asked : Option Wish) → FoundNone asked server server → Comes tells gives faults asked (Err Memory) server server
  comes-memory server asked found = record {
    replied = tt;
    broken = breaks-at-once server asked;
    rests = tt;
    worn = tt;
    memory = found;
    keeper = makes-nothing tells gives faults server.taker.pass;
  }

  pub comes-opened : (server : Server) (text : List ℕ) (r : Result Reply Broken) → IsAtRest (runs_in server.taker.pass) → IfOk r (λ one. one ≡ reply.Opened text) → OnErr r (r ≡ Err Memory)
      → Comes tells gives faults (Some wish.Opened) r server server
  comes-opened server text (Ok one) rests is memory =
      comes-nothing server (Some wish.Opened) one rests (subst (λ (o : Reply). Replies (Some wish.Opened) o server server) (sym is) (opened-replies server text))
  comes-opened server text (Err broken) rests is memory =
      subst (λ (r : Result Reply Broken). Comes tells gives faults (Some wish.Opened) r server server) (sym memory) (comes-memory server (Some wish.Opened) refl)

  -- ---- a request

  module _ (old new : Server) (request : Request) (at : ℕ) (idle : is_waiting (runs_in old.taker.pass) ≡ false) (reads : old.ahead ≡ prepend_known_readings (clock_reading (is_collect request) at) new.ahead) (made : MakesCalls tells gives faults old.taker.pass new.taker.pass) where
    pub comes-ran : (ran : Ran) (q : Type 0) → DoesDeed old.taker (Begins (timed at request)) (answer_ran ran) (spared_by ran) new.taker → IfAnswered ran (λ told. runs_in new.taker.pass ≡ None) → OnWaits ran ((is_waiting (runs_in new.taker.pass) ≡ true) × q)
        → Comes tells gives faults (Some (wish.Request request)) (Ok (reply_ran ran)) old new
    comes-ran ran q does none waits =
        let alone = waits-alone (is_waiting (runs_in new.taker.pass) ≡ true) q ran waits in
        record {
          replied = request-replies old new request at idle reads ran does none alone;
          broken = tt;
          rests = ran-rests (runs_in new.taker.pass) ran none alone;
          worn = tt;
          memory = tt;
          keeper = made;
        }

    pub comes-unrun : (why : Broken) → DoesPart old.taker (Begins (timed at request)) 1 new.taker → OnWorn {T = Unit {0}} (Err why) (IsWorn 0 old.taker.pass new.taker.pass) → OnWorn {T = Unit {0}} (Err why) (IsUnanswered old.taker.pass new.taker.pass)
        → OnMemory {T = Unit {0}} (Err why) (FoundRoom old.taker.pass new.taker.pass) → Comes tells gives faults (Some (wish.Request request)) (Err why) old new
    comes-unrun why does worn unanswered memory = record {
      replied = tt;
      broken = request-breaks old new request at idle reads does;
      rests = tt;
      worn = worn-both why _ _ _ (request-wears old.taker.pass new.taker.pass request idle) worn unanswered;
      memory = memory;
      keeper = made;
    }

  -- ---- a second list

  module _ (old new : Server) (live : List (List ℕ)) (at : ℕ) (waits : is_waiting (runs_in old.taker.pass) ≡ true) (reads : old.ahead ≡ prepend_known_readings (at ∷ []) new.ahead) (made : MakesCalls tells gives faults old.taker.pass new.taker.pass) where
    pub comes-fed : (told : Option Answer) → FeedsList old.taker live at told new.taker → Comes tells gives faults (Some (wish.Feed live)) (Ok (reply_fed told)) old new
    comes-fed told fed = record {
      replied = feed-replies old new live at waits reads told fed;
      broken = tt;
      rests = feed-rests old.taker new.taker live at told fed;
      worn = tt;
      memory = tt;
      keeper = made;
    }

    pub comes-unfed : (why : Broken) → DoesPart old.taker (list_deed (is_early (runs_in old.taker.pass) at) live at) 1 new.taker → OnWorn {T = Unit {0}} (Err why) (IsWorn 0 old.taker.pass new.taker.pass) → OnWorn {T = Unit {0}} (Err why) (IsSome (runs_in new.taker.pass))
        → OnMemory {T = Unit {0}} (Err why) (FoundFed old.taker.pass at new.taker.pass) → Comes tells gives faults (Some (wish.Feed live)) (Err why) old new
    comes-unfed why does worn runs memory = record {
      replied = tt;
      broken = feed-breaks old new live at waits reads does;
      rests = tt;
      worn = worn-both why _ _ _ (feed-wears old.taker.pass new.taker.pass live waits) worn runs;
      memory = memory-so {T = Unit {0}} (Err why) _ _ (λ found. (at, reads, found)) memory;
      keeper = made;
    }

  -- ---- a stop

  module _ (server : Server) (new : PassValue) (waits : is_waiting (runs_in server.taker.pass) ≡ true) where
    pub comes-stopped : TookTurns server.taker.pass (entry.Stopped server.taker.pass.slot ∷ []) 0 new → Comes tells gives faults (Some wish.Stop) (Ok reply.Stopped) server (server_at new server.taker.turns server.ahead)
    comes-stopped took = record {
      replied = stop-replies server new waits took;
      broken = tt;
      rests = inl (stopped-idle server.taker.pass new took);
      worn = tt;
      memory = tt;
      keeper = makes-stopped tells gives faults server.taker.pass new took;
    }

    pub comes-unstopped : (why : Broken) → new ≡ server.taker.pass → OnWorn {T = Unit {0}} (Err why) (new.left < 2) → OnMemory {T = Unit {0}} (Err why) ⊥ → Comes tells gives faults (Some wish.Stop) (Err why) server (server_at new server.taker.turns server.ahead)
    comes-unstopped why same worn memory = record {
      replied = tt;
      broken = stop-breaks server new same;
      rests = tt;
      worn = worn-so {T = Unit {0}} (Err why) _ _ (stop-wears server.taker.pass new waits same) worn;
      memory = memory;
      keeper = makes-same tells gives faults server.taker.pass new same;
    }

  -- ---- one turn that has no entry

  module _ (server : Server) (new : PassValue) (took : TookTurns server.taker.pass [] 1 new) (asked : Option Wish) where
    pub comes-seen : (one : Reply) → runs_in new ≡ runs_in server.taker.pass → IsAtRest (runs_in server.taker.pass) → Replies asked one server (server_at new server.taker.turns server.ahead)
        → Comes tells gives faults asked (Ok one) server (server_at new server.taker.turns server.ahead)
    comes-seen one same rests replied = record {
      replied = replied;
      broken = tt;
      rests = same-rests server.taker.pass new same rests;
      worn = tt;
      memory = tt;
      keeper = makes-none tells gives faults server.taker.pass new 1 took;
    }

    pub comes-unseen : (why : Broken) → BreaksOff asked server (server_at new server.taker.turns server.ahead) → ((new ≡ server.taker.pass) × (new.left < 2) → WearsOut asked server.taker.pass new) → OnWorn {T = Unit {0}} (Err why) ((new ≡ server.taker.pass) × (new.left < 2))
        → OnMemory {T = Unit {0}} (Err why) (FoundNone asked server (server_at new server.taker.turns server.ahead)) → Comes tells gives faults asked (Err why) server (server_at new server.taker.turns server.ahead)
    comes-unseen why breaks wears worn memory = record {
      replied = tt;
      broken = breaks;
      rests = tt;
      worn = worn-so {T = Unit {0}} (Err why) _ _ wears worn;
      memory = memory;
      keeper = makes-none tells gives faults server.taker.pass new 1 took;
    }

  -- ---- a CNI call

  pub comes-called : (server : Server) (env : List Pair) (stdin : List ℕ) (new : Taker) (request : Request) (version : versions.Version) (r : Result Reply Broken)
      → is_waiting (runs_in server.taker.pass) ≡ false → call_begun env stdin ≡ Some (Runs request version) → ComesOfCall tells gives faults request version r server.taker new
      → Comes tells gives faults (Some (wish.Cni env stdin)) r server (record { taker = new; ahead = server.ahead })
  comes-called server env stdin new request version r idle begun comes = record {
    replied = call-some-replies server env stdin idle new request version r begun comes.told;
    broken = call-some-broken server env stdin idle new request version r begun comes.broken;
    rests = idle-rests r (runs_in new.pass) comes.idle;
    worn = worn-from r _ _ _ (call-wears server.taker.pass new.pass env stdin request version idle begun) comes.worn comes.unanswered;
    memory = memory-so r _ _ (λ found. inr (request, version, begun, found)) comes.memory;
    keeper = comes.keeper;
  }

  pub comes-told : (old new : Taker) (request : Request) (version : versions.Version) (told : Answer) (r : Result Reply Broken) → DoesDeed old (Calls request) (Some told) 1 new → runs_in new.pass ≡ None
      → MakesCalls tells gives faults old.pass new.pass → IfOk r (λ one. option_map called_reply (call_reply_told request version told) ≡ Some one) → OnErr r (r ≡ Err Memory) → ComesOfCall tells gives faults request version r old new
  comes-told old new request version told r does none made is memory = record {
    told = told-so old new request version told r does is;
    broken = told-broken old new request told r does;
    idle = always r none;
    worn = memory-worn r _ memory;
    unanswered = memory-worn r _ memory;
    memory = memory-any r _ (inr (told, does));
    keeper = made;
  }
    where
      always : {P : Type 0} (s : Result Reply Broken) → P → OnOk s P
      always (Ok one) p = p
      always (Err broken) p = tt

  pub comes-untold : (old new : Taker) (request : Request) (version : versions.Version) (why : Broken) → DoesPart old (Calls request) 2 new → OnWorn {T = Unit {0}} (Err why) (IsWorn (waits_of request) old.pass new.pass) → OnWorn {T = Unit {0}} (Err why) (IsUnanswered old.pass new.pass)
      → OnMemory {T = Unit {0}} (Err why) (FoundOnWay request old.pass new.pass) → MakesCalls tells gives faults old.pass new.pass → ComesOfCall tells gives faults request version (Err why) old new
  comes-untold old new request version why does worn unanswered memory made = record {
    told = tt;
    broken = does;
    idle = tt;
    worn = worn;
    unanswered = unanswered;
    memory = memory-so {T = Unit {0}} (Err why) (FoundOnWay request old.pass new.pass) _ inl memory;
    keeper = made;
  }
