-- The gate is asked before each call.
use Rattle.std.proofs.Common.{◌≡◌, ◌≤◌, ℕ, Bool, true, false, arith, inl, inr, List, [], ◌∷◌, length, Option, Some, None, Result, Ok, Err, refl, sym, ap, subst}
use Rattle.std.specs.Prelude.{IfOk, OnErr, if◌then◌else◌}
use Rattle.ipam_io.specs.declared.gate.Point.TheVariants.{Turn}
use Rattle.ipam_model.specs.declared.answer.Answer.{Answer}
use Rattle.ipam_model.specs.declared.entry.Entry.{Entry}
use Rattle.ipam_model.specs.declared.entry.Entry.TheVariants as entry
use Rattle.ipam_model.specs.declared.request.Request.{Request}
use Rattle.ipam_session.specs.declared.replies.Reply.{Reply}
use Rattle.ipam_session.specs.declared.wish.Wish.{Wish}
use Rattle.ipam_shared.specs.PassValue.{PassValue}
use Rattle.ipam_shared.specs.Passes.{runs_in}
use Rattle.ipam_serve.specs.declared.ran.Broken.{Broken}
use Rattle.ipam_serve.specs.declared.ran.Ran.{Ran}
use Rattle.ipam_serve.specs.declared.ran.Ran.TheVariants.{Answered, Waits}
use Rattle.ipam_serve.specs.declared.turns.Feeding.{Feeding}
use Rattle.ipam_serve.specs.declared.turns.Feeding.TheVariants as feeding
use Rattle.ipam_serve.specs.Asking.{Admits, WasAdmitted}
use Rattle.ipam_serve.specs.Calls.{EachCall}
use Rattle.ipam_serve.specs.Gains.{Settles, TookTurns, calls_in}
use Rattle.ipam_serve.specs.Lines.{BreaksOff, Replies, Server, deed_of}
use Rattle.ipam_serve.specs.Sessions.{StopsLast}
use Rattle.ipam_serve.specs.Spans.{Begins, Calls, Deed, Did, DidPart, Feeds, Nothing, Stops}
use Rattle.ipam_serve.specs.Turns.{Called, Fed}
use Rattle.ipam_serve.proofs.Calls.{each-nothing, each-quiet, each-single, each-then}

-- ---- what is done without a call

abbrev pub IsQuiet : Deed → Type 0
IsQuiet Nothing = Unit {0}
IsQuiet (Begins request) = ⊥
IsQuiet (Calls request) = ⊥
IsQuiet (Feeds live at) = ⊥
IsQuiet Stops = Unit {0}

pub stop-quiet : (waits : Bool) → IsQuiet (if waits then Stops else Nothing)
stop-quiet true = tt
stop-quiet false = tt

did-quiet : (slot : ℕ) (deed : Deed) (answer : Option Answer) (entries : List Entry) → IsQuiet deed → Did slot deed answer entries → calls_in entries ≡ 0
unfolding calls_in
did-quiet slot Nothing answer entries quiet did = ap calls_in did.1
did-quiet slot (Begins request) answer entries quiet did = absurd quiet
did-quiet slot (Calls request) answer entries quiet did = absurd quiet
did-quiet slot (Feeds live at) answer entries quiet did = absurd quiet
did-quiet slot Stops answer entries quiet did = ap calls_in did.1

part-quiet : (slot : ℕ) (deed : Deed) (entries : List Entry) → IsQuiet deed → DidPart slot deed entries → calls_in entries ≡ 0
unfolding calls_in
part-quiet slot deed entries quiet (inl none) = ap calls_in none
part-quiet slot deed entries quiet (inr (answer, did)) = did-quiet slot deed answer entries quiet did

module _ {G : Type 0} (admits : Admits G) where
  -- ---- turns without a call

  pub admits-nothing : (pass : PassValue) → EachCall (WasAdmitted admits) pass pass
  admits-nothing pass = each-nothing (WasAdmitted admits) pass

  pub admits-then : (one two three : PassValue) → EachCall (WasAdmitted admits) one two → EachCall (WasAdmitted admits) two three → EachCall (WasAdmitted admits) one three
  admits-then one two three a b = each-then (WasAdmitted admits) one two three a b

  pub admits-took : (old new : PassValue) (entries : List Entry) (spared : ℕ) → TookTurns old entries spared new → calls_in entries ≡ 0 → EachCall (WasAdmitted admits) old new
  admits-took old new entries spared took none = each-quiet (WasAdmitted admits) old new entries took.same took.gained none

  pub admits-none : (old new : PassValue) (spared : ℕ) → TookTurns old [] spared new → EachCall (WasAdmitted admits) old new
  unfolding calls_in
  admits-none old new spared took = admits-took old new [] spared took refl

  pub admits-begun : (old new : PassValue) (request : Request) → TookTurns old (entry.Began old.slot request ∷ []) 0 new → EachCall (WasAdmitted admits) old new
  unfolding calls_in
  admits-begun old new request took = admits-took old new (entry.Began old.slot request ∷ []) 0 took refl

  pub admits-fed : (old new : PassValue) (live : List (List ℕ)) (at : ℕ) (feeding : Feeding) → Fed old live at feeding new → EachCall (WasAdmitted admits) old new
  unfolding calls_in
  admits-fed old new live at feeding.Fed fed = admits-took old new (entry.Fed old.slot at live ∷ []) 0 fed.0 refl
  admits-fed old new live at feeding.TooSoon fed = admits-none old new 1 fed.0

  pub admits-settles : (old new : PassValue) → Settles old new → EachCall (WasAdmitted admits) old new
  unfolding calls_in
  admits-settles old new s = each-quiet (WasAdmitted admits) old new [] s.same s.gained refl

  pub admits-stop : (old new : PassValue) → StopsLast old new → EachCall (WasAdmitted admits) old new
  unfolding calls_in
  admits-stop old new (inl none) = subst (λ (p : PassValue). EachCall (WasAdmitted admits) old p) (sym none.1) (admits-nothing old)
  admits-stop old new (inr stopped) = each-quiet (WasAdmitted admits) old new (entry.Stopped old.slot ∷ []) stopped.same stopped.gained refl

  -- it forgot what it knew to be sure
  pub admits-unsure : (old forgot : PassValue) → forgot ≡ record old { sure = None } → EachCall (WasAdmitted admits) old forgot
  admits-unsure old forgot is = subst (λ (p : PassValue). EachCall (WasAdmitted admits) old p) (sym is) (record { same = refl; more = []; grew = refl; are = tt })

  -- ---- a call

  single : (old new : PassValue) (entries : List Entry) (spared : ℕ) → TookTurns old entries spared new → length entries ≤ 1 → (before after : G) → admits before Turn old after → EachCall (WasAdmitted admits) old new
  single old new entries spared took few before after asked =
      each-single (WasAdmitted admits) old new entries took.same took.gained few
      (λ c between none. record {
        pass = old;
        own = refl;
        since = record { more = between; grew = refl; own = none };
        before = before;
        after = after;
        asked = asked;
      })

  -- the gate was asked, and then a turn was taken
  pub admits-step : (r : Result (Option Ran) Broken) (old new : PassValue) (before after : G) → admits before Turn old after → IfOk r (λ ran. Called old ran new) → OnErr r (TookTurns old [] 1 new) → EachCall (WasAdmitted admits) old new
  admits-step (Ok None) old new before after asked called none = single old new (entry.Called called.made ∷ []) 0 called.took (omega arith) before after asked
  admits-step (Ok (Some (Answered told))) old new before after asked called none = single old new (entry.Called called.0.made ∷ []) 0 called.0.took (omega arith) before after asked
  admits-step (Ok (Some Waits)) old new before after asked called none = admits-none old new 1 called.0
  admits-step (Err why) old new before after asked called none = admits-none old new 1 none

  -- ---- lines that make no call

  pub admits-line : (asked : Option Wish) (r : Result Reply Broken) (old new : Server) → ((at : ℕ) → IsQuiet (deed_of asked (runs_in old.taker.pass) at)) → IfOk r (λ one. Replies asked one old new) → OnErr r (BreaksOff asked old new)
      → EachCall (WasAdmitted admits) old.taker.pass new.taker.pass
  admits-line asked (Ok one) old new quiet replied broken =
      let does = replied.does in
      admits-took old.taker.pass new.taker.pass does.entries 1 does.took (did-quiet old.taker.pass.slot (deed_of asked (runs_in old.taker.pass) replied.at) replied.answer does.entries (quiet replied.at) does.did)
  admits-line asked (Err why) old new quiet replied broken =
      let does = broken.does in
      admits-took old.taker.pass new.taker.pass does.entries 2 does.took (part-quiet old.taker.pass.slot (deed_of asked (runs_in old.taker.pass) broken.at) does.entries (quiet broken.at) does.did)
