-- What came of a slot's calls at the keeper, call by call.
use Rattle.std.proofs.Common.{◌≡◌, ◌≢◌, ◌⊎◌, ℕ, Bool, true, false, cond, inl, inr, List, [], ◌∷◌, ◌++◌, length, drop, Option, Some, None, refl, sym, ap, ◌∙◌, subst, append_assoc, eqb-true, arith}
use Rattle.std.proofs.lemmas.List.{append_cancel_right}
use Rattle.std.specs.Prelude.{◌==◌}
use Rattle.ipam_model.specs.declared.answer.Answer.{Answer}
use Rattle.ipam_model.specs.declared.answer.Answer.TheVariants.{Fault}
use Rattle.ipam_model.specs.declared.entry.Called.{Called as OneCall}
use Rattle.ipam_model.specs.declared.entry.Entry.{Entry}
use Rattle.ipam_model.specs.declared.entry.Entry.TheVariants as entry
use Rattle.ipam_model.specs.declared.entry.Fate.TheVariants.{Well, Before}
use Rattle.ipam_model.specs.declared.request.Request.{Request}
use Rattle.ipam_model.specs.declared.request.Request.TheVariants.{Del}
use Rattle.ipam_model.specs.Answered.{Answered}
use Rattle.ipam_model.specs.History.{Base, Lawful, slot_of_entry}
use Rattle.ipam_laws.proofs.Fates.{faults as fault_law}
use Rattle.ipam_shared.specs.Giving.{Gives}
use Rattle.ipam_shared.specs.declared.kept.Kept.{Kept}
use Rattle.ipam_shared.specs.Kept.{KeptFor, Tells}
use Rattle.ipam_shared.specs.KeptTurning.{IsDone, IsFailed}
use Rattle.ipam_shared.specs.PassValue.{PassValue}
use Rattle.ipam_shared.specs.Passes.{IsSamePass}
use Rattle.ipam_shared.specs.Turning.{SeesNext, WasDone, met}
use Rattle.ipam_serve.specs.Gains.{Gained, TookTurns, calls_in, of_slot}
use Rattle.ipam_serve.specs.Calls.{AreSo, IsSoIfCall}
use Rattle.ipam_serve.specs.Keeping.{CameOf, IsByKeeper, KeeperFailed, MakesCalls, WasMade}
use Rattle.ipam_serve.specs.Spans.{AnswersWith, Begins, Calls, Deed, Did, Feeds, Nothing, SlotSpan, Stops}
use Rattle.ipam_serve.specs.Runs.{DoesDeed, Taker}
use Rattle.ipam_serve.proofs.Calls.{each-nothing, each-quiet, each-then, none-so}

-- ---- what a turn met

drop-told : (told rest : List Entry) → drop (length told) (told ++ rest) ≡ rest
drop-told [] rest = refl
drop-told (new ∷ told) rest = drop-told told rest

module _ {D : Type 0} (tells : Tells D) (gives : Gives D) (faults : D → ℕ) where
  -- ---- turns without a call

  pub makes-quiet : (old new : PassValue) (entries : List Entry) (spared : ℕ) → TookTurns old entries spared new → calls_in entries ≡ 0 → MakesCalls tells gives faults old new
  makes-quiet old new entries spared took none = each-quiet (WasMade tells gives faults) old new entries took.same took.gained none

  pub makes-none : (old new : PassValue) (spared : ℕ) → TookTurns old [] spared new → MakesCalls tells gives faults old new
  unfolding calls_in
  makes-none old new spared took = makes-quiet old new [] spared took refl

  pub makes-begun : (old new : PassValue) (request : Request) → TookTurns old (entry.Began old.slot request ∷ []) 0 new → MakesCalls tells gives faults old new
  unfolding calls_in
  makes-begun old new request took = makes-quiet old new (entry.Began old.slot request ∷ []) 0 took refl

  pub makes-fed : (old new : PassValue) (live : List (List ℕ)) (at : ℕ) → TookTurns old (entry.Fed old.slot at live ∷ []) 0 new → MakesCalls tells gives faults old new
  unfolding calls_in
  makes-fed old new live at took = makes-quiet old new (entry.Fed old.slot at live ∷ []) 0 took refl

  pub makes-stopped : (old new : PassValue) → TookTurns old (entry.Stopped old.slot ∷ []) 0 new → MakesCalls tells gives faults old new
  unfolding calls_in
  makes-stopped old new took = makes-quiet old new (entry.Stopped old.slot ∷ []) 0 took refl

  pub makes-nothing : (pass : PassValue) → MakesCalls tells gives faults pass pass
  makes-nothing pass = each-nothing (WasMade tells gives faults) pass

  pub makes-same : (old new : PassValue) → new ≡ old → MakesCalls tells gives faults old new
  makes-same old new same = subst (λ (p : PassValue). MakesCalls tells gives faults old p) (sym same) (makes-nothing old)

  pub makes-then : (one two three : PassValue) → MakesCalls tells gives faults one two → MakesCalls tells gives faults two three → MakesCalls tells gives faults one three
  makes-then one two three a b = each-then (WasMade tells gives faults) one two three a b

  -- ---- a call

  -- a call of this answer is one of this fate
  answered-so : (base : Base) (earlier : List Entry) (c : OneCall) → Lawful base (entry.Called c ∷ earlier) → (c.fate ≡ Well → c.answer ≢ Some Fault) × (c.fate ≡ Before → c.answer ≡ Some Fault)
  answered-so base earlier c lawful =
      let a : Answered = record { base = base; earlier = earlier; call = c; request = Del [] } in
      let law = fault_law a lawful in
      ((λ well answer. law.0 answer well), λ before. law.1 (λ well. cc (well, before)))

  module _ (old new : PassValue) (told : Entry) (same : IsSamePass old new) (sees : SeesNext old (told ∷ []) new) (lawful : Lawful new.base new.seen) where
    base-same : new.base ≡ old.base
    base-same = ap (λ (p : PassValue). p.base) same

    seen-as : (c : OneCall) → told ≡ entry.Called c → new.seen ≡ entry.Called c ∷ (sees.between ++ old.seen)
    seen-as c is = sees.seen ∙ ap (λ (e : Entry). e ∷ (sees.between ++ old.seen)) is

    met-so : met (told ∷ []) new ≡ sees.between ++ old.seen
    met-so = ap (drop 1) sees.seen ∙ drop-told (told ∷ []) (sees.between ++ old.seen)

    call-lawful : (c : OneCall) → told ≡ entry.Called c → Lawful old.base (entry.Called c ∷ (sees.between ++ old.seen))
    call-lawful c is = subst (λ (b : Base). Lawful b (entry.Called c ∷ (sees.between ++ old.seen))) base-same (subst (λ (s : List Entry). Lawful new.base s) (seen-as c is) lawful)

    call-made : (before after : Kept D) (c : OneCall) → told ≡ entry.Called c → KeptFor tells before new.base (met (told ∷ []) new) → KeptFor tells after new.base new.seen → IsByKeeper tells gives faults old.slot c before after → MakesCalls tells gives faults old new
    call-made before after c is stood stands by = record {
      same = same;
      more = entry.Called c ∷ sees.between;
      grew = seen-as c is;
      are = (none-so (WasMade tells gives faults) old.base old.slot sees.between old.seen sees.others, λ own. made);
    }
      where
        made : WasMade tells gives faults old.base old.slot c (sees.between ++ old.seen)
        made = record {
          before = before;
          after = after;
          stood = subst (λ (b : Base). KeptFor tells before b (sees.between ++ old.seen)) base-same (subst (λ (s : List Entry). KeptFor tells before new.base s) met-so stood);
          is = by;
          stands = subst (λ (b : Base). KeptFor tells after b (entry.Called c ∷ (sees.between ++ old.seen))) base-same (subst (λ (s : List Entry). KeptFor tells after new.base s) (seen-as c is) stands);
        }

    -- the turn of a call
    pub makes-call : WasDone tells (λ before after. IsDone faults old.slot before after told ⊎ IsFailed gives faults old.slot before after told) (told ∷ []) new → MakesCalls tells gives faults old new
    makes-call w = from w.deed
      where
        from : IsDone faults old.slot w.before w.after told ⊎ IsFailed gives faults old.slot w.before w.after told → MakesCalls tells gives faults old new
        from (inl d) =
            let c = d.turn.told in
            let so = answered-so old.base (sees.between ++ old.seen) c (call-lawful c d.turn.is_called) in
            call-made w.before w.after c d.turn.is_called w.stood w.stands
            (inl (subst (λ (e : Entry). IsDone faults old.slot w.before w.after e) d.turn.is_called d, so.0 d.turn.has_fate))
        from (inr f) =
            let c = f.turn.told in
            let so = answered-so old.base (sees.between ++ old.seen) c (call-lawful c f.turn.is_called) in
            call-made w.before w.after c f.turn.is_called w.stood w.stands
            (inr (subst (λ (e : Entry). IsFailed gives faults old.slot w.before w.after e) f.turn.is_called f, so.1 f.turn.has_fate))

-- ---- the call that answers

record Answering (slot : ℕ) (told : Answer) (entries : List Entry) : Type 0 where
  pub call : OneCall
  pub earlier : List Entry
  pub are : entries ≡ entry.Called call ∷ earlier
  pub own : call.slot ≡ slot
  pub answers : call.answer ≡ Some told

calls-answer : (slot : ℕ) (told : Answer) (calls : List Entry) → AnswersWith slot told calls → Answering slot told calls
calls-answer slot told [] h = absurd h
calls-answer slot told (entry.Called c ∷ earlier) h = record { call = c; earlier = earlier; are = refl; own = h.0; answers = h.1 }
calls-answer slot told (entry.Began other request ∷ earlier) h = absurd h
calls-answer slot told (entry.Fed other at live ∷ earlier) h = absurd h
calls-answer slot told (entry.Stopped other ∷ earlier) h = absurd h

span-answers : (slot : ℕ) (first : Entry) (told : Answer) (entries : List Entry) → SlotSpan slot first (Some told) entries → Answering slot told entries
span-answers slot first told entries s =
    let a = calls-answer slot told s.calls s.reaches in
    record { call = a.call; earlier = a.earlier ++ first ∷ []; are = s.are ∙ ap (λ l. l ++ first ∷ []) a.are; own = a.own; answers = a.answers }

did-answers : (slot : ℕ) (deed : Deed) (told : Answer) (entries : List Entry) → Did slot deed (Some told) entries → Answering slot told entries
did-answers slot Nothing told entries d = absurd (cc (d.0))
did-answers slot (Begins request) told entries d = span-answers slot _ told entries d
did-answers slot (Calls request) told entries (inl s) = span-answers slot _ told entries s
did-answers slot (Calls request) told entries (inr (asked, is, fed)) =
    let a = span-answers slot _ told fed.later fed.behind in
    record { call = a.call; earlier = a.earlier ++ fed.earlier; are = fed.are ∙ ap (λ l. l ++ fed.earlier) a.are; own = a.own; answers = a.answers }
did-answers slot (Feeds live at) told entries d = span-answers slot _ told entries d
did-answers slot Stops told entries d = absurd (cc (d.0))

module _ {D : Type 0} (tells : Tells D) (gives : Gives D) (faults : D → ℕ) where
  -- a call that was answered by a fault is among these entries
  record Failed (base : Base) (slot : ℕ) (entries first : List Entry) : Type 0 where
    pub call : OneCall
    pub later : List Entry
    pub earlier : List Entry
    pub are : entries ≡ later ++ entry.Called call ∷ earlier
    pub made : WasMade tells gives faults base slot call (earlier ++ first)
    pub failed : IsFailed gives faults slot made.before made.after (entry.Called call)

  made-failed : (base : Base) (slot : ℕ) (c : OneCall) (earlier : List Entry) (made : WasMade tells gives faults base slot c earlier) → c.answer ≡ Some Fault → IsFailed gives faults slot made.before made.after (entry.Called c)
  made-failed base slot c earlier made fault = from made.is
    where
      from : IsByKeeper tells gives faults slot c made.before made.after → IsFailed gives faults slot made.before made.after (entry.Called c)
      from (inl d) = absurd (d.1 fault)
      from (inr f) = f.0

  failed-in : (base : Base) (slot : ℕ) (c : OneCall) (rest entries first : List Entry) → of_slot slot entries ≡ entry.Called c ∷ rest → c.answer ≡ Some Fault → AreSo (WasMade tells gives faults) base slot entries first → Failed base slot entries first
  unfolding of_slot
  failed-in base slot c rest [] first e fault made = absurd (cc e)
  failed-in base slot c rest (told ∷ entries) first e fault made = from (slot_of_entry told == slot) refl e (λ is. failed-in base slot c rest entries first is fault made.0)
    where
      from : (b : Bool) → (slot_of_entry told == slot) ≡ b → cond b (told ∷ of_slot slot entries) (of_slot slot entries) ≡ entry.Called c ∷ rest → (of_slot slot entries ≡ entry.Called c ∷ rest → Failed base slot entries first) → Failed base slot (told ∷ entries) first
      from true own is later =
          let same : told ≡ entry.Called c = cc is in
          let one : WasMade tells gives faults base slot c (entries ++ first) =
          subst (λ (t : Entry). IsSoIfCall (WasMade tells gives faults) base slot t (entries ++ first)) same (made.1 (eqb-true (slot_of_entry told) slot own)) in
          record { call = c; later = []; earlier = entries; are = ap (λ (t : Entry). t ∷ entries) same; made = one; failed = made-failed base slot c (entries ++ first) one fault }
      from false other is later =
          let f = later is in
          record { call = f.call; later = told ∷ f.later; earlier = f.earlier; are = ap (λ l. told ∷ l) f.are; made = f.made; failed = f.failed }

  answer-failed : (old new : PassValue) (deed : Deed) (entries : List Entry) → Did old.slot deed (Some Fault) entries → Gained old.slot old.seen entries new.seen → MakesCalls tells gives faults old new → KeeperFailed tells gives faults old new
  answer-failed old new deed entries did gained m = record {
    call = f.call;
    later = f.later;
    earlier = f.earlier;
    seen = m.grew ∙ ap (λ l. l ++ old.seen) f.are ∙ append_assoc f.later (entry.Called f.call ∷ f.earlier) old.seen;
    made = f.made;
    failed = f.failed;
  }
    where
      a : Answering old.slot Fault entries
      a = did-answers old.slot deed Fault entries did

      more : m.more ≡ gained.more
      more = append_cancel_right m.more gained.more old.seen (sym m.grew ∙ gained.grew)

      f : Failed old.base old.slot m.more old.seen
      f = failed-in old.base old.slot a.call a.earlier m.more old.seen (ap (of_slot old.slot) more ∙ gained.own ∙ a.are) a.answers m.are

  -- what came at the keeper of a line that was done
  pub came-so : (old new : Taker) (deed : Deed) (answer : Option Answer) (spared : ℕ) → DoesDeed old deed answer spared new → MakesCalls tells gives faults old.pass new.pass → CameOf tells gives faults answer old.pass new.pass
  came-so old new deed answer spared d m = record {
    calls = m;
    fault = λ e. answer-failed old.pass new.pass deed d.entries (subst (λ (o : Option Answer). Did old.pass.slot deed o d.entries) e d.did) d.took.gained m;
  }

  -- and of one that was not
  pub came-none : (old new : PassValue) → MakesCalls tells gives faults old new → CameOf tells gives faults None old new
  came-none old new m = record { calls = m; fault = λ e. absurd (cc e) }
