-- What the answers of a turn come to.
use Rattle.std.proofs.Common.{◌≡◌, ◌↔◌, ◌⊎◌, ◌<◌, ◌≤◌, ℕ, ◌+◌, arith, true, inl, inr, List, [], ◌∷◌, Option, Some, None, Result, Ok, Err, IsSome, refl, sym, ap, ◌∙◌, subst}
use Rattle.std.specs.Prelude.{IfOk, IfSome, OnErr, OnOk, option_map}
use Rattle.ipam_model.specs.declared.answer.Answer.{Answer}
use Rattle.ipam_model.specs.declared.entry.Called.{Called as OneCall}
use Rattle.ipam_model.specs.declared.entry.Entry.{Entry}
use Rattle.ipam_model.specs.declared.entry.Entry.TheVariants as entry
use Rattle.ipam_model.specs.declared.entry.SlotState.TheVariants as state
use Rattle.ipam_model.specs.declared.request.Request.{Request}
use Rattle.ipam_model.specs.CanAnswer.{CanAnswer}
use Rattle.ipam_model.specs.Cluster.{state_of}
use Rattle.ipam_model.specs.History.{Lawful}
use Rattle.ipam_shared.specs.declared.kept.Kept.{Kept}
use Rattle.ipam_shared.specs.Giving.{Gives}
use Rattle.ipam_shared.specs.KeptTurning.{IsDone, IsFailed}
use Rattle.ipam_shared.specs.declared.faults.SharedFault.{SharedFault}
use Rattle.ipam_shared.specs.declared.faults.SharedFault.TheVariants.{Inner, SpentPass}
use Rattle.ipam_shared.specs.declared.faults.SpentPass.{SpentPass as Spent}
use Rattle.ipam_shared.specs.Deeds.{told_if}
use Rattle.ipam_shared.specs.PassValue.{PassValue}
use Rattle.ipam_shared.specs.Passes.{IsSamePass, IsTold, runs_in}
use Rattle.ipam_shared.specs.Turning.{SeesNext, UnlessSpent, WaitsFor}
use Rattle.ipam_serve.specs.declared.ran.Broken.{Broken}
use Rattle.ipam_serve.specs.declared.ran.Ran.{Ran}
use Rattle.ipam_serve.specs.declared.ran.Ran.TheVariants.{Answered, Waits}
use Rattle.ipam_serve.specs.declared.turns.Feeding.{Feeding}
use Rattle.ipam_serve.specs.declared.turns.Feeding.TheVariants as feeding
use Rattle.ipam_serve.specs.Faults.{IfAnswered, OnWaits}
use Rattle.ipam_serve.specs.Gains.{TookTurns, request_running, is_waiting}
use Rattle.ipam_serve.specs.Turns.{Called, Fed, answer_told}
use Rattle.ipam_serve.proofs.Slots.{early-so, fed-due, untold-runs, waits-so}
use Rattle.ipam_serve.proofs.Turning.{told-can, took-known, took-none}

pub on-err : {T E : Type 0} {P : Type 0} (r : Result T E) → P → OnErr r P
on-err (Ok value) p = tt
on-err (Err error) p = p

pub on-ok : {T E : Type 0} {P : Type 0} (r : Result T E) → P → OnOk r P
on-ok (Ok value) p = p
on-ok (Err error) p = tt

-- ---- a refusal

unless-err : {E : Type 0} (T : Type 0) (fault : SharedFault E) (p : Type 0) → (fault ≡ SpentPass → ⊥) → UnlessSpent {T = T} {E = E} (Err fault) p → p
unless-err T SpentPass p not h = absurd (not refl)
unless-err T (Inner fault) p not h = h

not-spent : {T E : Type 0} (fault : SharedFault E) (left : ℕ) → ((◌≡◌ {A = Result T (SharedFault E)} (Err fault) (Err SpentPass)) ↔ (left ≡ 0)) → 2 ≤ left → fault ≡ SpentPass → ⊥
not-spent fault left spent enough e = let none = spent.0 (ap Err e) in absurd (omega arith)

module _ {T E : Type 0} (old new : PassValue) (fault : SharedFault E) (spent : (◌≡◌ {A = Result T (SharedFault E)} (Err fault) (Err SpentPass)) ↔ (old.left ≡ 0)) (enough : 2 ≤ old.left) where
  pub spent-not : fault ≡ SpentPass → ⊥
  spent-not = not-spent {T = T} fault old.left spent enough

  pub sees-none : UnlessSpent {T = T} {E = E} (Err fault) (SeesNext old [] new) → SeesNext old [] new
  sees-none sees = unless-err T fault (SeesNext old [] new) (not-spent {T = T} fault old.left spent enough) sees

  pub knows-err : UnlessSpent {T = T} {E = E} (Err fault) (IsTold old new) → IsTold old new
  knows-err knows = unless-err T fault (IsTold old new) (not-spent {T = T} fault old.left spent enough) knows

  pub took-err : IsSamePass old new → UnlessSpent {T = T} {E = E} (Err fault) (SeesNext old [] new) → UnlessSpent {T = T} {E = E} (Err fault) (IsTold old new) → UnlessSpent {T = T} {E = E} (Err fault) (new.left + 1 ≡ old.left) → TookTurns old [] 1 new
  took-err same sees knows left =
      took-none old new same (sees-none sees) (unless-err T fault (IsTold old new) (not-spent {T = T} fault old.left spent enough) knows) (unless-err T fault (new.left + 1 ≡ old.left) (not-spent {T = T} fault old.left spent enough) left) enough

  pub one-err : UnlessSpent {T = T} {E = E} (Err fault) (new.left + 1 ≡ old.left) → new.left + 1 ≡ old.left
  one-err left = unless-err T fault (new.left + 1 ≡ old.left) (not-spent {T = T} fault old.left spent enough) left

-- ---- a call

called-done : (old new : PassValue) (c : OneCall) → c.slot ≡ old.slot → IsSamePass old new → SeesNext old (entry.Called c ∷ []) new → Lawful new.base new.seen → TookTurns old (entry.Called c ∷ []) 0 new → Called old (option_map Answered c.answer) new
called-done old new c own same sees lawful took = from c.answer refl
  where
    from : (answer : Option Answer) → c.answer ≡ answer → Called old (option_map Answered answer) new
    from None e = record { made = c; own = own; answers = e; took = took }
    from (Some told) e = (
      record { made = c; own = own; answers = e; took = took },
      λ request asked. told-can old new c told request same sees lawful own e asked,
    )

called-as : (old new : PassValue) (told : Entry) (c : OneCall) → told ≡ entry.Called c → c.slot ≡ old.slot → IsSamePass old new → SeesNext old (told ∷ []) new → IsTold old new → new.left + 1 ≡ old.left → 2 ≤ old.left → Lawful new.base new.seen → Called old (answer_told told) new
called-as old new told c is own same sees knows left enough lawful =
    let took = took-known old new told (entry.Called c) is same sees knows left enough in
    subst (λ (e : Entry). Called old (answer_told e) new) (sym is)
    (called-done old new c own same (subst (λ (e : Entry). SeesNext old (e ∷ []) new) is sees) lawful took)

pub called-so : {D : Type 0} (gives : Gives D) (faults : D → ℕ) (before after : Kept D) (old new : PassValue) (told : Entry) → IsDone faults old.slot before after told ⊎ IsFailed gives faults old.slot before after told
    → IsSamePass old new → SeesNext old (told ∷ []) new → IsTold old new → new.left + 1 ≡ old.left → 2 ≤ old.left → Lawful new.base new.seen → Called old (answer_told told) new
called-so gives faults before after old new told (inl d) same sees knows left enough lawful =
    called-as old new told d.turn.told d.turn.is_called d.turn.own same sees knows left enough lawful
called-so gives faults before after old new told (inr f) same sees knows left enough lawful =
    called-as old new told f.turn.told f.turn.is_called f.turn.own same sees knows left enough lawful

-- what waited still does
still-waits : (old new : PassValue) → IsSamePass old new → SeesNext old [] new → is_waiting (runs_in old) ≡ true → is_waiting (runs_in new) ≡ true
still-waits old new same sees waits = ap is_waiting (untold-runs old new same sees) ∙ waits

pub waits-called : (old new : PassValue) (r : Result (Option Ran) Broken) (why : Type 0) → IfOk r (λ ran. (ran ≡ Some Waits) × why) → (why → state_of (runs_in old) ≡ state.Waiting) → IsSamePass old new → SeesNext old [] new → TookTurns old [] 1 new → IfOk r (λ ran. Called old ran new)
waits-called old new (Ok ran) why h waiting same sees took =
    subst (λ (o : Option Ran). Called old o new) (sym h.0)
    (took, still-waits old new same sees (waits-so (runs_in old) (waiting h.1)))
waits-called old new (Err broken) why h waiting same sees took = tt

-- ---- a list

pub fed-so : (old new : PassValue) (told : Entry) (at : ℕ) (live : List (List ℕ)) → told ≡ entry.Fed old.slot at live → IsSamePass old new → SeesNext old (told ∷ []) new → IsTold old new → new.left + 1 ≡ old.left → 2 ≤ old.left → Lawful new.base new.seen → Fed old live at feeding.Fed new
fed-so old new told at live is same sees knows left enough lawful = (
  took-known old new told (entry.Fed old.slot at live) is same sees knows left enough,
  fed-due old new at live same (subst (λ (e : Entry). SeesNext old (e ∷ []) new) is sees) lawful,
)

pub too-soon-so : (old new : PassValue) (live : List (List ℕ)) (at : ℕ) (r : Result Feeding Broken) (why : ℕ → ℕ → Type 0) → IfOk r (λ one. (one ≡ feeding.TooSoon) × (since grace : ℕ) × why since grace)
    → ((since grace : ℕ) → why since grace → WaitsFor (runs_in old) (record { at = since; grace = grace }) × (at < since + grace))
    → is_waiting (runs_in old) ≡ true → IsSamePass old new → SeesNext old [] new → TookTurns old [] 1 new → IfOk r (λ one. Fed old live at one new)
too-soon-so old new live at (Ok one) why h early waits same sees took =
    let times = early h.1 h.2 h.3 in
    subst (λ (f : Feeding). Fed old live at f new) (sym h.0)
    (took, early-so (runs_in old) h.1 h.2 at times.0 times.1, still-waits old new same sees waits)
too-soon-so old new live at (Err broken) why h early waits same sees took = tt

-- ---- a stop

pub stop-so : (old new : PassValue) (told : Option Entry) → ((◌≡◌ {A = Result (Option Entry) Spent} (Ok told) (Ok None)) ↔ (0 < old.left × runs_in old ≡ None)) → IfSome told (λ stopped. stopped ≡ entry.Stopped old.slot) → IsSome (runs_in old)
    → IsSamePass old new → SeesNext old (told_if told) new → IsTold old new → new.left + 1 ≡ old.left → 2 ≤ old.left → TookTurns old (entry.Stopped old.slot ∷ []) 0 new
stop-so old new None idle is runs same sees knows left enough = let none = (idle.0 refl).1 in absurd (cc (none, runs))
stop-so old new (Some told) idle is runs same sees knows left enough = took-known old new told (entry.Stopped old.slot) is same sees knows left enough

-- ---- what ran

pub ran-can : (old new : PassValue) (ran : Ran) (first : Option Request) → Called old (Some ran) new → request_running (runs_in old) ≡ first → (request : Request) → first ≡ Some request → IfAnswered ran (CanAnswer request)
ran-can old new (Answered told) first called same request asked = called.1 request (same ∙ asked)
ran-can old new Waits first called same request asked = tt

pub ran-waiting : (old new : PassValue) (ran : Ran) → Called old (Some ran) new → OnWaits ran (is_waiting (runs_in new) ≡ true)
ran-waiting old new (Answered told) called = tt
ran-waiting old new Waits called = called.1
