-- What each call of a pass answers.
use Rattle.std.proofs.Common.{◌≡◌, ◌↔◌, ◌⊎◌, ℕ, ◌+◌, ◌<◌, ◌≤◌, ◌^◌, List, Option, Some, None, Result, Ok, Err, IsSome, IsNone, IfSome, IfOk, refl, sym, ◌∙◌, subst, arith}
use Rattle.std.specs.Prelude.{IfErr}
use Rattle.std.specs.Option.{ok_or}
use Rattle.std.proofs.lemmas.Option.{IfSome_then}
use Rattle.ipam_model.specs.declared.entry.Entry.{Entry}
use Rattle.ipam_model.specs.declared.entry.SlotState.TheVariants as state
use Rattle.ipam_model.specs.declared.request.Request.{Request}
use Rattle.ipam_model.specs.Cluster.{state_of}
use Rattle.ipam_collect.specs.declared.collect.Grace.{Grace}
use Rattle.ipam_cluster.specs.declared.faults.BeginFault.{BeginFault}
use Rattle.ipam_cluster.specs.declared.faults.BeginFault.TheVariants as begin_fault
use Rattle.ipam_cluster.specs.declared.faults.FeedFault.{FeedFault}
use Rattle.ipam_cluster.specs.declared.faults.FeedFault.TheVariants as feed_fault
use Rattle.ipam_cluster.specs.declared.faults.PrepareFault.{PrepareFault}
use Rattle.ipam_cluster.specs.declared.faults.PrepareFault.TheVariants as prepare_fault
use Rattle.ipam_shared.specs.declared.kept.Kept.{Kept}
use Rattle.ipam_shared.specs.Giving.{Gives}
use Rattle.ipam_shared.specs.Kept.{LeavesKeeper, Tells}
use Rattle.ipam_shared.specs.KeptTurning.{IsDone, IsFailed, IsRefused}
use Rattle.ipam_shared.specs.declared.faults.SharedFault.{SharedFault}
use Rattle.ipam_shared.specs.declared.faults.SharedFault.TheVariants.{Inner}
use Rattle.ipam_shared.specs.declared.faults.SpentPass.{SpentPass as Spent}
use Rattle.ipam_shared.specs.Deeds.{told_by, told_if, Begins, Feeds, Calls, Stops}
use Rattle.ipam_shared.specs.PassValue.{PassValue}
use Rattle.ipam_shared.specs.Passes.{runs_in}
use Rattle.ipam_shared.specs.Turning.{UnlessSpent, answer_of, moment_met, told_stopped, HadTurn, WaitsFor, WasDone}
use Rattle.ipam_shared.proofs.Answering.{in-turn, refuses}
use Rattle.ipam_shared.proofs.Slots.{same-none, same-some, same-state, same-times}
use Rattle.ipam_shared.proofs.Turning.{done-as, entries-met, had-left, slot-before}

-- two facts beside another, and three facts
beside : {A B C R : Type 0} → (R ↔ (A × (B × C))) → R ↔ (A × B × C)
beside f = ((λ r. let x = f.0 r in (x.0, x.1.0, x.1.1)), λ x. f.1 (x.0, (x.1, x.2)))

-- ---- the beginning of a request

module _ {D : Type 0} (tells sure : Tells D) (request : Request) (old new : PassValue) (answer : Option (Result Entry BeginFault)) (result : Result Entry (SharedFault BeginFault))
    (is : result ≡ answer_of answer) (spent : IsNone answer ↔ (old.left ≡ 0))
    (turned : IfSome answer (λ given. HadTurn tells sure (λ before after. Begins old.slot before request given after) old (told_by given) new)) where
  pub begin-busy : (result ≡ Err (Inner begin_fault.SlotBusy)) ↔ (0 < old.left × IsSome (runs_in old))
  begin-busy = refuses answer result begin_fault.SlotBusy old.left (λ told. IsSome (runs_in old)) is spent (IfSome_then answer turned (λ given h.
      let some = same-some _ _ (slot-before h) in
      let busy = h.done.deed.busy in
      (had-left h, ((λ e. some.0 (busy.0 e)), λ e. busy.1 (some.1 e)))))

  pub begin-worn : (result ≡ Err (Inner begin_fault.Worn)) ↔ (0 < old.left × runs_in old ≡ None × 2 ^ 62 ≤ moment_met (told_by result) new)
  begin-worn = beside (refuses answer result begin_fault.Worn old.left (λ told. runs_in old ≡ None × 2 ^ 62 ≤ moment_met told new) is spent (IfSome_then answer turned (λ given h.
      let none = same-none _ _ (slot-before h) in
      let met = entries-met h in
      let worn = h.done.deed.worn in (
        had-left h,
        (
          (λ e. let w = worn.0 e in (none.0 w.0, subst (λ n. 2 ^ 62 ≤ n) met w.1)),
          λ w. worn.1 (none.1 w.0, subst (λ n. 2 ^ 62 ≤ n) (sym met) w.1),
        ),
      ))))

  pub begin-keeper : UnlessSpent result (WasDone tells LeavesKeeper (told_by result) new)
  begin-keeper = in-turn answer result (λ told. WasDone tells LeavesKeeper told new) is (IfSome_then answer turned (λ given h. done-as (λ before after d. d.keeper) h.done))

-- ---- the second list

module _ {D : Type 0} (tells sure : Tells D) (live : List (List ℕ)) (at : ℕ) (old new : PassValue) (answer : Option (Result Entry FeedFault)) (result : Result Entry (SharedFault FeedFault))
    (is : result ≡ answer_of answer) (spent : IsNone answer ↔ (old.left ≡ 0))
    (turned : IfSome answer (λ given. HadTurn tells sure (λ before after. Feeds old.slot before live at given after) old (told_by given) new)) where
  pub feed-not_waiting : (result ≡ Err (Inner feed_fault.NotWaiting)) ↔ (0 < old.left × ¬ (state_of (runs_in old) ≡ state.Waiting))
  feed-not_waiting = refuses answer result feed_fault.NotWaiting old.left (λ told. ¬ (state_of (runs_in old) ≡ state.Waiting)) is spent (IfSome_then answer turned (λ given h.
      let same = same-state _ _ (slot-before h) in
      let exact = h.done.deed.not_waiting in
      (had-left h, ((λ e w. exact.0 e (same ∙ w)), λ n. exact.1 (λ w. n (sym same ∙ w))))))

  pub feed-too_soon : (since grace : ℕ) → ((result ≡ Err (Inner (feed_fault.TooSoon since grace)))
      ↔ (0 < old.left × WaitsFor (runs_in old) (record { at = since; grace = grace }) × at < since + grace))
  feed-too_soon since grace = beside (refuses answer result (feed_fault.TooSoon since grace) old.left (λ told. WaitsFor (runs_in old) (record { at = since; grace = grace }) × at < since + grace) is spent (IfSome_then answer turned (λ given h.
      let same = same-state _ _ (slot-before h) in
      let times = same-times _ _ (slot-before h) in
      let exact = h.done.deed.too_soon since grace in (
        had-left h,
        (
          (λ e. let w = exact.0 e in ((sym same ∙ w.0.0, sym times ∙ w.0.1), w.1)),
          λ w. exact.1 ((same ∙ w.0.0, times ∙ w.0.1), w.1),
        ),
      ))))

  pub feed-worn : (result ≡ Err (Inner feed_fault.Worn))
      ↔ (0 < old.left × 2 ^ 62 ≤ moment_met (told_by result) new × (grace : Grace) × WaitsFor (runs_in old) grace × grace.at + grace.grace ≤ at)
  feed-worn =
      let exact = refuses answer result feed_fault.Worn old.left (λ told. 2 ^ 62 ≤ moment_met told new × (grace : Grace) × WaitsFor (runs_in old) grace × grace.at + grace.grace ≤ at) is spent (IfSome_then answer turned (λ given h.
      let same = same-state _ _ (slot-before h) in
      let times = same-times _ _ (slot-before h) in
      let met = entries-met h in
      let worn = h.done.deed.worn in (
        had-left h,
        (
          (λ e. let w = worn.0 e in (subst (λ n. 2 ^ 62 ≤ n) met w.0, w.1, (sym same ∙ w.2.0, sym times ∙ w.2.1), w.3)),
          λ w. worn.1 (subst (λ n. 2 ^ 62 ≤ n) (sym met) w.0, w.1, (same ∙ w.2.0, times ∙ w.2.1), w.3),
        ),
      ))) in
      ((λ e. let w = exact.0 e in (w.0, w.1.0, w.1.1, w.1.2, w.1.3)), λ w. exact.1 (w.0, (w.1, w.2, w.3, w.4)))

  pub feed-keeper : UnlessSpent result (WasDone tells LeavesKeeper (told_by result) new)
  feed-keeper = in-turn answer result (λ told. WasDone tells LeavesKeeper told new) is (IfSome_then answer turned (λ given h. done-as (λ before after d. d.keeper) h.done))

-- ---- a call

module _ {D : Type 0} (tells sure : Tells D) (gives : Gives D) (faults : D → ℕ) (old new : PassValue) (answer : Option (Result Entry PrepareFault)) (result : Result Entry (SharedFault PrepareFault))
    (is : result ≡ answer_of answer) (spent : IsNone answer ↔ (old.left ≡ 0))
    (turned : IfSome answer (λ given. HadTurn tells sure (λ before after. Calls old.slot before gives faults given after) old (told_by given) new)) where
  pub turn-idle : (result ≡ Err (Inner prepare_fault.SlotIdle)) ↔ (0 < old.left × runs_in old ≡ None)
  turn-idle = refuses answer result prepare_fault.SlotIdle old.left (λ told. runs_in old ≡ None) is spent (IfSome_then answer turned (λ given h.
      let none = same-none _ _ (slot-before h) in
      let exact = h.done.deed.idle in
      (had-left h, ((λ e. none.0 (exact.0 e)), λ e. exact.1 (none.1 e)))))

  pub turn-waiting : (result ≡ Err (Inner prepare_fault.Waiting)) ↔ (0 < old.left × state_of (runs_in old) ≡ state.Waiting)
  turn-waiting = refuses answer result prepare_fault.Waiting old.left (λ told. state_of (runs_in old) ≡ state.Waiting) is spent (IfSome_then answer turned (λ given h.
      let same = same-state _ _ (slot-before h) in
      let exact = h.done.deed.waiting in
      (had-left h, ((λ e. sym same ∙ exact.0 e), λ e. exact.1 (same ∙ e)))))

  pub turn-worn : (result ≡ Err (Inner prepare_fault.Worn)) ↔ (0 < old.left × 2 ^ 62 ≤ moment_met (told_by result) new × state_of (runs_in old) ≡ state.Running)
  turn-worn = beside (refuses answer result prepare_fault.Worn old.left (λ told. 2 ^ 62 ≤ moment_met told new × state_of (runs_in old) ≡ state.Running) is spent (IfSome_then answer turned (λ given h.
      let same = same-state _ _ (slot-before h) in
      let met = entries-met h in
      let exact = h.done.deed.worn in (
        had-left h,
        (
          (λ e. let w = exact.0 e in (subst (λ n. 2 ^ 62 ≤ n) met w.0, sym same ∙ w.1)),
          λ w. exact.1 (subst (λ n. 2 ^ 62 ≤ n) (sym met) w.0, same ∙ w.1),
        ),
      ))))

abbrev pub Done : {D : Type 0} → Gives D → (D → ℕ) → (slot : ℕ) → Entry → Kept D → Kept D → Type 0
Done gives faults slot told before after = IsDone faults slot before after told ⊎ IsFailed gives faults slot before after told

-- a call was made, and did what an answered one does
turned-by : {D : Type 0} (tells sure : Tells D) (gives : Gives D) (faults : D → ℕ) (old new : PassValue) (answer : Option (Result Entry PrepareFault))
    → IfSome answer (λ given. HadTurn tells sure (λ before after. Calls old.slot before gives faults given after) old (told_by given) new)
    → IfOk (answer_of answer) (λ told. WasDone tells (Done gives faults old.slot told) (told_by (answer_of answer)) new)
turned-by tells sure gives faults old new None h = tt
turned-by tells sure gives faults old new (Some (Ok told)) h = done-as (λ before after d. d.turned) h.done
turned-by tells sure gives faults old new (Some (Err fault)) h = tt

refused-by : {D : Type 0} (tells sure : Tells D) (gives : Gives D) (faults : D → ℕ) (old new : PassValue) (answer : Option (Result Entry PrepareFault))
    → IfSome answer (λ given. HadTurn tells sure (λ before after. Calls old.slot before gives faults given after) old (told_by given) new)
    → IfErr (answer_of answer) (λ fault. UnlessSpent (answer_of answer) (WasDone tells (IsRefused faults) (told_by (answer_of answer)) new))
refused-by tells sure gives faults old new None h = tt
refused-by tells sure gives faults old new (Some (Ok told)) h = tt
refused-by tells sure gives faults old new (Some (Err fault)) h = done-as (λ before after d. d.refused) h.done

module _ {D : Type 0} (tells sure : Tells D) (gives : Gives D) (faults : D → ℕ) (old new : PassValue) (answer : Option (Result Entry PrepareFault)) (result : Result Entry (SharedFault PrepareFault))
    (is : result ≡ answer_of answer)
    (turned : IfSome answer (λ given. HadTurn tells sure (λ before after. Calls old.slot before gives faults given after) old (told_by given) new)) where
  pub turn-turned : IfOk result (λ told. WasDone tells (Done gives faults old.slot told) (told_by result) new)
  turn-turned = subst (λ r. IfOk r (λ told. WasDone tells (Done gives faults old.slot told) (told_by r) new)) (sym is) (turned-by tells sure gives faults old new answer turned)

  pub turn-refused : IfErr result (λ fault. UnlessSpent result (WasDone tells (IsRefused faults) (told_by result) new))
  turn-refused = subst (λ r. IfErr r (λ fault. UnlessSpent r (WasDone tells (IsRefused faults) (told_by r) new))) (sym is) (refused-by tells sure gives faults old new answer turned)

-- ---- a stop

module _ {D : Type 0} (tells sure : Tells D) (old new : PassValue) (spare : Spent) where
  stopped-idle : (answer : Option (Option Entry)) → (IsNone answer ↔ (old.left ≡ 0))
      → IfSome answer (λ given. HadTurn tells sure (λ before after. Stops old.slot before given after) old (told_if given) new)
      → (ok_or answer spare ≡ Ok None) ↔ (0 < old.left × runs_in old ≡ None)
  stopped-idle None spent h = ((λ e. cc), λ x. let none = spent.0 refl in let some = x.0 in absurd (omega arith))
  stopped-idle (Some given) spent h =
      let none = same-none _ _ (slot-before h) in
      let exact = h.done.deed.idle in
      ((λ e. (had-left h, none.0 (exact.0 cc))), λ x. let e = exact.1 (none.1 x.1) in cc)

  stopped-keeper : (answer : Option (Option Entry))
      → IfSome answer (λ given. HadTurn tells sure (λ before after. Stops old.slot before given after) old (told_if given) new)
      → IfOk (ok_or answer spare) (λ told. WasDone tells LeavesKeeper (told_stopped (ok_or answer spare)) new)
  stopped-keeper None h = tt
  stopped-keeper (Some given) h = done-as (λ before after d. d.keeper) h.done

module _ {D : Type 0} (tells sure : Tells D) (old new : PassValue) (spare : Spent) (answer : Option (Option Entry)) (result : Result (Option Entry) Spent) (is : result ≡ ok_or answer spare)
    (turned : IfSome answer (λ given. HadTurn tells sure (λ before after. Stops old.slot before given after) old (told_if given) new)) where
  pub stop-idle : (IsNone answer ↔ (old.left ≡ 0)) → (result ≡ Ok None) ↔ (0 < old.left × runs_in old ≡ None)
  stop-idle spent = subst (λ r. (r ≡ Ok None) ↔ (0 < old.left × runs_in old ≡ None)) (sym is) (stopped-idle tells sure old new spare answer spent turned)

  pub stop-keeper : IfOk result (λ told. WasDone tells LeavesKeeper (told_stopped result) new)
  stop-keeper = subst (λ r. IfOk r (λ told. WasDone tells LeavesKeeper (told_stopped r) new)) (sym is) (stopped-keeper tells sure old new spare answer turned)
