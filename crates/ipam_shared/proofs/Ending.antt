-- What a request by itself has made of a kept cluster once it has ended.
use Rattle.std.proofs.Common.{◌≡◌, ◌≢◌, ℕ, ◌⊎◌, Result, Ok, Err, OnErr, zero, suc, inl, inr, List, [], ◌∷◌, ◌++◌, Option, Some, None, refl, sym, ap, ◌∙◌, subst, append_assoc, arith}
use Rattle.std.specs.Prelude.{IfSome, IsNone}
use Rattle.ipam_io.specs.Counts.{Rose}
use Rattle.ipam_records.specs.declared.call.Row.{Row as RowText}
use Rattle.ipam_model.specs.declared.answer.Answer.{Answer}
use Rattle.ipam_model.specs.declared.answer.Answer.TheVariants.{Fault}
use Rattle.ipam_model.specs.declared.entry.Called.{Called}
use Rattle.ipam_model.specs.declared.entry.Entry.{Entry}
use Rattle.ipam_model.specs.declared.entry.Entry.TheVariants as entry
use Rattle.ipam_model.specs.declared.entry.Fate.TheVariants.{Before}
use Rattle.ipam_model.specs.declared.request.Request.{Request}
use Rattle.ipam_model.specs.Alone.{IsAlone, alone_over}
use Rattle.ipam_model.specs.Answered.{Answered}
use Rattle.ipam_model.specs.CanAnswer.{CanAnswer}
use Rattle.ipam_model.specs.Cluster as model
use Rattle.ipam_model.specs.History.{Base, Lawful, cluster_at, store_at}
use Rattle.ipam_model.specs.Moments.{request_in}
use Rattle.ipam_model.specs.Stands.{IsIdle, base_at}
use Rattle.ipam_laws.proofs.AloneHistory.{alone_histories}
use Rattle.ipam_laws.proofs.Fates.{alone_faults}
use Rattle.ipam_laws.proofs.OwnAnswers.{own_answers}
use Rattle.ipam_laws.proofs.StandsFor.{begins_anew, entries-are}
use Rattle.ipam_cluster.specs.declared.running.Running.{Running}
use Rattle.ipam_cluster.specs.Cluster.{IsSlot, StandsFor, slot_of_cluster}
use Rattle.ipam_shared.specs.declared.kept.Kept.{Kept}
use Rattle.ipam_shared.specs.declared.write.RowWrite.{RowWrite}
use Rattle.ipam_shared.specs.Kept.{IsKept, KeepsWith, KeptFor, LeavesKeeper, Stays, Tells}
use Rattle.ipam_shared.specs.Rows.{AreTextsOf, AreToldKept}
use Rattle.ipam_shared.specs.Solo.{IsAnswered, IsFaulted, IsStopped, KeepsWithAll, NoMoreDoubt, NothingRuns, base_of}
use Rattle.ipam_shared.specs.Steps.{Answers, Ends, Faults, GoesOn, IsCallOrFeed, IsNoStep, IsStep, Runs, SoFar}
use Rattle.ipam_shared.proofs.SoloStanding.{There}
use Rattle.ipam_shared.proofs.Histories.{answer-leaves, begun-leaves, begun-runs, called-leaves, joined, others-stay, steps-alone, still-runs}

-- what is so is so of an error
pub on-err : {T E : Type 0} {P : Type 0} (r : Result T E) → P → OnErr r P
on-err (Ok value) p = tt
on-err (Err error) p = p

-- ---- nothing runs

none-there : (o : Option Running) (one : Option model.RunningRequest) → IsSlot o one → o ≡ None → one ≡ None
none-there None None is e = refl
none-there None (Some one) is e = absurd is
none-there (Some running) one is e = absurd (cc e)

none-here : (o : Option Running) (one : Option model.RunningRequest) → IsSlot o one → one ≡ None → o ≡ None
none-here None one is e = refl
none-here (Some running) None is e = absurd is
none-here (Some running) (Some one) is e = absurd (cc e)

module _ {D : Type 0} (tells : Tells D) where
  -- the slots of the history are idle
  idle-there : (kept : Kept D) (base : Base) (history : List Entry) → KeptFor tells kept base history → NothingRuns kept → (slot : ℕ) → (cluster_at base history).slots slot ≡ None
  idle-there kept base history is nothing slot =
      none-there (slot_of_cluster kept.cluster slot) ((cluster_at base history).slots slot) (is.cluster.is_cluster.slots slot) (nothing slot)

  idle-here : (kept : Kept D) (base : Base) (history : List Entry) → KeptFor tells kept base history → (slot : ℕ) → (cluster_at base history).slots slot ≡ None → slot_of_cluster kept.cluster slot ≡ None
  idle-here kept base history is slot none =
      none-here (slot_of_cluster kept.cluster slot) ((cluster_at base history).slots slot) (is.cluster.is_cluster.slots slot) none

  -- ---- what is kept for what

  pub with-begun : (old new : Kept D) (request : Request) → IsKept tells old → KeepsWith tells old new (entry.Began 0 request) → Runs tells request new
  with-begun old new request (base, (history, kept)) keeps = record {
    base = base;
    history = entry.Began 0 request ∷ history;
    kept_for = keeps base history kept;
    runs = begun-runs base history request;
  }

  -- after a beginning and steps
  so-far-keeps : (faults : D → ℕ) (request : Request) (old begun now : Kept D) → KeepsWith tells old begun (entry.Began 0 request) → (far : SoFar tells faults request begun now) → KeepsWithAll tells old now (far.steps ++ (entry.Began 0 request ∷ []))
  so-far-keeps faults request old begun now begins far = λ base history kept.
      subst (λ (h : List Entry). KeptFor tells now base h) (sym (joined request far.steps history))
      (far.keeps base (entry.Began 0 request ∷ history) (begins base history kept))

  pub runs-now : (faults : D → ℕ) (request : Request) (old now : Kept D) → Runs tells request old → SoFar tells faults request old now → Runs tells request now
  runs-now faults request old now runs far = record {
    base = runs.base;
    history = far.steps ++ runs.history;
    kept_for = far.keeps runs.base runs.history runs.kept_for;
    runs = still-runs runs.base runs.history request far.steps far.goes_on runs.runs;
  }

  -- ---- an answer

  -- another slot is idle after it
  other-idle : (faults : D → ℕ) (request : Request) (old begun before new : Kept D) (c : Called) → IsKept tells old → NothingRuns old → KeepsWith tells old begun (entry.Began 0 request) → SoFar tells faults request begun before → KeepsWith tells before new (entry.Called c) → c.slot ≡ 0 → (slot : ℕ) → slot ≢ 0 → slot_of_cluster new.cluster slot ≡ None
  other-idle faults request old begun before new c (base, (history, kept)) nothing begins far keeps own slot differ =
      let started = entry.Began 0 request ∷ history in
      let all = keeps base (far.steps ++ started) (far.keeps base started (begins base history kept)) in
      idle-here new base (entry.Called c ∷ (far.steps ++ started)) all slot
      (called-leaves base (far.steps ++ started) c slot own differ
      ∙ others-stay base started request far.steps slot far.goes_on differ
      ∙ begun-leaves base history request slot differ
      ∙ idle-there old base history kept nothing slot)

  own-idle : (faults : D → ℕ) (request : Request) (old begun before new : Kept D) (c : Called) (told : Answer) → IsKept tells old → KeepsWith tells old begun (entry.Began 0 request) → SoFar tells faults request begun before → KeepsWith tells before new (entry.Called c) → c.slot ≡ 0 → c.answer ≡ Some told → slot_of_cluster new.cluster 0 ≡ None
  own-idle faults request old begun before new c told (base, (history, kept)) begins far keeps own is =
      let started = entry.Began 0 request ∷ history in
      let all = keeps base (far.steps ++ started) (far.keeps base started (begins base history kept)) in
      idle-here new base (entry.Called c ∷ (far.steps ++ started)) all 0
      (answer-leaves base (far.steps ++ started) c told own is)

  -- where slot 0 and the others are idle, nothing runs
  pub all-idle : (kept : Kept D) → slot_of_cluster kept.cluster 0 ≡ None → ((slot : ℕ) → slot ≢ 0 → slot_of_cluster kept.cluster slot ≡ None) → NothingRuns kept
  all-idle kept own other = by
    where
      by : NothingRuns kept
      by zero = own
      by (suc n) = other (suc n) (λ e. absurd (omega (arith, e)))

  -- the answer is one that the request can have
  can-answer : (faults : D → ℕ) (request : Request) (old begun before new : Kept D) (c : Called) (told : Answer) → IsKept tells old → KeepsWith tells old begun (entry.Began 0 request) → SoFar tells faults request begun before → KeepsWith tells before new (entry.Called c) → c.slot ≡ 0 → c.answer ≡ Some told → CanAnswer request told
  can-answer faults request old begun before new c told (base, (history, kept)) begins far keeps own is =
      let started = entry.Began 0 request ∷ history in
      let all = keeps base (far.steps ++ started) (far.keeps base started (begins base history kept)) in
      let runs = still-runs base started request far.steps far.goes_on (begun-runs base history request) in
      let a : Answered = record { base = base; earlier = far.steps ++ started; call = c; request = request } in
      own_answers a told all.cluster.stands.lawful
      (subst (λ (s : ℕ). request_in (cluster_at base (far.steps ++ started)) s ≡ Some request) (sym own) runs) is

  -- the datastore and the number of entries are those of the history
  base-is : (kept : Kept D) (base : Base) (history : List Entry) → KeptFor tells kept base history → base_at base history ≡ base_of kept
  base-is kept base history is =
      let store = is.cluster.is_cluster.store in
      let entries = is.cluster.is_cluster.entries ∙ entries-are base history in
      cc (store, entries)

  -- what a request by itself comes to
  comes-alone : (request : Request) (old new : Kept D) (last : Called) (earlier : List Entry) (told : Answer) → IsKept tells old → NothingRuns old → KeepsWithAll tells old new (entry.Called last ∷ earlier) → IsAlone request (entry.Called last ∷ earlier) → last.answer ≡ Some told
      → (told ≡ (alone_over (base_of old) request).0) × (new.cluster.store.store ≡ (alone_over (base_of old) request).1)
  comes-alone request old new last earlier told (base, (history, kept)) nothing keeps alone is =
      let all = keeps base history kept in
      let anew = begins_anew base history (entry.Called last ∷ earlier) kept.cluster.stands.lawful (λ slot small. idle-there old base history kept nothing slot) in
      let comes = alone_histories (base_at base history) request earlier last told (anew.same_lawful.0 all.cluster.stands.lawful) alone is in
      let same = base-is old base history kept in (
        comes.0 ∙ ap (λ (b : Base). (alone_over b request).0) same,
        all.cluster.is_cluster.store ∙ ap (λ (one : model.ClusterState). one.store) anew.same_cluster ∙ comes.1
            ∙ ap (λ (b : Base). (alone_over b request).1) same,
      )

  -- rows that are kept with nothing in doubt are the datastore's
  sure-rows : (kept : Kept D) (base : Base) (history : List Entry) → KeptFor tells kept base history → kept.doubt ≡ None → IfSome (tells kept.keeper) (λ rows. AreTextsOf rows kept.cluster.store.store)
  sure-rows kept base history is sure =
      subst (λ (d : Option RowWrite). AreToldKept (tells kept.keeper) kept.cluster.store.store d) sure is.rows

  answers-alone : (faults : D → ℕ) (request : Request) (old begun new : Kept D) (told : Answer) → IsKept tells old → NothingRuns old → KeepsWith tells old begun (entry.Began 0 request) → LeavesKeeper old begun → Answers tells faults request begun new told → IsAnswered tells faults request old new told
  answers-alone faults request old begun new told (base, (history, kept)) nothing begins leaves ends =
      let far = ends.so_far in
      let last = ends.last in
      let earlier = far.steps ++ (entry.Began 0 request ∷ []) in
      let before = so-far-keeps faults request old begun ends.before begins far in
      let keeps : KeepsWithAll tells old new (entry.Called last.call ∷ earlier) = λ b h k. last.keeps b (earlier ++ h) (before b h k) in
      let alone : IsAlone request (entry.Called last.call ∷ earlier) = (last.own, last.well, steps-alone request far.steps far.goes_on) in
      let comes = comes-alone request old new last.call earlier told (base, (history, kept)) nothing keeps alone last.answer in
      record {
        no_fault = last.no_fault ∙ far.no_fault ∙ ap faults leaves.keeper;
        not_fault = λ is. alone_faults (base_of old) request (sym comes.0 ∙ is);
        answer = comes.0;
        store = comes.1;
        rows = sure-rows new base (entry.Called last.call ∷ (earlier ++ history)) (keeps base history kept) last.sure;
        sure = last.sure;
        last = last.call;
        earlier = earlier;
        ends = last.answer;
        alone = alone;
        keeps = keeps;
      }

  faults-alone : (faults : D → ℕ) (request : Request) (old begun new : Kept D) (told : Answer) → KeepsWith tells old begun (entry.Began 0 request) → LeavesKeeper old begun → Faults tells faults request begun new told → IsFaulted tells faults request old new told
  faults-alone faults request old begun new told begins leaves ends =
      let far = ends.so_far in
      let last = ends.last in
      let earlier = far.steps ++ (entry.Began 0 request ∷ []) in
      let before = so-far-keeps faults request old begun ends.before begins far in
      let is : told ≡ Fault = cc (last.is_fault) in
      record {
        fault = subst (λ (n : ℕ). Rose n (faults new.keeper)) (far.no_fault ∙ ap faults leaves.keeper) last.fault;
        is_fault = is;
        last = last.call;
        earlier = earlier;
        failed = last.failed;
        own = last.own;
        ends = last.answer ∙ ap Some is;
        alone = steps-alone request far.steps far.goes_on;
        keeps = λ b h k. last.keeps b (earlier ++ h) (before b h k);
      }

  -- ---- all of an answer

  pub ended : (faults : D → ℕ) (request : Request) (old begun new : Kept D) (told : Answer) → IsKept tells old → NothingRuns old → KeepsWith tells old begun (entry.Began 0 request) → LeavesKeeper old begun → Ends tells faults request begun new told
      → IsAnswered tells faults request old new told ⊎ IsFaulted tells faults request old new told
  ended faults request old begun new told kept nothing begins leaves (inl answers) =
      inl (answers-alone faults request old begun new told kept nothing begins leaves answers)
  ended faults request old begun new told kept nothing begins leaves (inr failed) =
      inr (faults-alone faults request old begun new told begins leaves failed)

  pub ended-can : (faults : D → ℕ) (request : Request) (old begun new : Kept D) (told : Answer) → IsKept tells old → KeepsWith tells old begun (entry.Began 0 request) → Ends tells faults request begun new told → CanAnswer request told
  ended-can faults request old begun new told kept begins (inl e) =
      can-answer faults request old begun e.before new e.last.call told kept begins e.so_far e.last.keeps e.last.own e.last.answer
  ended-can faults request old begun new told kept begins (inr e) =
      can-answer faults request old begun e.before new e.last.call told kept begins e.so_far e.last.keeps e.last.own e.last.answer

  pub ended-idle : (faults : D → ℕ) (request : Request) (old begun new : Kept D) (told : Answer) → IsKept tells old → NothingRuns old → KeepsWith tells old begun (entry.Began 0 request) → Ends tells faults request begun new told → NothingRuns new
  ended-idle faults request old begun new told kept nothing begins (inl e) =
      all-idle new (own-idle faults request old begun e.before new e.last.call told kept begins e.so_far e.last.keeps e.last.own e.last.answer)
      (other-idle faults request old begun e.before new e.last.call kept nothing begins e.so_far e.last.keeps e.last.own)
  ended-idle faults request old begun new told kept nothing begins (inr e) =
      all-idle new (own-idle faults request old begun e.before new e.last.call told kept begins e.so_far e.last.keeps e.last.own e.last.answer)
      (other-idle faults request old begun e.before new e.last.call kept nothing begins e.so_far e.last.keeps e.last.own)

  pub kept-all : (old new : Kept D) (added : List Entry) → IsKept tells old → KeepsWithAll tells old new added → IsKept tells new
  kept-all old new added (base, (history, kept)) keeps = (base, (added ++ history, keeps base history kept))

  pub ended-kept : (faults : D → ℕ) (request : Request) (old new : Kept D) (told : Answer) → IsKept tells old → IsAnswered tells faults request old new told ⊎ IsFaulted tells faults request old new told → IsKept tells new
  ended-kept faults request old new told kept (inl e) = kept-all old new (entry.Called e.last ∷ e.earlier) kept e.keeps
  ended-kept faults request old new told kept (inr e) = kept-all old new (entry.Called e.last ∷ e.earlier) kept e.keeps

  -- ---- want of memory

  pub not-begun : (faults : D → ℕ) (request : Request) (old new : Kept D) → Stays tells old new → LeavesKeeper old new → IsStopped tells faults request old new
  not-begun faults request old new stays leaves = record {
    no_fault = ap faults leaves.keeper;
    doubt = inl leaves.doubt;
    entries = [];
    stopped = tt;
    keeps = stays.kept;
  }

  pub stays-idle : (old new : Kept D) → NothingRuns old → Stays tells old new → NothingRuns new
  stays-idle old new nothing stays = λ slot. stays.cluster.slots slot ∙ nothing slot

  pub stays-kept : (old new : Kept D) → IsKept tells old → Stays tells old new → IsKept tells new
  stays-kept old new (base, (history, kept)) stays = (base, (history, stays.kept base history kept))

  doubt-on : (one two three : Kept D) → NoMoreDoubt one two → NoMoreDoubt two three → NoMoreDoubt one three
  doubt-on one two three first (inr none) = inr none
  doubt-on one two three (inl same) (inl again) = inl (again ∙ same)
  doubt-on one two three (inr none) (inl again) = inr (again ∙ none)

  -- what runs is stopped
  pub stop-keeps : (request : Request) (now new : Kept D) (told : Option Entry) → There request now → (IsNone told → slot_of_cluster now.cluster 0 ≡ None) → IfSome told (λ (e : Entry). e ≡ entry.Stopped 0) → IfSome told (KeepsWith tells now new) → KeepsWith tells now new (entry.Stopped 0)
  stop-keeps request now new None at none is keeps = let no = none refl in absurd (cc (no, at.is))
  stop-keeps request now new (Some e) at none is keeps = subst (λ (x : Entry). KeepsWith tells now new x) is keeps

  pub stopped : (faults : D → ℕ) (request : Request) (old begun now new : Kept D) → KeepsWith tells old begun (entry.Began 0 request) → LeavesKeeper old begun → SoFar tells faults request begun now → KeepsWith tells now new (entry.Stopped 0) → LeavesKeeper now new → IsStopped tells faults request old new
  stopped faults request old begun now new begins leaves far stops left =
      let earlier = far.steps ++ (entry.Began 0 request ∷ []) in
      let before = so-far-keeps faults request old begun now begins far in
      record {
        no_fault = ap faults left.keeper ∙ far.no_fault ∙ ap faults leaves.keeper;
        doubt = doubt-on old now new (doubt-on old begun now (inl leaves.doubt) far.doubt) (inl left.doubt);
        entries = entry.Stopped 0 ∷ earlier;
        stopped = (refl, steps-alone request far.steps far.goes_on);
        keeps = λ b h k. stops b (earlier ++ h) (before b h k);
      }

  pub stopped-idle : (faults : D → ℕ) (request : Request) (old begun now new : Kept D) → IsKept tells old → NothingRuns old → KeepsWith tells old begun (entry.Began 0 request) → SoFar tells faults request begun now → slot_of_cluster new.cluster 0 ≡ None → ((slot : ℕ) → ¬ (slot ≡ 0) → slot_of_cluster new.cluster slot ≡ slot_of_cluster now.cluster slot) → NothingRuns new
  stopped-idle faults request old begun now new (base, (history, kept)) nothing begins far own others =
      let started = entry.Began 0 request ∷ history in
      let all = far.keeps base started (begins base history kept) in
      all-idle new own (λ slot differ. others slot differ
      ∙ idle-here now base (far.steps ++ started) all slot
      (others-stay base started request far.steps slot far.goes_on differ ∙ begun-leaves base history request slot differ ∙ idle-there old base history kept nothing slot))

  -- ---- one step after another

  pub no-steps : (faults : D → ℕ) (request : Request) (kept : Kept D) → SoFar tells faults request kept kept
  no-steps faults request kept = record {
    steps = [];
    goes_on = tt;
    keeps = λ base history is. is;
    no_fault = refl;
    doubt = inl refl;
  }

  pub far-stays : (faults : D → ℕ) (request : Request) (old now new : Kept D) → SoFar tells faults request old now → Stays tells now new → IsNoStep faults now new → SoFar tells faults request old new
  far-stays faults request old now new far stays none = record {
    steps = far.steps;
    goes_on = far.goes_on;
    keeps = λ base history is. stays.kept base (far.steps ++ history) (far.keeps base history is);
    no_fault = none.no_fault ∙ far.no_fault;
    doubt = doubt-on old now new far.doubt none.doubt;
  }

  far-steps : (faults : D → ℕ) (request : Request) (old now new : Kept D) → SoFar tells faults request old now → IsCallOrFeed tells faults request now new None → SoFar tells faults request old new
  far-steps faults request old now new far (inl (inl done)) = record {
    steps = entry.Called done.call ∷ far.steps;
    goes_on = (done.own, done.well, done.answer, far.goes_on);
    keeps = λ base history is. done.keeps base (far.steps ++ history) (far.keeps base history is);
    no_fault = done.no_fault ∙ far.no_fault;
    doubt = inr done.sure;
  }
  far-steps faults request old now new far (inl (inr failed)) = absurd (cc (failed.is_fault))
  far-steps faults request old now new far (inr (fed, none)) = record {
    steps = entry.Fed 0 fed.at fed.live ∷ far.steps;
    goes_on = (refl, fed.first, far.goes_on);
    keeps = λ base history is. fed.keeps base (far.steps ++ history) (far.keeps base history is);
    no_fault = ap faults fed.keeper.keeper ∙ far.no_fault;
    doubt = doubt-on old now new far.doubt (inl fed.keeper.doubt);
  }

  -- no answer is none
  pub none-of : (o : Option Answer) → ((told : Answer) → o ≡ Some told → ⊥) → o ≡ None
  none-of None not = refl
  none-of (Some told) not = absurd (not told refl)

  pub far-on : (faults : D → ℕ) (request : Request) (old now new : Kept D) → SoFar tells faults request old now → IsStep tells faults request now new None → SoFar tells faults request old new
  far-on faults request old now new far step = far-steps faults request old now new far step.step

  ends-so : (faults : D → ℕ) (request : Request) (old now new : Kept D) (told : Answer) → SoFar tells faults request old now → IsCallOrFeed tells faults request now new (Some told) → Ends tells faults request old new told
  ends-so faults request old now new told far (inl (inl done)) = inl (record { before = now; so_far = far; last = done })
  ends-so faults request old now new told far (inl (inr failed)) = inr (record { before = now; so_far = far; last = failed })
  ends-so faults request old now new told far (inr (fed, none)) = absurd (cc none)

  pub far-ends : (faults : D → ℕ) (request : Request) (old now new : Kept D) (told : Answer) → SoFar tells faults request old now → IsStep tells faults request now new (Some told) → Ends tells faults request old new told
  far-ends faults request old now new told far step = ends-so faults request old now new told far step.step
