-- A call is added to each history, by its fate.
use Rattle.std.proofs.Common.{◌≡◌, ℕ, ◌+◌, ◌^◌, ◌<◌, List, length, set, Option, Some, None, IsSome, refl, sym, ap, ◌∙◌, subst, get_or-set_other}
use Rattle.std.specs.Prelude.{IsNone}
use Rattle.ipam_records.specs.declared.call.Call.{Call}
use Rattle.ipam_records.specs.declared.call.Call.TheVariants as call_of
use Rattle.ipam_records.specs.Datastore.{Datastore, reply_of, write_granted}
use Rattle.ipam_records.specs.Said.{Said, Found, Missing, Listed, Can, Exists, Conflict, Full, Spent}
use Rattle.ipam_records.specs.Word.{Word, Ends, Asks, Waits, next_call, after_reply, answer_in}
use Rattle.ipam_model.specs.declared.answer.Answer.{Answer}
use Rattle.ipam_model.specs.declared.answer.Answer.TheVariants.{Fault}
use Rattle.ipam_model.specs.declared.entry.Called.{Called}
use Rattle.ipam_model.specs.declared.entry.Entry.TheVariants as entry
use Rattle.ipam_model.specs.declared.entry.Fate.{Fate}
use Rattle.ipam_model.specs.declared.entry.Fate.TheVariants.{Well, Before, After}
use Rattle.ipam_model.specs.declared.entry.Told.TheVariants as told
use Rattle.ipam_model.specs.Cluster as model
use Rattle.ipam_model.specs.Cluster.{after, word_after_reply, call_entry, call_made, goes_on, record_written, store_after, store_with, write_told}
use Rattle.ipam_model.specs.History.{MayCall}
use Rattle.ipam_model.specs.Named.{name_of, told_of}
use Rattle.ipam_cluster.specs.declared.running.Running.{Running}
use Rattle.ipam_cluster.specs.declared.running.RunningTurned.{RunningTurned}
use Rattle.ipam_cluster.specs.Running.{running_rest, running_leaves, running_grace}
use Rattle.ipam_cluster.specs.declared.cluster.Cluster.{Cluster}
use Rattle.ipam_cluster.specs.declared.turns.Prepared.{Prepared}
use Rattle.ipam_cluster.specs.Cluster.{slot_of_cluster, IsSlot, IsCluster, AddsTo}
use Rattle.ipam_cluster.specs.Preparing.{IsPrepared, write_asked, write_next}
use Rattle.ipam_cluster.specs.Slots.{slot_in, RunsOn}
use Rattle.ipam_cluster.proofs.Adding.{adds, moved, runs_there, RunsThere}

-- ---- what the entry tells is what was granted

pub write_is : (call : Call) (said : Said) → write_told (name_of call) (told_of said) (record_written call said) ≡ write_granted call said
write_is (call_of.Get key) (Can revision) = refl
write_is (call_of.List kind) (Can revision) = refl
write_is (call_of.Create new) (Can revision) = refl
write_is (call_of.Update new seen) (Can revision) = refl
write_is (call_of.Delete key seen) (Can revision) = refl
write_is call (Found revision found) = refl
write_is call Missing = refl
write_is call (Listed rows) = refl
write_is call (Exists revision) = refl
write_is call (Conflict revision) = refl
write_is call Full = refl
write_is call Spent = refl

-- the entry of the call that a word asks for
entry_is : (slot : ℕ) (fate : Fate) (store : Datastore) (moment : ℕ) (word : Word Answer) (call : Call) → next_call word ≡ Some call
    → call_entry slot fate store moment word ≡ Some (call_made slot fate call (reply_of store call) (answer_in (after_reply word moment (reply_of store call))))
entry_is slot fate store moment (Ends answer) call e = absurd (cc e)
entry_is slot fate store moment (Asks label own next) call e =
    let same : own ≡ call = cc e in
    ap (λ c. Some (call_made slot fate c (reply_of store c) (answer_in (next moment (reply_of store c))))) same
entry_is slot fate store moment (Waits next) call e = absurd (cc e)

answered_is : (store : Datastore) (moment : ℕ) (word : Word Answer) (call : Call) → next_call word ≡ Some call
    → word_after_reply store moment word ≡ after_reply word moment (reply_of store call)
answered_is store moment (Ends answer) call e = refl
answered_is store moment (Asks label own next) call e = let same : own ≡ call = cc e in ap (λ c. next moment (reply_of store c)) same
answered_is store moment (Waits next) call e = refl

-- ---- it may come

-- the call of the word, with its answer at the cluster's own reply and moment
abbrev pub told_call : Cluster → (slot : ℕ) → Fate → Running → Call → Called
told_call cluster slot fate running call =
    call_made slot fate call (reply_of cluster.store.store call) (answer_in (after_reply (running_rest running) cluster.entries (reply_of cluster.store.store call)))

may_at : (one : model.ClusterState) (slot : ℕ) (fate : Fate) (it : model.RunningRequest) (c : Called) → slot < 64 → one.entries < 2 ^ 62
    → one.slots slot ≡ Some it → slot ≡ c.slot → fate ≡ c.fate → call_entry slot fate one.store one.entries it.word ≡ Some c
    → MayCall one c
may_at one slot fate it c there few runs same_slot same_fate is = record {
  turn = record { slot_exists = subst (λ (s : ℕ). s < 64) same_slot there; not_worn = few };
  running = it;
  runs = subst (λ (s : ℕ). one.slots s ≡ Some it) same_slot runs;
  is_called = subst (λ (f : Fate). call_entry c.slot f one.store one.entries it.word ≡ Some c) same_fate
      (subst (λ (s : ℕ). call_entry s fate one.store one.entries it.word ≡ Some c) same_slot is);
}

own_slot : (slot : ℕ) (fate : Fate) (call : Call) (said : Said) (answer : Option Answer) → slot ≡ (call_made slot fate call said answer).slot
own_slot slot Well call said answer = refl
own_slot slot Before call said answer = refl
own_slot slot After call said answer = refl

own_fate : (slot : ℕ) (fate : Fate) (call : Call) (said : Said) (answer : Option Answer) → fate ≡ (call_made slot fate call said answer).fate
own_fate slot Well call said answer = refl
own_fate slot Before call said answer = refl
own_fate slot After call said answer = refl

pub may_call : (old : Cluster) (one : model.ClusterState) (slot : ℕ) (fate : Fate) (running : Running) (call : Call)
    → IsCluster old one → slot < 64 → old.entries < 2 ^ 62 → slot_of_cluster old slot ≡ Some running → next_call (running_rest running) ≡ Some call
    → MayCall one (told_call old slot fate running call)
may_call old one slot fate running call is there few held asks =
    let found = runs_there (slot_of_cluster old slot) (one.slots slot) running (is.slots slot) held in
    let entry : Datastore → ℕ → Word Answer → Option Called =
    λ store moment word. Some (call_made slot fate call (reply_of store call) (answer_in (after_reply word moment (reply_of store call)))) in
    let same : entry one.store one.entries found.it.word ≡ entry old.store.store old.entries (running_rest running) =
    ap (λ s. entry s one.entries found.it.word) (sym is.store)
    ∙ ap (λ m. entry old.store.store m found.it.word) (sym is.entries)
    ∙ ap (λ w. entry old.store.store old.entries w) (sym found.runs.word) in
    let said = reply_of old.store.store call in
    let answer = answer_in (after_reply (running_rest running) old.entries said) in
    may_at one slot fate found.it (told_call old slot fate running call) there (subst (λ n. n < 2 ^ 62) is.entries few) found.is
    (own_slot slot fate call said answer) (own_fate slot fate call said answer)
    (entry_is slot fate one.store one.entries found.it.word call (sym (ap next_call found.runs.word) ∙ asks) ∙ same)

-- ---- what it makes of the cluster

moved_by : (old new : Cluster) (one : model.ClusterState) (c : Called) (code : Option Running) → IsCluster old one → c.slot < length old.slots.items
    → new.store.store ≡ store_after c old.store.store → new.entries ≡ old.entries + 1 → new.slots.items ≡ set old.slots.items c.slot code
    → IsSlot code (goes_on one.store one.entries c.answer (one.slots c.slot)) → IsCluster new (after one (entry.Called c))
unfolding after
moved_by old new one c code is within store entries slots this =
    moved old new one c.slot code (goes_on one.store one.entries c.answer (one.slots c.slot)) (store_after c one.store) is within
    (store ∙ ap (store_after c) is.store) entries slots this

-- what runs on has what is left after the answer
on_there : (old : Cluster) (one : model.ClusterState) (slot : ℕ) (was after : Running) (call : Call) → IsCluster old one
    → RunsThere was (one.slots slot) → next_call (running_rest was) ≡ Some call
    → running_rest after ≡ after_reply (running_rest was) old.entries (reply_of old.store.store call) → running_grace after ≡ running_grace was
    → IsSlot (Some after) (goes_on one.store one.entries None (one.slots slot))
on_there old one slot was after call is found asks word grace =
    subst (λ (o : Option model.RunningRequest). IsSlot (Some after) (goes_on one.store one.entries None o)) (sym found.is) (record {
      word = word
          ∙ ap (λ s. after_reply (running_rest was) old.entries (reply_of s call)) is.store
          ∙ ap (λ m. after_reply (running_rest was) m (reply_of one.store call)) is.entries
          ∙ ap (λ w. after_reply w one.entries (reply_of one.store call)) found.runs.word
          ∙ sym (answered_is one.store one.entries found.it.word call (sym (ap next_call found.runs.word) ∙ asks));
      grace = grace ∙ found.runs.grace;
    })

-- ---- what is written

pub write_next_is : (store : Datastore) (code : Option Running) (running : Running) (call : Call) → code ≡ Some running → next_call (running_rest running) ≡ Some call
    → write_next code store ≡ write_granted call (reply_of store call)
write_next_is store code running call held asks = ap (λ c. write_next c store) held ∙ ap (λ c. write_asked c store) asks

-- what the entry tells is what the datastore granted
told_store : (old : Cluster) (prepared : Prepared) (p : IsPrepared old prepared) (store : Datastore)
    → store_with prepared.write store ≡ store_with (write_told prepared.name prepared.reply prepared.written) store
told_store old prepared p store =
    let one = write_is p.call (reply_of old.store.store p.call) in
    let name = p.tells.name in
    let reply = p.tells.reply in
    let written = p.tells.written in
    let next = write_next_is old.store.store (slot_of_cluster old prepared.slot) p.running p.call p.runs p.asks in
    let write = p.write in
    let same : prepared.write ≡ write_told prepared.name prepared.reply prepared.written = cc in
    ap (λ w. store_with w store) same

-- ---- by each fate

abbrev pub well_called : Prepared → Option Answer → Called
well_called prepared answer = record {
  slot = prepared.slot;
  call = prepared.name;
  fate = Well;
  reply = prepared.reply;
  written = prepared.written;
  answer = answer;
}

abbrev pub failed_after : Prepared → Called
failed_after prepared = record {
  slot = prepared.slot;
  call = prepared.name;
  fate = After;
  reply = prepared.reply;
  written = prepared.written;
  answer = Some Fault;
}

abbrev pub failed_before : Prepared → Called
failed_before prepared = record {
  slot = prepared.slot;
  call = prepared.name;
  fate = Before;
  reply = told.Nothing;
  written = None;
  answer = Some Fault;
}

-- what is answered where the reply leads
answer_is : (old : Cluster) (prepared : Prepared) (p : IsPrepared old prepared) (answer : Option Answer) → answer ≡ answer_in (running_leaves p.running prepared.turned)
    → answer_in (after_reply (running_rest p.running) old.entries (reply_of old.store.store p.call)) ≡ answer
answer_is old prepared p answer is = sym (ap answer_in p.leads.leaves) ∙ sym is

well_is : (old : Cluster) (prepared : Prepared) (p : IsPrepared old prepared) (answer : Option Answer) → answer ≡ answer_in (running_leaves p.running prepared.turned)
    → told_call old prepared.slot Well p.running p.call ≡ well_called prepared answer
well_is old prepared p answer is = λ i. record {
  slot = prepared.slot;
  call = sym p.tells.name i;
  fate = Well;
  reply = sym p.tells.reply i;
  written = sym p.tells.written i;
  answer = answer_is old prepared p answer is i;
}

after_is : (old : Cluster) (prepared : Prepared) (p : IsPrepared old prepared) → told_call old prepared.slot After p.running p.call ≡ failed_after prepared
after_is old prepared p = λ i. record {
  slot = prepared.slot;
  call = sym p.tells.name i;
  fate = After;
  reply = sym p.tells.reply i;
  written = sym p.tells.written i;
  answer = Some Fault;
}

before_is : (old : Cluster) (prepared : Prepared) (p : IsPrepared old prepared) → told_call old prepared.slot Before p.running p.call ≡ failed_before prepared
before_is old prepared p = λ i. record {
  slot = prepared.slot;
  call = sym p.tells.name i;
  fate = Before;
  reply = told.Nothing;
  written = None;
  answer = Some Fault;
}

-- what is in the slot once it went where the reply led it
pub record Went (old new : List (Option Running)) (slot : ℕ) (was : Running) (turned : RunningTurned) (answer : Option Answer) : Type 0 where
  pub answered : answer ≡ answer_in (running_leaves was turned)
  pub gone : IsSome answer → new ≡ set old slot None
  pub on : IsNone answer → RunsOn old new slot was (running_leaves was turned)

pub done : (old new : Cluster) (prepared : Prepared) (p : IsPrepared old prepared) (answer : Option Answer) → length old.slots.items ≡ 64
    → Went old.slots.items new.slots.items prepared.slot p.running prepared.turned answer
    → new.store.store ≡ store_with prepared.write old.store.store → new.entries ≡ old.entries + 1
    → AddsTo old new (entry.Called (well_called prepared answer))
done old new prepared p (Some answer) all went store entries =
    adds old new (entry.Called (well_called prepared (Some answer))) (λ one is. (
      subst (λ (c : Called). MayCall one c) (well_is old prepared p (Some answer) went.answered)
          (may_call old one prepared.slot Well p.running p.call is p.small p.few p.runs p.asks),
      moved_by old new one (well_called prepared (Some answer)) None is (subst (λ n. prepared.slot < n) (sym all) p.small)
          (store ∙ told_store old prepared p old.store.store) entries (went.gone refl) tt,
    ))
done old new prepared p None all went store entries =
    let on = went.on refl in
    adds old new (entry.Called (well_called prepared None)) (λ one is. (
      subst (λ (c : Called). MayCall one c) (well_is old prepared p None went.answered)
          (may_call old one prepared.slot Well p.running p.call is p.small p.few p.runs p.asks),
      moved_by old new one (well_called prepared None) (Some on.running) is (subst (λ n. prepared.slot < n) (sym all) p.small)
          (store ∙ told_store old prepared p old.store.store) entries on.slots
          (on_there old one prepared.slot p.running on.running p.call is
          (runs_there (slot_of_cluster old prepared.slot) (one.slots prepared.slot) p.running (is.slots prepared.slot) p.runs) p.asks
          (on.word ∙ p.leads.leaves) on.grace),
    ))

pub fails_after : (old new : Cluster) (prepared : Prepared) (p : IsPrepared old prepared) → length old.slots.items ≡ 64
    → new.slots.items ≡ set old.slots.items prepared.slot None
    → new.store.store ≡ store_with prepared.write old.store.store → new.entries ≡ old.entries + 1
    → AddsTo old new (entry.Called (failed_after prepared))
fails_after old new prepared p all slots store entries =
    adds old new (entry.Called (failed_after prepared)) (λ one is. (
      subst (λ (c : Called). MayCall one c) (after_is old prepared p)
          (may_call old one prepared.slot After p.running p.call is p.small p.few p.runs p.asks),
      moved_by old new one (failed_after prepared) None is (subst (λ n. prepared.slot < n) (sym all) p.small)
          (store ∙ told_store old prepared p old.store.store) entries slots tt,
    ))

pub fails_before : (old new : Cluster) (prepared : Prepared) (p : IsPrepared old prepared) → length old.slots.items ≡ 64
    → new.slots.items ≡ set old.slots.items prepared.slot None
    → new.store.store ≡ old.store.store → new.entries ≡ old.entries + 1
    → AddsTo old new (entry.Called (failed_before prepared))
fails_before old new prepared p all slots store entries =
    adds old new (entry.Called (failed_before prepared)) (λ one is. (
      subst (λ (c : Called). MayCall one c) (before_is old prepared p)
          (may_call old one prepared.slot Before p.running p.call is p.small p.few p.runs p.asks),
      moved_by old new one (failed_before prepared) None is (subst (λ n. prepared.slot < n) (sym all) p.small) store entries slots tt,
    ))

-- ---- the other slots

pub others_put : (old new : List (Option Running)) (slot : ℕ) (code : Option Running) → new ≡ set old slot code
    → (other : ℕ) → ¬ (other ≡ slot) → slot_in new other ≡ slot_in old other
others_put old new slot code is other differ = ap (λ items. slot_in items other) is ∙ get_or-set_other old slot other code None differ

pub others_went : (old new : List (Option Running)) (slot : ℕ) (was : Running) (turned : RunningTurned) (answer : Option Answer)
    → Went old new slot was turned answer → (other : ℕ) → ¬ (other ≡ slot) → slot_in new other ≡ slot_in old other
others_went old new slot was turned (Some answer) went other differ = others_put old new slot None (went.gone refl) other differ
others_went old new slot was turned None went other differ =
    let on = went.on refl in others_put old new slot (Some on.running) on.slots other differ
