-- A request that runs alone is what the history of its slot alone comes to.
use Rattle.std.proofs.Common.{◌≡◌, ℕ, ◌+◌, List, [], ◌∷◌, Option, Some, None, refl, sym, ap, ◌∙◌, subst}
use Rattle.std.specs.Prelude.{IsTrue}
use Rattle.ipam_records.specs.Datastore.{Datastore, reply_of}
use Rattle.ipam_records.specs.Word.{Word, Ends, Asks, Waits, answer_in, after_feed, waits}
use Rattle.ipam_model.specs.declared.answer.Answer.{Answer}
use Rattle.ipam_model.specs.declared.entry.Called.{Called}
use Rattle.ipam_model.specs.declared.entry.Entry.{Entry}
use Rattle.ipam_model.specs.declared.entry.Entry.TheVariants as entry
use Rattle.ipam_model.specs.declared.entry.Fate.{Fate}
use Rattle.ipam_model.specs.declared.entry.Fate.TheVariants.{Well}
use Rattle.ipam_model.specs.declared.request.Request.{Request}
use Rattle.ipam_model.specs.declared.request.Request.TheVariants as request_of
use Rattle.ipam_model.specs.Alone.{alone, live_of, alone_over, IsFirstList, IsAlone, AloneHistoryLaw}
use Rattle.ipam_model.specs.Cluster.{ClusterState, RunningRequest, Slots, fresh_run, store_with, store_after, call_made, call_entry, word_after_reply, goes_on, run_after_feed, with_slot, after}
use Rattle.ipam_model.specs.History.{Base, Lawful, cluster_at, MayCall}
use Rattle.ipam_model.specs.Requests.{word_of}
use Rattle.ipam_laws.proofs.StoreSteps.{write_told-granted}

abbrev AloneFrom : ClusterState → Request → Word Answer → Answer × Datastore
AloneFrom cluster request word = alone cluster.store cluster.entries (live_of request) word

-- what is left comes to what the whole request comes to
ComesTo : Base → List Entry → Request → Option RunningRequest → Type 0
ComesTo base history request running =
    (r : RunningRequest) → running ≡ Some r → AloneFrom (cluster_at base history) request r.word ≡ alone_over base request

-- a call that is done leaves what follows it, at the store after it
record CallsAlone (store : Datastore) (moment : ℕ) (live : List (List ℕ)) (word : Word Answer) (c : Called) : Type 0 where
  pub same : alone (store_after c store) (moment + 1) live (word_after_reply store moment word) ≡ alone store moment live word
  pub is_answer : c.answer ≡ answer_in (word_after_reply store moment word)

calls-alone : (slot : ℕ) (store : Datastore) (moment : ℕ) (live : List (List ℕ)) (word : Word Answer) (c : Called) → call_entry slot Well store moment word ≡ Some c → CallsAlone store moment live word c
calls-alone slot store moment live (Ends answer) c e = cc
calls-alone slot store moment live (Waits next) c e = cc
calls-alone slot store moment live (Asks label asked next) c e =
    let is : call_made slot Well asked (reply_of store asked) (answer_in (next moment (reply_of store asked))) ≡ c = cc in
    subst (λ (x : Called). CallsAlone store moment live (Asks label asked next) x) is (record {
      same = ap (λ w. alone (store_with w store) (moment + 1) live (next moment (reply_of store asked))) (write_told-granted asked (reply_of store asked));
      is_answer = refl;
    })

ended-is : (word : Word Answer) (told : Answer) → answer_in word ≡ Some told → word ≡ Ends told
ended-is (Ends answer) told e = cc
ended-is (Asks label asked next) told e = cc
ended-is (Waits next) told e = cc

-- the call's slot and fate, and what it leaves
call-alone : (base : Base) (request : Request) (history : List Entry) (c : Called) → MayCall (cluster_at base history) c → c.slot ≡ 0 → c.fate ≡ Well → ComesTo base history request ((cluster_at base history).slots 0)
    → (running : RunningRequest) × ((cluster_at base history).slots c.slot ≡ Some running) × CallsAlone (cluster_at base history).store (cluster_at base history).entries (live_of request) running.word c × (AloneFrom (cluster_at base history) request running.word ≡ alone_over base request)
unfolding ComesTo
call-alone base request history c may at_0 well comes =
    let made = subst (λ (f : Fate). call_entry c.slot f (cluster_at base history).store (cluster_at base history).entries may.running.word ≡ Some c) well may.is_called in
    let runs = subst (λ (s : ℕ). (cluster_at base history).slots s ≡ Some may.running) at_0 may.runs in (
      may.running,
      may.runs,
      calls-alone c.slot (cluster_at base history).store (cluster_at base history).entries (live_of request) may.running.word c made,
      comes may.running runs,
    )

-- ---- entry by entry

own-slot : (slot : ℕ) (running : Option RunningRequest) (slots : Slots) (r : RunningRequest) → slot ≡ 0 → with_slot slot running slots 0 ≡ Some r → running ≡ Some r
own-slot slot running slots r at_0 e = sym (subst (λ (s : ℕ). with_slot s running slots 0 ≡ running) (sym at_0) refl) ∙ e

begun-comes : (base : Base) (request : Request) (r : RunningRequest) → fresh_run request ≡ Some r → alone base.store (base.first + 1) (live_of request) r.word ≡ alone_over base request
begun-comes base request r e =
    let is : record { request = request; word = word_of request } ≡ r = cc e in
    subst (λ (x : RunningRequest). alone base.store (base.first + 1) (live_of request) x.word ≡ alone_over base request) is refl

first-live : (request : Request) (at : ℕ) (live : List (List ℕ)) → IsFirstList request at live → live ≡ live_of request
first-live (request_of.Collect request) at live h = h.1
first-live (request_of.Add request) at live h = absurd h
first-live (request_of.AddThis request address) at live h = absurd h
first-live (request_of.Del id) at live h = absurd h
first-live (request_of.Check id addresses) at live h = absurd h
first-live (request_of.Release node cidr) at live h = absurd h
first-live (request_of.Admin request) at live h = absurd h
first-live (request_of.Probe request) at live h = absurd h

fed-alone : (store : Datastore) (moment : ℕ) (live : List (List ℕ)) (word : Word Answer) → IsTrue (waits word) → alone store (moment + 1) live (after_feed word live) ≡ alone store moment live word
fed-alone store moment live (Ends answer) w = absurd (cc w)
fed-alone store moment live (Asks label asked next) w = absurd (cc w)
fed-alone store moment live (Waits next) w = refl

goes-on-word : (store : Datastore) (moment : ℕ) (answer : Option Answer) (running r : RunningRequest) → goes_on store moment answer (Some running) ≡ Some r → r.word ≡ word_after_reply store moment running.word
goes-on-word store moment (Some answer) running r e = absurd (cc e)
goes-on-word store moment None running r e =
    let is : record running { word = word_after_reply store moment running.word } ≡ r = cc e in
    ap (λ (x : RunningRequest). x.word) (sym is)

comes : (base : Base) (request : Request) (history : List Entry) → Lawful base history → IsAlone request history → ComesTo base history request ((cluster_at base history).slots 0)
unfolding Lawful cluster_at after ComesTo
comes base request [] h there = absurd there
comes base request (entry.Stopped slot ∷ history) h there = absurd there
comes base request (entry.Began slot other ∷ history) h (at_0, same, first) = λ r is.
    let own = own-slot slot (fresh_run other) (cluster_at base history).slots r at_0 is in
    let begins = subst (λ (q : Request). fresh_run q ≡ Some r) same own in
    subst (λ (hs : List Entry). alone (cluster_at base hs).store ((cluster_at base hs).entries + 1) (live_of request) r.word ≡ alone_over base request) (sym first)
    (begun-comes base request r begins)
comes base request (entry.Fed slot at live ∷ history) h (at_0, list, rest) = λ r is.
    let same = first-live request at live list in
    let may = h.1 in
    let own = own-slot slot (run_after_feed live ((cluster_at base history).slots slot)) (cluster_at base history).slots r at_0 is in
    let there : run_after_feed live ((cluster_at base history).slots slot) ≡ Some (record may.running { word = after_feed may.running.word live }) = ap (run_after_feed live) may.runs in
    let word : record may.running { word = after_feed may.running.word live } ≡ r = cc (there, own) in
    let before = comes base request history h.0 rest may.running (subst (λ (s : ℕ). (cluster_at base history).slots s ≡ Some may.running) at_0 may.runs) in
    let goes = fed-alone (cluster_at base history).store (cluster_at base history).entries (live_of request) may.running.word may.waiting in
    subst (λ (x : RunningRequest). alone (cluster_at base history).store ((cluster_at base history).entries + 1) (live_of request) x.word ≡ alone_over base request) word
    (subst (λ (l : List (List ℕ)). alone (cluster_at base history).store ((cluster_at base history).entries + 1) (live_of request) (after_feed may.running.word l) ≡ alone_over base request) (sym same) (goes ∙ before))
comes base request (entry.Called c ∷ history) h (at_0, well, rest) = λ r is.
    let (running, runs, calls, whole) = call-alone base request history c h.1 at_0 well (comes base request history h.0 rest) in
    let store = (cluster_at base history).store in
    let moment = (cluster_at base history).entries in
    let own = own-slot c.slot (goes_on store moment c.answer ((cluster_at base history).slots c.slot)) (cluster_at base history).slots r at_0 is in
    let word = goes-on-word store moment c.answer running r (sym (ap (goes_on store moment c.answer) runs) ∙ own) in
    ap (alone (store_after c store) (moment + 1) (live_of request)) word ∙ calls.same ∙ whole

pub alone_histories : AloneHistoryLaw
unfolding Lawful cluster_at after
alone_histories base request history c told h (at_0, well, rest) told_there =
    let (running, runs, calls, whole) = call-alone base request history c h.1 at_0 well (comes base request history h.0 rest) in
    let store = (cluster_at base history).store in
    let moment = (cluster_at base history).entries in
    let ends = ended-is (word_after_reply store moment running.word) told (sym calls.is_answer ∙ told_there) in
    let all = sym (ap (alone (store_after c store) (moment + 1) (live_of request)) ends) ∙ calls.same ∙ whole in
    (ap (λ (x : Answer × Datastore). x.0) all, ap (λ (x : Answer × Datastore). x.1) all)
