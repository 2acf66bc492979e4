-- A request makes no more calls in its slot than its word can make.
use Rattle.std.proofs.Common.{◌≡◌, ◌≢◌, ℕ, zero, suc, ◌+◌, ◌-◌, ◌<◌, ◌≤◌, Bool, true, false, cond, List, [], ◌∷◌, ◌++◌, length, Option, Some, None, refl, sym, subst, arith, eqb-true}
use Rattle.std.proofs.lemmas.Bool.{eqb-false}
use Rattle.std.specs.Prelude.{◌==◌}
use Rattle.ipam_records.specs.Bound.{AtMost}
use Rattle.ipam_records.specs.Datastore.{Datastore, reply_of}
use Rattle.ipam_records.specs.Word.{Word, Ends, Asks, Waits, after_feed}
use Rattle.ipam_model.specs.declared.answer.Answer.{Answer}
use Rattle.ipam_model.specs.declared.entry.Called.{Called}
use Rattle.ipam_model.specs.declared.entry.Entry.{Entry}
use Rattle.ipam_model.specs.declared.entry.Entry.TheVariants as entry
use Rattle.ipam_model.specs.declared.entry.Fate.{Fate}
use Rattle.ipam_model.specs.BoundLaw.{SpanBoundLaw, RequestCallsLaw, NoneBegins}
use Rattle.ipam_model.specs.Cluster.{RunningRequest, Slots, call_entry, word_after_reply, goes_on, fresh_run, run_after_feed, with_slot, after}
use Rattle.ipam_model.specs.History.{Base, Lawful, cluster_at, MayCall}
use Rattle.ipam_model.specs.Requests.{word_of}
use Rattle.ipam_model.specs.Tries.{calls_of}

-- ---- what a slot has left

-- the calls that were made, and those that what runs can still make, are at most so many
unfoldable pub Left : Option RunningRequest → (calls count : ℕ) → Type 0
Left None calls count = calls ≤ count
Left (Some running) calls count = (left : ℕ) × AtMost running.word left × (calls + left ≤ count)

pub left-calls : (running : Option RunningRequest) (calls count : ℕ) → Left running calls count → calls ≤ count
unfolding Left
left-calls None calls count h = h
left-calls (Some running) calls count (left, bound, below) = omega arith

fed-bound : (word : Word Answer) (live : List (List ℕ)) (left : ℕ) → AtMost word left → AtMost (after_feed word live) left
fed-bound (Ends answer) live left h = h
fed-bound (Asks label asked next) live left h = h
fed-bound (Waits next) live left h = h live

left-fed : (running : Option RunningRequest) (live : List (List ℕ)) (calls count : ℕ) → Left running calls count → Left (run_after_feed live running) calls count
unfolding Left
left-fed None live calls count h = h
left-fed (Some running) live calls count (left, bound, below) = (left, fed-bound running.word live left bound, below)

-- a call takes one of those that are left
call-bound : (slot : ℕ) (fate : Fate) (store : Datastore) (moment : ℕ) (word : Word Answer) (c : Called) (left : ℕ) → call_entry slot fate store moment word ≡ Some c → AtMost word left → (0 < left) × AtMost (word_after_reply store moment word) (left - 1)
call-bound slot fate store moment (Ends answer) c left e h = absurd (cc e)
call-bound slot fate store moment (Waits next) c left e h = absurd (cc e)
call-bound slot fate store moment (Asks label asked next) c left e h = (h.0, h.1 moment (reply_of store asked))

goes-left : (store : Datastore) (moment : ℕ) (answer : Option Answer) (running : RunningRequest) (calls count left : ℕ) → 0 < left → AtMost (word_after_reply store moment running.word) (left - 1) → calls + left ≤ count → Left (goes_on store moment answer (Some running)) (suc calls) count
unfolding Left
goes-left store moment (Some answer) running calls count left some bound below = omega arith
goes-left store moment None running calls count left some bound below = (left - 1, bound, omega arith)

left-called : (store : Datastore) (moment slot : ℕ) (fate : Fate) (running : RunningRequest) (c : Called) (calls count : ℕ) → call_entry slot fate store moment running.word ≡ Some c → Left (Some running) calls count → Left (goes_on store moment c.answer (Some running)) (suc calls) count
unfolding Left
left-called store moment slot fate running c calls count e (left, bound, below) =
    let (some, next) = call-bound slot fate store moment running.word c left e bound in
    goes-left store moment c.answer running calls count left some next below

-- ---- entry by entry

-- the slot, where this one changes
slot-left : (changed slot : ℕ) (running : Option RunningRequest) (slots : Slots) (calls count : ℕ) → (slot ≡ changed → Left running calls count) → (slot ≢ changed → Left (slots slot) calls count) → Left (with_slot changed running slots slot) calls count
slot-left changed slot running slots calls count own other = from (slot == changed) refl
  where
    from : (b : Bool) → (slot == changed) ≡ b → Left (cond b running (slots slot)) calls count
    from true e = own (eqb-true slot changed e)
    from false e = other (eqb-false slot changed e)

call-left : (base : Base) (history : List Entry) (c : Called) (slot count : ℕ) (calls : List Called) → MayCall (cluster_at base history) c → Left ((cluster_at base history).slots slot) (length calls) count
    → Left (with_slot c.slot (goes_on (cluster_at base history).store (cluster_at base history).entries c.answer ((cluster_at base history).slots c.slot)) (cluster_at base history).slots slot) (length (cond (c.slot == slot) (c ∷ calls) calls)) count
call-left base history c slot count calls may h = from (c.slot == slot) refl
  where
    there : Option RunningRequest
    there = goes_on (cluster_at base history).store (cluster_at base history).entries c.answer ((cluster_at base history).slots c.slot)

    from : (b : Bool) → (c.slot == slot) ≡ b → Left (with_slot c.slot there (cluster_at base history).slots slot) (length (cond b (c ∷ calls) calls)) count
    from true e =
        let same = eqb-true c.slot slot e in
        let here = subst (λ (s : ℕ). Left ((cluster_at base history).slots s) (length calls) count) (sym same) h in
        let runs = subst (λ (o : Option RunningRequest). Left o (length calls) count) may.runs here in
        let behind = left-called (cluster_at base history).store (cluster_at base history).entries c.slot c.fate may.running c (length calls) count may.is_called runs in
        slot-left c.slot slot there (cluster_at base history).slots (suc (length calls)) count
        (λ own. subst (λ (o : Option RunningRequest). Left (goes_on (cluster_at base history).store (cluster_at base history).entries c.answer o) (suc (length calls)) count) (sym may.runs) behind)
        (λ differs. absurd (differs (sym same)))
    from false e =
        slot-left c.slot slot there (cluster_at base history).slots (length calls) count
        (λ own. absurd (eqb-false c.slot slot e (sym own)))
        (λ differs. h)

pub keeps-left : (base : Base) (history later : List Entry) (slot count : ℕ) → Lawful base (later ++ history) → NoneBegins slot later → Left ((cluster_at base history).slots slot) 0 count → Left ((cluster_at base (later ++ history)).slots slot) (length (calls_of slot later)) count
unfolding Lawful cluster_at after Left
keeps-left base history [] slot count h none first = first
keeps-left base history (entry.Began other request ∷ later) slot count h none first =
    let rest = keeps-left base history later slot count h.0 (λ n d within. none (suc n) d (omega arith)) first in
    let apart : (other == slot) ≡ false = none zero (entry.Began other request) (omega arith) in
    slot-left other slot (fresh_run request) (cluster_at base (later ++ history)).slots (length (calls_of slot later)) count
    (λ own. absurd (eqb-false other slot apart (sym own)))
    (λ differs. rest)
keeps-left base history (entry.Fed other at live ∷ later) slot count h none first =
    let rest = keeps-left base history later slot count h.0 (λ n d within. none (suc n) d (omega arith)) first in
    slot-left other slot (run_after_feed live ((cluster_at base (later ++ history)).slots other)) (cluster_at base (later ++ history)).slots (length (calls_of slot later)) count
    (λ own. left-fed ((cluster_at base (later ++ history)).slots other) live (length (calls_of slot later)) count (subst (λ (s : ℕ). Left ((cluster_at base (later ++ history)).slots s) (length (calls_of slot later)) count) own rest))
    (λ differs. rest)
keeps-left base history (entry.Stopped other ∷ later) slot count h none first =
    let rest = keeps-left base history later slot count h.0 (λ n d within. none (suc n) d (omega arith)) first in
    slot-left other slot None (cluster_at base (later ++ history)).slots (length (calls_of slot later)) count
    (λ own. left-calls ((cluster_at base (later ++ history)).slots slot) (length (calls_of slot later)) count rest)
    (λ differs. rest)
keeps-left base history (entry.Called c ∷ later) slot count h none first =
    let rest = keeps-left base history later slot count h.0 (λ n d within. none (suc n) d (omega arith)) first in
    call-left base (later ++ history) c slot count (calls_of slot later) h.1 rest

pub spans_are_bounded : SpanBoundLaw
unfolding Left
spans_are_bounded base history later slot running count h runs bound none =
    let first = subst (λ (o : Option RunningRequest). Left o 0 count) (sym runs) (count, bound, omega arith) in
    left-calls ((cluster_at base (later ++ history)).slots slot) (length (calls_of slot later)) count
    (keeps-left base history later slot count h none first)

pub requests_are_bounded : RequestCallsLaw
unfolding cluster_at after
requests_are_bounded base earlier later slot request count h bound none =
    spans_are_bounded base (entry.Began slot request ∷ earlier) later slot (record { request = request; word = word_of request }) count h (runs (slot == slot) refl) bound none
  where
    runs : (b : Bool) → (slot == slot) ≡ b → cond b (fresh_run request) ((cluster_at base earlier).slots slot) ≡ fresh_run request
    runs true e = refl
    runs false e = absurd (eqb-false slot slot e refl)
