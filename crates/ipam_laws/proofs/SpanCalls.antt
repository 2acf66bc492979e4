-- How many calls a DEL and a collection make, by what they have read.
use Rattle.std.proofs.Common.{◌≡◌, ℕ, zero, suc, ◌+◌, ◌*◌, ◌≤◌, List, [], ◌∷◌, ◌++◌, length, Option, Some, None, refl, sym, ap, ◌∙◌, subst, arith}
use Rattle.ipam_records.specs.declared.call.Call.TheVariants.{Get, List as ListAll}
use Rattle.ipam_records.specs.declared.key.Key.TheVariants as key
use Rattle.ipam_records.specs.declared.key.Kind.TheVariants as kind
use Rattle.ipam_records.specs.Bound.{AtMost}
use Rattle.ipam_records.specs.Datastore.{Datastore, reply_of}
use Rattle.ipam_records.specs.Word.{Word, after_reply, after_feed}
use Rattle.ipam_model.specs.declared.answer.Answer.{Answer}
use Rattle.ipam_model.specs.declared.entry.Called.{Called}
use Rattle.ipam_model.specs.declared.entry.Entry.{Entry}
use Rattle.ipam_model.specs.declared.entry.Entry.TheVariants as entry
use Rattle.ipam_model.specs.declared.request.CollectRequest.{CollectRequest}
use Rattle.ipam_model.specs.declared.request.Request.{Request}
use Rattle.ipam_model.specs.declared.request.Request.TheVariants.{Del, Collect}
use Rattle.ipam_model.specs.BoundLaw.{CollectCallsLaw, DelCallsLaw, NoneBegins, NothingOf, before_fed, before_first, before_read, before_second, counts_read, kept_to_free}
use Rattle.ipam_model.specs.Cluster.{RunningRequest, after, word_after_reply, fresh_run, run_after_feed, goes_on}
use Rattle.ipam_model.specs.History.{Base, Lawful, cluster_at}
use Rattle.ipam_model.specs.Reads.{handle_said}
use Rattle.ipam_model.specs.Requests.{word_of}
use Rattle.ipam_model.specs.Tries.{calls_of}
use Rattle.ipam_laws.proofs.KeptWords.{other-slot, own-slot}
use Rattle.ipam_laws.proofs.RequestBounds.{bounds, collect_bounds}
use Rattle.ipam_laws.proofs.SpanBound.{Left, keeps-left, left-calls}

-- ---- histories in two parts

pub first-lawful : (base : Base) (later history : List Entry) → Lawful base (later ++ history) → Lawful base history
unfolding Lawful
first-lawful base [] history h = h
first-lawful base (new ∷ later) history h = first-lawful base later history h.0

-- a slot of which there is no entry stays as it is
quiet-slot : (base : Base) (slot : ℕ) (between history : List Entry) → NothingOf slot between → (cluster_at base (between ++ history)).slots slot ≡ (cluster_at base history).slots slot
unfolding cluster_at after
quiet-slot base slot [] history quiet = refl
quiet-slot base slot (entry.Began other request ∷ between) history quiet =
    other-slot other slot (fresh_run request) (cluster_at base (between ++ history)).slots (quiet zero (entry.Began other request) (omega arith))
    ∙ quiet-slot base slot between history (λ n d within. quiet (suc n) d (omega arith))
quiet-slot base slot (entry.Fed other at live ∷ between) history quiet =
    other-slot other slot (run_after_feed live ((cluster_at base (between ++ history)).slots other)) (cluster_at base (between ++ history)).slots (quiet zero (entry.Fed other at live) (omega arith))
    ∙ quiet-slot base slot between history (λ n d within. quiet (suc n) d (omega arith))
quiet-slot base slot (entry.Stopped other ∷ between) history quiet =
    other-slot other slot None (cluster_at base (between ++ history)).slots (quiet zero (entry.Stopped other) (omega arith))
    ∙ quiet-slot base slot between history (λ n d within. quiet (suc n) d (omega arith))
quiet-slot base slot (entry.Called c ∷ between) history quiet =
    other-slot c.slot slot (goes_on (cluster_at base (between ++ history)).store (cluster_at base (between ++ history)).entries c.answer ((cluster_at base (between ++ history)).slots c.slot)) (cluster_at base (between ++ history)).slots (quiet zero (entry.Called c) (omega arith))
    ∙ quiet-slot base slot between history (λ n d within. quiet (suc n) d (omega arith))

begun-slot : (base : Base) (slot : ℕ) (request : Request) (history : List Entry) → (cluster_at base (entry.Began slot request ∷ history)).slots slot ≡ fresh_run request
unfolding cluster_at after
begun-slot base slot request history = own-slot slot (fresh_run request) (cluster_at base history).slots

called-slot : (base : Base) (c : Called) (history : List Entry) (running : Option RunningRequest) → (cluster_at base history).slots c.slot ≡ running
    → (cluster_at base (entry.Called c ∷ history)).slots c.slot ≡ goes_on (cluster_at base history).store (cluster_at base history).entries c.answer running
unfolding cluster_at after
called-slot base c history running e =
    own-slot c.slot (goes_on (cluster_at base history).store (cluster_at base history).entries c.answer ((cluster_at base history).slots c.slot)) (cluster_at base history).slots
    ∙ ap (λ (o : Option RunningRequest). goes_on (cluster_at base history).store (cluster_at base history).entries c.answer o) e

fed-slot : (base : Base) (slot at : ℕ) (live : List (List ℕ)) (history : List Entry) (running : Option RunningRequest) → (cluster_at base history).slots slot ≡ running
    → (cluster_at base (entry.Fed slot at live ∷ history)).slots slot ≡ run_after_feed live running
unfolding cluster_at after
fed-slot base slot at live history running e =
    own-slot slot (run_after_feed live ((cluster_at base history).slots slot)) (cluster_at base history).slots
    ∙ ap (λ (o : Option RunningRequest). run_after_feed live o) e

-- ---- what is left after a call

-- a word whose bound after the call is known
call-left : (store : Datastore) (moment : ℕ) (answer : Option Answer) (running : RunningRequest) (count : ℕ) → AtMost (word_after_reply store moment running.word) count → Left (goes_on store moment answer (Some running)) 0 count
unfolding Left
call-left store moment (Some answer) running count h = omega arith
call-left store moment None running count h = (count, h, omega arith)

later-calls : (base : Base) (slot count : ℕ) (history later : List Entry) → Lawful base (later ++ history) → NoneBegins slot later → Left ((cluster_at base history).slots slot) 0 count → length (calls_of slot later) ≤ count
later-calls base slot count history later h none left =
    left-calls ((cluster_at base (later ++ history)).slots slot) (length (calls_of slot later)) count
    (keeps-left base history later slot count h none left)

-- ---- DEL

-- the word's first call reads the handle
del-reads : (store : Datastore) (moment : ℕ) (id : List ℕ) → word_after_reply store moment (word_of (Del id)) ≡ after_reply (word_of (Del id)) moment (reply_of store (Get (key.Handle id)))
unfolding word_of
del-reads store moment id = refl

del-left : (store : Datastore) (moment : ℕ) (id : List ℕ) → AtMost (word_after_reply store moment (word_of (Del id))) (199 + 4 * length (handle_said id (reply_of store (Get (key.Handle id)))).counts)
del-left store moment id =
    subst (λ (w : Word Answer). AtMost w (199 + 4 * length (handle_said id (reply_of store (Get (key.Handle id)))).counts)) (sym (del-reads store moment id))
    (bounds.del id moment (reply_of store (Get (key.Handle id))))

pub del_calls : DelCallsLaw
unfolding Lawful Left
del_calls del h is =
    let slot = del.first.slot in
    let there = before_read del in
    let runs : (cluster_at del.base there).slots slot ≡ fresh_run (Del del.id) =
    quiet-slot del.base slot del.between (entry.Began slot (Del del.id) ∷ del.earlier) is.quiet ∙ begun-slot del.base slot (Del del.id) del.earlier in
    let next = called-slot del.base del.first there (fresh_run (Del del.id)) runs in
    let store = (cluster_at del.base there).store in
    let moment = (cluster_at del.base there).entries in
    let left = call-left store moment del.first.answer (record { request = Del del.id; word = word_of (Del del.id) }) (199 + 4 * length (counts_read del)) (del-left store moment del.id) in
    let k = later-calls del.base slot (199 + 4 * length (counts_read del)) (entry.Called del.first ∷ there) del.later h is.none_begins (subst (λ (o : Option RunningRequest). Left o 0 (199 + 4 * length (counts_read del))) (sym next) left) in
    omega arith

-- ---- a collection

-- what goes on after a call that was not answered
goes-some : (store : Datastore) (moment : ℕ) (answer : Option Answer) (r running : RunningRequest) → goes_on store moment answer (Some r) ≡ Some running → running.word ≡ word_after_reply store moment r.word
goes-some store moment (Some answer) r running e = absurd (cc e)
goes-some store moment None r running e =
    let same : record r { word = word_after_reply store moment r.word } ≡ running = cc e in
    ap (λ (x : RunningRequest). x.word) (sym same)

-- both of its lists are the word's calls before and after the second list of handles
collect-lists : (store other : Datastore) (first second : ℕ) (request : CollectRequest) (live : List (List ℕ))
    → word_after_reply other second (after_feed (word_after_reply store first (word_of (Collect request))) live)
    ≡ after_reply (after_feed (after_reply (word_of (Collect request)) first (reply_of store (ListAll kind.Block))) live) second (reply_of other (ListAll kind.Block))
unfolding word_of
collect-lists store other first second request live = refl

pub collect_calls : CollectCallsLaw
unfolding Lawful
collect_calls c h is =
    let slot = c.first.slot in
    let base = c.base in
    let count = 198 + 4 * length (kept_to_free c) in
    let begins : (cluster_at base (before_first c)).slots slot ≡ fresh_run (Collect c.request) =
    quiet-slot base slot c.to_first (entry.Began slot (Collect c.request) ∷ c.earlier) is.quiet_to_first ∙ begun-slot base slot (Collect c.request) c.earlier in
    let lawful_second = first-lawful base c.later (entry.Called c.second ∷ before_second c) h in
    let lawful_fed = first-lawful base c.to_second (entry.Fed slot c.at c.live ∷ before_fed c) lawful_second.0 in
    let feeds = lawful_fed.1 in
    let goes = quiet-slot base slot c.to_fed (entry.Called c.first ∷ before_first c) is.quiet_to_fed ∙ called-slot base c.first (before_first c) (fresh_run (Collect c.request)) begins in
    let store = (cluster_at base (before_first c)).store in
    let moment = (cluster_at base (before_first c)).entries in
    let word = goes-some store moment c.first.answer (record { request = Collect c.request; word = word_of (Collect c.request) }) feeds.running (sym goes ∙ feeds.runs) in
    let fed_running : RunningRequest = record feeds.running { word = after_feed feeds.running.word c.live } in
    let runs : (cluster_at base (before_second c)).slots slot ≡ Some fed_running =
    quiet-slot base slot c.to_second (entry.Fed slot c.at c.live ∷ before_fed c) is.quiet_to_second ∙ fed-slot base slot c.at c.live (before_fed c) (Some feeds.running) feeds.runs in
    let other = (cluster_at base (before_second c)).store in
    let second = (cluster_at base (before_second c)).entries in
    let there = called-slot base c.second (before_second c) (Some fed_running) (subst (λ (s : ℕ). (cluster_at base (before_second c)).slots s ≡ Some fed_running) (sym is.same_slot) runs) in
    let next = subst (λ (s : ℕ). (cluster_at base (entry.Called c.second ∷ before_second c)).slots s ≡ goes_on other second c.second.answer (Some fed_running)) is.same_slot there in
    let same = ap (λ (w : Word Answer). word_after_reply other second (after_feed w c.live)) word ∙ collect-lists store other moment second c.request c.live in
    let bound : AtMost (word_after_reply other second fed_running.word) count =
    subst (λ (w : Word Answer). AtMost w count) (sym same) (collect_bounds c.request moment second (reply_of store (ListAll kind.Block)) (reply_of other (ListAll kind.Block)) c.live) in
    let left = call-left other second c.second.answer fed_running count bound in
    let k = later-calls base slot count (entry.Called c.second ∷ before_second c) c.later h is.none_begins (subst (λ (o : Option RunningRequest). Left o 0 count) (sym next) left) in
    omega arith
