-- The feed of routes takes what is written.
use Rattle.std.proofs.Common.{◌≡◌, ℕ, ◌+◌, List, [], ◌∷◌, Option, Some, None, refl, sym, ap, ◌∙◌, subst}
use Rattle.ipam_records.specs.declared.call.Call.{Call}
use Rattle.ipam_records.specs.declared.call.Call.TheVariants as call
use Rattle.ipam_records.specs.declared.call.Write.{Write}
use Rattle.ipam_records.specs.declared.call.Write.TheVariants as write
use Rattle.ipam_records.specs.Datastore.{Datastore, reply_of, write_granted, write_of}
use Rattle.ipam_records.specs.Said.{Said, Found, Missing, Listed, Can, Exists, Conflict, Full, Spent}
use Rattle.ipam_records.specs.Word.{Word, Ends, Asks, Waits, next_call, answer_in}
use Rattle.ipam_store.specs.Feed.{changes_since, routes_at, write_revision}
use Rattle.ipam_store.specs.Feed as feed
use Rattle.ipam_model.specs.declared.answer.Answer.{Answer}
use Rattle.ipam_model.specs.declared.entry.Called.{Called}
use Rattle.ipam_model.specs.declared.entry.Entry.{Entry}
use Rattle.ipam_model.specs.declared.entry.Entry.TheVariants as entry
use Rattle.ipam_model.specs.declared.entry.Fate.{Fate}
use Rattle.ipam_model.specs.declared.entry.Fate.TheVariants.{Well, Before}
use Rattle.ipam_model.specs.Cluster.{after, call_entry, call_made, store_with, write_told}
use Rattle.ipam_model.specs.Cluster as model
use Rattle.ipam_model.specs.History.{Base, Lawful, cluster_at, store_at}
use Rattle.ipam_laws.proofs.StoreSteps.{can-next, write_told-granted}
use Rattle.ipam_cluster.specs.declared.running.Running.{Running}
use Rattle.ipam_cluster.specs.Running.{running_rest}
use Rattle.ipam_cluster.specs.declared.cluster.Cluster.{Cluster}
use Rattle.ipam_cluster.specs.Cluster.{IsSlot, StandsFor, slot_of_cluster}
use Rattle.ipam_cluster.specs.Preparing.{write_asked, write_next}
use Rattle.ipam_shared.specs.Feed.{counter_with, with_write, writes_in}

-- ---- the datastore of a history is what its writes make

store-with : (w : Option Write) (base : Datastore) (writes : List Write) → store_with w (feed.store_after_writes base writes) ≡ feed.store_after_writes base (with_write w writes)
store-with None base writes = refl
store-with (Some done) base writes = refl

pub store-of : (base : Base) (history : List Entry) → store_at base history ≡ feed.store_after_writes base.store (writes_in history)
unfolding cluster_at after
store-of base [] = refl
store-of base (entry.Began slot request ∷ history) = store-of base history
store-of base (entry.Fed slot at live ∷ history) = store-of base history
store-of base (entry.Stopped slot ∷ history) = store-of base history
store-of base (entry.Called c ∷ history) =
    ap (λ (s : Datastore). store_with (write_told c.call c.reply c.written) s) (store-of base history) ∙ store-with (write_told c.call c.reply c.written) base.store (writes_in history)

pub counter-with : (w : Option Write) (store : Datastore) → (store_with w store).counter ≡ counter_with w store.counter
counter-with None store = refl
counter-with (Some (write.Put revision new)) store = refl
counter-with (Some (write.Remove revision key)) store = refl

-- ---- the revision of what is written

written-revision : (own : Call) (revision : ℕ) (done : Write) → write_of own revision ≡ Some done → write_revision done ≡ revision
written-revision (call.Get key) revision done e = absurd (cc e)
written-revision (call.List kind) revision done e = absurd (cc e)
written-revision (call.Create new) revision done e = subst (λ (w : Write). write_revision w ≡ revision) (let same : write.Put revision new ≡ done = cc e in same) refl
written-revision (call.Update new seen) revision done e = subst (λ (w : Write). write_revision w ≡ revision) (let same : write.Put revision new ≡ done = cc e in same) refl
written-revision (call.Delete key seen) revision done e = subst (λ (w : Write). write_revision w ≡ revision) (let same : write.Remove revision key ≡ done = cc e in same) refl

-- a granted write takes the next revision
granted-revision : (store : Datastore) (own : Call) (said : Said) → reply_of store own ≡ said → (done : Write) → write_granted own said ≡ Some done → write_revision done ≡ store.counter + 1
granted-revision store own (Can revision) replied done e = written-revision own revision done e ∙ can-next store own revision replied
granted-revision store own (Found revision found) replied done e = absurd (cc e)
granted-revision store own Missing replied done e = absurd (cc e)
granted-revision store own (Listed rows) replied done e = absurd (cc e)
granted-revision store own (Exists revision) replied done e = absurd (cc e)
granted-revision store own (Conflict revision) replied done e = absurd (cc e)
granted-revision store own Full replied done e = absurd (cc e)
granted-revision store own Spent replied done e = absurd (cc e)

asked-revision : (store : Datastore) (own : Option Call) (done : Write) → write_asked own store ≡ Some done → write_revision done ≡ store.counter + 1
asked-revision store None done e = absurd (cc e)
asked-revision store (Some own) done e = granted-revision store own (reply_of store own) refl done e

pub next-revision : (store : Datastore) (held : Option Running) (done : Write) → write_next held store ≡ Some done → write_revision done ≡ store.counter + 1
next-revision store None done e = absurd (cc e)
next-revision store (Some running) done e = asked-revision store (next_call (running_rest running)) done e

-- ---- what an entry tells to be written

told-done : (slot : ℕ) (store : Datastore) (moment : ℕ) (word : Word Answer) (c : Called) → call_entry slot Well store moment word ≡ Some c → write_told c.call c.reply c.written ≡ write_asked (next_call word) store
told-done slot store moment (Ends answer) c e = absurd (cc e)
told-done slot store moment (Waits next) c e = absurd (cc e)
told-done slot store moment (Asks label first next) c e =
    let is : call_made slot Well first (reply_of store first) (answer_in (next moment (reply_of store first))) ≡ c = cc e in
    subst (λ (x : Called). write_told x.call x.reply x.written ≡ write_granted first (reply_of store first)) is (write_told-granted first (reply_of store first))

told-failed : (slot : ℕ) (store : Datastore) (moment : ℕ) (word : Word Answer) (c : Called) → call_entry slot Before store moment word ≡ Some c → write_told c.call c.reply c.written ≡ None
told-failed slot store moment (Ends answer) c e = absurd (cc e)
told-failed slot store moment (Waits next) c e = absurd (cc e)
told-failed slot store moment (Asks label first next) c e =
    let is : call_made slot Before first (reply_of store first) (answer_in (next moment (reply_of store first))) ≡ c = cc e in
    subst (λ (x : Called). write_told x.call x.reply x.written ≡ None) is refl

same-next : (store : Datastore) (held : Option Running) (there : Option model.RunningRequest) (one : model.RunningRequest) → IsSlot held there → there ≡ Some one → write_next held store ≡ write_asked (next_call one.word) store
same-next store None None one is runs = absurd (cc runs)
same-next store None (Some own) one is runs = absurd is
same-next store (Some running) None one is runs = absurd is
same-next store (Some running) (Some own) one is runs =
    let same : own ≡ one = cc runs in
    ap (λ (w : Word Answer). write_asked (next_call w) store) is.word ∙ ap (λ (r : model.RunningRequest). write_asked (next_call r.word) store) same

-- a call that was done tells what it was to write
pub writes-done : (cluster : Cluster) (base : Base) (history : List Entry) (c : Called) → StandsFor cluster base history → Lawful base (entry.Called c ∷ history) → c.fate ≡ Well
    → write_told c.call c.reply c.written ≡ write_next (slot_of_cluster cluster c.slot) cluster.store.store
unfolding Lawful
writes-done cluster base history c h lawful well =
    let may = lawful.1 in
    let one = cluster_at base history in
    let is : call_entry c.slot Well one.store one.entries may.running.word ≡ Some c = subst (λ (f : Fate). call_entry c.slot f one.store one.entries may.running.word ≡ Some c) well may.is_called in
    let next = same-next cluster.store.store (slot_of_cluster cluster c.slot) (one.slots c.slot) may.running (h.is_cluster.slots c.slot) may.runs in
    told-done c.slot one.store one.entries may.running.word c is
    ∙ (ap (λ (s : Datastore). write_asked (next_call may.running.word) s) (sym h.is_cluster.store) ∙ sym next)

-- one that failed before tells nothing
pub writes-failed : (base : Base) (history : List Entry) (c : Called) → Lawful base (entry.Called c ∷ history) → c.fate ≡ Before → write_told c.call c.reply c.written ≡ None
unfolding Lawful
writes-failed base history c lawful failed =
    let may = lawful.1 in
    let one = cluster_at base history in
    told-failed c.slot one.store one.entries may.running.word c (subst (λ (f : Fate). call_entry c.slot f one.store one.entries may.running.word ≡ Some c) failed may.is_called)
