-- What runs in a slot of a cluster that stands for a history may be told the datastore's reply to its
-- call, and what is granted to it is sound.
use Rattle.std.proofs.Common.{◌≡◌, ℕ, ◌^◌, ◌<◌, ◌≤◌, rules, true, false, Bool, List, [], ◌∷◌, Option, Some, None, IsSome, refl, sym, ap, ◌∙◌, subst}
use Rattle.std.specs.declared.cmp.Ordering.{Ordering}
use Rattle.std.specs.declared.cmp.Ordering.TheVariants.{Less, Equal, Greater}
use Rattle.std.specs.List.{All}
use Rattle.std.specs.Option.{ForSome}
use Rattle.std.specs.Prelude.{Result, Ok, Err, IfOk, if◌then◌else◌}
use Rattle.std.specs.declared.alloc.AllocError.{AllocError}
use Rattle.std.proofs.lemmas.List.Elements.{All-head, All-tail}
use Rattle.ipam_laws.proofs.MayHear.{may_hear}
use Rattle.ipam_laws.proofs.SoundHistory.{sound_law}
use Rattle.ipam_records.specs.declared.call.Call.{Call}
use Rattle.ipam_records.specs.declared.call.Write.{Write}
use Rattle.ipam_records.specs.declared.call.Write.TheVariants.{Put, Remove}
use Rattle.ipam_records.specs.Datastore.{Datastore, reply_of, write_granted, written, with_row, row_at, row_key}
use Rattle.ipam_records.specs.KeyOrder.{key_cmp}
use Rattle.ipam_records.specs.Hearing.{MayHear}
use Rattle.ipam_records.specs.Said.{Said}
use Rattle.ipam_records.specs.Sound.{IsDatastore, IsRow}
use Rattle.ipam_records.specs.Word.{Word, Ends, Asks, Waits, next_call, answer_in, waits}
use Rattle.ipam_model.specs.declared.answer.Answer.{Answer}
use Rattle.ipam_model.specs.declared.entry.Entry.{Entry}
use Rattle.ipam_model.specs.declared.entry.Entry.TheVariants as entry
use Rattle.ipam_model.specs.declared.entry.Fate.TheVariants.{Well}
use Rattle.ipam_model.specs.declared.entry.SlotState.TheVariants as state
use Rattle.ipam_model.specs.Cluster.{after, store_after, store_with}
use Rattle.ipam_model.specs.History.{Base, Lawful, cluster_at, store_at}
use Rattle.ipam_model.specs.Reads.{StoredRecord}
use Rattle.ipam_store.specs.Granted.{IsGranted, IsSoundWrite}
use Rattle.ipam_cluster.specs.declared.running.Running.{Running}
use Rattle.ipam_cluster.specs.Running.{running_rest}
use Rattle.ipam_cluster.proofs.StillLemmas.{runs_on}
use Rattle.ipam_cluster.specs.declared.cluster.Cluster.{Cluster}
use Rattle.ipam_cluster.specs.Cluster.{slot_of_cluster, state_in, IsCluster, Stood}
use Rattle.ipam_cluster.proofs.Adding.{runs_there}
use Rattle.ipam_cluster.specs.declared.turns.Prepared.{Prepared}
use Rattle.ipam_cluster.specs.Preparing.{IsPrepared, Leads, TellsOf, write_next}
use Rattle.ipam_cluster.proofs.Calling.{told_call, may_call, write_is, write_next_is}

-- ---- what runs has a next call

word_asks : (word : Word Answer) → answer_in word ≡ None → waits word ≡ false → IsSome (next_call word)
word_asks (Ends answer) on still = absurd (cc on)
word_asks (Asks label call next) on still = refl
word_asks (Waits next) on still = absurd (cc still)

pub running_asks : (code : Option Running) (running : Running) → code ≡ Some running → state_in code ≡ state.Running → IsSome (next_call (running_rest running))
running_asks None running held is = absurd (cc held)
running_asks (Some own) running held is =
    let same : own ≡ running = cc held in
    subst (λ (r : Running). IsSome (next_call (running_rest r))) same (word_asks (running_rest own) (runs_on own) (by (waits (running_rest own)) is))
  where
    by : (b : Bool) → (if b then state.Waiting else state.Running) ≡ state.Running → b ≡ false
    by true e = absurd (cc e)
    by false e = refl

-- ---- what it may be told

pub may_be_told : (cluster : Cluster) (slot : ℕ) (running : Running) (call : Call) → Stood cluster → slot_of_cluster cluster slot ≡ Some running
    → next_call (running_rest running) ≡ Some call → MayHear (running_rest running) (reply_of cluster.store.store call)
may_be_told cluster slot running call (base, (history, h)) held asks =
    let one = cluster_at base history in
    let found = runs_there (slot_of_cluster cluster slot) (one.slots slot) running (h.is_cluster.slots slot) held in
    let heard = may_hear base history slot found.it call h.stands.consistent.sound h.stands.consistent.covered h.stands.lawful found.is
    (sym (ap next_call found.runs.word) ∙ asks) in
    subst (λ (w : Word Answer). MayHear w (reply_of cluster.store.store call)) (sym found.runs.word)
    (subst (λ (s : Datastore). MayHear found.it.word (reply_of s call)) (sym h.is_cluster.store) heard)

-- ---- what it writes

pub granted_may : (store : Datastore) (call : Call) (write : Option Write) → write ≡ write_granted call (reply_of store call) → ForSome write (IsGranted store)
granted_may store call write is = λ it held. record { call = call; is = sym is ∙ held }

with_row-own : (row : StoredRecord) (rows : List StoredRecord) (P : StoredRecord → Type 0) → All P (with_row row rows) → P row
with_row-own row [] P all = All-head P row [] all
with_row-own row (first ∷ rest) P all = by (key_cmp (row_key row) (row_key first)) all (with_row-own row rest P)
  where
    by : (o : Ordering) → All P (row_at o row first rest (with_row row rest)) → (All P (with_row row rest) → P row) → P row
    by Less h more = All-head P row (first ∷ rest) h
    by Equal h more = All-head P row rest h
    by Greater h more = more (All-tail P first (with_row row rest) h)

sound_written : (store : Datastore) (write : Write) → IsDatastore (written store write) → IsSoundWrite write
sound_written store (Put revision new) sound =
    let row = with_row-own (revision, new) store.rows (IsRow revision) sound.rows in
    (row.is_record, row.counted)
sound_written store (Remove revision key) sound = tt

-- the datastore stays sound after the call
sound_behind : (cluster : Cluster) (slot : ℕ) (running : Running) (call : Call) (base : Base) (history : List Entry)
    → slot < 64 → cluster.entries < 2 ^ 62 → Lawful base history → IsDatastore base.store
    → (is : IsCluster cluster (cluster_at base history)) → slot_of_cluster cluster slot ≡ Some running → next_call (running_rest running) ≡ Some call
    → IsDatastore (store_after (told_call cluster slot Well running call) (store_at base history))
unfolding Lawful cluster_at after
sound_behind cluster slot running call base history there few lawful sound is held asks =
    sound_law base (entry.Called (told_call cluster slot Well running call) ∷ history) sound
    (lawful, may_call cluster (cluster_at base history) slot Well running call is there few held asks)

pub write_is_sound : (cluster : Cluster) (slot : ℕ) (running : Running) (call : Call) (write : Option Write)
    → Stood cluster → slot < 64 → cluster.entries < 2 ^ 62 → slot_of_cluster cluster slot ≡ Some running
    → next_call (running_rest running) ≡ Some call → write ≡ write_granted call (reply_of cluster.store.store call)
    → ForSome write IsSoundWrite
write_is_sound cluster slot running call write (base, (history, h)) there few held asks is = λ it some.
    let said = reply_of cluster.store.store call in
    let behind = sound_behind cluster slot running call base history there few h.stands.lawful h.stands.consistent.sound h.is_cluster held asks in
    let same : store_after (told_call cluster slot Well running call) (store_at base history) ≡ written (store_at base history) it =
    ap (λ w. store_with w (store_at base history)) (write_is call said ∙ sym is ∙ some) in
    sound_written (store_at base history) it (subst (λ (s : Datastore). IsDatastore s) same behind)

-- ---- it is prepared

pub if_ok : (r : Result Prepared AllocError) (P : Prepared → Type 0) → ((prepared : Prepared) → r ≡ Ok prepared → P prepared) → IfOk r P
if_ok (Ok prepared) P holds = holds prepared refl
if_ok (Err error) P holds = search rules

pub is_prepared : (cluster : Cluster) (slot : ℕ) (running : Running) (call : Call) (said : Said) (prepared : Prepared)
    → Stood cluster → slot < 64 → cluster.entries < 2 ^ 62 → 1 ≤ cluster.store.spare
    → slot_of_cluster cluster slot ≡ Some running → next_call (running_rest running) ≡ Some call → said ≡ reply_of cluster.store.store call
    → prepared.slot ≡ slot → prepared.write ≡ write_granted call said → TellsOf prepared call said
    → Leads running prepared.turned cluster.entries said
    → IsPrepared cluster prepared
is_prepared cluster slot running call said prepared stood there few spare held asks is own writes tells leads =
    let write : prepared.write ≡ write_granted call (reply_of cluster.store.store call) = writes ∙ ap (write_granted call) is in
    record {
      small = subst (λ n. n < 64) (sym own) there;
      write = write ∙ sym (write_next_is cluster.store.store (slot_of_cluster cluster slot) running call held asks)
          ∙ ap (λ s. write_next (slot_of_cluster cluster s) cluster.store.store) (sym own);
      few = few;
      running = running;
      runs = ap (slot_of_cluster cluster) own ∙ held;
      call = call;
      asks = asks;
      tells = subst (λ (s : Said). TellsOf prepared call s) is tells;
      leads = subst (λ (s : Said). Leads running prepared.turned cluster.entries s) is leads;
      sound = write_is_sound cluster slot running call prepared.write stood there few held asks write;
      spare = spare;
    }
