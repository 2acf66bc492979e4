-- What an entry makes of the store.
use Rattle.std.proofs.Common.{◌≡◌, ◌≢◌, ℕ, ◌+◌, ◌<◌, ◌⊎◌, inl, inr, ltb-true, true, false, Bool, cond, List, ◌∷◌, Option, Some, None, refl, sym, ap, ◌∙◌, subst}
use Rattle.std.specs.Prelude.{◌==◌, nat_lt}
use Rattle.ipam_records.specs.declared.key.Key.{Key}
use Rattle.ipam_records.specs.declared.record.Record.{Record}
use Rattle.ipam_records.specs.declared.call.Call.{Call}
use Rattle.ipam_records.specs.declared.call.Call.TheVariants as call
use Rattle.ipam_records.specs.declared.call.Write.TheVariants.{Put, Remove}
use Rattle.ipam_records.specs.Datastore.{Datastore, reply_of, reply_to_get, reply_to_create, reply_to_change, granted, has_room, row_of, last_revision, written, write_granted, write_of}
use Rattle.ipam_records.specs.Key.{key_of}
use Rattle.ipam_records.specs.Said.{Said, Found, Missing, Listed, Can, Exists, Conflict, Full, Spent}
use Rattle.ipam_records.specs.Word.{Word, Ends, Asks, Waits, answer_in}
use Rattle.ipam_model.specs.declared.answer.Answer.{Answer}
use Rattle.ipam_model.specs.declared.answer.Answer.TheVariants.{Fault}
use Rattle.ipam_model.specs.declared.entry.Called.{Called}
use Rattle.ipam_model.specs.declared.entry.Entry.{Entry}
use Rattle.ipam_model.specs.declared.entry.Entry.TheVariants as entry
use Rattle.ipam_model.specs.declared.entry.Fate.{Fate}
use Rattle.ipam_model.specs.declared.entry.Fate.TheVariants.{Well, Before, After}
use Rattle.ipam_model.specs.Cluster.{new_record, record_written, write_told, write_at, call_told, store_with, store_after, call_made, call_entry, after}
use Rattle.ipam_model.specs.Named.{name_of, told_of}
use Rattle.ipam_model.specs.History.{Base, Lawful, cluster_at, store_at}
use Rattle.ipam_model.specs.ReplyLaw.{IsAnsweredBy, RepliesLaw}

-- ---- the write of an entry is the one that was granted

write_at-new : (asked : Call) (revision : ℕ) → write_at revision (call_told (name_of asked) (new_record asked)) ≡ write_of asked revision
write_at-new (call.Get key) revision = refl
write_at-new (call.List kind) revision = refl
write_at-new (call.Create new) revision = refl
write_at-new (call.Update new old) revision = refl
write_at-new (call.Delete key old) revision = refl

pub write_told-granted : (asked : Call) (reply : Said) → write_told (name_of asked) (told_of reply) (record_written asked reply) ≡ write_granted asked reply
write_told-granted asked (Can revision) = write_at-new asked revision
write_told-granted asked (Found revision found) = refl
write_told-granted asked Missing = refl
write_told-granted asked (Listed rows) = refl
write_told-granted asked (Exists revision) = refl
write_told-granted asked (Conflict revision) = refl
write_told-granted asked Full = refl
write_told-granted asked Spent = refl

-- ---- each call is answered by the store

called-answered : (slot : ℕ) (fate : Fate) (asked : Call) (store : Datastore) (answer : Option Answer) → IsAnsweredBy store (store_after (call_made slot fate asked (reply_of store asked) answer) store) asked (call_made slot fate asked (reply_of store asked) answer) fate
called-answered slot Well asked store answer = record {
  is_reply = refl;
  is_written = refl;
  is_store = ap (λ w. store_with w store) (write_told-granted asked (reply_of store asked));
}
called-answered slot After asked store answer = record {
  is_reply = refl;
  is_written = refl;
  is_store = ap (λ w. store_with w store) (write_told-granted asked (reply_of store asked));
}
called-answered slot Before asked store answer = record { no_reply = refl; nothing_written = refl; is_store = refl }

called-name : (slot : ℕ) (fate : Fate) (asked : Call) (reply : Said) (answer : Option Answer) → (call_made slot fate asked reply answer).call ≡ name_of asked
called-name slot Well asked reply answer = refl
called-name slot Before asked reply answer = refl
called-name slot After asked reply answer = refl

Answered : Datastore → Called → Fate → Type 0
Answered store c fate = (asked : Call) × (c.call ≡ name_of asked) × IsAnsweredBy store (store_after c store) asked c fate

pub call_entry-answered : (slot : ℕ) (fate : Fate) (store : Datastore) (moment : ℕ) (word : Word Answer) (c : Called) → call_entry slot fate store moment word ≡ Some c → (asked : Call) × (c.call ≡ name_of asked) × IsAnsweredBy store (store_after c store) asked c fate
unfolding Answered
call_entry-answered slot fate store moment (Ends answer) c e = cc
call_entry-answered slot fate store moment (Waits next) c e = cc
call_entry-answered slot fate store moment (Asks label asked next) c e =
    let is : call_made slot fate asked (reply_of store asked) (answer_in (next moment (reply_of store asked))) ≡ c = cc in
    subst (λ (x : Called). Answered store x fate) is
    (asked, called-name slot fate asked (reply_of store asked) (answer_in (next moment (reply_of store asked))), called-answered slot fate asked store (answer_in (next moment (reply_of store asked))))

pub replies : RepliesLaw
unfolding Lawful cluster_at after
replies base history c h = call_entry-answered c.slot c.fate (cluster_at base history).store (cluster_at base history).entries h.1.running.word c h.1.is_called

-- ---- a step of the store: it stays, or takes a write at the next revision

-- a record is put where one is, or where none is and there is room
abbrev pub HasPlace : Datastore → Record → Type 0
HasPlace store new =
    ((row_of (key_of new) store.rows ≡ None) × (has_room store (key_of new) ≡ true))
    ⊎ ((row : ℕ × Record) × (row_of (key_of new) store.rows ≡ Some row))

pub data StoreStep (store behind : Datastore) : Type 0 where
  Stays : behind ≡ store → StoreStep store behind
  Puts : (new : Record) → behind ≡ written store (Put (store.counter + 1) new) → store.counter < last_revision → HasPlace store new → StoreStep store behind
  Removes : (key : Key) → behind ≡ written store (Remove (store.counter + 1) key) → store.counter < last_revision → StoreStep store behind

-- what may be applied takes the next revision, of which there is one
record IsNextOf (store : Datastore) (revision : ℕ) : Type 0 where
  next : revision ≡ store.counter + 1
  left : store.counter < last_revision

granted-next : (store : Datastore) (revision : ℕ) → granted store ≡ Can revision → IsNextOf store revision
granted-next store revision e = from (nat_lt store.counter last_revision) refl e
  where
    from : (b : Bool) → nat_lt store.counter last_revision ≡ b → cond b (Can (store.counter + 1)) Spent ≡ Can revision → IsNextOf store revision
    from true left f = record { next = cc f; left = ltb-true store.counter last_revision left }
    from false left f = absurd (cc f)

get-never : (row : Option (ℕ × Record)) (revision : ℕ) → reply_to_get row ≡ Can revision → ⊥
get-never None revision e = cc
get-never (Some row) revision e = cc

create-next : (store : Datastore) (key : Key) (row : Option (ℕ × Record)) (revision : ℕ) → reply_to_create store key row ≡ Can revision → IsNextOf store revision × (row ≡ None) × (has_room store key ≡ true)
create-next store key (Some row) revision e = absurd (cc e)
create-next store key None revision e = let (is, room) = from (has_room store key) refl e in (is, refl, room)
  where
    from : (b : Bool) → has_room store key ≡ b → cond b (granted store) Full ≡ Can revision → IsNextOf store revision × (has_room store key ≡ true)
    from true room f = (granted-next store revision f, room)
    from false room f = absurd (cc f)

change-next : (store : Datastore) (old : ℕ) (row : Option (ℕ × Record)) (revision : ℕ) → reply_to_change store old row ≡ Can revision → IsNextOf store revision × ((there : ℕ × Record) × (row ≡ Some there))
change-next store old None revision e = absurd (cc e)
change-next store old (Some row) revision e = from (row.0 == old) e
  where
    from : (b : Bool) → cond b (granted store) (Conflict row.0) ≡ Can revision → IsNextOf store revision × ((there : ℕ × Record) × (Some row ≡ Some there))
    from true f = (granted-next store revision f, (row, refl))
    from false f = absurd (cc f)

pub can-next : (store : Datastore) (asked : Call) (revision : ℕ) → reply_of store asked ≡ Can revision → revision ≡ store.counter + 1
can-next store (call.Get key) revision e = absurd (get-never (row_of key store.rows) revision e)
can-next store (call.List kind) revision e = cc
can-next store (call.Create new) revision e = (create-next store (key_of new) (row_of (key_of new) store.rows) revision e).0.next
can-next store (call.Update new old) revision e = (change-next store old (row_of (key_of new) store.rows) revision e).0.next
can-next store (call.Delete key old) revision e = (change-next store old (row_of key store.rows) revision e).0.next

write-step : (store : Datastore) (asked : Call) (revision : ℕ) → reply_of store asked ≡ Can revision → StoreStep store (store_with (write_of asked revision) store)
write-step store (call.Get key) revision e = Stays refl
write-step store (call.List kind) revision e = Stays refl
write-step store (call.Create new) revision e =
    let (is, none, room) = create-next store (key_of new) (row_of (key_of new) store.rows) revision e in
    Puts new (ap (λ r. written store (Put r new)) is.next) is.left (inl (none, room))
write-step store (call.Update new old) revision e =
    let (is, there) = change-next store old (row_of (key_of new) store.rows) revision e in
    Puts new (ap (λ r. written store (Put r new)) is.next) is.left (inr there)
write-step store (call.Delete key old) revision e =
    let (is, there) = change-next store old (row_of key store.rows) revision e in
    Removes key (ap (λ r. written store (Remove r key)) is.next) is.left

pub granted-step : (store : Datastore) (asked : Call) (reply : Said) → reply_of store asked ≡ reply → StoreStep store (store_with (write_granted asked reply) store)
granted-step store asked (Can revision) e = write-step store asked revision e
granted-step store asked (Found revision found) e = Stays refl
granted-step store asked Missing e = Stays refl
granted-step store asked (Listed rows) e = Stays refl
granted-step store asked (Exists revision) e = Stays refl
granted-step store asked (Conflict revision) e = Stays refl
granted-step store asked Full e = Stays refl
granted-step store asked Spent e = Stays refl

done-step : (store behind : Datastore) (asked : Call) → behind ≡ store_with (write_granted asked (reply_of store asked)) store → StoreStep store behind
done-step store behind asked e = subst (λ (s : Datastore). StoreStep store s) (sym e) (granted-step store asked (reply_of store asked) refl)

answered-step : (store behind : Datastore) (asked : Call) (c : Called) (fate : Fate) → IsAnsweredBy store behind asked c fate → StoreStep store behind
answered-step store behind asked c Well h = done-step store behind asked h.is_store
answered-step store behind asked c After h = done-step store behind asked h.is_store
answered-step store behind asked c Before h = Stays h.is_store

pub store-step : (base : Base) (history : List Entry) (new : Entry) → Lawful base (new ∷ history) → StoreStep (store_at base history) (store_at base (new ∷ history))
unfolding cluster_at after
store-step base history (entry.Began slot request) h = Stays refl
store-step base history (entry.Fed slot at live) h = Stays refl
store-step base history (entry.Stopped slot) h = Stays refl
store-step base history (entry.Called c) h =
    let (asked, same, by) = replies base history c h in
    answered-step (store_at base history) (store_at base (entry.Called c ∷ history)) asked c c.fate by

-- ---- a call that fails is answered so

called-fails : (slot : ℕ) (fate : Fate) (asked : Call) (reply : Said) (answer : Option Answer) → fate ≢ Well → (call_made slot fate asked reply answer).answer ≡ Some Fault
called-fails slot Well asked reply answer failed = absurd (failed refl)
called-fails slot Before asked reply answer failed = refl
called-fails slot After asked reply answer failed = refl

call_entry-fails : (slot : ℕ) (fate : Fate) (store : Datastore) (moment : ℕ) (word : Word Answer) (c : Called) → fate ≢ Well → call_entry slot fate store moment word ≡ Some c → c.answer ≡ Some Fault
call_entry-fails slot fate store moment (Ends answer) c failed e = cc
call_entry-fails slot fate store moment (Waits next) c failed e = cc
call_entry-fails slot fate store moment (Asks label asked next) c failed e =
    let is : call_made slot fate asked (reply_of store asked) (answer_in (next moment (reply_of store asked))) ≡ c = cc in
    ap (λ (x : Called). x.answer) (sym is) ∙ called-fails slot fate asked (reply_of store asked) (answer_in (next moment (reply_of store asked))) failed

pub failed-answered : (base : Base) (history : List Entry) (c : Called) → Lawful base (entry.Called c ∷ history) → c.fate ≢ Well → c.answer ≡ Some Fault
unfolding Lawful
failed-answered base history c h failed = call_entry-fails c.slot c.fate (cluster_at base history).store (cluster_at base history).entries h.1.running.word c failed h.1.is_called
