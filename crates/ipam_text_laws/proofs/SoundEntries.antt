-- Each entry of a lawful history is sound.
use Rattle.std.proofs.Common.{◌≡◌, ℕ, ◌+◌, ◌≤◌, Bool, true, false, cond, List, [], ◌∷◌, length, Option, Some, None, refl, sym, ap, ◌∙◌, subst, arith}
use Rattle.std.specs.Prelude.{nat_lt, ◌==◌}
use Rattle.std.specs.List.{AllByRecursion, filter}
use Rattle.std.proofs.lemmas.List.Elements.{recursion_from_All}
use Rattle.ipam_records.specs.declared.call.Call.{Call}
use Rattle.ipam_records.specs.declared.call.Call.TheVariants.{Get, List as ListAll, Create, Update, Delete}
use Rattle.ipam_records.specs.declared.call.Write.TheVariants.{Put}
use Rattle.ipam_records.specs.declared.key.Key.{Key}
use Rattle.ipam_records.specs.declared.key.Kind.{Kind}
use Rattle.ipam_records.specs.declared.record.Record.{Record}
use Rattle.ipam_records.specs.Datastore.{Datastore, granted, has_room, last_revision, reply_of, reply_to_get, reply_to_create, reply_to_change, row_key, row_of, write_granted, written}
use Rattle.ipam_records.specs.Key.{key_of}
use Rattle.ipam_records.specs.KeyOrder.{is_of_kind}
use Rattle.ipam_records.specs.Said.{Said, Found, Missing, Listed, Can, Exists, Conflict, Full, Spent}
use Rattle.ipam_records.specs.Sound.{IsDatastore, IsHandleId, IsRecord, IsRow}
use Rattle.ipam_records.specs.Word.{Word, Ends, Asks, Waits, answer_in, after_feed}
use Rattle.ipam_records.proofs.DatastoreLemmas.{row_of-with_row}
use Rattle.ipam_model.specs.declared.answer.Answer.{Answer}
use Rattle.ipam_model.specs.declared.entry.CallName.{CallName}
use Rattle.ipam_model.specs.declared.entry.Called.{Called}
use Rattle.ipam_model.specs.declared.entry.Entry.{Entry}
use Rattle.ipam_model.specs.declared.entry.Entry.TheVariants as entry
use Rattle.ipam_model.specs.declared.entry.Fate.{Fate}
use Rattle.ipam_model.specs.declared.entry.Fate.TheVariants.{Well, Before, After}
use Rattle.ipam_model.specs.AffinityLaw.{HasAt}
use Rattle.ipam_model.specs.Cluster.{RunningRequest, after, word_after_reply, fresh_run, call_entry, call_made, record_written, run_after_feed, goes_on, store_with}
use Rattle.ipam_model.specs.Consistent.{IsWithinLimits}
use Rattle.ipam_model.specs.History.{Base, Lawful, cluster_at, store_at}
use Rattle.ipam_model.specs.Named.{name_of, told_of}
use Rattle.ipam_model.specs.Reads.{StoredRecord}
use Rattle.ipam_model.specs.ReplyLaw.{IsAnsweredBy, IsDoneBy}
use Rattle.ipam_laws.proofs.KeptWords.{slot-is}
use Rattle.ipam_laws.proofs.SoundHistory.{limits_law, sound_law}
use Rattle.ipam_laws.proofs.SoundSteps.{row-there}
use Rattle.ipam_laws.proofs.StoreSteps.{replies}
use Rattle.ipam_text_laws.specs.Answers.{FitsIn64, IsSoundAnswer}
use Rattle.ipam_text_laws.specs.Limits.{IsSoundName, IsSoundTold}
use Rattle.ipam_text_laws.specs.Entries.{HasSoundName, HasTime, IsSoundEnding, IsSoundEntry, IsSoundWritten}
use Rattle.ipam_text_laws.proofs.Tells.{IsSoundRow, IsSoundSaid, Tells}
use Rattle.ipam_text_laws.proofs.TellsRequests.{word-tells}

-- ---- what a sound datastore says

row-fits : (counter : ℕ) (row : StoredRecord) → counter ≤ last_revision → IsRow counter row → IsSoundRow row
row-fits counter row most h = let given = h.given in (h.is_record, omega (arith, most, given))

found-sound : (store : Datastore) (k : Key) → IsDatastore store → IsSoundSaid (reply_to_get (row_of k store.rows))
found-sound store k sound = from (row_of k store.rows) refl
  where
    from : (o : Option StoredRecord) → row_of k store.rows ≡ o → IsSoundSaid (reply_to_get o)
    from None e = tt
    from (Some row) e = row-fits store.counter row sound.counted (row-there store k row.0 row.1 sound e)

revision-fits : (store : Datastore) (k : Key) (row : StoredRecord) → IsDatastore store → row_of k store.rows ≡ Some row → FitsIn64 row.0
revision-fits store k row sound e = (row-fits store.counter row sound.counted (row-there store k row.0 row.1 sound e)).1

-- the rows of a kind are sound, and no more than all
rows-sound : (counter : ℕ) (rows : List StoredRecord) → counter ≤ last_revision → AllByRecursion (IsRow counter) rows → (kind : Kind) → AllByRecursion IsSoundRow (filter (λ row. is_of_kind kind (row_key row)) rows)
rows-sound counter [] most h kind = tt
rows-sound counter (row ∷ rows) most h kind = from (is_of_kind kind (row_key row)) (rows-sound counter rows most h.1 kind)
  where
    from : (b : Bool) → AllByRecursion IsSoundRow (filter (λ other. is_of_kind kind (row_key other)) rows) → AllByRecursion IsSoundRow (cond b (row ∷ filter (λ other. is_of_kind kind (row_key other)) rows) (filter (λ other. is_of_kind kind (row_key other)) rows))
    from true rest = (row-fits counter row most h.0, rest)
    from false rest = rest

no-more : {A : Type 0} → (test : A → Bool) (xs : List A) → length (filter test xs) ≤ length xs
no-more test [] = omega arith
no-more {A = A} test (x ∷ xs) = from (test x) (no-more test xs)
  where
    from : (b : Bool) → length (filter test xs) ≤ length xs → length (cond b (x ∷ filter test xs) (filter test xs)) ≤ length (x ∷ xs)
    from true rest = omega arith
    from false rest = omega arith

granted-sound : (store : Datastore) → IsDatastore store → IsSoundSaid (granted store)
granted-sound store sound = from (nat_lt store.counter last_revision)
  where
    from : (b : Bool) → IsSoundSaid (cond b (Can (store.counter + 1)) Spent)
    from true = let most = sound.counted in omega (arith, most)
    from false = tt

created-sound : (store : Datastore) (k : Key) → IsDatastore store → IsSoundSaid (reply_to_create store k (row_of k store.rows))
created-sound store k sound = from (row_of k store.rows) refl
  where
    room : (b : Bool) → IsSoundSaid (cond b (granted store) Full)
    room true = granted-sound store sound
    room false = tt

    from : (o : Option StoredRecord) → row_of k store.rows ≡ o → IsSoundSaid (reply_to_create store k o)
    from None e = room (has_room store k)
    from (Some row) e = revision-fits store k row sound e

changed-sound : (store : Datastore) (revision : ℕ) (k : Key) → IsDatastore store → IsSoundSaid (reply_to_change store revision (row_of k store.rows))
changed-sound store revision k sound = from (row_of k store.rows) refl
  where
    same : (row : StoredRecord) → row_of k store.rows ≡ Some row → (b : Bool) → IsSoundSaid (cond b (granted store) (Conflict row.0))
    same row e true = granted-sound store sound
    same row e false = revision-fits store k row sound e

    from : (o : Option StoredRecord) → row_of k store.rows ≡ o → IsSoundSaid (reply_to_change store revision o)
    from None e = tt
    from (Some row) e = same row e (row.0 == revision)

said-sound : (store : Datastore) (asked : Call) → IsDatastore store → IsSoundSaid (reply_of store asked)
said-sound store (Get k) sound = found-sound store k sound
said-sound store (ListAll kind) sound =
    rows-sound store.counter store.rows sound.counted (recursion_from_All (IsRow store.counter) store.rows sound.rows) kind
said-sound store (Create new) sound = created-sound store (key_of new) sound
said-sound store (Update new revision) sound = changed-sound store revision (key_of new) sound
said-sound store (Delete k revision) sound = changed-sound store revision k sound

-- ---- how many rows are listed

-- a list has so few rows that 64 bits hold their number
abbrev AreFew : Said → Type 0
AreFew (Found revision found) = Unit {0}
AreFew Missing = Unit {0}
AreFew (Listed rows) = FitsIn64 (length rows)
AreFew (Can revision) = Unit {0}
AreFew (Exists revision) = Unit {0}
AreFew (Conflict revision) = Unit {0}
AreFew Full = Unit {0}
AreFew Spent = Unit {0}

granted-few : (store : Datastore) → AreFew (granted store)
granted-few store = from (nat_lt store.counter last_revision)
  where
    from : (b : Bool) → AreFew (cond b (Can (store.counter + 1)) Spent)
    from true = tt
    from false = tt

created-few : (store : Datastore) (k : Key) (o : Option StoredRecord) → AreFew (reply_to_create store k o)
created-few store k (Some row) = tt
created-few store k None = from (has_room store k)
  where
    from : (b : Bool) → AreFew (cond b (granted store) Full)
    from true = granted-few store
    from false = tt

changed-few : (store : Datastore) (revision : ℕ) (o : Option StoredRecord) → AreFew (reply_to_change store revision o)
changed-few store revision None = tt
changed-few store revision (Some row) = from (row.0 == revision)
  where
    from : (b : Bool) → AreFew (cond b (granted store) (Conflict row.0))
    from true = granted-few store
    from false = tt

found-few : (o : Option StoredRecord) → AreFew (reply_to_get o)
found-few None = tt
found-few (Some row) = tt

said-few : (store : Datastore) (asked : Call) → IsWithinLimits store → AreFew (reply_of store asked)
said-few store (Get k) limits = found-few (row_of k store.rows)
said-few store (ListAll kind) limits =
    let fewer = no-more (λ row. is_of_kind kind (row_key row)) store.rows in
    let few = limits.few_rows in
    omega (arith, fewer, few)
said-few store (Create new) limits = created-few store (key_of new) (row_of (key_of new) store.rows)
said-few store (Update new revision) limits = changed-few store revision (row_of (key_of new) store.rows)
said-few store (Delete k revision) limits = changed-few store revision (row_of k store.rows)

told-sound : (said : Said) → IsSoundSaid said → AreFew said → IsSoundTold (told_of said)
told-sound (Found revision found) h few = h.1
told-sound Missing h few = tt
told-sound (Listed rows) h few = few
told-sound (Can revision) h few = h
told-sound (Exists revision) h few = h
told-sound (Conflict revision) h few = h
told-sound Full h few = tt
told-sound Spent h few = tt

-- ---- what runs in a slot

abbrev OfSlot : Option RunningRequest → Type 0
OfSlot None = Unit {0}
OfSlot (Some running) = Tells IsSoundAnswer running.word

fed-word : (live : List (List ℕ)) (w : Word Answer) → Tells IsSoundAnswer w → Tells IsSoundAnswer (after_feed w live)
fed-word live (Ends answer) h = h
fed-word live (Asks label asked next) h = h
fed-word live (Waits next) h = h live

fed-slot : (live : List (List ℕ)) (o : Option RunningRequest) → OfSlot o → OfSlot (run_after_feed live o)
fed-slot live None h = tt
fed-slot live (Some running) h = fed-word live running.word h

heard-word : (store : Datastore) (moment : ℕ) (w : Word Answer) → FitsIn64 moment → IsDatastore store → Tells IsSoundAnswer w → Tells IsSoundAnswer (word_after_reply store moment w)
heard-word store moment (Ends answer) fits sound h = h
heard-word store moment (Asks label asked next) fits sound h = h.1 moment (reply_of store asked) fits (said-sound store asked sound)
heard-word store moment (Waits next) fits sound h = h

goes-slot : (store : Datastore) (moment : ℕ) (answer : Option Answer) (o : Option RunningRequest) → FitsIn64 moment → IsDatastore store → OfSlot o → OfSlot (goes_on store moment answer o)
goes-slot store moment (Some answer) o fits sound h = tt
goes-slot store moment None None fits sound h = tt
goes-slot store moment None (Some running) fits sound h = heard-word store moment running.word fits sound h

slots-tell : (base : Base) (history : List Entry) → IsDatastore base.store → Lawful base history → (slot : ℕ) → OfSlot ((cluster_at base history).slots slot)
unfolding cluster_at after Lawful
slots-tell base [] sound h slot = tt
slots-tell base (entry.Began other request ∷ history) sound h slot =
    slot-is OfSlot other slot (fresh_run request) (cluster_at base history).slots
    (λ own. word-tells request h.1.sound) (λ differ. slots-tell base history sound h.0 slot)
slots-tell base (entry.Fed other at live ∷ history) sound h slot =
    slot-is OfSlot other slot (run_after_feed live ((cluster_at base history).slots other)) (cluster_at base history).slots
    (λ own. fed-slot live ((cluster_at base history).slots other) (slots-tell base history sound h.0 other))
    (λ differ. slots-tell base history sound h.0 slot)
slots-tell base (entry.Stopped other ∷ history) sound h slot =
    slot-is OfSlot other slot None (cluster_at base history).slots
    (λ own. tt) (λ differ. slots-tell base history sound h.0 slot)
slots-tell base (entry.Called c ∷ history) sound h slot =
    let store = (cluster_at base history).store in
    let moment = (cluster_at base history).entries in
    let few = h.1.turn.not_worn in
    slot-is OfSlot c.slot slot (goes_on store moment c.answer ((cluster_at base history).slots c.slot)) (cluster_at base history).slots
    (λ own. goes-slot store moment c.answer ((cluster_at base history).slots c.slot) (omega (arith, few)) (sound_law base history sound h.0) (slots-tell base history sound h.0 c.slot))
    (λ differ. slots-tell base history sound h.0 slot)

-- ---- calls

ending-sound : (w : Word Answer) → Tells IsSoundAnswer w → IsSoundEnding (answer_in w)
ending-sound (Ends answer) h = h
ending-sound (Asks label asked next) h = tt
ending-sound (Waits next) h = tt

-- all but what was written
abbrev IsToldSoundly : Called → Type 0
IsToldSoundly c = IsSoundName c.call × IsSoundTold c.reply × IsSoundEnding c.answer

made-sound : (slot : ℕ) (fate : Fate) (asked : Call) (reply : Said) (answer : Option Answer) → IsSoundName (name_of asked) → IsSoundSaid reply → AreFew reply → IsSoundEnding answer → IsToldSoundly (call_made slot fate asked reply answer)
made-sound slot Well asked reply answer name told few ends = (name, told-sound reply told few, ends)
made-sound slot After asked reply answer name told few ends = (name, told-sound reply told few, tt)
made-sound slot Before asked reply answer name told few ends = (name, tt, tt)

call-sound : (slot : ℕ) (fate : Fate) (store : Datastore) (moment : ℕ) (w : Word Answer) (c : Called) → FitsIn64 moment → IsDatastore store → IsWithinLimits store → Tells IsSoundAnswer w → call_entry slot fate store moment w ≡ Some c → IsToldSoundly c
call-sound slot fate store moment (Ends answer) c fits sound limits h e = absurd (cc e)
call-sound slot fate store moment (Waits next) c fits sound limits h e = absurd (cc e)
call-sound slot fate store moment (Asks label asked next) c fits sound limits h e =
    let reply = reply_of store asked in
    let told = said-sound store asked sound in
    let is : call_made slot fate asked (reply_of store asked) (answer_in (next moment (reply_of store asked))) ≡ c = cc e in
    subst (λ (x : Called). IsToldSoundly x) is
    (made-sound slot fate asked reply (answer_in (next moment reply)) h.0 told (said-few store asked limits) (ending-sound (next moment reply) (h.1 moment reply fits told)))

-- ---- what was written

put-sound : (store later : Datastore) (revision : ℕ) (new : Record) → IsDatastore later → later ≡ written store (Put revision new) → IsRecord new
put-sound store later revision new sound e =
    let there : HasAt later (key_of new) revision new = ap (λ (s : Datastore). row_of (key_of new) s.rows) e ∙ row_of-with_row (revision, new) store.rows in
    (row-there later (key_of new) revision new sound there).is_record

granted-written : (store later : Datastore) (asked : Call) (reply : Said) → IsDatastore later → later ≡ store_with (write_granted asked reply) store → IsSoundWritten (name_of asked) (record_written asked reply)
granted-written store later (Get k) (Can revision) sound e = tt
granted-written store later (ListAll kind) (Can revision) sound e = tt
granted-written store later (Create new) (Can revision) sound e = (put-sound store later revision new sound e, refl)
granted-written store later (Update new old) (Can revision) sound e = (put-sound store later revision new sound e, refl)
granted-written store later (Delete k old) (Can revision) sound e = tt
granted-written store later asked other sound e = tt

done-written : (store later : Datastore) (asked : Call) (c : Called) → IsDatastore later → IsDoneBy store later asked c → IsSoundWritten (name_of asked) c.written
done-written store later asked c sound done =
    subst (λ (w : Option Record). IsSoundWritten (name_of asked) w) (sym done.is_written) (granted-written store later asked (reply_of store asked) sound done.is_store)

answered-written : (store later : Datastore) (asked : Call) (c : Called) (fate : Fate) → IsDatastore later → IsAnsweredBy store later asked c fate → IsSoundWritten (name_of asked) c.written
answered-written store later asked c Well sound done = done-written store later asked c sound done
answered-written store later asked c After sound done = done-written store later asked c sound done
answered-written store later asked c Before sound not_done =
    subst (λ (w : Option Record). IsSoundWritten (name_of asked) w) (sym not_done.nothing_written) tt

written-sound : (base : Base) (history : List Entry) (c : Called) → IsDatastore base.store → Lawful base (entry.Called c ∷ history) → IsSoundWritten c.call c.written
written-sound base history c sound h =
    let (asked, is_name, answered) = replies base history c h in
    let later = store_at base (entry.Called c ∷ history) in
    subst (λ (n : CallName). IsSoundWritten n c.written) (sym is_name)
    (answered-written (store_at base history) later asked c c.fate (sound_law base (entry.Called c ∷ history) sound h) answered)

-- ---- entries

pub history_sound : (base : Base) (history : List Entry) → IsDatastore base.store → IsWithinLimits base.store → Lawful base history → AllByRecursion HasTime history → AllByRecursion IsSoundEntry history
unfolding Lawful
history_sound base [] sound limits h times = tt
history_sound base (entry.Began slot request ∷ history) sound limits h times = (h.1.sound, history_sound base history sound limits h.0 times.1)
history_sound base (entry.Fed slot at live ∷ history) sound limits h times =
    ((times.0, recursion_from_All IsHandleId live h.1.sound), history_sound base history sound limits h.0 times.1)
history_sound base (entry.Stopped slot ∷ history) sound limits h times = (tt, history_sound base history sound limits h.0 times.1)
history_sound base (entry.Called c ∷ history) sound limits h times =
    let may = h.1 in
    let few = may.turn.not_worn in
    let cluster = cluster_at base history in
    let tells : OfSlot (Some may.running) = subst (λ (o : Option RunningRequest). OfSlot o) may.runs (slots-tell base history sound h.0 c.slot) in
    let told = call-sound c.slot c.fate cluster.store cluster.entries may.running.word c (omega (arith, few)) (sound_law base history sound h.0) (limits_law base history sound limits h.0) tells may.is_called in (
      record { call = told.0; reply = told.1; written = written-sound base history c sound h; answer = told.2 },
      history_sound base history sound limits h.0 times.1,
    )

-- ---- names

call-named : (slot : ℕ) (fate : Fate) (store : Datastore) (moment : ℕ) (w : Word Answer) (c : Called) → Tells IsSoundAnswer w → call_entry slot fate store moment w ≡ Some c → IsSoundName c.call
call-named slot fate store moment (Ends answer) c h e = absurd (cc e)
call-named slot fate store moment (Waits next) c h e = absurd (cc e)
call-named slot fate store moment (Asks label asked next) c h e =
    let is : call_made slot fate asked (reply_of store asked) (answer_in (next moment (reply_of store asked))) ≡ c = cc e in
    subst (λ (x : Called). IsSoundName x.call) is (made-named slot fate asked (reply_of store asked) (answer_in (next moment (reply_of store asked))) h.0)
  where
    made-named : (slot : ℕ) (fate : Fate) (asked : Call) (reply : Said) (answer : Option Answer) → IsSoundName (name_of asked) → IsSoundName (call_made slot fate asked reply answer).call
    made-named slot Well asked reply answer name = name
    made-named slot After asked reply answer name = name
    made-named slot Before asked reply answer name = name

pub history_named : (base : Base) (history : List Entry) → IsDatastore base.store → Lawful base history → AllByRecursion HasSoundName history
unfolding Lawful
history_named base [] sound h = tt
history_named base (entry.Began slot request ∷ history) sound h = (tt, history_named base history sound h.0)
history_named base (entry.Fed slot at live ∷ history) sound h = (tt, history_named base history sound h.0)
history_named base (entry.Stopped slot ∷ history) sound h = (tt, history_named base history sound h.0)
history_named base (entry.Called c ∷ history) sound h =
    let may = h.1 in
    let cluster = cluster_at base history in
    let tells : OfSlot (Some may.running) = subst (λ (o : Option RunningRequest). OfSlot o) may.runs (slots-tell base history sound h.0 c.slot) in
    (call-named c.slot c.fate cluster.store cluster.entries may.running.word c tells may.is_called, history_named base history sound h.0)
