-- What the change of a resource is answered where it runs alone: at whatever moment, and so that it can be told.
use Rattle.std.proofs.Common.{◌≡◌, ℕ, zero, suc, ◌+◌, Bool, true, false, List, [], ◌∷◌, ◌++◌, Option, Some, None, refl, ap, ◌∙◌}
use Rattle.std.specs.Prelude.{IsSome, if◌then◌else◌, nat_le, length}
use Rattle.std.specs.List.{list_any}
use Rattle.ipam_pool.specs.declared.pools.Pool.{Pool}
use Rattle.ipam_pool.specs.declared.pools.PoolRefusal.{PoolRefusal}
use Rattle.ipam_pool.specs.declared.pools.PoolRefusal.TheVariants as pool_refusal
use Rattle.ipam_pool.specs.Changes.{refusal_of as pool_refusal_of, with_rules}
use Rattle.ipam_records.specs.declared.record.Record.TheVariants as record_of
use Rattle.ipam_records.specs.Datastore.{Datastore, reply_of, write_granted}
use Rattle.ipam_records.specs.Said.{Said, Found, Missing, Listed, Can, Exists, Conflict, Full, Spent}
use Rattle.ipam_records.specs.Word.{Word, Ends, Asks, Waits, bound}
use Rattle.ipam_model.specs.declared.answer.Answer.{Answer}
use Rattle.ipam_model.specs.declared.answer.Answer.TheVariants as answer
use Rattle.ipam_model.specs.declared.outcome.AdminAnswer.{AdminAnswer}
use Rattle.ipam_model.specs.declared.outcome.AdminAnswer.TheVariants as admin
use Rattle.ipam_model.specs.declared.part.Left.{Left}
use Rattle.ipam_model.specs.declared.part.Outcome.{Outcome}
use Rattle.ipam_model.specs.declared.part.Outcome.TheVariants.{Went, Stops}
use Rattle.ipam_model.specs.declared.part.Stop.TheVariants as stop
use Rattle.ipam_model.specs.declared.request.Admin.{Admin as Change}
use Rattle.ipam_model.specs.declared.request.Admin.TheVariants as change
use Rattle.ipam_model.specs.declared.request.Request.TheVariants.{Admin}
use Rattle.ipam_model.specs.Admin.{Becomes, Changed, Refuses, admin_once, admin_stops, admin_word, admin_write, admin_change, is_named, is_same_pool, most_reservations, pool_appended, pool_refused, with_reservation}
use Rattle.ipam_model.specs.Alone.{alone, alone_over}
use Rattle.ipam_model.specs.Cluster.{store_with}
use Rattle.ipam_model.specs.History.{Base}
use Rattle.ipam_model.specs.Reads.{pools_said, reservations_said}
use Rattle.ipam_model.specs.Requests.{word_of}
use Rattle.ipam_model.specs.Step.{Part, answer_of, goes, left_of, on_write, stops, tries}
use Rattle.ipam_model.specs.Told.{of_admin}
use Rattle.ipam_shared.specs.Kept.{opened}
use Rattle.ipam_resources.specs.Printed.{numbered_refusal}
use Rattle.ipam_commands.specs.Ready.{IsOfDocument}

-- ---- words that hear no moment

-- what follows a call does not depend on its moment, and each answer is so
abbrev pub IsSteady : {A : Type 0} → (A → Type 0) → Word A → Type 0
IsSteady P (Ends told) = P told
IsSteady P (Asks label call next) =
    (moment other : ℕ) (said : Said) → (next moment said ≡ next other said) × IsSteady P (next moment said)
IsSteady P (Waits next) = ⊥

steady-alone : {A : Type 0} (P : A → Type 0) (w : Word A) → IsSteady P w → (store : Datastore) (moment other : ℕ) (live : List (List ℕ)) → alone store moment live w ≡ alone store other live w
steady-alone P (Ends told) h store moment other live = refl
steady-alone {A} P (Asks label call next) h store moment other live =
    let said = reply_of store call in
    let behind = store_with (write_granted call said) store in
    let both = h moment other said in
    steady-alone P (next moment said) both.1 behind (moment + 1) (other + 1) live
    ∙ ap (λ (w : Word A). alone behind (other + 1) live w) both.0
steady-alone P (Waits next) h store moment other live = absurd h

steady-answer : {A : Type 0} (P : A → Type 0) (w : Word A) → IsSteady P w → (store : Datastore) (moment : ℕ) (live : List (List ℕ)) → P (alone store moment live w).0
steady-answer P (Ends told) h store moment live = h
steady-answer P (Asks label call next) h store moment live =
    let said = reply_of store call in
    steady-answer P (next moment said) (h moment moment said).1 (store_with (write_granted call said) store) (moment + 1) live
steady-answer P (Waits next) h store moment live = absurd h

steady-bound : {A B : Type 0} (P : A → Type 0) (Q : B → Type 0) (f : A → Word B) → ((told : A) → P told → IsSteady Q (f told)) → (w : Word A) → IsSteady P w → IsSteady Q (bound w f)
steady-bound P Q f each (Ends told) h = each told h
steady-bound {A} P Q f each (Asks label call next) h = λ moment other said.
    let both = h moment other said in
    (ap (λ (w : Word A). bound w f) both.0, steady-bound P Q f each (next moment said) both.1)
steady-bound P Q f each (Waits next) h = absurd h

-- ---- a change

-- a refusal that can be told
abbrev CanTell : AdminAnswer → Type 0
CanTell (admin.Refused number name) = IsSome (numbered_refusal number name)
CanTell _ = Unit {0}

abbrev CanTellPart : Outcome AdminAnswer → Type 0
CanTellPart (Went left told) = CanTell told
CanTellPart (Stops left why) = Unit {0}

abbrev CanTellChanged : Changed → Type 0
CanTellChanged (Becomes new) = Unit {0}
CanTellChanged (Refuses number name) = IsSome (numbered_refusal number name)

-- an answer that is no refusal, or one that can be told
abbrev pub CanTellAnswer : Answer → Type 0
CanTellAnswer (answer.Refused number name) = IsSome (numbered_refusal number name)
CanTellAnswer _ = Unit {0}

wrote : (again : Part AdminAnswer) → IsSteady CanTellPart again → (left : Left) (said : Said) → IsSteady CanTellPart (on_write said left (λ revision. goes left (admin.Done revision)) again)
wrote again h left (Can revision) = tt
wrote again h left Missing = h
wrote again h left (Exists revision) = h
wrote again h left (Conflict revision) = h
wrote again h left Full = tt
wrote again h left Spent = tt
wrote again h left (Found revision found) = h
wrote again h left (Listed rows) = h

write-steady : (again : Part AdminAnswer) → IsSteady CanTellPart again → (left : Left) (said : Said) (what : Changed) → CanTellChanged what → IsSteady CanTellPart (admin_write again left said what)
write-steady again h left said (Becomes new) fine = λ moment other reply. (refl, wrote again h left reply)
write-steady again h left said (Refuses number name) fine = fine

once-steady : (one : Change) → ((said : Said) → CanTellChanged (admin_change one said)) → (again : Part AdminAnswer) → IsSteady CanTellPart again → (left : Left) → IsSteady CanTellPart (admin_once one again left)
once-steady one fine again h left = λ moment other said. (refl, write-steady again h left said (admin_change one said) (fine said))

tries-steady : (one : Change) → ((said : Said) → CanTellChanged (admin_change one said)) → (races claims : ℕ) → IsSteady CanTellPart (tries (admin_once one) races claims)
unfolding tries
tries-steady one fine zero claims = once-steady one fine (stops (left_of zero claims) stop.OutOfTries) tt (left_of zero claims)
tries-steady one fine (suc races) claims = once-steady one fine (tries (admin_once one) races claims) (tries-steady one fine races claims) (left_of (suc races) claims)

settled : (o : Outcome AdminAnswer) → CanTellPart o → CanTell (answer_of admin_stops o)
settled (Went left told) h = h
settled (Stops left stop.OutOfTries) h = tt
settled (Stops left stop.OutOfClaims) h = tt
settled (Stops left stop.NoRoom) h = tt
settled (Stops left (stop.CountAtLimit moment)) h = tt
settled (Stops left stop.NoRevisions) h = tt

word-steady : (one : Change) → ((said : Said) → CanTellChanged (admin_change one said)) → IsSteady CanTell (admin_word one)
word-steady one fine =
    steady-bound CanTellPart CanTell (λ (o : Outcome AdminAnswer). Ends (answer_of admin_stops o)) settled (tries (admin_once one) 63 63) (tries-steady one fine 63 63)

told-as : (told : AdminAnswer) → CanTell told → CanTellAnswer (of_admin told)
told-as (admin.Done revision) h = tt
told-as (admin.Refused number name) h = h
told-as (admin.Again lost) h = tt
told-as admin.Full h = tt
told-as admin.Spent h = tt

-- ---- the changes of a document

either : (b : Bool) (one other : Changed) → CanTellChanged one → CanTellChanged other → CanTellChanged (if b then one else other)
either true one other h k = h
either false one other h k = k

refused-tells : (pools : List Pool) (pool : Pool) (why : PoolRefusal) → CanTellChanged (pool_refused pools pool why)
unfolding numbered_refusal
refused-tells pools pool pool_refusal.NameTaken = refl
refused-tells pools pool (pool_refusal.Overlap place) = refl
refused-tells pools pool pool_refusal.Size = refl
refused-tells pools pool pool_refusal.Prefix = refl
refused-tells pools pool pool_refusal.TooMany = refl
refused-tells pools pool pool_refusal.Memory = refl

appended-tells : (pools : List Pool) (pool : Pool) (why : Option PoolRefusal) → CanTellChanged (pool_appended pools pool why)
appended-tells pools pool None = tt
appended-tells pools pool (Some why) = refused-tells pools pool why

seven : (name : List ℕ) → IsSome (numbered_refusal 7 name)
unfolding numbered_refusal
seven name = refl

change-tells : (one : Change) → IsOfDocument one → (said : Said) → CanTellChanged (admin_change one said)
change-tells (change.Pool pool) h said =
    let pools = pools_said said in
    either (list_any (is_same_pool pool) pools)
    (Becomes (record_of.Pools (with_rules pool.name pool.disabled pool.mode pool.selector pools)))
    (pool_appended pools pool (pool_refusal_of pools pool)) tt (appended-tells pools pool (pool_refusal_of pools pool))
change-tells (change.Reserve new) h said =
    let list = reservations_said said in
    either (list_any (is_named new.name) list) (Becomes (record_of.Reservations (with_reservation new list)))
    (if nat_le most_reservations (length list) then Refuses 7 new.name else Becomes (record_of.Reservations (list ++ new ∷ []))) tt
    (either (nat_le most_reservations (length list)) (Refuses 7 new.name) (Becomes (record_of.Reservations (list ++ new ∷ []))) (seven new.name) tt)
change-tells (change.Config config) h said = tt
change-tells (change.Disable name disabled) h said = absurd h
change-tells (change.Unreserve name) h said = absurd h

steady : (one : Change) → IsOfDocument one → IsSteady CanTellAnswer (word_of (Admin one))
unfolding word_of
steady one h =
    steady-bound CanTell CanTellAnswer (λ (told : AdminAnswer). Ends (of_admin told)) told-as (admin_word one) (word-steady one (change-tells one h))

-- the number of entries before it makes no difference
pub alone_anew : (base : Base) (one : Change) → IsOfDocument one → alone_over base (Admin one) ≡ alone_over (opened base.store) (Admin one)
alone_anew base one h = steady-alone CanTellAnswer (word_of (Admin one)) (steady one h) base.store (base.first + 1) (0 + 1) []

-- and it can be told
pub alone_tells : (base : Base) (one : Change) → IsOfDocument one → CanTellAnswer (alone_over base (Admin one)).0
alone_tells base one h = steady-answer CanTellAnswer (word_of (Admin one)) (steady one h) base.store (base.first + 1) []
