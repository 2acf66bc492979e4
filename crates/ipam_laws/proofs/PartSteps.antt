-- The parts of requests take steps of their kinds.
use Rattle.std.proofs.Common.{◌≡◌, ℕ, zero, suc, ◌<◌, ◌⊎◌, inl, inr, Bool, true, false, cond, List, [], ◌∷◌, Option, Some, None, refl, sym, ap, ◌∙◌, subst, arith}
use Rattle.std.specs.Prelude.{nat_le}
use Rattle.std.proofs.lemmas.Bool.{leb-false}
use Rattle.ipam_addr.specs.Shape.{CidrValue}
use Rattle.ipam_block.specs.HandleShape as handle
use Rattle.ipam_block.specs.HandleOperations.{content, count_of, with_raised_count, with_lowered_count}
use Rattle.ipam_records.specs.declared.key.Key.TheVariants as key
use Rattle.ipam_records.specs.declared.record.Record.{Record}
use Rattle.ipam_records.specs.declared.record.Record.TheVariants as record_of
use Rattle.ipam_records.specs.declared.call.Call.TheVariants as call
use Rattle.ipam_records.specs.Datastore.{Datastore, reply_of, reply_to_get, row_of, write_of}
use Rattle.ipam_model.specs.Cluster.{store_with}
use Rattle.ipam_records.specs.Label.{CallLabel, Credit, idle, owing}
use Rattle.ipam_records.specs.Said.{Said, Found, Missing, Can}
use Rattle.ipam_records.specs.Word.{Word, Asks}
use Rattle.ipam_model.specs.AffinityLaw.{HasAt}
use Rattle.ipam_model.specs.Counting.{most_count, raise, raise_once, raise_write, lower, lower_once, lower_write, written_or_deleted, credit_of}
use Rattle.ipam_model.specs.Reads.{handle_said}
use Rattle.ipam_model.specs.declared.part.Left.{Left}
use Rattle.ipam_model.specs.declared.part.Outcome.{Outcome}
use Rattle.ipam_model.specs.declared.part.Stop.TheVariants.{OutOfTries, CountAtLimit, NoRoom, NoRevisions}
use Rattle.ipam_model.specs.declared.part.Outcome.TheVariants.{Went, Stops}
use Rattle.ipam_model.specs.Step.{left_of, Part, goes, stops, onward, part_then, tries, write_back, on_write}
use Rattle.ipam_laws.proofs.Lift.{Known, more, Grows, Agrees, label_to, Meets, label_to-bound, Meets-bound}
use Rattle.ipam_laws.proofs.Calls.{found-key, found-handle, create-can, update-can, delete-can, can-put, can-remove, get-meets, write-meets}
use Rattle.ipam_laws.proofs.Steps.{IsCountable, countable-grows, Step, Idles, Owes, Raises, Lowers, LowersOut, step-grows}

-- nothing is said of an answer
abbrev pub Any : {A : Type 0} → Known → A → Type 0
Any known answer = Unit {0}

abbrev pub still : {A : Type 0} → A → CallLabel
still answer = idle

abbrev pub Steps : {A : Type 0} → (A → CallLabel) → Known → Word A → Type 0
Steps {A} following known word = Meets Step following (Any {A = A}) known word

pub any-lasts : {A : Type 0} → (one other : Known) (a : A) → Grows one other → Unit {0} → Unit {0}
any-lasts one other a grows t = tt

-- ---- raising

abbrev pub raised_label : List ℕ → CidrValue → Outcome (Unit {0}) → CallLabel
raised_label id cidr (Went left done) = owing (credit_of id cidr 1)
raised_label id cidr (Stops left why) = idle

-- the handle was read as known, or is still missing
abbrev pub IsHandleRead : Known → List ℕ → Said → Type 0
IsHandleRead known id said =
    (said ≡ Missing) ⊎ ((revision : ℕ) × (h : handle.HandleValue) × (said ≡ Found revision (record_of.Handle h)) × (h.id ≡ id) × known (key.Handle id) revision (record_of.Handle h))

pub handle-read : (known : Known) (store : Datastore) (id : List ℕ) → IsHandleRead (more known store store) id (reply_to_get (row_of (key.Handle id) store.rows))
handle-read known store id = from (row_of (key.Handle id) store.rows) refl
  where
    from : (o : Option (ℕ × Record)) → row_of (key.Handle id) store.rows ≡ o → IsHandleRead (more known store store) id (reply_to_get o)
    from None e = inl refl
    from (Some row) e =
        let (h, is, same) = found-handle id row.1 (found-key store (key.Handle id) row.0 row.1 e) in
        inr (row.0, h, ap (Found row.0) is, same, inr (inl (e ∙ ap (λ (x : Record). Some (row.0, x)) is)))

-- a known handle that is there is still the same
known-handle : (known : Known) (store : Datastore) (id : List ℕ) (revision : ℕ) (h : handle.HandleValue) (old : Record) → Agrees known store → known (key.Handle id) revision (record_of.Handle h) → HasAt store (key.Handle id) revision old → HasAt store (key.Handle id) revision (record_of.Handle h)
known-handle known store id revision h old agrees k there =
    let is = agrees.same (key.Handle id) revision (record_of.Handle h) old k there in
    there ∙ ap (λ (x : Record). Some (revision, x)) (sym is)

-- the count is below its limit
IsBelow : List ℕ → CidrValue → Said → Type 0
IsBelow id cidr said = count_of (handle_said id said) cidr < most_count

raise-done : (known : Known) (id : List ℕ) (cidr : CidrValue) (said : Said) → IsHandleRead known id said → IsCountable known id cidr → IsBelow id cidr said → (store : Datastore) → Agrees known store → (r : ℕ) → reply_of store (write_back said (record_of.Handle (with_raised_count (handle_said id said) cidr 1))) ≡ Can r → Step known store (store_with (write_of (write_back said (record_of.Handle (with_raised_count (handle_said id said) cidr 1))) r) store) idle (owing (credit_of id cidr 1))
unfolding IsBelow
raise-done known id cidr said (inl missing) countable below store agrees r e =
    let P : Said → Type 0 = λ s. IsBelow id cidr s → reply_of store (write_back s (record_of.Handle (with_raised_count (handle_said id s) cidr 1))) ≡ Can r → Step known store (store_with (write_of (write_back s (record_of.Handle (with_raised_count (handle_said id s) cidr 1))) r) store) idle (owing (credit_of id cidr 1)) in
    let new = record_of.Handle (with_raised_count (content id []) cidr 1) in
    let created : P Missing = λ l f. Raises id cidr (content id []) (can-put store new (call.Create new) r f) refl refl (inl (create-can store new r f, refl)) l countable in
    subst P (sym missing) created below e
raise-done known id cidr said (inr (revision, h, is, same, k)) countable below store agrees r e =
    let P : Said → Type 0 = λ s. IsBelow id cidr s → reply_of store (write_back s (record_of.Handle (with_raised_count (handle_said id s) cidr 1))) ≡ Can r → Step known store (store_with (write_of (write_back s (record_of.Handle (with_raised_count (handle_said id s) cidr 1))) r) store) idle (owing (credit_of id cidr 1)) in
    let new = record_of.Handle (with_raised_count h cidr 1) in
    let updated : P (Found revision (record_of.Handle h)) = λ l f.
    let (old, there) = update-can store new revision r f in
    let there' = subst (λ (x : List ℕ). HasAt store (key.Handle x) revision old) same there in
    Raises id cidr h (can-put store new (call.Update new revision) r f) refl refl (inr (revision, known-handle known store id revision h old agrees k there', same)) l countable in
    subst P (sym is) updated below e

raise_write-steps : (known : Known) (again : Part (Unit {0})) (left : Left) (id : List ℕ) (cidr : CidrValue) (said : Said) → IsHandleRead known id said → ((other : Known) → IsCountable other id cidr → Steps (raised_label id cidr) other again) → label_to (raised_label id cidr) again ≡ idle → IsCountable known id cidr → IsBelow id cidr said → Steps (raised_label id cidr) known (raise_write id cidr again left said)
raise_write-steps known again left id cidr said read a l countable below =
    write-meets Step step-grows (raised_label id cidr) Any known idle (write_back said (record_of.Handle (with_raised_count (handle_said id said) cidr 1))) (λ revision. goes left tt) again (stops left NoRoom) (stops left NoRevisions) any-lasts
    (raise-done known id cidr said read countable below) (λ other r grows w. tt)
    (λ store. Idles refl l) (a known countable)
    (λ store. Idles refl refl) tt (λ store. Idles refl refl) tt

raise_read-steps : (known : Known) (again : Part (Unit {0})) (left : Left) (id : List ℕ) (cidr : CidrValue) (moment : ℕ) (said : Said) → IsHandleRead known id said → ((other : Known) → IsCountable other id cidr → Steps (raised_label id cidr) other again) → label_to (raised_label id cidr) again ≡ idle → IsCountable known id cidr → (b : Bool) → nat_le most_count (count_of (handle_said id said) cidr) ≡ b
    → (label_to (raised_label id cidr) (cond b (stops left (CountAtLimit moment)) (raise_write id cidr again left said)) ≡ idle) × Steps (raised_label id cidr) known (cond b (stops left (CountAtLimit moment)) (raise_write id cidr again left said))
unfolding IsBelow
raise_read-steps known again left id cidr moment said read a l countable true e = (refl, tt)
raise_read-steps known again left id cidr moment said read a l countable false e = (refl, raise_write-steps known again left id cidr said read a l countable (leb-false most_count (count_of (handle_said id said) cidr) e))

raise_once-steps : (known : Known) (id : List ℕ) (cidr : CidrValue) (again : Part (Unit {0})) (left : Left) → ((other : Known) → IsCountable other id cidr → Steps (raised_label id cidr) other again) → label_to (raised_label id cidr) again ≡ idle → IsCountable known id cidr → Steps (raised_label id cidr) known (raise_once id cidr again left)
raise_once-steps known id cidr again left a l countable =
    get-meets Step (raised_label id cidr) Any known idle (key.Handle id) (λ moment said. cond (nat_le most_count (count_of (handle_said id said) cidr)) (stops left (CountAtLimit moment)) (raise_write id cidr again left said)) (λ moment store agrees.
    let (label, meets) = raise_read-steps (more known store store) again left id cidr moment (reply_to_get (row_of (key.Handle id) store.rows)) (handle-read known store id) a l (countable-grows known (more known store store) id cidr (λ k r f there. inl there) countable) (nat_le most_count (count_of (handle_said id (reply_to_get (row_of (key.Handle id) store.rows))) cidr)) refl in
    (Idles refl label, meets))

raise_tries-label : (id : List ℕ) (cidr : CidrValue) (races claims : ℕ) → label_to (raised_label id cidr) (tries (raise_once id cidr) races claims) ≡ idle
unfolding tries
raise_tries-label id cidr zero claims = refl
raise_tries-label id cidr (suc races) claims = refl

pub raise-label : (id : List ℕ) (cidr : CidrValue) (left : Left) → label_to (raised_label id cidr) (raise id cidr left) ≡ idle
raise-label id cidr left = raise_tries-label id cidr left.races left.claims

raise_tries-steps : (id : List ℕ) (cidr : CidrValue) (races claims : ℕ) (known : Known) → IsCountable known id cidr → Steps (raised_label id cidr) known (tries (raise_once id cidr) races claims)
unfolding tries
raise_tries-steps id cidr zero claims known countable = raise_once-steps known id cidr (stops (left_of zero claims) OutOfTries) (left_of zero claims) (λ other c. tt) refl countable
raise_tries-steps id cidr (suc races) claims known countable =
    raise_once-steps known id cidr (tries (raise_once id cidr) races claims) (left_of (suc races) claims)
    (λ other c. raise_tries-steps id cidr races claims other c) (raise_tries-label id cidr races claims) countable

pub raise-steps : (id : List ℕ) (cidr : CidrValue) (left : Left) (known : Known) → IsCountable known id cidr → Steps (raised_label id cidr) known (raise id cidr left)
raise-steps id cidr left known countable = raise_tries-steps id cidr left.races left.claims known countable

-- ---- lowering

-- what owes goes on owing, or owes nothing more
abbrev pub GoesOn : Credit → CallLabel → Type 0
GoesOn credit after = (after ≡ idle) ⊎ (after ≡ owing credit)

pub goes-on : (known : Known) (store : Datastore) (credit : Credit) (after : CallLabel) → GoesOn credit after → Step known store store (owing credit) after
goes-on known store credit after (inl ends) = Idles refl ends
goes-on known store credit after (inr owes) = Owes credit refl refl owes

lower_found-steps : (known : Known) (again : Part (Unit {0})) (left : Left) (credit : Credit) (revision : ℕ) (h : handle.HandleValue) → h.id ≡ credit.handle → known (key.Handle credit.handle) revision (record_of.Handle h) → ((other : Known) → Steps still other again) → GoesOn credit (label_to still again) → (counts : List (CidrValue × ℕ)) → (with_lowered_count h credit.block credit.amount).counts ≡ counts
    → Steps still known (Asks (owing credit) (written_or_deleted (with_lowered_count h credit.block credit.amount) counts revision) (λ moment reply. on_write reply left (λ taken. goes left tt) again))
lower_found-steps known again left credit revision h same k a l [] empty =
    write-meets Step step-grows still Any known (owing credit) (call.Delete (key.Handle h.id) revision) (λ taken. goes left tt) again (stops left NoRoom) (stops left NoRevisions) any-lasts
    (λ store agrees r e.
    let (old, there) = delete-can store (key.Handle h.id) revision r e in
    let there' = subst (λ (x : List ℕ). HasAt store (key.Handle x) revision old) same there in
    LowersOut credit h revision (can-remove store (key.Handle h.id) (call.Delete (key.Handle h.id) revision) r e) refl refl (known-handle known store credit.handle revision h old agrees k there') same empty)
    (λ other r grows w. tt)
    (λ store. goes-on known store credit (label_to still again) l) (a known)
    (λ store. Idles refl refl) tt (λ store. Idles refl refl) tt
lower_found-steps known again left credit revision h same k a l (count ∷ counts) some =
    write-meets Step step-grows still Any known (owing credit) (call.Update (record_of.Handle (with_lowered_count h credit.block credit.amount)) revision) (λ taken. goes left tt) again (stops left NoRoom) (stops left NoRevisions) any-lasts
    (λ store agrees r e.
    let (old, there) = update-can store (record_of.Handle (with_lowered_count h credit.block credit.amount)) revision r e in
    let there' = subst (λ (x : List ℕ). HasAt store (key.Handle x) revision old) same there in
    Lowers credit h revision count counts (can-put store (record_of.Handle (with_lowered_count h credit.block credit.amount)) (call.Update (record_of.Handle (with_lowered_count h credit.block credit.amount)) revision) r e) refl refl (known-handle known store credit.handle revision h old agrees k there') same some)
    (λ other r grows w. tt)
    (λ store. goes-on known store credit (label_to still again) l) (a known)
    (λ store. Idles refl refl) tt (λ store. Idles refl refl) tt

-- a handle that was missing is not there at revision 0
lower_missing-steps : (known : Known) (again : Part (Unit {0})) (left : Left) (credit : Credit) (h : handle.HandleValue) (counts : List (CidrValue × ℕ)) → ((other : Known) → Steps still other again) → GoesOn credit (label_to still again)
    → Steps still known (Asks (owing credit) (written_or_deleted h counts 0) (λ moment reply. on_write reply left (λ taken. goes left tt) again))
lower_missing-steps known again left credit h [] a l =
    write-meets Step step-grows still Any known (owing credit) (call.Delete (key.Handle h.id) 0) (λ taken. goes left tt) again (stops left NoRoom) (stops left NoRevisions) any-lasts
    (λ store agrees r e. let (old, there) = delete-can store (key.Handle h.id) 0 r e in let some = agrees.positive (key.Handle h.id) 0 old there in absurd (omega arith))
    (λ other r grows w. tt)
    (λ store. goes-on known store credit (label_to still again) l) (a known)
    (λ store. Idles refl refl) tt (λ store. Idles refl refl) tt
lower_missing-steps known again left credit h (count ∷ counts) a l =
    write-meets Step step-grows still Any known (owing credit) (call.Update (record_of.Handle h) 0) (λ taken. goes left tt) again (stops left NoRoom) (stops left NoRevisions) any-lasts
    (λ store agrees r e. let (old, there) = update-can store (record_of.Handle h) 0 r e in let some = agrees.positive (key.Handle h.id) 0 old there in absurd (omega arith))
    (λ other r grows w. tt)
    (λ store. goes-on known store credit (label_to still again) l) (a known)
    (λ store. Idles refl refl) tt (λ store. Idles refl refl) tt

lower_write-steps : (known : Known) (again : Part (Unit {0})) (left : Left) (credit : Credit) (said : Said) → IsHandleRead known credit.handle said → ((other : Known) → Steps still other again) → GoesOn credit (label_to still again) → Steps still known (lower_write credit again left said)
lower_write-steps known again left credit said (inl missing) a l =
    subst (λ (s : Said). Steps still known (lower_write credit again left s)) (sym missing)
    (lower_missing-steps known again left credit (with_lowered_count (content credit.handle []) credit.block credit.amount) (with_lowered_count (content credit.handle []) credit.block credit.amount).counts a l)
lower_write-steps known again left credit said (inr (revision, h, is, same, k)) a l =
    subst (λ (s : Said). Steps still known (lower_write credit again left s)) (sym is)
    (lower_found-steps known again left credit revision h same k a l (with_lowered_count h credit.block credit.amount).counts refl)

lower_once-steps : (known : Known) (again : Part (Unit {0})) (left : Left) (credit : Credit) → ((other : Known) → Steps still other again) → GoesOn credit (label_to still again) → Steps still known (lower_once credit again left)
lower_once-steps known again left credit a l =
    get-meets Step still Any known (owing credit) (key.Handle credit.handle) (λ moment said. lower_write credit again left said) (λ moment store agrees. (
      Owes credit refl refl refl,
      lower_write-steps (more known store store) again left credit (reply_to_get (row_of (key.Handle credit.handle) store.rows)) (handle-read known store credit.handle) a l,
    ))

lower_tries-label : (credit : Credit) (races claims : ℕ) → label_to still (tries (lower_once credit) races claims) ≡ owing credit
unfolding tries
lower_tries-label credit zero claims = refl
lower_tries-label credit (suc races) claims = refl

pub lower-label : (credit : Credit) (left : Left) → label_to still (lower credit left) ≡ owing credit
lower-label credit left = lower_tries-label credit left.races left.claims

lower_tries-steps : (credit : Credit) (races claims : ℕ) (known : Known) → Steps still known (tries (lower_once credit) races claims)
unfolding tries
lower_tries-steps credit zero claims known = lower_once-steps known (stops (left_of zero claims) OutOfTries) (left_of zero claims) credit (λ other. tt) (inl refl)
lower_tries-steps credit (suc races) claims known =
    lower_once-steps known (tries (lower_once credit) races claims) (left_of (suc races) claims) credit (λ other. lower_tries-steps credit races claims other)
    (inr (lower_tries-label credit races claims))

pub lower-steps : (credit : Credit) (left : Left) (known : Known) → Steps still known (lower credit left)
lower-steps credit left known = lower_tries-steps credit left.races left.claims known

-- what the count is lowered before, where that ends the part
pub lowered-steps : {A : Type 0} → (credit : Credit) (left : Left) (value : A) (known : Known) → (label_to still (part_then (lower credit left) (λ now done. goes now value)) ≡ owing credit) × Steps still known (part_then (lower credit left) (λ now done. goes now value))
lowered-steps {A} credit left value known = (
  sym (label_to-bound Step still still (onward (λ now done. goes now value)) labels (lower credit left)) ∙ lower-label credit left,
  Meets-bound Step still still Any Any (onward (λ now done. goes now value)) labels (lower credit left) known (lower-steps credit left known) (λ wider o grows t. steps o wider),
)
  where
    labels : (o : Outcome (Unit {0})) → idle ≡ label_to still (onward {A = Unit {0}} {B = A} (λ now done. goes now value) o)
    labels (Went now done) = refl
    labels (Stops now why) = refl

    steps : (o : Outcome (Unit {0})) (wider : Known) → Steps still wider (onward {A = Unit {0}} {B = A} (λ now done. goes now value) o)
    steps (Went now done) wider = tt
    steps (Stops now why) wider = tt
