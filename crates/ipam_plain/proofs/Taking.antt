-- What raising a count and assigning an address come to, alone.
use Rattle.std.proofs.Common.{◌≡◌, ℕ, zero, suc, ◌+◌, ◌<◌, Bool, true, false, cond, List, Option, Some, None, refl, sym, ap, ◌∙◌, subst, arith}
use Rattle.std.specs.Prelude.{nat_le}
use Rattle.std.proofs.lemmas.Bool.{leb-true}
use Rattle.ipam_addr.specs.Shape.{CidrValue}
use Rattle.ipam_block.specs.declared.allocation.Attributes.{Attributes}
use Rattle.ipam_block.specs.Operations.{block_with_ordinal, next_block}
use Rattle.ipam_block.specs.Shape.{BlockValue}
use Rattle.ipam_block.specs.HandleOperations.{count_of, with_raised_count}
use Rattle.ipam_block.specs.HandleShape.{HandleValue}
use Rattle.ipam_records.specs.declared.call.Call.TheVariants.{Get}
use Rattle.ipam_records.specs.declared.key.Key.{Key}
use Rattle.ipam_records.specs.declared.key.Key.TheVariants as key
use Rattle.ipam_records.specs.declared.record.Record.{Record}
use Rattle.ipam_records.specs.declared.record.Record.TheVariants as record_of
use Rattle.ipam_records.specs.Datastore.{Datastore, has_room, last_revision, reply_of, reply_to_get, row_of}
use Rattle.ipam_records.specs.Key.{key_of}
use Rattle.ipam_records.specs.Label.{idle}
use Rattle.ipam_records.specs.Said.{Found}
use Rattle.ipam_records.specs.Word.{Word}
use Rattle.ipam_model.specs.declared.part.Assigned.{Assigned}
use Rattle.ipam_model.specs.declared.part.Left.{Left}
use Rattle.ipam_model.specs.declared.part.Stop.TheVariants.{CountAtLimit, OutOfTries, NoRoom, NoRevisions}
use Rattle.ipam_model.specs.AffinityLaw.{HasAt}
use Rattle.ipam_model.specs.Assigning.{Target, assign, assign_block, assign_lost}
use Rattle.ipam_model.specs.Counting.{most_count, raise, raise_once, raise_write}
use Rattle.ipam_model.specs.Plain.{Rows, handle_of, put, with_assigned}
use Rattle.ipam_model.specs.Reads.{handle_said}
use Rattle.ipam_model.specs.Step.{Part, after_write, goes, left_of, stops, tries, write_back}
use Rattle.ipam_laws.proofs.AloneCalls.{Runs, runs-get}
use Rattle.ipam_laws.proofs.Calls.{found-handle, found-key}
use Rattle.ipam_laws.proofs.CountSteps.{put-other}
use Rattle.ipam_laws.proofs.Lift.{behind}
use Rattle.ipam_records.proofs.RowWrites.{sorted-with_row}
use Rattle.ipam_plain.proofs.Alike.{IsSorted, alike-handle, record-row, record_at, record_at-other, record_at-put, record_in}
use Rattle.ipam_plain.proofs.Budget.{Enough, enough-other, enough-there, room-other}
use Rattle.ipam_plain.proofs.Writes.{Comes, IsAs, as-put, comes-followed, create-runs, put_in, update-runs}

-- ---- room for a handle

-- the rows that are needed, with the handle's where that may be missing
abbrev pub with_handle : (missing : Bool) → (rows : ℕ) → ℕ
with_handle true rows = suc rows
with_handle false rows = rows

abbrev pub RoomFor : (missing : Bool) → Datastore → List ℕ → Type 0
RoomFor true store id = Unit {0}
RoomFor false store id = (there : Record) × (record_at (key.Handle id) store.rows ≡ Some there)

-- where it is missing there is room for it
abbrev HasPlace : Datastore → List ℕ → Type 0
HasPlace store id = row_of (key.Handle id) store.rows ≡ None → has_room store (key.Handle id) ≡ true

has-place : (missing : Bool) (revisions rows blocks : ℕ) (store : Datastore) (id : List ℕ) → RoomFor missing store id → Enough revisions (with_handle missing rows) blocks store → HasPlace store id
has-place true revisions rows blocks store id room enough none = room-other revisions rows blocks store (key.Handle id) enough refl
has-place false revisions rows blocks store id room enough none = let there = room.1 in let absent = ap record_in none in absurd (cc (there, absent))

-- what is written back as it was read is done
pub back-runs : {A : Type 0} → (live : List (List ℕ)) (Q : Datastore → A → Type 0) (store : Datastore) (moment : ℕ) (k : Key) (new : Record) (took : ℕ → Word A) (lost full spent : Word A) → key_of new ≡ k → (row_of k store.rows ≡ None → has_room store k ≡ true) → store.counter < last_revision
    → Runs live Q (put_in store new) (moment + 1) (took (store.counter + 1))
    → Runs live Q (behind store (write_back (reply_of store (Get k)) new)) (moment + 1) (after_write (reply_of store (write_back (reply_of store (Get k)) new)) took lost full spent)
back-runs live Q store moment k new took lost full spent same room left h = by (row_of k store.rows) refl
  where
    by : (o : Option (ℕ × Record)) → row_of k store.rows ≡ o → Runs live Q (behind store (write_back (reply_to_get o) new)) (moment + 1) (after_write (reply_of store (write_back (reply_to_get o) new)) took lost full spent)
    by None e =
        create-runs live Q store moment new took lost full spent (subst (λ (x : Key). row_of x store.rows ≡ None) (sym same) e) (subst (λ (x : Key). has_room store x ≡ true) (sym same) (room e)) left h
    by (Some row) e =
        update-runs live Q store moment new row.1 row.0 took lost full spent (subst (λ (x : Key). HasAt store x row.0 row.1) (sym same) e) left h

-- the handle that is read has its id
pub handle-id : (id : List ℕ) (store : Datastore) → (handle_of id store.rows).id ≡ id
handle-id id store = by (row_of (key.Handle id) store.rows) refl
  where
    by : (o : Option (ℕ × Record)) → row_of (key.Handle id) store.rows ≡ o → (handle_said id (reply_to_get o)).id ≡ id
    by None e = refl
    by (Some row) e =
        let (h, is, same) = found-handle id row.1 (found-key store (key.Handle id) row.0 row.1 e) in
        ap (λ (x : Record). (handle_said id (Found row.0 x)).id) is ∙ same

-- the count of the block may rise
abbrev pub IsBelow : Datastore → List ℕ → CidrValue → Type 0
IsBelow store id cidr = count_of (handle_of id store.rows) cidr < most_count

abbrev pub raised_in : Datastore → List ℕ → CidrValue → Datastore
raised_in store id cidr = put_in store (record_of.Handle (with_raised_count (handle_of id store.rows) cidr 1))

abbrev pub assigned_in : Datastore → Attributes → BlockValue → (ordinal : ℕ) → Datastore
assigned_in store attributes b ordinal = put_in (raised_in store attributes.handle b.cidr) (record_of.Block (block_with_ordinal (next_block b) ordinal attributes))

pub as-assigned : (store : Datastore) (rows : Rows) (attributes : Attributes) (b : BlockValue) (ordinal : ℕ) → IsAs store rows → IsAs (assigned_in store attributes b ordinal) (with_assigned attributes b ordinal rows)
as-assigned store rows attributes b ordinal is =
    let id = attributes.handle in
    let same = alike-handle id store.rows rows is.alike in
    let first = as-put store rows (record_of.Handle (with_raised_count (handle_of id store.rows) b.cidr 1)) is in
    let then = subst (λ (h : HandleValue). IsAs (raised_in store id b.cidr) (put (record_of.Handle (with_raised_count h b.cidr 1)) rows)) same first in
    as-put (raised_in store id b.cidr) (put (record_of.Handle (with_raised_count (handle_of id rows) b.cidr 1)) rows) (record_of.Block (block_with_ordinal (next_block b) ordinal attributes)) then

module _ (live : List (List ℕ)) where
  raise-once : (id : List ℕ) (cidr : CidrValue) (again : Part (Unit {0})) (left : Left) (store : Datastore) (moment : ℕ) → IsBelow store id cidr → HasPlace store id → store.counter < last_revision
      → Runs live (Comes left (λ then (done : Unit {0}). then ≡ raised_in store id cidr)) store moment (raise_once id cidr again left)
  raise-once id cidr again left store moment below room spare =
      let Q : Datastore → Unit {0} → Type 0 = λ then done. then ≡ raised_in store id cidr in
      runs-get live (Comes left Q) store moment idle (key.Handle id) (λ at said. cond (nat_le most_count (count_of (handle_said id said) cidr)) (stops left (CountAtLimit at)) (raise_write id cidr again left said))
      (λ good. by (nat_le most_count (count_of (handle_of id store.rows) cidr)) refl)
    where
      by : (b : Bool) → nat_le most_count (count_of (handle_of id store.rows) cidr) ≡ b
          → Runs live (Comes left (λ then (done : Unit {0}). then ≡ raised_in store id cidr)) store (moment + 1) (cond b (stops left (CountAtLimit moment)) (raise_write id cidr again left (reply_of store (Get (key.Handle id)))))
      by true e = let most = leb-true most_count (count_of (handle_of id store.rows) cidr) e in absurd (omega arith)
      by false e = λ good.
          let new = record_of.Handle (with_raised_count (handle_of id store.rows) cidr 1) in
          back-runs live (Comes left (λ then (done : Unit {0}). then ≡ raised_in store id cidr)) store (moment + 1) (key.Handle id) new (λ revision. goes left tt) again (stops left NoRoom) (stops left NoRevisions)
          (ap key.Handle (handle-id id store)) room spare (refl, refl)

  raise-tries : (id : List ℕ) (cidr : CidrValue) (races claims : ℕ) (store : Datastore) (moment : ℕ) → IsBelow store id cidr → HasPlace store id → store.counter < last_revision
      → Runs live (Comes (left_of races claims) (λ then (done : Unit {0}). then ≡ raised_in store id cidr)) store moment (tries (raise_once id cidr) races claims)
  unfolding tries
  raise-tries id cidr zero claims store moment below room spare = raise-once id cidr (stops (left_of zero claims) OutOfTries) (left_of zero claims) store moment below room spare
  raise-tries id cidr (suc races) claims store moment below room spare = raise-once id cidr (tries (raise_once id cidr) races claims) (left_of (suc races) claims) store moment below room spare

  -- the address is assigned
  pub record IsAssigned (store : Datastore) (attributes : Attributes) (target : Target) (then : Datastore) (done : Option Assigned) : Type 0 where
    pub at : ℕ
    pub is_done : done ≡ Some (record { moment = at; stamp = target.block.sequence + 1 })
    pub is_store : then ≡ assigned_in store attributes target.block target.ordinal

  pub assign-comes : (attributes : Attributes) (target : Target) (left : Left) (store : Datastore) (moment : ℕ) (missing : Bool) (revisions rows blocks : ℕ) → HasAt store (key.Block target.block.cidr) target.revision (record_of.Block target.block) → IsBelow store attributes.handle target.block.cidr
      → RoomFor missing store attributes.handle → Enough (suc (suc revisions)) (with_handle missing rows) blocks store
      → Runs live (Comes left (IsAssigned store attributes target)) store moment (assign attributes target left)
  assign-comes attributes target left store moment missing revisions rows blocks there below room enough =
      let id = attributes.handle in
      let cidr = target.block.cidr in
      let spare = enough.revisions_left in
      let place = has-place missing (suc (suc revisions)) rows blocks store id room enough in
      comes-followed live left (λ then (done : Unit {0}). then ≡ raised_in store id cidr) (Comes left (IsAssigned store attributes target)) (λ now done. assign_block attributes target now) (raise id cidr left) store moment
      (raise-tries id cidr left.races left.claims store moment below place (omega arith))
      (λ then later done is. subst (λ (s : Datastore). Runs live (Comes left (IsAssigned store attributes target)) s later (assign_block attributes target left)) (sym is) (writes later))
    where
      writes : (later : ℕ) → Runs live (Comes left (IsAssigned store attributes target)) (raised_in store attributes.handle target.block.cidr) later (assign_block attributes target left)
      writes later = λ good.
          let spare = enough.revisions_left in
          let then = raised_in store attributes.handle target.block.cidr in
          let new = record_of.Block (block_with_ordinal (next_block target.block) target.ordinal attributes) in
          let handle = record_of.Handle (with_raised_count (handle_of attributes.handle store.rows) target.block.cidr 1) in
          let kept = put-other store (store.counter + 1) handle (key.Block target.block.cidr) (λ f. cc f) in
          update-runs live (Comes left (IsAssigned store attributes target)) then later new (record_of.Block target.block) target.revision
          (λ taken. goes left (Some (record { moment = later; stamp = target.block.sequence + 1 }))) (assign_lost attributes target left) (stops left NoRoom) (stops left NoRevisions)
          (kept ∙ there) (omega arith) (refl, record { at = later; is_done = refl; is_store = refl })

-- ---- what is left after it

-- the handle is there
pub handle-there : (store : Datastore) (attributes : Attributes) (b : BlockValue) (ordinal : ℕ) → record_at (key.Handle attributes.handle) (assigned_in store attributes b ordinal).rows ≡ Some (record_of.Handle (with_raised_count (handle_of attributes.handle store.rows) b.cidr 1))
handle-there store attributes b ordinal =
    let id = attributes.handle in
    let h = with_raised_count (handle_of id store.rows) b.cidr 1 in
    let then = raised_in store id b.cidr in
    let put_there = subst (λ (i : List ℕ). record_at (key.Handle i) then.rows ≡ Some (record_of.Handle h)) (handle-id id store) (record_at-put (store.counter + 1, record_of.Handle h) store.rows) in
    record_at-other (key.Handle id) (then.counter + 1, record_of.Block (block_with_ordinal (next_block b) ordinal attributes)) then.rows (λ e. cc e) ∙ put_there

enough-raised : (missing : Bool) (revisions rows blocks : ℕ) (store : Datastore) (id : List ℕ) (h : HandleValue) → h.id ≡ id → RoomFor missing store id → IsSorted store.rows → Enough (suc revisions) (with_handle missing rows) blocks store → Enough revisions rows blocks (put_in store (record_of.Handle h))
enough-raised true revisions rows blocks store id h own room sorted enough = enough-other revisions rows blocks store (record_of.Handle h) enough sorted refl
enough-raised false revisions rows blocks store id h own room sorted enough =
    let (revision, there) = record-row (key.Handle id) store.rows room.0 room.1 in
    enough-there revisions rows blocks store (record_of.Handle h) (revision, room.0) enough sorted (subst (λ (i : List ℕ). row_of (key.Handle i) store.rows ≡ Some (revision, room.0)) (sym own) there)

pub enough-assigned : (missing : Bool) (store : Datastore) (attributes : Attributes) (b : BlockValue) (revision ordinal revisions rows blocks : ℕ) → IsSorted store.rows → HasAt store (key.Block b.cidr) revision (record_of.Block b) → RoomFor missing store attributes.handle → Enough (suc (suc revisions)) (with_handle missing rows) blocks store
    → Enough revisions rows blocks (assigned_in store attributes b ordinal)
enough-assigned missing store attributes b revision ordinal revisions rows blocks sorted there room enough =
    let id = attributes.handle in
    let h = with_raised_count (handle_of id store.rows) b.cidr 1 in
    let raised_one = enough-raised missing (suc revisions) rows blocks store id h (handle-id id store) room sorted enough in
    let kept = put-other store (store.counter + 1) (record_of.Handle h) (key.Block b.cidr) (λ f. cc f) in
    enough-there revisions rows blocks (raised_in store id b.cidr) (record_of.Block (block_with_ordinal (next_block b) ordinal attributes)) (revision, record_of.Block b) raised_one (sorted-with_row (store.counter + 1, record_of.Handle h) store.rows sorted) (kept ∙ there)
