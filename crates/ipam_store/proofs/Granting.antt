-- What a store answers before a write is applied.
use Rattle.std.proofs.Common.{◌≡◌, ◌⊎◌, inl, inr, ℕ, ◌+◌, ◌<◌, length, nat_lt, not, ◌&&◌, ◌||◌, ◌==◌, Bool, true, false, cond, Option, Some, None, IsSome, arith, refl, subst}
use Rattle.std.proofs.lemmas.Bool.Decides.{nat_tests}
use Rattle.ipam_records.specs.declared.key.Key.{Key}
use Rattle.ipam_records.specs.declared.key.Kind.TheVariants as kind
use Rattle.ipam_records.specs.declared.record.Record.{Record}
use Rattle.ipam_records.specs.declared.call.Call.{Call}
use Rattle.ipam_records.specs.declared.call.Call.TheVariants.{Get, List as ListAll, Create, Update, Delete}
use Rattle.ipam_records.specs.declared.call.Write.{Write}
use Rattle.ipam_records.specs.declared.call.Write.TheVariants.{Put, Remove}
use Rattle.ipam_records.specs.Key.{key_of}
use Rattle.ipam_records.specs.KeyOrder.{is_of_kind}
use Rattle.ipam_records.specs.Said.{Can, Conflict, Full, Spent}
use Rattle.ipam_records.specs.Datastore.{Datastore, row_of, rows_of_kind, has_room, granted, last_revision, most_rows, most_blocks, reply_of, reply_to_get, reply_to_create, reply_to_change, write_granted, write_of}
use Rattle.ipam_store.specs.Granted.{IsGranted, HasRoomFor}

-- what is known of a write by its revision, and of the row that it puts in
pub record IsNext (store : Datastore) (revision : ℕ) : Type 0 where
  pub is : revision ≡ store.counter + 1
  pub below : store.counter < last_revision

abbrev pub revision_in : Write → ℕ
revision_in (Put revision new) = revision
revision_in (Remove revision key) = revision

abbrev pub MayPut : Datastore → Write → Type 0
MayPut store (Put revision new) = HasRoomFor store new ⊎ IsSome (row_of (key_of new) store.rows)
MayPut store (Remove revision key) = Unit {0}

pub record Facts (store : Datastore) (write : Write) : Type 0 where
  pub next : IsNext store (revision_in write)
  pub may : MayPut store write

less_told : (n m : ℕ) → nat_lt n m ≡ true → n < m
less_told n m h = grind (arith, nat_tests)

both_true : (a b : Bool) → (a && b) ≡ true → (a ≡ true) × (b ≡ true)
both_true true b h = (refl, h)
both_true false b h = cc h

then_true : (a b : Bool) → (not a || b) ≡ true → a ≡ true → b ≡ true
then_true true b h e = h
then_true false b h e = cc e

room_told : (store : Datastore) (new : Record) → has_room store (key_of new) ≡ true → HasRoomFor store new
room_told store new h =
    let parts = both_true (nat_lt (length store.rows) most_rows) (not (is_of_kind kind.Block (key_of new)) || nat_lt (length (rows_of_kind kind.Block store)) most_blocks) h in
    record {
      few = less_told (length store.rows) most_rows parts.0;
      few_blocks = λ is. less_told (length (rows_of_kind kind.Block store)) most_blocks (then_true (is_of_kind kind.Block (key_of new)) (nat_lt (length (rows_of_kind kind.Block store)) most_blocks) parts.1 is);
    }

-- a write that nothing else refuses
by_counter : (store : Datastore) (call : Call) (write : Write) (b : Bool) → nat_lt store.counter last_revision ≡ b → (nat_lt store.counter last_revision ≡ true → write_of call (store.counter + 1) ≡ Some write → Facts store write) → write_granted call (cond b (Can (store.counter + 1)) Spent) ≡ Some write → Facts store write
by_counter store call write true h f e = f h e
by_counter store call write false h f e = absurd (cc e)

put_facts : (store : Datastore) (new : Record) (write : Write) → MayPut store (Put (store.counter + 1) new) → nat_lt store.counter last_revision ≡ true → Some (Put (store.counter + 1) new) ≡ Some write → Facts store write
put_facts store new write may t e =
    let same : Put (store.counter + 1) new ≡ write = cc e in
    let facts : Facts store (Put (store.counter + 1) new) = record { next = record { is = refl; below = less_told store.counter last_revision t }; may = may } in
    subst (Facts store) same facts

remove_facts : (store : Datastore) (key : Key) (write : Write) → nat_lt store.counter last_revision ≡ true → Some (Remove (store.counter + 1) key) ≡ Some write → Facts store write
remove_facts store key write t e =
    let same : Remove (store.counter + 1) key ≡ write = cc e in
    let facts : Facts store (Remove (store.counter + 1) key) = record { next = record { is = refl; below = less_told store.counter last_revision t }; may = tt } in
    subst (Facts store) same facts

got : (store : Datastore) (key : Key) (write : Write) (o : Option (ℕ × Record)) → write_granted (Get key) (reply_to_get o) ≡ Some write → Facts store write
got store key write None e = absurd (cc e)
got store key write (Some row) e = absurd (cc e)

room_made : (store : Datastore) (new : Record) (write : Write) (b : Bool) → has_room store (key_of new) ≡ b → write_granted (Create new) (cond b (granted store) Full) ≡ Some write → Facts store write
room_made store new write true h e =
    by_counter store (Create new) write (nat_lt store.counter last_revision) refl (put_facts store new write (inl (room_told store new h))) e
room_made store new write false h e = absurd (cc e)

created : (store : Datastore) (new : Record) (write : Write) (o : Option (ℕ × Record)) → write_granted (Create new) (reply_to_create store (key_of new) o) ≡ Some write → Facts store write
created store new write (Some row) e = absurd (cc e)
created store new write None e = room_made store new write (has_room store (key_of new)) refl e

matched : (store : Datastore) (call : Call) (write : Write) (row : ℕ) (b : Bool) → (nat_lt store.counter last_revision ≡ true → write_of call (store.counter + 1) ≡ Some write → Facts store write) → write_granted call (cond b (granted store) (Conflict row)) ≡ Some write → Facts store write
matched store call write row true f e = by_counter store call write (nat_lt store.counter last_revision) refl f e
matched store call write row false f e = absurd (cc e)

updated : (store : Datastore) (new : Record) (seen : ℕ) (write : Write) (o : Option (ℕ × Record)) → row_of (key_of new) store.rows ≡ o → write_granted (Update new seen) (reply_to_change store seen o) ≡ Some write → Facts store write
updated store new seen write None h e = absurd (cc e)
updated store new seen write (Some row) h e =
    let there : IsSome (row_of (key_of new) store.rows) = rw h refl in
    matched store (Update new seen) write row.0 (row.0 == seen) (put_facts store new write (inr there)) e

deleted : (store : Datastore) (key : Key) (seen : ℕ) (write : Write) (o : Option (ℕ × Record)) → write_granted (Delete key seen) (reply_to_change store seen o) ≡ Some write → Facts store write
deleted store key seen write None e = absurd (cc e)
deleted store key seen write (Some row) e =
    matched store (Delete key seen) write row.0 (row.0 == seen) (remove_facts store key write) e

by_call : (store : Datastore) (call : Call) (write : Write) → write_granted call (reply_of store call) ≡ Some write → Facts store write
by_call store (Get key) write e = got store key write (row_of key store.rows) e
by_call store (ListAll kind) write e = absurd (cc e)
by_call store (Create new) write e = created store new write (row_of (key_of new) store.rows) e
by_call store (Update new seen) write e = updated store new seen write (row_of (key_of new) store.rows) refl e
by_call store (Delete key seen) write e = deleted store key seen write (row_of key store.rows) e

pub facts-from_granted : (store : Datastore) (write : Write) → IsGranted store write → Facts store write
facts-from_granted store write g = by_call store g.call write g.is
