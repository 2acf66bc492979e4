-- What the answers of an ADD say of the trail that led to them: for which family the round was.
use Rattle.std.proofs.Common.{◌≡◌, ◌≢◌, ℕ, zero, suc, ◌+◌, ◌<◌, ◌≤◌, ◌⊎◌, Bool, true, false, cond, List, [], ◌∷◌, length, Option, Some, None, refl, sym, ap, ◌∙◌, subst, arith, eqb-true}
use Rattle.std.specs.Prelude.{Contains, ◌==◌, nat_lt}
use Rattle.std.specs.List.{count_by, insert}
use Rattle.ipam_addr.specs.declared.address.Family.{Family}
use Rattle.ipam_addr.specs.Shape.{CidrValue}
use Rattle.ipam_block.specs.declared.allocation.Allocation.{Allocation}
use Rattle.ipam_block.specs.declared.allocation.Attributes.{Attributes}
use Rattle.ipam_block.specs.Shape as block
use Rattle.ipam_block.specs.Operations.{block_with_ordinal, next_block}
use Rattle.ipam_records.specs.declared.call.Call.{Call}
use Rattle.ipam_records.specs.declared.call.Call.TheVariants.{Create, Update}
use Rattle.ipam_records.specs.declared.call.Write.TheVariants.{Put}
use Rattle.ipam_records.specs.declared.key.Key.{Key}
use Rattle.ipam_records.specs.declared.key.Key.TheVariants as key
use Rattle.ipam_records.specs.declared.record.Record.{Record}
use Rattle.ipam_records.specs.declared.record.Record.TheVariants as record_of
use Rattle.ipam_records.specs.Datastore.{Datastore, granted, reply_of, reply_to_change, reply_to_create, row_of, write_granted, written}
use Rattle.ipam_records.specs.Said.{Said, Can, Conflict}
use Rattle.ipam_records.proofs.DatastoreLemmas.{row_of-with_row}
use Rattle.ipam_model.specs.declared.entry.CallName.TheVariants as name
use Rattle.ipam_model.specs.AffinityLaw.{HasAt}
use Rattle.ipam_model.specs.Cluster.{store_with}
use Rattle.ipam_model.specs.Credits.{call_key_written}
use Rattle.ipam_model.specs.Named.{name_of}
use Rattle.ipam_model.specs.Owners.{owned_in, owned_in_row}
use Rattle.ipam_model.specs.Reads.{StoredRecord}
use Rattle.ipam_laws.proofs.Lift.{behind}
use Rattle.ipam_laws.proofs.Trails.{AgreesAll, Did, Got, Trail}

-- ---- a call that gives an address

-- the call writes a block of the family so that more of it is owned
pub record IsGift (store : Datastore) (asked : Call) (family : Family) : Type 0 where
  pub cidr : CidrValue
  pub of_family : cidr.family ≡ family
  pub writes : call_key_written (name_of asked) ≡ Some (key.Block cidr)
  pub revision : ℕ
  pub done : reply_of store asked ≡ Can revision
  pub more : owned_in store cidr < owned_in (behind store asked) cidr

unfoldable pub HasGift : Trail → Family → Type 0
HasGift [] family = ⊥
HasGift (Did moment store asked ∷ trail) family = IsGift store asked family ⊎ HasGift trail family
HasGift (Got moment at live ∷ trail) family = HasGift trail family

-- after the call nobody owns who did not own before: it writes no block, or a block with no other
-- allocations than it had, or a fresh one; or it was not done
pub data Calm (store : Datastore) (asked : Call) : Type 0 where
  NoBlock : ((cidr : CidrValue) → call_key_written (name_of asked) ≢ Some (key.Block cidr)) → Calm store asked
  Keeps : (b new : block.BlockValue) (old : ℕ) → asked ≡ Update (record_of.Block new) old → ((found : Record) → HasAt store (key.Block b.cidr) old found → found ≡ record_of.Block b) → new.cidr ≡ b.cidr
      → ((a : Allocation) → Contains new.allocations a → Contains b.allocations a) → Calm store asked
  Begins : (new : block.BlockValue) → asked ≡ Create (record_of.Block new) → new.allocations ≡ [] → Calm store asked
  Undone : ((revision : ℕ) → reply_of store asked ≢ Can revision) → Calm store asked

-- a call that gives nothing, and does not begin a round
pub record IsQuiet (store : Datastore) (asked : Call) : Type 0 where
  pub gives_none : (family : Family) → ¬ (IsGift store asked family)
  pub no_round : name_of asked ≢ name.Get key.Config
  pub calm : Calm store asked

-- the trail, and quiet calls after it
pub data Quietly (trail : Trail) : Trail → Type 0 where
  Same : Quietly trail trail
  More : (moment : ℕ) (store : Datastore) (asked : Call) (longer : Trail) → IsQuiet store asked → Quietly trail longer
      → Quietly trail (Did moment store asked ∷ longer)

-- each of its calls is calm, and it never waited
unfoldable pub Calmly : Trail → Type 0
Calmly [] = Unit {0}
Calmly (Did moment store asked ∷ trail) = Calm store asked × Calmly trail
Calmly (Got moment at live ∷ trail) = ⊥

pub quietly-calmly : (origin trail : Trail) → Quietly origin trail → Calmly origin → Calmly trail
unfolding Calmly
quietly-calmly origin trail Same h = h
quietly-calmly origin trail (More moment store asked longer quiet before) h = (quiet.calm, quietly-calmly origin longer before h)

-- what writes no block is quiet
pub not-block : (store : Datastore) (asked : Call) → name_of asked ≢ name.Get key.Config → ((cidr : CidrValue) → call_key_written (name_of asked) ≢ Some (key.Block cidr)) → IsQuiet store asked
not-block store asked no_round apart = record {
  gives_none = λ family gift. apart gift.cidr gift.writes;
  no_round = no_round;
  calm = NoBlock apart;
}

-- ---- what a write of a block leaves

change-there : (store : Datastore) (old : ℕ) (row : Option StoredRecord) (revision : ℕ) → reply_to_change store old row ≡ Can revision → (found : Record) × (row ≡ Some (old, found))
change-there store old None revision e = absurd (cc e)
change-there store old (Some row) revision e = from (row.0 == old) refl e
  where
    from : (b : Bool) → (row.0 == old) ≡ b → cond b (granted store) (Conflict row.0) ≡ Can revision → (found : Record) × (Some row ≡ Some (old, found))
    from true same f = (row.1, ap (λ (n : ℕ). Some (n, row.1)) (eqb-true row.0 old same))
    from false differ f = absurd (cc f)

create-none : (store : Datastore) (asked : Key) (row : Option StoredRecord) (revision : ℕ) → reply_to_create store asked row ≡ Can revision → row ≡ None
create-none store asked None revision e = refl
create-none store asked (Some row) revision e = absurd (cc e)

put-owned : (store : Datastore) (revision : ℕ) (b : block.BlockValue) → owned_in (written store (Put revision (record_of.Block b))) b.cidr ≡ length b.allocations
put-owned store revision b = ap owned_in_row (row_of-with_row (revision, record_of.Block b) store.rows)

-- what the call leaves of its block
update-leaves : (store : Datastore) (b : block.BlockValue) (old revision : ℕ) → reply_of store (Update (record_of.Block b) old) ≡ Can revision → owned_in (behind store (Update (record_of.Block b) old)) b.cidr ≡ length b.allocations
update-leaves store b old revision e =
    ap (λ (said : Said). owned_in (store_with (write_granted (Update (record_of.Block b) old) said) store) b.cidr) e ∙ put-owned store revision b

create-leaves : (store : Datastore) (b : block.BlockValue) (revision : ℕ) → reply_of store (Create (record_of.Block b)) ≡ Can revision → owned_in (behind store (Create (record_of.Block b))) b.cidr ≡ length b.allocations
create-leaves store b revision e =
    ap (λ (said : Said). owned_in (store_with (write_granted (Create (record_of.Block b)) said) store) b.cidr) e ∙ put-owned store revision b

block-key : (one other : CidrValue) → Some (key.Block one) ≡ Some (key.Block other) → one ≡ other
block-key one other e = cc e

-- the block at this revision, whatever store has it
abbrev pub Knows : Trail → (revision : ℕ) → block.BlockValue → Type 0
Knows trail revision b =
    (store : Datastore) → AgreesAll store trail → (found : Record) → HasAt store (key.Block b.cidr) revision found → found ≡ record_of.Block b

pub knows-did : (trail : Trail) (revision : ℕ) (b : block.BlockValue) (moment : ℕ) (old : Datastore) (asked : Call) → Knows trail revision b → Knows (Did moment old asked ∷ trail) revision b
unfolding AgreesAll
knows-did trail revision b moment old asked h = λ store agrees found there. h store agrees.1 found there

pub quietly-knows : (trail longer : Trail) (revision : ℕ) (b : block.BlockValue) → Quietly trail longer → Knows trail revision b → Knows longer revision b
quietly-knows trail longer revision b Same h = h
quietly-knows trail longer revision b (More moment store asked rest quiet before) h = knows-did rest revision b moment store asked (quietly-knows trail rest revision b before h)

-- what is owned of the block where it was written
update-from : (store : Datastore) (trail : Trail) (b new : block.BlockValue) (old revision : ℕ) → AgreesAll store trail → Knows trail old b → new.cidr ≡ b.cidr → reply_of store (Update (record_of.Block new) old) ≡ Can revision → owned_in store new.cidr ≡ length b.allocations
update-from store trail b new old revision agrees knows same e =
    let (found, row) = change-there store old (row_of (key.Block new.cidr) store.rows) revision e in
    let at = subst (λ (r : CidrValue). HasAt store (key.Block r) old found) same row in
    ap owned_in_row (row ∙ ap (λ (x : Record). Some (old, x)) (knows store agrees found at))

-- a block that is written with no more than it had gives nothing
pub update-quiet : (store : Datastore) (trail : Trail) (b new : block.BlockValue) (old : ℕ) → AgreesAll store trail → Knows trail old b → new.cidr ≡ b.cidr → length new.allocations ≤ length b.allocations → ((a : Allocation) → Contains new.allocations a → Contains b.allocations a) → IsQuiet store (Update (record_of.Block new) old)
update-quiet store trail b new old agrees knows same fewer among = record {
  gives_none = λ family gift.
      let is = block-key new.cidr gift.cidr gift.writes in
      let first = update-from store trail b new old gift.revision agrees knows same gift.done in
      let then = update-leaves store new old gift.revision gift.done in
      let more = subst (λ (r : CidrValue). owned_in store r < owned_in (behind store (Update (record_of.Block new) old)) r) (sym is) gift.more in
      omega arith;
  no_round = λ e. cc e;
  calm = Keeps b new old refl (λ found there. knows store agrees found there) same among;
}

pub create-quiet : (store : Datastore) (new : block.BlockValue) → new.allocations ≡ [] → IsQuiet store (Create (record_of.Block new))
create-quiet store new none = record {
  gives_none = λ family gift.
      let is = block-key new.cidr gift.cidr gift.writes in
      let then = create-leaves store new gift.revision gift.done in
      let empty = ap length none in
      let more = subst (λ (r : CidrValue). owned_in store r < owned_in (behind store (Create (record_of.Block new))) r) (sym is) gift.more in
      omega (arith, empty);
  no_round = λ e. cc e;
  calm = Begins new refl none;
}

insert-length : {X : Type 0} → (xs : List X) (place : ℕ) (x : X) → length xs < length (insert xs place x)
insert-length [] zero x = omega arith
insert-length [] (suc place) x = omega arith
insert-length (y ∷ ys) zero x = omega arith
insert-length (y ∷ ys) (suc place) x = let k = insert-length ys place x in omega arith

-- the block with one more allocation gives an address of its family, and of no other
pub assign-gives : (store : Datastore) (trail : Trail) (b : block.BlockValue) (ordinal old revision : ℕ) (attributes : Attributes) → AgreesAll store trail → Knows trail old b
    → reply_of store (Update (record_of.Block (block_with_ordinal (next_block b) ordinal attributes)) old) ≡ Can revision → IsGift store (Update (record_of.Block (block_with_ordinal (next_block b) ordinal attributes)) old) b.cidr.family
assign-gives store trail b ordinal old revision attributes agrees knows e =
    let new = block_with_ordinal (next_block b) ordinal attributes in
    let first = update-from store trail b new old revision agrees knows refl e in
    let then = update-leaves store new old revision e in
    let longer = insert-length b.allocations (count_by (λ (x : Allocation). nat_lt x.ordinal ordinal) b.allocations) (record { ordinal = ordinal; attributes = attributes; stamp = b.sequence + 1 }) in
    record {
      cidr = b.cidr;
      of_family = refl;
      writes = refl;
      revision = revision;
      done = e;
      more = omega arith;
    }

pub assign-only : (store : Datastore) (new : block.BlockValue) (old : ℕ) (family : Family) → IsGift store (Update (record_of.Block new) old) family → family ≡ new.cidr.family
assign-only store new old family gift = sym gift.of_family ∙ ap (λ (r : CidrValue). r.family) (sym (block-key new.cidr gift.cidr gift.writes))
