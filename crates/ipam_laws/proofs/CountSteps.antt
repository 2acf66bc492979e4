-- How each kind of write moves counts, holdings and credits.
use Rattle.std.proofs.Common.{◌≡◌, ◌≢◌, ℕ, ◌+◌, ◌≤◌, inl, inr, Bool, true, false, cond, List, Some, refl, ap, subst, arith, bytes_eq}
use Rattle.std.specs.Prelude.{◌&&◌}
use Rattle.std.specs.List.{count_by}
use Rattle.ipam_addr.specs.Shape.{CidrValue}
use Rattle.ipam_block.specs.Shape as block
use Rattle.ipam_block.specs.Operations.{is_owned}
use Rattle.ipam_block.specs.HandleShape as handle
use Rattle.ipam_block.specs.HandleOperations.{count_of}
use Rattle.ipam_records.specs.declared.key.Key.{Key}
use Rattle.ipam_records.specs.declared.key.Key.TheVariants as key
use Rattle.ipam_records.specs.declared.record.Record.{Record}
use Rattle.ipam_records.specs.declared.record.Record.TheVariants as record_of
use Rattle.ipam_records.specs.declared.call.Write.TheVariants.{Put, Remove}
use Rattle.ipam_records.specs.Datastore.{Datastore, row_of, written}
use Rattle.ipam_records.specs.Key.{key_of}
use Rattle.ipam_records.specs.Label.{CallLabel, Credit, idle, owing}
use Rattle.ipam_records.proofs.DatastoreLemmas.{row_of-with_row, row_of-with_row-other, row_of-without_row-other}
use Rattle.ipam_model.specs.CountLaw.{count_in_row, handle_count, held_in_row, held_count, amount_for}
use Rattle.ipam_model.specs.Usable.{is_same_cidr}
use Rattle.ipam_laws.proofs.CountLemmas.{cidr_cases, text_cases, same_text, same_itself}

-- what a label owes
abbrev pub owed : List ℕ → CidrValue → CallLabel → ℕ
owed id cidr label = amount_for id cidr label.credit

-- what is held, with what is owed, grows by no more than the count
abbrev pub CountsGrow : Datastore → Datastore → CallLabel → CallLabel → Type 0
CountsGrow old new label after = (id : List ℕ) (cidr : CidrValue)
    → held_count new id cidr + owed id cidr after + handle_count old id cidr
    ≤ held_count old id cidr + owed id cidr label + handle_count new id cidr

-- no more is owed
abbrev pub OwesLess : CallLabel → CallLabel → Type 0
OwesLess label after = (id : List ℕ) (cidr : CidrValue) → owed id cidr after ≤ owed id cidr label

pub stays-grow : (store : Datastore) (label after : CallLabel) → OwesLess label after → CountsGrow store store label after
stays-grow store label after less id cidr = let h = less id cidr in omega arith

-- ---- rows of other keys

pub put-other : (store : Datastore) (r : ℕ) (new : Record) (k : Key) → key_of new ≢ k → row_of k (written store (Put r new)).rows ≡ row_of k store.rows
put-other store r new k other = row_of-with_row-other k (r, new) store.rows other

pub put-own : (store : Datastore) (r : ℕ) (new : Record) → row_of (key_of new) (written store (Put r new)).rows ≡ Some (r, new)
put-own store r new = row_of-with_row (r, new) store.rows

-- ---- a write that is about neither a block nor a handle

abbrev pub IsApart : Key → Type 0
IsApart key.Config = Unit {0}
IsApart key.Pools = Unit {0}
IsApart key.Reservations = Unit {0}
IsApart (key.Block cidr) = ⊥
IsApart (key.Affinity node cidr) = Unit {0}
IsApart (key.Handle id) = ⊥

pub apart-block : (k : Key) (cidr : CidrValue) → IsApart k → k ≢ key.Block cidr
apart-block k cidr apart e = subst (λ (x : Key). IsApart x) e apart

pub apart-handle : (k : Key) (id : List ℕ) → IsApart k → k ≢ key.Handle id
apart-handle k id apart e = subst (λ (x : Key). IsApart x) e apart

pub apart-grow : (store : Datastore) (r : ℕ) (new : Record) (label after : CallLabel) → IsApart (key_of new) → OwesLess label after → CountsGrow store (written store (Put r new)) label after
apart-grow store r new label after apart less id cidr =
    let block_same = ap (held_in_row id) (put-other store r new (key.Block cidr) (apart-block (key_of new) cidr apart)) in
    let handle_same = ap (count_in_row id cidr) (put-other store r new (key.Handle id) (apart-handle (key_of new) id apart)) in
    let h = less id cidr in
    omega arith

pub apart-remove : (store : Datastore) (r : ℕ) (gone : Key) (label after : CallLabel) → IsApart gone → OwesLess label after → CountsGrow store (written store (Remove r gone)) label after
apart-remove store r gone label after apart less id cidr =
    let block_same = ap (held_in_row id) (row_of-without_row-other (key.Block cidr) gone store.rows (apart-block gone cidr apart)) in
    let handle_same = ap (count_in_row id cidr) (row_of-without_row-other (key.Handle id) gone store.rows (apart-handle gone id apart)) in
    let h = less id cidr in
    omega arith

-- ---- a write of a block

pub block-grow : (store : Datastore) (r : ℕ) (b : block.BlockValue) (label after : CallLabel)
    → ((id : List ℕ) → count_by (is_owned id) b.allocations + owed id b.cidr after ≤ held_count store id b.cidr + owed id b.cidr label)
    → ((id : List ℕ) (cidr : CidrValue) → b.cidr ≢ cidr → owed id cidr after ≤ owed id cidr label)
    → CountsGrow store (written store (Put r (record_of.Block b))) label after
block-grow store r b label after here there id cidr = elim (cidr_cases b.cidr cidr) [
  | inl (t, same) ↦
      let P : CidrValue → Type 0 = λ x. held_count (written store (Put r (record_of.Block b))) id x + owed id x after + handle_count store id x ≤ held_count store id x + owed id x label + handle_count (written store (Put r (record_of.Block b))) id x in
      subst P same (own (here id))
  | inr (f, differ) ↦
      let block_same = ap (held_in_row id) (put-other store r (record_of.Block b) (key.Block cidr) (λ e. differ (cc e))) in
      let handle_same = ap (count_in_row id cidr) (put-other store r (record_of.Block b) (key.Handle id) (λ e. cc e)) in
      let h = there id cidr differ in
      omega arith
]
  where
    own : count_by (is_owned id) b.allocations + owed id b.cidr after ≤ held_count store id b.cidr + owed id b.cidr label → held_count (written store (Put r (record_of.Block b))) id b.cidr + owed id b.cidr after + handle_count store id b.cidr ≤ held_count store id b.cidr + owed id b.cidr label + handle_count (written store (Put r (record_of.Block b))) id b.cidr
    own h =
        let new_held = ap (held_in_row id) (put-own store r (record_of.Block b)) in
        let handle_same = ap (count_in_row id b.cidr) (put-other store r (record_of.Block b) (key.Handle id) (λ e. cc e)) in
        omega arith

-- ---- a write of a handle

pub handle-grow : (store : Datastore) (r : ℕ) (h : handle.HandleValue) (label after : CallLabel)
    → ((cidr : CidrValue) → owed h.id cidr after + handle_count store h.id cidr ≤ owed h.id cidr label + count_of h cidr)
    → ((id : List ℕ) (cidr : CidrValue) → h.id ≢ id → owed id cidr after ≤ owed id cidr label)
    → CountsGrow store (written store (Put r (record_of.Handle h))) label after
handle-grow store r h label after here there id cidr = elim (text_cases h.id id) [
  | inl (t, same) ↦
      let P : List ℕ → Type 0 = λ x. held_count (written store (Put r (record_of.Handle h))) x cidr + owed x cidr after + handle_count store x cidr ≤ held_count store x cidr + owed x cidr label + handle_count (written store (Put r (record_of.Handle h))) x cidr in
      subst P same own
  | inr (f, differ) ↦
      let block_same = ap (held_in_row id) (put-other store r (record_of.Handle h) (key.Block cidr) (λ e. cc e)) in
      let handle_same = ap (count_in_row id cidr) (put-other store r (record_of.Handle h) (key.Handle id) (λ e. differ (cc e))) in
      let less = there id cidr differ in
      omega arith
]
  where
    own : held_count (written store (Put r (record_of.Handle h))) h.id cidr + owed h.id cidr after + handle_count store h.id cidr ≤ held_count store h.id cidr + owed h.id cidr label + handle_count (written store (Put r (record_of.Handle h))) h.id cidr
    own =
        let new_count = ap (count_in_row h.id cidr) (put-own store r (record_of.Handle h)) in
        let block_same = ap (held_in_row h.id) (put-other store r (record_of.Handle h) (key.Block cidr) (λ e. cc e)) in
        let less = here cidr in
        omega arith

pub handle-remove : (store : Datastore) (r : ℕ) (gone : List ℕ) (label after : CallLabel)
    → ((cidr : CidrValue) → owed gone cidr after + handle_count store gone cidr ≤ owed gone cidr label)
    → ((id : List ℕ) (cidr : CidrValue) → gone ≢ id → owed id cidr after ≤ owed id cidr label)
    → CountsGrow store (written store (Remove r (key.Handle gone))) label after
handle-remove store r gone label after here there id cidr = elim (text_cases gone id) [
  | inl (t, same) ↦
      let P : List ℕ → Type 0 = λ x. held_count (written store (Remove r (key.Handle gone))) x cidr + owed x cidr after + handle_count store x cidr ≤ held_count store x cidr + owed x cidr label + handle_count (written store (Remove r (key.Handle gone))) x cidr in
      subst P same own
  | inr (f, differ) ↦
      let block_same = ap (held_in_row id) (row_of-without_row-other (key.Block cidr) (key.Handle gone) store.rows (λ e. cc e)) in
      let handle_same = ap (count_in_row id cidr) (row_of-without_row-other (key.Handle id) (key.Handle gone) store.rows (λ e. differ (cc e))) in
      let less = there id cidr differ in
      omega arith
]
  where
    own : held_count (written store (Remove r (key.Handle gone))) gone cidr + owed gone cidr after + handle_count store gone cidr ≤ held_count store gone cidr + owed gone cidr label + handle_count (written store (Remove r (key.Handle gone))) gone cidr
    own =
        let block_same = ap (held_in_row gone) (row_of-without_row-other (key.Block cidr) (key.Handle gone) store.rows (λ e. cc e)) in
        let less = here cidr in
        omega arith

-- ---- what is owed

pub idle-less : (label : CallLabel) → OwesLess label idle
idle-less label id cidr = omega arith

pub itself-less : (label : CallLabel) → OwesLess label label
itself-less label id cidr = omega arith

-- the credit's own handle and block are owed its amount, and others nothing
pub owed-own : (credit : Credit) → owed credit.handle credit.block (owing credit) ≡ credit.amount
owed-own credit = rw (same_text credit.handle, same_itself credit.block) refl

pub owed-other_id : (credit : Credit) (id : List ℕ) (cidr : CidrValue) → credit.handle ≢ id → owed id cidr (owing credit) ≡ 0
owed-other_id credit id cidr other = elim (text_cases credit.handle id) [
  | inl (t, same) ↦ absurd (other same)
  | inr (f, differ) ↦ rw f refl
]

pub owed-other_block : (credit : Credit) (id : List ℕ) (cidr : CidrValue) → credit.block ≢ cidr → owed id cidr (owing credit) ≡ 0
owed-other_block credit id cidr other = elim (cidr_cases credit.block cidr) [
  | inl (t, same) ↦ absurd (other same)
  | inr (f, differ) ↦ from (bytes_eq credit.handle id)
]
  where
    from : (b : Bool) → cond (b && is_same_cidr credit.block cidr) credit.amount 0 ≡ 0
    from true = elim (cidr_cases credit.block cidr) [ inl (t, same) ↦ absurd (other same) | inr (f, differ) ↦ rw f refl ]
    from false = refl
