-- Over every history blocks stay, and what they hold with an old stamp they held before.
use Rattle.std.proofs.Common.{◌≡◌, inl, inr, ℕ, zero, suc, ◌+◌, ◌-◌, ◌≤◌, List, [], ◌∷◌, drop, refl, sym, ap, ◌∙◌, subst, arith}
use Rattle.std.specs.Prelude.{Contains}
use Rattle.std.proofs.Math.Seq.{drop-drop}
use Rattle.ipam_addr.specs.Shape.{CidrValue}
use Rattle.ipam_block.specs.declared.allocation.Allocation.{Allocation}
use Rattle.ipam_block.specs.Shape.{BlockValue}
use Rattle.ipam_records.specs.declared.key.Key.{Key}
use Rattle.ipam_records.specs.declared.key.Key.TheVariants as key
use Rattle.ipam_records.specs.declared.record.Record.{Record}
use Rattle.ipam_records.specs.declared.record.Record.TheVariants as record_of
use Rattle.ipam_records.specs.Datastore.{Datastore, row_of}
use Rattle.ipam_records.specs.Sound.{IsDatastore}
use Rattle.ipam_records.proofs.DatastoreLemmas.{row_of-with_row, row_of-with_row-other}
use Rattle.ipam_model.specs.declared.entry.Entry.{Entry}
use Rattle.ipam_model.specs.AffinityLaw.{HasAt}
use Rattle.ipam_model.specs.BlockLaw.{BlockAt, IsLater, BlocksStayLaw, StampsLaw}
use Rattle.ipam_model.specs.History.{Base, Lawful, moment_of, store_at, store_before}
use Rattle.ipam_laws.proofs.BlockSteps.{BlockStep, Leaves, Writes, step-blocks}
use Rattle.ipam_laws.proofs.OneRecord.{AreGiven, drop-lawful, given-row, history-given, key_cases}
use Rattle.ipam_laws.proofs.SlotSteps.{known_at, turn-of}

-- ---- from one store to a later one

-- the block is later, and what it holds with an old stamp it held before
pub record Keeps {old_store new_store : Datastore} {cidr : CidrValue} (old : BlockAt old_store cidr) (new : BlockAt new_store cidr) : Type 0 where
  pub later : IsLater old new
  pub held : (a : Allocation) → Contains new.b.allocations a → a.stamp ≤ old.b.sequence → Contains old.b.allocations a

abbrev pub Kept : {old_store : Datastore} → {cidr : CidrValue} → BlockAt old_store cidr → (new_store : Datastore) → Type 0
Kept {old_store} {cidr} old new_store = (new : BlockAt new_store cidr) × Keeps old new

pub not-behind : {old new : Datastore} {cidr : CidrValue} (a : BlockAt old cidr) (b : BlockAt new cidr) → IsLater a b → (a.revision ≤ b.revision) × (a.b.sequence ≤ b.b.sequence)
not-behind a b (inl (one, other)) = (omega (arith, one), let e = ap (λ (x : BlockValue). x.sequence) other in omega arith)
not-behind a b (inr (one, other)) = (omega arith, omega arith)

later-later : {one two three : Datastore} {cidr : CidrValue} (a : BlockAt one cidr) (b : BlockAt two cidr) (c : BlockAt three cidr) → IsLater a b → IsLater b c → IsLater a c
later-later a b c (inl (r, x)) (inl (s, y)) = inl (s ∙ r, y ∙ x)
later-later a b c (inl (r, x)) (inr (s, y)) = let e = ap (λ (z : BlockValue). z.sequence) x in inr (omega (arith, r), omega arith)
later-later a b c (inr (r, x)) h = let (s, y) = not-behind b c h in inr (omega arith, omega arith)

keeps-keeps : {one two three : Datastore} {cidr : CidrValue} (a : BlockAt one cidr) (b : BlockAt two cidr) (c : BlockAt three cidr) → Keeps a b → Keeps b c → Keeps a c
keeps-keeps a b c h k = record {
  later = later-later a b c h.later k.later;
  held = λ x among old.
      let (r, s) = not-behind a b h.later in
      h.held x (k.held x among (omega arith)) old;
}

unchanged : {one two : Datastore} {cidr : CidrValue} (a : BlockAt one cidr) (b : BlockAt two cidr) → b.revision ≡ a.revision → b.b ≡ a.b → Keeps a b
unchanged a b r e = record {
  later = inl (r, e);
  held = λ x among old. subst (λ (z : BlockValue). Contains z.allocations x) e among;
}

itself : {store : Datastore} {cidr : CidrValue} (a : BlockAt store cidr) → Kept a store
itself a = (a, unchanged a a refl refl)

-- ---- one step

-- a key has one block
pub same-block : (store : Datastore) (k : Key) (one other : ℕ) (b c : BlockValue) → HasAt store k one (record_of.Block b) → HasAt store k other (record_of.Block c) → b ≡ c
same-block store k one other b c first second =
    let rows : (one, record_of.Block b) ≡ (other, record_of.Block c) = cc (first, second) in
    let records : record_of.Block b ≡ record_of.Block c = ap (λ (row : ℕ × Record). row.1) rows in
    cc records

step-block : (store next : Datastore) → BlockStep store next → AreGiven store → (cidr : CidrValue) (old : BlockAt store cidr) → Kept old next
step-block store next (Leaves same) given cidr old =
    let new : BlockAt next cidr = record { revision = old.revision; b = old.b; there = same cidr ∙ old.there } in
    (new, unchanged old new refl refl)
step-block store next (Writes new put is) given cidr old = elim (key_cases (key.Block new.cidr) (key.Block cidr)) [
  | inr other ↦
      let new_block : BlockAt next cidr = record {
        revision = old.revision;
        b = old.b;
        there = ap (λ (s : Datastore). row_of (key.Block cidr) s.rows) put ∙ (row_of-with_row-other (key.Block cidr) (store.counter + 1, record_of.Block new) store.rows other ∙ old.there);
      } in
      (new_block, unchanged old new_block refl refl)
  | inl same ↦
      let at : HasAt store (key.Block new.cidr) old.revision (record_of.Block old.b) = subst (λ (k : Key). HasAt store k old.revision (record_of.Block old.b)) (sym same) old.there in
      let new_there : HasAt next (key.Block cidr) (store.counter + 1) (record_of.Block new) =
      subst (λ (k : Key). HasAt next k (store.counter + 1) (record_of.Block new)) same
      (ap (λ (s : Datastore). row_of (key.Block new.cidr) s.rows) put ∙ row_of-with_row (store.counter + 1, record_of.Block new) store.rows) in
      let below = given-row store given (key.Block cidr) old.revision (record_of.Block old.b) old.there in
      elim is [
        | inl none ↦ absurd (cc (none, at))
        | inr (revision, was, there, writes) ↦
            let same_block : was ≡ old.b = same-block store (key.Block new.cidr) revision old.revision was old.b there at in
            let counted : new.sequence ≡ old.b.sequence + 1 = writes.counted ∙ ap (λ (x : BlockValue). x.sequence + 1) same_block in (
              record { revision = store.counter + 1; b = new; there = new_there },
              record {
                later = inr (omega arith, omega (arith, counted));
                held = λ x among early. elim (writes.held x among) [
                  | inl before ↦ subst (λ (z : BlockValue). Contains z.allocations x) same_block before
                  | inr stamped ↦ let e = ap (λ (z : BlockValue). z.sequence) same_block in absurd (omega (arith, stamped))
                ];
              },
            )
      ]
]

-- ---- every history

entry-block : (base : Base) (history : List Entry) (new : Entry) → IsDatastore base.store → Lawful base (new ∷ history) → (cidr : CidrValue) (old : BlockAt (store_at base history) cidr) → Kept old (store_at base (new ∷ history))
unfolding Lawful
entry-block base history new sound h cidr old =
    let turn = turn-of base history new sound h in
    step-block (store_at base history) (store_at base (new ∷ history))
    (step-blocks (known_at base history) (store_at base history) (store_at base (new ∷ history)) _ turn.reached turn.step)
    (history-given base history sound h.0) cidr old

pub drop-block : (base : Base) (many : ℕ) (history : List Entry) → IsDatastore base.store → Lawful base history → (cidr : CidrValue) (old : BlockAt (store_at base (drop many history)) cidr) → Kept old (store_at base history)
unfolding Lawful
drop-block base zero history sound h cidr old = itself old
drop-block base (suc many) [] sound h cidr old = itself old
drop-block base (suc many) (new ∷ history) sound h cidr old =
    let (mid, keeps) = drop-block base many history sound h.0 cidr old in
    let (last, more) = entry-block base history new sound h cidr mid in
    (last, keeps-keeps old mid last keeps more)

-- the store at a moment before another is that of fewer entries still
pub store-between : (base : Base) (history : List Entry) (first second : ℕ) → first ≤ second → (many : ℕ) × (store_before base history first ≡ store_at base (drop many (drop (moment_of base history - second) history)))
store-between base history first second order =
    let now = moment_of base history in
    let between = (now - first) - (now - second) in
    let sum : (now - second) + between ≡ now - first = omega arith in
    (between, ap (λ (hs : List Entry). store_at base hs) (ap (λ n. drop n history) (sym sum) ∙ sym (drop-drop between (now - second) history)))

pub block-later : (base : Base) (history : List Entry) → IsDatastore base.store → Lawful base history → (first second : ℕ) → first ≤ second → (cidr : CidrValue) (old : BlockAt (store_before base history first) cidr) → Kept old (store_before base history second)
block-later base history sound h first second order cidr old =
    let (many, is) = store-between base history first second order in
    let moved : (store : Datastore) → store ≡ store_at base (drop many (drop (moment_of base history - second) history)) → (b : BlockAt store cidr) → Kept b (store_before base history second) =
    λ store e. subst (λ (s : Datastore). (b : BlockAt s cidr) → Kept b (store_before base history second)) (sym e)
    (λ b. drop-block base many (drop (moment_of base history - second) history) sound (drop-lawful base (moment_of base history - second) history h) cidr b) in
    moved (store_before base history first) is old

pub blocks_stay : BlocksStayLaw
blocks_stay base history sound h first second order cidr old =
    let (new, keeps) = block-later base history sound h first second order cidr old in
    (new, keeps.later)

pub stamps : StampsLaw
stamps base history sound h first second order cidr old new a among early =
    let (last, keeps) = block-later base history sound h first second order cidr old in
    let same : new.b ≡ last.b = same-block (store_before base history second) (key.Block cidr) new.revision last.revision new.b last.b new.there last.there in
    keeps.held a (subst (λ (x : BlockValue). Contains x.allocations a) same among) early
