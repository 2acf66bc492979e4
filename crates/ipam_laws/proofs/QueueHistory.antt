-- The queue of a block over a whole history.
use Rattle.std.proofs.Common.{◌≡◌, ◌≢◌, inl, inr, ℕ, zero, suc, ◌+◌, ◌-◌, ◌≤◌, true, List, [], ◌∷◌, drop, sym, ap, ◌∙◌, subst, arith}
use Rattle.std.specs.Prelude.{Contains, not}
use Rattle.std.proofs.Math.Seq.{drop-drop}
use Rattle.ipam_addr.specs.Shape.{CidrValue}
use Rattle.ipam_block.specs.Operations.{is_held, ordinal_address}
use Rattle.ipam_block.specs.Shape.{BlockValue}
use Rattle.ipam_block.specs.Sound.{IsBlock, IsBlockRecord}
use Rattle.ipam_block.proofs.FreeOrdinals.{queued-free}
use Rattle.ipam_records.specs.declared.key.Key.{Key}
use Rattle.ipam_records.specs.declared.key.Key.TheVariants as key
use Rattle.ipam_records.specs.declared.record.Record.TheVariants as record_of
use Rattle.ipam_records.specs.Datastore.{Datastore, row_of}
use Rattle.ipam_records.specs.Sound.{IsDatastore}
use Rattle.ipam_records.proofs.DatastoreLemmas.{row_of-with_row, row_of-with_row-other}
use Rattle.ipam_model.specs.declared.entry.Entry.{Entry}
use Rattle.ipam_model.specs.AffinityLaw.{HasAt}
use Rattle.ipam_model.specs.BlockLaw.{BlockAt}
use Rattle.ipam_model.specs.History.{Base, Lawful, moment_of, store_at, store_before}
use Rattle.ipam_laws.proofs.BlockHistory.{drop-block, same-block}
use Rattle.ipam_laws.proofs.OneRecord.{drop-lawful, key_cases}
use Rattle.ipam_laws.proofs.SlotSteps.{known-now, known_at, turn-of}
use Rattle.ipam_laws.proofs.SoundHistory.{history-sound}
use Rattle.ipam_laws.specs.Queues.{GivenAgainLateLaw, IsFreeThrough, NoneComesAheadLaw, ahead_of}
use Rattle.ipam_laws.proofs.Ahead.{ahead-queued, found-ahead}
use Rattle.ipam_laws.proofs.QueueSteps.{Leaves, NextQueue, QueueStep, Same, Writes, next-ahead, step-queues}

-- ---- one step

same-queue : (one other : BlockValue) → one ≡ other → NextQueue one.queue other.queue
same-queue one other e = subst (λ (x : BlockValue). NextQueue one.queue x.queue) e Same

step-queue : (store next : Datastore) → QueueStep store next → (cidr : CidrValue) (old : BlockAt store cidr) (new : BlockAt next cidr) → NextQueue old.b.queue new.b.queue
step-queue store next (Leaves same) cidr old new =
    same-queue old.b new.b (same-block next (key.Block cidr) old.revision new.revision old.b new.b (same cidr ∙ old.there) new.there)
step-queue store next (Writes wrote put is) cidr old new = elim (key_cases (key.Block wrote.cidr) (key.Block cidr)) [
  | inr other ↦
      let stays : HasAt next (key.Block cidr) old.revision (record_of.Block old.b) =
      ap (λ (s : Datastore). row_of (key.Block cidr) s.rows) put ∙ (row_of-with_row-other (key.Block cidr) (store.counter + 1, record_of.Block wrote) store.rows other ∙ old.there) in
      same-queue old.b new.b (same-block next (key.Block cidr) old.revision new.revision old.b new.b stays new.there)
  | inl same ↦
      let at : HasAt store (key.Block wrote.cidr) old.revision (record_of.Block old.b) = subst (λ (k : Key). HasAt store k old.revision (record_of.Block old.b)) (sym same) old.there in
      let now : HasAt next (key.Block cidr) (store.counter + 1) (record_of.Block wrote) =
      subst (λ (k : Key). HasAt next k (store.counter + 1) (record_of.Block wrote)) same
      (ap (λ (s : Datastore). row_of (key.Block wrote.cidr) s.rows) put ∙ row_of-with_row (store.counter + 1, record_of.Block wrote) store.rows) in
      let is_new : wrote ≡ new.b = same-block next (key.Block cidr) (store.counter + 1) new.revision wrote new.b now new.there in
      elim is [
        | inl none ↦ absurd (cc (none, at))
        | inr (revision, was, there, queue) ↦
            let is_old : was ≡ old.b = same-block store (key.Block wrote.cidr) revision old.revision was old.b there at in
            subst (λ (x : BlockValue). NextQueue old.b.queue x.queue) is_new
            (subst (λ (x : BlockValue). NextQueue x.queue wrote.queue) is_old queue)
      ]
]

-- ---- every history

entry-ahead : (base : Base) (history : List Entry) (entry : Entry) → IsDatastore base.store → Lawful base (entry ∷ history) → (cidr : CidrValue) (old : BlockAt (store_at base history) cidr) (new : BlockAt (store_at base (entry ∷ history)) cidr)
    → (free o : ℕ) → Contains old.b.queue free → Contains new.b.queue free → Contains (ahead_of free new.b.queue) o → Contains (ahead_of free old.b.queue) o
entry-ahead base history entry sound h cidr old new =
    let turn = turn-of base history entry sound h in
    next-ahead old.b.queue new.b.queue
    (step-queue (store_at base history) (store_at base (entry ∷ history)) (step-queues (known_at base history) (store_at base history) (store_at base (entry ∷ history)) _ turn.reached turn.step) cidr old new)

-- the ordinal is free at each of the last moments of the history
FreeAt : Base → List Entry → CidrValue → (free many : ℕ) → Type 0
FreeAt base history cidr free many = (k : ℕ) → k ≤ many → (at : BlockAt (store_at base (drop k history)) cidr) → Contains at.b.queue free

same-ahead : (store : Datastore) (cidr : CidrValue) (old new : BlockAt store cidr) (free o : ℕ) → Contains (ahead_of free new.b.queue) o → Contains (ahead_of free old.b.queue) o
same-ahead store cidr old new free o h =
    subst (λ (x : BlockValue). Contains (ahead_of free x.queue) o) (same-block store (key.Block cidr) new.revision old.revision new.b old.b new.there old.there) h

drop-ahead : (base : Base) (many : ℕ) (history : List Entry) → IsDatastore base.store → Lawful base history → (cidr : CidrValue) (old : BlockAt (store_at base (drop many history)) cidr) (new : BlockAt (store_at base history) cidr)
    → (free o : ℕ) → FreeAt base history cidr free many → Contains (ahead_of free new.b.queue) o → Contains (ahead_of free old.b.queue) o
unfolding Lawful FreeAt
drop-ahead base zero history sound h cidr old new free o through ahead = same-ahead (store_at base history) cidr old new free o ahead
drop-ahead base (suc many) [] sound h cidr old new free o through ahead = same-ahead (store_at base []) cidr old new free o ahead
drop-ahead base (suc many) (entry ∷ history) sound h cidr old new free o through ahead =
    let (mid, keeps) = drop-block base many history sound h.0 cidr old in
    drop-ahead base many history sound h.0 cidr old mid free o (λ k below at. through (suc k) (omega arith) at)
    (entry-ahead base history entry sound h cidr mid new free o (through (suc zero) (omega arith) mid) (through zero (omega arith) new) ahead)

-- ---- from one moment to another

-- the store of a moment, by how many entries came after it
moment-store : (base : Base) (history : List Entry) (moment many : ℕ) → moment_of base history - moment ≡ many → store_before base history moment ≡ store_at base (drop many history)
moment-store base history moment many e = ap (λ (n : ℕ). store_at base (drop n history)) e

free-at : (base : Base) (history : List Entry) (first second : ℕ) → first ≤ second → second ≤ moment_of base history → (cidr : CidrValue) (free : ℕ) → IsFreeThrough base history cidr free first second
    → FreeAt base (drop (moment_of base history - second) history) cidr free ((moment_of base history - first) - (moment_of base history - second))
unfolding FreeAt
free-at base history first second order within cidr free through k below at =
    let now = moment_of base history in
    let moment = second - k in
    let count : now - moment ≡ (now - second) + k = omega arith in
    let same : store_before base history moment ≡ store_at base (drop k (drop (now - second) history)) =
    moment-store base history moment ((now - second) + k) count ∙ ap (λ (hs : List Entry). store_at base hs) (sym (drop-drop k (now - second) history)) in
    subst (λ (s : Datastore). (b : BlockAt s cidr) → Contains b.b.queue free) same
    (λ b. through moment (omega arith) (omega arith) b) at

none-ahead : (base : Base) (history : List Entry) → IsDatastore base.store → Lawful base history → (first second : ℕ) → first ≤ second → second ≤ moment_of base history
    → (cidr : CidrValue) (old : BlockAt (store_before base history first) cidr) (new : BlockAt (store_before base history second) cidr)
    → (free : ℕ) → IsFreeThrough base history cidr free first second → (o : ℕ) → Contains (ahead_of free new.b.queue) o → Contains (ahead_of free old.b.queue) o
none-ahead base history sound h first second order within cidr old new free through o ahead =
    let now = moment_of base history in
    let between = (now - first) - (now - second) in
    let sum : (now - second) + between ≡ now - first = omega arith in
    let early : store_before base history first ≡ store_at base (drop between (drop (now - second) history)) =
    moment-store base history first ((now - second) + between) (sym sum) ∙ ap (λ (hs : List Entry). store_at base hs) (sym (drop-drop between (now - second) history)) in
    let through' : FreeAt base (drop (now - second) history) cidr free between = free-at base history first second order within cidr free through in
    from (store_before base history first) early old through'
  where
    from : (store : Datastore) → store ≡ store_at base (drop ((moment_of base history - first) - (moment_of base history - second)) (drop (moment_of base history - second) history))
        → (was : BlockAt store cidr) → FreeAt base (drop (moment_of base history - second) history) cidr free ((moment_of base history - first) - (moment_of base history - second)) → Contains (ahead_of free was.b.queue) o
    from store e was through' =
        subst (λ (s : Datastore). (b : BlockAt s cidr) → Contains (ahead_of free b.b.queue) o) (sym e)
        (λ b. drop-ahead base ((moment_of base history - first) - (moment_of base history - second)) (drop (moment_of base history - second) history) sound
        (drop-lawful base (moment_of base history - second) history h) cidr b new free o through' ahead) was

pub none_comes_ahead : NoneComesAheadLaw
none_comes_ahead = none-ahead

-- ---- what was held

block-sound : (base : Base) (history : List Entry) → IsDatastore base.store → Lawful base history → (cidr : CidrValue) (at : BlockAt (store_at base history) cidr) → IsBlock at.b
block-sound base history sound h cidr at =
    let kept : IsBlockRecord at.b = (history-sound base history sound h).known.sound (key.Block cidr) at.revision (record_of.Block at.b) (known-now base history (key.Block cidr) at.revision (record_of.Block at.b) at.there) in
    kept.block

-- what is held is not queued
held-unqueued : (b : BlockValue) (o : ℕ) → IsBlock b → is_held b o ≡ true → Contains b.queue o → ⊥
held-unqueued b o sound held queued = let free = queued-free b o sound queued in absurd (cc (held, free))

pub given_again_late : GivenAgainLateLaw
given_again_late base history sound h first second order within cidr old new free held through was reserved unreserved is =
    let now = moment_of base history in
    let kept = block-sound base (drop (now - first) history) sound (drop-lawful base (now - first) history h) cidr old in
    let queued : Contains new.b.queue free = through second order (omega arith) new in
    let early : Contains old.b.queue free = through first (omega arith) order old in
    let passes : not (reserved (ordinal_address new.b.cidr free)) ≡ true = ap not unreserved in
    let differ : free ≢ held = λ same. held-unqueued old.b held kept was (subst (λ (x : ℕ). Contains old.b.queue x) same early) in
    let ahead = found-ahead (λ x. not (reserved (ordinal_address new.b.cidr x))) free held new.b.queue queued passes differ is in
    let before = none_comes_ahead base history sound h first second order within cidr old new free through held ahead in
    held-unqueued old.b held kept was (ahead-queued free old.b.queue held before)
