-- What runs may be told the datastore's reply to its call.
use Rattle.std.proofs.Common.{◌≡◌, ◌≢◌, ℕ, zero, suc, ◌+◌, ◌<◌, ◌≤◌, inl, inr, List, [], ◌∷◌, Option, Some, None, refl, sym, ap, ◌∙◌, subst, arith}
use Rattle.std.specs.List.{range_with_len, sum_by}
use Rattle.std.proofs.lemmas.List.Sums.{sum_by-cons}
use Rattle.ipam_records.specs.declared.call.Call.{Call}
use Rattle.ipam_records.specs.declared.call.Call.TheVariants as call
use Rattle.ipam_records.specs.declared.key.Key.TheVariants as key
use Rattle.ipam_records.specs.declared.record.Record.TheVariants as record_of
use Rattle.ipam_records.specs.Datastore.{Datastore, reply_of, reply_to_get, row_of}
use Rattle.ipam_records.specs.Hearing.{CoversCredit, Covers, MayHear}
use Rattle.ipam_records.specs.Label.{Credit, CallLabel, idle, owing}
use Rattle.ipam_records.specs.Sound.{IsDatastore}
use Rattle.ipam_records.specs.Word.{Word, Ends, Asks, Waits, next_call, label_of}
use Rattle.ipam_model.specs.declared.answer.Answer.{Answer}
use Rattle.ipam_model.specs.declared.entry.Entry.{Entry}
use Rattle.ipam_model.specs.declared.entry.Entry.TheVariants as entry
use Rattle.ipam_model.specs.Cluster.{RunningRequest, after, fresh_run, run_after_feed, goes_on}
use Rattle.ipam_model.specs.Counting.{credit_of}
use Rattle.ipam_model.specs.CountLaw.{count_in_row, handle_count, credit_of_slot, amount_for}
use Rattle.ipam_model.specs.Course.{slot_count}
use Rattle.ipam_model.specs.History.{Base, Lawful, cluster_at, store_at, slot_of_entry}
use Rattle.ipam_model.specs.Reads.{StoredRecord}
use Rattle.ipam_model.specs.ReplyLaw.{MayHearLaw}
use Rattle.ipam_laws.proofs.KeptWords.{other-slot}
use Rattle.ipam_laws.proofs.Lift.{Known}
use Rattle.ipam_laws.proofs.Steps.{at_claiming, at_claimed, at_releasing, at_released, Step, Idles, Owes, Finds, Starts, Takes, Confirms, Marks, Looks, Bares, Deletes, Raises, Lowers, LowersOut, Frees, Assigns, Changes}
use Rattle.ipam_laws.proofs.SlotSteps.{label_in, label_at, known_at, turn-of}
use Rattle.ipam_laws.proofs.CountSteps.{owed-own}
use Rattle.ipam_laws.proofs.CountHistory.{credit_law}
use Rattle.ipam_laws.proofs.AffinityArrivals.{number-cases}
use Rattle.ipam_laws.proofs.SoundHistory.{sound_law}

-- ---- credits are some

-- the credit of the label, where it has one, is some
abbrev IsSome : Option Credit → Type 0
IsSome None = Unit {0}
IsSome (Some credit) = 0 < credit.amount

-- what is owed is some, from step to step
step-some : (known : Known) (store next : Datastore) (label after : CallLabel) → Step known store next label after → IsSome label.credit → IsSome after.credit
step-some known store next label after step some = from step
  where
    at : (l : CallLabel) → after ≡ l → IsSome l.credit → IsSome after.credit
    at l e h = subst (λ (x : CallLabel). IsSome x.credit) (sym e) h

    from : Step known store next label after → IsSome after.credit
    from (Idles a b) = at idle b tt
    from (Owes credit a b c) = at (owing credit) c (subst (λ (x : CallLabel). IsSome x.credit) b some)
    from (Finds tie read kept state a b c d e f) = at (at_claiming tie read kept) c tt
    from (Starts tie read a b c d) = at (at_claiming tie read (store.counter + 1)) c tt
    from (Takes tie read kept a b c d e) = at (at_claimed tie kept) c tt
    from (Confirms tie kept found a b c d) = at idle c tt
    from (Marks tie revision found a b c d) = at idle c tt
    from (Looks tie read mark a b c d e) = at (at_releasing tie read mark) c tt
    from (Bares tie read mark a b c d e) = at (at_released tie mark) c tt
    from (Deletes tie mark found a b c d) = at idle c tt
    from (Raises id cidr h a b c d e f) = at (owing (credit_of id cidr 1)) c (omega arith)
    from (Lowers credit h revision first rest a b c d e f) = at idle c tt
    from (LowersOut credit h revision a b c d e f) = at idle c tt
    from (Frees what amount revision b s t u v w x y) = at (owing (credit_of what.handle what.block (suc amount))) u (omega arith)
    from (Assigns attributes target a b c d e f) = at idle c tt
    from (Changes request new a b c d e) = at idle c tt

-- a slot that runs, with what it owes
history-some : (base : Base) (history : List Entry) → IsDatastore base.store → Lawful base history → (slot : ℕ) → IsSome (label_at base history slot).credit
unfolding Lawful cluster_at
history-some base [] sound h slot = tt
history-some base (new ∷ history) sound h slot =
    let turn = turn-of base history new sound h in
    let earlier = history-some base history sound h.0 in
    let step = step-some (known_at base history) (store_at base history) (store_at base (new ∷ history)) (label_at base history (slot_of_entry new)) turn.reached turn.step (earlier (slot_of_entry new)) in
    elim (number-cases (slot_of_entry new) slot) [
      | inl same ↦ subst (λ (s : ℕ). IsSome (label_at base (new ∷ history) s).credit) same
          (elim turn.now [
            | inl reached ↦ subst (λ (l : CallLabel). IsSome l.credit) (sym reached) step
            | inr idles ↦ subst (λ (l : CallLabel). IsSome l.credit) (sym idles) tt
          ])
      | inr differ ↦ subst (λ (l : CallLabel). IsSome l.credit) (sym (turn.others slot differ)) (earlier slot)
    ]

-- ---- slots that run are among the first

same-beside : (base : Base) (history : List Entry) (new : Entry) (slot : ℕ) → slot_of_entry new ≢ slot → (cluster_at base (new ∷ history)).slots slot ≡ (cluster_at base history).slots slot
unfolding cluster_at after
same-beside base history (entry.Began other request) slot differ = other-slot other slot (fresh_run request) (cluster_at base history).slots differ
same-beside base history (entry.Fed other at live) slot differ = other-slot other slot (run_after_feed live ((cluster_at base history).slots other)) (cluster_at base history).slots differ
same-beside base history (entry.Stopped other) slot differ = other-slot other slot None (cluster_at base history).slots differ
same-beside base history (entry.Called c) slot differ = other-slot c.slot slot (goes_on (store_at base history) (cluster_at base history).entries c.answer ((cluster_at base history).slots c.slot)) (cluster_at base history).slots differ

running-below : (base : Base) (history : List Entry) → IsDatastore base.store → Lawful base history → (slot : ℕ) (running : RunningRequest) → (cluster_at base history).slots slot ≡ Some running → slot < slot_count
unfolding Lawful cluster_at
running-below base [] sound h slot running e = absurd (cc e)
running-below base (new ∷ history) sound h slot running e = elim (number-cases (slot_of_entry new) slot) [
  | inl same ↦ subst (λ (s : ℕ). s < slot_count) same (turn-of base history new sound h).below
  | inr differ ↦ running-below base history sound h.0 slot running (sym (same-beside base history new slot differ) ∙ e)
]

-- one of the slots owes no more than all
pub member-sum : (f : ℕ → ℕ) (many from slot : ℕ) → from ≤ slot → slot < from + many → f slot ≤ sum_by f (range_with_len from many)
member-sum f zero from slot above below = absurd (omega arith)
member-sum f (suc many) from slot above below =
    let both = sum_by-cons f from (range_with_len (from + 1) many) in
    elim (number-cases from slot) [
      | inl same ↦ let e = ap f same in omega arith
      | inr differ ↦ let rest = member-sum f many (from + 1) slot (omega arith) (omega arith) in omega arith
    ]

-- ---- the law

-- a handle whose count is some is there, with it
covers-there : (store : Datastore) (credit : Credit) → 0 < credit.amount → credit.amount ≤ handle_count store credit.handle credit.block → Covers credit (reply_to_get (row_of (key.Handle credit.handle) store.rows))
covers-there store credit some covered = from (row_of (key.Handle credit.handle) store.rows) covered
  where
    from : (o : Option StoredRecord) → credit.amount ≤ count_in_row credit.handle credit.block o → Covers credit (reply_to_get o)
    from None h = absurd (omega arith)
    from (Some (revision, record_of.Handle handle)) h = h
    from (Some (revision, record_of.Config config)) h = absurd (omega arith)
    from (Some (revision, record_of.Pools pools)) h = absurd (omega arith)
    from (Some (revision, record_of.Reservations reservations)) h = absurd (omega arith)
    from (Some (revision, record_of.Block b)) h = absurd (omega arith)
    from (Some (revision, record_of.Affinity a)) h = absurd (omega arith)

-- each read of the handle finds the credit covered
covers : (store : Datastore) (owes : Option Credit) (next_call : Call) → IsSome owes → ((credit : Credit) → owes ≡ Some credit → credit.amount ≤ handle_count store credit.handle credit.block) → CoversCredit owes next_call (reply_of store next_call)
covers store None next_call some covered = tt
covers store (Some credit) (call.Get (key.Handle id)) some covered = λ own.
    subst (λ (x : List ℕ). Covers credit (reply_to_get (row_of (key.Handle x) store.rows))) (sym own) (covers-there store credit some (covered credit refl))
covers store (Some credit) (call.Get key.Config) some covered = tt
covers store (Some credit) (call.Get key.Pools) some covered = tt
covers store (Some credit) (call.Get key.Reservations) some covered = tt
covers store (Some credit) (call.Get (key.Block cidr)) some covered = tt
covers store (Some credit) (call.Get (key.Affinity node cidr)) some covered = tt
covers store (Some credit) (call.List kind) some covered = tt
covers store (Some credit) (call.Create new) some covered = tt
covers store (Some credit) (call.Update new revision) some covered = tt
covers store (Some credit) (call.Delete k revision) some covered = tt

pub may_hear : MayHearLaw
may_hear base history slot running called sound covered h runs asks = from running.word asks (ap label_in runs)
  where
    store : Datastore
    store = store_at base history

    within : (credit : Credit) → (label_at base history slot).credit ≡ Some credit → credit.amount ≤ handle_count (store_at base history) credit.handle credit.block
    within credit owes =
        let all = credit_law base history sound covered h credit.handle credit.block in
        let below = running-below base history sound h slot running runs in
        let one = member-sum (λ s. credit_of_slot credit.handle credit.block ((cluster_at base history).slots s)) slot_count 0 slot (omega arith) below in
        let own : credit_of_slot credit.handle credit.block ((cluster_at base history).slots slot) ≡ credit.amount = slot-owes credit ((cluster_at base history).slots slot) owes in
        omega arith
      where
        slot-owes : (credit : Credit) (o : Option RunningRequest) → (label_in o).credit ≡ Some credit → credit_of_slot credit.handle credit.block o ≡ credit.amount
        slot-owes credit None e = absurd (cc e)
        slot-owes credit (Some r) e = ap (amount_for credit.handle credit.block) e ∙ owed-own credit

    from : (w : Word Answer) → next_call w ≡ Some called → label_at base history slot ≡ label_of w → MayHear w (reply_of (store_at base history) called)
    from (Ends answer) e labelled = absurd (cc e)
    from (Waits next) e labelled = absurd (cc e)
    from (Asks label own next) e labelled =
        let same : own ≡ called = cc e in
        let credit_is : (label_at base history slot).credit ≡ label.credit = ap (λ (l : CallLabel). l.credit) labelled in (
          record { store = store_at base history; sound = sound_law base history sound h; is_reply = ap (reply_of (store_at base history)) same },
          subst (λ (x : Call). CoversCredit label.credit own (reply_of (store_at base history) x)) same
              (covers (store_at base history) label.credit own (subst (λ (o : Option Credit). IsSome o) credit_is (history-some base history sound h slot)) (λ credit owes. within credit (credit_is ∙ owes))),
        )
