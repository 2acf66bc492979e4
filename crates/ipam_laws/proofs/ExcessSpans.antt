-- A credit of a span is one still after an entry that wrote nothing, and whatever became of the last call.
use Rattle.std.proofs.Common.{◌≡◌, ℕ, ◌+◌, ◌<◌, ◌≤◌, inl, inr, false, List, ◌∷◌, refl, sym, ap, ◌∙◌, subst, arith}
use Rattle.ipam_addr.specs.Shape.{CidrValue}
use Rattle.ipam_records.specs.declared.key.Key.{Key}
use Rattle.ipam_records.specs.declared.key.Key.TheVariants as key
use Rattle.ipam_records.specs.Datastore.{Datastore}
use Rattle.ipam_records.specs.Label.{Credit}
use Rattle.ipam_model.specs.declared.entry.Called.{Called}
use Rattle.ipam_model.specs.declared.entry.Entry.{Entry}
use Rattle.ipam_model.specs.declared.entry.Entry.TheVariants as entry
use Rattle.ipam_model.specs.Cluster.{after, store_with, write_told}
use Rattle.ipam_model.specs.CountLaw.{handle_count, held_count}
use Rattle.ipam_model.specs.Credits.{HasCredit, HasFreed, HasRaised, HasWritten, NotSince, OfFreed, OfRaised, call_key_written}
use Rattle.ipam_model.specs.History.{Base, InSpan, RequestSpan, begins, cluster_at, now, seen_at, store_at}
use Rattle.ipam_laws.proofs.FamilyHistory.{three}
use Rattle.ipam_laws.proofs.Trails.{grown, in-span-earlier, in-span-later, in-span-now, now-is, seen-later, seen-now}

-- ---- writes and stores of two spans

-- what one span wrote the other did, and both saw the same
record IsSameTo (span other : RequestSpan) (upto : ℕ) : Type 0 where
  writes : (moment : ℕ) (k : Key) → moment < upto → HasWritten span moment k → HasWritten other moment k
  back : (moment : ℕ) (k : Key) → HasWritten other moment k → (moment < upto) × HasWritten span moment k
  sees : (moment : ℕ) → moment ≤ upto → seen_at other moment ≡ seen_at span moment

raised-to : (span other : RequestSpan) (upto : ℕ) → IsSameTo span other upto → (moment : ℕ) (id : List ℕ) (cidr : CidrValue) → moment < upto → HasRaised span moment id cidr → HasRaised other moment id cidr
raised-to span other upto same moment id cidr below h = record {
  wrote = same.writes moment (key.Handle id) below h.wrote;
  by_one = subst (λ (p : Datastore × Datastore). handle_count p.1 id cidr ≡ handle_count p.0 id cidr + 1) (λ i. (sym (same.sees moment (omega arith)) i, sym (same.sees (moment + 1) (omega arith)) i)) h.by_one;
}

freed-to : (span other : RequestSpan) (upto : ℕ) → IsSameTo span other upto → (moment : ℕ) (credit : Credit) → moment < upto → HasFreed span moment credit → HasFreed other moment credit
freed-to span other upto same moment credit below h = record {
  wrote = same.writes moment (key.Block credit.block) below h.wrote;
  some = h.some;
  so_many = subst (λ (p : Datastore × Datastore). held_count p.0 credit.handle credit.block ≡ held_count p.1 credit.handle credit.block + credit.amount) (λ i. (sym (same.sees moment (omega arith)) i, sym (same.sees (moment + 1) (omega arith)) i)) h.so_many;
}

not-to : (span other : RequestSpan) (upto : ℕ) → IsSameTo span other upto → (moment : ℕ) (k : Key) → NotSince span moment k → NotSince other moment k
not-to span other upto same moment k none later above w = none later above (same.back later k w).1

credit-to : (span other : RequestSpan) (upto : ℕ) → IsSameTo span other upto → now span ≤ upto → (credit : Credit) → HasCredit span credit → HasCredit other credit
credit-to span other upto same least credit (OfRaised id cidr moment raised no_block no_handle) =
    let before = raised.wrote.in_span.before_now in
    OfRaised id cidr moment (raised-to span other upto same moment id cidr (omega arith) raised) (not-to span other upto same moment (key.Block cidr) no_block) (not-to span other upto same moment (key.Handle id) no_handle)
credit-to span other upto same least credit (OfFreed one moment freed no_handle) =
    let before = freed.wrote.in_span.before_now in
    OfFreed credit moment (freed-to span other upto same moment credit (omega arith) freed) (not-to span other upto same moment (key.Handle credit.handle) no_handle)

-- ---- one entry more, which wrote nothing

pub credit-later : (span : RequestSpan) (new : Entry) → begins span.slot new ≡ false → ((k : Key) → ¬ (HasWritten (grown span new) (now span) k)) → (credit : Credit) → HasCredit span credit → HasCredit (grown span new) credit
credit-later span new not unwritten credit h = credit-to span (grown span new) (now span) same (omega arith) credit h
  where
    back : (moment : ℕ) (k : Key) → HasWritten (grown span new) moment k → (moment < now span) × HasWritten span moment k
    back moment k w = elim (three moment (now span)) [
      | inl early ↦ (
        early,
        record { c = w.c; in_span = in-span-earlier span new moment (entry.Called w.c) not early w.in_span; is_of = w.is_of; revision = w.revision; is_done = w.is_done },
      )
      | inr (inl at_now) ↦ absurd (unwritten k (subst (λ (m : ℕ). HasWritten (grown span new) m k) at_now w))
      | inr (inr late) ↦ let before = w.in_span.before_now in absurd (omega arith)
    ]

    same : IsSameTo span (grown span new) (now span)
    same = record {
      writes = λ moment k below w. record { c = w.c; in_span = in-span-later span new moment (entry.Called w.c) not w.in_span; is_of = w.is_of; revision = w.revision; is_done = w.is_done };
      back = back;
      sees = λ moment most. seen-later span new moment most;
    }

-- ---- the last call with another fate

-- the same call, told the same
pub record IsAlike (c other : Called) : Type 0 where
  pub slot : other.slot ≡ c.slot
  pub call : other.call ≡ c.call
  pub reply : other.reply ≡ c.reply
  pub is_written : other.written ≡ c.written

pub same-store : (base : Base) (history : List Entry) (c other : Called) → IsAlike c other → store_at base (entry.Called other ∷ history) ≡ store_at base (entry.Called c ∷ history)
unfolding cluster_at after
same-store base history c other alike = λ i. store_with (write_told (alike.call i) (alike.reply i) (alike.is_written i)) (store_at base history)

module _ (span : RequestSpan) (c other : Called) (own : c.slot ≡ span.slot) (alike : IsAlike c other) where
  abbrev one : RequestSpan
  one = grown span (entry.Called c)

  abbrev two : RequestSpan
  two = grown span (entry.Called other)

  write-two : (moment : ℕ) (k : Key) → HasWritten one moment k → HasWritten two moment k
  write-two moment k w = elim (three moment (now span)) [
    | inl early ↦
        let before = in-span-earlier span (entry.Called c) moment (entry.Called w.c) refl early w.in_span in
        record { c = w.c; in_span = in-span-later span (entry.Called other) moment (entry.Called w.c) refl before; is_of = w.is_of; revision = w.revision; is_done = w.is_done }
    | inr (inl at_now) ↦
        let inside = subst (λ (m : ℕ). InSpan one m (entry.Called w.c)) at_now w.in_span in
        let entries = now-is span (entry.Called c) (entry.Called w.c) inside in
        let same : w.c ≡ c = cc entries in
        subst (λ (m : ℕ). HasWritten two m k) (sym at_now) (record {
          c = other;
          in_span = in-span-now span (entry.Called other) (alike.slot ∙ own);
          is_of = ap call_key_written (alike.call ∙ sym (ap (λ (x : Called). x.call) same)) ∙ w.is_of;
          revision = w.revision;
          is_done = alike.reply ∙ sym (ap (λ (x : Called). x.reply) same) ∙ w.is_done;
        })
    | inr (inr late) ↦ let before = w.in_span.before_now in absurd (omega arith)
  ]

  see-two : (moment : ℕ) → moment ≤ now span + 1 → seen_at two moment ≡ seen_at one moment
  see-two moment most = elim (three moment (now span + 1)) [
    | inl early ↦ seen-later span (entry.Called other) moment (omega arith) ∙ sym (seen-later span (entry.Called c) moment (omega arith))
    | inr (inl last) ↦
        let at_one : moment ≡ now one = omega arith in
        let at_two : moment ≡ now two = omega arith in
        ap (seen_at two) at_two ∙ seen-now two ∙ same-store span.base span.history c other alike ∙ sym (seen-now one) ∙ ap (seen_at one) (sym at_one)
    | inr (inr late) ↦ absurd (omega arith)
  ]

pub credit-alike : (span : RequestSpan) (c other : Called) → c.slot ≡ span.slot → IsAlike c other → (credit : Credit) → HasCredit (grown span (entry.Called other)) credit → HasCredit (grown span (entry.Called c)) credit
credit-alike span c other own alike credit h =
    let back : IsAlike other c = record { slot = sym alike.slot; call = sym alike.call; reply = sym alike.reply; is_written = sym alike.is_written } in
    credit-to (grown span (entry.Called other)) (grown span (entry.Called c)) (now span + 1) (record {
      writes = λ moment k below w. write-two span other c (alike.slot ∙ own) back moment k w;
      back = λ moment k w. let before = w.in_span.before_now in (omega arith, write-two span c other own alike moment k w);
      sees = λ moment most. see-two span other c (alike.slot ∙ own) back moment most;
    }) (omega arith) credit h
