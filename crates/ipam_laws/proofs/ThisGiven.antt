-- What an ADD of one address gives is right, and so is that a count is at its limit.
use Rattle.std.proofs.Common.{◌≡◌, ◌≢◌, ℕ, zero, suc, ◌-◌, ◌^◌, ◌<◌, ◌≤◌, inl, inr, Bool, true, false, cond, List, [], ◌∷◌, Option, Some, None, refl, sym, ap, ◌∙◌, subst, arith}
use Rattle.std.specs.Prelude.{nat_le, unwrap_or}
use Rattle.std.specs.BTreeMap.{is_at}
use Rattle.std.specs.List.{All}
use Rattle.std.specs.Map.{lookup}
use Rattle.std.proofs.lemmas.Bool.{leb-true}
use Rattle.ipam_addr.specs.Shape.{AddrValue, CidrValue}
use Rattle.ipam_block.specs.Shape as block
use Rattle.ipam_block.specs.HandleOperations.{count_in, count_of}
use Rattle.ipam_block.specs.Order.{cidr_cmp}
use Rattle.ipam_block.specs.HandleSound.{IsCount}
use Rattle.ipam_records.specs.declared.call.Call.{Call}
use Rattle.ipam_records.specs.declared.call.Call.TheVariants.{Get}
use Rattle.ipam_records.specs.declared.key.Key.TheVariants as key
use Rattle.ipam_records.specs.declared.record.Record.{Record}
use Rattle.ipam_records.specs.declared.record.Record.TheVariants as record_of
use Rattle.ipam_records.specs.Datastore.{Datastore, reply_of, reply_to_get, row_of}
use Rattle.ipam_records.specs.Sound.{IsDatastore}
use Rattle.ipam_model.specs.declared.answer.GivenThis.{GivenThis}
use Rattle.ipam_model.specs.declared.entry.CallName.TheVariants as name
use Rattle.ipam_model.specs.declared.entry.Called.{Called}
use Rattle.ipam_model.specs.declared.entry.Entry.TheVariants as entry
use Rattle.ipam_model.specs.declared.request.AddRequest.{AddRequest}
use Rattle.ipam_model.specs.declared.request.Request.TheVariants.{AddThis}
use Rattle.ipam_model.specs.AddLaw.{IsRecordedAt, IsThisGivenRight}
use Rattle.ipam_model.specs.AnswerLaw.{AskedFor, IsTarget}
use Rattle.ipam_model.specs.Answered.{Answered, history_of, span_of}
use Rattle.ipam_model.specs.Assigning.{target_in}
use Rattle.ipam_model.specs.Choice.{share_of}
use Rattle.ipam_model.specs.Consistent.{IsConsistent}
use Rattle.ipam_model.specs.Counting.{most_count}
use Rattle.ipam_model.specs.History.{InSpan, Lawful, RequestSpan, now}
use Rattle.ipam_model.specs.OtherLaws.{IsCountFull}
use Rattle.ipam_model.specs.Reads.{block_said, handle_said}
use Rattle.ipam_laws.proofs.Acts.{Since}
use Rattle.ipam_laws.proofs.ActParts.{read-current}
use Rattle.ipam_laws.proofs.AddTrails.{More, Quietly, Same as Still}
use Rattle.ipam_laws.proofs.FamilyHistory.{heard, same-call, three}
use Rattle.ipam_laws.proofs.NoReturn.{consistent-before}
use Rattle.ipam_laws.proofs.OwnersHistory.{part-of}
use Rattle.ipam_laws.proofs.Recorded.{assigned-later, quietly-since, recorded, since-before}
use Rattle.ipam_laws.proofs.SoundSteps.{row-there}
use Rattle.ipam_laws.proofs.ThisRight.{holder-seen, looks_at, seen-block}
use Rattle.ipam_laws.proofs.ThisTrails.{IsAssignedTo, IsAtLimit}
use Rattle.ipam_laws.proofs.Trails.{AgreesAll, Did, IsTrail, Trail}

-- ---- a count at its limit

-- a count is below its limit or at it
small-counts : (counts : List (CidrValue × ℕ)) (cidr : CidrValue) → All IsCount counts → count_in counts cidr < 2 ^ 32
small-counts [] cidr h = omega arith
small-counts (entry ∷ counts) cidr h = by (is_at (cidr_cmp cidr) entry.0) (small-counts counts cidr tail)
  where
    head : entry.1 < 2 ^ 32
    head = (h zero entry (omega arith)).small

    tail : All IsCount counts
    tail n d within = h (suc n) d (omega arith)

    by : (b : Bool) → count_in counts cidr < 2 ^ 32 → unwrap_or (cond b (Some entry.1) (lookup (is_at (cidr_cmp cidr)) counts)) 0 < 2 ^ 32
    by true rest = head
    by false rest = rest

pub limit-is : (store : Datastore) (id : List ℕ) (cidr : CidrValue) → IsDatastore store → nat_le most_count (count_of (handle_said id (reply_of store (Get (key.Handle id)))) cidr) ≡ true → count_of (handle_said id (reply_of store (Get (key.Handle id)))) cidr ≡ most_count
limit-is store id cidr sound full = exact (count_of (handle_said id (reply_of store (Get (key.Handle id)))) cidr) (by (row_of (key.Handle id) store.rows) refl) (leb-true most_count (count_of (handle_said id (reply_of store (Get (key.Handle id)))) cidr) full)
  where
    exact : (n : ℕ) → n < 2 ^ 32 → most_count ≤ n → n ≡ most_count
    exact n below above = omega arith

    by : (o : Option (ℕ × Record)) → row_of (key.Handle id) store.rows ≡ o → count_of (handle_said id (reply_to_get o)) cidr < 2 ^ 32
    by None e = omega arith
    by (Some (revision, record_of.Handle h)) e = small-counts h.counts cidr (row-there store (key.Handle id) revision (record_of.Handle h) sound e).is_record.counts.each
    by (Some (revision, record_of.Config config)) e = omega arith
    by (Some (revision, record_of.Pools pools)) e = omega arith
    by (Some (revision, record_of.Reservations list)) e = omega arith
    by (Some (revision, record_of.Block b)) e = omega arith
    by (Some (revision, record_of.Affinity affinity)) e = omega arith

-- ---- the same round

-- no round begins after a step while what comes is quiet
pub no-round-behind : (span : RequestSpan) (moment : ℕ) (store : Datastore) (asked : Call) (before between : Trail) → Quietly (Did moment store asked ∷ before) between → (upto : ℕ) → IsTrail span upto between → (k : ℕ) (c : Called) → moment < k → k < upto → InSpan span k (entry.Called c) → c.call ≢ name.Get key.Config
unfolding IsTrail
no-round-behind span moment store asked before between Still upto h k c above below inside = absurd (h.1.nothing_between k (entry.Called c) above below inside)
no-round-behind span moment store asked before between (More m other call longer quiet earlier) upto h k c above below inside = elim (three k m) [
  | inl early ↦ no-round-behind span moment store asked before longer earlier m h.2 k c above early inside
  | inr (inl same) ↦
      let one : c ≡ h.0.c = same-call span m c h.0.c (subst (λ (n : ℕ). InSpan span n (entry.Called c)) same inside) h.0.in_span in
      λ config. quiet.no_round (sym h.0.is_call ∙ ap (λ (x : Called). x.call) (sym one) ∙ config)
  | inr (inr late) ↦ absurd (h.1.nothing_between k (entry.Called c) late below inside)
]

-- a block that was read has the CIDR of its key
read-cidr : (store : Datastore) (cidr : CidrValue) (found : ℕ × block.BlockValue) → block_said (reply_of store (Get (key.Block cidr))) ≡ Some found → found.1.cidr ≡ cidr
unfolding AgreesAll
read-cidr store cidr found e =
    (read-current 0 store store [] cidr found e (
      λ k revision one other here there.
          let rows : (revision, one) ≡ (revision, other) = cc (here, there) in ap (λ (row : ℕ × Record). row.1) rows,
      tt,
    )).0

module _ (a : Answered) (request : AddRequest) (address : AddrValue) (consistent : IsConsistent a.base.store) (lawful : Lawful a.base (history_of a)) where
  pub given-right : (given : GivenThis) (trail : Trail) → IsTrail (span_of a) (now (span_of a)) trail → IsAssignedTo request address given trail → IsThisGivenRight a request address given
  unfolding IsTrail
  given-right given trail is h =
      let span = span_of a in
      let there = subst (λ (t : Trail). IsTrail span (now span) t) h.assigns.is is in
      let (until, mid) = part-of span h.mid h.assigns.between h.done.moment (quietly-since h.mid h.assigns.between h.assigns.quiet) there.2 in
      let s = seen-block a request address consistent lawful h.looked h.found h.mid until mid h.has in
      let ordinal = address.number - h.looked.cidr.base in
      let target = target_in h.found ordinal in
      let record_there = recorded span request.attributes target h.done h.mid trail (now span) consistent lawful is h.assigns in
      subst (λ (g : GivenThis). IsThisGivenRight a request address g) (sym h.is) (record {
        is_address = refl;
        found = s.has;
        was_free = holder-seen a request address consistent lawful h.looked h.found s ∙ h.was_free;
        may_take = (λ i. share_of (s.config i).strict request.node (s.read i).1) ∙ h.takes;
        later = assigned-later span request.attributes target h.done h.looked.b h.has.read.block (Get (key.Block h.looked.cidr)) _ h.mid trail (now span) is h.has.read.is h.assigns;
        recorded = subst (λ (r : ℕ × block.BlockValue). IsRecordedAt span h.done.moment (record { attributes = request.attributes; read = r; ordinal = s.has.ordinal })) (sym s.read)
            (subst (λ (n : ℕ). IsRecordedAt span h.done.moment (record { attributes = request.attributes; read = h.found; ordinal = n })) (sym s.ordinal) record_there);
      })

  pub limit-right : (moment : ℕ) (trail : Trail) → a.request ≡ AddThis request address → IsTrail (span_of a) (now (span_of a)) trail → IsAtLimit request address moment trail
      → (cidr : CidrValue) × IsTarget a moment cidr × IsCountFull a request.attributes.handle cidr moment
  unfolding IsTrail
  limit-right moment trail asks is h =
      let span = span_of a in
      let there = subst (λ (t : Trail). IsTrail span (now span) t) h.last.is is in
      let between = there.2 in
      let (until, mid) = part-of span h.mid h.last.between moment (quietly-since h.mid h.last.between h.last.quiet) between in
      let s = seen-block a request address consistent lawful h.looked h.found h.mid until mid h.has in
      let block = Get (key.Block h.looked.cidr) in
      let quiet = subst (λ (t : Trail). Quietly t h.last.between) h.has.read.is h.last.quiet in
      let same = read-cidr h.has.read.block h.looked.cidr h.found h.has.there in
      let sound = (consistent-before a.base (history_of a) moment consistent lawful).sound in
      let own_sound : IsDatastore h.last.store = subst (λ (x : Datastore). IsDatastore x) there.0.before_it sound in (
        h.looked.cidr,
        AskedFor request address (looks_at h.looked) asks s.has.looked s.cidr (record {
          behind = since-before span h.looked.b h.has.read.block block _ h.last.between moment (subst (λ (t : Trail). Since t h.last.between) h.has.read.is (quietly-since h.mid h.last.between h.last.quiet)) between;
          same_round = λ k c above below inside. no-round-behind span h.looked.b h.has.read.block block _ h.last.between quiet moment between k c above below inside;
        }),
        record {
          found = reply_of h.last.store (Get (key.Handle request.attributes.handle));
          read = heard span moment h.last.store (Get (key.Handle request.attributes.handle)) there.0;
          at_limit = subst (λ (x : CidrValue). count_of (handle_said request.attributes.handle (reply_of h.last.store (Get (key.Handle request.attributes.handle)))) x ≡ most_count) same
              (limit-is h.last.store request.attributes.handle h.found.1.cidr own_sound h.last.limit);
        },
      )
