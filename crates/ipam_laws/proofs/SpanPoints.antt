-- A request stands at the point that the calls of its span say exactly where those of its trail do.
use Rattle.std.proofs.Common.{◌≡◌, ℕ, ◌⊎◌, inl, inr, Bool, true, false, cond, List, [], ◌∷◌, Option, Some, refl, sym, ap, ◌∙◌, subst, arith}
use Rattle.std.specs.Prelude.{◌↔◌, IsTrue}
use Rattle.ipam_addr.specs.Shape.{CidrValue}
use Rattle.ipam_records.specs.declared.call.Call.{Call}
use Rattle.ipam_records.specs.declared.call.Call.TheVariants.{Get, List as ListAll, Create, Update, Delete}
use Rattle.ipam_records.specs.declared.key.Key.TheVariants as key
use Rattle.ipam_records.specs.declared.key.Kind.TheVariants as kind
use Rattle.ipam_records.specs.declared.record.Record.TheVariants as record_of
use Rattle.ipam_records.specs.Datastore.{Datastore, reply_of}
use Rattle.ipam_records.specs.Label.{Point, Nowhere, Claiming, Claimed, Releasing, Released}
use Rattle.ipam_records.specs.Said.{Said, Found}
use Rattle.ipam_model.specs.declared.entry.Called.{Called}
use Rattle.ipam_model.specs.declared.entry.Entry.TheVariants as entry
use Rattle.ipam_model.specs.declared.request.Request.{Request}
use Rattle.ipam_model.specs.declared.request.Request.TheVariants.{Release}
use Rattle.ipam_model.specs.History.{HeardCall, InSpan, RequestSpan, cluster_at, now, seen_at, span_before}
use Rattle.ipam_model.specs.Moments.{IsNext, request_in, revision_of}
use Rattle.ipam_model.specs.Points.{AsFound as SpanFound, AsPut as SpanPut, HasKept, HasPut, HasPutBlock, HasSeen, IsClaiming, IsReleasing, RunsInSlot, SawLast, StandsAt}
use Rattle.ipam_model.specs.Tries.{is_add}
use Rattle.ipam_laws.proofs.CountLemmas.{cidr_cases, same_itself}
use Rattle.ipam_laws.proofs.Debts.{Lasts}
use Rattle.ipam_laws.proofs.EarlierSpans.{begins-below, latest-step, newest-at, was-before}
use Rattle.ipam_laws.proofs.FamilyHistory.{heard}
use Rattle.ipam_laws.proofs.PointTrails.{AsFound, AsPut, ClaimingBy, Keeps, Newest, PutBlock, ReleasingBy, StandsBy, seen_last, shows}
use Rattle.ipam_laws.proofs.SpanSteps.{lasts-to, list-heard, put-wrote, read-heard, to-lasts, wrote-put}
use Rattle.ipam_laws.proofs.Trails.{Did, DidAt, Got, IsTrail, Trail}

-- ---- where a block was seen last

shows-block : (cidr : CidrValue) (asked : Call) → shows cidr asked ≡ true → (asked ≡ ListAll kind.Block) ⊎ (asked ≡ Get (key.Block cidr))
shows-block cidr (ListAll kind.Block) e = inl refl
shows-block cidr (ListAll kind.Affinity) e = absurd (cc e)
shows-block cidr (ListAll kind.Handle) e = absurd (cc e)
shows-block cidr (Get (key.Block other)) e = elim (cidr_cases other cidr) [
  | inl (t, same) ↦ inr (ap (λ (c : CidrValue). Get (key.Block c)) same)
  | inr (f, differ) ↦ absurd (cc (e, f))
]
shows-block cidr (Get key.Config) e = absurd (cc e)
shows-block cidr (Get key.Pools) e = absurd (cc e)
shows-block cidr (Get key.Reservations) e = absurd (cc e)
shows-block cidr (Get (key.Affinity node other)) e = absurd (cc e)
shows-block cidr (Get (key.Handle id)) e = absurd (cc e)
shows-block cidr (Create new) e = absurd (cc e)
shows-block cidr (Update new revision) e = absurd (cc e)
shows-block cidr (Delete k revision) e = absurd (cc e)

module _ (cidr : CidrValue) (read : Option ℕ) where
  abbrev Shown : Datastore → Call → Type 0
  Shown store asked = (shows cidr asked ≡ true) × (revision_of store (key.Block cidr) ≡ read)

  abbrev Shows : Datastore → Call → Type 0
  Shows store asked = shows cidr asked ≡ true

  seen-lasts : (trail : Trail) → seen_last cidr trail ≡ Some read → Lasts Shown Shows trail
  unfolding seen_last Lasts
  seen-lasts [] e = absurd (cc e)
  seen-lasts (Got moment at live ∷ trail) e = seen-lasts trail e
  seen-lasts (Did moment store asked ∷ trail) e = by (seen-lasts trail) (shows cidr asked) refl e
    where
      by : (seen_last cidr trail ≡ Some read → Lasts Shown Shows trail) → (b : Bool) → shows cidr asked ≡ b → cond b (Some (revision_of store (key.Block cidr))) (seen_last cidr trail) ≡ Some read → Shown store asked ⊎ (Lasts Shown Shows trail × ¬ (Shows store asked))
      by further true is f = inl (is, cc f)
      by further false is f = inr (further f, λ g. cc (is, g))

  lasts-seen : (trail : Trail) → Lasts Shown Shows trail → seen_last cidr trail ≡ Some read
  unfolding seen_last Lasts
  lasts-seen [] l = absurd l
  lasts-seen (Got moment at live ∷ trail) l = lasts-seen trail l
  lasts-seen (Did moment store asked ∷ trail) l = by (lasts-seen trail) (shows cidr asked) refl l
    where
      by : (Lasts Shown Shows trail → seen_last cidr trail ≡ Some read) → (b : Bool) → shows cidr asked ≡ b → Shown store asked ⊎ (Lasts Shown Shows trail × ¬ (Shows store asked)) → cond b (Some (revision_of store (key.Block cidr))) (seen_last cidr trail) ≡ Some read
      by further true is (inl here) = ap Some here.1
      by further true is (inr earlier) = absurd (earlier.1 is)
      by further false is (inl here) = let t = here.0 in absurd (cc (is, t))
      by further false is (inr earlier) = further earlier.0

  module _ (span : RequestSpan) where
    abbrev SeenAs : ℕ → Type 0
    SeenAs moment = HasSeen span moment cidr × (revision_of (seen_at span moment) (key.Block cidr) ≡ read)

    shows-seen : (moment : ℕ) (store : Datastore) (asked : Call) → DidAt span moment store asked → Shows store asked ↔ HasSeen span moment cidr
    shows-seen moment store asked did = (
      λ t. elim (shows-block cidr asked t) [
        | inl list ↦
            let h = heard span moment store (ListAll kind.Block) (subst (λ (c : Call). DidAt span moment store c) list did) in
            (reply_of store (ListAll kind.Block), inl h)
        | inr get ↦
            let h = heard span moment store (Get (key.Block cidr)) (subst (λ (c : Call). DidAt span moment store c) get did) in
            (reply_of store (Get (key.Block cidr)), inr h)
      ],
      λ h. elim h.1 [
        | inl list ↦ ap (shows cidr) (list-heard span moment store asked did kind.Block h.0 list)
        | inr get ↦ ap (shows cidr) (read-heard span moment store asked did (key.Block cidr) h.0 get).0 ∙ same_itself cidr
      ],
    )

    shown-seen : (moment : ℕ) (store : Datastore) (asked : Call) → DidAt span moment store asked → Shown store asked ↔ SeenAs moment
    shown-seen moment store asked did =
        let same = shows-seen moment store asked did in (
          λ s. (same.0 s.0, ap (λ (d : Datastore). revision_of d (key.Block cidr)) did.before_it ∙ s.1),
          λ s. (same.1 s.0, ap (λ (d : Datastore). revision_of d (key.Block cidr)) (sym did.before_it) ∙ s.1),
        )

    seen-there : (moment : ℕ) → HasSeen span moment cidr → (c : Called) × InSpan span moment (entry.Called c)
    seen-there moment h = elim h.1 [ inl list ↦ (list.entry_of_call, list.in_span) | inr get ↦ (get.entry_of_call, get.in_span) ]

    saw-last : (trail : Trail) → IsTrail span (now span) trail → seen_last cidr trail ≡ Some read → SawLast span cidr read
    saw-last trail h e =
        let l = lasts-to span Shown Shows SeenAs (λ moment. HasSeen span moment cidr) shown-seen shows-seen (λ moment s. seen-there moment s.0) seen-there trail (now span) h (seen-lasts trail e) in
        record { moment = l.moment; seen = l.at.0; last = λ later above s. let there = seen-there later s in l.since later above there.1.before_now s; was = l.at.1 }

    last-seen : (trail : Trail) → IsTrail span (now span) trail → SawLast span cidr read → seen_last cidr trail ≡ Some read
    last-seen trail h s =
        let there = seen-there s.moment s.seen in
        lasts-seen trail
        (to-lasts span Shown Shows SeenAs (λ moment. HasSeen span moment cidr) shown-seen shows-seen (λ moment a. seen-there moment a.0) seen-there trail (now span) h
        (record { moment = s.moment; below = there.1.before_now; at = (s.seen, s.was); since = λ later above below seen. s.last later above seen }))

-- ---- the points

-- a span with its trail, and the request that runs
record IsRun (request : Request) (span : RequestSpan) (trail : Trail) : Type 0 where
  is_trail : IsTrail span (now span) trail
  runs : request_in (cluster_at span.base span.history) span.slot ≡ Some request

module _ (request : Request) where
  -- the same request
  same-request : (span : RequestSpan) (trail : Trail) → IsRun request span trail → (other : Request) → RunsInSlot span other → request ≡ other
  same-request span trail run other runs = let both = sym run.runs ∙ runs in cc both

  -- ---- a claim

  keeps-kept : (span : RequestSpan) (moment : ℕ) (store : Datastore) (asked : Call) → DidAt span moment store asked → (node : List ℕ) (cidr : CidrValue) (kept : ℕ) → Keeps store asked node cidr kept → HasKept span moment node cidr kept
  keeps-kept span moment store asked did node cidr kept (AsFound found is reply state) =
      let h = heard span moment store asked did in
      SpanFound found (subst (λ (p : Call × Said). HeardCall span moment p.0 p.1) (λ i. (is i, reply i)) h) state
  keeps-kept span moment store asked did node cidr kept (AsPut w) = SpanPut (wrote-put span moment store asked did _ kept w)

  kept-keeps : (span : RequestSpan) (moment : ℕ) (store : Datastore) (asked : Call) → DidAt span moment store asked → (node : List ℕ) (cidr : CidrValue) (kept : ℕ) → HasKept span moment node cidr kept → Keeps store asked node cidr kept
  kept-keeps span moment store asked did node cidr kept (SpanFound found h state) =
      let is = read-heard span moment store asked did (key.Affinity node cidr) (Found kept (record_of.Affinity found)) h in
      AsFound found is.0 (ap (reply_of store) is.0 ∙ sym is.1) state
  kept-keeps span moment store asked did node cidr kept (SpanPut put) = AsPut (put-wrote span moment store asked did _ kept put)

  kept-there : (span : RequestSpan) (moment : ℕ) (node : List ℕ) (cidr : CidrValue) (kept : ℕ) → HasKept span moment node cidr kept → (c : Called) × InSpan span moment (entry.Called c)
  kept-there span moment node cidr kept (SpanFound found h state) = (h.entry_of_call, h.in_span)
  kept-there span moment node cidr kept (SpanPut put) = (put.c, put.in_span)

  claiming-at : (span : RequestSpan) (trail : Trail) → IsRun request span trail → (node : List ℕ) (cidr : CidrValue) (read : Option ℕ) (kept : ℕ) → ClaimingBy request trail node cidr read kept → IsClaiming span node cidr read kept
  claiming-at span trail run node cidr read kept h =
      let step = newest-at span (now span) trail h.newest run.is_trail in
      record {
        request = request;
        runs = run.runs;
        adds = h.adds;
        moment = h.newest.moment;
        latest = step.next;
        has_kept = keeps-kept span h.newest.moment h.newest.store h.newest.asked step.did node cidr kept h.keeps;
        saw = saw-last cidr read span trail run.is_trail h.saw;
      }

  claiming-by : (span : RequestSpan) (trail : Trail) → IsRun request span trail → (node : List ℕ) (cidr : CidrValue) (read : Option ℕ) (kept : ℕ) → IsClaiming span node cidr read kept → ClaimingBy request trail node cidr read kept
  claiming-by span trail run node cidr read kept h =
      let there = kept-there span h.moment node cidr kept h.has_kept in
      let latest = latest-step span trail (now span) run.is_trail h.moment h.latest there.0 there.1 in
      let step = newest-at span (now span) trail latest.newest run.is_trail in
      let kept_at = subst (λ (m : ℕ). HasKept span m node cidr kept) (sym latest.same) h.has_kept in
      record {
        adds = subst (λ (r : Request). IsTrue (is_add r)) (sym (same-request span trail run h.request h.runs)) h.adds;
        newest = latest.newest;
        keeps = kept-keeps span latest.newest.moment latest.newest.store latest.newest.asked step.did node cidr kept kept_at;
        saw = last-seen cidr read span trail run.is_trail h.saw;
      }

  -- ---- a release

  releasing-at : (span : RequestSpan) (trail : Trail) → IsRun request span trail → (node : List ℕ) (cidr : CidrValue) (read : Option ℕ) (mark : ℕ) → ReleasingBy request trail node cidr read mark → IsReleasing span node cidr read mark
  releasing-at span trail run node cidr read mark h =
      let third = newest-at span (now span) trail h.at_mark run.is_trail in
      let second = newest-at span h.at_mark.moment h.at_mark.rest h.looked third.rest in
      let first = newest-at span h.looked.moment h.looked.rest h.marked second.rest in
      let heard_mark = heard span h.at_mark.moment h.at_mark.store h.at_mark.asked third.did in
      let finds = h.finds in
      let found_at = h.found_at in
      record {
        runs = run.runs ∙ ap Some h.releases;
        marked = h.marked.moment;
        has_marked = wrote-put span h.marked.moment h.marked.store h.marked.asked first.did _ mark h.marks;
        looked = h.looked.moment;
        block_said = reply_of h.looked.store (Get (key.Block cidr));
        has_looked = heard span h.looked.moment h.looked.store (Get (key.Block cidr)) (subst (λ (c : Call). DidAt span h.looked.moment h.looked.store c) h.looks second.did);
        then_looked = first.next;
        was = ap (λ (s : Datastore). revision_of s (key.Block cidr)) second.did.before_it ∙ h.was;
        again = h.at_mark.moment;
        found = h.found;
        at_mark = subst (λ (p : Call × Said). HeardCall span h.at_mark.moment p.0 p.1) (λ i. (finds i, found_at i)) heard_mark;
        then_again = second.next;
        latest = third.next;
      }

  releasing-by : (span : RequestSpan) (trail : Trail) → IsRun request span trail → (node : List ℕ) (cidr : CidrValue) (read : Option ℕ) (mark : ℕ) → IsReleasing span node cidr read mark → ReleasingBy request trail node cidr read mark
  releasing-by span trail run node cidr read mark h =
      let latest3 = latest-step span trail (now span) run.is_trail h.again h.latest h.at_mark.entry_of_call h.at_mark.in_span in
      let three = latest3.newest in
      let third = newest-at span (now span) trail three run.is_trail in
      let then_again = subst (λ (m : ℕ). IsNext span h.looked m) (sym latest3.same) h.then_again in
      let latest2 = latest-step span three.rest three.moment third.rest h.looked then_again h.has_looked.entry_of_call h.has_looked.in_span in
      let two = latest2.newest in
      let second = newest-at span three.moment three.rest two third.rest in
      let then_looked = subst (λ (m : ℕ). IsNext span h.marked m) (sym latest2.same) h.then_looked in
      let latest1 = latest-step span two.rest two.moment second.rest h.marked then_looked h.has_marked.c h.has_marked.in_span in
      let one = latest1.newest in
      let first = newest-at span two.moment two.rest one second.rest in
      let found = read-heard span three.moment three.store three.asked third.did (key.Affinity node cidr) (Found mark (record_of.Affinity h.found)) (subst (λ (m : ℕ). HeardCall span m (Get (key.Affinity node cidr)) (Found mark (record_of.Affinity h.found))) (sym latest3.same) h.at_mark) in
      let look = read-heard span two.moment two.store two.asked second.did (key.Block cidr) h.block_said (subst (λ (m : ℕ). HeardCall span m (Get (key.Block cidr)) h.block_said) (sym latest2.same) h.has_looked) in
      let was = subst (λ (m : ℕ). revision_of (seen_at span m) (key.Block cidr) ≡ read) (sym latest2.same) h.was in
      record {
        releases = same-request span trail run (Release node cidr) h.runs;
        at_mark = three;
        looked = two;
        marked = one;
        found = h.found;
        finds = found.0;
        found_at = ap (reply_of three.store) found.0 ∙ sym found.1;
        looks = look.0;
        was = ap (λ (s : Datastore). revision_of s (key.Block cidr)) (sym second.did.before_it) ∙ was;
        marks = put-wrote span one.moment one.store one.asked first.did _ mark (subst (λ (m : ℕ). HasPut span m _ mark) (sym latest1.same) h.has_marked);
      }

  -- ---- after the write of a block

  -- the run as it was before the newest step
  earlier-run : (span : RequestSpan) (trail : Trail) → IsRun request span trail → (newest : Newest trail) → IsRun request (span_before span newest.moment) newest.rest
  earlier-run span trail run newest =
      let step = newest-at span (now span) trail newest run.is_trail in
      let below = begins-below span newest.rest newest.moment step.rest in
      let before_now = step.next.behind in
      let was = was-before span.base span.slot span.history newest.moment request newest.rest below (omega arith) step.rest run.runs in
      record {
        is_trail = subst (λ (m : ℕ). IsTrail (span_before span newest.moment) m newest.rest) (sym was.now_is) was.is_trail;
        runs = was.runs;
      }

  module _ (By : Trail → Type 0) (At : RequestSpan → Type 0) (by-at : (span : RequestSpan) (trail : Trail) → IsRun request span trail → By trail ↔ At span) (cidr : CidrValue) where
    put-block : (span : RequestSpan) (trail : Trail) → IsRun request span trail → PutBlock trail cidr By → HasPutBlock span cidr At
    put-block span trail run h =
        let step = newest-at span (now span) trail h.newest run.is_trail in
        record {
          request = request;
          runs = run.runs;
          moment = h.newest.moment;
          latest = step.next;
          b = h.b;
          is_of = h.is_of;
          revision = h.revision;
          put = wrote-put span h.newest.moment h.newest.store h.newest.asked step.did (record_of.Block h.b) h.revision h.put;
          stood = (by-at (span_before span h.newest.moment) h.newest.rest (earlier-run span trail run h.newest)).0 h.stood;
        }

    block-put : (span : RequestSpan) (trail : Trail) → IsRun request span trail → HasPutBlock span cidr At → PutBlock trail cidr By
    block-put span trail run h =
        let latest = latest-step span trail (now span) run.is_trail h.moment h.latest h.put.c h.put.in_span in
        let newest = latest.newest in
        let step = newest-at span (now span) trail newest run.is_trail in
        record {
          newest = newest;
          b = h.b;
          is_of = h.is_of;
          revision = h.revision;
          put = put-wrote span newest.moment newest.store newest.asked step.did (record_of.Block h.b) h.revision (subst (λ (m : ℕ). HasPut span m (record_of.Block h.b) h.revision) (sym latest.same) h.put);
          stood = (by-at (span_before span newest.moment) newest.rest (earlier-run span trail run newest)).1 (subst (λ (m : ℕ). At (span_before span m)) (sym latest.same) h.stood);
        }

  -- ---- each point

  pub stands-exactly : (span : RequestSpan) (trail : Trail) → IsTrail span (now span) trail → request_in (cluster_at span.base span.history) span.slot ≡ Some request → (point : Point) → StandsBy request trail point ↔ StandsAt span point
  stands-exactly span trail is_trail runs = by
    where
      run : IsRun request span trail
      run = record { is_trail = is_trail; runs = runs }

      claims : (node : List ℕ) (cidr : CidrValue) (kept : ℕ) (s : RequestSpan) (t : Trail) → IsRun request s t → ((read : Option ℕ) × ClaimingBy request t node cidr read kept) ↔ ((read : Option ℕ) × IsClaiming s node cidr read kept)
      claims node cidr kept s t r = (λ h. (h.0, claiming-at s t r node cidr h.0 kept h.1), λ h. (h.0, claiming-by s t r node cidr h.0 kept h.1))

      releases : (node : List ℕ) (cidr : CidrValue) (mark : ℕ) (s : RequestSpan) (t : Trail) → IsRun request s t → ((read : Option ℕ) × ReleasingBy request t node cidr read mark) ↔ ((read : Option ℕ) × IsReleasing s node cidr read mark)
      releases node cidr mark s t r = (λ h. (h.0, releasing-at s t r node cidr h.0 mark h.1), λ h. (h.0, releasing-by s t r node cidr h.0 mark h.1))

      by : (point : Point) → StandsBy request trail point ↔ StandsAt span point
      by Nowhere = (λ t. tt, λ t. tt)
      by (Claiming node cidr read kept) = (claiming-at span trail run node cidr read kept, claiming-by span trail run node cidr read kept)
      by (Releasing node cidr read mark) = (releasing-at span trail run node cidr read mark, releasing-by span trail run node cidr read mark)
      by (Claimed node cidr kept) =
          let By : Trail → Type 0 = λ t. (read : Option ℕ) × ClaimingBy request t node cidr read kept in
          let At : RequestSpan → Type 0 = λ s. (read : Option ℕ) × IsClaiming s node cidr read kept in
          (put-block By At (claims node cidr kept) cidr span trail run, block-put By At (claims node cidr kept) cidr span trail run)
      by (Released node cidr mark) =
          let By : Trail → Type 0 = λ t. (read : Option ℕ) × ReleasingBy request t node cidr read mark in
          let At : RequestSpan → Type 0 = λ s. (read : Option ℕ) × IsReleasing s node cidr read mark in
          (put-block By At (releases node cidr mark) cidr span trail run, block-put By At (releases node cidr mark) cidr span trail run)
