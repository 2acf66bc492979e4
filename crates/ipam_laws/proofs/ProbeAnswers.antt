-- What a probe is answered, that it is ready or that nothing is left, is right.
use Rattle.std.proofs.Common.{◌≡◌, ◌≢◌, inl, inr, ℕ, zero, suc, ◌<◌, not, List, [], ◌∷◌, ◌++◌, length, Option, Some, None, refl, sym, ap, ◌∙◌, subst, arith}
use Rattle.std.specs.Prelude.{MatchOption, slice_get}
use Rattle.std.proofs.lemmas.List.Quantifiers.{position-Some}
use Rattle.ipam_addr.specs.Shape.{CidrValue}
use Rattle.std.proofs.lemmas.List.{append_assoc}
use Rattle.ipam_addr.specs.declared.address.Family.{Family}
use Rattle.ipam_records.specs.declared.call.Call.TheVariants.{Get, List as ListAll}
use Rattle.ipam_records.specs.declared.key.Key.TheVariants as key
use Rattle.ipam_records.specs.declared.key.Kind.TheVariants as kind
use Rattle.ipam_records.specs.Word.{Ends}
use Rattle.ipam_model.specs.declared.answer.Answer.{Answer}
use Rattle.ipam_model.specs.declared.answer.Answer.TheVariants as answer
use Rattle.ipam_model.specs.declared.answer.Scan.{Scan}
use Rattle.ipam_model.specs.declared.choice.Choice.{Choice}
use Rattle.ipam_model.specs.declared.choice.Choice.TheVariants.{Borrow, Claim, NoPool, Nothing, Use}
use Rattle.ipam_model.specs.declared.outcome.ProbeAnswer.{ProbeAnswer}
use Rattle.ipam_model.specs.declared.outcome.ProbeAnswer.TheVariants as probe_answer
use Rattle.ipam_model.specs.declared.request.ProbeRequest.{ProbeRequest}
use Rattle.ipam_model.specs.declared.request.Request.TheVariants.{Probe}
use Rattle.ipam_model.specs.Add.{name_in_place}
use Rattle.ipam_model.specs.AnswerLaw.{IsRightAnswer}
use Rattle.ipam_model.specs.Answered.{Answered, span_of}
use Rattle.ipam_model.specs.Choice.{Foreign, IsBest, IsChoice, Own, Rank, Seen, Unclaimed, Unconfirmed, choice_at, choice_of}
use Rattle.ipam_model.specs.History.{begin_moment, now}
use Rattle.ipam_model.specs.Look.{asked_of_probe, probe_choice, probe_each, probe_word}
use Rattle.ipam_model.specs.Moments.{IsNext}
use Rattle.ipam_model.specs.OtherLaws.{AreReady, HasProbed, IsReady, WereReady, last_scan}
use Rattle.ipam_model.specs.Requests.{told_as}
use Rattle.ipam_model.specs.Told.{of_probe}
use Rattle.ipam_model.specs.Usable.{Asked, families_if, is_known, unknown_name}
use Rattle.ipam_model.proofs.ChoiceLemmas.{choice_is}
use Rattle.ipam_laws.proofs.SeenReads.{seen_by_stores}
use Rattle.ipam_laws.proofs.AddRounds.{FiveRead, five-read}
use Rattle.ipam_laws.proofs.FamilyHistory.{reads-before}
use Rattle.ipam_laws.proofs.Trails.{Comes, Comes-bound, Did, IsTrail, Trail}

-- ---- what was scanned

record ScannedLast (request : ProbeRequest) (scan : Scan) (choice : Choice) (before five : Trail) : Type 0 where
  seen : Seen
  reads : FiveRead scan seen before five
  is_choice : IsChoice (asked_of_probe request scan.family) seen choice

-- each of the families was scanned, one after the other, and something was found
data AreScanned (request : ProbeRequest) : List Family → List Scan → Trail → Type 0 where
  First : AreScanned request [] [] []
  Next : (families : List Family) (scans : List Scan) (before five : Trail) (scan : Scan) (choice : Choice) → AreScanned request families scans before → ScannedLast request scan choice before five
      → choice ≢ Nothing → ((place : ℕ) → choice ≢ NoPool place) → AreScanned request (families ++ scan.family ∷ []) (scans ++ scan ∷ []) five

unfoldable Tells : ProbeRequest → Trail → ProbeAnswer → Type 0
Tells request trail (probe_answer.Ready scans) = AreScanned request (families_if request.ipv4 request.ipv6) scans trail
Tells request trail (probe_answer.Exhausted scan) =
    (earlier : List Family) × (later : List Family) × (families_if request.ipv4 request.ipv6 ≡ earlier ++ scan.family ∷ later) × (scans : List Scan) × (before : Trail)
    × AreScanned request earlier scans before × ScannedLast request scan Nothing before trail
Tells request trail (probe_answer.NoPool name moment) =
    (scan : Scan) × (place : ℕ) × (moment ≡ scan.p) × (name ≡ name_in_place (asked_of_probe request scan.family).names place)
    × (earlier : List Family) × (later : List Family) × (families_if request.ipv4 request.ipv6 ≡ earlier ++ scan.family ∷ later) × (scans : List Scan) × (before : Trail)
    × AreScanned request earlier scans before × ScannedLast request scan (NoPool place) before trail

each-comes : (request : ProbeRequest) (earlier later : List Family) (scans : List Scan) (trail : Trail) → families_if request.ipv4 request.ipv6 ≡ earlier ++ later → AreScanned request earlier scans trail → Comes (Tells request) trail (probe_each request scans later)
unfolding probe_each Tells
each-comes request earlier [] scans trail is done = subst (λ (l : List Family). AreScanned request l scans trail) (sym (is ∙ nothing earlier)) done
  where
    nothing : (l : List Family) → l ++ [] ≡ l
    nothing [] = refl
    nothing (x ∷ l) = ap (λ (r : List Family). x ∷ r) (nothing l)
each-comes request earlier (family ∷ later) scans trail is done = λ c config a1 p pools a2 r reservations a3 f affinities a4 b blocks a5.
    let scan : Scan = record { family = family; c = c; p = p; r = r; f = f; b = b } in
    let seen : Seen = seen_by_stores config pools reservations affinities blocks in
    let five : Trail = Did b blocks (ListAll kind.Block) ∷ Did f affinities (ListAll kind.Affinity) ∷ Did r reservations (Get key.Reservations) ∷ Did p pools (Get key.Pools) ∷ Did c config (Get key.Config) ∷ trail in
    let last : (choice : Choice) → IsChoice (asked_of_probe request family) seen choice → ScannedLast request scan choice trail five = λ choice chosen. record {
      seen = seen;
      reads = five-read scan config pools reservations affinities blocks trail;
      is_choice = chosen;
    } in
    by scan refl five (choice_of (asked_of_probe request family) seen) (last (choice_of (asked_of_probe request family) seen) (choice_is (asked_of_probe request family) seen))
    (λ one same further. each-comes request (earlier ++ family ∷ []) later (scans ++ one ∷ []) five (is ∙ sym (append_assoc earlier (family ∷ []) later)) further)
  where
    by : (scan : Scan) → scan.family ≡ family → (five : Trail) (choice : Choice) → ScannedLast request scan choice trail five
        → ((one : Scan) → one.family ≡ family → AreScanned request (earlier ++ family ∷ []) (scans ++ one ∷ []) five → Comes (Tells request) five (probe_each request (scans ++ one ∷ []) later))
        → Comes (Tells request) five (probe_choice (probe_each request (scans ++ scan ∷ []) later) (asked_of_probe request family) scan choice)
    by scan same five Nothing last rest = (earlier, later, is ∙ ap (λ (x : Family). earlier ++ x ∷ later) (sym same), scans, trail, done, last)
    by scan same five (NoPool place) last rest = (
      scan,
      place,
      refl,
      ap (λ (x : Family). name_in_place (asked_of_probe request x).names place) (sym same),
      earlier,
      later,
      is ∙ ap (λ (x : Family). earlier ++ x ∷ later) (sym same),
      scans,
      trail,
      done,
      last,
    )
    by scan same five (Use cidr ordinal) last rest = rest scan same (subst (λ (x : Family). AreScanned request (earlier ++ x ∷ []) (scans ++ scan ∷ []) five) same (Next earlier scans trail five scan (Use cidr ordinal) done last (λ e. cc e) (λ place e. cc e)))
    by scan same five (Claim cidr) last rest = rest scan same (subst (λ (x : Family). AreScanned request (earlier ++ x ∷ []) (scans ++ scan ∷ []) five) same (Next earlier scans trail five scan (Claim cidr) done last (λ e. cc e) (λ place e. cc e)))
    by scan same five (Borrow cidr ordinal) last rest = rest scan same (subst (λ (x : Family). AreScanned request (earlier ++ x ∷ []) (scans ++ scan ∷ []) five) same (Next earlier scans trail five scan (Borrow cidr ordinal) done last (λ e. cc e) (λ place e. cc e)))

-- ---- in the span

ready-more : (a : Answered) (request : ProbeRequest) (families : List Family) (scans : List Scan) (moment : ℕ) (scan : Scan) → AreReady a request moment families scans → IsNext (span_of a) (last_scan moment scans) scan.c → IsReady a request scan → AreReady a request moment (families ++ scan.family ∷ []) (scans ++ scan ∷ [])
ready-more a request [] [] moment scan h next ready = (refl, next, ready, tt)
ready-more a request (family ∷ families) (one ∷ scans) moment scan h next ready = (h.0, h.1, h.2, ready-more a request families scans one.b scan h.3 next ready)
ready-more a request [] (one ∷ scans) moment scan h next ready = absurd h
ready-more a request (family ∷ families) [] moment scan h next ready = absurd h

last-more : (moment : ℕ) (scans : List Scan) (scan : Scan) → last_scan moment (scans ++ scan ∷ []) ≡ scan.b
last-more moment [] scan = refl
last-more moment (one ∷ scans) scan = last-more one.b scans scan

are-ready : (a : Answered) (request : ProbeRequest) (families : List Family) (scans : List Scan) (trail : Trail) (upto : ℕ) → IsTrail (span_of a) upto trail → AreScanned request families scans trail
    → AreReady a request (begin_moment (span_of a)) families scans × IsNext (span_of a) (last_scan (begin_moment (span_of a)) scans) upto
unfolding IsTrail
are-ready a request _ _ _ upto is First = (tt, is.1)
are-ready a request _ _ _ upto is (Next families scans before five scan choice earlier last some known) =
    let (scanned, part) = reads-before (span_of a) scan last.seen before five upto last.reads is in
    let (ready, next) = are-ready a request families scans before scan.c part.first earlier in
    let one : IsReady a request scan = record {
      choice = choice;
      probed = record { seen = last.seen; scanned = scanned; is_choice = last.is_choice };
      something = some;
      known = known;
    } in (
      ready-more a request families scans (begin_moment (span_of a)) scan ready next one,
      subst (λ (m : ℕ). IsNext (span_of a) m upto) (sym (last-more (begin_moment (span_of a)) scans scan)) part.last,
    )

-- ---- a name that no pool has

-- the choice of a place is that of the first name that no pool has
pub unknown-place : (asked : Asked) (seen : Seen) (place : ℕ) → IsChoice asked seen (NoPool place) → unknown_name asked seen.pools ≡ Some place
unknown-place asked seen place is = by (unknown_name asked seen.pools) refl is
  where
    none-at : (slot : CidrValue) (rank : Rank) → NoPool place ≢ choice_at slot rank
    none-at slot (Own found ordinal) e = cc e
    none-at slot (Unconfirmed found) e = cc e
    none-at slot (Unclaimed read) e = cc e
    none-at slot (Foreign found ordinal) e = cc e

    by : (o : Option ℕ) → unknown_name asked seen.pools ≡ o → MatchOption o (IsBest asked seen (NoPool place)) (λ other. NoPool place ≡ NoPool other) → unknown_name asked seen.pools ≡ Some place
    by (Some other) e same = let is : other ≡ place = cc same in e ∙ ap Some is
    by None e (inl none) = let n = none.1 in absurd (cc n)
    by None e (inr (c, same)) = absurd (none-at c.best.ranked.slot c.best.ranked.rank same)

there-is : (names : List (List ℕ)) (place : ℕ) → place < length names → slice_get names place ≡ Some (name_in_place names place)
there-is [] place below = absurd (omega arith)
there-is (name ∷ names) zero below = refl
there-is (name ∷ names) (suc place) below = there-is names place (omega arith)

pub named-place : (asked : Asked) (seen : Seen) (place : ℕ) → IsChoice asked seen (NoPool place) → slice_get asked.names place ≡ Some (name_in_place asked.names place)
named-place asked seen place is = there-is asked.names place (position-Some (λ name. not (is_known asked seen.pools name)) asked.names place [] (unknown-place asked seen place is)).0

-- ---- the answers

pub OfProbe : ProbeRequest → Trail → Answer → Type 0
OfProbe request trail (answer.Ready scans) = Tells request trail (probe_answer.Ready scans)
OfProbe request trail (answer.Exhausted scan) = Tells request trail (probe_answer.Exhausted scan)
OfProbe request trail (answer.NoPool name moment) = Tells request trail (probe_answer.NoPool name moment)
OfProbe request trail _ = ⊥

pub probe-comes : (request : ProbeRequest) → Comes (OfProbe request) [] (told_as of_probe (probe_word request))
unfolding OfProbe
probe-comes request =
    Comes-bound (Tells request) (OfProbe request) (λ one. Ends (of_probe one)) (probe_word request) []
    (each-comes request [] (families_if request.ipv4 request.ipv6) [] [] refl First) ends
  where
    ends : (longer : Trail) (one : ProbeAnswer) → Tells request longer one → Comes (OfProbe request) longer (Ends (of_probe one))
    ends longer (probe_answer.Ready scans) t = t
    ends longer (probe_answer.Exhausted scan) t = t
    ends longer (probe_answer.NoPool name moment) t = t

were-ready : (a : Answered) (request : ProbeRequest) (scan : Scan) (earlier later : List Family) (scans : List Scan) (before five : Trail) (choice : Choice) → IsTrail (span_of a) (now (span_of a)) five → families_if request.ipv4 request.ipv6 ≡ earlier ++ scan.family ∷ later
    → AreScanned request earlier scans before → ScannedLast request scan choice before five → WereReady a request scan × HasProbed a request scan choice
were-ready a request scan earlier later scans before five choice is wanted done last =
    let (scanned, part) = reads-before (span_of a) scan last.seen before five (now (span_of a)) last.reads is in
    let (ready, next) = are-ready a request earlier scans before scan.c part.first done in (
      record { earlier = earlier; later = later; wanted = wanted; scans = scans; ready = ready; then_scanned = next },
      record { seen = last.seen; scanned = scanned; is_choice = last.is_choice },
    )

pub probe-right : (a : Answered) (request : ProbeRequest) (trail : Trail) → a.request ≡ Probe request → IsTrail (span_of a) (now (span_of a)) trail → (told : Answer) → OfProbe request trail told → IsRightAnswer a told
unfolding OfProbe Tells IsTrail
probe-right a request trail is there (answer.Ready scans) tells = (request, is, (are-ready a request (families_if request.ipv4 request.ipv6) scans trail (now (span_of a)) there tells).0)
probe-right a request trail is there (answer.Exhausted scan) (earlier, later, wanted, scans, before, done, last) =
    let (ready, probed) = were-ready a request scan earlier later scans before trail Nothing there wanted done last in inr (request, is, record { earlier = ready; probed = probed })
probe-right a request trail is there (answer.NoPool name moment) (scan, place, at, called, earlier, later, wanted, scans, before, done, last) =
    let (ready, probed) = were-ready a request scan earlier later scans before trail (NoPool place) there wanted done last in
    inr (
      request,
      is,
      record {
        scan = scan;
        place = place;
        earlier = ready;
        probed = probed;
        is_name = named-place (asked_of_probe request scan.family) last.seen place last.is_choice ∙ ap Some (sym called);
        at_pools = at;
      },
    )
probe-right a request trail is there other h = absurd h
