-- In each history the answers of an ADD speak of a family that was wanted, and of a round for it.
use Rattle.std.proofs.Common.{◌≡◌, ◌≢◌, ℕ, ◌+◌, ◌<◌, ◌≤◌, ◌⊎◌, inl, inr, List, [], ◌∷◌, ◌++◌, Some, refl, sym, ap, ◌∙◌, subst, arith, nat_lt, ltb-true, ltb-false}
use Rattle.std.proofs.lemmas.Bool.{cases_Bool}
use Rattle.ipam_addr.specs.declared.address.Family.{Family}
use Rattle.ipam_records.specs.declared.call.Call.{Call}
use Rattle.ipam_records.specs.declared.call.Call.TheVariants.{Get, List as ListAll}
use Rattle.ipam_records.specs.declared.key.Key.TheVariants as key
use Rattle.ipam_records.specs.declared.key.Kind.TheVariants as kind
use Rattle.ipam_records.specs.Datastore.{Datastore, reply_of}
use Rattle.ipam_records.specs.Said.{Said, Found, Missing, Listed, Can, Exists, Conflict, Full, Spent}
use Rattle.ipam_records.specs.Word.{Word, Ends, Asks, Waits}
use Rattle.ipam_model.specs.declared.answer.Answer.{Answer}
use Rattle.ipam_model.specs.declared.answer.Answer.TheVariants as answer
use Rattle.ipam_model.specs.declared.answer.Given.{Given}
use Rattle.ipam_model.specs.declared.answer.Scan.{Scan}
use Rattle.ipam_model.specs.declared.choice.Choice.{Choice}
use Rattle.ipam_model.specs.declared.choice.Choice.TheVariants.{Use, Borrow, Nothing, NoPool}
use Rattle.ipam_model.specs.declared.entry.CallName.TheVariants as name
use Rattle.ipam_model.specs.declared.entry.Called.{Called}
use Rattle.ipam_model.specs.declared.entry.Entry.TheVariants as entry
use Rattle.ipam_model.specs.declared.entry.Fate.{Fate}
use Rattle.ipam_model.specs.declared.entry.Fate.TheVariants.{Well, Before, After}
use Rattle.ipam_model.specs.declared.entry.Told.TheVariants as told_of_call
use Rattle.ipam_model.specs.declared.request.AddRequest.{AddRequest}
use Rattle.ipam_model.specs.declared.request.Request.{Request}
use Rattle.ipam_model.specs.declared.request.Request.TheVariants.{Add, AddThis, Del, Check, Release, Collect, Admin, Probe}
use Rattle.ipam_model.specs.Add.{asked_of}
use Rattle.ipam_model.specs.AddLaw.{families_of, scan_of, HasChosen, HasGiven, IsRoundFor}
use Rattle.ipam_model.specs.AnswerLaw.{IsInRound, IsTarget, Chosen}
use Rattle.ipam_model.specs.Answered.{Answered, history_of, span_of}
use Rattle.ipam_model.specs.Choice.{IsChoice, Seen}
use Rattle.ipam_model.specs.Credits.{call_key_written}
use Rattle.ipam_model.specs.FamilyLaw.{AreFromRounds, FamilyLaw, IsOfRound}
use Rattle.ipam_model.specs.History.{HeardCall, InSpan, Lawful, RequestSpan, begin_moment, now, seen_at}
use Rattle.ipam_model.specs.Moments.{IsNext}
use Rattle.ipam_model.specs.Named.{name_of, told_of}
use Rattle.ipam_model.specs.Owners.{owned_in}
use Rattle.ipam_model.specs.Requests.{word_of}
use Rattle.ipam_model.specs.Rounds.{HasScanned}
use Rattle.ipam_laws.proofs.AddFamilies.{IsTold, told-comes}
use Rattle.ipam_laws.proofs.AddRounds.{AreGivenBy, FiveRead, IsAimed, IsChosen, IsFor}
use Rattle.ipam_laws.proofs.AddTrails.{HasGift, IsGift, More, Quietly, Same}
use Rattle.ipam_laws.proofs.StoreSteps.{failed-answered}
use Rattle.ipam_laws.proofs.Trails.{Comes, Did, DidAt, Got, IsBegun, IsTrail, Trail, answer-comes}

-- ---- the step of a moment

pub told-can : (said : Said) (revision : ℕ) → told_of said ≡ told_of_call.Done revision → said ≡ Can revision
told-can (Found old found) revision e = absurd (cc e)
told-can Missing revision e = absurd (cc e)
told-can (Listed rows) revision e = absurd (cc e)
told-can (Can taken) revision e = cc e
told-can (Exists old) revision e = absurd (cc e)
told-can (Conflict old) revision e = absurd (cc e)
told-can Full revision e = absurd (cc e)
told-can Spent revision e = absurd (cc e)

-- a moment before, the same, or after
pub three : (k m : ℕ) → (k < m) ⊎ ((k ≡ m) ⊎ (m < k))
three k m = elim (cases_Bool (nat_lt k m)) [
  | inl below ↦ inl (ltb-true k m below)
  | inr not ↦ elim (cases_Bool (nat_lt m k)) [
    | inl above ↦ inr (inr (ltb-true m k above))
    | inr neither ↦
        let a = ltb-false k m not in
        let b = ltb-false m k neither in
        inr (inl (omega arith))
  ]
]

-- two calls of one moment are one
pub same-call : (span : RequestSpan) (moment : ℕ) (one other : Called) → InSpan span moment (entry.Called one) → InSpan span moment (entry.Called other) → one ≡ other
same-call span moment one other a b = let both : Some (entry.Called one) ≡ Some (entry.Called other) = sym a.is_there ∙ b.is_there in cc both

pub fed-not-called : (span : RequestSpan) (moment at : ℕ) (live : List (List ℕ)) (c : Called) → InSpan span moment (entry.Fed span.slot at live) → ¬ (InSpan span moment (entry.Called c))
fed-not-called span moment at live c a b = let both : Some (entry.Fed span.slot at live) ≡ Some (entry.Called c) = sym a.is_there ∙ b.is_there in absurd (cc both)

began-not-called : (span : RequestSpan) (c : Called) → IsBegun span → ¬ (InSpan span (begin_moment span) (entry.Called c))
began-not-called span c a b = let both : Some (entry.Began span.slot a.request) ≡ Some (entry.Called c) = sym a.in_span.is_there ∙ b.is_there in absurd (cc both)

-- nothing comes before the first step
pub none-first : (span : RequestSpan) (k upto : ℕ) (c : Called) → IsBegun span → IsNext span (begin_moment span) upto → k < upto → ¬ (InSpan span k (entry.Called c))
none-first span k upto c begun next below inside = elim (three k (begin_moment span)) [
  | inl early ↦ let since = inside.since in absurd (omega arith)
  | inr (inl same) ↦ began-not-called span c begun (subst (λ (m : ℕ). InSpan span m (entry.Called c)) same inside)
  | inr (inr late) ↦ next.nothing_between k (entry.Called c) late below inside
]

-- ---- gifts

-- the call of the step is the one that gave
step-gift : (span : RequestSpan) (moment : ℕ) (family : Family) (m : ℕ) (store : Datastore) (asked : Call) → DidAt span m store asked → (g : HasGiven span moment family) → g.given_at ≡ m → IsGift store asked family
step-gift span moment family m store asked did g same =
    let wrote = g.wrote in
    let inside = subst (λ (k : ℕ). InSpan span k (entry.Called wrote.c)) same wrote.in_span in
    let call : wrote.c ≡ did.c = same-call span m wrote.c did.c inside did.in_span in
    let name_is : name_of asked ≡ wrote.c.call = sym did.is_call ∙ ap (λ (c : Called). c.call) (sym call) in
    let reply : told_of (reply_of store asked) ≡ told_of_call.Done wrote.revision = sym did.is_reply ∙ ap (λ (c : Called). c.reply) (sym call) ∙ wrote.is_done in
    let more = subst (λ (k : ℕ). owned_in (seen_at span k) g.cidr < owned_in (seen_at span (k + 1)) g.cidr) same g.more in
    let first = subst (λ (s : Datastore). owned_in s g.cidr < owned_in (seen_at span (m + 1)) g.cidr) did.before_it more in
    record {
      cidr = g.cidr;
      of_family = g.of_family;
      writes = ap call_key_written name_is ∙ wrote.is_of;
      revision = wrote.revision;
      done = told-can (reply_of store asked) wrote.revision reply;
      more = subst (λ (s : Datastore). owned_in store g.cidr < owned_in s g.cidr) did.behind_it first;
    }

given-gift : (span : RequestSpan) (moment : ℕ) (family : Family) (g : HasGiven span moment family) (trail : Trail) (upto : ℕ) → IsTrail span upto trail → g.given_at < upto → HasGift trail family
unfolding IsTrail HasGift
given-gift span moment family g [] upto h below = absurd (none-first span g.given_at upto g.wrote.c h.0 h.1 below g.wrote.in_span)
given-gift span moment family g (Did m store asked ∷ trail) upto h below = elim (three g.given_at m) [
  | inl early ↦ inr (given-gift span moment family g trail m h.2 early)
  | inr (inl same) ↦ inl (step-gift span moment family m store asked h.0 g same)
  | inr (inr late) ↦ absurd (h.1.nothing_between g.given_at (entry.Called g.wrote.c) late below g.wrote.in_span)
]
given-gift span moment family g (Got m at live ∷ trail) upto h below = elim (three g.given_at m) [
  | inl early ↦ given-gift span moment family g trail m h.2 early
  | inr (inl same) ↦ absurd (fed-not-called span m at live g.wrote.c h.0 (subst (λ (k : ℕ). InSpan span k (entry.Called g.wrote.c)) same g.wrote.in_span))
  | inr (inr late) ↦ absurd (h.1.nothing_between g.given_at (entry.Called g.wrote.c) late below g.wrote.in_span)
]

gift-given : (span : RequestSpan) (moment : ℕ) (family : Family) (trail : Trail) (upto : ℕ) → IsTrail span upto trail → upto ≤ moment → HasGift trail family → HasGiven span moment family
unfolding IsTrail HasGift
gift-given span moment family [] upto h early gift = absurd gift
gift-given span moment family (Did m store asked ∷ trail) upto h early (inl gift) =
    let did = h.0 in
    let before_upto = h.1.behind in
    record {
      given_at = m;
      earlier = omega arith;
      cidr = gift.cidr;
      of_family = gift.of_family;
      wrote = record {
        c = did.c;
        in_span = did.in_span;
        is_of = ap call_key_written did.is_call ∙ gift.writes;
        revision = gift.revision;
        is_done = did.is_reply ∙ ap told_of gift.done;
      };
      more = subst (λ (s : Datastore). owned_in s gift.cidr < owned_in (seen_at span (m + 1)) gift.cidr) (sym did.before_it)
          (subst (λ (s : Datastore). owned_in store gift.cidr < owned_in s gift.cidr) (sym did.behind_it) gift.more);
    }
gift-given span moment family (Did m store asked ∷ trail) upto h early (inr rest) =
    let before_upto = h.1.behind in gift-given span moment family trail m h.2 (omega arith) rest
gift-given span moment family (Got m at live ∷ trail) upto h early gift =
    let before_upto = h.1.behind in gift-given span moment family trail m h.2 (omega arith) gift

-- ---- what was read and chosen

pub heard : (span : RequestSpan) (moment : ℕ) (store : Datastore) (asked : Call) → DidAt span moment store asked → HeardCall span moment asked (reply_of store asked)
heard span moment store asked did = record {
  entry_of_call = did.c;
  in_span = did.in_span;
  well = did.well;
  is_call = did.is_call;
  is_reply = ap (λ (s : Datastore). reply_of s asked) (sym did.before_it);
}

-- the trail of a part further back
record IsBack (span : RequestSpan) (trail : Trail) : Type 0 where
  upto : ℕ
  is_trail : IsTrail span upto trail

back : (span : RequestSpan) (more trail : Trail) (upto : ℕ) → IsTrail span upto (more ++ trail) → IsBack span trail
unfolding IsTrail
back span [] trail upto h = record { upto = upto; is_trail = h }
back span (Did m store asked ∷ more) trail upto h = back span more trail m h.2
back span (Got m at live ∷ more) trail upto h = back span more trail m h.2

-- the five reads of a round, and the trail before them
pub record IsScanned (span : RequestSpan) (scan : Scan) (before : Trail) (upto : ℕ) : Type 0 where
  pub first : IsTrail span scan.c before
  pub last : IsNext span scan.b upto

pub reads-before : (span : RequestSpan) (scan : Scan) (seen : Seen) (before five : Trail) (upto : ℕ) → FiveRead scan seen before five → IsTrail span upto five → HasScanned span scan seen × IsScanned span scan before upto
unfolding IsTrail
reads-before span scan seen before five upto reads h =
    let (at_b, next, (at_f, then_b, (at_r, then_f, (at_p, then_r, (at_c, then_p, first))))) = subst (λ (t : Trail). IsTrail span upto t) reads.is h in (
      record {
        config = reply_of reads.config (Get key.Config);
        pools = reply_of reads.pools (Get key.Pools);
        reservations = reply_of reads.reservations (Get key.Reservations);
        affinities = reply_of reads.affinities (ListAll kind.Affinity);
        blocks = reply_of reads.blocks (ListAll kind.Block);
        at_c = heard span scan.c reads.config (Get key.Config) at_c;
        at_p = heard span scan.p reads.pools (Get key.Pools) at_p;
        at_r = heard span scan.r reads.reservations (Get key.Reservations) at_r;
        at_f = heard span scan.f reads.affinities (ListAll kind.Affinity) at_f;
        at_b = heard span scan.b reads.blocks (ListAll kind.Block) at_b;
        then_p = then_p;
        then_r = then_r;
        then_f = then_f;
        then_b = then_b;
        saw_config = reads.saw_config;
        saw_pools = reads.saw_pools;
        saw_reservations = reads.saw_reservations;
        saw_affinities = reads.saw_affinities;
        saw_blocks = reads.saw_blocks;
      },
      record { first = first; last = next },
    )

round-for : (span : RequestSpan) (request : AddRequest) (scan : Scan) (before : Trail) → IsTrail span scan.c before → IsFor request scan.family before → IsRoundFor span request scan.c scan.family
round-for span request scan before h is_for = record {
  earlier = is_for.earlier;
  later = is_for.later;
  wanted = is_for.wanted;
  have_theirs = λ n d within. gift-given span scan.c _ before scan.c h (omega arith) (is_for.given n d within);
  has_not = λ g. is_for.apart (is_for.only scan.family (given-gift span scan.c scan.family g before scan.c h g.earlier));
}

chosen-in : (span : RequestSpan) (request : AddRequest) (scan : Scan) (choice : Choice) (seen : Seen) (before five : Trail) (upto : ℕ) → FiveRead scan seen before five → IsTrail span upto five → IsFor request scan.family before
    → IsChoice (asked_of request scan.family) seen choice → HasChosen span request scan choice
chosen-in span request scan choice seen before five upto reads h is_for is =
    let (scanned, rest) = reads-before span scan seen before five upto reads h in
    record {
      round = round-for span request scan before rest.first is_for;
      seen = seen;
      scanned = scanned;
      is_choice = is;
    }

pub chosen-span : (span : RequestSpan) (request : AddRequest) (scan : Scan) (choice : Choice) (trail : Trail) (upto : ℕ) → IsTrail span upto trail → IsChosen request scan choice trail → HasChosen span request scan choice
chosen-span span request scan choice trail upto h c =
    let there = back span c.more c.five upto (subst (λ (t : Trail). IsTrail span upto t) c.is h) in
    chosen-in span request scan choice c.seen c.before c.five there.upto c.reads there.is_trail c.round c.is_choice

all-from-rounds : (span : RequestSpan) (request : AddRequest) (trail : Trail) (upto : ℕ) → IsTrail span upto trail → (families : List Family) (given : List Given) → AreGivenBy request trail families given → AreFromRounds span request families given
unfolding AreGivenBy
all-from-rounds span request trail upto h [] [] k = tt
all-from-rounds span request trail upto h [] (given ∷ more) k = k
all-from-rounds span request trail upto h (family ∷ families) [] k = k
all-from-rounds span request trail upto h (family ∷ families) (given ∷ more) k =
    let one = k.0 in (
      record {
        cidr = one.cidr;
        ordinal = one.ordinal;
        chosen = elim one.chosen [
          | inl own ↦ inl (chosen-span span request (scan_of family given) (Use one.cidr one.ordinal) trail upto h own)
          | inr other ↦ inr (chosen-span span request (scan_of family given) (Borrow one.cidr one.ordinal) trail upto h other)
        ];
        is_address = one.is_address;
      },
      all-from-rounds span request trail upto h families more k.1,
    )

-- ---- the round of a count that is at its limit

module _ (span : RequestSpan) (scan : Scan) (seen : Seen) (before five : Trail) (reads : FiveRead scan seen before five) where
  no-round : (between : Trail) → Quietly five between → (upto : ℕ) → IsTrail span upto between → (k : ℕ) (c : Called) → scan.b < k → k < upto → InSpan span k (entry.Called c) → c.call ≢ name.Get key.Config
  unfolding IsTrail
  no-round between Same upto h k c above below inside =
      let (scanned, rest) = reads-before span scan seen before five upto reads h in
      absurd (rest.last.nothing_between k (entry.Called c) above below inside)
  no-round between (More m store asked longer quiet earlier) upto h k c above below inside = elim (three k m) [
    | inl early ↦ no-round longer earlier m h.2 k c above early inside
    | inr (inl same) ↦
        let call : c ≡ h.0.c = same-call span m c h.0.c (subst (λ (n : ℕ). InSpan span n (entry.Called c)) same inside) h.0.in_span in
        λ config. quiet.no_round (sym h.0.is_call ∙ ap (λ (x : Called). x.call) (sym call) ∙ config)
    | inr (inr late) ↦ absurd (h.1.nothing_between k (entry.Called c) late below inside)
  ]

  scan-behind : (between : Trail) → Quietly five between → (upto : ℕ) → IsTrail span upto between → scan.b < upto
  unfolding IsTrail
  scan-behind between Same upto h = let (scanned, rest) = reads-before span scan seen before five upto reads h in rest.last.behind
  scan-behind between (More m store asked longer quiet earlier) upto h =
      let k = scan-behind longer earlier m h.2 in
      let l = h.1.behind in
      omega arith

  five-back : (between : Trail) → Quietly five between → (upto : ℕ) → IsTrail span upto between → IsBack span five
  unfolding IsTrail
  five-back between Same upto h = record { upto = upto; is_trail = h }
  five-back between (More m store asked longer quiet earlier) upto h = five-back longer earlier m h.2

-- the handle was read at the moment, over this store
pub record IsReadThen (span : RequestSpan) (id : List ℕ) (moment : ℕ) (store : Datastore) : Type 0 where
  pub read : HeardCall span moment (Get (key.Handle id)) (reply_of store (Get (key.Handle id)))
  pub before_it : seen_at span moment ≡ store

pub aimed-span : (a : Answered) (request : AddRequest) (moment : ℕ) (trail : Trail) (upto : ℕ) → a.request ≡ Add request → IsTrail (span_of a) upto trail → (aimed : IsAimed request moment trail)
    → IsTarget a moment aimed.cidr × IsReadThen (span_of a) request.attributes.handle moment aimed.store
unfolding IsTrail
aimed-span a request moment trail upto is h c =
    let span = span_of a in
    let there = back span c.more (Did moment c.store (Get (key.Handle request.attributes.handle)) ∷ c.between) upto (subst (λ (t : Trail). IsTrail span upto t) c.is h) in
    let between = there.is_trail.2 in
    let five = five-back span c.scan c.seen c.before c.five c.reads c.between c.quiet moment between in
    let round : IsInRound a c.scan.b moment = record {
      behind = scan-behind span c.scan c.seen c.before c.five c.reads c.between c.quiet moment between;
      same_round = no-round span c.scan c.seen c.before c.five c.reads c.between c.quiet moment between;
    } in
    let handle = Get (key.Handle request.attributes.handle) in
    let read : IsReadThen span request.attributes.handle moment c.store = record { read = heard span moment c.store handle there.is_trail.0; before_it = there.is_trail.0.before_it } in
    elim c.is_choice [
      | inl own ↦ (Chosen request c.scan c.ordinal is (inl (chosen-in span request c.scan (Use c.cidr c.ordinal) c.seen c.before c.five five.upto c.reads five.is_trail c.round own)) round, read)
      | inr other ↦ (Chosen request c.scan c.ordinal is (inr (chosen-in span request c.scan (Borrow c.cidr c.ordinal) c.seen c.before c.five five.upto c.reads five.is_trail c.round other)) round, read)
    ]

-- ---- the law

Tells : Request → Trail → Answer → Type 0
Tells (Add request) trail told = IsTold request told trail
Tells (AddThis request address) trail told = Unit {0}
Tells (Del id) trail told = Unit {0}
Tells (Check id addresses) trail told = Unit {0}
Tells (Release node cidr) trail told = Unit {0}
Tells (Collect request) trail told = Unit {0}
Tells (Admin request) trail told = Unit {0}
Tells (Probe request) trail told = Unit {0}

pub comes-any : {A : Type 0} → (Q : Trail → A → Type 0) → ((trail : Trail) (a : A) → Q trail a) → (w : Word A) (trail : Trail) → Comes Q trail w
comes-any Q all (Ends answer) trail = all trail answer
comes-any Q all (Asks label asked next) trail = λ moment store agrees. comes-any Q all (next moment (reply_of store asked)) (Did moment store asked ∷ trail)
comes-any Q all (Waits next) trail = λ moment at live. comes-any Q all (next live) (Got moment at live ∷ trail)

starts : (request : Request) → Comes (Tells request) [] (word_of request)
unfolding word_of Tells
starts (Add request) = told-comes request
starts (AddThis request address) = comes-any (λ trail (told : Answer). Unit {0}) (λ trail told. tt) (word_of (AddThis request address)) []
starts (Del id) = comes-any (λ trail (told : Answer). Unit {0}) (λ trail told. tt) (word_of (Del id)) []
starts (Check id addresses) = comes-any (λ trail (told : Answer). Unit {0}) (λ trail told. tt) (word_of (Check id addresses)) []
starts (Release node cidr) = comes-any (λ trail (told : Answer). Unit {0}) (λ trail told. tt) (word_of (Release node cidr)) []
starts (Collect request) = comes-any (λ trail (told : Answer). Unit {0}) (λ trail told. tt) (word_of (Collect request)) []
starts (Admin request) = comes-any (λ trail (told : Answer). Unit {0}) (λ trail told. tt) (word_of (Admin request)) []
starts (Probe request) = comes-any (λ trail (told : Answer). Unit {0}) (λ trail told. tt) (word_of (Probe request)) []

of-round : (a : Answered) (request : AddRequest) (trail : Trail) (upto : ℕ) → a.request ≡ Add request → IsTrail (span_of a) upto trail → (told : Answer) → IsTold request told trail → IsOfRound a request told
unfolding IsTold
of-round a request trail upto is h (answer.Exhausted scan) k = chosen-span (span_of a) request scan Nothing trail upto h k
of-round a request trail upto is h (answer.NoPool called moment) (scan, place, at, called_so, k) = (scan, place, at, chosen-span (span_of a) request scan (NoPool place) trail upto h k)
of-round a request trail upto is h (answer.CountFull moment) k = (k.cidr, (aimed-span a request moment trail upto is h k).0)
of-round a request trail upto is h (answer.Added given) k = all-from-rounds (span_of a) request trail upto h (families_of request) given k
of-round a request trail upto is h other k = tt

failed-round : (a : Answered) (request : AddRequest) (told : Answer) → Lawful a.base (history_of a) → a.call.answer ≡ Some told → a.call.fate ≢ Well → IsOfRound a request told
failed-round a request told h given failed =
    let fault = failed-answered a.base a.earlier a.call h failed in
    let same : answer.Fault ≡ told = cc (fault, given) in
    subst (λ (x : Answer). IsOfRound a request x) same tt

pub families_are_wanted : FamilyLaw
unfolding Tells
families_are_wanted a request told sound h requested is given = by a.call.fate refl
  where
    well : a.call.fate ≡ Well → IsOfRound a request told
    well fate =
        let comes = answer-comes Tells starts a told sound h requested given fate in
        let tells : IsTold request told comes.trail = subst (λ (r : Request). Tells r comes.trail told) is comes.comes in
        of-round a request comes.trail (now (span_of a)) is comes.is_trail told tells

    by : (fate : Fate) → a.call.fate ≡ fate → IsOfRound a request told
    by Well fate = well fate
    by Before fate = failed-round a request told h given (λ e. cc (e, fate))
    by After fate = failed-round a request told h given (λ e. cc (e, fate))
