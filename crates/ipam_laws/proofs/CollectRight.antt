-- What a collection is answered is right: it tells of exactly the leaks, in their order, each freed exactly
-- where it freed it, and none of them owns its address.
use Rattle.std.proofs.Common.{◌≡◌, ◌≢◌, ℕ, zero, suc, ◌+◌, ◌-◌, ◌<◌, ◌≤◌, inl, inr, Bool, true, List, [], ◌∷◌, ◌++◌, map, Option, Some, None, refl, sym, ap, ◌∙◌, subst, arith, ltb-false}
use Rattle.std.specs.Prelude.{AllPairs, Contains, IsTrue, ◌&&◌, ◌==◌, ◌↔◌, bytes_eq, nat_lt, option_map}
use Rattle.std.specs.List.{count_by}
use Rattle.std.proofs.lemmas.Bool.{cases_Bool, eqb-false}
use Rattle.std.proofs.lemmas.List.Kept.{AllPairs-cons}
use Rattle.ipam_addr.specs.Shape.{AddrValue}
use Rattle.ipam_block.specs.Operations.{block_without, is_stamped, next_block}
use Rattle.ipam_block.specs.Shape.{BlockValue}
use Rattle.ipam_block.specs.Order.{family_rank}
use Rattle.ipam_records.specs.declared.call.Call.{Call}
use Rattle.ipam_records.specs.declared.call.Call.TheVariants.{List as ListAll}
use Rattle.ipam_records.specs.declared.key.Key.TheVariants as key
use Rattle.ipam_records.specs.declared.key.Kind.TheVariants as kind
use Rattle.ipam_records.specs.declared.record.Record.TheVariants as record_of
use Rattle.ipam_records.specs.Datastore.{Datastore, reply_of, row_of}
use Rattle.ipam_records.specs.Said.{Can}
use Rattle.ipam_model.specs.declared.answer.Collected.{Collected}
use Rattle.ipam_model.specs.declared.answer.Item.{Item}
use Rattle.ipam_model.specs.declared.entry.Entry.{Entry}
use Rattle.ipam_model.specs.declared.entry.Entry.TheVariants as entry
use Rattle.ipam_model.specs.declared.request.CollectRequest.{CollectRequest}
use Rattle.ipam_model.specs.declared.request.Request.{Request}
use Rattle.ipam_model.specs.declared.request.Request.TheVariants.{Collect}
use Rattle.ipam_model.specs.Answered.{Answered, history_of, span_of}
use Rattle.ipam_model.specs.BlockLaw.{BlockAt}
use Rattle.ipam_model.specs.Cluster.{RunningRequest, after}
use Rattle.ipam_model.specs.Consistent.{IsConsistent}
use Rattle.ipam_model.specs.History.{Base, Lawful, RequestSpan, begin_moment, cluster_at, now, seen_at, seen_now, store_at}
use Rattle.ipam_model.specs.Moments.{LostAt, LostInSpan, Owns, Recorded, request_in}
use Rattle.ipam_model.specs.OtherLaws.{IsCollectedRight, owner_in}
use Rattle.ipam_model.specs.OwnerLaw.{Collecting, IsLeak}
use Rattle.ipam_model.specs.Owners.{IsBefore, Owner, same_owner}
use Rattle.ipam_model.specs.Remove.{Leak, freeing_owner, item_of}
use Rattle.ipam_laws.proofs.ActParts.{IsCurrent, freeing_call}
use Rattle.ipam_laws.proofs.CalmHistory.{began-leaves, is-apart, quiet-entry}
use Rattle.ipam_laws.proofs.CollectTrails.{CollectStep, CollectSteps, DidCollect, Rests, Took, head_of, owner_at, whole_of}
use Rattle.ipam_laws.proofs.CountLemmas.{same_text}
use Rattle.ipam_laws.proofs.FamilyHistory.{three}
use Rattle.ipam_laws.proofs.FedDue.{AreDue, DueIn, due-skip, fed-due}
use Rattle.ipam_laws.proofs.FreeTrails.{Elsewhere, Freed, Idle, NoneThere, NotDone, Rid}
use Rattle.ipam_laws.proofs.LeaksAll.{leak-found, leaks-order, own-owner}
use Rattle.ipam_laws.proofs.LeaksFound.{IsFoundLeak, IsSuspect, found-leak, same-owner-is}
use Rattle.ipam_laws.proofs.Lift.{behind}
use Rattle.ipam_laws.proofs.Members.{all-of, in-map, out-map}
use Rattle.ipam_laws.proofs.NoReturn.{consistent-before}
use Rattle.ipam_laws.proofs.Owned.{HeldIn, held-in, held-owns, owns-held}
use Rattle.ipam_laws.proofs.OwnersEffects.{Rewrites, moves}
use Rattle.ipam_laws.proofs.OwnersHistory.{leak-is, owner-at, part-of, went-by}
use Rattle.ipam_laws.proofs.OwnersMoves.{Given, NotGiven, apart-leaves, granted-cases, loses-one, rewrites, stamped_owner}
use Rattle.ipam_laws.proofs.OwnersOrder.{owners_order, pairs-head, pairs-of, pairs-tail}
use Rattle.ipam_laws.proofs.RidHistory.{PicksOwner, rid-gone}
use Rattle.ipam_laws.proofs.RowOrder.{member-found}
use Rattle.ipam_laws.proofs.Trails.{Did, DidAt, Got, IsTrail, Trail}

-- ---- addresses in order

not-before : (one other : AddrValue) → one ≡ other → IsBefore one other → ⊥
not-before one other same (inl below) = let ranks = ap (λ (a : AddrValue). family_rank a.family) same in omega (arith, ranks)
not-before one other same (inr both) = let below = both.1 in let numbers = ap (λ (a : AddrValue). a.number) same in omega (arith, numbers)

-- ---- a leak that was found

-- what lies in a block has its base and its family
record IsInBlock (leak : Leak) : Type 0 where
  number : leak.owner.address.number - leak.block.base + leak.block.base ≡ leak.owner.address.number
  family : leak.block.family ≡ leak.owner.address.family

suspect-in-block : (store : Datastore) (collect : CollectRequest) (leak : Leak) → IsSuspect store collect leak → IsInBlock leak
suspect-in-block store collect leak suspect = subst (λ (x : Leak). IsInBlock x) (sym suspect.is) (record { number = omega arith; family = refl })

suspect-held : (store : Datastore) (collect : CollectRequest) (leak : Leak) → IsConsistent store → IsSuspect store collect leak → HeldIn store leak.block leak.owner
suspect-held store collect leak c suspect =
    let at : BlockAt store suspect.holding.cidr = record {
      revision = suspect.revision;
      b = suspect.holding;
      there = member-found store.rows (suspect.revision, record_of.Block suspect.holding) c.sound.ascending suspect.in_rows;
    } in
    subst (λ (x : Leak). HeldIn store x.block x.owner) (sym suspect.is) (held-in store suspect.holding.cidr at suspect.a suspect.held)

same-number : (one other : ℕ) → one ≡ other → (one == other) ≡ true
same-number one other e = elim (cases_Bool (one == other)) [ inl is ↦ is | inr not_it ↦ absurd (eqb-false one other not_it e) ]

-- the leak's allocation is picked
leak-picks : (leak : Leak) → PicksOwner (freeing_owner leak.owner leak.block) leak.owner
leak-picks leak a is =
    let number = ap (λ (o : Owner). o.address.number) is in
    let ordinal : a.ordinal ≡ leak.owner.address.number - leak.block.base = omega (arith, number) in
    all-three (same-number a.ordinal (leak.owner.address.number - leak.block.base) ordinal) (same-number a.stamp leak.owner.stamp (ap (λ (o : Owner). o.stamp) is)) handle
  where
    handle : bytes_eq a.attributes.handle leak.owner.handle ≡ true
    handle = subst (λ (h : List ℕ). bytes_eq a.attributes.handle h ≡ true) (ap (λ (o : Owner). o.handle) is) (same_text a.attributes.handle)

    all-three : {one two more : Bool} → one ≡ true → two ≡ true → more ≡ true → (one && two && more) ≡ true
    all-three {one} {two} {more} e f g = λ i. e i && f i && g i

-- ---- calls that lose nobody

-- after a call that changes no block all own who owned
idle-owns : (store next : Datastore) (asked : Call) → IsConsistent store → next ≡ behind store asked → Idle store asked → (o : Owner) → Owns store o → Owns next o
idle-owns store next asked c is (Elsewhere apart) o owns =
    let (cidr, held) = owns-held store o c.sound owns in
    let row = ap (λ (s : Datastore). row_of (key.Block cidr) s.rows) is ∙ apart-leaves store asked cidr (is-apart asked apart) in
    held-owns next cidr o (moves store next cidr o row held)
idle-owns store next asked c is (NotDone not) o owns = elim (granted-cases store asked) [
  | NotGiven stays ↦ subst (λ (s : Datastore). Owns s o) (sym (is ∙ stays)) owns
  | Given revision done ↦ absurd (not revision done)
]

fed-leaves : (base : Base) (slot at : ℕ) (live : List (List ℕ)) (h : List Entry) → store_at base (entry.Fed slot at live ∷ h) ≡ store_at base h
unfolding cluster_at after
fed-leaves base slot at live h = refl

-- ---- in the span

module _ (span : RequestSpan) (consistent : IsConsistent span.base.store) (lawful : Lawful span.base span.history) (whole : List Leak) (items : List Item) (in_block : (leak : Leak) → Contains whole leak → IsInBlock leak) where
  -- a call that freed a leak took it away, and nobody else
  record IsTaken (m : ℕ) (leak : Leak) : Type 0 where
    was : Owns (seen_at span m) leak.owner
    gone : ¬ (Owns (seen_at span (m + 1)) leak.owner)
    others : (o : Owner) → Owns (seen_at span m) o → o ≢ leak.owner → Owns (seen_at span (m + 1)) o

  taken : (m : ℕ) (store : Datastore) (asked : Call) (leak : Leak) (more : ℕ) (b : BlockValue) (old revision : ℕ) → DidAt span m store asked → Contains whole leak → asked ≡ freeing_call (freeing_owner leak.owner leak.block) b old
      → reply_of store (freeing_call (freeing_owner leak.owner leak.block) b old) ≡ Can revision → IsCurrent store old b → b.cidr ≡ leak.block → count_by (freeing_owner leak.owner leak.block).picks b.allocations ≡ suc more → IsTaken m leak
  taken m store asked leak more b old revision did among is done current same count =
      let call = freeing_call (freeing_owner leak.owner leak.block) b old in
      let before = consistent-before span.base span.history m consistent lawful in
      let next = consistent-before span.base span.history (m + 1) consistent lawful in
      let made : seen_at span (m + 1) ≡ behind (seen_at span m) call = did.behind_it ∙ ap (behind store) is ∙ ap (λ (s : Datastore). behind s call) (sym did.before_it) in
      let granted : reply_of (seen_at span m) call ≡ Can revision = ap (λ (s : Datastore). reply_of s call) did.before_it ∙ done in
      let there : IsCurrent (seen_at span m) old b = subst (λ (s : Datastore). IsCurrent s old b) (sym did.before_it) (λ found at. current found at) in
      let ordinal = leak.owner.address.number - leak.block.base in
      let w : Rewrites (seen_at span m) (seen_at span (m + 1)) b (block_without (is_stamped ordinal leak.owner.handle leak.owner.stamp) (next_block b)) =
      rewrites (seen_at span m) (seen_at span (m + 1)) b (block_without (is_stamped ordinal leak.owner.handle leak.owner.stamp) (next_block b)) old revision before next refl granted (λ found at. there found at) made in
      let l = loses-one (seen_at span m) (seen_at span (m + 1)) b ordinal leak.owner.handle leak.owner.stamp more w count in
      let inside = in_block leak among in
      let own : stamped_owner b.cidr ordinal leak.owner.handle leak.owner.stamp ≡ leak.owner = owner-at leak b.cidr inside.number inside.family same in
      record {
        was = subst (λ (o : Owner). Owns (seen_at span m) o) (l.is_lost ∙ own) l.was_there;
        gone = λ owns. ((l.are leak.owner).0 owns).1 (sym own);
        others = λ o owns differ. (l.are o).1 (owns, λ lost. differ (lost ∙ own));
      }

  -- the leak that was freed
  record IsTold (o : Owner) : Type 0 where
    leak : Leak
    more : ℕ
    item : Contains items (item_of leak (suc more))
    is : o ≡ leak.owner

  -- whoever lost its address by the collection is told as freed
  lost-told : (trail : Trail) (upto : ℕ) → IsTrail span upto trail → CollectSteps whole items trail → (k : ℕ) → k < upto → (o : Owner) → LostAt span k o → IsTold o
  unfolding IsTrail CollectSteps
  lost-told [] upto is steps k below o lost = elim (three k (begin_moment span)) [
    | inl early ↦ let since = lost.in_span.since in absurd (omega arith)
    | inr (inl same) ↦
        let begun = is.0 in
        let stays = quiet-entry span (begin_moment span) (entry.Began span.slot begun.request) begun.in_span.before_now begun.in_span.is_there (λ rest. began-leaves span.base span.slot begun.request rest) in
        let was = subst (λ (m : ℕ). Owns (seen_at span m) o) same lost.was in
        let gone = subst (λ (m : ℕ). ¬ (Owns (seen_at span (m + 1)) o)) same lost.is_not in
        absurd (gone (subst (λ (s : Datastore). Owns s o) (sym stays) was))
    | inr (inr late) ↦ absurd (is.1.nothing_between k lost.there late below lost.in_span)
  ]
  lost-told (Did m store asked ∷ trail) upto is steps k below o lost = elim (three k m) [
    | inl early ↦ lost-told trail m is.2 steps.1 k early o lost
    | inr (inl same) ↦ by steps.0 (subst (λ (n : ℕ). Owns (seen_at span n) o) same lost.was) (subst (λ (n : ℕ). ¬ (Owns (seen_at span (n + 1)) o)) same lost.is_not)
    | inr (inr late) ↦ absurd (is.1.nothing_between k lost.there late below lost.in_span)
  ]
    where
      by : CollectStep whole items store asked → Owns (seen_at span m) o → ¬ (Owns (seen_at span (m + 1)) o) → IsTold o
      by (Rests idle) was gone =
          let before : IsConsistent store = subst (λ (s : Datastore). IsConsistent s) is.0.before_it (consistent-before span.base span.history m consistent lawful) in
          absurd (gone (idle-owns store (seen_at span (m + 1)) asked before is.0.behind_it idle o (subst (λ (s : Datastore). Owns s o) is.0.before_it was)))
      by (Took leak more b old revision among told call done current at count) was gone = elim (cases_Bool (same_owner o leak.owner)) [
        | inl same ↦ record { leak = leak; more = more; item = told; is = same-owner-is o leak.owner same }
        | inr differ ↦
            let t = taken m store asked leak more b old revision is.0 among call done (λ found there. current found there) at count in
            absurd (gone (t.others o was (λ e. let itself : same_owner o leak.owner ≡ true = ap (same_owner o) (sym e) ∙ own-owner o in cc (itself, differ))))
      ]
  lost-told (Got m at live ∷ trail) upto is steps k below o lost = elim (three k m) [
    | inl early ↦ lost-told trail m is.2 steps k early o lost
    | inr (inl same) ↦
        let stays = quiet-entry span m (entry.Fed span.slot at live) is.0.before_now is.0.is_there (λ rest. fed-leaves span.base span.slot at live rest) in
        let was = subst (λ (n : ℕ). Owns (seen_at span n) o) same lost.was in
        let gone = subst (λ (n : ℕ). ¬ (Owns (seen_at span (n + 1)) o)) same lost.is_not in
        absurd (gone (subst (λ (s : Datastore). Owns s o) (sym stays) was))
    | inr (inr late) ↦ absurd (is.1.nothing_between k lost.there late below lost.in_span)
  ]

  -- what is told as freed was lost
  freed-lost : (leak : Leak) → Contains whole leak → (head trail : Trail) (amount : ℕ) → IsTrail span (now span) trail → Rid (freeing_owner leak.owner leak.block) head amount trail → 0 < amount → LostInSpan span leak.owner
  unfolding IsTrail
  freed-lost leak among head trail amount is (NoneThere m store earlier there later none read) some = absurd (omega (arith, none))
  freed-lost leak among head trail amount is (Freed m store earlier b old revision more there later so done current same count) some =
      let (until, part) = part-of span (Did m store (freeing_call (freeing_owner leak.owner leak.block) b old) ∷ earlier) trail (now span) there is in
      let t = taken m store (freeing_call (freeing_owner leak.owner leak.block) b old) leak more b old revision part.0 among refl done (λ found at. current found at) same count in
      (m, record { there = entry.Called part.0.c; in_span = part.0.in_span; was = t.was; is_not = t.gone })

-- ---- the answer

-- each second list of live handles came late enough, up to the answer
due-then : (a : Answered) (request : CollectRequest) → Lawful a.base (history_of a) → a.request ≡ Collect request → request_in (cluster_at a.base a.earlier) a.call.slot ≡ Some a.request → AreDue a.base (history_of a) a.call.slot (Collect request)
unfolding Lawful
due-then a request h is requested = by ((cluster_at a.base a.earlier).slots a.call.slot) requested (fed-due a.base a.earlier h.0 a.call.slot)
  where
    by : (o : Option RunningRequest) → option_map (λ (r : RunningRequest). r.request) o ≡ Some a.request → DueIn a.base a.earlier a.call.slot o → AreDue a.base (history_of a) a.call.slot (Collect request)
    by None e due = absurd (cc e)
    by (Some running) e due =
        let same : running.request ≡ a.request = cc e in
        subst (λ (r : Request). AreDue a.base (history_of a) a.call.slot r) (same ∙ is) (due-skip a.base a.earlier (entry.Called a.call) a.call.slot (Some running) refl (λ at live f. cc f) due)

pairs-from-map : {X Y : Type 0} (R : Y → Y → Type 0) (f : X → Y) (xs : List X) → AllPairs R (map f xs) → AllPairs (λ (x y : X). R (f x) (f y)) xs
pairs-from-map R f [] h = λ i j d below within. absurd (omega arith)
pairs-from-map R f (x ∷ xs) h =
    AllPairs-cons (λ x y. R (f x) (f y)) x xs (all-of (λ y. R (f x) (f y)) xs (λ y there. pairs-head R (f x) (map f xs) h (f y) (in-map f y xs there)))
    (pairs-from-map R f xs (pairs-tail R (f x) (map f xs) h))

no-more : (xs : List Owner) → xs ++ [] ≡ xs
no-more [] = refl
no-more (x ∷ xs) = ap (λ (l : List Owner). x ∷ l) (no-more xs)

some-amount : (amount : ℕ) → IsTrue (nat_lt 0 amount) → 0 < amount
some-amount zero t = absurd (cc t)
some-amount (suc more) t = omega arith

told-freed : (leak : Leak) (more : ℕ) → IsTrue (item_of leak (suc more)).freed
told-freed leak more = elim (cases_Bool (nat_lt 0 (suc more))) [
  | inl is ↦ is
  | inr not_it ↦ let least = ltb-false 0 (suc more) not_it in absurd (omega arith)
]

pub collected-right : (a : Answered) (request : CollectRequest) (collected : Collected) (trail : Trail) → IsConsistent a.base.store → Lawful a.base (history_of a) → a.request ≡ Collect request → request_in (cluster_at a.base a.earlier) a.call.slot ≡ Some a.request → IsTrail (span_of a) (now (span_of a)) trail
    → DidCollect request collected trail → IsCollectedRight a request collected
unfolding IsTrail
collected-right a request collected trail c h asked requested is d =
    let span = span_of a in
    let lists = d.lists in
    let whole = whole_of request lists in
    let head = head_of lists in
    let (until, there) = part-of span head trail (now span) d.all.since is in
    let did2 = there.0 in
    let did1 = there.2.2.0 in
    let at_first = consistent-before a.base (history_of a) lists.b1 c h in
    let first : IsConsistent lists.first = subst (λ (s : Datastore). IsConsistent s) did1.before_it at_first in
    let due = due-then a request h asked requested in
    let by : Collecting span request = went-by span request lists.b1 lists.fed_at lists.time lists.b2 lists.live lists.first lists.second due did1 there.2.0 did2 there.2.2.1.behind there.2.1.behind in
    let found : (leak : Leak) → Contains whole leak → IsFoundLeak lists.first lists.second request lists.live leak = λ leak among. found-leak lists.first lists.second request lists.live leak among in
    let order : map owner_in collected.items ≡ map owner_at whole = sym (no-more (map owner_in collected.items)) ∙ d.all.order in
    let in_block : (leak : Leak) → Contains whole leak → IsInBlock leak = λ leak among. suspect-in-block lists.first request leak (found leak among).suspect in
    let is_leak : (leak : Leak) → Contains whole leak → IsLeak span request by leak.owner =
    λ leak among. leak-is span request lists.b1 lists.fed_at lists.time lists.b2 lists.live lists.first lists.second due did1 there.2.0 did2 there.2.2.1.behind there.2.1.behind leak (found leak among) in
    let to : (o : Owner) → Contains (map owner_in collected.items) o → IsLeak span request by o = λ o there.
    let (leak, among, same) = out-map owner_at o whole (subst (λ (l : List Owner). Contains l o) order there) in
    subst (λ (x : Owner). IsLeak span request by x) same (is_leak leak among) in
    let from : (o : Owner) → IsLeak span request by o → Contains (map owner_in collected.items) o = λ o leaks.
    subst (λ (l : List Owner). Contains l o) (sym order)
    (leak-found lists.first lists.second request lists.live o leaks.allocation (subst (λ (s : Datastore). Recorded s o leaks.allocation) did1.before_it leaks.at_first) leaks.in_scope
    (subst (λ (s : Datastore). Owns s o) did2.before_it leaks.at_second) leaks.not_live leaks.not_live_still) in
    let owners_ordered : AllPairs (λ (o p : Owner). IsBefore o.address p.address) (map owner_in collected.items) =
    subst (λ (l : List Owner). AllPairs (λ (o p : Owner). IsBefore o.address p.address) l) (sym order)
    (leaks-order (λ (o p : Owner). IsBefore o.address p.address) lists.first lists.second request lists.live (owners_order lists.first first)) in
    let ordered : AllPairs (λ (i j : Item). IsBefore i.address j.address) collected.items = pairs-from-map (λ (o p : Owner). IsBefore o.address p.address) owner_in collected.items owners_ordered in
    let own : (item : Item) (leak : Leak) (amount : ℕ) → item ≡ item_of leak amount → owner_in item ≡ leak.owner = λ item leak amount same. ap owner_in same in
    record {
      went_by = by;
      is_first = d.is_first;
      is_second = d.is_second;
      are_leaks = λ o. (to o, from o);
      in_order = ordered;
      freed = all-of (λ (item : Item). IsTrue item.freed ↔ LostInSpan span (owner_in item)) collected.items (λ item among.
          let r = d.all.rid item among in (
            λ told. subst (λ (o : Owner). LostInSpan span o) (sym (own item r.leak r.amount r.is))
                (freed-lost span c h whole collected.items in_block r.leak r.among head trail r.amount is r.rid (some-amount r.amount (subst (λ (i : Item). IsTrue i.freed) r.is told))),
            λ lost. let t = lost-told span c h whole collected.items in_block trail (now span) is d.all.steps lost.0 lost.1.in_span.before_now (owner_in item) lost.1 in
                elim (pairs-of (λ (i j : Item). IsBefore i.address j.address) collected.items ordered item (item_of t.leak (suc t.more)) among t.item) [
                  | inl same ↦ subst (λ (i : Item). IsTrue i.freed) (sym same) (told-freed t.leak t.more)
                  | inr (inl before) ↦ absurd (not-before item.address t.leak.owner.address (ap (λ (o : Owner). o.address) t.is) before)
                  | inr (inr behind_it) ↦ absurd (not-before t.leak.owner.address item.address (sym (ap (λ (o : Owner). o.address) t.is)) behind_it)
                ],
          ));
      none_left = λ o leaks.
          let (item, among, same) = out-map owner_in o collected.items (from o leaks) in
          let r = d.all.rid item among in
          let one = found r.leak r.among in
          let held : HeldIn (seen_at span lists.b1) r.leak.block r.leak.owner = subst (λ (s : Datastore). HeldIn s r.leak.block r.leak.owner) (sym did1.before_it) (suspect-held lists.first request r.leak first one.suspect) in
          let early = there.2.2.1.behind in
          let late = there.2.1.behind in
          let near : lists.b1 ≤ lists.b2 + 1 = omega arith in
          subst (λ (x : Owner). ¬ (Owns (seen_now span) x)) (sym (own item r.leak r.amount r.is) ∙ same)
          (rid-gone span c h (freeing_owner r.leak.owner r.leak.block) r.leak.owner (leak-picks r.leak) lists.b1 held lists.b2 near trail head _ r.amount lists.second (ListAll kind.Block) refl is r.rid);
    }
