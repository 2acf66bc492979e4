-- In every lawful history owners change in five ways and no other.
use Rattle.std.proofs.Common.{◌≡◌, ◌≢◌, ◌⊎◌, ℕ, suc, ◌+◌, ◌-◌, ◌<◌, inl, inr, List, [], ◌∷◌, Option, Some, refl, sym, ap, ◌∙◌, subst, arith}
use Rattle.std.specs.Prelude.{option_map}
use Rattle.std.specs.List.{count_by}
use Rattle.std.proofs.lemmas.Bool.{leb-true}
use Rattle.ipam_addr.specs.Shape.{CidrValue}
use Rattle.ipam_block.specs.declared.allocation.Attributes.{Attributes}
use Rattle.ipam_block.specs.Operations.{block_with_ordinal, block_without, next_block}
use Rattle.ipam_block.specs.Shape.{BlockValue}
use Rattle.ipam_records.specs.declared.call.Call.{Call}
use Rattle.ipam_records.specs.declared.call.Call.TheVariants.{List as ListAll}
use Rattle.ipam_records.specs.declared.key.Key.TheVariants as key
use Rattle.ipam_records.specs.declared.key.Kind.TheVariants as kind
use Rattle.ipam_records.specs.declared.record.Record.TheVariants as record_of
use Rattle.ipam_records.specs.Datastore.{Datastore, reply_of, row_of}
use Rattle.ipam_records.specs.Label.{CallLabel, Nowhere}
use Rattle.ipam_records.specs.Said.{Can}
use Rattle.ipam_records.specs.Word.{Asks, answer_in, label_of}
use Rattle.ipam_records.proofs.DatastoreLemmas.{row_of-with_row}
use Rattle.ipam_model.specs.declared.answer.Answer.{Answer}
use Rattle.ipam_model.specs.declared.entry.Called.{Called}
use Rattle.ipam_model.specs.declared.entry.Entry.{Entry}
use Rattle.ipam_model.specs.declared.entry.Entry.TheVariants as entry
use Rattle.ipam_model.specs.declared.entry.Fate.{Fate}
use Rattle.ipam_model.specs.declared.entry.Fate.TheVariants.{Well, Before, After}
use Rattle.ipam_model.specs.declared.request.CollectRequest.{CollectRequest}
use Rattle.ipam_model.specs.declared.request.Request.{Request}
use Rattle.ipam_model.specs.declared.request.Request.TheVariants.{Collect}
use Rattle.ipam_model.specs.AffinityLaw.{HasAt}
use Rattle.ipam_model.specs.Assigning.{Target}
use Rattle.ipam_model.specs.Cluster.{RunningRequest, after, call_made, store_after}
use Rattle.ipam_model.specs.Consistent.{IsConsistent}
use Rattle.ipam_model.specs.Counting.{FreedOfHandle}
use Rattle.ipam_model.specs.History.{Base, InSpan, Lawful, RequestSpan, cluster_at, now, seen_at, seen_now, store_at}
use Rattle.ipam_model.specs.Moments.{GainedInSpan, Loses, Owns, Recorded, request_in}
use Rattle.ipam_model.specs.Owners.{Owner, owners}
use Rattle.ipam_model.specs.OwnerLaw.{Assigned, Collected, Collecting, Deleted, IsLeak, MayGain, OwnersLaw, OwnersMove, Undone}
use Rattle.ipam_model.specs.Remove.{Leak}
use Rattle.ipam_laws.proofs.Acting.{Act, Assigns, Changes, Claims, Counts, Frees, HasListed, MayLose, OfAdd, OfCollect, OfDel, Reads, Releases, change-apart, claim-apart, read-apart, release-apart, written-apart}
use Rattle.ipam_laws.proofs.ActParts.{Any, DidAssign, IsApart, IsCurrent, assigning_call, freeing_call}
use Rattle.ipam_laws.proofs.ActRequests.{all-acts}
use Rattle.ipam_laws.proofs.Acts.{Acts, Later, Same, Since}
use Rattle.ipam_laws.proofs.FamilyHistory.{heard}
use Rattle.ipam_laws.proofs.FedDue.{AreDue, DueIn, fed-due}
use Rattle.ipam_laws.proofs.LeaksFound.{IsFoundLeak, found-leak}
use Rattle.ipam_laws.proofs.Lift.{behind}
use Rattle.ipam_laws.proofs.NoReturn.{consistent-before}
use Rattle.ipam_laws.proofs.OneRecord.{AreGiven, given-row, history-given}
use Rattle.ipam_laws.proofs.OwnersEffects.{Rewrites, assigned-gains, new_owner}
use Rattle.ipam_laws.proofs.OwnersKept.{ByIdle, ByOwing, OwnersStep, Stay, step-owners}
use Rattle.ipam_laws.proofs.OwnersMoves.{Given, NotGiven, apart-leaves, granted-cases, loses-all, loses-one, rewrites, stamped_owner}
use Rattle.ipam_laws.proofs.SlotsHistory.{consistent_law}
use Rattle.ipam_laws.proofs.SlotSteps.{done-store, known_at, label_at, label_in, turn-of}
use Rattle.ipam_laws.proofs.Steps.{IsPut}
use Rattle.ipam_laws.proofs.Trails.{Did, DidAt, Got, IsTrail, Lasts, SlotComes, Trail, made, slot-comes, span_at, trail-agrees}

-- ---- what a trail did, in its span

-- an earlier part of a trail is one
pub part-of : (span : RequestSpan) (earlier trail : Trail) (upto : ℕ) → Since earlier trail → IsTrail span upto trail → (until : ℕ) × IsTrail span until earlier
unfolding IsTrail
part-of span earlier trail upto Same h = (upto, h)
part-of span earlier trail upto (Later (Did moment store asked) rest since) h = part-of span earlier rest moment since h.2
part-of span earlier trail upto (Later (Got moment at live) rest since) h = part-of span earlier rest moment since h.2

-- an address that was assigned was gained in the span
gained : (span : RequestSpan) (attributes : Attributes) (target : Target) (trail : Trail) (upto : ℕ) → IsConsistent span.base.store → Lawful span.base span.history → IsTrail span upto trail → DidAssign attributes target trail → GainedInSpan span (new_owner target.block target.ordinal attributes)
unfolding IsTrail
gained span attributes target trail upto c h is did =
    let (until, earlier) = part-of span (Did did.moment did.store (assigning_call attributes target) ∷ did.before) trail upto did.since is in
    let there = earlier.0 in
    let old = consistent-before span.base span.history did.moment c h in
    let new = consistent-before span.base span.history (did.moment + 1) c h in
    let new_block = block_with_ordinal (next_block target.block) target.ordinal attributes in
    let done = subst (λ (s : Datastore). (reply_of s (assigning_call attributes target) ≡ reply_of did.store (assigning_call attributes target)) × IsCurrent s target.revision target.block × (behind s (assigning_call attributes target) ≡ behind did.store (assigning_call attributes target))) (sym there.before_it) (refl, did.current, refl) in
    let rewrite : Rewrites (seen_at span did.moment) (seen_at span (did.moment + 1)) target.block new_block =
    rewrites (seen_at span did.moment) (seen_at span (did.moment + 1)) target.block new_block target.revision did.revision old new refl (done.0 ∙ did.done) done.1 (there.behind_it ∙ sym done.2) in (
      did.moment,
      record {
        there = entry.Called there.c;
        in_span = there.in_span;
        gains = assigned-gains (seen_at span did.moment) (seen_at span (did.moment + 1)) target.block target.ordinal attributes rewrite;
      },
    )

-- ---- a collection

-- what the collection went by, and the leak
record IsLeaking (span : RequestSpan) (collect : CollectRequest) (leak : Leak) : Type 0 where
  went_by : Collecting span collect
  is_leak : IsLeak span collect went_by leak.owner
  number : leak.owner.address.number - leak.block.base + leak.block.base ≡ leak.owner.address.number
  family : leak.block.family ≡ leak.owner.address.family

-- a collection by its two lists and the list of live handles between them
module _ (span : RequestSpan) (collect : CollectRequest) (b1 fed_at time b2 : ℕ) (live : List (List ℕ)) (first second : Datastore) (due : AreDue span.base span.history span.slot (Collect collect)) (did1 : DidAt span b1 first (ListAll kind.Block)) (fed : InSpan span fed_at (entry.Fed span.slot time live)) (did2 : DidAt span b2 second (ListAll kind.Block)) (fed_after : b1 < fed_at) (listed_after : fed_at < b2) where
  abbrev pub went-by : Collecting span collect
  went-by = record {
    b1 = b1;
    b2 = b2;
    fed_at = fed_at;
    time = time;
    live = live;
    first = reply_of first (ListAll kind.Block);
    second = reply_of second (ListAll kind.Block);
    first_list = heard span b1 first (ListAll kind.Block) did1;
    second_list = heard span b2 second (ListAll kind.Block) did2;
    fed = fed;
    fed_after = fed_after;
    listed_after = listed_after;
    late_enough = leb-true (collect.at + collect.grace) time (due fed_at time live fed);
  }

  pub leak-is : (leak : Leak) → IsFoundLeak first second collect live leak → IsLeak span collect went-by leak.owner
  leak-is leak found =
      let suspect = found.suspect in
      record {
        allocation = suspect.a;
        at_first = subst (λ (s : Datastore). Recorded s leak.owner suspect.a) (sym did1.before_it) suspect.recorded;
        in_scope = suspect.in_scope;
        at_second = subst (λ (s : Datastore). Owns s leak.owner) (sym did2.before_it) found.owns;
        not_live = suspect.not_live;
        not_live_still = found.not_live_still;
      }

leaking : (span : RequestSpan) (collect : CollectRequest) (leak : Leak) (trail : Trail) (upto : ℕ) → AreDue span.base span.history span.slot (Collect collect) → IsTrail span upto trail → HasListed collect leak trail → IsLeaking span collect leak
unfolding IsTrail
leaking span collect leak trail upto due is h =
    let (until, three) = part-of span (Did h.b2 h.second (ListAll kind.Block) ∷ Got h.fed_at h.time h.live ∷ Did h.b1 h.first (ListAll kind.Block) ∷ []) trail upto h.since is in
    let found = found-leak h.first h.second collect h.live leak h.is_leak in
    let suspect = found.suspect in
    record {
      went_by = went-by span collect h.b1 h.fed_at h.time h.b2 h.live h.first h.second due three.2.2.0 three.2.0 three.0 three.2.2.1.behind three.2.1.behind;
      is_leak = leak-is span collect h.b1 h.fed_at h.time h.b2 h.live h.first h.second due three.2.2.0 three.2.0 three.0 three.2.2.1.behind three.2.1.behind leak found;
      number = subst (λ (x : Leak). x.owner.address.number - x.block.base + x.block.base ≡ x.owner.address.number) (sym suspect.is) (omega arith);
      family = subst (λ (x : Leak). x.block.family ≡ x.owner.address.family) (sym suspect.is) refl;
    }

-- ---- one call

-- where a call stands: over a consistent history, with the store after it
record CallThere (span : RequestSpan) (request : Request) (trail : Trail) (next : Datastore) : Type 0 where
  consistent : IsConsistent span.base.store
  lawful : Lawful span.base span.history
  is_trail : IsTrail span (now span) trail
  due : AreDue span.base span.history span.slot request
  requested : request_in (cluster_at span.base span.history) span.slot ≡ Some request
  then_consistent : IsConsistent next

now-consistent : (span : RequestSpan) → IsConsistent span.base.store → Lawful span.base span.history → IsConsistent (seen_now span)
now-consistent span c h = consistent_law span.base span.history c h

assign-moves : (span : RequestSpan) (request : Request) (trail : Trail) (next : Datastore) (attributes : Attributes) (target : Target) (revision : ℕ) → CallThere span request trail next → next ≡ behind (seen_now span) (assigning_call attributes target) → reply_of (seen_now span) (assigning_call attributes target) ≡ Can revision
    → IsCurrent (seen_now span) target.revision target.block → MayGain request (new_owner target.block target.ordinal attributes) → OwnersMove span next
assign-moves span request trail next attributes target revision t is done current may =
    let rewrite = rewrites (seen_now span) next target.block (block_with_ordinal (next_block target.block) target.ordinal attributes) target.revision revision (now-consistent span t.consistent t.lawful) t.then_consistent refl done current is in
    inr (request, t.requested, Assigned (new_owner target.block target.ordinal attributes) may (assigned-gains (seen_now span) next target.block target.ordinal attributes rewrite))

-- the owner in the words of the block
pub owner-at : (leak : Leak) (cidr : CidrValue) → leak.owner.address.number - leak.block.base + leak.block.base ≡ leak.owner.address.number → leak.block.family ≡ leak.owner.address.family → cidr ≡ leak.block
    → stamped_owner cidr (leak.owner.address.number - leak.block.base) leak.owner.handle leak.owner.stamp ≡ leak.owner
owner-at leak cidr number family is =
    let sum : leak.block.base + (leak.owner.address.number - leak.block.base) ≡ leak.owner.address.number = omega arith in
    ap (λ (c : CidrValue). stamped_owner c (leak.owner.address.number - leak.block.base) leak.owner.handle leak.owner.stamp) is
    ∙ (λ i. record { address = record { family = family i; number = sum i }; handle = leak.owner.handle; stamp = leak.owner.stamp })

free-moves : (span : RequestSpan) (request : Request) (trail : Trail) (next : Datastore) (what : FreedOfHandle) (b : BlockValue) (amount : ℕ) → CallThere span request trail next → Rewrites (seen_now span) next b (block_without what.picks (next_block b)) → b.cidr ≡ what.block → count_by what.picks b.allocations ≡ suc amount
    → MayLose request trail what → OwnersMove span next
free-moves span request trail next what b amount t w same count (OfDel id cidr is all) =
    let rewrite = subst (λ (x : FreedOfHandle). Rewrites (seen_now span) next b (block_without x.picks (next_block b))) all w in
    let some = subst (λ (x : FreedOfHandle). count_by x.picks b.allocations ≡ suc amount) all count in
    inr (request, t.requested, Deleted id b is (w.revision, w.there) (loses-all (seen_now span) next b id amount rewrite some))
free-moves span request trail next what b amount t w same count (OfAdd add target is did one) =
    let rewrite = subst (λ (x : FreedOfHandle). Rewrites (seen_now span) next b (block_without x.picks (next_block b))) one w in
    let some = subst (λ (x : FreedOfHandle). count_by x.picks b.allocations ≡ suc amount) one count in
    let at : b.cidr ≡ target.block.cidr = same ∙ ap (λ (x : FreedOfHandle). x.block) one in
    let owner = new_owner target.block target.ordinal add.attributes in
    let lost = loses-one (seen_now span) next b target.ordinal add.attributes.handle (target.block.sequence + 1) amount rewrite some in
    let named : stamped_owner b.cidr target.ordinal add.attributes.handle (target.block.sequence + 1) ≡ owner = ap (λ (c : CidrValue). stamped_owner c target.ordinal add.attributes.handle (target.block.sequence + 1)) at in
    inr (
      request,
      t.requested,
      Undone add owner is (gained span add.attributes target trail (now span) t.consistent t.lawful t.is_trail did)
          (subst (λ (p : Owner). Loses (seen_now span) next (λ o. o ≡ p)) named lost),
    )
free-moves span request trail next what b amount t w same count (OfCollect collect leak is listed_leak one) =
    let rewrite = subst (λ (x : FreedOfHandle). Rewrites (seen_now span) next b (block_without x.picks (next_block b))) one w in
    let some = subst (λ (x : FreedOfHandle). count_by x.picks b.allocations ≡ suc amount) one count in
    let at : b.cidr ≡ leak.block = same ∙ ap (λ (x : FreedOfHandle). x.block) one in
    let due = subst (λ (r : Request). AreDue span.base span.history span.slot r) is t.due in
    let found = leaking span collect leak trail (now span) due t.is_trail listed_leak in
    let lost = loses-one (seen_now span) next b (leak.owner.address.number - leak.block.base) leak.owner.handle leak.owner.stamp amount rewrite some in
    inr (
      request,
      t.requested,
      Collected collect leak.owner is found.went_by found.is_leak
          (subst (λ (p : Owner). Loses (seen_now span) next (λ o. o ≡ p)) (owner-at leak b.cidr found.number found.family at) lost),
    )

-- a block that a step put is none that the call left
put-apart : (store next : Datastore) (asked : Call) (new : BlockValue) → AreGiven store → IsPut store next (record_of.Block new) → next ≡ behind store asked → IsApart asked → ⊥
put-apart store next asked new given put is apart =
    let there : HasAt next (key.Block new.cidr) (store.counter + 1) (record_of.Block new) = ap (λ (s : Datastore). row_of (key.Block new.cidr) s.rows) put ∙ row_of-with_row (store.counter + 1, record_of.Block new) store.rows in
    let left = ap (λ (s : Datastore). row_of (key.Block new.cidr) s.rows) is ∙ apart-leaves store asked new.cidr apart in
    let early = given-row store given (key.Block new.cidr) (store.counter + 1) (record_of.Block new) (sym left ∙ there) in
    absurd (omega arith)

-- a call that puts a block writes one, and its request stands nowhere
put-of : (span : RequestSpan) (request : Request) (trail : Trail) (next : Datastore) (label : CallLabel) (asked : Call) (new : BlockValue) → CallThere span request trail next → next ≡ behind (seen_now span) asked → label.point ≡ Nowhere → IsPut (seen_now span) next (record_of.Block new)
    → IsApart asked ⊎ (label.point ≢ Nowhere) → ⊥
put-of span request trail next label asked new t is nowhere put (inl apart) = put-apart (seen_now span) next asked new (history-given span.base span.history t.consistent.sound t.lawful) put is apart
put-of span request trail next label asked new t is nowhere put (inr stands) = stands nowhere

-- a call that puts a block while its request stands nowhere assigns or frees
put-moves : (span : RequestSpan) (request : Request) (trail : Trail) (next : Datastore) (label : CallLabel) (asked : Call) (new : BlockValue) → CallThere span request trail next → next ≡ behind (seen_now span) asked → label.point ≡ Nowhere → IsPut (seen_now span) next (record_of.Block new)
    → Act request trail (seen_now span) label asked → OwnersMove span next
put-moves span request trail next label asked new t is nowhere put (Reads reads) = absurd (put-of span request trail next label asked new t is nowhere put (inl (read-apart asked reads)))
put-moves span request trail next label asked new t is nowhere put (Counts id of for) = absurd (put-of span request trail next label asked new t is nowhere put (inl (written-apart asked (key.Handle id) of tt)))
put-moves span request trail next label asked new t is nowhere put (Claims add cidr read origin call was by within) = absurd (put-of span request trail next label asked new t is nowhere put (claim-apart add.node cidr read label asked call))
put-moves span request trail next label asked new t is nowhere put (Releases tie of call) = absurd (put-of span request trail next label asked new t is nowhere put (release-apart tie (seen_now span) label asked call))
put-moves span request trail next label asked new t is nowhere put (Changes setting changed of puts same) = absurd (put-of span request trail next label asked new t is nowhere put (inl (change-apart setting changed asked puts same)))
put-moves span request trail next label asked new t is nowhere put (Assigns attributes target is_call current may) =
    let same : next ≡ behind (seen_now span) (assigning_call attributes target) = is ∙ ap (behind (seen_now span)) is_call in
    elim (granted-cases (seen_now span) (assigning_call attributes target)) [
      | NotGiven stays ↦ inl (ap owners (same ∙ stays))
      | Given revision done ↦ assign-moves span request trail next attributes target revision t same done current may
    ]
put-moves span request trail next label asked new t is nowhere put (Frees what b revision amount is_call current same count may) =
    let same_call : next ≡ behind (seen_now span) (freeing_call what b revision) = is ∙ ap (behind (seen_now span)) is_call in
    elim (granted-cases (seen_now span) (freeing_call what b revision)) [
      | NotGiven stays ↦ inl (ap owners (same_call ∙ stays))
      | Given taken done ↦
          free-moves span request trail next what b amount t
          (rewrites (seen_now span) next b (block_without what.picks (next_block b)) revision taken (now-consistent span t.consistent t.lawful) t.then_consistent refl done current same_call)
          same count may
    ]

step-moves : (span : RequestSpan) (request : Request) (trail : Trail) (next : Datastore) (label : CallLabel) (asked : Call) → CallThere span request trail next → next ≡ behind (seen_now span) asked → OwnersStep (seen_now span) next label → Act request trail (seen_now span) label asked → OwnersMove span next
step-moves span request trail next label asked t is (Stay same) act = inl same
step-moves span request trail next label asked t is (ByIdle new idles put) act = put-moves span request trail next label asked new t is (ap (λ (l : CallLabel). l.point) idles) put act
step-moves span request trail next label asked t is (ByOwing new credit owes put) act = put-moves span request trail next label asked new t is (ap (λ (l : CallLabel). l.point) owes) put act

-- ---- every entry

-- what is left of a request acts as it may
pub all-act : Lasts (λ request trail word. Acts (Act request) Any trail word)
all-act = record {
  starts = all-acts;
  hears = λ request trail label asked next h moment store agrees. (h moment store agrees).1;
  feeds = λ request trail next h. h;
}

pub next-is : (base : Base) (history : List Entry) (c : Called) (asked : Call) (answer : Option Answer) → call_made c.slot c.fate asked (reply_of (store_at base history) asked) answer ≡ c → c.fate ≢ Before → store_at base (entry.Called c ∷ history) ≡ behind (store_at base history) asked
unfolding cluster_at after
next-is base history c asked answer e not_before = ap (λ (x : Called). store_after x (store_at base history)) (sym e) ∙ done-store c.slot c.fate asked (store_at base history) answer not_before

-- a call that failed before it was done leaves the store
pub failed-before : (base : Base) (history : List Entry) (c : Called) (asked : Call) (answer : Option Answer) → call_made c.slot c.fate asked (reply_of (store_at base history) asked) answer ≡ c → c.fate ≡ Before → store_at base (entry.Called c ∷ history) ≡ store_at base history
unfolding cluster_at after
failed-before base history c asked answer e before =
    let is : call_made c.slot Before asked (reply_of (store_at base history) asked) answer ≡ c = ap (λ (f : Fate). call_made c.slot f asked (reply_of (store_at base history) asked) answer) (sym before) ∙ e in
    ap (λ (x : Called). store_after x (store_at base history)) (sym is)

failed-moves : (base : Base) (history : List Entry) (c : Called) → Lawful base (entry.Called c ∷ history) → c.fate ≡ Before → OwnersMove (span_at base history c.slot) (store_at base (entry.Called c ∷ history))
unfolding Lawful
failed-moves base history c h before =
    let may = h.1 in
    let is = made c (store_at base history) (cluster_at base history).entries may.running.word may.is_called in
    inl (ap owners (failed-before base history c is.asked (answer_in (is.next (cluster_at base history).entries (reply_of (store_at base history) is.asked))) is.is_call before))

-- a call that was done
done-moves : (base : Base) (history : List Entry) (c : Called) → IsConsistent base.store → Lawful base (entry.Called c ∷ history) → c.fate ≢ Before → OwnersMove (span_at base history c.slot) (store_at base (entry.Called c ∷ history))
unfolding Lawful
done-moves base history c consistent h done =
    let may = h.1 in
    let span = span_at base history c.slot in
    let store = store_at base history in
    let next = store_at base (entry.Called c ∷ history) in
    let sound = consistent.sound in
    let run = subst (λ (o : Option RunningRequest). SlotComes (λ request trail word. Acts (Act request) Any trail word) all-act base history c.slot o) may.runs (slot-comes (λ request trail word. Acts (Act request) Any trail word) all-act base history sound h.0 c.slot) in
    let is = made c store (cluster_at base history).entries may.running.word may.is_called in
    let acts : Acts (Act may.running.request) Any run.trail (Asks is.label is.asked is.next) = subst (λ w. Acts (Act may.running.request) Any run.trail w) is.is_word run.comes in
    let act = (acts (cluster_at base history).entries store (trail-agrees span sound h.0 run.trail (now span) run.is_trail)).0 in
    let turn = turn-of base history (entry.Called c) sound h in
    let label : label_at base history c.slot ≡ is.label = ap label_in may.runs ∙ ap label_of is.is_word in
    let made_it : next ≡ behind store is.asked = next-is base history c is.asked (answer_in (is.next (cluster_at base history).entries (reply_of store is.asked))) is.is_call done in
    let step = step-owners (known_at base history) store next (label_at base history c.slot) turn.reached (consistent_law base history consistent h.0).sound.ascending turn.step in
    step-moves span may.running.request run.trail next is.label is.asked
    (record {
      consistent = consistent;
      lawful = h.0;
      is_trail = run.is_trail;
      due = subst (λ (o : Option RunningRequest). DueIn base history c.slot o) may.runs (fed-due base history h.0 c.slot);
      requested = ap (λ (o : Option RunningRequest). option_map (λ (r : RunningRequest). r.request) o) may.runs;
      then_consistent = consistent_law base (entry.Called c ∷ history) consistent h;
    })
    made_it (subst (λ (l : CallLabel). OwnersStep store next l) label step) act

pub owners_law : OwnersLaw
unfolding cluster_at after
owners_law base history (entry.Began slot request) c h = inl refl
owners_law base history (entry.Fed slot at live) c h = inl refl
owners_law base history (entry.Stopped slot) c h = inl refl
owners_law base history (entry.Called call) c h = by call.fate refl
  where
    by : (fate : Fate) → call.fate ≡ fate → OwnersMove (span_at base history call.slot) (store_at base (entry.Called call ∷ history))
    by Well fate = done-moves base history call c h (λ e. cc (e, fate))
    by After fate = done-moves base history call c h (λ e. cc (e, fate))
    by Before fate = failed-moves base history call h fate
