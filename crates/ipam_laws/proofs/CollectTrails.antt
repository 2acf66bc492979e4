-- What a collection did, by the trail that led to its answer.
use Rattle.std.proofs.Common.{◌≡◌, ℕ, suc, inl, inr, List, [], ◌∷◌, ◌++◌, map, refl, sym, ap, ◌∙◌, subst}
use Rattle.std.specs.Prelude.{Contains}
use Rattle.std.specs.List.{count_by}
use Rattle.std.proofs.lemmas.List.Elements.{Contains-append_cases, Contains-append_left, Contains-append_right}
use Rattle.ipam_block.specs.Shape.{BlockValue}
use Rattle.ipam_records.specs.declared.call.Call.{Call}
use Rattle.ipam_records.specs.declared.call.Call.TheVariants.{List as ListAll}
use Rattle.ipam_records.specs.declared.key.Kind.TheVariants as kind
use Rattle.ipam_records.specs.Datastore.{Datastore, rows_of_kind, reply_of}
use Rattle.ipam_records.specs.Said.{Can}
use Rattle.ipam_records.specs.Word.{Ends}
use Rattle.ipam_model.specs.declared.answer.Answer.{Answer}
use Rattle.ipam_model.specs.declared.answer.Answer.TheVariants as answer
use Rattle.ipam_model.specs.declared.answer.Collected.{Collected}
use Rattle.ipam_model.specs.declared.answer.Item.{Item}
use Rattle.ipam_model.specs.declared.outcome.CollectAnswer.{CollectAnswer}
use Rattle.ipam_model.specs.declared.outcome.CollectAnswer.TheVariants as collect
use Rattle.ipam_model.specs.declared.part.Left.{Left}
use Rattle.ipam_model.specs.declared.part.Outcome.{Outcome}
use Rattle.ipam_model.specs.declared.part.Outcome.TheVariants.{Went, Stops}
use Rattle.ipam_model.specs.declared.part.Stop.TheVariants.{OutOfTries, OutOfClaims, NoRoom, CountAtLimit, NoRevisions}
use Rattle.ipam_model.specs.declared.request.CollectRequest.{CollectRequest}
use Rattle.ipam_model.specs.Counting.{free}
use Rattle.ipam_model.specs.OtherLaws.{owner_in}
use Rattle.ipam_model.specs.Owners.{Owner}
use Rattle.ipam_model.specs.Remove.{Leak, collect_stops, collect_word, free_leaks, freeing_owner, item_of, leaks, suspects, with_item}
use Rattle.ipam_model.specs.Requests.{told_as}
use Rattle.ipam_model.specs.Step.{all_left, answer_of, onward}
use Rattle.ipam_model.specs.Told.{of_collect}
use Rattle.ipam_laws.proofs.ActParts.{IsCurrent, freeing_call}
use Rattle.ipam_laws.proofs.Acts.{Same, Since, since-since}
use Rattle.ipam_laws.proofs.FreeTrails.{Elsewhere, FreeSteps, FreedEnds, Goes, Idle, Idler, NoSteps, OneStep, Rid, Stays, calmer-since, free-rids, rid-origin, rid-since}
use Rattle.ipam_laws.proofs.Members.{in-cons, in-here, in-nothing, in-there}
use Rattle.ipam_laws.proofs.Trails.{Comes, Comes-bound, Did, Got, Trail}

-- ---- items

-- the item tells of a leak, which was rid of after the lists
pub record IsRidOf (whole : List Leak) (head : Trail) (item : Item) (trail : Trail) : Type 0 where
  pub leak : Leak
  pub among : Contains whole leak
  pub amount : ℕ
  pub is : item ≡ item_of leak amount
  pub rid : Rid (freeing_owner leak.owner leak.block) head amount trail

-- the call changes no block, or it freed a leak that is told as freed
pub data CollectStep (whole : List Leak) (items : List Item) (store : Datastore) (asked : Call) : Type 0 where
  Rests : Idle store asked → CollectStep whole items store asked
  Took : (leak : Leak) (more : ℕ) (b : BlockValue) (old revision : ℕ) → Contains whole leak → Contains items (item_of leak (suc more)) → asked ≡ freeing_call (freeing_owner leak.owner leak.block) b old
      → reply_of store (freeing_call (freeing_owner leak.owner leak.block) b old) ≡ Can revision → IsCurrent store old b → b.cidr ≡ leak.block → count_by (freeing_owner leak.owner leak.block).picks b.allocations ≡ suc more
      → CollectStep whole items store asked

unfoldable pub CollectSteps : List Leak → List Item → Trail → Type 0
CollectSteps whole items [] = Unit {0}
CollectSteps whole items (Did moment store asked ∷ trail) = CollectStep whole items store asked × CollectSteps whole items trail
CollectSteps whole items (Got moment at live ∷ trail) = CollectSteps whole items trail

-- one item more
more-steps : (whole : List Leak) (items : List Item) (item : Item) (trail : Trail) → CollectSteps whole items trail → CollectSteps whole (items ++ item ∷ []) trail
unfolding CollectSteps
more-steps whole items item [] h = tt
more-steps whole items item (Did moment store asked ∷ trail) h = (by h.0, more-steps whole items item trail h.1)
  where
    by : CollectStep whole items store asked → CollectStep whole (items ++ item ∷ []) store asked
    by (Rests idle) = Rests idle
    by (Took leak more b old revision among told is done current same count) = Took leak more b old revision among (Contains-append_left items (item ∷ []) (item_of leak (suc more)) told) is done current same count
more-steps whole items item (Got moment at live ∷ trail) h = more-steps whole items item trail h

idle-steps : (whole : List Leak) (items : List Item) (trail longer : Trail) → Idler trail longer → CollectSteps whole items trail → CollectSteps whole items longer
unfolding CollectSteps
idle-steps whole items trail longer Stays h = h
idle-steps whole items trail longer (Goes moment store asked rest idle before) h = (Rests idle, idle-steps whole items trail rest before h)

-- a leak was freed, or found no more
free-steps : (whole : List Leak) (items : List Item) (leak : Leak) (amount : ℕ) (trail longer : Trail) → Contains whole leak → FreeSteps (freeing_owner leak.owner leak.block) trail amount longer → CollectSteps whole items trail → CollectSteps whole (items ++ item_of leak amount ∷ []) longer
unfolding CollectSteps
free-steps whole items leak amount trail longer among (NoSteps none idle) h = idle-steps whole (items ++ item_of leak amount ∷ []) trail longer idle (more-steps whole items (item_of leak amount) trail h)
free-steps whole items leak amount trail longer among (OneStep moment store before b old revision more first then some done current same count) h =
    let all = items ++ item_of leak amount ∷ [] in
    let told : Contains all (item_of leak (suc more)) = subst (λ (n : ℕ). Contains all (item_of leak n)) some (Contains-append_right items (item_of leak amount ∷ []) (item_of leak amount) (in-here (item_of leak amount) [])) in
    idle-steps whole all (Did moment store (freeing_call (freeing_owner leak.owner leak.block) b old) ∷ before) longer then
    (Took leak more b old revision among told refl done (λ found there. current found there) same count, idle-steps whole all trail before first (more-steps whole items (item_of leak amount) trail h))

-- ---- what was collected so far

abbrev pub owner_at : Leak → Owner
owner_at leak = leak.owner

pub record HasCollected (whole : List Leak) (head : Trail) (items : List Item) (rest : List Leak) (trail : Trail) : Type 0 where
  pub since : Since head trail
  pub every : (leak : Leak) → Contains rest leak → Contains whole leak
  pub order : map owner_in items ++ map owner_at rest ≡ map owner_at whole
  pub rid : (item : Item) → Contains items item → IsRidOf whole head item trail
  pub steps : CollectSteps whole items trail

appended : (items : List Item) (item : Item) (rest : List Owner) → map owner_in (items ++ item ∷ []) ++ rest ≡ map owner_in items ++ owner_in item ∷ rest
appended [] item rest = refl
appended (first ∷ items) item rest = ap (λ (l : List Owner). owner_in first ∷ l) (appended items item rest)

one-more : (whole : List Leak) (head : Trail) (items : List Item) (leak : Leak) (rest : List Leak) (trail longer : Trail) (amount : ℕ) → HasCollected whole head items (leak ∷ rest) trail → Since trail longer → Rid (freeing_owner leak.owner leak.block) trail amount longer
    → FreeSteps (freeing_owner leak.owner leak.block) trail amount longer → HasCollected whole head (items ++ item_of leak amount ∷ []) rest longer
one-more whole head items leak rest trail longer amount h further rid steps = record {
  since = since-since head trail longer h.since further;
  every = λ one there. h.every one (in-there one leak rest there);
  order = appended items (item_of leak amount) (map owner_at rest) ∙ h.order;
  rid = λ item there. elim (Contains-append_cases items (item_of leak amount ∷ []) item there) [
    | inl was ↦
        let r = h.rid item was in
        record { leak = r.leak; among = r.among; amount = r.amount; is = r.is; rid = rid-since (freeing_owner r.leak.owner r.leak.block) head r.amount trail longer further r.rid }
    | inr last ↦ elim (in-cons item (item_of leak amount) [] last) [
      | inl same ↦ record { leak = leak; among = h.every leak (in-here leak rest); amount = amount; is = sym same; rid = rid-origin (freeing_owner leak.owner leak.block) head trail amount longer h.since rid }
      | inr none ↦ absurd (in-nothing item none)
    ]
  ];
  steps = free-steps whole items leak amount trail longer (h.every leak (in-here leak rest)) steps h.steps;
}

-- ---- the word

-- the lists of a collection
pub record Lists : Type 0 where
  pub b1 : ℕ
  pub first : Datastore
  pub fed_at : ℕ
  pub time : ℕ
  pub live : List (List ℕ)
  pub b2 : ℕ
  pub second : Datastore

abbrev pub head_of : Lists → Trail
head_of lists = Did lists.b2 lists.second (ListAll kind.Block) ∷ Got lists.fed_at lists.time lists.live ∷ Did lists.b1 lists.first (ListAll kind.Block) ∷ []

abbrev pub whole_of : CollectRequest → Lists → List Leak
whole_of request lists = leaks (suspects request (rows_of_kind kind.Block lists.first)) lists.live (rows_of_kind kind.Block lists.second)

-- all that leaks was gone through
pub record DidCollect (request : CollectRequest) (collected : Collected) (trail : Trail) : Type 0 where
  pub lists : Lists
  pub is_first : collected.b1 ≡ lists.b1
  pub is_second : collected.b2 ≡ lists.b2
  pub all : HasCollected (whole_of request lists) (head_of lists) collected.items [] trail

unfoldable IsCollect : CollectRequest → Trail → CollectAnswer → Type 0
IsCollect request trail (collect.Collected collected) = DidCollect request collected trail
IsCollect request trail (collect.Again lost) = Unit {0}
IsCollect request trail collect.Spent = Unit {0}

unfoldable CollectEnds : CollectRequest → Trail → Outcome CollectAnswer → Type 0
CollectEnds request trail (Went left told) = IsCollect request trail told
CollectEnds request trail (Stops left why) = Unit {0}

leaks-come : (request : CollectRequest) (lists : Lists) (done : Collected) (rest : List Leak) (left : Left) (trail : Trail) → done.b1 ≡ lists.b1 → done.b2 ≡ lists.b2 → HasCollected (whole_of request lists) (head_of lists) done.items rest trail
    → Comes (CollectEnds request) trail (free_leaks done rest left)
unfolding free_leaks CollectEnds IsCollect FreedEnds
leaks-come request lists done [] left trail first second h = record { lists = lists; is_first = first; is_second = second; all = h }
leaks-come request lists done (leak ∷ rest) left trail first second h =
    let what = freeing_owner leak.owner leak.block in
    Comes-bound (FreedEnds what trail) (CollectEnds request) (onward (λ now amount. free_leaks (with_item done (item_of leak amount)) rest now)) (free what left) trail (free-rids what trail left)
    (ends (λ now amount longer k. leaks-come request lists (with_item done (item_of leak amount)) rest now longer first second k))
  where
    ends : ((now : Left) (amount : ℕ) (longer : Trail) → HasCollected (whole_of request lists) (head_of lists) (done.items ++ item_of leak amount ∷ []) rest longer → Comes (CollectEnds request) longer (free_leaks (with_item done (item_of leak amount)) rest now))
        → (longer : Trail) (outcome : Outcome ℕ) → FreedEnds (freeing_owner leak.owner leak.block) trail longer outcome → Comes (CollectEnds request) longer (onward (λ now amount. free_leaks (with_item done (item_of leak amount)) rest now) outcome)
    ends next longer (Went now amount) k = next now amount longer (one-more (whole_of request lists) (head_of lists) done.items leak rest trail longer amount h (calmer-since trail longer k.1) k.0 k.2)
    ends next longer (Stops now why) k = tt

unfoldable pub OfCollect : CollectRequest → Trail → Answer → Type 0
OfCollect request trail (answer.Collected collected) = DidCollect request collected trail
OfCollect request trail (answer.Again lost claims) = Unit {0}
OfCollect request trail answer.Spent = Unit {0}
OfCollect request trail _ = ⊥

pub told-collect : (request : CollectRequest) → Comes (OfCollect request) [] (told_as of_collect (collect_word request))
unfolding CollectEnds IsCollect OfCollect CollectSteps
told-collect request = Comes-bound (IsCollect request) (OfCollect request) (λ one. Ends (of_collect one)) (collect_word request) [] word ends
  where
    settled-ends : (trail : Trail) (outcome : Outcome CollectAnswer) → CollectEnds request trail outcome → IsCollect request trail (answer_of collect_stops outcome)
    settled-ends trail (Went left told) k = k
    settled-ends trail (Stops left OutOfTries) k = tt
    settled-ends trail (Stops left OutOfClaims) k = tt
    settled-ends trail (Stops left NoRoom) k = tt
    settled-ends trail (Stops left (CountAtLimit moment)) k = tt
    settled-ends trail (Stops left NoRevisions) k = tt

    word : Comes (IsCollect request) [] (collect_word request)
    word = λ b1 first a1 fed_at time live b2 second a2.
        let lists : Lists = record { b1 = b1; first = first; fed_at = fed_at; time = time; live = live; b2 = b2; second = second } in
        let start : Collected = record { b1 = b1; b2 = b2; items = [] } in
        Comes-bound (CollectEnds request) (IsCollect request) (λ outcome. Ends (answer_of collect_stops outcome)) (free_leaks start (whole_of request lists) all_left) (head_of lists)
        (leaks-come request lists start (whole_of request lists) all_left (head_of lists) refl refl (record {
          since = Same;
          every = λ leak there. there;
          order = refl;
          rid = λ item there. absurd (in-nothing item there);
          steps = (Rests (Elsewhere (λ cidr e. cc e)), (Rests (Elsewhere (λ cidr e. cc e)), tt));
        })) settled-ends

    ends : (longer : Trail) (one : CollectAnswer) → IsCollect request longer one → Comes (OfCollect request) longer (Ends (of_collect one))
    ends longer (collect.Collected collected) k = k
    ends longer (collect.Again lost) k = tt
    ends longer collect.Spent k = tt
