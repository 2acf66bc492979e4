-- Whatever a request is answered is right, by the kind of the request.
use Rattle.std.proofs.Common.{◌≡◌, ◌≢◌, ℕ, inl, inr, List, [], ◌∷◌, Some, refl, sym, ap, ◌∙◌, subst}
use Rattle.ipam_addr.specs.Shape.{AddrValue, CidrValue}
use Rattle.ipam_records.specs.declared.call.Call.TheVariants.{Get}
use Rattle.ipam_records.specs.declared.key.Key.TheVariants as key
use Rattle.ipam_records.specs.Datastore.{Datastore, reply_of}
use Rattle.ipam_records.specs.Sound.{IsDatastore}
use Rattle.ipam_model.specs.declared.answer.Answer.{Answer}
use Rattle.ipam_model.specs.declared.answer.Answer.TheVariants as answer
use Rattle.ipam_model.specs.declared.choice.Choice.TheVariants.{Nothing, NoPool}
use Rattle.ipam_model.specs.declared.entry.Fate.{Fate}
use Rattle.ipam_model.specs.declared.entry.Fate.TheVariants.{After, Before, Well}
use Rattle.ipam_model.specs.declared.request.AddRequest.{AddRequest}
use Rattle.ipam_model.specs.declared.request.Admin.{Admin as Setting}
use Rattle.ipam_model.specs.declared.request.CollectRequest.{CollectRequest}
use Rattle.ipam_model.specs.declared.request.Request.{Request}
use Rattle.ipam_model.specs.declared.request.Request.TheVariants.{Add, AddThis, Admin, Check, Collect, Del, Probe, Release}
use Rattle.ipam_model.specs.Add.{asked_of}
use Rattle.ipam_model.specs.AddLaw.{HasNothing, families_of}
use Rattle.ipam_model.specs.AnswerLaw.{CheckAnswersLaw, IsAddWith, IsRightAnswer, IsTarget, ProbeAnswersLaw}
use Rattle.ipam_model.specs.Answered.{Answered, earlier_calls, history_of, span_of}
use Rattle.ipam_model.specs.Consistent.{IsConsistent}
use Rattle.ipam_model.specs.History.{Lawful, cluster_at, now}
use Rattle.ipam_model.specs.Moments.{request_in}
use Rattle.ipam_model.specs.OtherLaws.{IsCountFull}
use Rattle.ipam_model.specs.Requests.{word_of}
use Rattle.ipam_laws.specs.RightAnswers.{AddAnswersLaw, ChangeAnswersLaw, CollectAnswersLaw, ReleaseAnswersLaw, DelAnswersLaw, StopLaw, ThisAnswersLaw, WholeProbeLaw}
use Rattle.ipam_laws.proofs.AddFamilies.{IsTold, told-comes}
use Rattle.ipam_laws.proofs.AddLeaves.{LeavesNothing, leaves-nothing}
use Rattle.ipam_laws.proofs.AddNothing.{nothing-left}
use Rattle.ipam_laws.proofs.AddRight.{all-right}
use Rattle.ipam_laws.proofs.AddRounds.{IsAimed}
use Rattle.ipam_laws.proofs.DelRight.{OfDel, deleted-right, told-del}
use Rattle.ipam_laws.proofs.CollectRight.{collected-right}
use Rattle.ipam_laws.proofs.CollectTrails.{OfCollect, told-collect}
use Rattle.ipam_laws.proofs.CheckAnswers.{OfCheck, check-comes, check-right}
use Rattle.ipam_laws.proofs.FamilyHistory.{aimed-span, chosen-span}
use Rattle.ipam_laws.proofs.Fates.{faults}
use Rattle.ipam_laws.proofs.HeardRight.{OfChange, OfRelease, done-right, missed-right, refused-right, released-right, told-change, told-release}
use Rattle.ipam_laws.proofs.NoReturn.{consistent-before}
use Rattle.ipam_laws.proofs.ProbeAnswers.{OfProbe, named-place, probe-comes, probe-right}
use Rattle.ipam_laws.proofs.StopHistory.{IsStopRight, stopped-right}
use Rattle.ipam_laws.proofs.StoreSteps.{failed-answered}
use Rattle.ipam_laws.proofs.ThisGiven.{given-right, limit-is, limit-right}
use Rattle.ipam_laws.proofs.ThisRight.{calm-nothing, held-right, left-right, unpooled-right}
use Rattle.ipam_laws.proofs.ThisTrails.{OfThis, told-this}
use Rattle.ipam_laws.proofs.Trails.{AreCalls, Comes, Comes-both, IsTrail, Trail, answer-comes}

-- ---- what requests say of their trails

pub SaysOfTrail : Request → Trail → Answer → Type 0
SaysOfTrail (Check id addresses) trail told = OfCheck id addresses trail told
SaysOfTrail (Release node cidr) trail told = OfRelease node cidr trail told
SaysOfTrail (Admin setting) trail told = OfChange setting trail told
SaysOfTrail (Probe request) trail told = OfProbe request trail told
SaysOfTrail (AddThis request address) trail told = OfThis request address trail told
SaysOfTrail (Del id) trail told = OfDel id trail told
SaysOfTrail (Add request) trail told = IsTold request told trail × LeavesNothing request told trail
SaysOfTrail (Collect request) trail told = OfCollect request trail told

hear : (request : Request) → Comes (SaysOfTrail request) [] (word_of request)
unfolding word_of SaysOfTrail
hear (Check id addresses) = check-comes id addresses
hear (Release node cidr) = told-release node cidr
hear (Admin setting) = told-change setting
hear (Probe request) = probe-comes request
hear (Add request) = Comes-both (λ trail told. IsTold request told trail) (λ trail told. LeavesNothing request told trail) (word_of (Add request)) [] (told-comes request) (leaves-nothing request)
hear (AddThis request address) = told-this request address
hear (Del id) = told-del id
hear (Collect request) = told-collect request

-- ---- answers of calls that went well, or failed

-- where an answer stands
pub record IsThere (a : Answered) (told : Answer) : Type 0 where
  pub consistent : IsConsistent a.base.store
  pub lawful : Lawful a.base (history_of a)
  pub requested : request_in (cluster_at a.base a.earlier) a.call.slot ≡ Some a.request
  pub given : a.call.answer ≡ Some told

right-if : (a : Answered) (told : Answer) → IsThere a told → (told ≢ answer.Fault → a.call.fate ≡ Well → IsRightAnswer a told) → IsRightAnswer a told
right-if a told t well = by a.call.fate refl
  where
    failed : a.call.fate ≢ Well → IsRightAnswer a told
    failed differ =
        let fault = failed-answered a.base a.earlier a.call t.lawful differ in
        let given = t.given in
        let same : answer.Fault ≡ told = cc (fault, given) in
        subst (λ (x : Answer). IsRightAnswer a x) same differ

    by : (fate : Fate) → a.call.fate ≡ fate → IsRightAnswer a told
    by Well fate = well (λ e. (faults a t.lawful).0 (t.given ∙ ap Some e) fate) fate
    by Before fate = failed (λ e. cc (e, fate))
    by After fate = failed (λ e. cc (e, fate))

-- what was heard, and why it stopped
record IsHeard (a : Answered) (told : Answer) : Type 0 where
  trail : Trail
  is_trail : IsTrail (span_of a) (now (span_of a)) trail
  calls : AreCalls trail (a.call ∷ earlier_calls a)
  heard : SaysOfTrail a.request trail told
  stop : IsStopRight a told

heard-of : (a : Answered) (told : Answer) → IsThere a told → told ≢ answer.Fault → a.call.fate ≡ Well → IsHeard a told
heard-of a told t differ fate =
    let comes = answer-comes SaysOfTrail hear a told t.consistent.sound t.lawful t.requested t.given fate in
    record {
      trail = comes.trail;
      is_trail = comes.is_trail;
      calls = comes.calls;
      heard = comes.comes;
      stop = stopped-right a told t.consistent.sound t.lawful t.requested t.given differ;
    }

-- ---- by the kind of the request

pub check_answers : CheckAnswersLaw
unfolding SaysOfTrail
check_answers a id addresses c h is told requested given =
    let t : IsThere a told = record { consistent = c; lawful = h; requested = requested; given = given } in
    right-if a told t (λ differ fate.
    let k = heard-of a told t differ fate in
    check-right a id addresses k.trail c h is k.is_trail told (subst (λ (r : Request). SaysOfTrail r k.trail told) is k.heard))

pub whole_probe : WholeProbeLaw
unfolding SaysOfTrail
whole_probe request a c h is told requested given =
    let t : IsThere a told = record { consistent = c; lawful = h; requested = requested; given = given } in
    right-if a told t (λ differ fate.
    let k = heard-of a told t differ fate in
    probe-right a request k.trail is k.is_trail told (subst (λ (r : Request). SaysOfTrail r k.trail told) is k.heard))

pub probe_answers : ProbeAnswersLaw
probe_answers a request c h is requested = (λ scans given. whole_probe request a c h is (answer.Ready scans) requested given, λ scan given. whole_probe request a c h is (answer.Exhausted scan) requested given)

-- no ADD
no-add : (a : Answered) (request : Request) → a.request ≡ request → ((add : AddRequest) → request ≢ Add add) → ((add : AddRequest) (address : AddrValue) → request ≢ AddThis add address) → (add : AddRequest) → IsAddWith a.request add → HasNothing a
no-add a request is plain this add (inl e) = absurd (plain add (sym is ∙ e))
no-add a request is plain this add (inr (address, e)) = absurd (this add address (sym is ∙ e))

change-right : (a : Answered) (setting : Setting) (trail : Trail) → a.request ≡ Admin setting → IsTrail (span_of a) (now (span_of a)) trail → AreCalls trail (a.call ∷ earlier_calls a) → (told : Answer) → OfChange setting trail told → IsStopRight a told → IsRightAnswer a told
unfolding OfChange IsStopRight
change-right a setting trail is there calls (answer.Done revision) h s = (setting, is, done-right a setting revision trail there calls h)
change-right a setting trail is there calls (answer.Refused number about) h s = (setting, is, refused-right a setting number about trail there h)
change-right a setting trail is there calls (answer.Again lost claims) h s = s
change-right a setting trail is there calls answer.Full h s = (s, no-add a (Admin setting) is (λ add e. cc e) (λ add address e. cc e))
change-right a setting trail is there calls answer.Spent h s = s
change-right a setting trail is there calls other h s = absurd h

pub change_answers : ChangeAnswersLaw
unfolding SaysOfTrail
change_answers setting a c h is told requested given =
    let t : IsThere a told = record { consistent = c; lawful = h; requested = requested; given = given } in
    right-if a told t (λ differ fate.
    let k = heard-of a told t differ fate in
    change-right a setting k.trail is k.is_trail k.calls told (subst (λ (r : Request). SaysOfTrail r k.trail told) is k.heard) k.stop)

release-right : (a : Answered) (node : List ℕ) (cidr : CidrValue) (trail : Trail) → IsConsistent a.base.store → Lawful a.base (history_of a) → a.request ≡ Release node cidr → IsTrail (span_of a) (now (span_of a)) trail → AreCalls trail (a.call ∷ earlier_calls a) → (told : Answer) → OfRelease node cidr trail told → IsStopRight a told → IsRightAnswer a told
unfolding OfRelease IsStopRight
release-right a node cidr trail c l is there calls answer.Released h s = (node, cidr, is, released-right a node cidr trail c l there calls h)
release-right a node cidr trail c l is there calls (answer.NoAffinity moment) h s = (node, cidr, is, missed-right a node cidr moment trail there h)
release-right a node cidr trail c l is there calls (answer.Again lost claims) h s = s
release-right a node cidr trail c l is there calls answer.Full h s = (s, no-add a (Release node cidr) is (λ add e. cc e) (λ add address e. cc e))
release-right a node cidr trail c l is there calls answer.Spent h s = s
release-right a node cidr trail c l is there calls other h s = absurd h

pub release_answers : ReleaseAnswersLaw
unfolding SaysOfTrail
release_answers node cidr a c h is told requested given =
    let t : IsThere a told = record { consistent = c; lawful = h; requested = requested; given = given } in
    right-if a told t (λ differ fate.
    let k = heard-of a told t differ fate in
    release-right a node cidr k.trail c h is k.is_trail k.calls told (subst (λ (r : Request). SaysOfTrail r k.trail told) is k.heard) k.stop)

this-right : (a : Answered) (request : AddRequest) (address : AddrValue) (trail : Trail) → IsConsistent a.base.store → Lawful a.base (history_of a) → a.request ≡ AddThis request address → IsTrail (span_of a) (now (span_of a)) trail → (told : Answer) → OfThis request address trail told → IsStopRight a told → IsRightAnswer a told
unfolding OfThis IsStopRight
this-right a request address trail c l is there (answer.AddedThis given) h s = (request, address, is, given-right a request address c l given trail there h)
this-right a request address trail c l is there (answer.NotInPool moment) h s = (request, address, is, unpooled-right a request address c l moment trail there h)
this-right a request address trail c l is there (answer.Taken id moment) h s = (request, address, is, held-right a request address c l id moment trail there h)
this-right a request address trail c l is there (answer.NotAffine block moment) h s = (request, address, is, left-right a request address c l block moment trail there h)
this-right a request address trail c l is there (answer.Again lost claims) h s = s
this-right a request address trail c l is there answer.Full h s = (s, λ add adds. calm-nothing a trail c l there h)
this-right a request address trail c l is there (answer.CountFull moment) h s = (request, inr (address, is), limit-right a request address c l moment trail is there h.0, calm-nothing a trail c l there h.1)
this-right a request address trail c l is there answer.Spent h s = s
this-right a request address trail c l is there other h s = absurd h

pub this_answers : ThisAnswersLaw
unfolding SaysOfTrail
this_answers request address a c h is told requested given =
    let t : IsThere a told = record { consistent = c; lawful = h; requested = requested; given = given } in
    right-if a told t (λ differ fate.
    let k = heard-of a told t differ fate in
    this-right a request address k.trail c h is k.is_trail told (subst (λ (r : Request). SaysOfTrail r k.trail told) is k.heard) k.stop)

del-right : (a : Answered) (id : List ℕ) (trail : Trail) → IsConsistent a.base.store → Lawful a.base (history_of a) → a.request ≡ Del id → IsTrail (span_of a) (now (span_of a)) trail → (told : Answer) → OfDel id trail told → IsStopRight a told → IsRightAnswer a told
unfolding OfDel IsStopRight
del-right a id trail c l is there (answer.Deleted moment) h s = (id, is, deleted-right a id moment trail c l there h)
del-right a id trail c l is there (answer.Again lost claims) h s = s
del-right a id trail c l is there answer.Spent h s = s
del-right a id trail c l is there other h s = absurd h

pub del_answers : DelAnswersLaw
unfolding SaysOfTrail
del_answers id a c h is told requested given =
    let t : IsThere a told = record { consistent = c; lawful = h; requested = requested; given = given } in
    right-if a told t (λ differ fate.
    let k = heard-of a told t differ fate in
    del-right a id k.trail c h is k.is_trail told (subst (λ (r : Request). SaysOfTrail r k.trail told) is k.heard) k.stop)

-- an address of a block was chosen in the round, and its count was at its limit
add-limit : (a : Answered) (request : AddRequest) (moment : ℕ) (trail : Trail) → IsConsistent a.base.store → Lawful a.base (history_of a) → a.request ≡ Add request → IsTrail (span_of a) (now (span_of a)) trail → IsAimed request moment trail
    → (cidr : CidrValue) × IsTarget a moment cidr × IsCountFull a request.attributes.handle cidr moment
add-limit a request moment trail c l is there aimed =
    let (target, then) = aimed-span a request moment trail (now (span_of a)) is there aimed in
    let sound : IsDatastore aimed.store = subst (λ (s : Datastore). IsDatastore s) then.before_it (consistent-before a.base (history_of a) moment c l).sound in (
      aimed.cidr,
      target,
      record {
        found = reply_of aimed.store (Get (key.Handle request.attributes.handle));
        read = then.read;
        at_limit = limit-is aimed.store request.attributes.handle aimed.cidr sound aimed.limit;
      },
    )

add-right : (a : Answered) (request : AddRequest) (trail : Trail) → IsConsistent a.base.store → Lawful a.base (history_of a) → a.request ≡ Add request → IsTrail (span_of a) (now (span_of a)) trail → (told : Answer) → IsTold request told trail → LeavesNothing request told trail → IsStopRight a told → IsRightAnswer a told
unfolding IsTold LeavesNothing IsStopRight
add-right a request trail c l is there (answer.Added given) h k s = (request, is, all-right a request (families_of request) given trail c l there h)
add-right a request trail c l is there (answer.Exhausted scan) h k s = inl (
  request,
  is,
  record { chosen = chosen-span (span_of a) request scan Nothing trail (now (span_of a)) there h; nothing_left = nothing-left a request trail c l there k },
)
add-right a request trail c l is there (answer.NoPool called moment) (scan, place, at, called_so, h) k s =
    let chosen = chosen-span (span_of a) request scan (NoPool place) trail (now (span_of a)) there h in
    inl (
      request,
      is,
      record {
        scan = scan;
        place = place;
        chosen = chosen;
        at_pools = at;
        is_name = named-place (asked_of request scan.family) chosen.seen place chosen.is_choice ∙ ap Some (sym called_so);
        nothing_left = nothing-left a request trail c l there k;
      },
    )
add-right a request trail c l is there (answer.CountFull moment) h k s = (request, inl is, add-limit a request moment trail c l is there h, nothing-left a request trail c l there k)
add-right a request trail c l is there (answer.Again lost claims) h k s = s
add-right a request trail c l is there answer.Full h k s = (s, λ add adds. nothing-left a request trail c l there k)
add-right a request trail c l is there answer.Spent h k s = s
add-right a request trail c l is there (answer.AddedThis given) h k s = absurd k
add-right a request trail c l is there (answer.NotInPool moment) h k s = absurd k
add-right a request trail c l is there (answer.Taken id moment) h k s = absurd k
add-right a request trail c l is there (answer.NotAffine block moment) h k s = absurd k
add-right a request trail c l is there (answer.Deleted moment) h k s = absurd k
add-right a request trail c l is there answer.Checked h k s = absurd k
add-right a request trail c l is there (answer.NotRecorded other moment) h k s = absurd k
add-right a request trail c l is there answer.Released h k s = absurd k
add-right a request trail c l is there (answer.NoAffinity moment) h k s = absurd k
add-right a request trail c l is there (answer.Collected collected) h k s = absurd k
add-right a request trail c l is there (answer.Done revision) h k s = absurd k
add-right a request trail c l is there (answer.Refused number about) h k s = absurd k
add-right a request trail c l is there answer.Fault h k s = absurd k
add-right a request trail c l is there (answer.Ready scans) h k s = absurd k

pub add_answers : AddAnswersLaw
unfolding SaysOfTrail
add_answers request a c h is told requested given =
    let t : IsThere a told = record { consistent = c; lawful = h; requested = requested; given = given } in
    right-if a told t (λ differ fate.
    let k = heard-of a told t differ fate in
    let heard = subst (λ (r : Request). SaysOfTrail r k.trail told) is k.heard in
    add-right a request k.trail c h is k.is_trail told heard.0 heard.1 k.stop)

-- over a consistent base, where the request runs
abbrev IsThereAsked : Answered → Type 0
IsThereAsked a = IsConsistent a.base.store × Lawful a.base (history_of a) × (request_in (cluster_at a.base a.earlier) a.call.slot ≡ Some a.request)

collect-right : (a : Answered) (request : CollectRequest) (trail : Trail) → IsThereAsked a → a.request ≡ Collect request → IsTrail (span_of a) (now (span_of a)) trail → (told : Answer) → OfCollect request trail told → IsStopRight a told → IsRightAnswer a told
unfolding OfCollect IsStopRight
collect-right a request trail t is there (answer.Collected collected) h s = (request, is, collected-right a request collected trail t.0 t.1 is t.2 there h)
collect-right a request trail t is there (answer.Again lost claims) h s = s
collect-right a request trail t is there answer.Spent h s = s
collect-right a request trail t is there other h s = absurd h

pub collect_answers : CollectAnswersLaw
unfolding SaysOfTrail
collect_answers request a c h is told requested given =
    let t : IsThere a told = record { consistent = c; lawful = h; requested = requested; given = given } in
    right-if a told t (λ differ fate.
    let k = heard-of a told t differ fate in
    collect-right a request k.trail (c, h, requested) is k.is_trail told (subst (λ (r : Request). SaysOfTrail r k.trail told) is k.heard) k.stop)

pub stop_law : StopLaw
unfolding IsStopRight
stop_law a sound h requested = record {
  again = λ lost claims given. stopped-right a (answer.Again lost claims) sound h requested given (λ e. cc e);
  full = λ given. stopped-right a answer.Full sound h requested given (λ e. cc e);
  spent = λ given. stopped-right a answer.Spent sound h requested given (λ e. cc e);
}
