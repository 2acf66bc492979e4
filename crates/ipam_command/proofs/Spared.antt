-- What GC leaves and what STATUS tells, where there is spare.
use Rattle.std.proofs.Common.{◌≡◌, ℕ, List, map, Option, Some, None, refl, sym, ap, ◌∙◌, subst, lit<}
use Rattle.std.specs.Prelude.{◌↔◌, IfSome, Ok}
use Rattle.ipam_records.specs.declared.call.Row.{Row as RowText}
use Rattle.ipam_records.specs.Datastore.{Datastore}
use Rattle.ipam_model.specs.declared.answer.Answer.{Answer}
use Rattle.ipam_model.specs.declared.answer.Answer.TheVariants as answer
use Rattle.ipam_model.specs.declared.answer.Given.{Given}
use Rattle.ipam_model.specs.declared.request.Request.{Request}
use Rattle.ipam_model.specs.declared.request.Request.TheVariants.{Add, Collect, Probe}
use Rattle.ipam_model.specs.Alone.{alone_over}
use Rattle.ipam_model.specs.Opened.{Breaks, OpensAs}
use Rattle.ipam_model.specs.Owners.{Owner}
use Rattle.ipam_model.specs.Plain.{CanGive, Collects, plain_of, plain_collect}
use Rattle.ipam_model.specs.Remove.{Leak, leaks, suspects}
use Rattle.ipam_model.specs.SoundRequest.{IsSoundRequest}
use Rattle.ipam_laws.proofs.OpenedHistory.{opened_law}
use Rattle.ipam_laws.proofs.Openings.{opens_as_one}
use Rattle.ipam_plain.proofs.Leaving.{collect_leaves}
use Rattle.ipam_plain.proofs.Readying.{ready_adds}
use Rattle.ipam_plain.proofs.Whole.{collect_alone}
use Rattle.ipam_shared.specs.Kept.{opened}
use Rattle.ipam_shared.specs.Rows.{AreTextsOf, texts_loaded}
use Rattle.cni_types.specs.declared.calls.CniGc.{CniGc}
use Rattle.cni_types.specs.declared.calls.Look.{Look}
use Rattle.cni_types.specs.declared.calls.Look.TheVariants.{Gc, Status}
use Rattle.cni_types.specs.Looking.{look_reading}
use Rattle.cni_types.specs.Reading.{Pair}
use Rattle.cni_types.specs.Sound.{IsSoundGc}
use Rattle.cni_types.specs.declared.version.Version.{Version}
use Rattle.cni_types.proofs.Soundness.{look_reading-sound}
use Rattle.cni_asks.specs.declared.asks.Ask.TheVariants.{Tell, Begin}
use Rattle.cni_asks.specs.declared.replies.CniReply.{CniReply}
use Rattle.cni_asks.specs.declared.replies.CniReply.TheVariants.{Addresses, Success, Failure}
use Rattle.cni_asks.specs.Replying.{reply_status, told}
use Rattle.cni_asks.specs.GcAsking.{collect_of, probe_of}
use Rattle.cni_asks.specs.GcReplying.{gc_reply_of, status_reply_of}
use Rattle.ipam_command.specs.Replies.{Answered, Asked, AtOnce, BadRows, ComesTo, Refused, StatusAndText, RequestComesTo, begun_by, reply_to}
use Rattle.ipam_command.specs.Spare.{GcLeavesLaw, StatusAddsLaw}
use Rattle.ipam_command.proofs.Ready.{ready-as-plain}

-- ---- what a call is replied

-- the request alone over the store has this reply
pub record IsReplied (store : Datastore) (asked : Request) (version : Version) (new : Option (List RowText)) (reply : StatusAndText) : Type 0 where
  pub is_told : CniReply
  pub answer : reply_to asked (alone_over (opened store) asked).0 ≡ Some is_told
  pub rows : IfSome new (λ after. AreTextsOf after (alone_over (opened store) asked).1)
  pub text : told version is_told ≡ reply

request-replied : (asked : Request) (version : Version) (old : List RowText) (new : Option (List RowText)) (reply : StatusAndText) (store : Datastore) → OpensAs (texts_loaded old) store → RequestComesTo asked version (Some old) new reply → IsReplied store asked version new reply
request-replied asked version old new reply store opens (BadRows loaded number about is refused same) =
    absurd (opens.may_be_opened number about (subst (λ (l : List RowText). Breaks (texts_loaded l) number about) is refused.breaks))
request-replied asked version old new reply store opens (Answered loaded other said is own answer rows course) =
    let same : other ≡ store = opens_as_one (texts_loaded old) other store (subst (λ (l : List RowText). OpensAs (texts_loaded l) other) is own) opens in
    record {
      is_told = said;
      answer = subst (λ (s : Datastore). reply_to asked (alone_over (opened s) asked).0 ≡ Some said) same answer;
      rows = subst (λ (s : Datastore). IfSome new (λ after. AreTextsOf after (alone_over (opened s) asked).1)) same rows;
      text = refl;
    }

tell-begin : (text : List ℕ) (asked : Request) (version : Version) → Tell text ≡ Begin asked version → ⊥
tell-begin text asked version e = absurd cc

pub replied : (env : List Pair) (stdin : List ℕ) (look : Look) (asked : Request) (version : Version) (old : List RowText) (new : Option (List RowText)) (reply : StatusAndText) (store : Datastore) → look_reading env stdin ≡ Ok look → begun_by look ≡ Begin asked version → OpensAs (texts_loaded old) store → ComesTo env stdin (Some old) new reply → IsReplied store asked version new reply
replied env stdin look asked version old new reply store is begins opens (Refused error e same) = absurd (cc (is, e))
replied env stdin look asked version old new reply store is begins opens (AtOnce other text e tells same) =
    let one : other ≡ look = cc (is, e) in
    absurd (tell-begin text asked version (sym tells ∙ ap begun_by one ∙ begins))
replied env stdin look asked version old new reply store is begins opens (Asked other own in_version said e begun comes) =
    let one : other ≡ look = cc (is, e) in
    let both : Begin own in_version ≡ Begin asked version = sym begun ∙ ap begun_by one ∙ begins in
    let request : own ≡ asked = cc both in
    let told_in : in_version ≡ version = cc both in
    subst (λ (v : Version). IsReplied store asked v new reply) told_in
    (subst (λ (r : Request). IsReplied store r in_version new reply) request (request-replied own in_version old new reply store opens comes))

-- ---- GC

pub gc-sound : (call : CniGc) → IsSoundGc call → IsSoundRequest (Collect (collect_of call))
gc-sound call h = record { live = h.live; at = lit< tt; grace = lit< tt; scope = (h.network, h.node) }

collects-told : (found : Answer) (owners : List Owner) → plain_of found ≡ Some (Collects owners) → gc_reply_of found ≡ Some Success
collects-told (answer.Added given) owners e = absurd cc
collects-told (answer.AddedThis given) owners e = absurd cc
collects-told (answer.Exhausted scan) owners e = absurd cc
collects-told (answer.NoPool name moment) owners e = absurd cc
collects-told (answer.NotInPool moment) owners e = absurd cc
collects-told (answer.Taken holder moment) owners e = absurd cc
collects-told (answer.NotAffine cidr moment) owners e = absurd cc
collects-told (answer.Deleted moment) owners e = absurd cc
collects-told answer.Checked owners e = absurd cc
collects-told (answer.NotRecorded address moment) owners e = absurd cc
collects-told answer.Released owners e = absurd cc
collects-told (answer.NoAffinity moment) owners e = absurd cc
collects-told (answer.Collected collected) owners e = refl
collects-told (answer.Done revision) owners e = absurd cc
collects-told (answer.Refused number name) owners e = absurd cc
collects-told (answer.Again lost claims) owners e = absurd cc
collects-told answer.Full owners e = absurd cc
collects-told (answer.CountFull moment) owners e = absurd cc
collects-told answer.Spent owners e = absurd cc
collects-told answer.Fault owners e = absurd cc
collects-told (answer.Ready scans) owners e = absurd cc

pub gc_leaves : GcLeavesLaw
gc_leaves env stdin call old new reply store look comes opens spare =
    let sound = gc-sound call (look_reading-sound env stdin (Gc call) look) in
    let r = replied env stdin (Gc call) (Collect (collect_of call)) call.version old new reply store look refl opens comes in
    let consistent = opened_law (texts_loaded old) store opens in
    let result = plain_collect (collect_of call) store.rows in
    let plain = (collect_alone (collect_of call) (opened store) result consistent sound spare refl).0 in
    let success = collects-told (alone_over (opened store) (Collect (collect_of call))).0 (map (λ (leak : Leak). leak.owner) (leaks (suspects (collect_of call) store.rows) call.live store.rows)) plain in
    let is : r.is_told ≡ Success = cc (r.answer, success) in (
      sym r.text ∙ ap (λ (t : CniReply). told call.version t) is,
      record {
        texts = r.rows;
        owners = collect_leaves (opened store) (collect_of call) consistent sound spare refl;
      },
    )

-- ---- STATUS

-- none, a success or a failure, and no addresses
abbrev HasNoAddresses : Option CniReply → Type 0
HasNoAddresses None = Unit {0}
HasNoAddresses (Some Success) = Unit {0}
HasNoAddresses (Some (Failure code details)) = Unit {0}
HasNoAddresses (Some (Addresses addresses)) = ⊥

status-told : (found : Answer) → HasNoAddresses (status_reply_of found)
status-told (answer.Added given) = tt
status-told other = tt

zero-told : (o : Option CniReply) (said : CniReply) → HasNoAddresses o → o ≡ Some said → reply_status said ≡ 0 → o ≡ Some Success
zero-told o (Addresses addresses) none e zero = absurd (subst HasNoAddresses e none)
zero-told o Success none e zero = e
zero-told o (Failure code details) none e zero = absurd cc

pub status_adds : StatusAddsLaw
status_adds env stdin call old new reply store request look comes opens same sound spare = (to, from)
  where
    r : IsReplied store (Probe (probe_of call)) call.version new reply
    r = replied env stdin (Status call) (Probe (probe_of call)) call.version old new reply store look refl opens comes

    found : Answer
    found = (alone_over (opened store) (Probe (probe_of call))).0

    tells : (plain_of (alone_over (opened store) (Probe (probe_of call))).0 ≡ Some CanGive) ↔ ((given : List Given) × ((alone_over (opened store) (Add request)).0 ≡ answer.Added given))
    tells = ready_adds (opened store) (probe_of call) request (opened_law (texts_loaded old) store opens) sound same spare

    to : reply.0 ≡ 0 → (given : List Given) × ((alone_over (opened store) (Add request)).0 ≡ answer.Added given)
    to zero =
        let status : reply_status r.is_told ≡ 0 = ap (λ (p : StatusAndText). p.0) r.text ∙ zero in
        tells.0 ((ready-as-plain found).0 (zero-told (status_reply_of found) r.is_told (status-told found) r.answer status))

    from : (given : List Given) × ((alone_over (opened store) (Add request)).0 ≡ answer.Added given) → reply.0 ≡ 0
    from given =
        let success = (ready-as-plain found).1 (tells.1 given) in
        let is : r.is_told ≡ Success = cc (r.answer, success) in
        sym (ap (λ (p : StatusAndText). p.0) r.text) ∙ ap reply_status is
