-- Whose answers are right, by the kind of the request and by the kind of the answer.
use Rattle.std.specs.Prelude.{◌≡◌, ℕ, List, Some}
use Rattle.ipam_addr.specs.Shape.{AddrValue, CidrValue}
use Rattle.ipam_records.specs.Sound.{IsDatastore}
use Rattle.ipam_model.specs.declared.answer.Answer.TheVariants as answer
use Rattle.ipam_model.specs.declared.entry.Told.TheVariants as told
use Rattle.ipam_model.specs.declared.request.AddRequest.{AddRequest}
use Rattle.ipam_model.specs.declared.request.Admin.{Admin}
use Rattle.ipam_model.specs.declared.request.CollectRequest.{CollectRequest}
use Rattle.ipam_model.specs.declared.request.ProbeRequest.{ProbeRequest}
use Rattle.ipam_model.specs.declared.request.Request.{Request}
use Rattle.ipam_model.specs.declared.request.Request.TheVariants.{Add, AddThis, Collect, Del, Release, Admin as Change, Probe}
use Rattle.ipam_model.specs.AnswerLaw.{IsAgain, IsAnsweredRight}
use Rattle.ipam_model.specs.Answered.{Answered, history_of}
use Rattle.ipam_model.specs.Consistent.{IsConsistent}
use Rattle.ipam_model.specs.History.{Lawful, cluster_at}
use Rattle.ipam_model.specs.Moments.{request_in}
use Rattle.ipam_model.specs.OtherLaws.{IsFull}

-- whatever the request is answered is right
abbrev pub IsAlwaysRight : Request → Type 0
IsAlwaysRight request =
    (a : Answered) → IsConsistent a.base.store → Lawful a.base (history_of a) → a.request ≡ request → IsAnsweredRight a

-- Whatever the release of an affinity is answered is right.
abbrev pub ReleaseAnswersLaw : Type 0
ReleaseAnswersLaw = (node : List ℕ) (cidr : CidrValue) → IsAlwaysRight (Release node cidr)

-- Whatever a change by an operator is answered is right.
abbrev pub ChangeAnswersLaw : Type 0
ChangeAnswersLaw = (admin : Admin) → IsAlwaysRight (Change admin)

-- Whatever a probe is answered is right.
abbrev pub WholeProbeLaw : Type 0
WholeProbeLaw = (probe : ProbeRequest) → IsAlwaysRight (Probe probe)

-- Whatever an ADD of one address is answered is right.
abbrev pub ThisAnswersLaw : Type 0
ThisAnswersLaw = (add : AddRequest) (address : AddrValue) → IsAlwaysRight (AddThis add address)

-- Whatever a DEL is answered is right.
abbrev pub DelAnswersLaw : Type 0
DelAnswersLaw = (id : List ℕ) → IsAlwaysRight (Del id)

-- Whatever an ADD without an address is answered is right.
abbrev pub AddAnswersLaw : Type 0
AddAnswersLaw = (add : AddRequest) → IsAlwaysRight (Add add)

-- Whatever a collection is answered is right.
abbrev pub CollectAnswersLaw : Type 0
CollectAnswersLaw = (collect : CollectRequest) → IsAlwaysRight (Collect collect)

-- what an answer says of why a request stopped
pub record IsStoppedRight (a : Answered) : Type 0 where
  pub again : (lost claims : ℕ) → a.call.answer ≡ Some (answer.Again lost claims) → IsAgain a lost claims
  pub full : a.call.answer ≡ Some answer.Full → IsFull a
  pub spent : a.call.answer ≡ Some answer.Spent → a.call.reply ≡ told.Spent

-- Where any request is answered that it was tried too often, that there was no room, or that there
-- were no revisions, that is so.
abbrev pub StopLaw : Type 0
StopLaw =
    (a : Answered) → IsDatastore a.base.store → Lawful a.base (history_of a)
    → request_in (cluster_at a.base a.earlier) a.call.slot ≡ Some a.request → IsStoppedRight a
