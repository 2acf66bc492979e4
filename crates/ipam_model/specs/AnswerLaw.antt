-- What each answer says of the history that led to it.
use Rattle.std.specs.Prelude.{◌≡◌, ◌≢◌, ℕ, ◌+◌, ◌<◌, ◌⊎◌, ◌↔◌, List, ◌∷◌, Some}
use Rattle.ipam_addr.specs.Shape.{AddrValue, CidrValue}
use Rattle.ipam_records.specs.declared.key.Key.TheVariants as key
use Rattle.ipam_model.specs.declared.answer.Answer.{Answer}
use Rattle.ipam_model.specs.declared.answer.Answer.TheVariants as answer
use Rattle.ipam_model.specs.declared.answer.Scan.{Scan}
use Rattle.ipam_model.specs.declared.entry.CallName.TheVariants as name
use Rattle.ipam_model.specs.declared.entry.Called.{Called}
use Rattle.ipam_model.specs.declared.entry.Entry.TheVariants as entry
use Rattle.ipam_model.specs.declared.entry.Fate.TheVariants.{Well}
use Rattle.ipam_model.specs.declared.entry.Told.TheVariants as told
use Rattle.ipam_model.specs.declared.request.AddRequest.{AddRequest}
use Rattle.ipam_model.specs.declared.request.Admin.{Admin}
use Rattle.ipam_model.specs.declared.request.CollectRequest.{CollectRequest}
use Rattle.ipam_model.specs.declared.request.ProbeRequest.{ProbeRequest}
use Rattle.ipam_model.specs.declared.request.Request.{Request}
use Rattle.ipam_model.specs.declared.request.Request.TheVariants.{Add, AddThis, Del, Check, Release, Collect, Admin as Change, Probe}
use Rattle.ipam_model.specs.AddLaw.{AreGivenRight, HasChosenOf, HasLooked, HasNothing, IsExhausted, IsNotAffine, IsNotInPool, IsTaken, IsThisGivenRight, IsWithoutPool, LookRevisions, families_of}
use Rattle.ipam_model.specs.Answered.{Answered, earlier_calls, history_of, span_of}
use Rattle.ipam_model.specs.Consistent.{IsConsistent}
use Rattle.ipam_model.specs.History.{InSpan, Lawful, cluster_at}
use Rattle.ipam_model.specs.Moments.{request_in}
use Rattle.ipam_model.specs.OtherLaws.{AreReady, HasNoAffinity, IsChecked, IsCollectedRight, IsCountFull, IsDeleted, IsChangeDone, IsFull, IsNotRecorded, IsProbedExhausted, IsProbedWithoutPool, IsChangeRefused, IsReleased, probe_begins}
use Rattle.ipam_model.specs.Step.{most_lost, most_claims}
use Rattle.ipam_model.specs.Tries.{lost_races, claims_of}
use Rattle.ipam_model.specs.Usable.{families_if}

-- an ADD, with an address or without
abbrev pub IsAddWith : Request → AddRequest → Type 0
IsAddWith request add = (request ≡ Add add) ⊎ ((address : AddrValue) × (request ≡ AddThis add address))

-- so many races were lost and so many claims confirmed, and this call made one of them reach its bound
pub record IsAgain (a : Answered) (lost claims : ℕ) : Type 0 where
  pub are_lost : lost_races a.request (a.call ∷ earlier_calls a) ≡ lost
  pub are_claims : claims_of a.request (a.call ∷ earlier_calls a) ≡ claims
  pub by_this_call :
      ((lost ≡ most_lost) × (lost_races a.request (earlier_calls a) + 1 ≡ lost))
      ⊎ ((claims ≡ most_claims) × (claims_of a.request (earlier_calls a) + 1 ≡ claims))

-- the moments are of one round: the configuration, with which each round begins, was not read between
pub record IsInRound (a : Answered) (first later : ℕ) : Type 0 where
  pub behind : first < later
  pub same_round : (k : ℕ) (c : Called) → first < k → k < later
      → InSpan (span_of a) k (entry.Called c) → c.call ≢ name.Get key.Config

-- the block in which an ADD was to assign an address in the round of this moment
pub data IsTarget (a : Answered) (moment : ℕ) (cidr : CidrValue) : Type 0 where
  Chosen : (add : AddRequest) (scan : Scan) (ordinal : ℕ) → a.request ≡ Add add
      → HasChosenOf (span_of a) add scan cidr ordinal → IsInRound a scan.b moment → IsTarget a moment cidr
  AskedFor : (add : AddRequest) (address : AddrValue) (at : LookRevisions) → a.request ≡ AddThis add address
      → (looked : HasLooked (span_of a) add address at) → looked.cidr ≡ cidr → IsInRound a at.b moment → IsTarget a moment cidr

abbrev pub IsRightAnswer : Answered → Answer → Type 0
IsRightAnswer a (answer.Added given) =
    (add : AddRequest) × (a.request ≡ Add add) × AreGivenRight a add (families_of add) given
IsRightAnswer a (answer.AddedThis given) =
    (add : AddRequest) × (address : AddrValue) × (a.request ≡ AddThis add address)
    × IsThisGivenRight a add address given
IsRightAnswer a (answer.Exhausted scan) =
    ((add : AddRequest) × (a.request ≡ Add add) × IsExhausted a add scan)
    ⊎ ((probe : ProbeRequest) × (a.request ≡ Probe probe) × IsProbedExhausted a probe scan)
IsRightAnswer a (answer.NoPool called moment) =
    ((add : AddRequest) × (a.request ≡ Add add) × IsWithoutPool a add called moment)
    ⊎ ((probe : ProbeRequest) × (a.request ≡ Probe probe) × IsProbedWithoutPool a probe called moment)
IsRightAnswer a (answer.NotInPool moment) =
    (add : AddRequest) × (address : AddrValue) × (a.request ≡ AddThis add address)
    × IsNotInPool a add address moment
IsRightAnswer a (answer.Taken id moment) =
    (add : AddRequest) × (address : AddrValue) × (a.request ≡ AddThis add address)
    × IsTaken a add address id moment
IsRightAnswer a (answer.NotAffine cidr moment) =
    (add : AddRequest) × (address : AddrValue) × (a.request ≡ AddThis add address)
    × IsNotAffine a add address cidr moment
IsRightAnswer a (answer.Deleted moment) =
    (id : List ℕ) × (a.request ≡ Del id) × IsDeleted a id moment
IsRightAnswer a answer.Checked =
    (id : List ℕ) × (addresses : List AddrValue) × (a.request ≡ Check id addresses) × IsChecked a id addresses
IsRightAnswer a (answer.NotRecorded address moment) =
    (id : List ℕ) × (addresses : List AddrValue) × (a.request ≡ Check id addresses)
    × IsNotRecorded a id addresses address moment
IsRightAnswer a answer.Released =
    (node : List ℕ) × (cidr : CidrValue) × (a.request ≡ Release node cidr) × IsReleased a node cidr
IsRightAnswer a (answer.NoAffinity moment) =
    (node : List ℕ) × (cidr : CidrValue) × (a.request ≡ Release node cidr) × HasNoAffinity a node cidr moment
IsRightAnswer a (answer.Collected collected) =
    (collect : CollectRequest) × (a.request ≡ Collect collect) × IsCollectedRight a collect collected
IsRightAnswer a (answer.Done revision) =
    (admin : Admin) × (a.request ≡ Change admin) × IsChangeDone a admin revision
IsRightAnswer a (answer.Refused number about) =
    (admin : Admin) × (a.request ≡ Change admin) × IsChangeRefused a admin number about
IsRightAnswer a (answer.Again lost claims) = IsAgain a lost claims
IsRightAnswer a answer.Full =
    IsFull a × ((add : AddRequest) → IsAddWith a.request add → HasNothing a)
IsRightAnswer a (answer.CountFull moment) =
    (add : AddRequest) × IsAddWith a.request add
    × ((cidr : CidrValue) × IsTarget a moment cidr × IsCountFull a add.attributes.handle cidr moment)
    × HasNothing a
IsRightAnswer a answer.Spent = a.call.reply ≡ told.Spent
IsRightAnswer a answer.Fault = a.call.fate ≢ Well
IsRightAnswer a (answer.Ready scans) =
    (probe : ProbeRequest) × (a.request ≡ Probe probe)
    × AreReady a probe (probe_begins a) (families_if probe.ipv4 probe.ipv6) scans

-- each answer of the call is right of the history that led to it
abbrev pub IsAnsweredRight : Answered → Type 0
IsAnsweredRight a =
    (told : Answer) → request_in (cluster_at a.base a.earlier) a.call.slot ≡ Some a.request
    → a.call.answer ≡ Some told → IsRightAnswer a told

abbrev pub AnswersLaw : Type 0
AnswersLaw =
    (a : Answered) → IsConsistent a.base.store → Lawful a.base (history_of a) → IsAnsweredRight a

-- A request is answered Fault exactly where its call failed.
abbrev pub FaultLaw : Type 0
FaultLaw =
    (a : Answered) → Lawful a.base (history_of a)
    → (a.call.answer ≡ Some answer.Fault) ↔ (a.call.fate ≢ Well)

-- Whatever a CHECK is answered is right of the history that led to it.
abbrev pub CheckAnswersLaw : Type 0
CheckAnswersLaw =
    (a : Answered) (id : List ℕ) (addresses : List AddrValue) → IsConsistent a.base.store → Lawful a.base (history_of a)
    → a.request ≡ Check id addresses → IsAnsweredRight a

-- Where a probe is answered that it is ready, or that nothing is left, that is right.
abbrev pub ProbeAnswersLaw : Type 0
ProbeAnswersLaw =
    (a : Answered) (probe : ProbeRequest) → IsConsistent a.base.store → Lawful a.base (history_of a)
    → a.request ≡ Probe probe → request_in (cluster_at a.base a.earlier) a.call.slot ≡ Some a.request
    → ((scans : List Scan) → a.call.answer ≡ Some (answer.Ready scans) → IsRightAnswer a (answer.Ready scans))
    × ((scan : Scan) → a.call.answer ≡ Some (answer.Exhausted scan) → IsRightAnswer a (answer.Exhausted scan))
