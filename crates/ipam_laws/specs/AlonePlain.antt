-- What requests come to that run alone, each by itself.
use Rattle.std.specs.Prelude.{◌≡◌, ◌≢◌, ℕ, List, [], ◌∷◌, Some}
use Rattle.ipam_addr.specs.declared.address.Family.{Family}
use Rattle.ipam_addr.specs.Shape.{AddrValue}
use Rattle.ipam_model.specs.declared.answer.Answer.{Answer}
use Rattle.ipam_model.specs.declared.answer.Answer.TheVariants as answer
use Rattle.ipam_model.specs.declared.answer.Given.{Given}
use Rattle.ipam_model.specs.declared.request.AddRequest.{AddRequest}
use Rattle.ipam_model.specs.declared.request.ProbeRequest.{ProbeRequest}
use Rattle.ipam_model.specs.declared.request.Request.TheVariants.{Add, Check, Probe}
use Rattle.ipam_model.specs.Alone.{alone_over}
use Rattle.ipam_model.specs.Consistent.{IsConsistent}
use Rattle.ipam_model.specs.History.{Base}
use Rattle.ipam_model.specs.Plain.{CanGive, plain_check, plain_of, plain_probe}
use Rattle.ipam_model.specs.SoundRequest.{IsSoundRequest}
use Rattle.ipam_model.specs.Usable.{families_if}

-- A CHECK and a probe say what the records say, over any base, and leave them.
abbrev pub CheckAloneLaw : Type 0
CheckAloneLaw =
    (base : Base) (id : List ℕ) (addresses : List AddrValue)
    → (plain_of (alone_over base (Check id addresses)).0 ≡ Some (plain_check id addresses base.store.rows))
    × ((alone_over base (Check id addresses)).1 ≡ base.store)

abbrev pub ProbeAloneLaw : Type 0
ProbeAloneLaw =
    (base : Base) (request : ProbeRequest)
    → (plain_of (alone_over base (Probe request)).0
    ≡ Some (plain_probe request (families_if request.ipv4 request.ipv6) base.store.rows))
    × ((alone_over base (Probe request)).1 ≡ base.store)

-- ---- a probe, and the ADD that it is about

pub record AsksSame (probe : ProbeRequest) (request : AddRequest) : Type 0 where
  pub node : request.node ≡ probe.node
  pub labels : request.labels ≡ probe.labels
  pub pools4 : request.pools4 ≡ probe.pools4
  pub pools6 : request.pools6 ≡ probe.pools6
  pub ipv4 : request.ipv4 ≡ probe.ipv4
  pub ipv6 : request.ipv6 ≡ probe.ipv6

-- the probe is answered that an address can be given
abbrev pub IsReady : Base → ProbeRequest → Type 0
IsReady base probe = plain_of (alone_over base (Probe probe)).0 ≡ Some CanGive

-- an address was given, or there was too little room, the count was at its limit, or no revision was left
pub data IsGivenOrWants : Answer → Type 0 where
  IsGiven : (given : List Given) → IsGivenOrWants (answer.Added given)
  WantsRoom : IsGivenOrWants answer.Full
  WantsCount : (moment : ℕ) → IsGivenOrWants (answer.CountFull moment)
  WantsRevisions : IsGivenOrWants answer.Spent

-- Of one family: over a consistent base an ADD alone gives an address, or wants something else, where
-- the probe alone is ready; and it gives none where the probe is not.
abbrev pub ProbeTellsLaw : Type 0
ProbeTellsLaw =
    (base : Base) (probe : ProbeRequest) (request : AddRequest) (family : Family)
    → IsConsistent base.store → IsSoundRequest (Add request) → AsksSame probe request
    → families_if request.ipv4 request.ipv6 ≡ family ∷ []
    → (IsReady base probe → IsGivenOrWants (alone_over base (Add request)).0)
    × (¬ (IsReady base probe) → (given : List Given) → (alone_over base (Add request)).0 ≢ answer.Added given)
