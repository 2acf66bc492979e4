-- What is left of the rounds of a family at each of their steps.
use Rattle.std.specs.Prelude.{ℕ, Option, Some, None, option_map}
use Rattle.ipam_addr.specs.declared.address.Family.{Family}
use Rattle.ipam_records.specs.Word.{bound}
use Rattle.ipam_parts.specs.Claim.{claim_rest, claim_leaves}
use Rattle.ipam_parts.specs.declared.claim.ClaimProc.{ClaimProc}
use Rattle.ipam_parts.specs.declared.claim.ClaimTurned.{ClaimTurned}
use Rattle.ipam_model.specs.declared.answer.Scan.{Scan}
use Rattle.ipam_model.specs.declared.outcome.Served.{Served}
use Rattle.ipam_model.specs.declared.outcome.Served.TheVariants as served
use Rattle.ipam_model.specs.declared.part.Assigned.{Assigned}
use Rattle.ipam_model.specs.declared.part.Left.{Left}
use Rattle.ipam_model.specs.declared.part.Outcome.{Outcome}
use Rattle.ipam_model.specs.declared.request.AddRequest.{AddRequest}
use Rattle.ipam_model.specs.Add.{asked_of, follow_pick, round_of}
use Rattle.ipam_model.specs.Add as model
use Rattle.ipam_model.specs.Assigning.{after_claim}
use Rattle.ipam_model.specs.Step.{Part, goes as went, part_then, onward}
use Rattle.ipam_assign.specs.Assigning.{assigning_rest, assigning_leaves}
use Rattle.ipam_assign.specs.PlaceShape.{PlaceValue}
use Rattle.ipam_assign.specs.Rounds.{next_of}
use Rattle.ipam_assign.specs.Scanning.{Chose, learn, scanning_at}
use Rattle.ipam_assign.specs.declared.assigning.Assigning.{Assigning}
use Rattle.ipam_assign.specs.declared.assigning.AssigningTurned.{AssigningTurned}
use Rattle.ipam_assign.specs.declared.scanning.Learned.{Learned}
use Rattle.ipam_assign.specs.declared.scanning.Stage.{Stage as ScanStage}
use Rattle.ipam_assign.specs.declared.scanning.Stage.TheVariants.{ReadsConfig}
use Rattle.ipam_assign.specs.Grant.{gift_at, outcome_as}
use Rattle.ipam_assign.specs.declared.grant.Obtained.{Obtained}
use Rattle.ipam_assign.specs.declared.grant.Spot.{Spot}
use Rattle.ipam_assign.specs.declared.serving.Goes.{Goes}
use Rattle.ipam_assign.specs.declared.serving.Goes.TheVariants as goes
use Rattle.ipam_assign.specs.declared.serving.Serving.{Serving}
use Rattle.ipam_assign.specs.declared.serving.ServingTurned.{ServingTurned}
use Rattle.ipam_assign.specs.declared.serving.Step.{Step}
use Rattle.ipam_assign.specs.declared.serving.Step.TheVariants.{Scans, Claims, Assigns}

-- what the rounds go on with: the request, the family, and how many rounds may follow
pub record Going : Type 0 where
  pub request : AddRequest
  pub family : Family
  pub more : ℕ

abbrev pub going : AddRequest → Serving → Going
going request s = record { request = request; family = s.family; more = s.rounds.more }

-- the round that follows
abbrev pub next_for : Going → Left → Part Served
next_for g = next_of (round_of g.request g.family) g.more

abbrev pub then_next : Going → Left → Unit {0} → Part Served
then_next g now done = next_for g now

abbrev pub round_at : Going → Scan → model.Round
round_at g scan = record { request = g.request; scan = scan; next = next_for g }

-- what follows the five reads
abbrev pub after_scan : Going → Left → Chose → Part Served
after_scan g left found = follow_pick (round_at g found.0) left found.1

-- what follows the write of the block
abbrev pub after_assigned : Going → Scan → PlaceValue → Left → Option Assigned → Part Served
after_assigned g scan place left (Some done) = went left (served.Gave (gift_at scan place done))
after_assigned g scan place left None = next_for g left

abbrev pub scans_part : Going → Left → ScanStage → Part Served
scans_part g left stage = bound (scanning_at (asked_of g.request g.family) stage) (after_scan g left)

abbrev pub claims_part : Going → Left → ClaimProc → Part Served
claims_part g left claim = part_then (bound (claim_rest claim) (after_claim left)) (then_next g)

abbrev pub assigns_part : Going → Spot → Assigning → Part Served
assigns_part g spot assigning =
    part_then (assigning_rest g.request.attributes.handle assigning) (after_assigned g spot.scan spot.place)

abbrev pub serving_at : Going → Left → Step → Part Served
serving_at g left (Scans scanning) = scans_part g left scanning.stage
serving_at g left (Claims claim) = claims_part g left claim
serving_at g left (Assigns spot assigning) = assigns_part g spot assigning

abbrev pub serving_rest : AddRequest → Serving → Part Served
serving_rest request s = serving_at (going request s) s.left s.step

-- before the first read of a round
abbrev pub anew : Step
anew = Scans (record { stage = ReadsConfig })

-- what is left once the reads go on with what was learned; no other step has any
abbrev pub scans_leaves : Going → Left → Step → Learned → Part Served
scans_leaves g left (Scans scanning) learned = scans_part g left (learn scanning.stage learned)
scans_leaves g left step learned = serving_at g left step

-- what is left once the claim goes where a reply led it; no other step has one
abbrev pub claims_leaves : Going → Left → Step → ClaimTurned → Part Served
claims_leaves g left (Claims claim) turned =
    part_then (bound (claim_leaves claim turned) (after_claim left)) (then_next g)
claims_leaves g left step turned = serving_at g left step

-- what is left once the assignment goes where a reply led it; no other step has one
abbrev pub assigns_leaves : Going → Left → Step → AssigningTurned → Part Served
assigns_leaves g left (Assigns spot assigning) turned =
    part_then (assigning_leaves g.request.attributes.handle assigning turned) (after_assigned g spot.scan spot.place)
assigns_leaves g left step turned = serving_at g left step

-- what is left once it goes there
abbrev pub serving_goes : AddRequest → Serving → Goes → Part Served
serving_goes request s (goes.To step) = serving_at (going request s) s.left step
serving_goes request s (goes.Learned learned) = scans_leaves (going request s) s.left s.step learned
serving_goes request s (goes.Claim turned) = claims_leaves (going request s) s.left s.step turned
serving_goes request s (goes.Assign turned spare) = assigns_leaves (going request s) s.left s.step turned
serving_goes request s (goes.Refuses answer) = went s.left (served.Refused answer)

abbrev pub serving_leaves : AddRequest → Serving → ServingTurned → Part Served
serving_leaves request s turned = serving_goes request s turned.goes

-- what follows what an assignment came to
abbrev pub assign_ended : Going → Spot → Outcome (Option Assigned) → Part Served
assign_ended g spot outcome = onward (after_assigned g spot.scan spot.place) outcome

-- what the rounds came to, where they have
abbrev pub outcome_in : Option (Outcome Obtained) → Option (Outcome Served)
outcome_in = option_map outcome_as
