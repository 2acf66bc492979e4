use Rattle.std.proofs.Common.{◌≡◌, ◌∙◌, sym, ap, subst, ℕ, List}
use Rattle.ipam_records.specs.Hearing.{MayHear}
use Rattle.ipam_records.specs.Said.{said}
use Rattle.ipam_records.specs.Word.{Ends, after_reply}
use Rattle.ipam_choice.specs.Picked.{pick_as}
use Rattle.ipam_choice.specs.Viewed.{asked_of as viewed}
use Rattle.ipam_assign.specs.Assigning.{assigning_leaves, assigning_rest}
use Rattle.ipam_assign.specs.Scanning.{scanned_as}
use Rattle.ipam_assign.specs.declared.serving.Step.{Step}
use Rattle.ipam_assign.specs.Serving.{assigns_leaves, claims_leaves, going, serving_at}
use Rattle.ipam_assign.proofs.ServingLemmas.{hears_assign, hears_claim, hears_scan, may_hear_claim}
use Rattle.ipam_assign.proofs.serving.Serving.took.Goals as goal

pub took-requires-in-Claims : goal.took-requires-in-Claims
took-requires-in-Claims c =
    may_hear_claim (going c.args.request.now c.args.self.now) c.args.self.now.left c.in-Claims.claim (said c.args.hearing.now.reply)
    (subst (λ (step : Step). MayHear (serving_at (going c.args.request.now c.args.self.now) c.args.self.now.left step) (said c.args.hearing.now.reply))
    c.in-Claims.is c.requires)

pub returns-in_ok-goes-in-Chosen : goal.returns-in_ok-goes-in-Chosen
returns-in_ok-goes-in-Chosen c =
    let g = going c.args.request.now c.args.self.now in
    let left = c.args.self.now.left in
    c.in_ok-goes-in-Chosen.ensures
    ∙ hears_scan g left c.in-Scans.scanning.stage (viewed c.wanted_of-wanted.result) (Ends (c.in-Chosen.scan, pick_as c.in-Chosen.picked))
    c.args.hearing.now.moment (said c.args.hearing.now.reply) c.wanted_of-wanted.ensures
    (ap (scanned_as (viewed c.wanted_of-wanted.result) c.in-Scans.scanning.stage) (sym c.in-Chosen.is) ∙ c.in_ok-learned-in-Scans.ensures.leads)
    ∙ ap (λ (step : Step). after_reply (serving_at g left step) c.args.hearing.now.moment (said c.args.hearing.now.reply)) (sym c.in-Scans.is)

pub returns-in_ok-took-in-Claims : goal.returns-in_ok-took-in-Claims
returns-in_ok-took-in-Claims c =
    let g = going c.args.request.now c.args.self.now in
    subst (λ (step : Step). claims_leaves g c.args.self.now.left step c.in_ok-took-in-Claims.field-0
    ≡ after_reply (serving_at g c.args.self.now.left step) c.args.hearing.now.moment (said c.args.hearing.now.reply))
    (sym c.in-Claims.is)
    (hears_claim g c.args.self.now.left c.in-Claims.claim c.in_ok-took-in-Claims.field-0
    c.args.hearing.now.moment (said c.args.hearing.now.reply) c.in_ok-took-in-Claims.ensures.leaves)

pub returns-in_ok-took-in-Assigns : goal.returns-in_ok-took-in-Assigns
returns-in_ok-took-in-Assigns c =
    let g = going c.args.request.now c.args.self.now in
    subst (λ (step : Step). assigns_leaves g c.args.self.now.left step c.in_ok-took-in-Assigns.field-0
    ≡ after_reply (serving_at g c.args.self.now.left step) c.args.hearing.now.moment (said c.args.hearing.now.reply))
    (sym c.in-Assigns.is)
    (hears_assign g c.args.self.now.left c.in-Assigns.field-0 c.in-Assigns.assigning c.in_ok-took-in-Assigns.field-0
    c.args.hearing.now.moment (said c.args.hearing.now.reply)
    (subst (λ (id : List ℕ). assigning_leaves id c.in-Assigns.assigning c.in_ok-took-in-Assigns.field-0
    ≡ after_reply (assigning_rest id c.in-Assigns.assigning) c.args.hearing.now.moment (said c.args.hearing.now.reply))
    c.as_str-id.ensures c.in_ok-took-in-Assigns.ensures))
