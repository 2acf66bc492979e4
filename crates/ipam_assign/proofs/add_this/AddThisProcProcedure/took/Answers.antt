use Rattle.std.proofs.Common.{◌≡◌, sym, subst, ℕ, List}
use Rattle.ipam_records.specs.Hearing.{MayHear}
use Rattle.ipam_records.specs.Said.{said}
use Rattle.ipam_records.specs.Word.{after_reply}
use Rattle.ipam_assign.specs.declared.add_this.Stage.{Stage}
use Rattle.ipam_assign.specs.AddThis.{this_going, this_at, this_part, claims_leaves, assigns_leaves}
use Rattle.ipam_assign.specs.Assigning.{assigning_leaves, assigning_rest}
use Rattle.ipam_assign.proofs.AddThisLemmas.{may_hear_claim, claim_took, assign_took}
use Rattle.ipam_assign.proofs.add_this.AddThisProcProcedure.took.Goals as goal

pub took-requires : goal.took-requires
took-requires c =
    may_hear_claim (this_going c.args.self.now) c.args.self.now.left c.in-Claims.claim (said c.args.hearing.now.reply)
    (subst (λ (stage : Stage). MayHear (this_at (this_part (this_going c.args.self.now) c.args.self.now.left stage)) (said c.args.hearing.now.reply))
    c.in-Claims.is c.requires)

pub returns-in_ok-took-in-Claims-clause-leaves : goal.returns-in_ok-took-in-Claims-clause-leaves
returns-in_ok-took-in-Claims-clause-leaves c =
    subst (λ (stage : Stage). this_at (claims_leaves (this_going c.args.self.now) c.args.self.now.left stage c.in_ok-took-in-Claims.field-0)
    ≡ after_reply (this_at (this_part (this_going c.args.self.now) c.args.self.now.left stage)) c.args.hearing.now.moment (said c.args.hearing.now.reply))
    (sym c.in-Claims.is)
    (claim_took (this_going c.args.self.now) c.args.self.now.left c.in-Claims.claim c.in_ok-took-in-Claims.field-0
    c.args.hearing.now.moment (said c.args.hearing.now.reply) c.in_ok-took-in-Claims.ensures.leaves)

pub returns-in_ok-took-in-Assigns-clause-leaves : goal.returns-in_ok-took-in-Assigns-clause-leaves
returns-in_ok-took-in-Assigns-clause-leaves c =
    subst (λ (stage : Stage). this_at (assigns_leaves (this_going c.args.self.now) c.args.self.now.left stage c.in_ok-took-in-Assigns.field-0)
    ≡ after_reply (this_at (this_part (this_going c.args.self.now) c.args.self.now.left stage)) c.args.hearing.now.moment (said c.args.hearing.now.reply))
    (sym c.in-Assigns.is)
    (assign_took (this_going c.args.self.now) c.args.self.now.left c.in-Assigns.field-0 c.in-Assigns.assigning c.in_ok-took-in-Assigns.field-0
    c.args.hearing.now.moment (said c.args.hearing.now.reply)
    (subst (λ (id : List ℕ). assigning_leaves id c.in-Assigns.assigning c.in_ok-took-in-Assigns.field-0
    ≡ after_reply (assigning_rest id c.in-Assigns.assigning) c.args.hearing.now.moment (said c.args.hearing.now.reply))
    c.as_str-id.ensures c.in_ok-took-in-Assigns.ensures))
