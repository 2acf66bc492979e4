use Rattle.std.proofs.Common.{◌⊎◌, Err, ap, inl, inr, sym, ◌∙◌}
use Rattle.ipam_command.proofs.Begun.{asked_no_grace, asked_of_call}
use Rattle.ipam_command.proofs.Openings.{at_once_ends, begun_ends, begun_version, refusal_ends, refusal_version}
use Rattle.ipam_command.proofs.Told.{on_want}
use Rattle.ipam_command.proofs.cni_calling.call_in.Goals as goal

pub returns-in-Err-Refused : goal.returns-in-Err-Refused
returns-in-Err-Refused g c =
    let is = c.look.ensures.refused c.in-Err-Refused.error (c.in-Err-Refused.is ∙ ap Err c.in-Err-Refused.field-0-is) in
    record {
      version = refusal_version c.args.env.now c.args.input.now c.in-Err-Refused.error c.refusal_end.result is c.refusal_end.ensures.ends;
      ends = refusal_ends c.args.env.now c.args.input.now c.in-Err-Refused.error c.refusal_end.result _ _ is c.refusal_end.ensures.ends;
      want_of_memory_has_its_cause = on_want (g.T.MakesTexts.wants c.args.alloc)
          (g.T.ReadsCalls.wants c.args.alloc ⊎ g.T.OpensKept.wants c.args.alloc ⊎ g.T.MakesSteps.wants c.args.alloc ⊎ g.T.MakesTexts.wants c.args.alloc) c.refusal_end.result
          (λ w. inr (inr (inr w))) c.refusal_end.ensures.want_of_memory_has_its_cause;
    }

pub request_end-requires-clause-no_grace : goal.request_end-requires-clause-no_grace
request_end-requires-clause-no_grace g c =
    rw c.in-Ok-Begin.field-0-is
    (asked_no_grace c.in-Ok.look c.in-Ok-Begin.request c.in-Ok-Begin.version (sym c.in-Ok-Begin.field-0-is ∙ c.in-Ok-Begin.ensures.begun))

pub request_end-requires-clause-of_call : goal.request_end-requires-clause-of_call
request_end-requires-clause-of_call g c =
    rw c.in-Ok-Begin.field-0-is
    (asked_of_call c.in-Ok.look c.in-Ok-Begin.request c.in-Ok-Begin.version (sym c.in-Ok-Begin.field-0-is ∙ c.in-Ok-Begin.ensures.begun))

pub returns-in-Ok-Tell-clause-ends : goal.returns-in-Ok-Tell-clause-ends
returns-in-Ok-Tell-clause-ends g c =
    rw c.in-Ok-Tell.field-0-is
    (at_once_ends c.args.env.now c.args.input.now c.in-Ok.look c.in-Ok-Tell.text _ _ c.in-Ok.ensures.asked
    (sym c.in-Ok-Tell.field-0-is ∙ c.in-Ok-Tell.ensures.begun))

pub returns-in-Ok-Begin : goal.returns-in-Ok-Begin
returns-in-Ok-Begin g c =
    let ends = rw c.in-Ok-Begin.field-0-is at c.request_end.ensures.ends in
    let begins = sym c.in-Ok-Begin.field-0-is ∙ c.in-Ok-Begin.ensures.begun in
    record {
      version = begun_version c.args.env.now c.args.input.now c.in-Ok.look c.in-Ok-Begin.request c.in-Ok-Begin.version c.request_end.result
          (g.D.Keeper.rows c.args.keeper.now) (g.D.Keeper.rows c.request_end.new.keeper)
          (g.D.Keeper.faults c.args.keeper.now) (g.D.Keeper.faults c.request_end.new.keeper) c.in-Ok.ensures.asked begins ends;
      ends = begun_ends c.args.env.now c.args.input.now c.in-Ok.look c.in-Ok-Begin.request c.in-Ok-Begin.version c.request_end.result
          (g.D.Keeper.rows c.args.keeper.now) (g.D.Keeper.rows c.request_end.new.keeper)
          (g.D.Keeper.faults c.args.keeper.now) (g.D.Keeper.faults c.request_end.new.keeper) c.in-Ok.ensures.asked begins ends;
      want_of_memory_has_its_cause = on_want (g.T.OpensKept.wants c.args.alloc ⊎ g.T.MakesSteps.wants c.args.alloc ⊎ g.T.MakesTexts.wants c.args.alloc)
          (g.T.ReadsCalls.wants c.args.alloc ⊎ g.T.OpensKept.wants c.args.alloc ⊎ g.T.MakesSteps.wants c.args.alloc ⊎ g.T.MakesTexts.wants c.args.alloc) c.request_end.result
          (λ w. inr w) c.request_end.ensures.want_of_memory_has_its_cause;
    }

pub returns-in-Err-Memory-clause-want_of_memory_has_its_cause : goal.returns-in-Err-Memory-clause-want_of_memory_has_its_cause
returns-in-Err-Memory-clause-want_of_memory_has_its_cause g c = inl (c.look.ensures.wants (c.in-Err-Memory.is ∙ ap Err c.in-Err-Memory.field-0-is))

pub returns-in-Err-clause-want_of_memory_has_its_cause : goal.returns-in-Err-clause-want_of_memory_has_its_cause
returns-in-Err-clause-want_of_memory_has_its_cause g c = inl c.in-Err.ensures.wants
