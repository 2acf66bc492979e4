use Rattle.std.proofs.Common.{◌≡◌, sym, subst, ℕ, List}
use Rattle.ipam_records.specs.Hearing.{MayHear}
use Rattle.ipam_records.specs.Said.{said}
use Rattle.ipam_records.specs.Word.{after_reply}
use Rattle.ipam_parts.specs.Freeing.{freeing_leaves, freeing_rest}
use Rattle.ipam_assign.specs.declared.add.Stage.{Stage}
use Rattle.ipam_assign.specs.Adding.{add_at, add_part, refuses_leaves, serves_leaves}
use Rattle.ipam_assign.proofs.AddLemmas.{hears_freeing, hears_serving, may_hear_serving}
use Rattle.ipam_assign.proofs.add.AddProcProcedure.took.Goals as goal

pub took-requires : goal.took-requires
took-requires c =
    may_hear_serving c.args.self.now.request c.args.self.now.turn c.in-Serves.serving (said c.args.hearing.now.reply)
    (subst (λ (stage : Stage). MayHear (add_at (add_part c.args.self.now.request c.args.self.now.turn stage)) (said c.args.hearing.now.reply))
    c.in-Serves.is c.requires)

pub returns-in_ok-took-in-Serves-clause-leaves : goal.returns-in_ok-took-in-Serves-clause-leaves
returns-in_ok-took-in-Serves-clause-leaves c =
    subst (λ (stage : Stage). add_at (serves_leaves c.args.self.now.request c.args.self.now.turn stage c.in_ok-took-in-Serves.field-0)
    ≡ after_reply (add_at (add_part c.args.self.now.request c.args.self.now.turn stage)) c.args.hearing.now.moment (said c.args.hearing.now.reply))
    (sym c.in-Serves.is)
    (hears_serving c.args.self.now.request c.args.self.now.turn c.in-Serves.serving c.in_ok-took-in-Serves.field-0
    c.args.hearing.now.moment (said c.args.hearing.now.reply) c.in_ok-took-in-Serves.ensures)

pub returns-in_ok-took-in-Refuses-clause-leaves : goal.returns-in_ok-took-in-Refuses-clause-leaves
returns-in_ok-took-in-Refuses-clause-leaves c =
    subst (λ (stage : Stage). add_at (refuses_leaves c.args.self.now.request c.args.self.now.turn stage c.in_ok-took-in-Refuses.field-0)
    ≡ after_reply (add_at (add_part c.args.self.now.request c.args.self.now.turn stage)) c.args.hearing.now.moment (said c.args.hearing.now.reply))
    (sym c.in-Refuses.is)
    (hears_freeing c.args.self.now.request c.args.self.now.turn c.in-Refuses.freeing c.in-Refuses.field-1 c.in_ok-took-in-Refuses.field-0
    c.args.hearing.now.moment (said c.args.hearing.now.reply)
    (subst (λ (id : List ℕ). freeing_leaves id c.in-Refuses.freeing c.in_ok-took-in-Refuses.field-0
    ≡ after_reply (freeing_rest id c.in-Refuses.freeing) c.args.hearing.now.moment (said c.args.hearing.now.reply))
    c.as_str-id.ensures c.in_ok-took-in-Refuses.ensures))
