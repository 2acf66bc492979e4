use Rattle.std.proofs.Common.{◌≡◌, Some, sym, ap, ◌∙◌, subst, arith}
use Rattle.std.specs.Prelude.{Result, IfOk}
use Rattle.std.specs.declared.alloc.AllocError.{AllocError}
use Rattle.std.proofs.lemmas.Grind.{common_steps}
use Rattle.ipam_records.specs.Hearing.{MayHear}
use Rattle.ipam_records.specs.Datastore.{write_granted}
use Rattle.ipam_records.specs.Said.{Said, said}
use Rattle.ipam_cluster.specs.declared.running.RunningTurned.{RunningTurned}
use Rattle.ipam_cluster.specs.Running.{running_rest}
use Rattle.ipam_cluster.specs.Cluster.{slot_of_cluster}
use Rattle.ipam_cluster.specs.declared.turns.Prepared.{Prepared}
use Rattle.ipam_cluster.specs.Preparing.{IsPrepared, Leads, TellsOf}
use Rattle.ipam_cluster.proofs.Asking.{if_ok, is_prepared, may_be_told, running_asks}
use Rattle.ipam_cluster.proofs.cluster.Cluster.answered.Goals as goal

pub call-requires : goal.call-requires
call-requires c =
    let held : slot_of_cluster c.args.self.now c.args.slot ≡ Some c.in-Some.running = grind (arith, common_steps) in
    running_asks (slot_of_cluster c.args.self.now c.args.slot) c.in-Some.running held c.requires.runs

pub took-requires : goal.took-requires
took-requires c =
    let held : slot_of_cluster c.args.self.now c.args.slot ≡ Some c.in-Some.running = grind (arith, common_steps) in
    subst (λ (s : Said). MayHear (running_rest c.in-Some.running) s) (sym c.reply-reply.ensures.reply)
    (may_be_told c.args.self.now c.args.slot c.in-Some.running c.in_ok-call.call c.requires.stood held c.in_ok-call.ensures)

pub returns-clause-prepared : goal.returns-clause-prepared
returns-clause-prepared c =
    let held : slot_of_cluster c.args.self.now c.args.slot ≡ Some c.in-Some.running = grind (arith, common_steps) in
    let call = c.in_ok-call.call in
    let said_is = c.reply-reply.ensures.reply in
    if_ok c.of.result (IsPrepared c.args.self.now) (λ prepared is.
    is_prepared c.args.self.now c.args.slot c.in-Some.running call (said c.reply-reply.result) prepared
    c.requires.stood c.requires.slot c.requires.few c.requires.spare held c.in_ok-call.ensures said_is
    (subst (λ (r : Result Prepared AllocError). IfOk r (λ p. p.slot ≡ c.args.slot)) is c.of.ensures.slot)
    (subst (λ (r : Result Prepared AllocError). IfOk r (λ p. p.write ≡ write_granted call (said c.reply-reply.result))) is c.of.ensures.write)
    (subst (λ (r : Result Prepared AllocError). IfOk r (λ p. TellsOf p call (said c.reply-reply.result))) is c.of.ensures.tells)
    (let turned : prepared.turned ≡ c.in_ok-turned.turned =
    subst (λ (r : Result Prepared AllocError). IfOk r (λ p. p.turned ≡ c.in_ok-turned.turned)) is c.of.ensures.turned in
    subst (λ (t : RunningTurned). Leads c.in-Some.running t c.args.self.now.entries (said c.reply-reply.result)) (sym turned)
    (record { fits = c.in_ok-turned.ensures.fits; leaves = c.in_ok-turned.ensures.leaves })))
