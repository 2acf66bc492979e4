use Rattle.std.proofs.Common.{arith, sym, subst}
use Rattle.std.proofs.lemmas.Result.{IfOk-weaker}
use Rattle.ipam_records.specs.Sound.{IsHandleId}
use Rattle.ipam_model.specs.SoundRequest.{IsSoundRequest}
use Rattle.ipam_command.proofs.NameLemmas.{sound-add, sound_handle}
use Rattle.ipam_command.proofs.gen_requests.request_of.Goals as goal

pub returns-then-number-eq3-clause-sound : goal.returns-then-number-eq3-clause-sound
returns-then-number-eq3-clause-sound c =
    subst IsHandleId (sym c.in_ok-handle_of.ensures) (sound_handle c.draw-handle.result (omega arith))

pub returns-clause-sound : goal.returns-clause-sound
returns-clause-sound c =
    let sound = sound-add c.args.number c.draw-node.result (omega arith) (omega arith) in
    IfOk-weaker c.add_of.result _ IsSoundRequest (λ made is. subst IsSoundRequest (sym is) sound) c.add_of.ensures
