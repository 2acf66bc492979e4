use Rattle.std.proofs.Common.{arith}
use Rattle.ipam_command.proofs.RunOutLemmas.{idle-more, no-slot, one-slot}
use Rattle.ipam_command.proofs.gen_running.run_all_out.Goals as goal

pub loop-slot-init : goal.loop-slot-init
loop-slot-init c = record { runs = no-slot c.args.counted.now; idle = λ other less. absurd (omega arith) }

pub loop-slot-preserved : goal.loop-slot-preserved
loop-slot-preserved c = record {
  runs = one-slot c.args.counted.now c.loop-slot.counted c.run_out.new.counted c.loop-slot.slot c.loop-slot.invariant.runs c.in_ok-run_out.ensures.runs_out;
  idle = idle-more c.loop-slot.counted c.run_out.new.counted c.loop-slot.slot c.loop-slot.invariant.idle c.in_ok-run_out.ensures.idle c.run_out.ensures.others;
}
