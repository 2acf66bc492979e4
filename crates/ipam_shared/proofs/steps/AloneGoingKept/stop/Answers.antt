use Rattle.ipam_shared.proofs.steps.AloneGoingKept.stop.Goals as goal

pub returns : goal.returns
returns g c = record {
  told = c.stop-stopped.result;
  idle = c.stop-stopped.ensures.idle.0;
  is_stop = c.stop-stopped.ensures.entry;
  keeps = c.stop-stopped.ensures.keeps;
  idle_after = c.stop-stopped.ensures.idle_after;
  others = c.stop-stopped.ensures.others;
  keeper = c.stop-stopped.ensures.keeper;
}
