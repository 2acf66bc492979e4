use Rattle.turn_lock.specs.Passes.{held_or}
use Rattle.turn_lock.proofs.desk.take_turn.Given as goal

abbrev pub ghosts-count : goal.ghosts-count
ghosts-count g a = record { added = g.S.Step.adds a._step.now.value a._before.now.value a._out.now (held_or a._before.now.value a.seat.now.me.1) }
