-- Every byte that was read is kept.
use Rattle.std.proofs.Common.{◌≡◌, ◌+◌, ◌-◌, ◌≤◌, vec_len}
use Rattle.std.specs.Io.KnownBytes.{prepend_known}
use Rattle.ipam_io.proofs.input.read_whole.Given as goal

abbrev pub invariant-loop-input : goal.invariant-loop-input
invariant-loop-input g l = record {
  bytes : g.S.Source.left l.fn.source ≡ prepend_known l.input.items (g.S.Source.left l.source);
  bound : vec_len l.input ≤ l.most + 1;
  faults : g.S.Source.read_faults l.source ≡ g.S.Source.read_faults l.fn.source;
  rest : g.S.Source.read_rest l.source ≡ g.S.Source.read_rest l.fn.source;
}

abbrev pub decreases-loop-input : goal.decreases-loop-input
decreases-loop-input g l = (l.most + 1) - vec_len l.input
