-- Each that was given so far was asked for and is told.
use Rattle.std.proofs.Common.{◌≡◌}
use Rattle.std.specs.Io.KnownBytes.{prepend_known}
use Rattle.ipam_operator.specs.Applying.{AreApplied}
use Rattle.ipam_operator.proofs.applying.apply_all.Given as goal

abbrev pub invariant-loop-resource : goal.invariant-loop-resource
invariant-loop-resource g l = record {
  applied : AreApplied l.yielded (record {
    wire = record {
      sent = g.L.Sink.written l.initial.link;
      send_faults = g.L.Sink.write_faults l.initial.link;
      coming = prepend_known l.initial.lines (g.L.Source.left l.initial.link);
      read_faults = g.L.Source.read_faults l.initial.link;
    };
    written = g.K.Sink.written l.initial.sink;
    write_faults = g.K.Sink.write_faults l.initial.sink;
  }) (record {
    wire = record {
      sent = g.L.Sink.written l.link;
      send_faults = g.L.Sink.write_faults l.link;
      coming = prepend_known l.lines (g.L.Source.left l.link);
      read_faults = g.L.Source.read_faults l.link;
    };
    written = g.K.Sink.written l.sink;
    write_faults = g.K.Sink.write_faults l.sink;
  });
  rest : g.K.Sink.write_rest l.sink ≡ g.K.Sink.write_rest l.initial.sink;
}
