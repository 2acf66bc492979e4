-- Whatever comes of the kinds that are still asked for, comes of all of them.
use Rattle.std.proofs.Common.{List, [], Result, drop}
use Rattle.std.specs.Io.KnownBytes.{prepend_known}
use Rattle.ipam_operator.specs.declared.asking.AskFault.{AskFault}
use Rattle.ipam_operator.specs.Asking.{Wire}
use Rattle.ipam_records.specs.declared.call.Row.{Row}
use Rattle.ipam_operator.specs.Rows.{AsksRows}
use Rattle.ipam_operator.proofs.paging.ask_kinds.Given as goal

abbrev pub invariant-loop-kind : goal.invariant-loop-kind
invariant-loop-kind g l =
    (came : Result (List Row) AskFault) (last : Wire) → AsksRows (drop l.kind-index l.kinds) l.rows.items came (record {
      sent = g.L.Sink.written l.link;
      send_faults = g.L.Sink.write_faults l.link;
      coming = prepend_known l.lines (g.L.Source.left l.link);
      read_faults = g.L.Source.read_faults l.link;
    }) last
    → AsksRows l.kinds [] came (record {
      sent = g.L.Sink.written l.initial.link;
      send_faults = g.L.Sink.write_faults l.initial.link;
      coming = prepend_known l.initial.lines (g.L.Source.left l.initial.link);
      read_faults = g.L.Source.read_faults l.initial.link;
    }) last
