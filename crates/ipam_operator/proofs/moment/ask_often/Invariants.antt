-- Whatever comes of the times that are left, comes of all of them.
use Rattle.std.proofs.Common.{List, Option, Result}
use Rattle.std.specs.Io.KnownBytes.{prepend_known}
use Rattle.ipam_operator.specs.declared.asking.AskFault.{AskFault}
use Rattle.ipam_operator.specs.Asking.{Wire}
use Rattle.ipam_records.specs.declared.call.Row.{Row}
use Rattle.ipam_operator.specs.Moment.{AsksTries, tries_at_most}
use Rattle.ipam_operator.proofs.moment.ask_often.Given as goal

abbrev pub invariant-tries : goal.invariant-tries
invariant-tries g l =
    (came : Result (Option (List Row)) AskFault) (last : Wire) → AsksTries l.left came (record {
      sent = g.L.Sink.written l.link;
      send_faults = g.L.Sink.write_faults l.link;
      coming = prepend_known l.lines (g.L.Source.left l.link);
      read_faults = g.L.Source.read_faults l.link;
    }) last
    → AsksTries tries_at_most came (record {
      sent = g.L.Sink.written l.initial.link;
      send_faults = g.L.Sink.write_faults l.initial.link;
      coming = prepend_known l.initial.lines (g.L.Source.left l.initial.link);
      read_faults = g.L.Source.read_faults l.initial.link;
    }) last

-- each time is one of those that are left
abbrev pub decreases-tries : goal.decreases-tries
decreases-tries g l = l.left
