-- Whatever comes of the pages that are still asked for, comes of all of them.
use Rattle.std.proofs.Common.{List, [], ◌-◌, Result, vec_len}
use Rattle.std.specs.Io.KnownBytes.{prepend_known}
use Rattle.ipam_operator.specs.declared.asking.AskFault.{AskFault}
use Rattle.ipam_operator.specs.Asking.{Wire}
use Rattle.ipam_records.specs.declared.call.Row.{Row}
use Rattle.ipam_records.specs.Datastore.{most_rows}
use Rattle.ipam_operator.specs.Rows.{AsksKind}
use Rattle.ipam_operator.proofs.paging.ask_kind.Given as goal

abbrev pub invariant-pages : goal.invariant-pages
invariant-pages g l =
    (came : Result (List Row) AskFault) (last : Wire) → AsksKind l.kind l.rows.items came (record {
      sent = g.L.Sink.written l.link;
      send_faults = g.L.Sink.write_faults l.link;
      coming = prepend_known l.lines (g.L.Source.left l.link);
      read_faults = g.L.Source.read_faults l.link;
    }) last
    → AsksKind l.kind [] came (record {
      sent = g.L.Sink.written l.initial.link;
      send_faults = g.L.Sink.write_faults l.initial.link;
      coming = prepend_known l.initial.lines (g.L.Source.left l.initial.link);
      read_faults = g.L.Source.read_faults l.initial.link;
    }) last

-- each page before others has a row, and there are no more rows than a datastore has
abbrev pub decreases-pages : goal.decreases-pages
decreases-pages g l = most_rows - vec_len l.rows
