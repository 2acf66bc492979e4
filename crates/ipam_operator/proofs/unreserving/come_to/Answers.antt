use Rattle.std.specs.Io.KnownBytes.{prepend_known}
use Rattle.ipam_model.specs.declared.request.Admin.TheVariants.{Unreserve}
use Rattle.ipam_model.specs.declared.request.Request.TheVariants.{Admin as Changes}
use Rattle.ipam_operator.specs.Answers.{answer_of_line}
use Rattle.ipam_operator.specs.Asking.{request_line}
use Rattle.ipam_operator.proofs.Wires.{asks-anew, wire}
use Rattle.ipam_operator.proofs.unreserving.come_to.Goals as goal

pub returns-in-Ok : goal.returns-in-Ok
returns-in-Ok g c =
    let old = c.args.link.now in
    let new = c.ask_request-came.new.link in
    let came = c.ask_request-came.result in
    let held = c.ask_request-came.new.lines in
    record {
      asked = (
        held,
        asks-anew answer_of_line (request_line (Changes (Unreserve c.args.name.now))) came c.new-lines.result c.new-lines.ensures
            (g.L.Sink.written old) (g.L.Sink.write_faults old) (g.L.Source.left old) (g.L.Source.read_faults old)
            (wire (g.L.Sink.written new) (g.L.Sink.write_faults new) (prepend_known held (g.L.Source.left new)) (g.L.Source.read_faults new))
            (rw c.in-Ok.ensures at c.ask_request-came.ensures.asked),
      );
    }
