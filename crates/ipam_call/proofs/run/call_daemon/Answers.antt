use Rattle.std.proofs.Common.{◌≡◌, ◌≤◌, length}
use Rattle.std.specs.Io.KnownBytes.{prepend_known, IsAtEnd}
use Rattle.cni_types.specs.declared.version.Version.{Version}
use Rattle.ipam_call.specs.Calls.{IsToldVersion, outcome}
use Rattle.ipam_call.proofs.Wholes.{sent_whole, told_whole, read_to_end, source_kept, status_told}
use Rattle.ipam_call.proofs.run.call_daemon.Goals as goal

pub returns-in-Ok-clause-went : goal.returns-in-Ok-clause-went
returns-in-Ok-clause-went g c =
    let end = c.call_with.result in
    let input = c.as_slice.result.now in
    let old = g.S.Source.left c.args.source.now in
    let new = g.S.Source.left c.read_input.new.source in
    let same : old ≡ prepend_known input new = rw c.as_slice.ensures.value c.in-Ok.ensures.bytes in
    let whole : length input ≤ 1048576 → IsAtEnd new = rw c.as_slice.ensures.value c.in-Ok.ensures.whole in
    record {
      sent = sent_whole c.args.env.now (outcome end) _ _ old new input same whole c.call_with.ensures.sent;
      received = c.call_with.ensures.received;
      status = status_told (outcome end) c.call_with.ensures.causes;
      version = told_whole (λ (v : Version). IsToldVersion (c.call_with.new.link ≡ c.args.link.now) end v) old new input same whole c.call_with.ensures.version;
      read = read_to_end c.args.env.now (outcome end) _ _ new input c.call_with.ensures.sent whole;
      source_faults = source_kept (outcome end) _ _ c.call_with.ensures.causes c.in-Ok.ensures.no_fault;
      link_faults = c.call_with.ensures.faults;
    }
