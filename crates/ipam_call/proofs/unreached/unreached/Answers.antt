use Rattle.std.proofs.Common.{◌≡◌, ◌≤◌, length}
use Rattle.std.specs.Io.KnownBytes.{prepend_known, IsAtEnd}
use Rattle.ipam_call.proofs.Nobody.{read_unreached}
use Rattle.ipam_call.proofs.unreached.unreached.Goals as goal

pub returns-in-Ok-clause-end : goal.returns-in-Ok-clause-end
returns-in-Ok-clause-end g c =
    let input = c.as_slice.result.now in
    let old = g.S.Source.left c.args.source.now in
    let new = g.S.Source.left c.read_input.new.source in
    let same : old ≡ prepend_known input new = rw c.as_slice.ensures.value c.in-Ok.ensures.bytes in
    let whole : length input ≤ 1048576 → IsAtEnd new = rw c.as_slice.ensures.value c.in-Ok.ensures.whole in
    rw c.unreached_end.ensures (read_unreached old new _ _ input c.version_for.result same whole c.in-Ok.ensures.no_fault c.version_for.ensures)
