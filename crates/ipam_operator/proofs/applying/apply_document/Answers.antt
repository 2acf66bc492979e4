use Rattle.std.proofs.Common.{[]}
use Rattle.ipam_operator.specs.Applying.{Bad}
use Rattle.ipam_operator.proofs.Wires.{good-anew, wire-anew}
use Rattle.ipam_operator.proofs.applying.apply_document.Goals as goal

pub returns-in-Ok-clause-ended : goal.returns-in-Ok-clause-ended
returns-in-Ok-clause-ended g c = (
  c.apply_all.new.lines,
  good-anew c.args.document.now c.in-Ok.resources c.in-Ok.ensures.read c.new-lines.result c.new-lines.ensures _ _ _ _ _ _ _ _
      (rw c.into_vec.ensures at c.apply_all.ensures.ended),
)

pub returns-in-Err : goal.returns-in-Err
returns-in-Err g c = record {
  ended = ([], Bad c.in-Err.fault c.in-Err.ensures.refused c.in-Err.ensures.memory (wire-anew _ _ _ _) c.tell_document.ensures.told);
  rest = c.tell_document.ensures.rest;
}
