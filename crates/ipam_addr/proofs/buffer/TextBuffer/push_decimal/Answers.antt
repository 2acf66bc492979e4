use Rattle.std.proofs.Common.{arith}
use Rattle.ipam_addr.proofs.BufferLemmas.{decimal_one, decimal_two, decimal_three, written_two, written_three}
use Rattle.ipam_addr.proofs.buffer.TextBuffer.push_decimal.Goals as goal

pub returns-in_default-clause-text : goal.returns-in_default-clause-text
returns-in_default-clause-text c = rw (decimal_one c.args.n (omega arith)) c.push.ensures

pub returns-in-10-to-255-clause-text : goal.returns-in-10-to-255-clause-text
returns-in-10-to-255-clause-text c =
    rw (decimal_two c.args.n (omega arith) (omega arith))
    (written_two c.args.self.now _ _ _ _ c.push-in-10-to-255.ensures c.push-in-10-to-255-2.ensures)

pub returns-in-100-to-255-clause-text : goal.returns-in-100-to-255-clause-text
returns-in-100-to-255-clause-text c =
    rw (decimal_three c.args.n (omega arith) (omega arith))
    (written_three c.args.self.now _ _ _ _ _ _ c.push-in-100-to-255.ensures c.push-in-100-to-255-2.ensures c.push-in-100-to-255-3.ensures)
