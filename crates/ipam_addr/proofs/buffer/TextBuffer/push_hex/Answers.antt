use Rattle.std.proofs.Common.{arith}
use Rattle.ipam_addr.proofs.BufferLemmas.{hex_one, hex_two, hex_three, hex_four, written_two, written_three, written_four}
use Rattle.ipam_addr.proofs.buffer.TextBuffer.push_hex.Goals as goal

pub returns-in_default-clause-text : goal.returns-in_default-clause-text
returns-in_default-clause-text c =
    rw (hex_one c.args.segment (omega arith), ← c.hex_digit.ensures.text) c.push.ensures

pub returns-in-16-to-65535-clause-text : goal.returns-in-16-to-65535-clause-text
returns-in-16-to-65535-clause-text c =
    rw (hex_two c.args.segment (omega arith) (omega arith), ← c.hex_digit-in-16-to-65535.ensures.text, ← c.hex_digit-in-16-to-65535-2.ensures.text)
    (written_two c.args.self.now _ _ _ _ c.push-in-16-to-65535.ensures c.push-in-16-to-65535-2.ensures)

pub returns-in-256-to-65535-clause-text : goal.returns-in-256-to-65535-clause-text
returns-in-256-to-65535-clause-text c =
    rw (hex_three c.args.segment (omega arith) (omega arith), ← c.hex_digit-in-256-to-65535.ensures.text, ← c.hex_digit-in-256-to-65535-2.ensures.text, ← c.hex_digit-in-256-to-65535-3.ensures.text)
    (written_three c.args.self.now _ _ _ _ _ _ c.push-in-256-to-65535.ensures c.push-in-256-to-65535-2.ensures c.push-in-256-to-65535-3.ensures)

pub returns-in-4096-to-65535-clause-text : goal.returns-in-4096-to-65535-clause-text
returns-in-4096-to-65535-clause-text c =
    rw (hex_four c.args.segment (omega arith), ← c.hex_digit-in-4096-to-65535.ensures.text, ← c.hex_digit-in-4096-to-65535-2.ensures.text, ← c.hex_digit-in-4096-to-65535-3.ensures.text, ← c.hex_digit-in-4096-to-65535-4.ensures.text)
    (written_four c.args.self.now _ _ _ _ _ _ _ _ c.push-in-4096-to-65535.ensures c.push-in-4096-to-65535-2.ensures c.push-in-4096-to-65535-3.ensures c.push-in-4096-to-65535-4.ensures)
