use Rattle.std.proofs.Common.{refl, sym, ◌∙◌}
use Rattle.ipam_addr.proofs.CidrTextLemmas.{digit_step, digits_read}
use Rattle.ipam_addr.proofs.text.read_digits.Goals as goal

pub loop-byte-preserved : goal.loop-byte-preserved
loop-byte-preserved c =
    let is_digit = sym c.is_ascii_digit.ensures.value ∙ c.if-not-is_ascii_digit.false in
    rw c.from.ensures (digit_step c.args.digits.now c.loop-byte.byte-index c.loop-byte.value _ c.loop-byte-test.true refl is_digit c.loop-byte.invariant.0 c.loop-byte.invariant.1)

pub returns : goal.returns
returns c =
    sym (digits_read c.args.digits.now c.loop-byte.byte-index c.loop-byte.value c.loop-byte-test.false c.loop-byte.invariant.0 c.loop-byte.invariant.1)
