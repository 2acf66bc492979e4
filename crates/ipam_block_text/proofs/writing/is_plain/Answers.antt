use Rattle.std.proofs.Common.{◌+◌, get_or, take, refl}
use Rattle.std.proofs.lemmas.List.{take_more}
use Rattle.ipam_block_text.proofs.Written.{plain_more}
use Rattle.ipam_block_text.proofs.writing.is_plain.Goals as goal

pub loop-byte-preserved : goal.loop-byte-preserved
loop-byte-preserved c =
    let l = c.loop-byte in
    let bytes = c.args.bytes.now in
    plain_more (take l.byte-index bytes) (take (l.byte-index + 1) bytes) (get_or bytes l.byte-index 0)
    (take_more bytes l.byte-index 0 c.loop-byte-test.true) (c.if-not-is_plain_byte.ensures refl) l.invariant
