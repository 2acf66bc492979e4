use Rattle.std.proofs.Common.{rules}
use Rattle.json.proofs.Printed.Strings.{escape_byte_plain}
use Rattle.ipam_block_text.proofs.writing.is_plain_byte.Goals as goal

pub returns : goal.returns
returns c = λ plain. escape_byte_plain c.args.byte (search rules) (search rules) (search rules)
