use Rattle.std.proofs.Common.{arith}
use Rattle.cni_types.proofs.InputTexts.{input_text-utf8, input_text-other}
use Rattle.cni_types.proofs.looking.input_text.Goals as goal

pub returns-in-Ok : goal.returns-in-Ok
returns-in-Ok c =
    let told = rw c.in-Ok.is at c.from_utf8.ensures.cases in
    input_text-utf8 c.args.stdin.now c.in-Ok.text.now (omega arith) told.1 told.0

pub returns-in-Err : goal.returns-in-Err
returns-in-Err c =
    let told = rw c.in-Err.is at c.from_utf8.ensures.cases in
    input_text-other c.args.stdin.now told.0
