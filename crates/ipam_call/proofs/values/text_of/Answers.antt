use Rattle.ipam_call.proofs.Texts.{no_text, text}
use Rattle.ipam_call.proofs.values.text_of.Goals as goal

pub returns-in-Ok : goal.returns-in-Ok
returns-in-Ok c =
    let told = rw c.in-Ok.is at c.from_utf8.ensures.cases in
    text c.args.bytes.now c.in-Ok.text.now told.1 told.0

pub returns-in-Err : goal.returns-in-Err
returns-in-Err c =
    let told = rw c.in-Err.is at c.from_utf8.ensures.cases in
    no_text c.args.bytes.now told.0
