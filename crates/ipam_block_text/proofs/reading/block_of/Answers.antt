use Rattle.std.proofs.Common.{◌≡◌, ◌∙◌, sym, List, ℕ, Result, Ok, Err, IfOk}
use Rattle.ipam_block.specs.Shape.{BlockValue}
use Rattle.ipam_block.specs.Sound.{IsBlockRecord}
use Rattle.ipam_block_text.specs.declared.fault.BodyFault.{BodyFault}
use Rattle.ipam_block_text.specs.Body.{block_body}
use Rattle.ipam_block_text.specs.Reading.{block_reading}
use Rattle.ipam_block_text.proofs.Sound.{block_reading-ok}
use Rattle.ipam_block_text.proofs.Exact.{formless_said, unread_text, unsound_said}
use Rattle.ipam_block_text.proofs.reading.block_of.Goals as goal

read_of : (r : Result BlockValue BodyFault) (body : List ℕ) → r ≡ block_reading body → IfOk r (λ b. IsBlockRecord b × (body ≡ block_body b))
read_of (Ok b) body e = let is = block_reading-ok body b (sym e) in (is.1, is.0)
read_of (Err f) body e = tt

pub returns-in-Ok-clause-read : goal.returns-in-Ok-clause-read
returns-in-Ok-clause-read c = read_of c.in-Ok.outcome c.args.body.now c.in-Ok.ensures

pub returns-in-Ok-clause-form : goal.returns-in-Ok-clause-form
returns-in-Ok-clause-form c = λ e. formless_said c.args.body.now (sym c.in-Ok.ensures ∙ e)

pub returns-in-Ok-clause-unsound : goal.returns-in-Ok-clause-unsound
returns-in-Ok-clause-unsound c = λ cidr e.
    let refused = sym c.in-Ok.ensures ∙ e in
    (unsound_said c.args.body.now cidr refused, unread_text c.args.body.now _ refused)
