use Rattle.std.proofs.Common.{arith}
use Rattle.std.proofs.lemmas.Grind.{common_steps}
use Rattle.ipam_select.proofs.Cutting.{key_run_is_utf8}
use Rattle.ipam_select.proofs.lexing.identifier.Goals as goal

pub returns-in_default : goal.returns-in_default
returns-in_default c =
    let text = key_run_is_utf8 c.args.text.now in
    grind (arith, common_steps)
