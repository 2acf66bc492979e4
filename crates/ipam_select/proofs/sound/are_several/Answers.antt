use Rattle.std.proofs.Common.{arith}
use Rattle.std.proofs.lemmas.Bool.Decides.{nat_tests}
use Rattle.ipam_select.proofs.Several.{several-by_length}
use Rattle.ipam_select.proofs.sound.are_several.Goals as goal

pub returns : goal.returns
returns c = several-by_length c.args.members.now _ (grind (arith, nat_tests))
