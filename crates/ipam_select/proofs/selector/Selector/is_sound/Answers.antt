use Rattle.std.proofs.Common.{sym, IsTrue, ◌↔◌, subst}
use Rattle.ipam_select.specs.Formula.{formula}
use Rattle.ipam_select.specs.Sound.{IsReadOfSome}
use Rattle.ipam_select.proofs.Exact.{sound_is}
use Rattle.ipam_select.proofs.selector.Selector.is_sound.Goals as goal

pub returns-clause-exact : goal.returns-clause-exact
returns-clause-exact c =
    let f = formula c.args.self.now in
    subst (λ b. IsTrue b ↔ IsReadOfSome f) (sym c.is_formed_and_short.ensures) (sound_is f)
