use Rattle.std.proofs.Common.{◌↔◌, IsTrue, subst}
use Rattle.ipam_select.specs.Sound.{IsReadOfSome}
use Rattle.ipam_select.proofs.node_selector.NodeSelector.is_sound.Goals as goal

pub returns-clause-exact : goal.returns-clause-exact
returns-clause-exact c =
    subst (λ f. IsTrue c.is_sound.result ↔ IsReadOfSome f) c.self.view_is c.is_sound.ensures.exact
