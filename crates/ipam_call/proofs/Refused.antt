-- What is no text is refused.
use Rattle.std.proofs.Common.{◌≡◌, ℕ, List, Some, false, refl, subst}
use Rattle.std.specs.Str.{is_utf8}
use Rattle.cni_types.specs.Environment.{are_arguments}
use Rattle.ipam_call.specs.declared.variable.Variable.{Variable}
use Rattle.ipam_call.specs.declared.variable.Variable.TheVariants.{Command, ContainerId, Netns, Ifname, Args}
use Rattle.ipam_call.specs.CallVariables.{IsRefused, RefusedLaw, seen, stand_in}

stands-in : (v : Variable) (bytes : List ℕ) → is_utf8 bytes ≡ false → stand_in v ≡ seen v (Some bytes)
stands-in v bytes bad = rw bad

refused : (v : Variable) → IsRefused v (stand_in v)
unfolding are_arguments
refused Command = refl
refused ContainerId = refl
refused Netns = refl
refused Ifname = refl
refused Args = refl

pub no_text_refused : RefusedLaw
no_text_refused v bytes bad = subst (λ (value : List ℕ). IsRefused v value) (stands-in v bytes bad) (refused v)
