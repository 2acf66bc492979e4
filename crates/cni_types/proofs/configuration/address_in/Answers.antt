use Rattle.std.proofs.Common.{◌≡◌, false, arith}
use Rattle.ipam_addr.specs.Text.{cidr_reading}
use Rattle.cni_types.specs.Configuration.{has_prefix}
use Rattle.cni_types.proofs.Prefixes.{has_prefix-no_slash}
use Rattle.cni_types.proofs.configuration.address_in.Goals as goal

pub returns-in-None : goal.returns-in-None
returns-in-None c =
    let none = rw c.in-None.is at (c.split_once.ensures.byte (omega arith) (λ w o found. found)) in
    let bad : has_prefix (cidr_reading c.text_at-text.result.now) ≡ false = has_prefix-no_slash c.text_at-text.result.now none in
    cc
