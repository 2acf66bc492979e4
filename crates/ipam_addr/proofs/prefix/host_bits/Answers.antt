use Rattle.std.proofs.Common.{◌%◌, ap, ◌∙◌}
use Rattle.ipam_addr.specs.Shape.{AddrValue}
use Rattle.ipam_addr.specs.Width.{size_of}
use Rattle.ipam_addr.proofs.CidrLemmas.{masked}
use Rattle.ipam_addr.proofs.prefix.host_bits.Goals as goal

pub returns : goal.returns
returns c =
    masked c.addr.inside.number c.width.result c.args.prefix c.low_bits.result c.addr.inside.family c.width.ensures c.low_bits.ensures
    ∙ ap (λ (a : AddrValue). a.number % size_of a.family c.args.prefix) c.addr.view_is
