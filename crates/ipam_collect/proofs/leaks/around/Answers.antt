use Rattle.std.proofs.Common.{◌≡◌, Some, ap}
use Rattle.ipam_addr.specs.Shape.{AddrValue}
use Rattle.ipam_collect.specs.Leaks.{block_around}
use Rattle.ipam_collect.proofs.OwnedLemmas.{around_made}
use Rattle.ipam_collect.proofs.leaks.around.Goals as goal

pub returns-in-Ok : goal.returns-in-Ok
returns-in-Ok c =
    let inside : AddrValue = record { family = c.addr.inside.family; number = c.addr.inside.number } in
    let made = around_made inside c.args.addr c.args.bits c.low_part-low.result c.width.result c.addr.view_is c.addr.invariant c.requires c.low_part-low.ensures.value c.width.ensures c.cidr.result c.cidr.ensures.value in
    let same : c.in-Ok.block ≡ block_around c.args.addr c.args.bits = cc (made, c.in-Ok.is) in
    ap Some same

pub returns-in-Err : goal.returns-in-Err
returns-in-Err c =
    let inside : AddrValue = record { family = c.addr.inside.family; number = c.addr.inside.number } in
    let made = around_made inside c.args.addr c.args.bits c.low_part-low.result c.width.result c.addr.view_is c.addr.invariant c.requires c.low_part-low.ensures.value c.width.ensures c.cidr.result c.cidr.ensures.value in
    absurd (cc (made, c.in-Err.is))
