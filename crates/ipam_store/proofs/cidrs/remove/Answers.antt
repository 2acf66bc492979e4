use Rattle.ipam_store.proofs.CidrLemmas.{remove-without_cidr, same-without_cidr, CidrsAscend-without}
use Rattle.ipam_store.proofs.cidrs.remove.Goals as goal

pub returns-in-Ok-clause-items : goal.returns-in-Ok-clause-items
returns-in-Ok-clause-items c =
    let found = rw c.deref.ensures.value at c.in-Ok.ensures.found in
    rw c.remove.ensures.items (remove-without_cidr c.args.cidr _ _ c.requires found)

pub returns-in-Ok-clause-ascend : goal.returns-in-Ok-clause-ascend
returns-in-Ok-clause-ascend c =
    let found = rw c.deref.ensures.value at c.in-Ok.ensures.found in
    let is = remove-without_cidr c.args.cidr _ _ c.requires found in
    rw (c.remove.ensures.items, is) (CidrsAscend-without c.args.cidr _ c.requires)

pub returns-in_default-clause-items : goal.returns-in_default-clause-items
returns-in_default-clause-items c =
    let gap = rw c.deref.ensures.value at c.in_default.ensures.absent in
    same-without_cidr c.args.cidr _ _ gap
