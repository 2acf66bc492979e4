use Rattle.std.proofs.Common.{IsOk}
use Rattle.ipam_store.proofs.CidrLemmas.{insert-with_cidr, same-with_cidr, CidrsAscend-insert}
use Rattle.ipam_store.proofs.cidrs.insert.Goals as goal

pub returns-else-is_err-clause-items : goal.returns-else-is_err-clause-items
returns-else-is_err-clause-items c =
    let gap = rw c.deref.ensures.value at c.in-Err.ensures.absent in
    let done : IsOk c.insert.result = c.insert.ensures.succeeds c.requires.room in
    rw (c.insert.ensures.items, done) (insert-with_cidr c.args.cidr _ _ gap)

pub returns-else-is_err-clause-ascend : goal.returns-else-is_err-clause-ascend
returns-else-is_err-clause-ascend c =
    let gap = rw c.deref.ensures.value at c.in-Err.ensures.absent in
    let done : IsOk c.insert.result = c.insert.ensures.succeeds c.requires.room in
    rw (c.insert.ensures.items, done) (CidrsAscend-insert c.args.cidr _ _ c.requires.ascend gap)

pub returns-in_default-clause-items : goal.returns-in_default-clause-items
returns-in_default-clause-items c =
    let found = rw c.deref.ensures.value at c.in_default.ensures.found in
    same-with_cidr c.args.cidr _ _ c.requires.ascend found
