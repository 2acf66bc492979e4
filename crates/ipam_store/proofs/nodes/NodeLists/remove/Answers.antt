use Rattle.std.proofs.Common.{arith}
use Rattle.ipam_records.proofs.BlockListLemmas.{length-named}
use Rattle.ipam_store.proofs.NodeLemmas.{ChangesList-none}
use Rattle.ipam_store.proofs.nodes.NodeLists.remove.Goals as goal

pub take_out-requires-clause-within : goal.take_out-requires-clause-within
take_out-requires-clause-within c =
    let found = rw c.deref.ensures.value at c.in-Ok.ensures.found in
    let within = found.within in
    omega (arith, length-named c.self.inside.lists.items)

pub returns-in_default-clause-list : goal.returns-in_default-clause-list
returns-in_default-clause-list c =
    let gap = rw c.deref.ensures.value at c.in_default.ensures.absent in
    rw (← c.self.view_is) (ChangesList-none c.args.node.now _ _ gap c.args.cidr)
