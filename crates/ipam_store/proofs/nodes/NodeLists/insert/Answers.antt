use Rattle.std.proofs.Common.{arith}
use Rattle.ipam_records.proofs.BlockListLemmas.{length-named}
use Rattle.ipam_store.proofs.nodes.NodeLists.insert.Goals as goal

pub put_in-roomy-requires-clause-within : goal.put_in-roomy-requires-clause-within
put_in-roomy-requires-clause-within c =
    let found = rw c.deref.ensures.value at c.in-Ok.ensures.found in
    let within = found.within in
    omega (arith, length-named c.self.inside.lists.items)
