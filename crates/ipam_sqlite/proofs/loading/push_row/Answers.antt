use Rattle.std.proofs.Common.{IsTrue, is_ok, rules}
use Rattle.ipam_sqlite.proofs.OrderLemmas.{Ascend-pushed}
use Rattle.ipam_sqlite.proofs.loading.push_row.Goals as goal

pub returns : goal.returns
returns c =
    let told : IsTrue c.is_above_all.result = search rules in
    let above = rw c.deref.ensures.value at (c.is_above_all.ensures told) in
    rw c.push.ensures.items (Ascend-pushed (is_ok c.push.result) _ _ c.requires above)
