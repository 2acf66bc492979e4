use Rattle.std.proofs.Common.{length, ◌-◌, sym, arith}
use Rattle.ipam_sqlite.proofs.OrderLemmas.{above_last, less_from}
use Rattle.ipam_sqlite.proofs.loading.is_above_all.Goals as goal

pub returns-in-Some : goal.returns-in-Some
returns-in-Some c holds =
    above_last c.args.rows.now (length c.args.rows.now - 1) c.in-Some.last.now c.args.row.now (omega arith) c.requires (sym c.in-Some.ensures.value)
    (less_from _ _ c.lt.ensures holds)
