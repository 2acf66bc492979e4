use Rattle.ipam_shared.proofs.TextRows.{ascend-by_key}
use Rattle.ipam_shared.proofs.loaded.GlobalOpensKept.open_fed.Goals as goal

pub open-opened-requires-clause-by_key : goal.open-opened-requires-clause-by_key
open-opened-requires-clause-by_key c = ascend-by_key c.args.rows.items c.requires.ascend
