use Rattle.ipam_shared.proofs.TextRows.{ascend-by_key}
use Rattle.ipam_commands.proofs.loading.open_rows.Goals as goal

pub open-requires : goal.open-requires
open-requires c = ascend-by_key c.args.rows.now c.requires
