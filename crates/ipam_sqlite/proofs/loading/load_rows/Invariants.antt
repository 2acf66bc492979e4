use Rattle.ipam_keeper.specs.Rows.{Ascend}
use Rattle.ipam_sqlite.proofs.loading.load_rows.Given as goal

abbrev pub invariant-rows : goal.invariant-rows
invariant-rows g l = Ascend l.loaded.items
