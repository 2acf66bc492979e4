use Rattle.std.proofs.Common.{ℕ, List, map, sym, subst}
use Rattle.std.specs.List.Sorted.{IsStrictlySortedBy}
use Rattle.ipam_records.specs.declared.record.Record.{Record}
use Rattle.ipam_records.specs.Datastore.{row_key}
use Rattle.ipam_records.specs.KeyOrder.{is_of_kind, key_cmp}
use Rattle.ipam_records.proofs.RowWrites.{sorted-filter}
use Rattle.ipam_store.specs.Places.{Ascend}
use Rattle.ipam_session.proofs.page.pages_kept.Goals as goal

pub returns-clause-ascend : goal.returns-clause-ascend
returns-clause-ascend c =
    let store = c.args.store.now.store in
    let sound = c.reply-sound.ensures.sound in
    let sorted = sorted-filter (λ row. is_of_kind c.args.kind (row_key row)) store.rows sound.ascending in
    subst Ascend (sym c.pages.ensures.rows) (record { keys = sorted })
