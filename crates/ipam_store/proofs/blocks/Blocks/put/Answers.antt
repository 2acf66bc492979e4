use Rattle.std.proofs.Common.{subst}
use Rattle.ipam_records.specs.declared.key.Key.{Key}
use Rattle.ipam_records.specs.Datastore.{row_key, without_row}
use Rattle.ipam_store.specs.Indexed.{IsIndexOf}
use Rattle.ipam_store.proofs.Rewriting.{AreIndexed-put}
use Rattle.ipam_store.proofs.blocks.Blocks.put.Goals as goal

pub invariant_of-self : goal.invariant_of-self
invariant_of-self c =
    let rows = c.self.inside.rows.rows in
    let row = c.args.row in
    let left = subst (λ (k : Key). IsIndexOf c.forget.new.index (without_row k rows)) c.of_record.ensures c.forget.ensures.index in
    let indexed = AreIndexed-put row rows c.enter.new.index c.requires.block.block c.self.invariant.blocks
    (λ are none. c.enter.ensures.index row.0 (without_row (row_key row) rows) are none left) in
    rw c.put.ensures.rows indexed
