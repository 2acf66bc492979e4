use Rattle.std.proofs.Common.{subst, sym, ap, ◌∙◌}
use Rattle.ipam_records.specs.declared.record.Record.{Record}
use Rattle.ipam_records.specs.Key.{key_of}
use Rattle.ipam_records.specs.Datastore.{row_of, with_row}
use Rattle.ipam_store.specs.Indexed.{IsIndexOf}
use Rattle.ipam_store.proofs.Listed.{IsIndexOf-with_row}
use Rattle.ipam_store.proofs.blocks.enter.Goals as goal

pub returns-in-Block-clause-index : goal.returns-in-Block-clause-index
returns-in-Block-clause-index c = λ revision rows are none is.
    let absent = ap (λ (v : Record). row_of (key_of v) rows) (sym c.in-Block.is) ∙ none in
    let facts = c.insert.ensures in
    subst (λ (v : Record). IsIndexOf c.insert.new.self (with_row (revision, v) rows)) (sym c.in-Block.is)
    (IsIndexOf-with_row revision c.in-Block.block rows c.args.index.now c.insert.new.self facts.owned facts.unowned facts.roomy are absent is)
