use Rattle.std.proofs.Common.{rules}
use Rattle.ipam_operator.proofs.Texts.{texts_next}
use Rattle.ipam_operator.specs.Datastore.{datastore_of}
use Rattle.ipam_operator.proofs.datastore.datastore_of.Goals as goal

pub loop-row-preserved : goal.loop-row-preserved
loop-row-preserved c = record {
  store = texts_next c.args.rows.now c.loop-row.row-index c.row-item.result c.row-item.is c.loop-row-test.true c.loop-row.store.store c.load_text.new.store.store (datastore_of c.args.rows.now) (search rules) c.loop-row.invariant.store;
  counter = search rules;
  few = search rules;
}
