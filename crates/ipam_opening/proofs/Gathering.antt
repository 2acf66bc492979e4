-- The rows that were put in one after the other are what was opened.
use Rattle.std.proofs.Common.{refl}
use Rattle.ipam_model.specs.Opened.{Texts, AreByKey, MayBeOpened, OpensAs, readable}
use Rattle.ipam_laws.proofs.OpenedRows.{in-readable, out-readable}
use Rattle.ipam_laws.proofs.OpensRows.{gathered, gathered-in, gathered-sound, in-gathered, readable-differ}

pub opens-gathered : (texts : Texts) → AreByKey texts.rows → MayBeOpened texts → OpensAs texts (record { rows = gathered (readable texts.rows); counter = texts.counter })
opens-gathered texts by_key may = record {
  may_be_opened = may;
  sound = gathered-sound texts by_key may;
  counter = refl;
  all_read = λ row found among reads. in-gathered (readable texts.rows) (row.revision, found) (readable-differ texts.rows by_key) (in-readable texts.rows row found among reads);
  nothing_else = λ revision found there. out-readable texts.rows (revision, found) (gathered-in (readable texts.rows) (revision, found) there);
}
