-- One call of a slot: what is prepared, and what is done with it by its fate.
use Rattle.std.specs.Prelude.{◌≡◌, ℕ, List, Option, Some, None}
use Rattle.ipam_records.specs.declared.call.Write.{Write}
use Rattle.ipam_records.specs.declared.call.Row.{Row as RowText}
use Rattle.ipam_records.specs.Datastore.{Datastore}
use Rattle.ipam_model.specs.declared.entry.Called.{Called}
use Rattle.ipam_model.specs.declared.entry.Entry.{Entry}
use Rattle.ipam_model.specs.declared.entry.Entry.TheVariants as entry
use Rattle.ipam_model.specs.declared.entry.Fate.{Fate}
use Rattle.ipam_model.specs.declared.entry.Fate.TheVariants.{Well, Before, After}
use Rattle.ipam_model.specs.Opened.{Texts, IsTextOf}
use Rattle.ipam_cluster.specs.declared.base.Base.{Base}
use Rattle.ipam_cluster.specs.declared.cluster.Cluster.{Cluster}

-- the entry tells of a call of this slot, with this fate
pub record IsTurn (slot : ℕ) (fate : Fate) (new : Entry) : Type 0 where
  pub told : Called
  pub is_called : new ≡ entry.Called told
  pub own : told.slot ≡ slot
  pub has_fate : told.fate ≡ fate

-- what is written of a prepared write
abbrev pub write_by : Fate → Option Write → Option Write
write_by Well write = write
write_by Before write = None
write_by After write = write

-- ---- the rows of a cluster, as they are opened

abbrev pub texts_in : Base → Texts
texts_in base = record { rows = base.rows.items; counter = base.counter }

-- the rows by ascending key, with the counter and the number of entries that there are
pub record IsBaseOf (base : Base) (cluster : Cluster) : Type 0 where
  pub text : IsTextOf (texts_in base) cluster.store.store
  pub counter : base.counter ≡ cluster.store.store.counter
  pub first : base.first ≡ cluster.entries
