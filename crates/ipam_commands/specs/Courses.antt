-- The rows that a request leaves which did not come to its answer.
use Rattle.std.specs.Prelude.{List, Option, IfSome}
use Rattle.ipam_records.specs.declared.call.Row.{Row as RowText}
use Rattle.ipam_records.specs.Datastore.{Datastore}
use Rattle.ipam_model.specs.declared.entry.Entry.{Entry}
use Rattle.ipam_model.specs.declared.request.Request.{Request}
use Rattle.ipam_model.specs.History.{Base, Lawful, store_at}
use Rattle.ipam_shared.specs.Rows.{AreTextsOf}
use Rattle.ipam_shared.specs.Solo.{IsStoppedAlone}

-- the rows are the datastore's, where they are known
abbrev pub AreRowsOf : Option (List RowText) → Datastore → Type 0
AreRowsOf told store = IfSome told (λ rows. AreTextsOf rows store)

-- The rows are those of a lawful course of the request that was stopped, or did not begin.
pub record IsStopCourse (base : Base) (asked : Request) (new : Option (List RowText)) : Type 0 where
  pub entries : List Entry
  pub lawful : Lawful base entries
  pub stopped : IsStoppedAlone asked entries
  pub rows : AreRowsOf new (store_at base entries)
