-- The rows that are opened, with what was read of each.
use Rattle.std.specs.Prelude.{◌≡◌, map}
use Rattle.ipam_model.specs.Opened.{Texts, AreByKey, reading_of}
use Rattle.ipam_opening.specs.declared.given.Given.{Given}

abbrev pub texts_given : Given → Texts
texts_given given = record { rows = given.rows.now; counter = given.counter }

-- the rows ascend by key, and what stands at a place was read of the row there
pub record IsRead (given : Given) : Type 0 where
  pub by_key : AreByKey given.rows.now
  pub readings : given.readings.now ≡ map reading_of given.rows.now
