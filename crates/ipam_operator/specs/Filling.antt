-- What is put into a new database.
use Rattle.std.specs.Prelude.{List, [], ◌∷◌, Option}
use Rattle.ipam_keeper.specs.Keeping.{known_with}
use Rattle.ipam_records.specs.declared.call.Row.{Row}

-- what a keeper has, where it tells it, once these rows were put in one after the other
abbrev pub filled : List Row → Option (List Row) → Option (List Row)
filled [] told = told
filled (row ∷ rows) told = filled rows (known_with row told)
