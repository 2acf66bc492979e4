-- The database that the environment names.
use Rattle.std.specs.Prelude.{ℕ, ◌==◌, List, length, codes, Option, Some, None, if◌then◌else◌}
use Rattle.ipam_call.specs.declared.database.Database.{Database}
use Rattle.ipam_call.specs.declared.database.Database.TheVariants.{File, NoPath}
use Rattle.ipam_call.specs.Values.{text_of}

-- no path is empty
abbrev pub file_at : List ℕ → Database
file_at path = if length path == 0 then NoPath else File path

abbrev pub file_named : Option (List ℕ) → Database
file_named None = NoPath
file_named (Some path) = file_at path

-- the file at this path; each path is a text
abbrev pub named : List ℕ → Database
named path = file_named (text_of path)

-- the file that is named, or `ipam.db`
abbrev pub database_of : Option (List ℕ) → Database
database_of None = File (codes "ipam.db")
database_of (Some path) = named path
