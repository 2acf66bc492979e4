-- Which formula is the one for all nodes.
use Rattle.std.specs.Prelude.{Bool, true, false}
use Rattle.ipam_select.specs.Formula.{Formula, every}

abbrev pub is_every : Formula → Bool
is_every every = true
is_every _ = false
