use Rattle.std.proofs.Common.{◌≡◌, take}
use Rattle.ipam_records.specs.Listing.{rows_of}
use Rattle.ipam_model.specs.Remove.{leaks}
use Rattle.ipam_collect.proofs.leaks.leaks_of.Given as goal

abbrev pub invariant-loop-suspect : goal.invariant-loop-suspect
invariant-loop-suspect l = l.found ≡ leaks (take l.suspect-index l.suspects) l.live (rows_of l.listing)
