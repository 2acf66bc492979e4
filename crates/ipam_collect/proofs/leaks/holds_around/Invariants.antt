use Rattle.std.proofs.Common.{◌≡◌, ◌<◌, ℕ, false}
use Rattle.std.specs.List.{list_any}
use Rattle.ipam_records.specs.declared.key.Key.TheVariants as key
use Rattle.ipam_records.specs.Datastore.{row_of}
use Rattle.ipam_records.specs.Listing.{rows_of}
use Rattle.ipam_model.specs.Owners.{same_owner}
use Rattle.ipam_collect.specs.Leaks.{block_around, owners_found}
use Rattle.ipam_collect.proofs.leaks.holds_around.Given as goal

abbrev pub invariant-loop-bits : goal.invariant-loop-bits
invariant-loop-bits l = (bits : ℕ) → bits < l.bits
    → list_any (same_owner l.suspect.owner) (owners_found (row_of (key.Block (block_around l.suspect.owner.address bits)) (rows_of l.listing))) ≡ false
