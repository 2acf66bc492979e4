use Rattle.std.proofs.Common.{◌∙◌, sym}
use Rattle.ipam_records.specs.declared.key.Key.TheVariants as key
use Rattle.ipam_records.specs.Listing.{rows_of}
use Rattle.ipam_collect.proofs.OwnedLemmas.{found_owns}
use Rattle.ipam_collect.proofs.leaks.holds_still.Goals as goal

pub returns-then-holds_in : goal.returns-then-holds_in
returns-then-holds_in c =
    sym (found_owns c.args.suspect.now.owner (key.Block c.block.result) (rows_of c.args.listing.now) (sym c.holds_in.ensures ∙ c.if-holds_in.true))
