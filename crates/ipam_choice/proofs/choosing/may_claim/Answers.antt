use Rattle.std.proofs.Common.{◌≡◌, true, false, ap, ◌∙◌, rules}
use Rattle.std.specs.Prelude.{count_by, ◌==◌}
use Rattle.ipam_records.specs.Listing.{rows_of}
use Rattle.ipam_model.specs.Choice.{is_block_of}
use Rattle.ipam_choice.specs.Viewed.{asked_of}
use Rattle.ipam_choice.proofs.CountLemmas.{counted, bounded}
use Rattle.ipam_choice.proofs.choosing.may_claim.Goals as goal

pub returns : goal.returns
returns c =
    let config = c.args.known.now.config in
    let rows = rows_of c.args.known.now.blocks in
    let asked = asked_of c.args.wanted.now in
    let count : c.count_of.result ≡ count_by (is_block_of asked) rows = c.count_of.ensures ∙ (ap (count_by _) c.of_node-blocks.ensures.value ∙ counted asked rows) in
    let auto : config.auto ≡ true = search rules in
    let some : (config.max_blocks == 0) ≡ false = search rules in
    bounded config.auto config.max_blocks c.count_of.result (count_by (is_block_of asked) rows) auto some count
