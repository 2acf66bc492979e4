use Rattle.std.proofs.Common.{◌∙◌, ap, sym}
use Rattle.std.specs.List.{list_any}
use Rattle.ipam_model.specs.Owners.{same_owner, owner_of, owners_in_row}
use Rattle.ipam_collect.proofs.SuspectLemmas.{list_any_map}
use Rattle.ipam_collect.proofs.leaks.is_in_row.Goals as goal

pub returns-in-Block : goal.returns-in-Block
returns-in-Block c =
    let owner = c.args.suspect.now.owner in
    let block = c.in-Block.block in
    λ revision. c.is_in_block.ensures
    ∙ list_any_map (same_owner owner) (owner_of block.cidr) block.allocations
    ∙ ap (λ row. list_any (same_owner owner) (owners_in_row (revision, row))) (sym c.in-Block.is)
