use Rattle.std.proofs.Common.{◌∙◌, ap}
use Rattle.std.specs.List.{list_any}
use Rattle.ipam_model.specs.Owners.{same_owner}
use Rattle.ipam_collect.specs.Leaks.{owners_found}
use Rattle.ipam_collect.proofs.leaks.holds_in.Goals as goal

pub returns-in-Some : goal.returns-in-Some
returns-in-Some c =
    c.is_in_row.ensures c.in-Some.field-0-0
    ∙ ap (λ found. list_any (same_owner c.args.suspect.now.owner) (owners_found found)) c.in-Some.ensures
