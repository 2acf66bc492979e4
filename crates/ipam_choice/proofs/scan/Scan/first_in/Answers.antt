use Rattle.std.proofs.Common.{◌≡◌, true, false, ◌∙◌, rules}
use Rattle.ipam_choice.specs.Picked.{ranked_in}
use Rattle.ipam_choice.specs.Scanned.{sight_of, is_lower}
use Rattle.ipam_choice.proofs.PoolLemmas.{first_in_other, unclaimed_first, lower_first, lower_other}
use Rattle.ipam_choice.proofs.scan.Scan.first_in.Goals as goal

pub returns-then-is_lower : goal.returns-then-is_lower
returns-then-is_lower c =
    let listed = ranked_in c.first_with_block-listed.result in
    let bare = ranked_in c.first_bare-bare.result in
    let test : is_lower listed bare ≡ true = search rules in
    lower_first listed bare test
    ∙ unclaimed_first (sight_of c.args.self.now) c.args.level c.args.pool.now listed bare c.in-Unclaimed.is c.first_with_block-listed.ensures c.first_bare-bare.ensures

pub returns-else-is_lower : goal.returns-else-is_lower
returns-else-is_lower c =
    let listed = ranked_in c.first_with_block-listed.result in
    let bare = ranked_in c.first_bare-bare.result in
    let test : is_lower listed bare ≡ false = search rules in
    lower_other listed bare test
    ∙ unclaimed_first (sight_of c.args.self.now) c.args.level c.args.pool.now listed bare c.in-Unclaimed.is c.first_with_block-listed.ensures c.first_bare-bare.ensures

pub returns-in_default : goal.returns-in_default
returns-in_default c =
    c.first_with_block-listed.ensures
    ∙ first_in_other (sight_of c.args.self.now) c.args.level c.args.pool.now c.in_default.not-Unclaimed
