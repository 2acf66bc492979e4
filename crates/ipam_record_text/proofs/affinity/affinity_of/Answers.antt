use Rattle.std.proofs.Common.{◌≡◌, Some, None, rules}
use Rattle.ipam_json.specs.Held.{held}
use Rattle.ipam_record_text.specs.Affinity.{affinity_in, affinity_body}
use Rattle.ipam_record_text.proofs.Affinities.{affinity_held, affinity_unheld}
use Rattle.ipam_record_text.proofs.affinity.affinity_of.Goals as goal

pub returns-in-Ok-Some-clause-read : goal.returns-in-Ok-Some-clause-read
returns-in-Ok-Some-clause-read c =
    let found : held affinity_in affinity_body c.args.body.now ≡ Some c.in-Ok-Some.affinity = search rules in
    affinity_held _ _ found

pub returns-in-Ok-None-clause-form : goal.returns-in-Ok-None-clause-form
returns-in-Ok-None-clause-form c =
    let none : held affinity_in affinity_body c.args.body.now ≡ None = search rules in
    λ e. affinity_unheld _ none
