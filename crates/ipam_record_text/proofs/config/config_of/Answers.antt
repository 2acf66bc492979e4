use Rattle.std.proofs.Common.{◌≡◌, Some, None, rules}
use Rattle.ipam_json.specs.Held.{held}
use Rattle.ipam_record_text.specs.Config.{config_in, config_body}
use Rattle.ipam_record_text.proofs.Configs.{config_held, config_unheld}
use Rattle.ipam_record_text.proofs.config.config_of.Goals as goal

pub returns-in-Ok-Some-clause-read : goal.returns-in-Ok-Some-clause-read
returns-in-Ok-Some-clause-read c =
    let found : held config_in config_body c.args.body.now ≡ Some c.in-Ok-Some.config = search rules in
    config_held _ _ found

pub returns-in-Ok-None-clause-form : goal.returns-in-Ok-None-clause-form
returns-in-Ok-None-clause-form c =
    let none : held config_in config_body c.args.body.now ≡ None = search rules in
    λ e. config_unheld _ none
