use Rattle.std.proofs.Common.{◌≡◌, Some, None, rules}
use Rattle.ipam_json.specs.Held.{held}
use Rattle.ipam_record_text.specs.Handle.{handle_in, handle_body}
use Rattle.ipam_record_text.proofs.Handles.{handle_held, handle_unheld}
use Rattle.ipam_record_text.proofs.handle.handle_of.Goals as goal

pub returns-in-Ok-Some-clause-read : goal.returns-in-Ok-Some-clause-read
returns-in-Ok-Some-clause-read c =
    let found : held handle_in handle_body c.args.body.now ≡ Some c.in-Ok-Some.handle = search rules in
    handle_held _ _ found

pub returns-in-Ok-None-clause-form : goal.returns-in-Ok-None-clause-form
returns-in-Ok-None-clause-form c =
    let none : held handle_in handle_body c.args.body.now ≡ None = search rules in
    λ e. handle_unheld _ none
