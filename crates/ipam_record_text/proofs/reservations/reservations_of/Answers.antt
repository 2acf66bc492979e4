use Rattle.std.proofs.Common.{◌≡◌, Some, None, rules}
use Rattle.ipam_json.specs.Held.{held}
use Rattle.ipam_record_text.specs.Reservations.{reservations_in, reservations_body}
use Rattle.ipam_record_text.proofs.ReservationLists.{reservations_held, reservations_unheld}
use Rattle.ipam_record_text.proofs.reservations.reservations_of.Goals as goal

pub returns-in-Ok-Some-clause-read : goal.returns-in-Ok-Some-clause-read
returns-in-Ok-Some-clause-read c =
    let found : held reservations_in reservations_body c.args.body.now ≡ Some c.of.result = search rules in
    reservations_held _ _ found

pub returns-in-Ok-None-clause-form : goal.returns-in-Ok-None-clause-form
returns-in-Ok-None-clause-form c =
    let none : held reservations_in reservations_body c.args.body.now ≡ None = search rules in
    λ e. reservations_unheld _ none
