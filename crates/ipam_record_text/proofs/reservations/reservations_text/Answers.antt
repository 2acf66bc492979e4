use Rattle.std.proofs.Common.{◌∙◌, ap}
use Rattle.std.proofs.lemmas.Result.{IfOk-weaker}
use Rattle.serde_json.specs.Written.{has_float, compact_text}
use Rattle.ipam_record_text.specs.Reservations.{reservations_body}
use Rattle.ipam_record_text.proofs.ReservationLists.{has_float-reservations_data}
use Rattle.ipam_record_text.proofs.reservations.reservations_text.Goals as goal

pub returns : goal.returns
unfolding reservations_body
returns c =
    let json = c.in_ok-json.ensures in
    IfOk-weaker c.to_string.result _ _ (λ s text. text (ap has_float json ∙ has_float-reservations_data c.args.list.now) ∙ ap compact_text json) c.to_string.ensures.text
