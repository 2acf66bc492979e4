use Rattle.std.proofs.Common.{◌∙◌, ap}
use Rattle.std.proofs.lemmas.Result.{IfOk-weaker}
use Rattle.serde_json.specs.Written.{has_float, compact_text}
use Rattle.ipam_views.proofs.Floats.{settings_without}
use Rattle.ipam_views.proofs.config_shown.config_string.Goals as goal

pub returns : goal.returns
returns c =
    let json = c.in_ok-json.ensures in
    IfOk-weaker c.to_string.result _ _ (λ s text. text (ap has_float json ∙ settings_without c.args.shown.now) ∙ ap compact_text json) c.to_string.ensures.text
