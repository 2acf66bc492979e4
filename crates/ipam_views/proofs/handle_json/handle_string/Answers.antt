use Rattle.std.proofs.Common.{◌∙◌, ap}
use Rattle.std.proofs.lemmas.Result.{IfOk-weaker}
use Rattle.serde_json.specs.Written.{has_float, compact_text}
use Rattle.ipam_views.proofs.Floats.{handle_without}
use Rattle.ipam_views.proofs.handle_json.handle_string.Goals as goal

pub returns : goal.returns
returns c =
    let json = c.in_ok-json.ensures in
    let floatless = handle_without c.args.handle.now c.args.store.now.store c.args.counts.now in
    IfOk-weaker c.to_string.result _ _ (λ s text. text (ap has_float json ∙ floatless) ∙ ap compact_text json) c.to_string.ensures.text
