use Rattle.std.proofs.Common.{◌∙◌, ap}
use Rattle.std.proofs.lemmas.Result.{IfOk-weaker}
use Rattle.serde_json.specs.Written.{has_float, compact_text}
use Rattle.ipam_record_text.specs.Pools.{pools_body}
use Rattle.ipam_record_text.proofs.PoolTables.{has_float-pools_data}
use Rattle.ipam_record_text.proofs.pools.list_text.Goals as goal

pub returns : goal.returns
unfolding pools_body
returns c =
    let json = c.in_ok-json.ensures in
    IfOk-weaker c.to_string.result _ _ (λ s text. text (ap has_float json ∙ has_float-pools_data c.args.pools.now) ∙ ap compact_text json) c.to_string.ensures.text
