use Rattle.std.proofs.Common.{ap, ◌∙◌}
use Rattle.serde_json.specs.Data.{object}
use Rattle.serde_json.proofs.Views.{view-Object}
use Rattle.ipam_record_text.specs.Rules.{mode_fields, selector_fields, with_fields}
use Rattle.ipam_record_text.proofs.PoolTables.{put_fields}
use Rattle.ipam_record_text.proofs.pools.pool_json.Goals as goal

pub returns : goal.returns
returns c =
    let p = c.args.pool.now in
    let mode = c.in_ok-put_mode.ensures ∙ ap (with_fields (mode_fields p.mode)) c.in_ok-members.ensures in
    view-Object _ ∙ ap object (c.in_ok-put_selector.ensures ∙ ap (with_fields (selector_fields p.selector)) mode) ∙ put_fields p
