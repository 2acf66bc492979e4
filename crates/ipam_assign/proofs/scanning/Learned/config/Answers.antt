use Rattle.std.proofs.Common.{◌∙◌, ap}
use Rattle.ipam_record_text.specs.declared.config.Config.{Config}
use Rattle.ipam_assign.specs.Scanning.{with_pools_read, scanning_at}
use Rattle.ipam_assign.proofs.scanning.Learned.config.Goals as goal

pub returns : goal.returns
returns c = λ asked.
    ap (scanning_at asked) c.configured.ensures
    ∙ ap (λ (config : Config). with_pools_read asked (record { config = config; c = c.args.hearing.now.moment })) c.config_in.ensures
