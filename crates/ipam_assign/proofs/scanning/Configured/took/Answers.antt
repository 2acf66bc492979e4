use Rattle.std.proofs.Common.{◌∙◌, ap, List}
use Rattle.ipam_pool.specs.declared.pools.Pool.{Pool}
use Rattle.ipam_assign.specs.Scanning.{reservations_read, scanning_at}
use Rattle.ipam_assign.proofs.scanning.Configured.took.Goals as goal

pub returns : goal.returns
returns c = λ asked.
    ap (scanning_at asked) (c.pools-learned.ensures c.args.self.now)
    ∙ ap (λ (pools : List Pool). reservations_read asked (record { configured = c.args.self.now; pools = pools; p = c.args.hearing.now.moment }))
    c.in_ok-pools.ensures
