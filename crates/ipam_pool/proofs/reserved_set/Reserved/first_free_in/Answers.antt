use Rattle.std.proofs.Common.{◌∙◌}
use Rattle.ipam_addr.specs.Shape.{AddrValue}
use Rattle.ipam_addr.specs.Holding.{first_address}
use Rattle.ipam_pool.proofs.Rooms.{gap_at, first_free, not_full}
use Rattle.ipam_pool.proofs.reserved_set.Reserved.first_free_in.Goals as goal

pub returns-clause-full : goal.returns-clause-full
returns-clause-full c =
    let base : AddrValue = record { family = c.base.inside.family; number = c.base.inside.number } in
    let last : AddrValue = record { family = c.first_gap.inside.family; number = c.first_gap.inside.number } in
    let gap = gap_at c.args.self.now c.spans-spans.result.now base (first_address c.args.cidr) last c.last.result c.in_ok-number.number c.spans-spans.ensures.value (c.base.view_is ∙ c.base-base.ensures.value) c.first_gap.view_is c.in_ok-number.ensures.found in
    let first = first_free c.args.self.now c.args.cidr c.in_ok-number.number c.last.result.number c.last.ensures.value gap in
    (λ none. cc, λ all. absurd (not_full _ _ _ first all))
