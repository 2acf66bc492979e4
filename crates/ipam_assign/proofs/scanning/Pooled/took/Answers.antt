use Rattle.std.proofs.Common.{◌∙◌, ap}
use Rattle.ipam_records.specs.Said.{said}
use Rattle.ipam_pool.specs.Union.{is_in_union}
use Rattle.ipam_assign.specs.Scanning.{scanning_at}
use Rattle.ipam_assign.proofs.ScanningLemmas.{reserved_known}
use Rattle.ipam_assign.proofs.scanning.Pooled.took.Goals as goal

pub returns : goal.returns
returns c = λ asked.
    ap (scanning_at asked) (c.reserved-learned.ensures c.args.self.now)
    ∙ reserved_known asked c.args.self.now c.in_ok-reserved.reserved c.args.hearing.now.moment (said c.args.hearing.now.reply)
    (λ a. c.in_ok-reserved.ensures.union a ∙ ap (λ list. is_in_union list a) c.reservations_in.ensures)
