use Rattle.ipam_select.specs.Formula.{formula}
use Rattle.ipam_select.proofs.Lengths.{counted}
use Rattle.ipam_select.proofs.selector.Selector.is_short.Goals as goal

pub returns : goal.returns
returns c =
    counted (formula c.args.self.now) c.printed_len.result c.printed_len.ensures
