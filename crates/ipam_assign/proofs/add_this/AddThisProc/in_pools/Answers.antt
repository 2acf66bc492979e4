use Rattle.std.proofs.Common.{◌∙◌, sym, ap, Some}
use Rattle.ipam_records.specs.Said.{said}
use Rattle.ipam_model.specs.AddThis.{RulesRead, asked_of_this, this_in_pool}
use Rattle.ipam_model.specs.Reads.{pools_said}
use Rattle.ipam_model.specs.Usable.{usable_pool_of}
use Rattle.ipam_assign.specs.AddThis.{this_going, this_next, this_at, wanted_at}
use Rattle.ipam_assign.proofs.AddThisLemmas.{pools_lead}
use Rattle.ipam_assign.proofs.add_this.AddThisProc.in_pools.Goals as goal

pub returns-in-Some : goal.returns-in-Some
returns-in-Some c =
    pools_lead (this_going c.args.self.now) c.args.self.now.left c.of-ruled.result
    (usable_pool_of (asked_of_this c.args.self.now.request c.args.self.now.address) c.args.self.now.address (pools_said (said c.args.hearing.now.reply)))
    (sym c.place_in_pools.ensures ∙ c.in-Some.is ∙ ap Some (sym c.of-ruled.ensures.place))
    ∙ ap (λ (rules : RulesRead). this_at (this_in_pool (wanted_at c.args.self.now.request c.args.self.now.address)
    (this_next (this_going c.args.self.now)) c.args.self.now.left rules
    (usable_pool_of (asked_of_this c.args.self.now.request c.args.self.now.address) c.args.self.now.address (pools_said (said c.args.hearing.now.reply)))))
    c.of-ruled.ensures.rules
