use Rattle.std.proofs.Common.{◌∙◌, ap, sym}
use Rattle.std.specs.Option.{option_copied}
use Rattle.ipam_records.specs.Word.{Ends}
use Rattle.ipam_model.specs.declared.outcome.CollectAnswer.TheVariants.{Collected}
use Rattle.ipam_model.specs.Step.{all_left}
use Rattle.ipam_collect.specs.Frees.{done_of}
use Rattle.ipam_collect.proofs.FreesLemmas.{begins_new, none_left}
use Rattle.ipam_collect.proofs.collect.begun.Goals as goal

pub returns-in-Some : goal.returns-in-Some
returns-in-Some c =
    λ p. begins_new c.new-frees.result c.args.b1 c.args.b2 c.args.tally c.freeing-freeing.result c.all_left.result all_left c.in-Some.leak.now
    c.new-frees.ensures.b1 c.new-frees.ensures.b2 c.new-frees.ensures.tally c.new-frees.ensures.freeing
    (sym c.first.ensures ∙ ap option_copied c.in-Some.is) c.freeing-freeing.ensures c.all_left.ensures

pub returns-in-None : goal.returns-in-None
returns-in-None c =
    λ p. ap (λ items. Ends (Collected (done_of c.args.b1 c.args.b2 items))) c.take_items-items.ensures
    ∙ none_left c.args.b1 c.args.b2 c.args.tally.0 c.args.tally.1 all_left (sym c.first.ensures ∙ ap option_copied c.in-None.is)
