use Rattle.ipam_parts.proofs.FreeingLemmas.{took_written}
use Rattle.std.proofs.Common.{◌∙◌, sym}
use Rattle.ipam_parts.proofs.freeing.Freeing.written.Goals as goal

pub returns-in-Took : goal.returns-in-Took
returns-in-Took c = λ id.
    took_written id c.args.self.now.cidr c.args.self.now.picks c.args.self.now.left c.args.amount.now c.get.result
    c.of-in-Took.result c.in-Took.field-0 _ c.new.result (sym c.of.ensures ∙ c.in-Took.is) (c.new.ensures id)
    (c.of-in-Took.ensures ∙ c.get-in-Took.ensures.value) c.get.ensures.value
