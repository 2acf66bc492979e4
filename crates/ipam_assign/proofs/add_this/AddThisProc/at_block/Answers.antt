use Rattle.std.proofs.Common.{◌∙◌, ◌<◌, ◌-◌, ◌^◌, ap, sym, subst, ℕ}
use Rattle.ipam_addr.specs.Shape.{CidrValue}
use Rattle.ipam_addr.specs.Width.{cidr_size}
use Rattle.ipam_block.specs.Shape.{BlockValue}
use Rattle.ipam_records.specs.declared.key.Key.TheVariants as key
use Rattle.ipam_records.specs.Said.{said}
use Rattle.ipam_model.specs.Reads.{block_said}
use Rattle.ipam_parts.proofs.HearingFacts.{found_block_counted}
use Rattle.ipam_parts.proofs.QueueFacts.{holds_of_some}
use Rattle.ipam_parts.specs.Reading.{lent_block}
use Rattle.ipam_assign.proofs.FoundLemmas.{found_cidr, free_at}
use Rattle.ipam_assign.proofs.add_this.AddThisProc.at_block.Goals as goal

pub at_free-requires-clause-own : goal.at_free-requires-clause-own
at_free-requires-clause-own c =
    subst (λ (r : CidrValue). c.args.ruled.now.place.address.number - c.args.ruled.now.place.cidr.base < cidr_size r)
    (sym (found_cidr c.args.ruled.now.place.cidr (said c.args.hearing.now.reply) c.in-Some.revision c.in-Some.block.now c.requires.0
    (sym c.block_in.ensures ∙ ap lent_block c.in-Some.is)))
    (subst (λ (n : ℕ). n < cidr_size c.args.ruled.now.place.cidr) c.ordinal.ensures.value c.ordinal.ensures.within)

pub at_free-requires-clause-free : goal.at_free-requires-clause-free
at_free-requires-clause-free c =
    free_at c.in-Some.block.now c.ordinal.result
    (c.args.ruled.now.place.address.number - c.args.ruled.now.place.cidr.base) c.in-None-holder.ensures c.ordinal.ensures.value

pub at_free-requires-clause-counted : goal.at_free-requires-clause-counted
at_free-requires-clause-counted c =
    holds_of_some (λ (f : ℕ × BlockValue). f.1.sequence < 2 ^ 62) (block_said (said c.args.hearing.now.reply))
    (c.in-Some.revision, c.in-Some.block.now) (sym c.block_in.ensures ∙ ap lent_block c.in-Some.is)
    (found_block_counted (key.Block c.args.ruled.now.place.cidr) (said c.args.hearing.now.reply) c.requires.0)
