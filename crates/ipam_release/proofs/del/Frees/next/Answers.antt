use Rattle.std.proofs.Common.{◌≡◌, ◌∷◌}
use Rattle.ipam_parts.proofs.QueueFacts.{holds_of_some}
use Rattle.ipam_release.proofs.DelLemmas.{begins_next, goes_on_next}
use Rattle.ipam_release.proofs.del.Frees.next.Goals as goal

pub returns-in-Some-clause-on : goal.returns-in-Some-clause-on
returns-in-Some-clause-on c =
    let taken = holds_of_some (λ first. c.args.self.now.blocks.items ≡ first ∷ c.first_of.new.queue.items) _ _ c.in-Some.is c.first_of.ensures.some in
    λ id. begins_next id c.args.self.now.moment c.args.self.now.blocks.items c.first_of.new.queue.items c.in-Some.cidr c.args.left
    c.new.result taken (c.new.ensures id)

pub returns-in-Some-clause-answer : goal.returns-in-Some-clause-answer
returns-in-Some-clause-answer c =
    let taken = holds_of_some (λ first. c.args.self.now.blocks.items ≡ first ∷ c.first_of.new.queue.items) _ _ c.in-Some.is c.first_of.ensures.some in
    λ id. goes_on_next id c.args.self.now.moment c.args.self.now.blocks.items c.first_of.new.queue.items c.in-Some.cidr c.args.left
    c.new.result taken (c.new.ensures id)
