use Rattle.std.proofs.Common.{List, ◌++◌, sym, ap, ◌∙◌, rules}
use Rattle.std.proofs.lemmas.Iterator.Adapters.{YieldsList-from_vec}
use Rattle.std.proofs.lemmas.Iterator.Consumers.{YieldsList-end}
use Rattle.std.proofs.lemmas.List.{map-id}
use Rattle.ipam_resources.specs.declared.resource.Resource.{Resource}
use Rattle.ipam_operator.specs.Applying.{UpTo}
use Rattle.ipam_operator.proofs.Runs.{all-end, applied-one, given-left}
use Rattle.ipam_operator.proofs.applying.apply_all.Goals as goal

pub loop-resource-preserved : goal.loop-resource-preserved
loop-resource-preserved g c =
    let h = c.loop-resource.invariant in
    let done = c.apply_one.ensures.ended in
    record {
      applied = applied-one c.loop-resource.yielded c.in-Some.resource done.0 _ _ _ h.applied (rw c.in-Done.is at done.1);
      rest = c.apply_one.ensures.rest ∙ h.rest;
    }

pub returns-clause-ended : goal.returns-clause-ended
returns-clause-ended g c =
    let h = c.loop-resource.invariant in
    let end =
    YieldsList-end (YieldsList-from_vec {s = c.into_iter-resource-iterator.result} c.args.resources.items (search rules) (search rules))
    c.loop-resource.yielded c.loop-resource.resource-iterator c.loop-resource.yielded_by c.next.result c.next.new.self c.in-None.is c.next.ensures.steps in
    all-end c.args.resources.items c.loop-resource.yielded _ _ (sym (map-id c.loop-resource.yielded) ∙ end.0) h.applied

pub returns-in_default : goal.returns-in_default
returns-in_default g c =
    let h = c.loop-resource.invariant in
    let first = c.into_iter-resource-iterator.result in
    let given = given-left first c.loop-resource.yielded c.loop-resource.resource-iterator c.loop-resource.yielded_by in
    let next = c.in-Some.ensures.steps.0 in
    let done = c.apply_one.ensures.ended in
    record {
      ended = UpTo c.loop-resource.yielded c.in-Some.resource _ _ done.0 _
          (sym c.into_iter-resource-iterator.ensures.into_iter_gives.0 ∙ given ∙ ap (λ (xs : List Resource). c.loop-resource.yielded ++ xs) next)
          h.applied done.1 c.in_default.not-Done;
      rest = c.apply_one.ensures.rest ∙ h.rest;
    }
