use Rattle.std.proofs.Common.{List, [], ◌∷◌, ◌++◌, sym, ap, ◌∙◌, subst, rules}
use Rattle.std.proofs.lemmas.Iterator.Adapters.{YieldsList-from_vec}
use Rattle.std.proofs.lemmas.Iterator.Consumers.{YieldsList-end}
use Rattle.std.proofs.lemmas.List.{map-id}
use Rattle.ipam_records.specs.Datastore.{Datastore}
use Rattle.ipam_resources.specs.declared.resource.Resource.{Resource}
use Rattle.ipam_commands.specs.declared.step.Step.TheVariants.{Ended}
use Rattle.ipam_commands.specs.Applying.{AreApplied}
use Rattle.ipam_commands.proofs.Readiness.{ready-rows}
use Rattle.ipam_commands.proofs.Runs.{all-end, applied-one, given-left, one-end, took-one}
use Rattle.ipam_commands.proofs.resources.run.Goals as goal

pub loop-resource-preserved : goal.loop-resource-preserved
loop-resource-preserved g c =
    let h = c.loop-resource.invariant in
    let done = c.in-Applied.ensures.ended in
    record {
      applied = subst (λ (s : Datastore). AreApplied c.args.kept.now.cluster.store.store (c.loop-resource.yielded ++ c.in-Some.resource ∷ []) s) (sym c.in-Applied.ensures.store)
          (applied-one c.args.kept.now.cluster.store.store c.loop-resource.yielded c.loop-resource.kept.cluster.store.store c.in-Some.resource h.applied done.0);
      took = took-one _ _ _ c.loop-resource.yielded c.in-Some.resource h.took done.2;
      ready = c.in-Applied.ensures.ready;
      same = c.in-Applied.ensures.same ∙ h.same;
      rest = c.in-Applied.ensures.rest ∙ h.rest;
    }

pub returns-in-Ended-clause-ended : goal.returns-in-Ended-clause-ended
returns-in-Ended-clause-ended g c =
    let h = c.loop-resource.invariant in
    let first = c.into_iter-resource-iterator.result in
    let given = given-left first c.loop-resource.yielded c.loop-resource.resource-iterator c.loop-resource.yielded_by in
    let next = c.in-Some.ensures.steps.0 in
    one-end c.args.kept.now.cluster.store.store c.args.resources.items c.loop-resource.yielded c.in-Some.resource _ c.loop-resource.kept.cluster.store.store _ _ _ c.in-Ended.end
    (sym c.into_iter-resource-iterator.ensures.into_iter_gives.0 ∙ given ∙ ap (λ (xs : List Resource). c.loop-resource.yielded ++ xs) next)
    h.applied h.took c.in-Ended.ensures.ended

pub returns-in-Ended-clause-want_of_memory_has_its_cause : goal.returns-in-Ended-clause-want_of_memory_has_its_cause
returns-in-Ended-clause-want_of_memory_has_its_cause g c = λ is. c.in-Ended.ensures.want_of_memory_has_its_cause (ap Ended is)

pub returns-clause-ended : goal.returns-clause-ended
returns-clause-ended g c =
    let h = c.loop-resource.invariant in
    let end =
    YieldsList-end (YieldsList-from_vec {s = c.into_iter-resource-iterator.result} c.args.resources.items (search rules) (search rules))
    c.loop-resource.yielded c.loop-resource.resource-iterator c.loop-resource.yielded_by c.next.result c.next.new.self c.in-None.is c.next.ensures.steps in
    all-end c.args.kept.now.cluster.store.store c.args.resources.items c.loop-resource.yielded c.loop-resource.kept.cluster.store.store _ _
    (sym (map-id c.loop-resource.yielded) ∙ end.0) h.applied h.took (ready-rows g.D.Keeper.rows c.loop-resource.kept h.ready)
