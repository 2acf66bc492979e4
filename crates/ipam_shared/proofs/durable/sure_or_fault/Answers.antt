use Rattle.std.proofs.Common.{◌≡◌, Err, refl, ap, ◌∙◌}
use Rattle.ipam_keeper.specs.declared.keeper.KeepFault.TheVariants.{Failed, Memory}
use Rattle.ipam_shared.specs.Durable.{Failed as HasFailedNow, Settled}
use Rattle.ipam_shared.proofs.OnceSure.{only-settles}
use Rattle.ipam_shared.proofs.Given.{failed-of, unfailed-of}
use Rattle.ipam_shared.proofs.durable.sure_or_fault.Goals as goal

pub returns-in-Ok-clause-told : goal.returns-in-Ok-clause-told
returns-in-Ok-clause-told g c =
    Settled c.requires refl (only-settles g.D.Keeper.rows c.args.kept.now c.settle.new.kept c.settle.ensures.rest c.settle.ensures.rows c.settle.ensures.unchanged)
    c.in-Ok.ensures.no_fault c.in-Ok.ensures.done

pub returns-in-Err-Failed-clause-told : goal.returns-in-Err-Failed-clause-told
returns-in-Err-Failed-clause-told g c =
    let failed : c.in-Err-Failed.field-0 ≡ Failed = cc (c.in-Err-Failed.field-0-is) in
    HasFailedNow c.requires refl (only-settles g.D.Keeper.rows c.args.kept.now c.settle.new.kept c.settle.ensures.rest c.settle.ensures.rows c.settle.ensures.unchanged)
    (failed-of c.in-Err-Failed.field-0 failed c.in-Err-Failed.ensures.fault)

pub returns-clause-untold : goal.returns-clause-untold
returns-clause-untold g c =
    let none : c.in-Err-Memory.field-0 ≡ Memory = cc (c.in-Err-Memory.field-0-is) in
    record {
      not_fault = c.requires;
      only = only-settles g.D.Keeper.rows c.args.kept.now c.settle.new.kept c.settle.ensures.rest c.settle.ensures.rows c.settle.ensures.unchanged;
      no_fault = unfailed-of c.in-Err-Memory.field-0 none c.in-Err-Memory.ensures.no_fault;
    }

pub returns-clause-wants : goal.returns-clause-wants
returns-clause-wants g c = c.settle.ensures.wants (c.in-Err-Memory.is ∙ ap Err c.in-Err-Memory.field-0-is)
