use Rattle.std.proofs.Common.{arith, ◌∙◌}
use Rattle.ipam_shared.specs.Steps.{IsStep}
use Rattle.ipam_shared.proofs.Ending.{far-ends, far-on, no-steps, runs-now}
use Rattle.ipam_shared.proofs.StepLemmas.{err-both, err-pair, told-none, told-some}
use Rattle.ipam_shared.proofs.steps.AloneGoingKept.step.Goals as goal

pub returns-clause-runs : goal.returns-clause-runs
returns-clause-runs g c =
    told-none (IsStep g.D.Keeper.rows g.D.Keeper.faults c.args.self.now.request.now c.args.kept.now c.step.new.kept) c.step.result c.step.ensures.stepped (λ step. record {
      sound = c.requires.sound;
      no_grace = c.requires.no_grace;
      runs = runs-now g.D.Keeper.rows g.D.Keeper.faults c.args.self.now.request.now c.args.kept.now c.step.new.kept c.requires.runs
          (far-on g.D.Keeper.rows g.D.Keeper.faults c.args.self.now.request.now c.args.kept.now c.args.kept.now c.step.new.kept (no-steps g.D.Keeper.rows g.D.Keeper.faults c.args.self.now.request.now c.args.kept.now) step);
    })

pub returns-clause-fewer : goal.returns-clause-fewer
returns-clause-fewer g c =
    told-none (IsStep g.D.Keeper.rows g.D.Keeper.faults c.args.self.now.request.now c.args.kept.now c.step.new.kept) c.step.result c.step.ensures.stepped (λ step. let few = step.counts.few in let more = step.counts.one_more in omega arith)

pub returns-clause-goes : goal.returns-clause-goes
returns-clause-goes g c =
    told-none (IsStep g.D.Keeper.rows g.D.Keeper.faults c.args.self.now.request.now c.args.kept.now c.step.new.kept) c.step.result c.step.ensures.stepped (λ step start went. record {
      far = far-on g.D.Keeper.rows g.D.Keeper.faults c.args.self.now.request.now start c.args.kept.now c.step.new.kept went.far step;
      same = c.step.ensures.same ∙ went.same;
    })

pub returns-clause-ends : goal.returns-clause-ends
returns-clause-ends g c =
    told-some (IsStep g.D.Keeper.rows g.D.Keeper.faults c.args.self.now.request.now c.args.kept.now c.step.new.kept) _
    c.step.result c.step.ensures.stepped (λ told step start went. record {
      ends = far-ends g.D.Keeper.rows g.D.Keeper.faults c.args.self.now.request.now start c.args.kept.now c.step.new.kept told went.far step;
      same = c.step.ensures.same ∙ went.same;
    })

pub returns-clause-wants : goal.returns-clause-wants
returns-clause-wants g c =
    err-both c.step.result (err-pair _ _ c.step.result c.step.ensures.unchanged c.step.ensures.no_step) c.step.ensures.wants (λ both found start went. (
      record {
        before = c.args.kept.now;
        went = went;
        unchanged = both.0;
        no_step = both.1;
        same = c.step.ensures.same;
      },
      found,
    ))
