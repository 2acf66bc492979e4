use Rattle.std.proofs.Common.{refl}
use Rattle.ipam_shared.proofs.Ending.{no-steps, with-begun}
use Rattle.ipam_shared.proofs.Running.{on-ok-then}
use Rattle.ipam_shared.proofs.StepLemmas.{err-both}
use Rattle.ipam_shared.proofs.steps.AloneGoingKept.begin.Goals as goal

pub returns-clause-begins : goal.returns-clause-begins
returns-clause-begins g c =
    on-ok-then c.begin.result c.begin.ensures.begun (λ keeps. record { keeps = keeps; keeper = c.begin.ensures.keeper })

pub returns-clause-runs : goal.returns-clause-runs
returns-clause-runs g c =
    on-ok-then c.begin.result c.begin.ensures.begun (λ keeps. record {
      sound = c.requires.sound;
      no_grace = c.requires.no_grace;
      runs = with-begun g.D.Keeper.rows c.args.kept.now c.begin.new.kept c.args.self.now.request.now c.requires.kept keeps;
    })

pub returns-clause-goes : goal.returns-clause-goes
returns-clause-goes g c =
    on-ok-then c.begin.result c.begin.ensures.begun (λ keeps. record {
      far = no-steps g.D.Keeper.rows g.D.Keeper.faults c.args.self.now.request.now c.begin.new.kept;
      same = refl;
    })

pub returns-clause-unbegun : goal.returns-clause-unbegun
returns-clause-unbegun g c =
    err-both c.begin.result c.begin.ensures.unchanged c.begin.ensures.wants (λ stays found. (record { unchanged = stays; keeper = c.begin.ensures.keeper }, found))
