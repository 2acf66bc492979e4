use Rattle.ipam_shared.proofs.Running.{Came, came-answered, came-can, came-idle, came-kept, came-same, either-then, err-then, has-cause, ok-then, wanted-idle, wanted-kept, wanted-same, wanted-stopped}
use Rattle.ipam_shared.proofs.solo.run_alone.Goals as goal

pub run-requires : goal.run-requires
run-requires g c = record {
  sound = c.requires.sound;
  no_grace = c.requires.no_grace;
  idle = c.requires.idle;
  kept = c.requires.kept;
}

pub returns-clause-answered : goal.returns-clause-answered
returns-clause-answered g c =
    ok-then (Came g.D.Keeper.rows g.D.Keeper.faults g.D.Keeper.name c.args.request.now c.args.kept.now c.run.new.kept) _ c.run.result c.run.ensures.ended
    (came-answered g.D.Keeper.rows g.D.Keeper.faults g.D.Keeper.name c.args.request.now c.args.kept.now c.run.new.kept (record { sound = c.requires.sound; no_grace = c.requires.no_grace; idle = c.requires.idle; kept = c.requires.kept }))

pub returns-clause-can_answer : goal.returns-clause-can_answer
returns-clause-can_answer g c =
    ok-then (Came g.D.Keeper.rows g.D.Keeper.faults g.D.Keeper.name c.args.request.now c.args.kept.now c.run.new.kept) _ c.run.result c.run.ensures.ended
    (came-can g.D.Keeper.rows g.D.Keeper.faults g.D.Keeper.name c.args.request.now c.args.kept.now c.run.new.kept (record { sound = c.requires.sound; no_grace = c.requires.no_grace; idle = c.requires.idle; kept = c.requires.kept }))

pub returns-clause-stopped : goal.returns-clause-stopped
returns-clause-stopped g c =
    err-then c.run.result c.run.ensures.wants
    (wanted-stopped g.D.Keeper.rows g.D.Keeper.faults g.D.Keeper.name c.args.request.now c.args.kept.now c.run.new.kept (g.T.MakesSteps.wants c.args.alloc) (record { sound = c.requires.sound; no_grace = c.requires.no_grace; idle = c.requires.idle; kept = c.requires.kept }))

pub returns-clause-want_of_memory_has_its_cause : goal.returns-clause-want_of_memory_has_its_cause
returns-clause-want_of_memory_has_its_cause g c =
    err-then c.run.result c.run.ensures.wants
    (has-cause g.D.Keeper.rows g.D.Keeper.faults g.D.Keeper.name c.args.request.now c.args.kept.now c.run.new.kept (g.T.MakesSteps.wants c.args.alloc))

pub returns-clause-idle : goal.returns-clause-idle
returns-clause-idle g c =
    either-then (Came g.D.Keeper.rows g.D.Keeper.faults g.D.Keeper.name c.args.request.now c.args.kept.now c.run.new.kept) c.run.result c.run.ensures.ended c.run.ensures.wants
    (came-idle g.D.Keeper.rows g.D.Keeper.faults g.D.Keeper.name c.args.request.now c.args.kept.now c.run.new.kept (record { sound = c.requires.sound; no_grace = c.requires.no_grace; idle = c.requires.idle; kept = c.requires.kept }))
    (wanted-idle g.D.Keeper.rows g.D.Keeper.faults g.D.Keeper.name c.args.request.now c.args.kept.now c.run.new.kept (g.T.MakesSteps.wants c.args.alloc) (record { sound = c.requires.sound; no_grace = c.requires.no_grace; idle = c.requires.idle; kept = c.requires.kept }))

pub returns-clause-kept : goal.returns-clause-kept
returns-clause-kept g c =
    either-then (Came g.D.Keeper.rows g.D.Keeper.faults g.D.Keeper.name c.args.request.now c.args.kept.now c.run.new.kept) c.run.result c.run.ensures.ended c.run.ensures.wants
    (came-kept g.D.Keeper.rows g.D.Keeper.faults g.D.Keeper.name c.args.request.now c.args.kept.now c.run.new.kept (record { sound = c.requires.sound; no_grace = c.requires.no_grace; idle = c.requires.idle; kept = c.requires.kept }))
    (wanted-kept g.D.Keeper.rows g.D.Keeper.faults g.D.Keeper.name c.args.request.now c.args.kept.now c.run.new.kept (g.T.MakesSteps.wants c.args.alloc) (record { sound = c.requires.sound; no_grace = c.requires.no_grace; idle = c.requires.idle; kept = c.requires.kept }))

pub returns-clause-same : goal.returns-clause-same
returns-clause-same g c =
    either-then (Came g.D.Keeper.rows g.D.Keeper.faults g.D.Keeper.name c.args.request.now c.args.kept.now c.run.new.kept) c.run.result c.run.ensures.ended c.run.ensures.wants
    (came-same g.D.Keeper.rows g.D.Keeper.faults g.D.Keeper.name c.args.request.now c.args.kept.now c.run.new.kept)
    (wanted-same g.D.Keeper.rows g.D.Keeper.faults g.D.Keeper.name c.args.request.now c.args.kept.now c.run.new.kept (g.T.MakesSteps.wants c.args.alloc))
