use Rattle.std.proofs.lemmas.Result.{err_from_is_err_and}
use Rattle.std.proofs.Common.{◌≡◌, ℕ, arith, subst}
use Rattle.std.specs.Prelude.{replicate}
use Rattle.ipam_model.specs.declared.entry.Fate.TheVariants.{Well}
use Rattle.ipam_model.specs.Course.{Turn}
use Rattle.ipam_play.specs.Events.{Happens}
use Rattle.ipam_play.proofs.Happenings.{happens_again, happens_stood, nothing_happens, stops_again}
use Rattle.ipam_play.proofs.playing.turns.Goals as goal

pub loop-done-init : goal.loop-done-init
loop-done-init c = record { happens = nothing_happens _ _; standing = c.requires.standing }

pub returns-in_err-turn-clause-comes : goal.returns-in_err-turn-clause-comes
returns-in_err-turn-clause-comes c =
    let p = err_from_is_err_and c.from_residual.result c.from_residual.ensures.1 in
    rw (p.1, p.2) (stops_again _ _ _ _ _ _ _ _ _ c.in_err-turn.field-0.0 c.loop-done-test.true c.loop-done.invariant.happens c.in_err-turn.ensures.comes)

pub loop-done-preserved : goal.loop-done-preserved
loop-done-preserved c = record {
  happens = happens_again _ _ _ _ _ _ _ _ c.loop-done.invariant.happens c.in_ok-turn.ensures.comes;
  standing = (happens_stood _ _ _ _ _ c.loop-done.invariant.standing.0 c.in_ok-turn.ensures.comes, c.turn.ensures.timed);
}

pub returns-clause-comes : goal.returns-clause-comes
returns-clause-comes c =
    let all : c.loop-done.done ≡ c.args.count = omega arith in
    subst (λ (n : ℕ). Happens c.args.cluster.now.cluster c.loop-done.cluster.cluster c.args.journal.now.items c.loop-done.journal.items (replicate n (Turn c.args.slot Well))) all c.loop-done.invariant.happens
