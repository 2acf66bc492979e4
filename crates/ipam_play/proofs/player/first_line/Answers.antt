use Rattle.std.proofs.Common.{◌⊎◌, inl, inr}
use Rattle.ipam_play.proofs.Players.{cause_at_first}
use Rattle.ipam_play.proofs.Wants.{either_wants}
use Rattle.ipam_play.proofs.player.first_line.Goals as goal

pub returns-in-Ok-clause-begun : goal.returns-in-Ok-clause-begun
returns-in-Ok-clause-begun g c = λ base events h is.
    let (store, opened, stands) = c.in-Ok.ensures.opens base h in
    c.play_first.ensures.begun base store events opened stands is

pub returns-in-Ok-clause-cause : goal.returns-in-Ok-clause-cause
returns-in-Ok-clause-cause g c = λ base events h is.
    let (store, opened, stands) = c.in-Ok.ensures.opens base h in
    cause_at_first c.play_first.result base store events (c.play_first.ensures.cause base store events opened stands is)

pub returns-in-Ok-clause-kept : goal.returns-in-Ok-clause-kept
returns-in-Ok-clause-kept g c = λ base h.
    let (store, opened, stands) = c.in-Ok.ensures.opens base h in
    c.play_first.ensures.kept base store opened stands

pub returns-in-Ok-clause-want_of_memory_has_its_cause : goal.returns-in-Ok-clause-want_of_memory_has_its_cause
returns-in-Ok-clause-want_of_memory_has_its_cause g c =
    either_wants (g.T.PlaysFirst.wants c.args.alloc) (g.T.OpensBase.wants c.args.alloc ⊎ g.T.PlaysFirst.wants c.args.alloc) c.play_first.result (λ w. inr w) c.play_first.ensures.wants

pub returns-in-Err-clause-want_of_memory_has_its_cause : goal.returns-in-Err-clause-want_of_memory_has_its_cause
returns-in-Err-clause-want_of_memory_has_its_cause g c = λ is. inl (c.in-Err.ensures.want_of_memory_has_its_cause is)
