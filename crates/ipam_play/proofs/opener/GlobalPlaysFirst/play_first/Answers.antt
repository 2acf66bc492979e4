use Rattle.std.proofs.lemmas.Result.{err_from_is_err_and}
use Rattle.ipam_play.proofs.Players.{first_begins, first_cause}
use Rattle.ipam_play.proofs.Steps.{comes_of, first_kept, still_stood}
use Rattle.ipam_play.proofs.opener.GlobalPlaysFirst.play_first.Goals as goal

pub returns-in_err-play_line-clause-cause : goal.returns-in_err-play_line-clause-cause
returns-in_err-play_line-clause-cause c = λ base store events opened stands is.
    let p = err_from_is_err_and c.from_residual.result c.from_residual.ensures.1 in
    let cause = first_cause base store c.args.cluster c.play_line.new.cluster _ _ opened stands c.play_line.result c.args.line.now events is
    (comes_of _ _ _ _ _ c.args.line.now events is c.play_line.ensures.events) in
    rw (p.1, p.2) (rw c.in_err-play_line.was at cause)

pub returns-in_err-play_line-clause-kept : goal.returns-in_err-play_line-clause-kept
returns-in_err-play_line-clause-kept c = λ base store opened stands.
    let p = err_from_is_err_and c.from_residual.result c.from_residual.ensures.1 in
    let kept = first_kept base store c.args.cluster c.play_line.new.cluster _ _ opened stands c.play_line.result c.args.line.now c.play_line.ensures.events c.play_line.ensures.journal in
    rw p.1 (rw c.in_err-play_line.was at kept)

pub returns-clause-begun : goal.returns-clause-begun
returns-clause-begun c = λ base store events opened stands is.
    rw c.in_ok-play_line.was at (first_begins base store c.args.cluster c.play_line.new.cluster _ _ opened stands c.play_line.result events
    (comes_of _ _ _ _ _ c.args.line.now events is c.play_line.ensures.events))

pub returns-clause-standing : goal.returns-clause-standing
returns-clause-standing c =
    (still_stood c.play_line.result _ _ _ _ _ c.play_line.ensures.events c.play_line.ensures.kept c.requires.standing.0, c.play_line.ensures.timed)
