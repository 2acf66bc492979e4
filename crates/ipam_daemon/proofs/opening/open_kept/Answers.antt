use Rattle.std.proofs.Common.{sym, ◌∙◌}
use Rattle.ipam_daemon.proofs.Ended.{of_want}
use Rattle.ipam_daemon.proofs.opening.open_kept.Goals as goal

pub returns-in-Err-clause-want_of_memory_has_its_cause : goal.returns-in-Err-clause-want_of_memory_has_its_cause
returns-in-Err-clause-want_of_memory_has_its_cause g c =
    λ is. c.in-Err.ensures.want_of_memory_has_its_cause (of_want c.in-Err.fault (sym c.end_of.ensures ∙ is))
