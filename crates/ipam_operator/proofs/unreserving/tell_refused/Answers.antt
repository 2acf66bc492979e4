use Rattle.std.proofs.lemmas.Bool.{ne_eqb}
use Rattle.ipam_operator.proofs.unreserving.tell_refused.Goals as goal

pub returns-then-number-eq-NO_RESERVATION-clause-told : goal.returns-then-number-eq-NO_RESERVATION-clause-told
returns-then-number-eq-NO_RESERVATION-clause-told g c =
    rw c.if-number-eq-NO_RESERVATION.true c.tell.ensures.written

pub returns-else-number-eq-NO_RESERVATION-clause-told : goal.returns-else-number-eq-NO_RESERVATION-clause-told
returns-else-number-eq-NO_RESERVATION-clause-told g c =
    rw (ne_eqb _ _ c.if-number-eq-NO_RESERVATION.false) c.tell-else-number-eq-NO_RESERVATION.ensures.written
