use Rattle.std.proofs.Common.{ap, inl, inr, refl}
use Rattle.ipam_model.specs.CourseLaw.{event_of}
use Rattle.ipam_cluster.specs.Cluster.{state_in}
use Rattle.ipam_play.specs.declared.fault.PlayFault.TheVariants as fault
use Rattle.ipam_play.proofs.MayHappen.{stop_told_idle}
use Rattle.ipam_play.proofs.Making.{makes}
use Rattle.ipam_play.proofs.Happenings.{exit_stops, one_noted, one_stops}
use Rattle.ipam_play.proofs.playing.stop.Goals as goal

pub returns-in_err-may_stop-clause-comes : goal.returns-in_err-may_stop-clause-comes
returns-in_err-may_stop-clause-comes c =
    exit_stops _ _ _ _ _ _ c.in_err-may_stop.field-0.0 c.from_residual.ensures.1 (λ base history h. h) refl (inr c.in_err-may_stop.ensures.refused)

pub returns-in_err-make_room-clause-comes : goal.returns-in_err-make_room-clause-comes
returns-in_err-make_room-clause-comes c =
    exit_stops _ _ _ _ _ _ c.in_err-make_room.field-0.0 c.from_residual-in_err-make_room.ensures.1 (λ base history h. h) c.make_room.ensures.journal (inl (c.in_err-make_room.ensures.fault, c.in_ok-may_stop.ensures.may))

pub returns-in-None-clause-comes : goal.returns-in-None-clause-comes
returns-in-None-clause-comes c =
    one_stops _ _ _ _ _ fault.Idle c.in-None.ensures.kept c.make_room.ensures.journal
    (inr (stop_told_idle c.args.cluster.now.cluster c.args.slot (ap state_in (c.in-None.ensures.idle.0 refl))))

pub returns-in-Some-clause-comes : goal.returns-in-Some-clause-comes
returns-in-Some-clause-comes c =
    one_noted _ _ _ _ _ _ c.in-Some.entry (makes _ _ _ c.in-Some.entry (ap event_of c.in-Some.ensures.entry) c.in-Some.ensures.adds) c.note.ensures.items c.make_room.ensures.journal

pub returns-in_err-may_stop-clause-timed : goal.returns-in_err-may_stop-clause-timed
returns-in_err-may_stop-clause-timed c = c.requires.timed

pub returns-in_err-make_room-clause-timed : goal.returns-in_err-make_room-clause-timed
returns-in_err-make_room-clause-timed c = c.requires.timed

pub returns-in-None-clause-timed : goal.returns-in-None-clause-timed
returns-in-None-clause-timed c = c.stop.ensures.timed c.requires.timed

pub returns-in-Some-clause-timed : goal.returns-in-Some-clause-timed
returns-in-Some-clause-timed c = c.stop.ensures.timed c.requires.timed
