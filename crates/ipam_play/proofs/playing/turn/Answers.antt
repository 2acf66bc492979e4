use Rattle.std.proofs.Common.{inl, inr, refl}
use Rattle.ipam_model.specs.declared.entry.Entry.TheVariants as entry
use Rattle.ipam_cluster.proofs.Standing.{unchanged_stands, unchanged_stood}
use Rattle.ipam_play.specs.declared.cluster.OpenCluster.{OpenCluster}
use Rattle.ipam_play.specs.declared.fault.PlayFault.TheVariants as fault
use Rattle.ipam_play.proofs.Happenings.{exit_stops, one_noted, one_stops}
use Rattle.ipam_play.proofs.Making.{turn_made}
use Rattle.ipam_play.proofs.Timings.{begins_none, timed_on, timed_unchanged}
use Rattle.ipam_play.proofs.playing.turn.Goals as goal

pub returns-in_err-may_turn-clause-comes : goal.returns-in_err-may_turn-clause-comes
returns-in_err-may_turn-clause-comes c =
    exit_stops _ _ _ _ _ _ c.in_err-may_turn.field-0.0 c.from_residual.ensures.1 (λ base history h. h) refl (inr (c.in_err-may_turn.ensures.refused c.args.fate))

pub returns-in_err-make_room-clause-comes : goal.returns-in_err-make_room-clause-comes
returns-in_err-make_room-clause-comes c =
    exit_stops _ _ _ _ _ _ c.in_err-make_room.field-0.0 c.from_residual-in_err-make_room.ensures.1 (λ base history h. h) c.make_room.ensures.journal (inl (c.in_err-make_room.ensures.fault, c.in_ok-may_turn.ensures.may c.args.fate))

pub returns-in_err-may_turn-clause-timed : goal.returns-in_err-may_turn-clause-timed
returns-in_err-may_turn-clause-timed c = c.requires.standing.1

pub returns-in_err-make_room-clause-timed : goal.returns-in_err-make_room-clause-timed
returns-in_err-make_room-clause-timed c = c.requires.standing.1

pub returns-in-Err-clause-comes : goal.returns-in-Err-clause-comes
returns-in-Err-clause-comes c =
    one_stops _ _ _ _ _ fault.Memory (unchanged_stands c.args.cluster.now.cluster c.prepare.new.self c.prepare.ensures.unchanged) c.make_room.ensures.journal (inl (refl, c.in_ok-may_turn.ensures.may c.args.fate))

pub returns-in-Err-clause-timed : goal.returns-in-Err-clause-timed
returns-in-Err-clause-timed c =
    let new : OpenCluster = record { cluster = c.prepare.new.self; at = c.args.cluster.now.at; grace = c.args.cluster.now.grace } in
    timed_unchanged c.args.cluster.now new c.requires.standing.1 c.prepare.ensures.unchanged refl refl

pub returns-in-Ok-clause-comes : goal.returns-in-Ok-clause-comes
returns-in-Ok-clause-comes c =
    one_noted _ _ _ _ _ _ c.commit.result
    (turn_made c.args.cluster.now.cluster c.prepare.new.self c.commit.new.self c.args.slot c.in-Ok.prepared.slot c.args.fate c.commit.result c.in-Ok.ensures.slot c.prepare.ensures.unchanged c.commit.ensures.entry c.commit.ensures.adds)
    c.note.ensures.items c.make_room.ensures.journal

pub returns-in-Ok-clause-timed : goal.returns-in-Ok-clause-timed
returns-in-Ok-clause-timed c =
    let mid : OpenCluster = record { cluster = c.prepare.new.self; at = c.args.cluster.now.at; grace = c.args.cluster.now.grace } in
    let new : OpenCluster = record { cluster = c.commit.new.self; at = c.args.cluster.now.at; grace = c.args.cluster.now.grace } in
    let stood = unchanged_stood c.args.cluster.now.cluster c.prepare.new.self c.prepare.ensures.unchanged c.requires.standing.0 in
    let timed = timed_unchanged c.args.cluster.now mid c.requires.standing.1 c.prepare.ensures.unchanged refl refl in
    let told = c.commit.ensures.entry in
    timed_on mid new c.commit.result (stood, timed) c.commit.ensures.adds (begins_none c.commit.result (entry.Called told.told) told.is_called tt) refl refl
