use Rattle.std.proofs.Common.{◌<◌, ℕ, ap, arith, inl, inr, length, refl}
use Rattle.std.specs.Prelude.{slice_set}
use Rattle.ipam_model.specs.CourseLaw.{event_of}
use Rattle.ipam_model.specs.declared.entry.Entry.TheVariants as entry
use Rattle.ipam_cluster.proofs.Standing.{unchanged_stands}
use Rattle.ipam_play.specs.declared.cluster.OpenCluster.{OpenCluster}
use Rattle.ipam_play.specs.declared.fault.PlayFault.TheVariants as fault
use Rattle.ipam_play.proofs.Happenings.{exit_stops, one_noted, one_stops}
use Rattle.ipam_play.proofs.Making.{makes}
use Rattle.ipam_play.proofs.Timings.{adds_known, timed_began, timed_unchanged}
use Rattle.ipam_play.proofs.playing.begin.Goals as goal

pub returns-in_err-may_begin-clause-comes : goal.returns-in_err-may_begin-clause-comes
returns-in_err-may_begin-clause-comes c =
    exit_stops _ _ _ _ _ _ c.in_err-may_begin.field-0.0 c.from_residual.ensures.1 (λ base history h. h) refl (inr (c.in_err-may_begin.ensures.refused c.args.request.now))

pub returns-in_err-make_room-clause-comes : goal.returns-in_err-make_room-clause-comes
returns-in_err-make_room-clause-comes c =
    exit_stops _ _ _ _ _ _ c.in_err-make_room.field-0.0 c.from_residual-in_err-make_room.ensures.1 (λ base history h. h) c.make_room.ensures.journal (inl (c.in_err-make_room.ensures.fault, c.in_ok-may_begin.ensures.may c.args.request.now))

pub returns-in_err-may_begin-clause-timed : goal.returns-in_err-may_begin-clause-timed
returns-in_err-may_begin-clause-timed c = c.requires.standing.1

pub returns-in_err-make_room-clause-timed : goal.returns-in_err-make_room-clause-timed
returns-in_err-make_room-clause-timed c = c.requires.standing.1

pub returns-in-Err-clause-comes : goal.returns-in-Err-clause-comes
returns-in-Err-clause-comes c =
    one_stops _ _ _ _ _ fault.Memory (unchanged_stands c.args.cluster.now.cluster c.begin.new.self c.in-Err.ensures.unchanged) c.make_room.ensures.journal (inl (refl, c.in_ok-may_begin.ensures.may c.args.request.now))

pub returns-in-Err-clause-timed : goal.returns-in-Err-clause-timed
returns-in-Err-clause-timed c =
    let new : OpenCluster = record { cluster = c.begin.new.self; at = c.args.cluster.now.at; grace = c.args.cluster.now.grace } in
    timed_unchanged c.args.cluster.now new c.requires.standing.1 c.in-Err.ensures.unchanged refl refl

pub returns-in-Ok-clause-comes : goal.returns-in-Ok-clause-comes
returns-in-Ok-clause-comes c =
    one_noted _ _ _ _ _ _ c.in-Ok.entry (makes c.args.cluster.now.cluster c.begin.new.self _ c.in-Ok.entry (ap event_of c.in-Ok.ensures.entry) c.in-Ok.ensures.adds) c.note.ensures.items c.make_room.ensures.journal

pub returns-in-Ok-clause-timed : goal.returns-in-Ok-clause-timed
returns-in-Ok-clause-timed c =
    let new : OpenCluster = record {
      cluster = c.begin.new.self;
      at = slice_set c.args.cluster.now.at c.args.slot c.times_asked-at.result.0;
      grace = slice_set c.args.cluster.now.grace c.args.slot c.times_asked-at.result.1;
    } in
    let adds = adds_known c.args.cluster.now.cluster c.begin.new.self c.begin.new.self c.in-Ok.entry (entry.Began c.args.slot c.args.request.now) c.in-Ok.ensures.entry refl c.in-Ok.ensures.adds in
    let one : c.args.slot < length c.args.cluster.now.at = omega arith in
    let two : c.args.slot < length c.args.cluster.now.grace = omega arith in
    timed_began c.args.cluster.now new c.args.slot c.args.request.now c.requires.standing adds one two
    (ap (λ (t : ℕ × ℕ). slice_set c.args.cluster.now.at c.args.slot t.0) c.times_asked-at.ensures)
    (ap (λ (t : ℕ × ℕ). slice_set c.args.cluster.now.grace c.args.slot t.1) c.times_asked-at.ensures)
