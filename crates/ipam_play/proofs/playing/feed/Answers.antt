use Rattle.std.proofs.Common.{ap, inl, inr, refl}
use Rattle.ipam_model.specs.CourseLaw.{event_of}
use Rattle.ipam_model.specs.declared.entry.Entry.TheVariants as entry
use Rattle.ipam_cluster.proofs.Standing.{unchanged_stands}
use Rattle.ipam_play.specs.declared.cluster.OpenCluster.{OpenCluster}
use Rattle.ipam_play.specs.declared.fault.PlayFault.TheVariants as fault
use Rattle.ipam_play.proofs.Happenings.{exit_stops, one_noted, one_stops}
use Rattle.ipam_play.proofs.Making.{makes}
use Rattle.ipam_play.proofs.Timings.{begins_none, timed_on, timed_unchanged}
use Rattle.ipam_play.proofs.playing.feed.Goals as goal

pub returns-in_err-may_feed-clause-comes : goal.returns-in_err-may_feed-clause-comes
returns-in_err-may_feed-clause-comes c =
    exit_stops _ _ _ _ _ _ c.in_err-may_feed.field-0.0 c.from_residual.ensures.1 (λ base history h. h) refl (inr (c.in_err-may_feed.ensures.refused c.args.live.now))

pub returns-in_err-make_room-clause-comes : goal.returns-in_err-make_room-clause-comes
returns-in_err-make_room-clause-comes c =
    exit_stops _ _ _ _ _ _ c.in_err-make_room.field-0.0 c.from_residual-in_err-make_room.ensures.1 (λ base history h. h) c.make_room.ensures.journal (inl (c.in_err-make_room.ensures.fault, c.in_ok-may_feed.ensures.may c.args.live.now))

pub returns-in_err-may_feed-clause-timed : goal.returns-in_err-may_feed-clause-timed
returns-in_err-may_feed-clause-timed c = c.requires.standing.1

pub returns-in_err-make_room-clause-timed : goal.returns-in_err-make_room-clause-timed
returns-in_err-make_room-clause-timed c = c.requires.standing.1

pub returns-in-Err-clause-comes : goal.returns-in-Err-clause-comes
returns-in-Err-clause-comes c =
    one_stops _ _ _ _ _ fault.Memory (unchanged_stands c.args.cluster.now.cluster c.feed.new.self c.in-Err.ensures.unchanged) c.make_room.ensures.journal (inl (refl, c.in_ok-may_feed.ensures.may c.args.live.now))

pub returns-in-Err-clause-timed : goal.returns-in-Err-clause-timed
returns-in-Err-clause-timed c =
    let new : OpenCluster = record { cluster = c.feed.new.self; at = c.args.cluster.now.at; grace = c.args.cluster.now.grace } in
    timed_unchanged c.args.cluster.now new c.requires.standing.1 c.in-Err.ensures.unchanged refl refl

pub returns-in-Ok-clause-comes : goal.returns-in-Ok-clause-comes
returns-in-Ok-clause-comes c =
    one_noted _ _ _ _ _ _ c.in-Ok.entry (makes c.args.cluster.now.cluster c.feed.new.self _ c.in-Ok.entry (ap event_of c.in-Ok.ensures.entry) c.in-Ok.ensures.adds) c.note.ensures.items c.make_room.ensures.journal

pub returns-in-Ok-clause-timed : goal.returns-in-Ok-clause-timed
returns-in-Ok-clause-timed c =
    let new : OpenCluster = record { cluster = c.feed.new.self; at = c.args.cluster.now.at; grace = c.args.cluster.now.grace } in
    timed_on c.args.cluster.now new c.in-Ok.entry c.requires.standing c.in-Ok.ensures.adds (begins_none c.in-Ok.entry (entry.Fed c.args.slot c.args.at c.args.live.now) c.in-Ok.ensures.entry tt) refl refl
