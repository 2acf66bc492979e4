use Rattle.std.proofs.Common.{◌≡◌, arith, inl, refl}
use Rattle.ipam_play.proofs.Happenings.{exit_stops}
use Rattle.ipam_play.proofs.Restarts.{busy_cleared, idle_cleared, nothing_cleared, restarted}
use Rattle.ipam_play.proofs.playing.restart.Goals.{in-Some, in_default}
use Rattle.ipam_play.proofs.playing.restart.Goals as goal

pub returns-in_err-make_room-clause-comes : goal.returns-in_err-make_room-clause-comes
returns-in_err-make_room-clause-comes c =
    exit_stops _ _ _ _ _ _ c.in_err-make_room.field-0.0 c.from_residual.ensures.1 (λ base history h. h) c.make_room.ensures.journal (inl (c.in_err-make_room.ensures.fault, λ base history h. (_, refl)))

pub loop-slot-init : goal.loop-slot-init
loop-slot-init c = record { cleared = nothing_cleared _ _; room = omega (arith, c.in_ok-make_room.ensures.room); timed = c.requires }

pub loop-slot-preserved : goal.loop-slot-preserved
loop-slot-preserved c =
    let below = c.loop-slot-test.true in
    let room = c.loop-slot.invariant.room in
    elim c.match-stop.branch [
      | in-Some w ↦
          let len = w.note.ensures.len in
          let capacity = w.note.ensures.capacity in
          rw w.journal-is (record {
            cleared = busy_cleared _ c.loop-slot.cluster.cluster _ _ c.loop-slot.journal.items _ c.loop-slot.slot w.in-Some.entry c.loop-slot.invariant.cleared
                (λ e. cc (w.in-Some.ensures.idle.1 e)) w.in-Some.ensures.entry w.in-Some.ensures.adds c.stop.ensures.others w.note.ensures.items;
            room = omega (arith, room, below, len, capacity);
            timed = c.stop.ensures.timed c.loop-slot.invariant.timed;
          })
      | in_default w ↦ rw w.journal-is (record {
        cleared = idle_cleared _ c.loop-slot.cluster.cluster _ _ c.loop-slot.journal.items c.loop-slot.slot c.loop-slot.invariant.cleared
            (w.in_default.ensures.idle.0 refl) w.in_default.ensures.kept c.stop.ensures.others;
        room = omega (arith, room, below);
        timed = c.stop.ensures.timed c.loop-slot.invariant.timed;
      })
    ]

pub returns-clause-comes : goal.returns-clause-comes
returns-clause-comes c =
    let all : c.loop-slot.slot ≡ 64 = omega (arith, c.loop-slot-test.false, c.loop-slot.auto.slot-end) in
    restarted _ _ _ _ _ _ c.loop-slot.invariant.cleared all c.make_room.ensures.journal
