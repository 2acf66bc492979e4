use Rattle.std.proofs.Common.{length, sym, ap, subst}
use Rattle.ipam_opening.proofs.Loads.{IsLoading, counter-fits, load-first, load-next, load-last}
use Rattle.ipam_opening.proofs.load.load.Goals as goal

pub new-store-requires : goal.new-store-requires
new-store-requires c = counter-fits c.args.rows.now c.args.counter c.requires.may

pub loop-reading-init : goal.loop-reading-init
loop-reading-init c = load-first c.args.rows.now c.args.counter c.requires.by_key c.requires.may c.args.readings.items c.new-store.result.store c.requires.read c.new-store.ensures.rows

pub load_reading-requires-clause-sound : goal.load_reading-requires-clause-sound
load_reading-requires-clause-sound c =
    let loads = load-next c.args.rows.now c.args.counter c.requires.by_key c.requires.may c.take_last.new.left.items c.loop-reading.store.store c.loop-reading.left.items c.loop-reading.invariant c.in-Some.reading c.in-Some.ensures.some c.revision_at.result (length c.as_slice.result.now) (ap length c.as_slice.ensures.value) c.revision_at.ensures in
    loads.sound

pub load_reading-requires-clause-room : goal.load_reading-requires-clause-room
load_reading-requires-clause-room c =
    let loads = load-next c.args.rows.now c.args.counter c.requires.by_key c.requires.may c.take_last.new.left.items c.loop-reading.store.store c.loop-reading.left.items c.loop-reading.invariant c.in-Some.reading c.in-Some.ensures.some c.revision_at.result (length c.as_slice.result.now) (ap length c.as_slice.ensures.value) c.revision_at.ensures in
    loads.room

pub load_reading-requires-clause-new : goal.load_reading-requires-clause-new
load_reading-requires-clause-new c =
    let loads = load-next c.args.rows.now c.args.counter c.requires.by_key c.requires.may c.take_last.new.left.items c.loop-reading.store.store c.loop-reading.left.items c.loop-reading.invariant c.in-Some.reading c.in-Some.ensures.some c.revision_at.result (length c.as_slice.result.now) (ap length c.as_slice.ensures.value) c.revision_at.ensures in
    loads.fresh

pub loop-reading-preserved : goal.loop-reading-preserved
loop-reading-preserved c =
    let loads = load-next c.args.rows.now c.args.counter c.requires.by_key c.requires.may c.take_last.new.left.items c.loop-reading.store.store c.loop-reading.left.items c.loop-reading.invariant c.in-Some.reading c.in-Some.ensures.some c.revision_at.result (length c.as_slice.result.now) (ap length c.as_slice.ensures.value) c.revision_at.ensures in
    subst (IsLoading c.args.rows.now c.args.counter c.take_last.new.left.items) (sym c.in_ok-load_reading.ensures) loads.next

pub returns : goal.returns
returns c = load-last c.args.rows.now c.args.counter c.requires.by_key c.requires.may c.loop-reading.left.items c.loop-reading.store.store c.loop-reading.invariant c.in_default.ensures.none
