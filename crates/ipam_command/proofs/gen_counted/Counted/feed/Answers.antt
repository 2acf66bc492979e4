use Rattle.std.proofs.Common.{Err, ap, arith, ◌∙◌}
use Rattle.ipam_cluster.specs.Cluster.{slot_of_cluster}
use Rattle.ipam_cluster.proofs.Waiting.{never-early}
use Rattle.ipam_model.specs.Course.{Feed}
use Rattle.ipam_command.proofs.AddLemmas.{adds-fed, counts-one}
use Rattle.ipam_command.proofs.CountLemmas.{happens, room-again, room-exhausted, stood}
use Rattle.ipam_command.proofs.gen_counted.Counted.feed.Goals as goal

pub note-requires-clause-again : goal.note-requires-clause-again
note-requires-clause-again c =
    room-again c.args.self.now c.requires.somewhere
    (λ many. let no = c.feed.ensures.worn.1 (many, record { at = 0; grace = 0 }, c.requires.waits, omega arith) in cc (no, c.in-Ok.is))

pub note-requires-clause-exhausted : goal.note-requires-clause-exhausted
note-requires-clause-exhausted c =
    room-exhausted c.args.self.now c.requires.somewhere
    (λ many. let no = c.feed.ensures.worn.1 (many, record { at = 0; grace = 0 }, c.requires.waits, omega arith) in cc (no, c.in-Ok.is))

pub unreachable-requires-in-Err-TooSoon : goal.unreachable-requires-in-Err-TooSoon
unreachable-requires-in-Err-TooSoon c =
    never-early (slot_of_cluster c.args.self.now.cluster 0) 0 c.in-Err-TooSoon._since c.in-Err-TooSoon._grace
    c.requires.waits ((c.feed.ensures.too_soon c.in-Err-TooSoon._since c.in-Err-TooSoon._grace).0 (c.in-Err-TooSoon.is ∙ ap Err c.in-Err-TooSoon.field-0-is))

pub returns-in-Ok : goal.returns-in-Ok
returns-in-Ok c =
    let old = c.args.self.now in
    let event = Feed 0 0 c.args.live.now in
    let adds = adds-fed old.cluster c.feed.new.self 0 0 c.args.live.now c.in-Ok.entry c.in-Ok.ensures.entry c.in-Ok.ensures.adds in
    let one = counts-one old.cluster c.feed.new.self event c.in-Ok.entry (stood old c.requires.somewhere) adds
    (λ many. let no = c.feed.ensures.worn.1 (many, record { at = 0; grace = 0 }, c.requires.waits, omega arith) in cc (no, c.in-Ok.is)) in
    record {
      happens = (c.in-Ok.entry, happens old c.note.new.self c.feed.new.self event c.in-Ok.entry c.note.ensures.cluster adds c.note.ensures.again c.note.ensures.exhausted);
      counts = rw c.note.ensures.cluster one;
    }
