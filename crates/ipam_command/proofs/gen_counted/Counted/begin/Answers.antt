use Rattle.ipam_model.specs.Course.{Begin}
use Rattle.ipam_command.proofs.AddLemmas.{adds-begun, counts-one}
use Rattle.ipam_command.proofs.CountLemmas.{happens, room-again, room-exhausted, stood}
use Rattle.ipam_command.proofs.gen_counted.Counted.begin.Goals as goal

pub note-requires-clause-again : goal.note-requires-clause-again
note-requires-clause-again c =
    room-again c.args.self.now c.requires.somewhere (λ many. let no = c.begin.ensures.worn.1 (c.requires.idle, many) in cc (no, c.in-Ok.is))

pub note-requires-clause-exhausted : goal.note-requires-clause-exhausted
note-requires-clause-exhausted c =
    room-exhausted c.args.self.now c.requires.somewhere (λ many. let no = c.begin.ensures.worn.1 (c.requires.idle, many) in cc (no, c.in-Ok.is))

pub returns-in-Ok : goal.returns-in-Ok
returns-in-Ok c =
    let old = c.args.self.now in
    let event = Begin c.args.slot c.args.request.now in
    let adds = adds-begun old.cluster c.begin.new.self c.args.slot c.args.request.now c.in-Ok.entry c.in-Ok.ensures.entry c.in-Ok.ensures.adds in
    let one = counts-one old.cluster c.begin.new.self event c.in-Ok.entry (stood old c.requires.somewhere) adds
    (λ many. let no = c.begin.ensures.worn.1 (c.requires.idle, many) in cc (no, c.in-Ok.is)) in
    record {
      happens = (c.in-Ok.entry, happens old c.note.new.self c.begin.new.self event c.in-Ok.entry c.note.ensures.cluster adds c.note.ensures.again c.note.ensures.exhausted);
      counts = rw c.note.ensures.cluster one;
    }
