use Rattle.ipam_model.specs.Course.{Turn}
use Rattle.ipam_model.specs.declared.entry.Fate.TheVariants.{Well}
use Rattle.ipam_command.proofs.AddLemmas.{adds-turned, counts-one}
use Rattle.ipam_command.proofs.CountLemmas.{happens, room-again, room-exhausted, stood}
use Rattle.ipam_command.proofs.gen_counted.Counted.turn.Goals as goal

pub note-requires-clause-again : goal.note-requires-clause-again
note-requires-clause-again c =
    room-again c.args.self.now c.requires.somewhere (λ many. let no = c.prepare.ensures.worn.1 (many, c.requires.running) in cc (no, c.in-Ok.is))

pub note-requires-clause-exhausted : goal.note-requires-clause-exhausted
note-requires-clause-exhausted c =
    room-exhausted c.args.self.now c.requires.somewhere (λ many. let no = c.prepare.ensures.worn.1 (many, c.requires.running) in cc (no, c.in-Ok.is))

pub returns-in-Ok-clause-happens : goal.returns-in-Ok-clause-happens
returns-in-Ok-clause-happens c =
    let old = c.args.self.now in
    let adds = adds-turned old.cluster c.prepare.new.self c.commit-entry.new.self c.args.slot c.in-Ok.prepared.slot c.commit-entry.result
    c.in-Ok.ensures.slot c.prepare.ensures.unchanged c.commit-entry.ensures.entry c.commit-entry.ensures.adds in
    happens old c.note.new.self c.commit-entry.new.self (Turn c.args.slot Well) c.commit-entry.result c.note.ensures.cluster adds c.note.ensures.again c.note.ensures.exhausted

pub returns-in-Ok-clause-counts : goal.returns-in-Ok-clause-counts
returns-in-Ok-clause-counts c =
    let old = c.args.self.now in
    let adds = adds-turned old.cluster c.prepare.new.self c.commit-entry.new.self c.args.slot c.in-Ok.prepared.slot c.commit-entry.result
    c.in-Ok.ensures.slot c.prepare.ensures.unchanged c.commit-entry.ensures.entry c.commit-entry.ensures.adds in
    rw c.note.ensures.cluster
    (counts-one old.cluster c.commit-entry.new.self (Turn c.args.slot Well) c.commit-entry.result (stood old c.requires.somewhere) adds
    (λ many. let no = c.prepare.ensures.worn.1 (many, c.requires.running) in cc (no, c.in-Ok.is)))
