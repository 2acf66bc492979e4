use Rattle.ipam_record_text.proofs.Handles.{count_added, count_there}
use Rattle.ipam_record_text.proofs.handle.add.Goals as goal

pub returns-in-Ok-clause-added : goal.returns-in-Ok-clause-added
returns-in-Ok-clause-added c =
    count_added c.args.counts.now.entries c.insert.new.self.entries c.args.block c.args.count c.in-Ok.old _ c.is_none.ensures c.in-Ok.ensures.old c.in-Ok.ensures.entries

pub returns-in-Ok-clause-there : goal.returns-in-Ok-clause-there
returns-in-Ok-clause-there c =
    count_there c.args.counts.now.entries c.args.block c.in-Ok.old _ c.requires c.is_none.ensures c.in-Ok.ensures.old
