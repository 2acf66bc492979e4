use Rattle.ipam_records.specs.Said.{said}
use Rattle.ipam_release.proofs.DelLemmas.{hears_in}
use Rattle.ipam_release.proofs.del.DelProcProcedure.took.Goals as goal

pub returns-in_ok-took-in-Frees-clause-leaves : goal.returns-in_ok-took-in-Frees-clause-leaves
returns-in_ok-took-in-Frees-clause-leaves c =
    hears_in c.as_str.result.now c.args.self.now.id c.args.self.now.stage c.in-Frees.frees c.in_ok-took-in-Frees.field-0
    c.args.hearing.now.moment (said c.args.hearing.now.reply) c.as_str.ensures c.in-Frees.is c.in_ok-took-in-Frees.ensures
