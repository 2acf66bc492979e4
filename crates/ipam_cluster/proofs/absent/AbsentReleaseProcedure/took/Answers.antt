use Rattle.ipam_records.specs.Said.{said}
use Rattle.ipam_cluster.proofs.AbsentLemmas.{absent_hears}
use Rattle.ipam_cluster.proofs.absent.AbsentReleaseProcedure.took.Goals as goal

pub returns-clause-leaves : goal.returns-clause-leaves
returns-clause-leaves c =
    absent_hears c.args.self.now.node c.args.self.now.cidr c.args.hearing.now.moment (said c.args.hearing.now.reply) c.args.self.now.large c.requires
