use Rattle.ipam_records.specs.Said.{said}
use Rattle.ipam_release.proofs.DelLemmas.{hears}
use Rattle.ipam_release.proofs.del.Frees.took.Goals as goal

pub returns : goal.returns
returns c =
    hears c.args.id.now c.args.self.now.moment c.args.self.now.blocks.items c.args.self.now.freeing c.in_ok-turned.turned
    c.args.hearing.now.moment (said c.args.hearing.now.reply) c.in_ok-turned.ensures
