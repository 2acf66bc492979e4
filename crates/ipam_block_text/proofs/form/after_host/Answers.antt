use Rattle.ipam_block_text.proofs.Names.{host_stripped}
use Rattle.ipam_block_text.proofs.form.after_host.Goals as goal

pub returns : goal.returns
returns c = host_stripped c.args.text.now c.strip_prefix.result c.strip_prefix.ensures.cases
