use Rattle.ipam_records.proofs.KeysCompared.{blocks_compared}
use Rattle.ipam_records.proofs.key_ref.KeyRef.compare.Goals as goal

pub returns : goal.returns
returns c =
    rw (c.then-2.ensures, c.then.ensures, c.cmp.ensures, c.cmp-names.ensures, c.cmp-blocks.ensures, c.rank.ensures, c.rank-2.ensures, c.name.ensures, c.name-2.ensures, c.block.ensures, c.block-2.ensures, blocks_compared)
