use Rattle.ipam_addr.proofs.BufferLemmas.{IsOk-ascii}
use Rattle.ipam_records.proofs.spelling.ascii.Goals as goal

pub unwrap-requires : goal.unwrap-requires
unwrap-requires c = IsOk-ascii _ _ _ c.from_utf8.result c.requires c.from_utf8.ensures.cases
