use Rattle.std.proofs.Common.{◌∙◌}
use Rattle.ipam_addr.proofs.BufferLemmas.{IsOk-ascii, MatchResult-at_ok}
use Rattle.ipam_addr.proofs.buffer.TextBuffer.as_str.Goals as goal

pub unwrap-requires : goal.unwrap-requires
unwrap-requires c = IsOk-ascii _ _ _ c.from_utf8.result c.self.invariant.1 c.from_utf8.ensures.cases

pub returns : goal.returns
returns c = (MatchResult-at_ok _ _ c.unwrap.ensures c.from_utf8.ensures.cases).0 ∙ c.self.view_is
