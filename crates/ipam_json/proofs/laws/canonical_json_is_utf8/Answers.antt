use Rattle.ipam_json.proofs.Utf8Texts.{IsUtf8-compact_text}
use Rattle.ipam_json.proofs.laws.canonical_json_is_utf8.Goals as goal

pub returns : goal.returns
returns c = IsUtf8-compact_text
