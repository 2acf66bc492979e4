use Rattle.ipam_json.proofs.ReadsBack.{text_written}
use Rattle.serde_json.specs.View.{view}
use Rattle.ipam_json.proofs.written.canonical_text.Goals as goal

pub returns-clause-text : goal.returns-clause-text
returns-clause-text c = text_written c.to_string.result (view c.args.value.now) c.requires.regular c.to_string.ensures.text
