use Rattle.std.proofs.Common.{rules}
use Rattle.ipam_records.proofs.KeyTextLemmas.{IsTextOf-when}
use Rattle.ipam_records.proofs.spelling.key_of_text.Goals as goal

pub returns-in_ok-to_key-in-Ok-Some-clause-exact : goal.returns-in_ok-to_key-in-Ok-Some-clause-exact
returns-in_ok-to_key-in-Ok-Some-clause-exact c = IsTextOf-when c.args.text.now _ (search rules)

pub returns-in-Ok-None-clause-exact : goal.returns-in-Ok-None-clause-exact
returns-in-Ok-None-clause-exact c = IsTextOf-when c.args.text.now _ (search rules)
