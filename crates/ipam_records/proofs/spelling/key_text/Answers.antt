use Rattle.ipam_records.proofs.KeyTextLemmas.{key_read-key_bytes, key_bytes_injective}
use Rattle.ipam_records.proofs.spelling.key_text.Goals as goal

pub returns-in_err-push_key-clause-reads_back : goal.returns-in_err-push_key-clause-reads_back
returns-in_err-push_key-clause-reads_back c = key_read-key_bytes c.args.key.now

pub returns-in_err-push_key-clause-own : goal.returns-in_err-push_key-clause-own
returns-in_err-push_key-clause-own c = key_bytes_injective c.args.key.now

pub returns-clause-reads_back : goal.returns-clause-reads_back
returns-clause-reads_back c = key_read-key_bytes c.args.key.now

pub returns-clause-own : goal.returns-clause-own
returns-clause-own c = key_bytes_injective c.args.key.now
