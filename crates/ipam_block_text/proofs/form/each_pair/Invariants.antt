use Rattle.std.proofs.Common.{◌≡◌}
use Rattle.ipam_json.specs.Built.{fields_of}
use Rattle.ipam_block_text.specs.Reading.{each, pair_in}
use Rattle.ipam_block_text.proofs.Each.{onto}
use Rattle.ipam_block_text.proofs.form.each_pair.Given as goal

abbrev pub invariant-loop-key : goal.invariant-loop-key
invariant-loop-key l = onto l.pairs.items (each pair_in (fields_of l.key-iterator)) ≡ each pair_in (fields_of l.members.entries)
