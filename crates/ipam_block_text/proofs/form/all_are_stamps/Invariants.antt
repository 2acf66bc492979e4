use Rattle.std.proofs.Common.{◌≡◌}
use Rattle.std.specs.List.{list_all}
use Rattle.ipam_json.specs.Built.{fields_of}
use Rattle.ipam_block_text.specs.Reading.{is_stamp}
use Rattle.ipam_block_text.proofs.form.all_are_stamps.Given as goal

abbrev pub invariant-loop-name : goal.invariant-loop-name
invariant-loop-name l = list_all is_stamp (fields_of l.name-iterator) ≡ list_all is_stamp (fields_of l.members.entries)
