use Rattle.std.proofs.Common.{refl}
use Rattle.ipam_plain.proofs.Unfolded.{choice_computed, names_read}
use Rattle.ipam_plain.proofs.choices.choices_by_name.Goals as goal

pub returns-clause-named_pool : goal.returns-clause-named_pool
unfolding choice_computed names_read
returns-clause-named_pool c = refl

pub returns-clause-named_in_table_order : goal.returns-clause-named_in_table_order
unfolding choice_computed names_read
returns-clause-named_in_table_order c = refl

pub returns-clause-named_by_cidr : goal.returns-clause-named_by_cidr
unfolding choice_computed names_read
returns-clause-named_by_cidr c = refl

pub returns-clause-named_by_other_spelling : goal.returns-clause-named_by_other_spelling
unfolding choice_computed names_read
returns-clause-named_by_other_spelling c = refl

pub returns-clause-unknown_name : goal.returns-clause-unknown_name
unfolding choice_computed names_read
returns-clause-unknown_name c = refl

pub returns-clause-name_of_disabled : goal.returns-clause-name_of_disabled
unfolding choice_computed names_read
returns-clause-name_of_disabled c = refl

pub returns-clause-name_of_other_family : goal.returns-clause-name_of_other_family
unfolding choice_computed names_read
returns-clause-name_of_other_family c = refl
