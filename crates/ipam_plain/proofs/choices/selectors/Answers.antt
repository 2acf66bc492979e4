use Rattle.std.proofs.Common.{refl}
use Rattle.ipam_plain.proofs.choices.selectors.Goals as goal

pub returns-clause-selects_all : goal.returns-clause-selects_all
returns-clause-selects_all c = refl

pub returns-clause-selects_by_key : goal.returns-clause-selects_by_key
returns-clause-selects_by_key c = refl

pub returns-clause-selects_by_value : goal.returns-clause-selects_by_value
returns-clause-selects_by_value c = refl

pub returns-clause-selects_by_empty_value : goal.returns-clause-selects_by_empty_value
returns-clause-selects_by_empty_value c = refl

pub returns-clause-selects_others : goal.returns-clause-selects_others
returns-clause-selects_others c = refl

pub returns-clause-selects_one_of : goal.returns-clause-selects_one_of
returns-clause-selects_one_of c = refl

pub returns-clause-selects_none_of : goal.returns-clause-selects_none_of
returns-clause-selects_none_of c = refl

pub returns-clause-selects_by_part : goal.returns-clause-selects_by_part
returns-clause-selects_by_part c = refl

pub returns-clause-selects_by_last_part : goal.returns-clause-selects_by_last_part
returns-clause-selects_by_last_part c = refl

pub returns-clause-selects_by_empty_part : goal.returns-clause-selects_by_empty_part
returns-clause-selects_by_empty_part c = refl

pub returns-clause-selects_by_start : goal.returns-clause-selects_by_start
returns-clause-selects_by_start c = refl

pub returns-clause-selects_by_end : goal.returns-clause-selects_by_end
returns-clause-selects_by_end c = refl

pub returns-clause-selects_by_long_start : goal.returns-clause-selects_by_long_start
returns-clause-selects_by_long_start c = refl

pub returns-clause-selects_both : goal.returns-clause-selects_both
returns-clause-selects_both c = refl

pub returns-clause-selects_either : goal.returns-clause-selects_either
returns-clause-selects_either c = refl
