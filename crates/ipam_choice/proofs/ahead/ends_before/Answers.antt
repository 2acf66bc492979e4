use Rattle.std.proofs.Common.{sym, ◌∙◌}
use Rattle.ipam_choice.proofs.ahead.ends_before.Goals as goal

pub returns-in-Some : goal.returns-in-Some
returns-in-Some c = λ before. record {
  front = c.in-Some.field-0-1.now;
  row = c.in-Some.row.now;
  parted = c.in-Some.ensures.cases.0;
  before = sym c.is_before.ensures ∙ before;
}
