use Rattle.ipam_answer_text.proofs.Cuts.{cut_none, cut_first, cut_last}
use Rattle.ipam_answer_text.proofs.laws.scripts_are_cut_at_line_ends.Goals as goal

pub returns : goal.returns
returns c = record {
  empty = cut_none;
  more = cut_first;
  last = cut_last;
}
