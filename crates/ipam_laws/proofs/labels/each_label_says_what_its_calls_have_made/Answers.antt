use Rattle.ipam_laws.proofs.LabelHistory.{labels_law}
use Rattle.ipam_laws.proofs.labels.each_label_says_what_its_calls_have_made.Goals as goal

pub returns : goal.returns
returns c = labels_law
