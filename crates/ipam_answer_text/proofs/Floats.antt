-- No answer's JSON has a float, so that its compact text is written.
use Rattle.std.proofs.Common.{◌≡◌, false, refl}
use Rattle.serde_json.specs.Written.{has_float}
use Rattle.ipam_json.proofs.Floatless.{items_without}
use Rattle.ipam_model.specs.declared.answer.Answer.{Answer}
use Rattle.ipam_model.specs.declared.answer.Answer.TheVariants.{Added, AddedThis, Exhausted, NoPool, NotInPool, Taken, NotAffine, Deleted, Checked, NotRecorded, Released, NoAffinity, Collected, Done, Refused, Again, Full, CountFull, Spent, Fault, Ready}
use Rattle.ipam_model.specs.declared.answer.Given.{Given}
use Rattle.ipam_model.specs.declared.answer.GivenThis.{GivenThis}
use Rattle.ipam_model.specs.declared.answer.Scan.{Scan}
use Rattle.ipam_model.specs.declared.answer.Item.{Item}
use Rattle.ipam_answer_text.specs.Answers.{given_data, given_this_data, scan_data, item_data, answer_data}

given_without : (g : Given) → has_float (given_data g) ≡ false
unfolding given_data
given_without g = refl

given_this_without : (g : GivenThis) → has_float (given_this_data g) ≡ false
unfolding given_this_data
given_this_without g = refl

scan_without : (s : Scan) → has_float (scan_data s) ≡ false
unfolding scan_data
scan_without s = refl

item_without : (i : Item) → has_float (item_data i) ≡ false
unfolding item_data
item_without i = refl

pub has_float-answer_data : (answer : Answer) → has_float (answer_data answer) ≡ false
has_float-answer_data (Added givens) = rw (items_without given_data given_without givens) refl
has_float-answer_data (AddedThis given) = rw (given_this_without given) refl
has_float-answer_data (Exhausted scan) = rw (scan_without scan) refl
has_float-answer_data (NoPool name moment) = refl
has_float-answer_data (NotInPool moment) = refl
has_float-answer_data (Taken holder moment) = refl
has_float-answer_data (NotAffine cidr moment) = refl
has_float-answer_data (Deleted moment) = refl
has_float-answer_data Checked = refl
has_float-answer_data (NotRecorded address moment) = refl
has_float-answer_data Released = refl
has_float-answer_data (NoAffinity moment) = refl
has_float-answer_data (Collected collection) = rw (items_without item_data item_without collection.items) refl
has_float-answer_data (Done revision) = refl
has_float-answer_data (Refused refusal name) = refl
has_float-answer_data (Again lost claims) = refl
has_float-answer_data Full = refl
has_float-answer_data (CountFull moment) = refl
has_float-answer_data Spent = refl
has_float-answer_data Fault = refl
has_float-answer_data (Ready scans) = rw (items_without scan_data scan_without scans) refl
