-- What is read in the reply to a request of an operator.
use Rattle.std.specs.Prelude.{ℕ, List, codes, bytes_eq, Option, Some, None, if◌then◌else◌}
use Rattle.std.specs.Str.{is_utf8}
use Rattle.serde_json.specs.Data.{Data}
use Rattle.serde_json.specs.Find.{as_object, as_str}
use Rattle.serde_json.specs.Read.{read}
use Rattle.ipam_json.specs.Members.{◌>>=◌, only_if, whole_at, text_at, in_8_bits, only_member}
use Rattle.ipam_operator.specs.declared.answer.OperatorAnswer.{OperatorAnswer}
use Rattle.ipam_operator.specs.declared.answer.OperatorAnswer.TheVariants as answer

-- the JSON that the line is
unfoldable pub json_of_line : List ℕ → Option Data
json_of_line line = do
  text ← only_if (is_utf8 line) line
  read text

-- ---- answers

abbrev pub word_answer : List ℕ → Option OperatorAnswer
word_answer word =
    if bytes_eq word (codes "released") then Some answer.Released
    else (if bytes_eq word (codes "full") then Some answer.Full
    else (if bytes_eq word (codes "spent") then Some answer.Spent
    else (if bytes_eq word (codes "fault") then Some answer.Fault
    else None)))

unfoldable pub refused_answer : Data → Option OperatorAnswer
refused_answer d = do
  whole ← whole_at (codes "number") d
  number ← in_8_bits whole
  name ← text_at (codes "name") d
  Some (answer.Refused number name)

abbrev pub named_answer : List ℕ → Data → Option OperatorAnswer
named_answer name d =
    if bytes_eq name (codes "done") then Some answer.Done
    else (if bytes_eq name (codes "noAffinity") then Some answer.NoAffinity
    else (if bytes_eq name (codes "again") then Some answer.Again
    else (if bytes_eq name (codes "refused") then refused_answer d
    else None)))

-- an object of one member
unfoldable pub member_answer : Data → Option OperatorAnswer
member_answer d = do
  members ← as_object d
  only ← only_member members
  named_answer only.0 only.1

abbrev pub answer_of_word : Option (List ℕ) → Data → Option OperatorAnswer
answer_of_word (Some word) d = word_answer word
answer_of_word None d = member_answer d

-- an answer is a word, or an object of one member
abbrev pub answer_value : Data → Option OperatorAnswer
answer_value d = answer_of_word (as_str d) d

-- the answer in the one member `answer`
unfoldable pub answer_in : Data → Option OperatorAnswer
answer_in d = do
  members ← as_object d
  only ← only_member members
  value ← only_if (bytes_eq only.0 (codes "answer")) only.1
  answer_value value

-- the answer that the line is
unfoldable pub answer_of_line : List ℕ → Option OperatorAnswer
answer_of_line line = do
  d ← json_of_line line
  answer_in d
