-- The journal of a history, and what each of its lines tells.
use Rattle.std.specs.Prelude.{ℕ, List, [], ◌∷◌, ◌++◌, codes, is_some, ⊤, ◌≡◌}
use Rattle.std.specs.List.{concat}
use Rattle.ipam_model.specs.declared.entry.Entry.{Entry}
use Rattle.ipam_model.specs.declared.entry.Entry.TheVariants as entry
use Rattle.ipam_model.specs.declared.entry.Called.{Called}
use Rattle.ipam_model.specs.History.{slot_of_entry}
use Rattle.ipam_answer_text.specs.Entries.{call_text, ending_text, entry_line, told_text, written_text}

-- the lines of a history's entries, the oldest first
abbrev pub lines_of : List Entry → List (List ℕ)
lines_of [] = []
lines_of (new ∷ history) = lines_of history ++ entry_line new ∷ []

abbrev pub journal_of : List Entry → List ℕ
journal_of history = concat (lines_of history)

-- the word of an entry's kind
abbrev pub kind_word : Entry → List ℕ
kind_word (entry.Began slot request) = codes "began"
kind_word (entry.Fed slot at live) = codes "fed"
kind_word (entry.Called called) = codes "called"
kind_word (entry.Stopped slot) = codes "stopped"

-- calls with one text: the same name, reply, record and answer in their texts, the same fate, and
-- whether a record was written and an answer given
pub record CallsAgree (c d : Called) : Type 0 where
  pub call : call_text c.call ≡ call_text d.call
  pub fate : c.fate ≡ d.fate
  pub reply : told_text c.reply ≡ told_text d.reply
  pub written : written_text c.written ≡ written_text d.written
  pub answer : ending_text c.answer ≡ ending_text d.answer
  pub wrote : is_some c.written ≡ is_some d.written
  pub ended : is_some c.answer ≡ is_some d.answer

-- where both are calls, they have one text
abbrev pub CallsAlike : Entry → Entry → Type 0
CallsAlike (entry.Called c) (entry.Called d) = CallsAgree c d
CallsAlike one other = ⊤

-- the entries have one line: they are of one slot and of one kind
pub record IsToldAlike (one other : Entry) : Type 0 where
  pub slot : slot_of_entry one ≡ slot_of_entry other
  pub kind : kind_word one ≡ kind_word other
  pub calls : CallsAlike one other

-- there are as many entries in both histories, and each has the line of that at its place
abbrev pub AreToldAlike : List Entry → List Entry → Type 0
AreToldAlike [] [] = ⊤
AreToldAlike [] (new ∷ further) = ⊥
AreToldAlike (new ∷ history) [] = ⊥
AreToldAlike (new ∷ history) (next ∷ further) = IsToldAlike new next × AreToldAlike history further
