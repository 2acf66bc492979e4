-- The summary: numbers that are counted on the course.
use Rattle.std.specs.Prelude.{◌≡◌, ℕ, ◌+◌, Bool, true, false, List, [], ◌∷◌, ◌++◌, length, codes, decimal, Option, Some, None}
use Rattle.std.specs.List.{count_by}
use Rattle.std.specs.Io.KnownBytes.{append_known}
use Rattle.ipam_io.specs.Counts.{Rose}
use Rattle.ipam_io.specs.Streams.{AppendsPrefix}
use Rattle.ipam_model.specs.declared.answer.Answer.{Answer}
use Rattle.ipam_model.specs.declared.answer.Answer.TheVariants as answer
use Rattle.ipam_model.specs.declared.answer.Item.{Item}
use Rattle.ipam_model.specs.declared.entry.Entry.{Entry}
use Rattle.ipam_model.specs.declared.entry.Entry.TheVariants as entry
use Rattle.ipam_model.specs.History.{store_at}
use Rattle.ipam_model.specs.Owners.{owners}
use Rattle.ipam_command.specs.declared.gen_end.GenEnd.{GenEnd}
use Rattle.ipam_command.specs.declared.gen_end.GenEnd.TheVariants as end
use Rattle.ipam_command.specs.Generated.{IsGenerated}
use Rattle.ipam_command.specs.Requests.{base}

-- ---- answers

-- the answer that an entry has, if any
abbrev pub answer_told : Entry → Option Answer
answer_told (entry.Called c) = c.answer
answer_told _ = None

abbrev pub is_again_answer : Answer → Bool
is_again_answer (answer.Again lost claims) = true
is_again_answer _ = false

abbrev pub is_exhausted_answer : Answer → Bool
is_exhausted_answer (answer.Exhausted scan) = true
is_exhausted_answer _ = false

abbrev pub is_again : Option Answer → Bool
is_again (Some told) = is_again_answer told
is_again None = false

abbrev pub is_exhausted : Option Answer → Bool
is_exhausted (Some told) = is_exhausted_answer told
is_exhausted None = false

-- how many requests were answered that they were tried too often
abbrev pub again_count : List Entry → ℕ
again_count history = count_by (λ new. is_again (answer_told new)) history

-- how many were answered that no address was left
abbrev pub exhausted_count : List Entry → ℕ
exhausted_count history = count_by (λ new. is_exhausted (answer_told new)) history

abbrev pub freed_among : List Item → ℕ
freed_among items = count_by (λ (item : Item). item.freed) items

abbrev pub freed_of : Answer → ℕ
freed_of (answer.Collected found) = freed_among found.items
freed_of _ = 0

-- how many of the addresses that a collection reports it freed itself
abbrev pub freed_in : Option Answer → ℕ
freed_in (Some told) = freed_of told
freed_in None = 0

-- how many addresses the collection freed that the newest entry answers, if it answers one
abbrev pub freed_count : List Entry → ℕ
freed_count [] = 0
freed_count (new ∷ history) = freed_in (answer_told new)

-- ---- the six numbers

pub record Summary : Type 0 where
  pub requests : ℕ
  pub entries : ℕ
  pub owners : ℕ
  pub again : ℕ
  pub exhausted : ℕ
  pub freed : ℕ

-- Of so many requests, that are all answered after the first history, and of the whole one: the
-- requests, all entries, the addresses that are owned at the end, the requests that were tried too often
-- and that found no address left, and the addresses that the collection freed.
abbrev pub summary_of : (count : ℕ) (answered whole : List Entry) → Summary
summary_of count answered whole = record {
  requests = count;
  entries = length whole;
  owners = length (owners (store_at base whole));
  again = again_count answered;
  exhausted = exhausted_count answered;
  freed = freed_count whole;
}

unfoldable pub number_line : (name : List ℕ) (number : ℕ) → List ℕ
number_line name number = name ++ (codes " " ++ (decimal number ++ codes "\n"))

unfoldable pub summary_text : Summary → List ℕ
summary_text s =
    number_line (codes "requests") s.requests ++ (number_line (codes "entries") s.entries ++ (number_line (codes "owners") s.owners
    ++ (number_line (codes "again") s.again ++ (number_line (codes "exhausted") s.exhausted ++ number_line (codes "freed") s.freed))))

-- ---- what is written

-- the text is the summary of the course of the generator's events
pub record IsSummaryText (count : ℕ) (text : List ℕ) : Type 0 where
  pub answered : List Entry
  pub whole : List Entry
  pub generated : IsGenerated count answered whole
  pub is_text : text ≡ summary_text (summary_of count answered whole)

-- the text was written whole
pub record WritesSummary (count : ℕ) (first now : Option (List ℕ)) : Type 0 where
  pub text : List ℕ
  pub is_text : IsSummaryText count text
  pub written : now ≡ append_known first text

-- a front part of it was written
pub record WritesSummaryFront (count : ℕ) (first now : Option (List ℕ)) : Type 0 where
  pub text : List ℕ
  pub is_text : IsSummaryText count text
  pub written : AppendsPrefix first now text

-- what a run that ended so has written
abbrev pub HasWrittenSummary : GenEnd → (count : ℕ) → (first now : Option (List ℕ)) → Type 0
HasWrittenSummary end.Done count first now = WritesSummary count first now
HasWrittenSummary end.WriteFault count first now = WritesSummaryFront count first now
HasWrittenSummary end.NoMemory count first now = now ≡ first

-- the count of faults rose where a write failed, and else stays
abbrev pub CountsFaults : GenEnd → (old new : ℕ) → Type 0
CountsFaults end.Done old new = new ≡ old
CountsFaults end.WriteFault old new = Rose old new
CountsFaults end.NoMemory old new = new ≡ old
