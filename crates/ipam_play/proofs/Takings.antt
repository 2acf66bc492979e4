-- The lines that were taken so far, and what is read of them.
use Rattle.std.proofs.Common.{◌≡◌, ℕ, ◌+◌, List, [], ◌∷◌, ◌++◌, length, Option, Some, None, refl, sym, ap, ◌∙◌, arith, append_assoc, append-nil, inl, inr}
use Rattle.std.specs.Prelude.{Ok}
use Rattle.std.specs.Io.KnownBytes.{prepend_known}
use Rattle.std.proofs.lemmas.List.{length-append}
use Rattle.ipam_answer_text.specs.declared.line.Line.{Line}
use Rattle.ipam_answer_text.specs.Lines.{lines_of, told_line}
use Rattle.ipam_play.specs.declared.lines.ScriptLines.{ScriptLines}
use Rattle.ipam_play.specs.Readings.{AreReadWhole, AreWholeLines, LineReading, TakesLine, TakesNone, line_reading_of, readings, readings_from}
use Rattle.ipam_play.proofs.ReadingLemmas.{none_to_come, readings-line}

prepend-twice : (first second : List ℕ) (known : Option (List ℕ)) → prepend_known (first ++ second) known ≡ prepend_known first (prepend_known second known)
prepend-twice first second None = refl
prepend-twice first second (Some bytes) = ap Some (append_assoc first second bytes)

prepend-none : (known : Option (List ℕ)) → known ≡ prepend_known [] known
prepend-none None = refl
prepend-none (Some bytes) = refl

readings-first : (bytes : List ℕ) → readings bytes ≡ readings_from 0 bytes
unfolding readings_from lines_of
readings-first bytes = refl

-- the lines that were taken, and their readings
pub record HasTaken (lines : ScriptLines) (was left : Option (List ℕ)) (done : List LineReading) : Type 0 where
  pub bytes : List ℕ
  pub are_whole : AreWholeLines bytes
  pub before : lines.before.bytes ≡ length bytes
  pub taken : was ≡ prepend_known (bytes ++ lines.lines) left
  pub are_read : (rest : List ℕ) → readings (bytes ++ rest) ≡ done ++ readings_from (length bytes) rest

pub taken_none : (lines : ScriptLines) (left : Option (List ℕ)) → lines.lines ≡ [] → lines.before.bytes ≡ 0 → HasTaken lines left left []
taken_none lines left none start = record {
  bytes = [];
  are_whole = inl refl;
  before = start;
  taken = prepend-none left ∙ ap (λ (l : List ℕ). prepend_known l left) (sym none);
  are_read = readings-first;
}

pub taken_line : (line : Line) (old new : ScriptLines) (was mid left : Option (List ℕ)) (done : List LineReading) → HasTaken old was mid done → TakesLine line old new mid left → HasTaken new was left (done ++ Ok line ∷ [])
taken_line line old new was mid left done h t = record {
  bytes = h.bytes ++ (t.bytes ++ 10 ∷ []);
  are_whole = inr (h.bytes ++ t.bytes, sym (append_assoc h.bytes t.bytes (10 ∷ [])));
  before = longer;
  taken = h.taken
      ∙ prepend-twice h.bytes old.lines mid
      ∙ ap (prepend_known h.bytes) t.taken
      ∙ sym (prepend-twice h.bytes (t.bytes ++ 10 ∷ new.lines) left)
      ∙ ap (λ (l : List ℕ). prepend_known l left) (sym (behind new.lines));
  are_read = λ rest.
      ap readings (behind rest)
      ∙ h.are_read (t.bytes ++ 10 ∷ rest)
      ∙ ap (λ (l : List LineReading). done ++ l) (readings-line (length h.bytes) t.bytes rest t.no_feed)
      ∙ ap (λ (r : LineReading). done ++ r ∷ readings_from (length h.bytes + length t.bytes + 1) rest) is-line
      ∙ sym (append_assoc done (Ok line ∷ []) (readings_from (length h.bytes + length t.bytes + 1) rest))
      ∙ ap (λ (n : ℕ). (done ++ Ok line ∷ []) ++ readings_from n rest) (sym lengths);
}
  where
    behind : (rest : List ℕ) → (h.bytes ++ (t.bytes ++ 10 ∷ [])) ++ rest ≡ h.bytes ++ (t.bytes ++ 10 ∷ rest)
    behind rest = append_assoc h.bytes (t.bytes ++ 10 ∷ []) rest ∙ ap (λ (l : List ℕ). h.bytes ++ l) (append_assoc t.bytes (10 ∷ []) rest)

    lengths : length (h.bytes ++ (t.bytes ++ 10 ∷ [])) ≡ length h.bytes + length t.bytes + 1
    lengths =
        let one = length-append h.bytes (t.bytes ++ 10 ∷ []) in
        let two = length-append t.bytes (10 ∷ []) in
        omega arith

    longer : new.before.bytes ≡ length (h.bytes ++ (t.bytes ++ 10 ∷ []))
    longer = t.behind ∙ ap (λ (n : ℕ). n + length t.bytes + 1) h.before ∙ sym lengths

    is-line : line_reading_of (told_line (length h.bytes) t.bytes) ≡ Ok line
    is-line = ap (λ (n : ℕ). line_reading_of (told_line n t.bytes)) (sym h.before) ∙ t.is_line

-- no line more
pub taken_all : (old new : ScriptLines) (was mid left : Option (List ℕ)) (done : List LineReading) (h : HasTaken old was mid done) → TakesNone old new mid left → AreReadWhole h.bytes was left
taken_all old new was mid left done h t = record {
  are_whole = h.are_whole;
  part = new.lines;
  no_feed = t.no_feed;
  read = h.taken ∙ prepend-twice h.bytes old.lines mid ∙ ap (prepend_known h.bytes) t.taken ∙ sym (prepend-twice h.bytes new.lines left);
}

pub all_readings : (lines : ScriptLines) (was left : Option (List ℕ)) (done : List LineReading) (h : HasTaken lines was left done) → readings h.bytes ≡ done
all_readings lines was left done h =
    ap readings (sym (append-nil h.bytes)) ∙ h.are_read [] ∙ ap (λ (l : List LineReading). done ++ l) (none_to_come (length h.bytes)) ∙ append-nil done
