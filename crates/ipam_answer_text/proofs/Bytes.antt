-- Bytes are read as a line exactly where they are UTF-8 and the text is read so.
use Rattle.std.proofs.Common.{◌≡◌, ℕ, List, Bool, true, false, IsUtf8, None, refl}
use Rattle.std.specs.Str.{is_utf8}
use Rattle.std.proofs.lemmas.Str.{IsUtf8-from_is_utf8, is_utf8-from_IsUtf8}
use Rattle.ipam_answer_text.specs.Reading.{text_reading, line_reading}

pub line_of_text : (bytes : List ℕ) → IsUtf8 bytes → line_reading bytes ≡ text_reading bytes
unfolding line_reading
line_of_text bytes h = rw (is_utf8-from_IsUtf8 bytes h) refl

pub line_of_no_text : (bytes : List ℕ) → (IsUtf8 bytes → ⊥) → line_reading bytes ≡ None
unfolding line_reading
line_of_no_text bytes h = go (is_utf8 bytes) refl
  where
    go : (b : Bool) → is_utf8 bytes ≡ b → line_reading bytes ≡ None
    go true e = absurd (h (IsUtf8-from_is_utf8 bytes e))
    go false e = rw e refl
