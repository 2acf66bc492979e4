-- Bytes are read as a request exactly where they are UTF-8 and the text is read so.
use Rattle.std.proofs.Common.{◌≡◌, ℕ, List, Bool, true, false, IsUtf8, None, refl}
use Rattle.std.specs.Str.{is_utf8}
use Rattle.std.proofs.lemmas.Str.{IsUtf8-from_is_utf8, is_utf8-from_IsUtf8}
use Rattle.ipam_request_text.specs.Reading.{request_reading, request_of_bytes}

pub bytes_of_text : (bytes : List ℕ) → IsUtf8 bytes → request_of_bytes bytes ≡ request_reading bytes
unfolding request_of_bytes
bytes_of_text bytes h = rw (is_utf8-from_IsUtf8 bytes h) refl

pub bytes_of_no_text : (bytes : List ℕ) → (IsUtf8 bytes → ⊥) → request_of_bytes bytes ≡ None
unfolding request_of_bytes
bytes_of_no_text bytes h = go (is_utf8 bytes) refl
  where
    go : (b : Bool) → is_utf8 bytes ≡ b → request_of_bytes bytes ≡ None
    go true e = absurd (h (IsUtf8-from_is_utf8 bytes e))
    go false e = rw e refl
