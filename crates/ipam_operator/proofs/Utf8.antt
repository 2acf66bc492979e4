-- A line is a text exactly where it is UTF-8.
use Rattle.std.proofs.Common.{◌≡◌, ℕ, List, Bool, true, false, IsUtf8, Some, None, refl}
use Rattle.std.specs.Str.{is_utf8}
use Rattle.std.proofs.lemmas.Str.{IsUtf8-from_is_utf8, is_utf8-from_IsUtf8}
use Rattle.ipam_json.specs.Members.{only_if}

pub text_told : (line : List ℕ) → IsUtf8 line → only_if (is_utf8 line) line ≡ Some line
text_told line h = rw (is_utf8-from_IsUtf8 line h) refl

pub no_text_told : (line : List ℕ) → (IsUtf8 line → ⊥) → only_if (is_utf8 line) line ≡ None
no_text_told line h = go (is_utf8 line) refl
  where
    go : (b : Bool) → is_utf8 line ≡ b → only_if b line ≡ None
    go true e = absurd (h (IsUtf8-from_is_utf8 line e))
    go false e = refl
