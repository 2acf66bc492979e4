-- Bytes that are a text, and others.
use Rattle.std.proofs.Common.{◌≡◌, ℕ, Bool, true, false, List, Some, None, refl, ap, ◌∙◌}
use Rattle.std.specs.Prelude.{if◌then◌else◌}
use Rattle.std.specs.Str.{IsUtf8, is_utf8}
use Rattle.std.proofs.lemmas.Str.{IsUtf8-from_is_utf8, is_utf8-from_IsUtf8}
use Rattle.ipam_call.specs.Values.{text_of}

pub text : (bytes found : List ℕ) → IsUtf8 bytes → found ≡ bytes → Some found ≡ text_of bytes
text bytes found is same = ap (λ (x : List ℕ). Some x) same ∙ rw (is_utf8-from_IsUtf8 bytes is)

pub no_text : (bytes : List ℕ) → ¬ (IsUtf8 bytes) → None ≡ text_of bytes
no_text bytes not = by (is_utf8 bytes) refl
  where
    by : (b : Bool) → is_utf8 bytes ≡ b → None ≡ (if b then Some bytes else None)
    by true is = absurd (not (IsUtf8-from_is_utf8 bytes is))
    by false is = refl
