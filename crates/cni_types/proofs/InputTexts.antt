-- What is taken as the text of standard input.
use Rattle.std.proofs.Common.{◌≡◌, ℕ, ◌≤◌, ◌&&◌, nat_le, List, length, Bool, true, false, Some, None, refl, ap, ◌∙◌, if◌then◌else◌, IsUtf8}
use Rattle.std.specs.Str.{is_utf8}
use Rattle.std.proofs.lemmas.Bool.{le-leb}
use Rattle.std.proofs.lemmas.Str.{is_utf8-from_IsUtf8, IsUtf8-from_is_utf8}
use Rattle.cni_types.specs.Looking.{input_text}

when_both : (b u : Bool) (text : List ℕ) → b ≡ true → u ≡ true → Some text ≡ (if b && u then Some text else None)
when_both true true text e f = refl
when_both true false text e f = absurd cc
when_both false u text e f = absurd cc

when_not : (b u : Bool) (text : List ℕ) → u ≡ false → None ≡ (if b && u then Some text else None)
when_not true true text e = absurd cc
when_not true false text e = refl
when_not false u text e = refl

pub input_text-utf8 : (stdin text : List ℕ) → length stdin ≤ 1048576 → IsUtf8 stdin → text ≡ stdin → Some text ≡ input_text stdin
input_text-utf8 stdin text short utf8 same =
    ap Some same ∙ when_both (nat_le (length stdin) 1048576) (is_utf8 stdin) stdin (le-leb _ _ short) (is_utf8-from_IsUtf8 stdin utf8)

not_utf8 : (stdin : List ℕ) → (IsUtf8 stdin → ⊥) → is_utf8 stdin ≡ false
not_utf8 stdin not = go (is_utf8 stdin) refl
  where
    go : (b : Bool) → is_utf8 stdin ≡ b → is_utf8 stdin ≡ false
    go true e = absurd (not (IsUtf8-from_is_utf8 stdin e))
    go false e = e

pub input_text-other : (stdin : List ℕ) → (IsUtf8 stdin → ⊥) → None ≡ input_text stdin
input_text-other stdin not =
    when_not (nat_le (length stdin) 1048576) (is_utf8 stdin) stdin (not_utf8 stdin not)
