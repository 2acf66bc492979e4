use Rattle.std.proofs.Common.{◌≡◌, ℕ, List, Bool, true, false, Some, None, if◌then◌else◌, refl, ap, sym, ◌∙◌}
use Rattle.std.specs.Str.{IsUtf8, is_utf8}
use Rattle.std.proofs.lemmas.Str.{is_utf8-from_IsUtf8, IsUtf8-from_is_utf8}
use Rattle.ipam_select.proofs.lexing.copied.Goals as goal

chosen : (bytes : List ℕ) (b : Bool) → is_utf8 bytes ≡ b → (if is_utf8 bytes then Some bytes else None) ≡ (if b then Some bytes else None)
chosen bytes b e = ap (λ (v : Bool). if v then Some bytes else None) e

not_text : (bytes : List ℕ) → (IsUtf8 bytes → ⊥) → (b : Bool) → is_utf8 bytes ≡ b → None ≡ (if is_utf8 bytes then Some bytes else None)
not_text bytes h true e = absurd (h (IsUtf8-from_is_utf8 bytes e))
not_text bytes h false e = sym (chosen bytes false e)

pub returns-in_ok-copied-in-Ok : goal.returns-in_ok-copied-in-Ok
returns-in_ok-copied-in-Ok c =
    ap Some (c.in_ok-copied-in-Ok.ensures ∙ c.in-Ok.ensures.cases.0)
    ∙ sym (chosen c.args.bytes.now true (is_utf8-from_IsUtf8 c.args.bytes.now c.in-Ok.ensures.cases.1))

pub returns-in-Err : goal.returns-in-Err
returns-in-Err c = not_text c.args.bytes.now c.in-Err.ensures.cases.0 _ refl
