-- What is taken as the text of standard input and of a line.
use Rattle.std.proofs.Common.{◌≡◌, ℕ, ◌≤◌, ◌<◌, ◌&&◌, nat_le, List, [], ◌++◌, length, Bool, true, false, Some, None, refl, sym, ap, ◌∙◌, if◌then◌else◌, IsUtf8, arith, append-nil, length-append}
use Rattle.std.specs.Str.{is_utf8}
use Rattle.std.proofs.lemmas.Bool.{leb-true, leb-false, lt-leb}
use Rattle.std.proofs.lemmas.Str.{IsUtf8-from_is_utf8, is_utf8-from_IsUtf8}
use Rattle.cni_types.specs.Looking.{input_text}
use Rattle.ipam_json.specs.Members.{only_if}

not_utf8 : (bytes : List ℕ) → (IsUtf8 bytes → ⊥) → is_utf8 bytes ≡ false
not_utf8 bytes not = go (is_utf8 bytes) refl
  where
    go : (b : Bool) → is_utf8 bytes ≡ b → is_utf8 bytes ≡ false
    go true e = absurd (not (IsUtf8-from_is_utf8 bytes e))
    go false e = e

-- ---- lines

pub text_told : (line : List ℕ) → IsUtf8 line → only_if (is_utf8 line) line ≡ Some line
text_told line h = rw (is_utf8-from_IsUtf8 line h) refl

pub no_text_told : (line : List ℕ) → (IsUtf8 line → ⊥) → only_if (is_utf8 line) line ≡ None
no_text_told line h = rw (not_utf8 line h) refl

-- ---- standard input

first_not : (b u : Bool) (text : List ℕ) → b ≡ false → (if b && u then Some text else None) ≡ None
first_not true u text e = absurd cc
first_not false u text e = refl

-- what is read of more than standard input may have is as good as all of it
pub input_text_whole : (input rest : List ℕ) → (length input ≤ 1048576 → rest ≡ []) → input_text (input ++ rest) ≡ input_text input
input_text_whole input rest whole = go (nat_le (length input) 1048576) refl
  where
    go : (b : Bool) → nat_le (length input) 1048576 ≡ b → input_text (input ++ rest) ≡ input_text input
    go true e = let none : rest ≡ [] = whole (leb-true _ _ e) in ap input_text (ap (λ r. input ++ r) none ∙ append-nil input)
    go false e =
        let long : 1048576 < length input = leb-false _ _ e in
        let longer : nat_le (length (input ++ rest)) 1048576 ≡ false = lt-leb _ _ (simp length-append (omega arith)) in
        first_not (nat_le (length (input ++ rest)) 1048576) (is_utf8 (input ++ rest)) (input ++ rest) longer
        ∙ sym (first_not (nat_le (length input) 1048576) (is_utf8 input) input e)

-- what is taken as a text is not too long
pub input_text_short : (input text : List ℕ) → input_text input ≡ Some text → length input ≤ 1048576
input_text_short input text e = go (nat_le (length input) 1048576) (is_utf8 input) refl e
  where
    go : (b u : Bool) → nat_le (length input) 1048576 ≡ b → (if b && u then Some input else None) ≡ Some text → length input ≤ 1048576
    go true u is e' = leb-true _ _ is
    go false u is e' = absurd cc
