-- Texts with a slash between their parts, and the bytes of names.
use Rattle.std.proofs.Common.{◌≡◌, ◌≢◌, ℕ, zero, suc, ◌<◌, true, ◌&&◌, List, [], ◌∷◌, ◌++◌, length, get_or, refl, sym, ap, ap₂, ◌∙◌, subst, arith, inl, inr, eq-eqb, ne_eqb, one-add, add-one, nat_le}
use Rattle.std.proofs.lemmas.Bool.{cases_eq, and_parts}
use Rattle.std.proofs.lemmas.Bool.Decides.{nat_tests}
use Rattle.std.specs.List.{before_first, after_first, list_all}
use Rattle.std.specs.Char.{is_ascii_alphanumeric}
use Rattle.std.specs.Str.{IsAscii}
use Rattle.ipam_addr.specs.Names.{is_name_byte, is_name_within}
use Rattle.ipam_addr.specs.Text.{is_slash}

-- no byte is `/`
abbrev pub NoSlash : List ℕ → Type 0
NoSlash [] = Unit {0}
NoSlash (c ∷ text) = (c ≢ 47) × NoSlash text

pub NoSlash-append : (xs ys : List ℕ) → NoSlash xs → NoSlash ys → NoSlash (xs ++ ys)
NoSlash-append [] ys h k = k
NoSlash-append (x ∷ xs) ys h k = (h.0, NoSlash-append xs ys h.1 k)

-- ---- the first slash
before_first-other : (c : ℕ) (text : List ℕ) → c ≢ 47 → before_first is_slash (c ∷ text) ≡ c ∷ before_first is_slash text
before_first-other c text other = rw (ne_eqb c 47 other, one-add) refl

after_first-other : (c : ℕ) (text : List ℕ) → c ≢ 47 → after_first is_slash (c ∷ text) ≡ after_first is_slash text
after_first-other c text other = rw (ne_eqb c 47 other, one-add, add-one, add-one) refl

pub before_slash : (address rest : List ℕ) → NoSlash address → before_first is_slash (address ++ 47 ∷ rest) ≡ address
before_slash [] rest h = refl
before_slash (c ∷ address) rest h = before_first-other c (address ++ 47 ∷ rest) h.0 ∙ ap (λ t. c ∷ t) (before_slash address rest h.1)

pub after_slash : (address rest : List ℕ) → NoSlash address → after_first is_slash (address ++ 47 ∷ rest) ≡ rest
after_slash [] rest h = refl
after_slash (c ∷ address) rest h = after_first-other c (address ++ 47 ∷ rest) h.0 ∙ after_slash address rest h.1

-- where something follows the first slash, the text is its two parts
pub around_slash : (text : List ℕ) → 0 < length (after_first is_slash text) → text ≡ before_first is_slash text ++ 47 ∷ after_first is_slash text
around_slash [] some = absurd (omega arith)
around_slash (c ∷ text) some = elim (cases_eq c 47) [
  | inl slash ↦ rw (eq-eqb c 47 slash) (ap (λ b. b ∷ text) slash)
  | inr other ↦
      let after = after_first-other c text other in
      let later = around_slash text (omega (arith, ap length after)) in
      let before = before_first-other c text other in
      ap (λ t. c ∷ t) later ∙ sym (ap₂ (λ s t. s ++ 47 ∷ t) before after)
]

-- ---- the bytes of a name
byte_small : (c : ℕ) → is_name_byte c ≡ true → c < 128
byte_small c h = grind (arith, nat_tests)

byte_other : (c : ℕ) → is_name_byte c ≡ true → c ≢ 47
byte_other c h e = let k : is_name_byte 47 ≡ true = subst (λ (b : ℕ). is_name_byte b ≡ true) e h in cc

first_byte : (c : ℕ) → is_ascii_alphanumeric c ≡ true → is_name_byte c ≡ true
first_byte c h = rw h refl

NoSlash-bytes : (text : List ℕ) → list_all is_name_byte text ≡ true → NoSlash text
NoSlash-bytes [] h = tt
NoSlash-bytes (c ∷ text) h =
    let (here, more) = and_parts (is_name_byte c) (list_all is_name_byte text) h in
    (byte_other c here, NoSlash-bytes text more)

IsAscii-bytes : (text : List ℕ) → list_all is_name_byte text ≡ true → (i : ℕ) → get_or text i 0 < 128
IsAscii-bytes [] h i = omega arith
IsAscii-bytes (c ∷ text) h zero = byte_small c (and_parts (is_name_byte c) (list_all is_name_byte text) h).0
IsAscii-bytes (c ∷ text) h (suc i) = IsAscii-bytes text (and_parts (is_name_byte c) (list_all is_name_byte text) h).1 i

all_name_bytes : (most : ℕ) (text : List ℕ) → is_name_within most text ≡ true → list_all is_name_byte text ≡ true
all_name_bytes most [] h = refl
all_name_bytes most (c ∷ text) h =
    let (front, rest) = and_parts (is_ascii_alphanumeric c && nat_le (length (c ∷ text)) most) (list_all is_name_byte text) h in
    let (letter, short) = and_parts (is_ascii_alphanumeric c) (nat_le (length (c ∷ text)) most) front in
    rw (first_byte c letter) rest

pub NoSlash-name : (most : ℕ) (text : List ℕ) → is_name_within most text ≡ true → NoSlash text
NoSlash-name most text h = NoSlash-bytes text (all_name_bytes most text h)

pub IsAscii-name : (most : ℕ) (text : List ℕ) → is_name_within most text ≡ true → IsAscii text
IsAscii-name most text h = IsAscii-bytes text (all_name_bytes most text h)
