-- The digits that are written one after another.
use Rattle.std.proofs.Common.{◌≡◌, ℕ, ◌+◌, ◌/◌, ◌%◌, ◌<◌, ◌≤◌, List, [], ◌∷◌, ◌++◌, take, drop, decimal, Result, Ok, Err, IsOk, MatchResult, refl, ap, ◌∙◌, subst, arith, append_assoc, le-leb, lt-ltb, le-ltb}
use Rattle.std.proofs.lemmas.Bool.{lt-leb}
use Rattle.std.proofs.lemmas.Fmt.{decimal_digit, decimal_step}
use Rattle.std.proofs.lemmas.Str.{IsUtf8-from_ascii}
use Rattle.std.specs.Char.{digit_char}
use Rattle.std.specs.Str.{IsAscii, IsUtf8}
use Rattle.std.specs.Net.Text.{hex, groups_text, longest_zero_run, hex_groups_text}

pub decimal_one : (n : ℕ) → n < 10 → decimal n ≡ (48 + n) ∷ []
decimal_one n h = decimal_digit n h

pub decimal_two : (n : ℕ) → 10 ≤ n → n < 100 → decimal n ≡ (48 + n / 10) ∷ (48 + n % 10) ∷ []
decimal_two n low high =
    decimal_step n low (omega arith) ∙ ap (λ t. t ++ (48 + n % 10) ∷ []) (decimal_digit (n / 10) (omega arith))

pub decimal_three : (n : ℕ) → 100 ≤ n → n < 256 → decimal n ≡ (48 + n / 100) ∷ (48 + n / 10 % 10) ∷ (48 + n % 10) ∷ []
decimal_three n low high =
    let hundreds : n / 10 / 10 ≡ n / 100 = omega arith in
    decimal_step n (omega arith) (omega arith)
    ∙ ap (λ t. t ++ (48 + n % 10) ∷ []) (decimal_two (n / 10) (omega arith) (omega arith))
    ∙ ap (λ h. (48 + h) ∷ (48 + n / 10 % 10) ∷ (48 + n % 10) ∷ []) hundreds

pub hex_one : (n : ℕ) → n < 0x10 → hex n ≡ digit_char (n % 16) ∷ []
unfolding hex
hex_one n h = rw (lt-leb 0x1000 n (omega arith), lt-leb 0x100 n (omega arith), lt-leb 0x10 n h) refl

pub hex_two : (n : ℕ) → 0x10 ≤ n → n < 0x100 → hex n ≡ digit_char (n / 0x10 % 16) ∷ digit_char (n % 16) ∷ []
unfolding hex
hex_two n low h = rw (lt-leb 0x1000 n (omega arith), lt-leb 0x100 n h, le-leb 0x10 n low) refl

pub hex_three : (n : ℕ) → 0x100 ≤ n → n < 0x1000 → hex n ≡ digit_char (n / 0x100 % 16) ∷ digit_char (n / 0x10 % 16) ∷ digit_char (n % 16) ∷ []
unfolding hex
hex_three n low h = rw (lt-leb 0x1000 n h, le-leb 0x100 n low) refl

pub hex_four : (n : ℕ) → 0x1000 ≤ n → hex n ≡ digit_char (n / 0x1000) ∷ digit_char (n / 0x100 % 16) ∷ digit_char (n / 0x10 % 16) ∷ digit_char (n % 16) ∷ []
unfolding hex
hex_four n low = rw (le-leb 0x1000 n low) refl

-- with `::` and without
pub hex_groups_text-elided : (segments : List ℕ) (start len : ℕ) → longest_zero_run segments ≡ (start, len) → 1 < len → hex_groups_text segments ≡ groups_text (take start segments) ++ (58 ∷ 58 ∷ []) ++ groups_text (drop (start + len) segments)
unfolding hex_groups_text
hex_groups_text-elided segments start len e long = rw (e, lt-ltb 1 len long) refl

pub hex_groups_text-whole : (segments : List ℕ) (start len : ℕ) → longest_zero_run segments ≡ (start, len) → len ≤ 1 → hex_groups_text segments ≡ groups_text segments
unfolding hex_groups_text
hex_groups_text-whole segments start len e short = rw (e, le-ltb 1 len short) refl

-- ASCII is UTF-8
pub IsOk-ascii : {A E : Type 0} (P : A → Type 0) (Q : E → Type 0) (bytes : List ℕ) (r : Result A E) → IsAscii bytes → MatchResult r P (λ e. ¬ (IsUtf8 bytes) × Q e) → IsOk r
IsOk-ascii P Q bytes (Ok x) ascii h = refl
IsOk-ascii P Q bytes (Err e) ascii h = absurd (h.0 (IsUtf8-from_ascii bytes ascii))

pub MatchResult-at_ok : {A E : Type 0} (P : A → Type 0) (Q : E → Type 0) {r : Result A E} {x : A} → r ≡ Ok x → MatchResult r P Q → P x
MatchResult-at_ok P Q e h = subst (λ v. MatchResult v P Q) e h

-- bytes that were written one after another
pub written_two : (old : List ℕ) (a b : ℕ) (one two : List ℕ) → one ≡ old ++ a ∷ [] → two ≡ one ++ b ∷ [] → two ≡ old ++ a ∷ b ∷ []
written_two old a b one two e f = f ∙ ap (λ t. t ++ b ∷ []) e ∙ append_assoc old (a ∷ []) (b ∷ [])

pub written_three : (old : List ℕ) (a b c : ℕ) (one two three : List ℕ) → one ≡ old ++ a ∷ [] → two ≡ one ++ b ∷ [] → three ≡ two ++ c ∷ [] → three ≡ old ++ a ∷ b ∷ c ∷ []
written_three old a b c one two three e f g = g ∙ ap (λ t. t ++ c ∷ []) (written_two old a b one two e f) ∙ append_assoc old (a ∷ b ∷ []) (c ∷ [])

pub written_four : (old : List ℕ) (a b c d : ℕ) (one two three four : List ℕ) → one ≡ old ++ a ∷ [] → two ≡ one ++ b ∷ [] → three ≡ two ++ c ∷ [] → four ≡ three ++ d ∷ [] → four ≡ old ++ a ∷ b ∷ c ∷ d ∷ []
written_four old a b c d one two three four e f g h = h ∙ ap (λ t. t ++ d ∷ []) (written_three old a b c one two three e f g) ∙ append_assoc old (a ∷ b ∷ c ∷ []) (d ∷ [])

pub written_elided : (old head tail one two three four : List ℕ) → one ≡ old ++ head → two ≡ one ++ 58 ∷ [] → three ≡ two ++ 58 ∷ [] → four ≡ three ++ tail → four ≡ old ++ (head ++ (58 ∷ 58 ∷ []) ++ tail)
written_elided old head tail one two three four e f g h =
    let marks = written_two (old ++ head) 58 58 two three (f ∙ ap (λ t. t ++ 58 ∷ []) e) g in
    h ∙ ap (λ t. t ++ tail) marks ∙ simp append_assoc
