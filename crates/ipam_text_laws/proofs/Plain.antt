-- Texts whose bytes all pass a test.
use Rattle.std.proofs.Common.{◌≡◌, ◌≢◌, ℕ, zero, suc, ◌+◌, ◌/◌, ◌%◌, ◌≤◌, List, [], ◌∷◌, ◌++◌, Bool, true, false, cond, not, decimal, refl, ap, ◌∙◌, arith, ne_eqb, lt-ltb, ltb-true}
use Rattle.std.specs.Prelude.{◌==◌, nat_lt}
use Rattle.std.specs.Fmt.{digits, digits_onto, digit_glyph}
use Rattle.std.specs.List.{list_all, AllByRecursion}
use Rattle.std.proofs.lemmas.Bool.{and_parts, and_from}
use Rattle.std.proofs.lemmas.List.Elements.{All-from_recursion}
use Rattle.std.proofs.lemmas.List.Folds.{list_all-append}
use Rattle.ipam_io.specs.Feeds.{HasNoFeed}

-- each byte passes the test
pub record Passes (p : ℕ → Bool) (text : List ℕ) : Type 0 where
  pub each : list_all p text ≡ true

-- the byte is no line feed
abbrev pub is_no_feed : ℕ → Bool
is_no_feed x = not (x == 10)

-- the byte stands after the space, so it is no line feed either
abbrev pub is_visible : ℕ → Bool
is_visible x = nat_lt 32 x

abbrev pub IsPlain : List ℕ → Type 0
IsPlain = Passes is_no_feed

abbrev pub IsVisible : List ℕ → Type 0
IsVisible = Passes is_visible

-- ---- texts put together

pub passes : (p : ℕ → Bool) (text : List ℕ) → list_all p text ≡ true → Passes p text
passes p text h = record { each = h }

pub passes-append : {p : ℕ → Bool} (xs ys : List ℕ) → Passes p xs → Passes p ys → Passes p (xs ++ ys)
passes-append {p} xs ys h k = record { each = list_all-append p xs ys ∙ and_from (list_all p xs) (list_all p ys) h.each k.each }

pub passes-cons : {p : ℕ → Bool} (x : ℕ) (xs : List ℕ) → p x ≡ true → Passes p xs → Passes p (x ∷ xs)
passes-cons {p} x xs h k = record { each = and_from (p x) (list_all p xs) h k.each }

pub passes-first : {p : ℕ → Bool} (x : ℕ) (xs : List ℕ) → Passes p (x ∷ xs) → p x ≡ true
passes-first {p} x xs h = (and_parts (p x) (list_all p xs) h.each).0

pub passes-rest : {p : ℕ → Bool} (x : ℕ) (xs : List ℕ) → Passes p (x ∷ xs) → Passes p xs
passes-rest {p} x xs h = record { each = (and_parts (p x) (list_all p xs) h.each).1 }

-- what is written at a place that is fixed
pub plain-text : (text : List ℕ) → list_all is_no_feed text ≡ true → IsPlain text
plain-text text h = passes is_no_feed text h

pub visible-text : (text : List ℕ) → list_all is_visible text ≡ true → IsVisible text
visible-text text h = passes is_visible text h

-- ---- what the tests say

pub no_feed-above : (x : ℕ) → 32 ≤ x → is_no_feed x ≡ true
no_feed-above x h = ap not (ne_eqb x 10 (λ e. omega arith))

pub plain-visible : (xs : List ℕ) → IsVisible xs → IsPlain xs
plain-visible [] h = plain-text [] refl
plain-visible (x ∷ xs) h =
    let above = ltb-true 32 x (passes-first x xs h) in
    passes-cons x xs (no_feed-above x (omega arith)) (plain-visible xs (passes-rest x xs h))

-- no byte is this one
abbrev pub Lacks : ℕ → List ℕ → Type 0
Lacks stop = AllByRecursion (λ x. x ≢ stop)

pub lacks-passed : (p : ℕ → Bool) (stop : ℕ) → p stop ≡ false → (xs : List ℕ) → Passes p xs → Lacks stop xs
lacks-passed p stop e [] h = tt
lacks-passed p stop e (x ∷ xs) h =
    let first = passes-first x xs h in
    ((λ same. let there : p x ≡ false = ap p same ∙ e in absurd cc), lacks-passed p stop e xs (passes-rest x xs h))

pub HasNoFeed-plain : (xs : List ℕ) → IsPlain xs → HasNoFeed xs
HasNoFeed-plain xs h = All-from_recursion (λ x. x ≢ 10) xs (lacks-passed is_no_feed 10 refl xs h)

-- ---- digits

glyph-visible : (d : ℕ) → is_visible (digit_glyph false d) ≡ true
glyph-visible d = by (nat_lt d 10)
  where
    by : (b : Bool) → is_visible (cond b (48 + d) (87 + d)) ≡ true
    by true = lt-ltb 32 (48 + d) (omega arith)
    by false = lt-ltb 32 (87 + d) (omega arith)

onto-visible : (k n : ℕ) (acc : List ℕ) → IsVisible acc → IsVisible (digits_onto k 10 false n acc)
onto-visible zero n acc h = h
onto-visible (suc k) n acc h =
    let more : IsVisible (digit_glyph false (n % 10) ∷ acc) = passes-cons (digit_glyph false (n % 10)) acc (glyph-visible (n % 10)) h in
    by (n / 10 == 0) (digit_glyph false (n % 10) ∷ acc) (digits_onto k 10 false (n / 10) (digit_glyph false (n % 10) ∷ acc)) more
    (onto-visible k (n / 10) (digit_glyph false (n % 10) ∷ acc) more)
  where
    by : (b : Bool) (xs ys : List ℕ) → IsVisible xs → IsVisible ys → IsVisible (cond b xs ys)
    by true xs ys q r = q
    by false xs ys q r = r

-- the digits of any number
pub visible-decimal : (n : ℕ) → IsVisible (decimal n)
unfolding digits
visible-decimal n = onto-visible 64 n [] (visible-text [] refl)

pub plain-decimal : (n : ℕ) → IsPlain (decimal n)
plain-decimal n = plain-visible (decimal n) (visible-decimal n)
