-- Arguments, an item at a time.
use Rattle.std.proofs.Common.{◌≡◌, ◌≢◌, ℕ, suc, ◌<◌, List, [], ◌∷◌, ◌++◌, length, get_or, ◌&&◌, Bool, true, false, refl, ap, ◌∙◌, arith, ne_eqb, if◌then◌else◌}
use Rattle.std.specs.List.{list_all, after_first}
use Rattle.cni_types.specs.Environment.{is_equals, items_of, is_argument, item_has_key, argument_from}

-- no byte of the list is `;`
abbrev pub Lacks : List ℕ → Type 0
Lacks xs = (i : ℕ) → i < length xs → get_or xs i 0 ≢ 59

items_of-one : (xs : List ℕ) → Lacks xs → items_of xs ≡ xs ∷ []
items_of-one [] h = refl
items_of-one (x ∷ xs) h = rw (ne_eqb x 59 (h 0 (omega arith)), items_of-one xs (λ i less. h (suc i) (omega arith)))

items_of-first : (xs rest : List ℕ) → Lacks xs → items_of (xs ++ 59 ∷ rest) ≡ xs ∷ items_of rest
items_of-first [] rest h = refl
items_of-first (x ∷ xs) rest h = rw (ne_eqb x 59 (h 0 (omega arith)), items_of-first xs rest (λ i less. h (suc i) (omega arith)))

when_bad : (b c : Bool) → b ≡ false → (b && c) ≡ false
when_bad true c e = absurd cc
when_bad false c e = refl

when_good : (b c : Bool) → b ≡ true → (b && c) ≡ c
when_good true c e = refl
when_good false c e = absurd cc

pub all-bad : (text item rest : List ℕ) → text ≡ item ++ 59 ∷ rest → Lacks item → is_argument item ≡ false → list_all is_argument (items_of text) ≡ false
all-bad text item rest e h bad = ap (λ t. list_all is_argument (items_of t)) e ∙ ap (list_all is_argument) (items_of-first item rest h) ∙ when_bad _ _ bad

pub all-good : (text item rest : List ℕ) → text ≡ item ++ 59 ∷ rest → Lacks item → is_argument item ≡ true → list_all is_argument (items_of text) ≡ list_all is_argument (items_of rest)
all-good text item rest e h good = ap (λ t. list_all is_argument (items_of t)) e ∙ ap (list_all is_argument) (items_of-first item rest h) ∙ when_good _ _ good

and_true : (b : Bool) → (b && true) ≡ b
and_true true = refl
and_true false = refl

pub all-one : (text : List ℕ) → Lacks text → list_all is_argument (items_of text) ≡ is_argument text
all-one text h = ap (list_all is_argument) (items_of-one text h) ∙ and_true (is_argument text)

pub argument-first : (key found text item rest : List ℕ) → text ≡ item ++ 59 ∷ rest → Lacks item → argument_from key found (items_of text) ≡ argument_from key (if item_has_key key item then after_first is_equals item else found) (items_of rest)
argument-first key found text item rest e h = ap (λ t. argument_from key found (items_of t)) e ∙ ap (argument_from key found) (items_of-first item rest h)

pub argument-one : (key found text : List ℕ) → Lacks text → argument_from key found (items_of text) ≡ (if item_has_key key text then after_first is_equals text else found)
argument-one key found text h = ap (argument_from key found) (items_of-one text h)
