-- Where one of two texts of canonical data goes on as the other does, they are texts of one value.
use Rattle.std.proofs.Common.{◌≡◌, ℕ, ◌^◌, ◌<◌, ◌≤◌, ◌==◌, List, [], ◌∷◌, ◌++◌, length, get_or, Bool, true, false, cond, Some, None, decimal, refl, sym, ap, ap₂, ◌∙◌, arith, append_assoc}
use Rattle.std.proofs.lemmas.Bool.{and_parts}
use Rattle.std.proofs.lemmas.Fmt.{decimal_is_IsNumeral}
use Rattle.std.proofs.lemmas.List.{append_cancel_left}
use Rattle.std.specs.Char.{is_ascii_digit}
use Rattle.std.specs.List.{list_all}
use Rattle.std.specs.Prelude.{⊤, MatchOption}
use Rattle.std.specs.Str.Parse.{digits_value}
use Rattle.json.specs.Print.{escape, quoted}
use Rattle.json.specs.Text.{content, plain}
use Rattle.json.proofs.Printed.Strings.{content-escape}
use Rattle.serde_json.specs.Data.{unsigned, negative, float, Data, null, boolean, number, string, array, object, Items, no_items, item, Members, no_members, member}
use Rattle.serde_json.specs.Find.{as_number}
use Rattle.serde_json.specs.Written.{compact_text, items_text, members_text}
use Rattle.ipam_json.specs.Canonical.{IsRegular, ItemsAreRegular, MembersAreRegular, IsCanonical}
use Rattle.ipam_json.proofs.PathLemmas.{digit_texts}

abbrev tail : List ℕ → List ℕ
tail [] = []
tail (x ∷ xs) = xs

-- ---- digits before what is none

-- no digit stands first
abbrev Stops : List ℕ → Type 0
Stops r = is_ascii_digit (get_or r 0 0) ≡ false

digit_first : (x : ℕ) (xs : List ℕ) → list_all is_ascii_digit (x ∷ xs) ≡ true → is_ascii_digit x ≡ true
digit_first x xs h = (and_parts (is_ascii_digit x) (list_all is_ascii_digit xs) h).0

digit_rest : (x : ℕ) (xs : List ℕ) → list_all is_ascii_digit (x ∷ xs) ≡ true → list_all is_ascii_digit xs ≡ true
digit_rest x xs h = (and_parts (is_ascii_digit x) (list_all is_ascii_digit xs) h).1

cut-digits : (xs ys r r' : List ℕ) → list_all is_ascii_digit xs ≡ true → list_all is_ascii_digit ys ≡ true → Stops r → Stops r' → xs ++ r ≡ ys ++ r' → (xs ≡ ys) × (r ≡ r')
cut-digits [] [] r r' h k stop stop' same = (refl, same)
cut-digits [] (y ∷ ys) r r' h k stop stop' same =
    let digit : is_ascii_digit (get_or r 0 0) ≡ true = ap (λ s. is_ascii_digit (get_or s 0 0)) same ∙ digit_first y ys k in absurd cc
cut-digits (x ∷ xs) [] r r' h k stop stop' same =
    let digit : is_ascii_digit (get_or r' 0 0) ≡ true = ap (λ s. is_ascii_digit (get_or s 0 0)) (sym same) ∙ digit_first x xs h in absurd cc
cut-digits (x ∷ xs) (y ∷ ys) r r' h k stop stop' same =
    let rest = cut-digits xs ys r r' (digit_rest x xs h) (digit_rest y ys k) stop stop' (ap tail same) in
    let first : x ≡ y = cc in
    (ap₂ (λ z zs. z ∷ zs) first rest.0, rest.1)

decimal_digits : (n : ℕ) → n < 2 ^ 64 → list_all is_ascii_digit (decimal n) ≡ true
decimal_digits n h = digit_texts.from (decimal n) (decimal_is_IsNumeral n h).0.1

cut-decimal : (n m : ℕ) (r r' : List ℕ) → n < 2 ^ 64 → m < 2 ^ 64 → Stops r → Stops r' → decimal n ++ r ≡ decimal m ++ r' → (n ≡ m) × (r ≡ r')
cut-decimal n m r r' h k stop stop' same =
    let both = cut-digits (decimal n) (decimal m) r r' (decimal_digits n h) (decimal_digits m k) stop stop' same in
    (sym (decimal_is_IsNumeral n h).1 ∙ ap (digits_value 10) both.0 ∙ (decimal_is_IsNumeral m k).1, both.1)

-- ---- strings

cut-quoted : (s t r r' : List ℕ) → quoted s ++ r ≡ quoted t ++ r' → (s ≡ t) × (r ≡ r')
cut-quoted s t r r' same =
    let inner : escape s ++ 34 ∷ r ≡ escape t ++ 34 ∷ r' = sym (append_assoc (escape s) (34 ∷ []) r) ∙ ap tail same ∙ append_assoc (escape t) (34 ∷ []) r' in
    let contents : Some s ≡ Some t = sym (content-escape s r) ∙ ap (content plain) inner ∙ content-escape t r' in
    let one : s ≡ t = cc in
    (one, ap tail (append_cancel_left (escape s) (34 ∷ r) (34 ∷ r') (inner ∙ ap (λ u. escape u ++ 34 ∷ r') (sym one))))

cut-name : (k l a b r r' : List ℕ) → (quoted k ++ 58 ∷ a) ++ r ≡ (quoted l ++ 58 ∷ b) ++ r' → (k ≡ l) × (a ++ r ≡ b ++ r')
cut-name k l a b r r' same =
    let both = cut-quoted k l (58 ∷ (a ++ r)) (58 ∷ (b ++ r')) (sym (append_assoc (quoted k) (58 ∷ a) r) ∙ same ∙ append_assoc (quoted l) (58 ∷ b) r') in
    (both.0, ap tail both.1)

-- ---- the first byte tells the kind

abbrev kind : Data → ℕ
kind null = 0
kind (boolean b) = 1
kind (number n) = 2
kind (string s) = 3
kind (array ds) = 4
kind (object ms) = 5

kind-le : (d : Data) → kind d ≤ 5
kind-le null = omega arith
kind-le (boolean b) = omega arith
kind-le (number n) = omega arith
kind-le (string s) = omega arith
kind-le (array ds) = omega arith
kind-le (object ms) = omega arith

-- the kind that the first byte tells, and 6 for a byte that begins no value
abbrev kind_at : List ℕ → ℕ
kind_at s =
    let c = get_or s 0 0 in
    cond (is_ascii_digit c) 2 (cond (c == 110) 0 (cond (c == 116) 1 (cond (c == 102) 1 (cond (c == 34) 3 (cond (c == 91) 4 (cond (c == 123) 5 6))))))

kind_at-digits : (xs r : List ℕ) → list_all is_ascii_digit xs ≡ true → 0 < length xs → kind_at (xs ++ r) ≡ 2
kind_at-digits [] r h some = absurd (omega arith)
kind_at-digits (x ∷ xs) r h some = rw (digit_first x xs h)

kind_at-compact_text : (d : Data) (r : List ℕ) → IsRegular d → kind_at (compact_text d ++ r) ≡ kind d
kind_at-compact_text null r h = refl
kind_at-compact_text (boolean true) r h = refl
kind_at-compact_text (boolean false) r h = refl
kind_at-compact_text (number (unsigned n)) r h = kind_at-digits (decimal n) r (decimal_digits n h) (decimal_is_IsNumeral n h).0.0
kind_at-compact_text (number (negative z)) r h = absurd h
kind_at-compact_text (number (float x)) r h = absurd h
kind_at-compact_text (string s) r h = refl
kind_at-compact_text (array ds) r h = refl
kind_at-compact_text (object ms) r h = refl

same_kind : (d e : Data) (r r' : List ℕ) → IsRegular d → IsRegular e → compact_text d ++ r ≡ compact_text e ++ r' → kind d ≡ kind e
same_kind d e r r' h k same = sym (kind_at-compact_text d r h) ∙ ap kind_at same ∙ kind_at-compact_text e r' k

no_value : (e : Data) (a r r' : List ℕ) → IsRegular e → 93 ∷ r ≡ (compact_text e ++ a) ++ r' → ⊥
no_value e a r r' h same =
    let none : 6 ≡ kind e = ap kind_at (same ∙ append_assoc (compact_text e) a r') ∙ kind_at-compact_text e (a ++ r') h in
    omega (arith, kind-le e)

-- ---- values

-- after a number no digit stands
abbrev Ends : Data → List ℕ → List ℕ → Type 0
Ends d r r' = MatchOption (as_number d) ⊤ (λ _. Stops r × Stops r')

Ends-Stops : (d : Data) (r r' : List ℕ) → Stops r → Stops r' → Ends d r r'
Ends-Stops null r r' stop stop' = tt
Ends-Stops (boolean b) r r' stop stop' = tt
Ends-Stops (number n) r r' stop stop' = (stop, stop')
Ends-Stops (string s) r r' stop stop' = tt
Ends-Stops (array ds) r r' stop stop' = tt
Ends-Stops (object ms) r r' stop stop' = tt

Stops-items_text : (ds : Items) (r : List ℕ) → Stops (items_text true ds ++ r)
Stops-items_text no_items r = refl
Stops-items_text (item d ds) r = refl

Stops-members_text : (ms : Members) (r : List ℕ) → Stops (members_text true ms ++ r)
Stops-members_text no_members r = refl
Stops-members_text (member k d ms) r = refl

mutual
  cut-value : (d e : Data) (r r' : List ℕ) → Ends d r r' → IsRegular d → IsRegular e → compact_text d ++ r ≡ compact_text e ++ r' → (d ≡ e) × (r ≡ r')
  cut-value null null r r' ends h k same = (refl, ap (λ s. tail (tail (tail (tail s)))) same)
  cut-value null (boolean c) r r' ends h k same = absurd (omega (arith, same_kind null (boolean c) r r' h k same))
  cut-value null (number m) r r' ends h k same = absurd (omega (arith, same_kind null (number m) r r' h k same))
  cut-value null (string t) r r' ends h k same = absurd (omega (arith, same_kind null (string t) r r' h k same))
  cut-value null (array es) r r' ends h k same = absurd (omega (arith, same_kind null (array es) r r' h k same))
  cut-value null (object ns) r r' ends h k same = absurd (omega (arith, same_kind null (object ns) r r' h k same))
  cut-value (boolean b) null r r' ends h k same = absurd (omega (arith, same_kind (boolean b) null r r' h k same))
  cut-value (boolean true) (boolean true) r r' ends h k same = (refl, ap (λ s. tail (tail (tail (tail s)))) same)
  cut-value (boolean true) (boolean false) r r' ends h k same = absurd (omega (arith, ap (λ s. get_or s 0 0) same))
  cut-value (boolean false) (boolean true) r r' ends h k same = absurd (omega (arith, ap (λ s. get_or s 0 0) same))
  cut-value (boolean false) (boolean false) r r' ends h k same = (refl, ap (λ s. tail (tail (tail (tail (tail s))))) same)
  cut-value (boolean b) (number m) r r' ends h k same = absurd (omega (arith, same_kind (boolean b) (number m) r r' h k same))
  cut-value (boolean b) (string t) r r' ends h k same = absurd (omega (arith, same_kind (boolean b) (string t) r r' h k same))
  cut-value (boolean b) (array es) r r' ends h k same = absurd (omega (arith, same_kind (boolean b) (array es) r r' h k same))
  cut-value (boolean b) (object ns) r r' ends h k same = absurd (omega (arith, same_kind (boolean b) (object ns) r r' h k same))
  cut-value (number n) null r r' ends h k same = absurd (omega (arith, same_kind (number n) null r r' h k same))
  cut-value (number n) (boolean c) r r' ends h k same = absurd (omega (arith, same_kind (number n) (boolean c) r r' h k same))
  cut-value (number (unsigned n)) (number (unsigned m)) r r' ends h k same =
      let both = cut-decimal n m r r' h k ends.0 ends.1 same in (ap (λ i. number (unsigned i)) both.0, both.1)
  cut-value (number (unsigned n)) (number (negative y)) r r' ends h k same = absurd k
  cut-value (number (unsigned n)) (number (float y)) r r' ends h k same = absurd k
  cut-value (number (negative x)) (number m) r r' ends h k same = absurd h
  cut-value (number (float x)) (number m) r r' ends h k same = absurd h
  cut-value (number n) (string t) r r' ends h k same = absurd (omega (arith, same_kind (number n) (string t) r r' h k same))
  cut-value (number n) (array es) r r' ends h k same = absurd (omega (arith, same_kind (number n) (array es) r r' h k same))
  cut-value (number n) (object ns) r r' ends h k same = absurd (omega (arith, same_kind (number n) (object ns) r r' h k same))
  cut-value (string s) null r r' ends h k same = absurd (omega (arith, same_kind (string s) null r r' h k same))
  cut-value (string s) (boolean c) r r' ends h k same = absurd (omega (arith, same_kind (string s) (boolean c) r r' h k same))
  cut-value (string s) (number m) r r' ends h k same = absurd (omega (arith, same_kind (string s) (number m) r r' h k same))
  cut-value (string s) (string t) r r' ends h k same = let both = cut-quoted s t r r' same in (ap string both.0, both.1)
  cut-value (string s) (array es) r r' ends h k same = absurd (omega (arith, same_kind (string s) (array es) r r' h k same))
  cut-value (string s) (object ns) r r' ends h k same = absurd (omega (arith, same_kind (string s) (object ns) r r' h k same))
  cut-value (array ds) null r r' ends h k same = absurd (omega (arith, same_kind (array ds) null r r' h k same))
  cut-value (array ds) (boolean c) r r' ends h k same = absurd (omega (arith, same_kind (array ds) (boolean c) r r' h k same))
  cut-value (array ds) (number m) r r' ends h k same = absurd (omega (arith, same_kind (array ds) (number m) r r' h k same))
  cut-value (array ds) (string t) r r' ends h k same = absurd (omega (arith, same_kind (array ds) (string t) r r' h k same))
  cut-value (array ds) (array es) r r' ends h k same = let both = cut-items false ds es r r' h k (ap tail same) in (ap array both.0, both.1)
  cut-value (array ds) (object ns) r r' ends h k same = absurd (omega (arith, same_kind (array ds) (object ns) r r' h k same))
  cut-value (object ms) null r r' ends h k same = absurd (omega (arith, same_kind (object ms) null r r' h k same))
  cut-value (object ms) (boolean c) r r' ends h k same = absurd (omega (arith, same_kind (object ms) (boolean c) r r' h k same))
  cut-value (object ms) (number m) r r' ends h k same = absurd (omega (arith, same_kind (object ms) (number m) r r' h k same))
  cut-value (object ms) (string t) r r' ends h k same = absurd (omega (arith, same_kind (object ms) (string t) r r' h k same))
  cut-value (object ms) (array es) r r' ends h k same = absurd (omega (arith, same_kind (object ms) (array es) r r' h k same))
  cut-value (object ms) (object ns) r r' ends h k same = let both = cut-members false ms ns r r' h k (ap tail same) in (ap object both.0, both.1)

  cut-items : (later : Bool) (ds es : Items) (r r' : List ℕ) → ItemsAreRegular ds → ItemsAreRegular es → items_text later ds ++ r ≡ items_text later es ++ r' → (ds ≡ es) × (r ≡ r')
  cut-items later no_items no_items r r' h k same = (refl, ap tail same)
  cut-items false no_items (item e es) r r' h k same = absurd (no_value e (items_text true es) r r' k.0 same)
  cut-items true no_items (item e es) r r' h k same = absurd (omega (arith, ap (λ s. get_or s 0 0) same))
  cut-items false (item d ds) no_items r r' h k same = absurd (no_value d (items_text true ds) r' r h.0 (sym same))
  cut-items true (item d ds) no_items r r' h k same = absurd (omega (arith, ap (λ s. get_or s 0 0) same))
  cut-items false (item d ds) (item e es) r r' h k same =
      let left = items_text true ds ++ r in
      let right = items_text true es ++ r' in
      let texts : compact_text d ++ left ≡ compact_text e ++ right = sym (append_assoc (compact_text d) (items_text true ds) r) ∙ same ∙ append_assoc (compact_text e) (items_text true es) r' in
      let first = cut-value d e left right (Ends-Stops d left right (Stops-items_text ds r) (Stops-items_text es r')) h.0 k.0 texts in
      let rest = cut-items true ds es r r' h.1 k.1 first.1 in
      (ap₂ item first.0 rest.0, rest.1)
  cut-items true (item d ds) (item e es) r r' h k same =
      let left = items_text true ds ++ r in
      let right = items_text true es ++ r' in
      let texts : compact_text d ++ left ≡ compact_text e ++ right = sym (append_assoc (compact_text d) (items_text true ds) r) ∙ ap tail same ∙ append_assoc (compact_text e) (items_text true es) r' in
      let first = cut-value d e left right (Ends-Stops d left right (Stops-items_text ds r) (Stops-items_text es r')) h.0 k.0 texts in
      let rest = cut-items true ds es r r' h.1 k.1 first.1 in
      (ap₂ item first.0 rest.0, rest.1)

  cut-members : (later : Bool) (ms ns : Members) (r r' : List ℕ) → MembersAreRegular ms → MembersAreRegular ns → members_text later ms ++ r ≡ members_text later ns ++ r' → (ms ≡ ns) × (r ≡ r')
  cut-members later no_members no_members r r' h j same = (refl, ap tail same)
  cut-members false no_members (member l e ns) r r' h j same = absurd (omega (arith, ap (λ s. get_or s 0 0) same))
  cut-members true no_members (member l e ns) r r' h j same = absurd (omega (arith, ap (λ s. get_or s 0 0) same))
  cut-members false (member k d ms) no_members r r' h j same = absurd (omega (arith, ap (λ s. get_or s 0 0) same))
  cut-members true (member k d ms) no_members r r' h j same = absurd (omega (arith, ap (λ s. get_or s 0 0) same))
  cut-members false (member k d ms) (member l e ns) r r' h j same =
      let left = members_text true ms ++ r in
      let right = members_text true ns ++ r' in
      let named = cut-name k l (compact_text d ++ members_text true ms) (compact_text e ++ members_text true ns) r r' (same) in
      let texts : compact_text d ++ left ≡ compact_text e ++ right = sym (append_assoc (compact_text d) (members_text true ms) r) ∙ named.1 ∙ append_assoc (compact_text e) (members_text true ns) r' in
      let first = cut-value d e left right (Ends-Stops d left right (Stops-members_text ms r) (Stops-members_text ns r')) h.1 j.1 texts in
      let rest = cut-members true ms ns r r' h.2 j.2 first.1 in
      ((λ i. member (named.0 i) (first.0 i) (rest.0 i)), rest.1)
  cut-members true (member k d ms) (member l e ns) r r' h j same =
      let left = members_text true ms ++ r in
      let right = members_text true ns ++ r' in
      let named = cut-name k l (compact_text d ++ members_text true ms) (compact_text e ++ members_text true ns) r r' (ap tail same) in
      let texts : compact_text d ++ left ≡ compact_text e ++ right = sym (append_assoc (compact_text d) (members_text true ms) r) ∙ named.1 ∙ append_assoc (compact_text e) (members_text true ns) r' in
      let first = cut-value d e left right (Ends-Stops d left right (Stops-members_text ms r) (Stops-members_text ns r')) h.1 j.1 texts in
      let rest = cut-members true ms ns r r' h.2 j.2 first.1 in
      ((λ i. member (named.0 i) (first.0 i) (rest.0 i)), rest.1)

shows_end : (d : Data) (r r' : List ℕ) → as_number d ≡ None → Ends d r r'
shows_end null r r' h = tt
shows_end (boolean b) r r' h = tt
shows_end (number n) r r' h = absurd cc
shows_end (string s) r r' h = tt
shows_end (array ds) r r' h = tt
shows_end (object ms) r r' h = tt

pub compact_text-prefix : (d e : Data) (rest rest' : List ℕ) → IsCanonical d → IsCanonical e → as_number d ≡ None → compact_text d ++ rest ≡ compact_text e ++ rest' → (d ≡ e) × (rest ≡ rest')
compact_text-prefix d e rest rest' h k shows same = cut-value d e rest rest' (shows_end d rest rest' shows) h.regular k.regular same
