-- The text of an object shows where it ends: at the bracket that closes its first.
use Rattle.std.proofs.Common.{◌≡◌, ℕ, zero, suc, ◌+◌, ◌/◌, ◌%◌, ◌<◌, ◌≤◌, List, [], ◌∷◌, ◌++◌, Bool, true, false, cond, ◌&&◌, ◌||◌, not, inl, inr, decimal, pos, negsuc, refl, ap, ◌∙◌, arith, ne_eqb, lt-ltb, append_assoc}
use Rattle.std.specs.Prelude.{◌==◌}
use Rattle.std.specs.Fmt.{digits, digits_onto, digit_glyph}
use Rattle.std.proofs.lemmas.Bool.{and_parts, cases_lt, cases_eq}
use Rattle.json.specs.Print.{escape_byte, escape, quoted}
use Rattle.json.proofs.Printed.Strings.{escape_byte_plain}
use Rattle.serde_json.specs.Data.{unsigned, negative, float, Num, Data, null, boolean, number, string, array, object, Items, no_items, item, Members, no_members, member}
use Rattle.serde_json.specs.Written.{comma_if, number_text, compact_text, items_text, members_text}
use Rattle.ipam_text_laws.proofs.Plain.{Passes, passes, passes-cons, passes-first, passes-rest}

-- ---- what stands after the last bracket

-- between the parts of values, in a string, or after its escaping byte
data Place : Type 0 where
  Between : Place
  Inside : Place
  Escaped : Place

abbrev is_open : ℕ → Bool
is_open x = (x == 91) || (x == 123)

abbrev is_close : ℕ → Bool
is_close x = (x == 93) || (x == 125)

abbrev less_one : ℕ → ℕ
less_one zero = zero
less_one (suc n) = n

abbrev next_place : Place → ℕ → Place
next_place Between x = cond (x == 34) Inside Between
next_place Inside x = cond (x == 34) Between (cond (x == 92) Escaped Inside)
next_place Escaped x = Inside

abbrev next_depth : Place → ℕ → ℕ → ℕ
next_depth Between depth x = cond (is_open x) (suc depth) (cond (is_close x) (less_one depth) depth)
next_depth Inside depth x = depth
next_depth Escaped depth x = depth

abbrev is_last : Place → ℕ → ℕ → Bool
is_last Between depth x = is_close x && (depth == 1)
is_last Inside depth x = false
is_last Escaped depth x = false

-- the text after the bracket that closes the first of so many
abbrev behind : Place → ℕ → List ℕ → List ℕ
behind place depth [] = []
behind place depth (x ∷ xs) = cond (is_last place depth x) xs (behind (next_place place x) (next_depth place depth x) xs)

-- the same after a closing bracket
abbrev closed : ℕ → List ℕ → List ℕ
closed n r = cond (suc n == 1) r (behind Between n r)

closed-deep : (n : ℕ) (r : List ℕ) → closed (suc n) r ≡ behind Between (suc n) r
closed-deep n r = ap (λ (b : Bool). cond b r (behind Between (suc n) r)) (ne_eqb (suc (suc n)) 1 (λ e. omega arith))

-- ---- strings

-- the bytes neither end a string nor leave it escaped
abbrev stays : Place → List ℕ → Bool
stays Between xs = false
stays Inside [] = true
stays Inside (x ∷ xs) = not (x == 34) && stays (cond (x == 92) Escaped Inside) xs
stays Escaped [] = false
stays Escaped (x ∷ xs) = stays Inside xs

stays-behind : (place : Place) (depth : ℕ) (xs t : List ℕ) → stays place xs ≡ true → behind place depth (xs ++ t) ≡ behind Inside depth t
stays-behind Between depth xs t h = absurd (cc h)
stays-behind Inside depth [] t h = refl
stays-behind Inside depth (x ∷ xs) t h =
    let both = and_parts (not (x == 34)) (stays (cond (x == 92) Escaped Inside) xs) h in
    by (x == 34) both.0 (stays-behind (cond (x == 92) Escaped Inside) depth xs t both.1)
  where
    by : (b : Bool) → not b ≡ true → behind (cond (x == 92) Escaped Inside) depth (xs ++ t) ≡ behind Inside depth t → behind (cond b Between (cond (x == 92) Escaped Inside)) depth (xs ++ t) ≡ behind Inside depth t
    by true e rest = absurd (cc e)
    by false e rest = rest
stays-behind Escaped depth [] t h = absurd (cc h)
stays-behind Escaped depth (x ∷ xs) t h = stays-behind Inside depth xs t h

abbrev stays_below : ℕ → Bool
stays_below zero = true
stays_below (suc n) = stays Inside (escape_byte n) && stays_below n

stay_below : (n : ℕ) → stays_below n ≡ true → (x : ℕ) → x < n → stays Inside (escape_byte x) ≡ true
stay_below zero e x h = absurd (omega arith)
stay_below (suc n) e x h =
    let both = and_parts (stays Inside (escape_byte n)) (stays_below n) e in
    elim (cases_eq x n) [ inl same ↦ rw same both.0 | inr other ↦ stay_below n both.1 x (omega arith) ]

first_bytes : stays_below 128 ≡ true
unfolding escape_byte
first_bytes = refl

escape_byte-stays : (x : ℕ) → stays Inside (escape_byte x) ≡ true
escape_byte-stays x = elim (cases_lt x 128) [
  | inl small ↦ stay_below 128 first_bytes x small
  | inr big ↦ rw (escape_byte_plain x (λ e. omega arith) (λ e. omega arith) (omega arith), ne_eqb x 34 (λ e. omega arith), ne_eqb x 92 (λ e. omega arith)) refl
]

escape-behind : (s : List ℕ) (depth : ℕ) (t : List ℕ) → behind Inside depth (escape s ++ t) ≡ behind Inside depth t
escape-behind [] depth t = refl
escape-behind (x ∷ s) depth t =
    ap (behind Inside depth) (append_assoc (escape_byte x) (escape s) t)
    ∙ stays-behind Inside depth (escape_byte x) (escape s ++ t) (escape_byte-stays x) ∙ escape-behind s depth t

quoted-behind : (s : List ℕ) (depth : ℕ) (t : List ℕ) → behind Between depth (quoted s ++ t) ≡ behind Between depth t
quoted-behind s depth t = ap (behind Inside depth) (append_assoc (escape s) (34 ∷ []) t) ∙ escape-behind s depth (34 ∷ t)

-- ---- numbers

abbrev is_quiet : ℕ → Bool
is_quiet x = not (x == 34) && not (is_open x) && not (is_close x)

quiet-behind : (xs : List ℕ) (depth : ℕ) (t : List ℕ) → Passes is_quiet xs → behind Between depth (xs ++ t) ≡ behind Between depth t
quiet-behind [] depth t h = refl
quiet-behind (x ∷ xs) depth t h =
    let both = and_parts (not (x == 34) && not (is_open x)) (not (is_close x)) (passes-first x xs h) in
    let first = and_parts (not (x == 34)) (not (is_open x)) both.0 in
    by (x == 34) (is_open x) (is_close x) first.0 first.1 both.1 (quiet-behind xs depth t (passes-rest x xs h))
  where
    by : (a b c : Bool) → not a ≡ true → not b ≡ true → not c ≡ true → behind Between depth (xs ++ t) ≡ behind Between depth t → cond (c && (depth == 1)) (xs ++ t) (behind (cond a Inside Between) (cond b (suc depth) (cond c (less_one depth) depth)) (xs ++ t)) ≡ behind Between depth t
    by false false false e f g rest = rest
    by true b c e f g rest = absurd (cc e)
    by false true c e f g rest = absurd (cc f)
    by false false true e f g rest = absurd (cc g)

glyph-quiet : (d : ℕ) → d < 10 → is_quiet (digit_glyph false d) ≡ true
glyph-quiet d h = rw (lt-ltb d 10 h) (quiet (48 + d) (omega arith) (omega arith))
  where
    quiet : (x : ℕ) → 48 ≤ x → x < 58 → is_quiet x ≡ true
    quiet x low high = rw (ne_eqb x 34 (λ e. omega arith), ne_eqb x 91 (λ e. omega arith), ne_eqb x 123 (λ e. omega arith), ne_eqb x 93 (λ e. omega arith), ne_eqb x 125 (λ e. omega arith)) refl

onto-quiet : (k n : ℕ) (acc : List ℕ) → Passes is_quiet acc → Passes is_quiet (digits_onto k 10 false n acc)
onto-quiet zero n acc h = h
onto-quiet (suc k) n acc h =
    let more : Passes is_quiet (digit_glyph false (n % 10) ∷ acc) = passes-cons (digit_glyph false (n % 10)) acc (glyph-quiet (n % 10) (omega arith)) h in
    by (n / 10 == 0) (digit_glyph false (n % 10) ∷ acc) (digits_onto k 10 false (n / 10) (digit_glyph false (n % 10) ∷ acc)) more
    (onto-quiet k (n / 10) (digit_glyph false (n % 10) ∷ acc) more)
  where
    by : (b : Bool) (xs ys : List ℕ) → Passes is_quiet xs → Passes is_quiet ys → Passes is_quiet (cond b xs ys)
    by true xs ys q r = q
    by false xs ys q r = r

decimal-quiet : (n : ℕ) → Passes is_quiet (decimal n)
unfolding digits
decimal-quiet n = onto-quiet 64 n [] (passes is_quiet [] refl)

number-behind : (n : Num) (depth : ℕ) (t : List ℕ) → behind Between depth (number_text n ++ t) ≡ behind Between depth t
number-behind (unsigned n) depth t = quiet-behind (decimal n) depth t (decimal-quiet n)
number-behind (negative (pos n)) depth t = quiet-behind (decimal n) depth t (decimal-quiet n)
number-behind (negative (negsuc n)) depth t = quiet-behind (45 ∷ decimal (suc n)) depth t (passes-cons 45 (decimal (suc n)) refl (decimal-quiet (suc n)))
number-behind (float x) depth t = refl

-- ---- values

comma-behind : (later : Bool) (depth : ℕ) (t : List ℕ) → behind Between depth (comma_if later ++ t) ≡ behind Between depth t
comma-behind true depth t = refl
comma-behind false depth t = refl

mutual
  value-behind : (d : Data) (n : ℕ) (t : List ℕ) → behind Between (suc n) (compact_text d ++ t) ≡ behind Between (suc n) t
  value-behind null n t = refl
  value-behind (boolean true) n t = refl
  value-behind (boolean false) n t = refl
  value-behind (number x) n t = number-behind x (suc n) t
  value-behind (string s) n t = quoted-behind s (suc n) t
  value-behind (array ds) n t = items-behind false ds (suc n) t ∙ closed-deep n t
  value-behind (object ms) n t = members-behind false ms (suc n) t ∙ closed-deep n t

  items-behind : (later : Bool) (ds : Items) (n : ℕ) (t : List ℕ) → behind Between (suc n) (items_text later ds ++ t) ≡ closed n t
  items-behind later no_items n t = refl
  items-behind later (item d ds) n t =
      ap (behind Between (suc n)) (append_assoc (comma_if later) (compact_text d ++ items_text true ds) t)
      ∙ comma-behind later (suc n) ((compact_text d ++ items_text true ds) ++ t)
      ∙ ap (behind Between (suc n)) (append_assoc (compact_text d) (items_text true ds) t)
      ∙ value-behind d n (items_text true ds ++ t) ∙ items-behind true ds n t

  members-behind : (later : Bool) (ms : Members) (n : ℕ) (t : List ℕ) → behind Between (suc n) (members_text later ms ++ t) ≡ closed n t
  members-behind later no_members n t = refl
  members-behind later (member k d ms) n t =
      let rest = compact_text d ++ members_text true ms in
      ap (behind Between (suc n)) (append_assoc (comma_if later) (quoted k ++ 58 ∷ rest) t)
      ∙ comma-behind later (suc n) ((quoted k ++ 58 ∷ rest) ++ t)
      ∙ ap (behind Between (suc n)) (append_assoc (quoted k) (58 ∷ rest) t)
      ∙ quoted-behind k (suc n) (58 ∷ (rest ++ t))
      ∙ ap (behind Between (suc n)) (append_assoc (compact_text d) (members_text true ms) t)
      ∙ value-behind d n (members_text true ms ++ t) ∙ members-behind true ms n t

-- ---- objects

abbrev pub is_object : Data → Bool
is_object null = false
is_object (boolean b) = false
is_object (number n) = false
is_object (string s) = false
is_object (array ds) = false
is_object (object ms) = true

-- what stands after the object with which a text begins
pub behind_object : List ℕ → List ℕ
behind_object text = behind Between 0 text

pub object-behind : (d : Data) (t : List ℕ) → is_object d ≡ true → behind_object (compact_text d ++ t) ≡ t
unfolding behind_object
object-behind null t e = absurd (cc e)
object-behind (boolean b) t e = absurd (cc e)
object-behind (number n) t e = absurd (cc e)
object-behind (string s) t e = absurd (cc e)
object-behind (array ds) t e = absurd (cc e)
object-behind (object ms) t e = members-behind false ms 0 t
