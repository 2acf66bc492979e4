-- The compact text of JSON has no line feed.
use Rattle.std.proofs.Common.{◌≡◌, ℕ, zero, suc, ◌<◌, List, [], ◌∷◌, Bool, true, false, ◌&&◌, inl, inr, pos, negsuc, refl, arith}
use Rattle.std.specs.List.{list_all}
use Rattle.std.proofs.lemmas.Bool.{and_parts, cases_lt, cases_eq}
use Rattle.json.specs.Print.{escape_byte, escape, quoted}
use Rattle.json.proofs.Printed.Strings.{escape_byte_plain}
use Rattle.serde_json.specs.Data.{unsigned, negative, float, Num, Data, null, boolean, number, string, array, object, Items, no_items, item, Members, no_members, member}
use Rattle.serde_json.specs.Written.{comma_if, number_text, compact_text, items_text, members_text}
use Rattle.ipam_io.specs.Feeds.{HasNoFeed}
use Rattle.ipam_text_laws.proofs.Plain.{is_no_feed, IsPlain, no_feed-above, passes-append, passes-cons, plain-text, plain-decimal, HasNoFeed-plain}

-- ---- strings

-- the escapes of the bytes below n
abbrev escapes_below : ℕ → Bool
escapes_below zero = true
escapes_below (suc n) = list_all is_no_feed (escape_byte n) && escapes_below n

escape_below : (n : ℕ) → escapes_below n ≡ true → (x : ℕ) → x < n → list_all is_no_feed (escape_byte x) ≡ true
escape_below zero e x h = absurd (omega arith)
escape_below (suc n) e x h =
    let both = and_parts (list_all is_no_feed (escape_byte n)) (escapes_below n) e in
    elim (cases_eq x n) [ inl same ↦ rw same both.0 | inr other ↦ escape_below n both.1 x (omega arith) ]

first_bytes : escapes_below 128 ≡ true
unfolding escape_byte
first_bytes = refl

escape_byte-plain : (x : ℕ) → IsPlain (escape_byte x)
escape_byte-plain x = elim (cases_lt x 128) [
  | inl small ↦ plain-text (escape_byte x) (escape_below 128 first_bytes x small)
  | inr big ↦ rw (escape_byte_plain x (λ e. omega arith) (λ e. omega arith) (omega arith)) (passes-cons x [] (no_feed-above x (omega arith)) (plain-text [] refl))
]

escape-plain : (s : List ℕ) → IsPlain (escape s)
escape-plain [] = plain-text [] refl
escape-plain (x ∷ s) = passes-append (escape_byte x) (escape s) (escape_byte-plain x) (escape-plain s)

quoted-plain : (s : List ℕ) → IsPlain (quoted s)
quoted-plain s = passes-cons 34 _ refl (passes-append (escape s) (34 ∷ []) (escape-plain s) (plain-text (34 ∷ []) refl))

-- ---- values

number-plain : (n : Num) → IsPlain (number_text n)
number-plain (unsigned n) = plain-decimal n
number-plain (negative (pos n)) = plain-decimal n
number-plain (negative (negsuc n)) = passes-cons 45 _ refl (plain-decimal (suc n))
number-plain (float x) = plain-text [] refl

comma-plain : (later : Bool) → IsPlain (comma_if later)
comma-plain true = plain-text (44 ∷ []) refl
comma-plain false = plain-text [] refl

mutual
  pub plain-compact_text : (d : Data) → IsPlain (compact_text d)
  plain-compact_text null = plain-text _ refl
  plain-compact_text (boolean true) = plain-text _ refl
  plain-compact_text (boolean false) = plain-text _ refl
  plain-compact_text (number n) = number-plain n
  plain-compact_text (string s) = quoted-plain s
  plain-compact_text (array ds) = passes-cons 91 _ refl (items-plain false ds)
  plain-compact_text (object ms) = passes-cons 123 _ refl (members-plain false ms)

  items-plain : (later : Bool) (ds : Items) → IsPlain (items_text later ds)
  items-plain later no_items = plain-text (93 ∷ []) refl
  items-plain later (item d ds) =
      passes-append (comma_if later) _ (comma-plain later) (passes-append (compact_text d) _ (plain-compact_text d) (items-plain true ds))

  members-plain : (later : Bool) (ms : Members) → IsPlain (members_text later ms)
  members-plain later no_members = plain-text (125 ∷ []) refl
  members-plain later (member k d ms) =
      passes-append (comma_if later) _ (comma-plain later)
      (passes-append (quoted k) _ (quoted-plain k)
      (passes-cons 58 _ refl (passes-append (compact_text d) _ (plain-compact_text d) (members-plain true ms))))

pub compact_has_none : (d : Data) → HasNoFeed (compact_text d)
compact_has_none d = HasNoFeed-plain (compact_text d) (plain-compact_text d)
