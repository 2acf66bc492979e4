-- The text of canonical data is UTF-8 where its strings are.
use Rattle.std.proofs.Common.{ℕ, List, [], ◌∷◌, Bool, true, false, decimal, IsUtf8, refl}
use Rattle.std.proofs.lemmas.Fmt.{IsAscii-decimal}
use Rattle.std.proofs.lemmas.Str.{IsUtf8-append, IsUtf8-nil, IsUtf8-from_ascii}
use Rattle.json.specs.Print.{quoted}
use Rattle.json.proofs.Printed.Utf8.{IsUtf8-are_ascii, IsUtf8-quoted, IsUtf8-boolean}
use Rattle.serde_json.specs.Data.{unsigned, negative, float, Data, null, boolean, number, string, array, object, Items, no_items, item, Members, no_members, member}
use Rattle.serde_json.specs.Written.{comma_if, compact_text, items_text, members_text}
use Rattle.ipam_json.specs.Canonical.{IsRegular, ItemsAreRegular, MembersAreRegular, IsCanonical, HasTexts, ItemsHaveTexts, MembersHaveTexts}

one_byte : (x : ℕ) (xs : List ℕ) → IsUtf8 (x ∷ []) → IsUtf8 xs → IsUtf8 (x ∷ xs)
one_byte x xs h k = IsUtf8-append (x ∷ []) xs h k

IsUtf8-comma_if : (later : Bool) → IsUtf8 (comma_if later)
IsUtf8-comma_if true = IsUtf8-are_ascii (44 ∷ []) refl
IsUtf8-comma_if false = IsUtf8-nil

mutual
  value_utf8 : (d : Data) → IsRegular d → HasTexts d → IsUtf8 (compact_text d)
  value_utf8 null h k = IsUtf8-are_ascii _ refl
  value_utf8 (boolean b) h k = IsUtf8-boolean b
  value_utf8 (number (unsigned n)) h k = IsUtf8-from_ascii (decimal n) (IsAscii-decimal n h)
  value_utf8 (number (negative z)) h k = absurd h
  value_utf8 (number (float x)) h k = absurd h
  value_utf8 (string s) h k = IsUtf8-quoted s k
  value_utf8 (array ds) h k = one_byte 91 _ (IsUtf8-are_ascii (91 ∷ []) refl) (items_utf8 false ds h k)
  value_utf8 (object ms) h k = one_byte 123 _ (IsUtf8-are_ascii (123 ∷ []) refl) (members_utf8 false ms h k)

  items_utf8 : (later : Bool) (ds : Items) → ItemsAreRegular ds → ItemsHaveTexts ds → IsUtf8 (items_text later ds)
  items_utf8 later no_items h k = IsUtf8-are_ascii (93 ∷ []) refl
  items_utf8 later (item d ds) h k = IsUtf8-append _ _ (IsUtf8-comma_if later) (IsUtf8-append _ _ (value_utf8 d h.0 k.0) (items_utf8 true ds h.1 k.1))

  members_utf8 : (later : Bool) (ms : Members) → MembersAreRegular ms → MembersHaveTexts ms → IsUtf8 (members_text later ms)
  members_utf8 later no_members h k = IsUtf8-are_ascii (125 ∷ []) refl
  members_utf8 later (member name d ms) h k =
      IsUtf8-append _ _ (IsUtf8-comma_if later)
      (IsUtf8-append (quoted name) _ (IsUtf8-quoted name k.0)
      (one_byte 58 _ (IsUtf8-are_ascii (58 ∷ []) refl) (IsUtf8-append _ _ (value_utf8 d h.1 k.1) (members_utf8 true ms h.2 k.2))))

pub IsUtf8-compact_text : (d : Data) → IsCanonical d → HasTexts d → IsUtf8 (compact_text d)
IsUtf8-compact_text d h k = value_utf8 d h.regular k
