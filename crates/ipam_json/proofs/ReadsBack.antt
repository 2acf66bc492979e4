-- The text of canonical data reads back as the data.
use Rattle.std.proofs.Common.{◌≡◌, ℕ, max, List, [], false, Some, Result, Ok, Err, String, Global, string_bytes, option_map, option_and_then, Less, Greater, nat_cmp, refl, sym, ap, ap₂, ◌∙◌, arith, append-nil}
use Rattle.std.proofs.lemmas.Cmp.{nat_list_cmp_total}
use Rattle.std.specs.Cmp.Lexicographic.{slice_cmp}
use Rattle.std.specs.Ordering.{ordering_reverse}
use Rattle.std.specs.Prelude.{⊤, IfOk}
use Rattle.json.specs.Json as json
use Rattle.json.specs.Lex.{tokens}
use Rattle.json.specs.Tree as tree
use Rattle.json.proofs.Printed.Decimals.{IsNumber-decimal}
use Rattle.json.proofs.Printed.Tokens.{tokens-print}
use Rattle.json.proofs.Printed.Trees.{value-json_tokens, ArePrintable-json_tokens}
use Rattle.serde_json.specs.Data.{unsigned, negative, float, Data, null, boolean, number, string, array, object, Items, no_items, item, Members, no_members, member, put, depth, items_depth, members_depth}
use Rattle.serde_json.specs.Read.{of_json, of_items, of_members, read, max_depth}
use Rattle.serde_json.specs.Written.{outline, items_outline, members_outline, has_float, items_have_float, members_have_float, compact_text}
use Rattle.serde_json.proofs.Numbers.{number_of-decimal}
use Rattle.serde_json.proofs.Texts.{print-outline}
use Rattle.ipam_json.specs.Canonical.{IsBeforeFirst, IsRegular, ItemsAreRegular, MembersAreRegular, IsCanonical}

mutual
  depth-outline : (d : Data) → tree.depth (outline d) ≡ depth d
  depth-outline null = refl
  depth-outline (boolean b) = refl
  depth-outline (number n) = refl
  depth-outline (string s) = refl
  depth-outline (array ds) = omega (arith, items_depth-outline ds)
  depth-outline (object ms) = omega (arith, members_depth-outline ms)

  items_depth-outline : (ds : Items) → tree.items_depth (items_outline ds) ≡ items_depth ds
  items_depth-outline no_items = refl
  items_depth-outline (item d ds) = ap₂ max (depth-outline d) (items_depth-outline ds)

  members_depth-outline : (ms : Members) → tree.members_depth (members_outline ms) ≡ members_depth ms
  members_depth-outline no_members = refl
  members_depth-outline (member k d ms) = ap₂ max (depth-outline d) (members_depth-outline ms)

mutual
  HasNumbers-outline : (d : Data) → IsRegular d → tree.HasNumbers (outline d)
  HasNumbers-outline null h = tt
  HasNumbers-outline (boolean b) h = tt
  HasNumbers-outline (number (unsigned n)) h = IsNumber-decimal n h
  HasNumbers-outline (number (negative z)) h = absurd h
  HasNumbers-outline (number (float x)) h = absurd h
  HasNumbers-outline (string s) h = tt
  HasNumbers-outline (array ds) h = ItemsHaveNumbers-outline ds h
  HasNumbers-outline (object ms) h = MembersHaveNumbers-outline ms h

  ItemsHaveNumbers-outline : (ds : Items) → ItemsAreRegular ds → tree.ItemsHaveNumbers (items_outline ds)
  ItemsHaveNumbers-outline no_items h = tt
  ItemsHaveNumbers-outline (item d ds) h = (HasNumbers-outline d h.0, ItemsHaveNumbers-outline ds h.1)

  MembersHaveNumbers-outline : (ms : Members) → MembersAreRegular ms → tree.MembersHaveNumbers (members_outline ms)
  MembersHaveNumbers-outline no_members h = tt
  MembersHaveNumbers-outline (member k d ms) h = (HasNumbers-outline d h.1, MembersHaveNumbers-outline ms h.2)

-- ---- members that go in one after another, in ascending order

abbrev joined : Members → Members → Members
joined no_members ms = ms
joined (member k d found) ms = member k d (joined found ms)

joined-none : (found : Members) → joined found no_members ≡ found
joined-none no_members = refl
joined-none (member k d found) = ap (member k d) (joined-none found)

joined-joined : (found ms : Members) (k : List ℕ) (d : Data) → joined (joined found (member k d no_members)) ms ≡ joined found (member k d ms)
joined-joined no_members ms k d = refl
joined-joined (member l e found) ms k d = ap (member l e) (joined-joined found ms k d)

abbrev AllBefore : Members → List ℕ → Type 0
AllBefore no_members k = ⊤
AllBefore (member l d found) k = (slice_cmp nat_cmp l k ≡ Less) × AllBefore found k

abbrev AllBeforeFirst : Members → Members → Type 0
AllBeforeFirst found no_members = ⊤
AllBeforeFirst found (member k d ms) = AllBefore found k

put-joined : (found : Members) (k : List ℕ) (d : Data) → AllBefore found k → put k d found ≡ joined found (member k d no_members)
put-joined no_members k d h = refl
put-joined (member l e found) k d h =
    let above : slice_cmp nat_cmp k l ≡ Greater = nat_list_cmp_total.antisymm k l ∙ ap ordering_reverse h.0 in
    rw above (ap (member l e) (put-joined found k d h.1))

AllBefore-joined : (found : Members) (k l : List ℕ) (d : Data) → AllBefore found k → slice_cmp nat_cmp k l ≡ Less → AllBefore (joined found (member k d no_members)) l
AllBefore-joined no_members k l d h less = (less, tt)
AllBefore-joined (member m e found) k l d h less = (nat_list_cmp_total.trans m k l h.0 less, AllBefore-joined found k l d h.1 less)

AllBeforeFirst-joined : (found ms : Members) (k : List ℕ) (d : Data) → AllBefore found k → IsBeforeFirst k ms → AllBeforeFirst (joined found (member k d no_members)) ms
AllBeforeFirst-joined found no_members k d h less = tt
AllBeforeFirst-joined found (member l e ms) k d h less = AllBefore-joined found k l d h less

mutual
  of_json-outline : (d : Data) → IsRegular d → of_json (outline d) ≡ Some d
  of_json-outline null h = refl
  of_json-outline (boolean b) h = refl
  of_json-outline (number (unsigned n)) h = ap (option_map number) (number_of-decimal n h)
  of_json-outline (number (negative z)) h = absurd h
  of_json-outline (number (float x)) h = absurd h
  of_json-outline (string s) h = refl
  of_json-outline (array ds) h = ap (option_map array) (of_items-outline ds h)
  of_json-outline (object ms) h = ap (option_map object) (of_members-outline ms no_members (all_before_none ms) h)

  of_items-outline : (ds : Items) → ItemsAreRegular ds → of_items (items_outline ds) ≡ Some ds
  of_items-outline no_items h = refl
  of_items-outline (item d ds) h =
      ap (option_and_then (λ e. option_map (item e) (of_items (items_outline ds)))) (of_json-outline d h.0)
      ∙ ap (option_map (item d)) (of_items-outline ds h.1)

  of_members-outline : (ms found : Members) → AllBeforeFirst found ms → MembersAreRegular ms → of_members (members_outline ms) found ≡ Some (joined found ms)
  of_members-outline no_members found before h = ap Some (sym (joined-none found))
  of_members-outline (member k d ms) found before h =
      ap (option_and_then (λ e. of_members (members_outline ms) (put k e found))) (of_json-outline d h.1)
      ∙ ap (of_members (members_outline ms)) (put-joined found k d before)
      ∙ of_members-outline ms (joined found (member k d no_members)) (AllBeforeFirst-joined found ms k d before h.0) h.2
      ∙ ap Some (joined-joined found ms k d)

  all_before_none : (ms : Members) → AllBeforeFirst no_members ms
  all_before_none no_members = tt
  all_before_none (member k d ms) = tt

tokens-compact_text : (d : Data) → IsRegular d → tokens (compact_text d) ≡ tree.json_tokens (outline d)
tokens-compact_text d h = ap tokens (sym (print-outline d)) ∙ tokens-print _ (ArePrintable-json_tokens (outline d) (HasNumbers-outline d h))

pub read-compact_text : (d : Data) → IsCanonical d → read (compact_text d) ≡ Some d
read-compact_text d h =
    ap (λ r. option_and_then of_json (option_and_then (λ p. json.if_last p.0 p.1) r))
    (ap (json.value max_depth) (tokens-compact_text d h.regular ∙ sym (append-nil _)) ∙ value-json_tokens (outline d) max_depth [] (omega (arith, depth-outline d, h.shallow)))
    ∙ of_json-outline d h.regular

-- ---- canonical data has no float

mutual
  pub has_float-IsRegular : (d : Data) → IsRegular d → has_float d ≡ false
  has_float-IsRegular null h = refl
  has_float-IsRegular (boolean b) h = refl
  has_float-IsRegular (number (unsigned n)) h = refl
  has_float-IsRegular (number (negative z)) h = absurd h
  has_float-IsRegular (number (float x)) h = absurd h
  has_float-IsRegular (string s) h = refl
  has_float-IsRegular (array ds) h = items_have_float-ItemsAreRegular ds h
  has_float-IsRegular (object ms) h = members_have_float-MembersAreRegular ms h

  items_have_float-ItemsAreRegular : (ds : Items) → ItemsAreRegular ds → items_have_float ds ≡ false
  items_have_float-ItemsAreRegular no_items h = refl
  items_have_float-ItemsAreRegular (item d ds) h = rw (has_float-IsRegular d h.0) (items_have_float-ItemsAreRegular ds h.1)

  members_have_float-MembersAreRegular : (ms : Members) → MembersAreRegular ms → members_have_float ms ≡ false
  members_have_float-MembersAreRegular no_members h = refl
  members_have_float-MembersAreRegular (member k d ms) h = rw (has_float-IsRegular d h.1) (members_have_float-MembersAreRegular ms h.2)

-- what `to_string` writes for it is its compact text
pub text_written : {E : Type 0} (r : Result (String Global) E) (d : Data) → IsRegular d → IfOk r (λ s. has_float d ≡ false → string_bytes s ≡ compact_text d) → IfOk r (λ s. string_bytes s ≡ compact_text d)
text_written (Ok s) d h written = written (has_float-IsRegular d h)
text_written (Err e) d h written = tt

-- one text, one value
pub compact_text-injective : (d e : Data) → IsCanonical d → IsCanonical e → compact_text d ≡ compact_text e → d ≡ e
compact_text-injective d e h k same = let both = sym (read-compact_text d h) ∙ ap read same ∙ read-compact_text e k in cc
