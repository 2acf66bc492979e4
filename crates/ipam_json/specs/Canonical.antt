-- Data in the form that has one text: whole numbers, and each object's names in ascending order.
use Rattle.std.specs.Prelude.{◌≡◌, ℕ, ◌^◌, ◌<◌, ◌≤◌, List, None, IsUtf8, ⊤}
use Rattle.std.specs.declared.cmp.Ordering.TheVariants.{Less}
use Rattle.std.specs.Ordering.{nat_cmp}
use Rattle.std.specs.Cmp.Lexicographic.{slice_cmp}
use Rattle.serde_json.specs.Data.{Num, unsigned, negative, float, Data, null, boolean, number, string, array, object, Items, no_items, item, Members, no_members, member, depth}
use Rattle.serde_json.specs.Find.{as_number}
use Rattle.serde_json.specs.Read.{max_depth}

-- a number from 0 to 2^64 - 1
abbrev pub IsWhole : Num → Type 0
IsWhole (unsigned n) = n < 2 ^ 64
IsWhole (negative z) = ⊥
IsWhole (float x) = ⊥

-- the name comes before the first of the members, by its bytes
abbrev pub IsBeforeFirst : List ℕ → Members → Type 0
IsBeforeFirst k no_members = ⊤
IsBeforeFirst k (member l d ms) = slice_cmp nat_cmp k l ≡ Less

-- each number is whole, and the names of each object ascend
abbrev mutual
  pub IsRegular : Data → Type 0
  IsRegular null = ⊤
  IsRegular (boolean b) = ⊤
  IsRegular (number n) = IsWhole n
  IsRegular (string s) = ⊤
  IsRegular (array ds) = ItemsAreRegular ds
  IsRegular (object ms) = MembersAreRegular ms

  pub ItemsAreRegular : Items → Type 0
  ItemsAreRegular no_items = ⊤
  ItemsAreRegular (item d ds) = IsRegular d × ItemsAreRegular ds

  pub MembersAreRegular : Members → Type 0
  MembersAreRegular no_members = ⊤
  MembersAreRegular (member k d ms) = IsBeforeFirst k ms × IsRegular d × MembersAreRegular ms

-- regular data whose arrays and objects nest no deeper than the number of levels
pub record IsCanonicalWithin (levels : ℕ) (d : Data) : Type 0 where
  pub regular : IsRegular d
  pub shallow : depth d ≤ levels

-- regular data whose arrays and objects nest no deeper than the reader goes
abbrev pub IsCanonical : Data → Type 0
IsCanonical = IsCanonicalWithin max_depth

-- the text tells where it ends, as that of all but a number does
abbrev pub ShowsItsEnd : Data → Type 0
ShowsItsEnd d = as_number d ≡ None

-- each string and each name is UTF-8
abbrev mutual
  pub HasTexts : Data → Type 0
  HasTexts null = ⊤
  HasTexts (boolean b) = ⊤
  HasTexts (number n) = ⊤
  HasTexts (string s) = IsUtf8 s
  HasTexts (array ds) = ItemsHaveTexts ds
  HasTexts (object ms) = MembersHaveTexts ms

  pub ItemsHaveTexts : Items → Type 0
  ItemsHaveTexts no_items = ⊤
  ItemsHaveTexts (item d ds) = HasTexts d × ItemsHaveTexts ds

  pub MembersHaveTexts : Members → Type 0
  MembersHaveTexts no_members = ⊤
  MembersHaveTexts (member k d ms) = IsUtf8 k × HasTexts d × MembersHaveTexts ms
