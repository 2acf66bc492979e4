-- The key that is named by the fault of a broken rule.
use Rattle.std.specs.Prelude.{◌≢◌, ℕ, ◌<◌, List, map, find, slice_get, Option, Some, None, option_map}
use Rattle.std.specs.declared.cmp.Ordering.TheVariants.{Greater}
use Rattle.std.specs.Cmp.Lexicographic.{slice_cmp}
use Rattle.std.specs.Ordering.{nat_cmp}
use Rattle.ipam_records.specs.declared.call.Row.{Row as RowText}
use Rattle.ipam_records.specs.Datastore.{most_blocks, most_rows}
use Rattle.ipam_model.specs.Opened.{Texts, Breaks, readable, reading_of}
use Rattle.ipam_opening.specs.Counts.{first_short}
use Rattle.ipam_opening.specs.Earlier.{earlier}
use Rattle.ipam_opening.specs.Limits.{at_block, counter_above}
use Rattle.ipam_opening.specs.Rules.{breaks}
use Rattle.ipam_opening.specs.declared.rule.Rule.{Rule}
use Rattle.ipam_opening.specs.declared.rule.Rule.TheVariants as rule

-- no rule below this one is broken
pub record IsClearBelow (texts : Texts) (number : ℕ) : Type 0 where
  pub clear : (n : ℕ) (about : List ℕ) → n < number → ¬ (Breaks texts n about)

-- of the texts that are so, the one that comes first by its bytes, or none where there is none
pub record IsFirst (Is : List ℕ → Type 0) (text : List ℕ) : Type 0 where
  pub is : Is text
  pub first : (other : List ℕ) → Is other → slice_cmp nat_cmp text other ≢ Greater

abbrev pub IsFirstOf : (List ℕ → Type 0) → Option (List ℕ) → Type 0
IsFirstOf Is (Some text) = IsFirst Is text
IsFirstOf Is None = (other : List ℕ) → ¬ (Is other)

abbrev pub key_in : Option RowText → Option (List ℕ)
key_in = option_map (λ row. row.key)

-- the key that the rule's fault names, where the rules below are kept
abbrev pub first_by : Rule → Texts → Option (List ℕ)
first_by rule.Count texts = first_short (readable texts.rows) None (map reading_of texts.rows)
first_by rule.Limits texts = earlier (key_in (slice_get texts.rows most_rows)) (key_in (at_block texts.rows most_blocks))
first_by rule.Revision texts = earlier (key_in (find (breaks rule.Revision texts) texts.rows)) (counter_above texts.counter)
first_by r texts = key_in (find (breaks r texts) texts.rows)
