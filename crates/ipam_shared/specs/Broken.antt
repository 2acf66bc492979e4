-- The line about rows that break a rule.
use Rattle.std.specs.Prelude.{ℕ, List, ◌++◌, codes, decimal}

-- the line for rows that break this rule, first at this key
unfoldable pub broken_line : (number : ℕ) (about : List ℕ) → List ℕ
broken_line number about = codes "datastore OR" ++ (decimal number ++ (codes " " ++ (about ++ codes "\n")))
