-- The lines of a report.
use Rattle.std.specs.Prelude.{ℕ, List, ◌++◌, codes, decimal}
use Rattle.std.specs.List.{flat_map}
use Rattle.ipam_addr.specs.Shape.{CidrValue}
use Rattle.ipam_addr.specs.Text.{cidr_text_of}
use Rattle.ipam_commands.specs.declared.audit_report.Excess.{Excess}
use Rattle.ipam_commands.specs.declared.audit_report.Report.{Report}

-- a word, and after it a name and a block
unfoldable pub named_block : (word name : List ℕ) → CidrValue → List ℕ
named_block word name cidr = word ++ (codes " " ++ (name ++ (codes " " ++ cidr_text_of cidr)))

-- a count and what is owned of it, and the end of the line
unfoldable pub counts_text : (count owned : ℕ) → List ℕ
counts_text count owned = codes " " ++ (decimal count ++ (codes " " ++ (decimal owned ++ codes "\n")))

abbrev pub excess_word : List ℕ
excess_word = codes "excess"

unfoldable pub excess_line : Excess → List ℕ
excess_line e = named_block excess_word e.handle e.cidr ++ counts_text e.count e.owned

-- a line of this word, for an affinity
unfoldable pub affinity_line : List ℕ → List ℕ × CidrValue → List ℕ
affinity_line word affinity = named_block word affinity.0 affinity.1 ++ codes "\n"

abbrev pub affinity_lines : List ℕ → List (List ℕ × CidrValue) → List ℕ
affinity_lines word = flat_map (affinity_line word)

unfoldable pub numbers_line : Report → List ℕ
numbers_line report =
    codes "blocks " ++ (decimal report.blocks ++ (codes " owners " ++ (decimal report.owners
    ++ (codes " handles " ++ (decimal report.handles ++ codes "\n")))))

unfoldable pub report_text : Report → List ℕ
report_text report =
    flat_map excess_line report.excess
    ++ (affinity_lines (codes "stale") report.stale ++ (affinity_lines (codes "stray") report.stray ++ numbers_line report))
