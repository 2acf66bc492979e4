-- What a read found.
use Rattle.std.specs.Prelude.{ℕ, Option, Some, None, option_map}
use Rattle.std.specs.Borrow.{Bor}
use Rattle.ipam_block.specs.Shape.{BlockValue}
use Rattle.ipam_records.specs.Said.{Said, Found}

abbrev pub found_revision : Said → Option ℕ
found_revision (Found revision found) = Some revision
found_revision _ = None

-- a block that was lent with its revision, or found missing
abbrev pub lent_block : Option (ℕ × Bor BlockValue) → Option (ℕ × BlockValue)
lent_block = option_map (λ found. (found.0, found.1.now))
