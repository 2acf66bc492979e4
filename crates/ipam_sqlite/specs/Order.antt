-- A row after all others.
use Rattle.std.specs.Prelude.{◌≡◌, List, map}
use Rattle.std.specs.declared.cmp.Ordering.TheVariants.{Less}
use Rattle.std.specs.List.{AllByRecursion}
use Rattle.ipam_records.specs.declared.call.Row.{Row}
use Rattle.ipam_keeper.specs.Rows.{text_cmp, row_key_text}

-- each key stands before the row's
abbrev pub IsAboveAll : List Row → Row → Type 0
IsAboveAll rows row = AllByRecursion (λ key. text_cmp key (row_key_text row) ≡ Less) (map row_key_text rows)
