-- A test of each row's key against the next tells whether the rows stand by ascending keys.
use Rattle.std.proofs.Common.{◌≡◌, Bool, true, false, List}
use Rattle.std.specs.Bool.{OnTrue}
use Rattle.std.specs.Cmp.Lexicographic.{slice_cmp}
use Rattle.std.specs.List.{IsAllAdjacentAnswer}
use Rattle.std.specs.Ordering.{nat_cmp, is_lt}
use Rattle.ipam_records.specs.declared.call.Row.{Row}
use Rattle.ipam_records.proofs.AdjacentKeys.{ascend}
use Rattle.ipam_model.specs.Opened.{AreByKey}

abbrev pub is_below : Row → Row → Bool
is_below row next = is_lt (slice_cmp nat_cmp row.key next.key)

pub rows-by_key : (rows : List Row) (b : Bool) → IsAllAdjacentAnswer (λ row next answer. answer ≡ is_below row next) rows b → OnTrue b (AreByKey rows)
rows-by_key rows true h = ascend (λ row. row.key) rows h
rows-by_key rows false h = tt
