-- How many slots are busy.
use Rattle.std.specs.Prelude.{ℕ, List, Option, Some, None, sum_by}
use Rattle.ipam_cluster.specs.declared.running.Running.{Running}

abbrev pub busy : Option Running → ℕ
busy None = 0
busy (Some running) = 1

abbrev pub busy_count : List (Option Running) → ℕ
busy_count slots = sum_by busy slots
