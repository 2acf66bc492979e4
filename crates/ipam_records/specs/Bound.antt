-- How many calls a word has at most.
use Rattle.std.specs.Prelude.{ℕ, ◌-◌, ◌<◌, List}
use Rattle.ipam_records.specs.Said.{Said}
use Rattle.ipam_records.specs.Word.{Word, Ends, Asks, Waits}

-- at most so many calls are left, whatever the replies to them are
abbrev pub AtMost : {A : Type 0} → Word A → ℕ → Type 0
AtMost (Ends answer) count = Unit {0}
AtMost (Asks label call next) count =
    (0 < count) × ((moment : ℕ) (said : Said) → AtMost (next moment said) (count - 1))
AtMost (Waits next) count = (live : List (List ℕ)) → AtMost (next live) count
