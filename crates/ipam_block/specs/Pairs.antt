-- A key and its value.
use Rattle.std.specs.Prelude.{ℕ, List}

abbrev pub Pair : Type 0
Pair = List ℕ × List ℕ
