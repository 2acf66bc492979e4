-- What is printed of a refusal.
use Rattle.std.specs.Prelude.{ℕ, List, codes}

abbrev pub too_many_text : List ℕ
too_many_text = codes "too many CIDRs in a reservation"
