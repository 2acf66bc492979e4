-- What a set of ids has.
use Rattle.std.specs.Prelude.{ℕ, Bool, List}
use Rattle.std.specs.Borrow.{Bor}
use Rattle.std.specs.BTreeSet.{BTreeSet, contains_by}
use Rattle.std.specs.Cmp.Lexicographic.{slice_cmp}
use Rattle.std.specs.Ordering.{nat_cmp}

abbrev pub has_id : BTreeSet (Bor (List ℕ)) → List ℕ → Bool
has_id ids id = contains_by (λ k. slice_cmp nat_cmp id k.now) ids
