-- How the code puts the stamps in the order of their names.
use Rattle.std.specs.Prelude.{ℕ, ◌-◌, Bool, true, false, IsTrue, List, map, length, option_map, unwrap_or, decimal}
use Rattle.std.specs.List.{AllByRecursion, slice_get}
use Rattle.std.specs.Ordering.{nat_cmp, is_lt}
use Rattle.std.specs.Cmp.Lexicographic.{slice_cmp}
use Rattle.serde_json.specs.Data.{Members}
use Rattle.ipam_json.specs.Built.{Field, members_from, names, IsAscending, whole_data}

-- an ordinal and its stamp
abbrev pub Stamp : Type 0
Stamp = ℕ × ℕ

-- the member of an ordinal and its stamp
abbrev pub stamp_field : Stamp → Field
stamp_field s = (decimal s.0, whole_data s.1)

-- the members, in this order
abbrev pub stamp_members : List Stamp → Members
stamp_members stamps = members_from (map stamp_field stamps)

-- each decimal comes before the next
abbrev pub AreInOrder : List Stamp → Type 0
AreInOrder stamps = IsAscending (names (map stamp_field stamps))

-- in decimal the first ordinal comes before the second
abbrev pub comes_before : ℕ → ℕ → Bool
comes_before first second = is_lt (slice_cmp nat_cmp (decimal first) (decimal second))

-- at the place stands one that comes before the ordinal
abbrev pub stands_before : List Stamp → ℕ → ℕ → Bool
stands_before stamps place o = unwrap_or (option_map (λ s. comes_before s.0 o) (slice_get stamps place)) false

-- the last comes before the ordinal, or there is none
abbrev pub ends_before : List Stamp → ℕ → Bool
ends_before stamps o = unwrap_or (option_map (λ s. comes_before s.0 o) (slice_get stamps (length stamps - 1))) true

-- all of them come before the ordinal
abbrev pub AreBefore : ℕ → List Stamp → Type 0
AreBefore o stamps = AllByRecursion (λ s. IsTrue (comes_before s.0 o)) stamps
