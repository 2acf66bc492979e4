-- Sets of numbers as lists of spans.
use Rattle.std.specs.Prelude.{ℕ, ◌+◌, ◌<◌, ◌≤◌, Bool, IsTrue, ◌≡◌, false, ◌&&◌, nat_le, List, All, AllPairs}
use Rattle.std.specs.List.{list_any}
use Rattle.ipam_addr.specs.declared.address.Family.{Family}
use Rattle.ipam_addr.specs.declared.address.Family.TheVariants.{V4, V6}
use Rattle.ipam_addr.specs.Shape.{AddrValue}
use Rattle.ipam_pool.specs.declared.spans.Span.{Span}

-- the spans of each family
pub record ReservedValue : Type 0 where
  pub v4 : List Span
  pub v6 : List Span

abbrev pub spans_of : ReservedValue → Family → List Span
spans_of r V4 = r.v4
spans_of r V6 = r.v6

-- whether the number is one of the span's
abbrev pub span_holds : Span → ℕ → Bool
span_holds s n = nat_le s.first n && nat_le n s.last

-- whether some span has the number
abbrev pub spans_hold : List Span → ℕ → Bool
spans_hold spans n = list_any (λ s. span_holds s n) spans

-- whether the address is one of the set
abbrev pub is_reserved_by : ReservedValue → AddrValue → Bool
is_reserved_by r a = spans_hold (spans_of r a.family) a.number

-- the span has a number
abbrev pub IsOrdered : Span → Type 0
IsOrdered s = s.first ≤ s.last

-- spans with numbers, which ascend and have others between them
pub record IsMerged (spans : List Span) : Type 0 where
  pub ordered : All IsOrdered spans
  pub apart : AllPairs (λ s t. s.last + 1 < t.first) spans

-- some span has each of these numbers
abbrev pub AllHeld : List Span → ℕ → ℕ → Type 0
AllHeld spans from last = (n : ℕ) → from ≤ n → n ≤ last → IsTrue (spans_hold spans n)

-- the least of these numbers that no span has
pub record IsFirstGap (spans : List Span) (from last : ℕ) (n : ℕ) : Type 0 where
  pub above : from ≤ n
  pub within : n ≤ last
  pub free : spans_hold spans n ≡ false
  pub least : (m : ℕ) → from ≤ m → m < n → IsTrue (spans_hold spans m)
