-- Spans that are joined one after another.
use Rattle.std.specs.Prelude.{◌+◌, ◌<◌, List, All}
use Rattle.ipam_pool.specs.declared.spans.Span.{Span}
use Rattle.ipam_pool.specs.Spans.{IsOrdered, IsMerged}

-- the spans are done, and the current one, which may still grow, stands after them
pub record Sweeps (spans : List Span) (current : Span) : Type 0 where
  pub merged : IsMerged spans
  pub before : All (λ s. s.last + 1 < current.first) spans
  pub ordered : IsOrdered current
