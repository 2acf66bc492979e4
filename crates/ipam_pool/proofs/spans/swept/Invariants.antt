use Rattle.std.proofs.Common.{◌≡◌, ℕ, ◌≤◌, ◌<◌, ◌||◌, take, length, get_or}
use Rattle.ipam_pool.specs.declared.spans.Span.{Span}
use Rattle.ipam_pool.specs.Spans.{span_holds, spans_hold}
use Rattle.ipam_pool.specs.Sweep.{Sweeps}
use Rattle.ipam_pool.proofs.spans.swept.Given as goal

-- the spans so far are joined, and the later ones do not begin before the current one
abbrev pub invariant-loop-span : goal.invariant-loop-span
invariant-loop-span l = record {
  sound : Sweeps l.done.items l.current;
  ascending : (k : ℕ) (d : Span) → l.span-index ≤ k → k < length l.rest → l.current.first ≤ (get_or l.rest k d).first;
  held : (n : ℕ) → (spans_hold l.done.items n || span_holds l.current n) ≡ (span_holds l.fn.first n || spans_hold (take l.span-index l.rest) n);
}
