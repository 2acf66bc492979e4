use Rattle.std.proofs.Common.{sym, subst}
use Rattle.std.specs.List.Sorted.{IsNonDecreasingBy}
use Rattle.ipam_pool.specs.declared.spans.Span.{Span}
use Rattle.ipam_pool.proofs.Merging.{parts}
use Rattle.ipam_pool.proofs.spans.merged.Goals as goal

pub swept-requires-clause-ascending : goal.swept-requires-clause-ascending
swept-requires-clause-ascending c =
    let none : Span = record { first = 0; last = 0 } in
    subst (IsNonDecreasingBy (λ (s : Span). s.first)) (sym (parts c.args.spans.now none c.in-len1-up.len_at_least)) c.requires.ascending
