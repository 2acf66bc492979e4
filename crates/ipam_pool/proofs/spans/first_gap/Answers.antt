use Rattle.std.proofs.Common.{◌<◌, length, get_or, ap, arith}
use Rattle.std.proofs.lemmas.List.{get_or_default}
use Rattle.ipam_pool.specs.declared.spans.Span.{Span}
use Rattle.ipam_pool.proofs.Gaps.{SplitsAt, gap_here, gap_behind}
use Rattle.ipam_pool.proofs.spans.first_gap.Goals.{then-place-spans-via-then-place-spans, then-place-spans-via-else-place-spans+then-from-spans}
use Rattle.ipam_pool.proofs.spans.first_gap.Goals as goal

pub returns-then-place-spans-clause-found : goal.returns-then-place-spans-clause-found
returns-then-place-spans-clause-found c =
    let e = c.ends_below-place.ensures in
    let split : SplitsAt c.args.spans.now c.args.from c.ends_below-place.result = record { within = e.within; before = e.before; behind = e.behind } in
    gap_here _ _ _ _ c.requires.merged split c.requires.order
    (λ d within. elim c.then-place-spans.branch [
      | then-place-spans-via-then-place-spans w ↦ absurd (omega arith)
      | then-place-spans-via-else-place-spans+then-from-spans w ↦
          let none : Span = record { first = 0; last = 0 } in
          let same = ap (λ (s : Span). s.first) (get_or_default c.args.spans.now c.ends_below-place.result none d within) in
          let above = w.if-from-spans.true in
          omega arith
    ])

pub returns-then-end-last-clause-found : goal.returns-then-end-last-clause-found
returns-then-end-last-clause-found c =
    let e = c.ends_below-place.ensures in
    let split : SplitsAt c.args.spans.now c.args.from c.ends_below-place.result = record { within = e.within; before = e.before; behind = e.behind } in
    let none : Span = record { first = 0; last = 0 } in
    let s = get_or c.args.spans.now c.ends_below-place.result none in
    let low = e.within in
    let other = c.if-place-spans.false in
    let within : c.ends_below-place.result < length c.args.spans.now = omega arith in
    gap_behind c.args.spans.now c.args.from c.args.last c.ends_below-place.result s c.requires.merged split within
    (get_or_default c.args.spans.now c.ends_below-place.result none s within) c.if-from-spans.false c.if-end-last.true
