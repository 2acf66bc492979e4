use Rattle.std.proofs.Common.{◌≤◌, suc, get_or, ap, arith}
use Rattle.std.proofs.lemmas.List.{get_or_default}
use Rattle.ipam_pool.specs.declared.spans.Span.{Span}
use Rattle.ipam_pool.proofs.Merging.{Sweeps-nil, held_first, held_more, IsMerged-push}
use Rattle.ipam_pool.proofs.spans.swept.Goals as goal

pub loop-span-init : goal.loop-span-init
loop-span-init c = record {
  sound = Sweeps-nil _ _ c.new-done.ensures.items (c.requires.ordered 0 c.args.first (omega arith));
  ascending = λ k d low within. c.requires.ascending 0 (suc k) d (omega arith) (omega arith);
  held = λ n. held_first _ _ n c.new-done.ensures.items;
}

pub current_after-requires-clause-ordered : goal.current_after-requires-clause-ordered
current_after-requires-clause-ordered c =
    let none : Span = record { first = 0; last = 0 } in
    let within = c.loop-span-test.true in
    c.requires.ordered (suc c.loop-span.span-index) none (omega arith)

pub loop-span-preserved : goal.loop-span-preserved
loop-span-preserved c =
    let none : Span = record { first = 0; last = 0 } in
    let i = c.loop-span.span-index in
    let within = c.loop-span-test.true in
    let s = get_or c.args.rest.now i none in
    record {
      sound = c.in_ok-current.ensures.sound;
      ascending = λ k d low inside.
          let here = c.in_ok-current.ensures.ascending in
          let same = ap (λ (x : Span). x.first) (get_or_default c.args.rest.now i none d within) in
          let later : (get_or c.args.rest.now i d).first ≤ (get_or c.args.rest.now k d).first = c.requires.ascending (suc i) (suc k) d (omega arith) (omega arith) in
          omega arith;
      held = λ n.
          held_more _ c.args.rest.now _ c.args.first s i n _ within (get_or_default c.args.rest.now i none s within) (c.in_ok-current.ensures.held n) (c.loop-span.invariant.held n);
    }

pub returns-clause-merged : goal.returns-clause-merged
returns-clause-merged c = rw c.in_ok-push.ensures.items (IsMerged-push _ _ c.loop-span.invariant.sound)
