use Rattle.std.proofs.Common.{ℕ, List, [], ◌∷◌, subst, sym, refl, ap, ◌∙◌, arith}
use Rattle.atomic_table.specs.Table.{opening}
use Rattle.turn_lock.specs.Rule.{Kept}
use Rattle.turn_lock.specs.Moves.{first_view}
use Rattle.turn_lock.proofs.Keeping.{opens}
use Rattle.turn_lock.proofs.Passing.{pass_of}
use Rattle.turn_lock.proofs.lock.TurnLock.new.Goals as goal

pub new-requires : goal.new-requires
new-requires g c =
    let b = g.T.Booked in
    let words = c.first_words.ensures in
    subst (λ (x : g.row.T.Denot × (List g.row.T.Denot × List ℕ)). Kept b.stands b.by (b.start x.0) (opening x.1.1 x.1.0 (first_view (b.start x.0))))
    (λ i. (sym c.of-about.ensures i, (sym c.in_ok-slots.ensures.ok i, sym words.1 i))) (opens b.stands b.by (b.start c.args.value) words.0 c.args.value c.requires)

pub invariant_of-result-in-Ok : goal.invariant_of-result-in-Ok
invariant_of-result-in-Ok g c = pass_of c.into_badge.result.views (first_view (g.T.Booked.start c.of-about.result.value)) _ _ _ _ (c.into_badge.ensures.2 ∙ ap (λ m. m.0 ∷ []) c.in-Ok.ensures.ok.4)
    record { live = refl; holds = refl; waits = refl; spare = refl; other = refl } (omega arith) (omega arith) refl refl refl (_, refl) refl
