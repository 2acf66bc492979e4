-- A pass as a seat at the table, and back.
use Rattle.std.proofs.Common.{◌≡◌, ℕ, ◌+◌, ◌<◌, ◌≤◌, List, [], ◌∷◌, ◌++◌, length, length-append, sym, refl, ap, ◌∙◌, subst, arith}
use Rattle.std.specs.Prelude.{max}
use mathlib.Core.Option.{some, some-injective}
use lib.ListN.{get_elem?}
use Rattle.atomic_table.specs.Table.{Final, Seen}
use Rattle.turn_lock.specs.declared.view.View.{View}
use Rattle.turn_lock.specs.Histories.{NoneBy}
use Rattle.turn_lock.specs.Rule.{Kept}
use Rattle.turn_lock.specs.Moves.{IsIdle, both, knowing}
use Rattle.turn_lock.specs.Passes.{view_of, IsPass}
use Rattle.turn_lock.proofs.Keeping.{closes}

module _ {O E : Type 0} where
  pub seated : (views taken : List (View O E)) (v : View O E) → taken ≡ views → taken ≡ v ∷ [] → view_of views ≡ v
  seated views taken v same one = ap view_of (sym same ∙ one)

  pub pass_of : (views : List (View O E)) (v : View O E) (left number made joined : ℕ) → views ≡ v ∷ [] → IsIdle v → number < made → made ≤ 64 → v.left ≡ left → v.number ≡ number → v.made ≡ made → (o : O) × (v.origin ≡ o ∷ []) → length v.owns ≡ joined + 1
      → IsPass views left number made joined
  pass_of views v left number made joined one idle low few left_is number_is made_is rooted joined_is = subst (λ (vs : List (View O E)). IsPass vs left number made joined) (sym one)
      record { one = refl; idle = idle; low = low; few = few; left_is = left_is; number_is = number_is; made_is = made_is; rooted = rooted; joined_is = joined_is }

  pub joined_few : (views others : List (View O E)) (v w : View O E) (left number made joined left' number' made' joined' : ℕ) → IsPass views left number made joined → IsPass others left' number' made' joined'
      → view_of views ≡ v → view_of others ≡ w → length (v.owns ++ w.owns) ≤ 64 → joined + (joined' + 1) < 64
  joined_few views others v w left number made joined left' number' made' joined' p q e f few =
      let a = ap (λ (u : View O E). length u.owns) e in let b = ap (λ (u : View O E). length u.owns) f in
      let c = p.joined_is in let d = q.joined_is in omega (arith, length-append v.owns w.owns)

  pub joined_pass : (views others after : List (View O E)) (v w : View O E) (left number made joined left' number' made' joined' most : ℕ) (log : List E)
      → IsPass views left number made joined → IsPass others left' number' made' joined' → view_of views ≡ v → view_of others ≡ w → after ≡ knowing log (both v w) ∷ [] → most ≡ max made made'
      → IsPass after left number most (joined + (joined' + 1))
  joined_pass views others after v w left number made joined left' number' made' joined' most log p q e f one max_is =
      let i = p.idle in
      let low = p.low in
      let few = p.few in
      let few' = q.few in
      let m = ap (λ (u : View O E). u.made) (sym e) ∙ p.made_is in
      let m' = ap (λ (u : View O E). u.made) (sym f) ∙ q.made_is in
      let a = ap (λ (u : View O E). length u.owns) e in let b = ap (λ (u : View O E). length u.owns) f in
      let c = p.joined_is in let d = q.joined_is in
      pass_of after (knowing log (both v w)) left number most (joined + (joined' + 1)) one
      record {
        live = ap (λ (u : View O E). u.live) (sym e) ∙ i.live;
        holds = ap (λ (u : View O E). u.holds) (sym e) ∙ i.holds;
        waits = ap (λ (u : View O E). u.waits) (sym e) ∙ i.waits;
        spare = ap (λ (u : View O E). u.spare) (sym e) ∙ i.spare;
        other = refl;
      }
      (omega arith) (omega arith) (ap (λ (u : View O E). u.left) (sym e) ∙ p.left_is) (ap (λ (u : View O E). u.number) (sym e) ∙ p.number_is) (omega arith)
      (p.rooted.0, ap (λ (u : View O E). u.origin) (sym e) ∙ p.rooted.1) (omega (arith, length-append v.owns w.owns))

  pub closing : {T : Type 0} (stands : T → O → List E → Type 0) (by : E → ℕ) (o : O) (words : List ℕ) (slots : List T) (id : ℕ) (v : View O E) (y : T)
      → Final (Seen (Kept stands by o) id v) words slots → get_elem? slots 0 ≡ some y → v.live ≡ 1 → v.holds ≡ 0 → length v.owns ≡ v.made
      → (v.origin ≡ o ∷ []) × ((later : List E) × stands y o (later ++ v.seen) × NoneBy by v.number later)
  closing {T} stands by o words slots id v y final first live idle all =
      let c = closes stands by o final.0 final.1.0 id v final.1.1 live idle all in
      let same : c.0 ≡ y = some-injective c.0 y (sym (final.4 0 c.0 (ap (λ hs. get_elem? hs 0) c.1)) ∙ first) in
      (c.2, (c.3.0, subst (λ (x : T). stands x o (c.3.0 ++ v.seen)) same c.3.1, c.3.2))
