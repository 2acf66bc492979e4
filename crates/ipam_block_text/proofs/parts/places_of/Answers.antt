use Rattle.std.proofs.Common.{◌≢◌, ◌∙◌, ◌+◌, ◌<◌, length, get_or, ℕ, ap, sym, subst, arith}
use Rattle.ipam_block_text.specs.Numbering.{index_at}
use Rattle.ipam_block_text.proofs.Ordinals.{ordinals_below_pushed}
use Rattle.ipam_block_text.proofs.Numbers.{IsAt, held_here, held_elsewhere, same_default}
use Rattle.ipam_block_text.proofs.parts.places_of.Goals as goal
use Rattle.ipam_block_text.proofs.parts.places_of.Goals.{then-next-held+then-held-next+in_ok-push, else-next-held+in_ok-push-2, else-next-held-via-then-next-held+else-held-next, else-next-held-via-else-next-held}

pub loop-ordinal-preserved : goal.loop-ordinal-preserved
loop-ordinal-preserved c =
    let l = c.loop-ordinal in
    let held = c.args.held.now in
    let P : ℕ → Type 0 = λ k. IsAt held k (l.ordinal + 1) in
    elim c.if-next-held.branch [
      | then-next-held+then-held-next+in_ok-push w ↦
          let step = held_here held l.next l.ordinal _ c.requires l.invariant.at w.if-next-held.true w.if-held-next.true in
          record {
            places = ordinals_below_pushed (index_at held) l.ordinal l.places.items _ _ l.invariant.places (sym step.0) (ap (λ v. v.items) w.places-is ∙ w.in_ok-push.ensures.items);
            at = subst P (sym w.next-is) step.1;
          }
      | else-next-held+in_ok-push-2 w ↦
          let other : (d : ℕ × ℕ) → l.next < length held → (get_or held l.next d).0 ≢ l.ordinal = λ d within. elim w.else-next-held.branch [
            | else-next-held-via-then-next-held+else-held-next w' ↦
                λ e. w'.if-held-next.false (ap (λ (x : ℕ × ℕ). x.0) (same_default held l.next _ d within) ∙ e)
            | else-next-held-via-else-next-held w' ↦ let past = w'.if-next-held.false in absurd (omega arith)
          ] in
          let step = held_elsewhere held l.next l.ordinal c.requires l.invariant.at other in
          record {
            places = ordinals_below_pushed (index_at held) l.ordinal l.places.items _ _ l.invariant.places (sym step.0) (ap (λ v. v.items) w.places-is ∙ w.in_ok-push-2.ensures.items);
            at = subst P (sym w.next-is) step.1;
          }
    ]
