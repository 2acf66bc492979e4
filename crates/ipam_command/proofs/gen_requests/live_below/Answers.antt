use Rattle.std.proofs.Common.{◌≡◌, ℕ, ◌+◌, ◌%◌, List, [], ◌∷◌, ◌++◌, append-nil, sym, ap, ◌∙◌, arith}
use Rattle.std.specs.Prelude.{◌==◌, if◌then◌else◌}
use Rattle.ipam_command.specs.Requests.{even_handle, generated_handle, live_below}
use Rattle.ipam_command.proofs.NameLemmas.{live-more}
use Rattle.ipam_command.proofs.gen_requests.live_below.Goals.{then-number-eq0+in_ok-handle_of+in_ok-push, else-number-eq0}
use Rattle.ipam_command.proofs.gen_requests.live_below.Goals as goal

one-even : (n : ℕ) → n % 2 ≡ 0 → even_handle n ≡ generated_handle n ∷ []
one-even n is = ap (λ (m : ℕ). if m == 0 then generated_handle n ∷ [] else []) is

none-odd : (n : ℕ) → ¬ (n % 2 ≡ 0) → even_handle n ≡ []
none-odd n not =
    let one : n % 2 ≡ 1 = omega arith in
    ap (λ (m : ℕ). if m == 0 then generated_handle n ∷ [] else []) one

one-more : (n : ℕ) (live new now : List (List ℕ)) → live ≡ live_below n → even_handle n ≡ new → now ≡ live ++ new → now ≡ live_below (n + 1)
one-more n live new now so_far is pushed =
    pushed ∙ ap (λ (l : List (List ℕ)). l ++ new) so_far ∙ ap (λ (l : List (List ℕ)). live_below n ++ l) (sym is) ∙ sym (live-more n)

pub loop-number-preserved : goal.loop-number-preserved
loop-number-preserved c =
    let n = c.loop-number.number in
    let live = c.loop-number.live in
    elim c.if-number-eq0.branch [
      | then-number-eq0+in_ok-handle_of+in_ok-push w ↦
          one-more n live (generated_handle n ∷ []) c.if-number-eq0.live c.loop-number.invariant (one-even n w.if-number-eq0.true)
          (w.live-is ∙ w.in_ok-push.ensures.ok ∙ ap (λ (id : List ℕ). live ++ id ∷ []) (w.in_ok-handle_of.ensures ∙ ap generated_handle w.from.ensures))
      | else-number-eq0 w ↦
          one-more n live [] c.if-number-eq0.live c.loop-number.invariant (none-odd n w.if-number-eq0.false) (w.live-is ∙ sym (append-nil live))
    ]
