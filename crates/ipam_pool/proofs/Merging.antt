-- Spans that are joined where they touch.
use Rattle.std.proofs.Common.{◌≡◌, ℕ, ◌+◌, ◌-◌, ◌<◌, ◌≤◌, Bool, true, false, ◌||◌, List, [], ◌∷◌, ◌++◌, length, get_or, take, drop, ap, sym, ◌∙◌, arith, refl}
use Rattle.std.proofs.lemmas.List.{take_all}
use Rattle.std.proofs.lemmas.List.Elements.{All-push}
use Rattle.std.proofs.lemmas.List.Folds.{list_any_more}
use Rattle.std.proofs.lemmas.List.Quantifiers.{all_pairs_push}
use Rattle.ipam_pool.specs.declared.spans.Span.{Span}
use Rattle.ipam_pool.specs.Spans.{span_holds, spans_hold, IsOrdered, IsMerged}
use Rattle.ipam_pool.specs.Sweep.{Sweeps}

or-assoc : (a b c : Bool) → ((a || b) || c) ≡ (a || (b || c))
or-assoc true b c = refl
or-assoc false b c = refl

or-false : (a : Bool) → (a || false) ≡ a
or-false true = refl
or-false false = refl

pub IsMerged-nil : IsMerged []
IsMerged-nil = record {
  ordered = λ k d within. absurd (omega arith);
  apart = λ i j d before within. absurd (omega arith);
}

pub IsMerged-push : (spans : List Span) (current : Span) → Sweeps spans current → IsMerged (spans ++ current ∷ [])
IsMerged-push spans current h = record {
  ordered = All-push IsOrdered spans current h.merged.ordered h.ordered;
  apart = all_pairs_push (λ s t. s.last + 1 < t.first) spans current h.merged.apart h.before;
}

-- what is held after one more span of the rest
pub held_more : (closed rest : List Span) (current first s : Span) (i n : ℕ) (done : Bool) → i < length rest → s ≡ get_or rest i s → (spans_hold closed n || span_holds current n) ≡ (done || span_holds s n) → done ≡ (span_holds first n || spans_hold (take i rest) n) → (spans_hold closed n || span_holds current n) ≡ (span_holds first n || spans_hold (take (i + 1) rest) n)
held_more closed rest current first s i n done within at after before =
    let more : spans_hold (take (i + 1) rest) n ≡ (spans_hold (take i rest) n || span_holds s n) = list_any_more (λ x. span_holds x n) rest i s within ∙ ap (λ x. spans_hold (take i rest) n || span_holds x n) (sym at) in
    after
    ∙ ap (λ b. b || span_holds s n) before
    ∙ or-assoc (span_holds first n) (spans_hold (take i rest) n) (span_holds s n)
    ∙ ap (λ b. span_holds first n || b) (sym more)

-- before the first span, nothing is done
pub Sweeps-nil : (done : List Span) (s : Span) → done ≡ [] → IsOrdered s → Sweeps done s
Sweeps-nil done s none order =
    rw none (record {
      merged = IsMerged-nil;
      before = λ k d within. absurd (omega arith);
      ordered = order;
    })

pub held_first : (done : List Span) (s : Span) (n : ℕ) → done ≡ [] → (spans_hold done n || span_holds s n) ≡ (span_holds s n || false)
held_first done s n none = rw none (sym (or-false (span_holds s n)))

-- a list by its first element and the others, as a pattern gives them
pub parts : (xs : List Span) (d : Span) → 1 ≤ length xs → (get_or xs 0 d ∷ take (length xs - 1) (drop 1 xs)) ≡ xs
parts [] d some = absurd (omega arith)
parts (x ∷ xs) d some =
    let e : length (x ∷ xs) - 1 ≡ length xs = omega arith in
    rw e (ap (λ l. x ∷ l) (take_all (length xs) xs (omega arith)))
