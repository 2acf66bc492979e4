-- Gaps between spans.
use Rattle.std.proofs.Common.{◌≡◌, ℕ, ◌+◌, ◌<◌, ◌≤◌, true, false, List, length, get_or, inl, inr, ap, sym, ◌∙◌, arith}
use Rattle.std.specs.List.Sorted.{IsNonDecreasingBy}
use Rattle.std.proofs.lemmas.Bool.{cases_lt, cases_order, and_from, and_left, and_right, le-leb, lt-leb}
use Rattle.std.proofs.lemmas.List.{get_or_default}
use Rattle.std.proofs.lemmas.List.Folds.{list_any_at, list_any_none}
use Rattle.ipam_pool.specs.declared.spans.Span.{Span}
use Rattle.ipam_pool.specs.Spans.{span_holds, spans_hold, IsMerged, IsFirstGap}

pub held_by : (s : Span) (n : ℕ) → s.first ≤ n → n ≤ s.last → span_holds s n ≡ true
held_by s n above below = and_from _ _ (le-leb _ _ above) (le-leb _ _ below)

pub not_held_above : (s : Span) (n : ℕ) → n < s.first → span_holds s n ≡ false
not_held_above s n above = and_left _ _ (lt-leb _ _ above)

pub not_held_below : (s : Span) (n : ℕ) → s.last < n → span_holds s n ≡ false
not_held_below s n below = and_right _ _ (lt-leb _ _ below)

-- the last numbers of spans ascend
pub lasts_ascend : (spans : List Span) → IsMerged spans → IsNonDecreasingBy (λ s. s.last) spans
lasts_ascend spans h i j d from within = elim (cases_order i j) [
  | inl same ↦ let e = ap (λ k. (get_or spans k d).last) same in omega arith
  | inr (inl before) ↦
      let apart = h.apart i j d before within in
      let order : (get_or spans j d).first ≤ (get_or spans j d).last = h.ordered j d within in
      omega arith
  | inr (inr after) ↦ absurd (omega arith)
]

-- the spans of which those in front of the place end below the number, and no others
pub record SplitsAt (spans : List Span) (number place : ℕ) : Type 0 where
  pub within : place ≤ length spans
  pub before : (k : ℕ) (d : Span) → k < place → (get_or spans k d).last < number
  pub behind : (k : ℕ) (d : Span) → place ≤ k → k < length spans → number ≤ (get_or spans k d).last

-- a number between two spans is in none
free_between : (spans : List Span) (n place : ℕ) → ((k : ℕ) (d : Span) → k < place → (get_or spans k d).last < n) → ((k : ℕ) (d : Span) → place ≤ k → k < length spans → n < (get_or spans k d).first) → spans_hold spans n ≡ false
free_between spans n place before behind =
    list_any_none (λ s. span_holds s n) spans
    (λ k d within. elim (cases_lt k place) [
      | inl front ↦ not_held_below (get_or spans k d) n (before k d front)
      | inr back ↦ not_held_above (get_or spans k d) n (behind k d back within)
    ])

-- where the next span begins after the number, the number is the gap
pub gap_here : (spans : List Span) (from last place : ℕ) → IsMerged spans → SplitsAt spans from place → from ≤ last → ((d : Span) → place < length spans → from < (get_or spans place d).first) → IsFirstGap spans from last from
gap_here spans from last place h s order begins = record {
  above = omega arith;
  within = order;
  free = free_between spans from place s.before behind;
  least = λ m above below. absurd (omega arith);
}
  where
    behind : (k : ℕ) (d : Span) → place ≤ k → k < length spans → from < (get_or spans k d).first
    behind k d back within = elim (cases_order place k) [
      | inl same ↦
          let here = begins d (omega arith) in
          let e = ap (λ i. (get_or spans i d).first) same in
          omega arith
      | inr (inl before) ↦
          let here = begins d (omega arith) in
          let apart = h.apart place k d before within in
          let ordered : (get_or spans place d).first ≤ (get_or spans place d).last = h.ordered place d (omega arith) in
          omega arith
      | inr (inr after) ↦ absurd (omega arith)
    ]

-- the span at the place has the numbers up to its last
pub held_here : (spans : List Span) (from place : ℕ) (s : Span) → place < length spans → s ≡ get_or spans place s → s.first ≤ from → (m : ℕ) → from ≤ m → m ≤ s.last → spans_hold spans m ≡ true
held_here spans from place s within at begins m above below =
    let e : span_holds (get_or spans place s) m ≡ true = rw (← at) (held_by s m (omega arith) below) in
    list_any_at (λ x. span_holds x m) spans place s within e

-- and then the gap is after it
pub gap_behind : (spans : List Span) (from last place : ℕ) (s : Span) → IsMerged spans → SplitsAt spans from place → place < length spans → s ≡ get_or spans place s → s.first ≤ from → s.last < last → IsFirstGap spans from last (s.last + 1)
gap_behind spans from last place s h split within at begins ends =
    let reaches : from ≤ (get_or spans place s).last = split.behind place s (omega arith) within in
    let e : s.last ≡ (get_or spans place s).last = ap (λ (x : Span). x.last) at in
    record {
      above = omega arith;
      within = omega arith;
      free = free_between spans (s.last + 1) (place + 1) before behind;
      least = λ m above below. held_here spans from place s within at begins m above (omega arith);
    }
  where
    get_or_at : (d : Span) → (get_or spans place d).last ≡ s.last
    get_or_at d = ap (λ (x : Span). x.last) (get_or_default spans place d s within ∙ sym at)

    before : (k : ℕ) (d : Span) → k < place + 1 → (get_or spans k d).last < s.last + 1
    before k d front =
        let low : (get_or spans k d).last ≤ (get_or spans place d).last = lasts_ascend spans h k place d (omega arith) within in
        let e = get_or_at d in
        omega arith

    behind : (k : ℕ) (d : Span) → place + 1 ≤ k → k < length spans → s.last + 1 < (get_or spans k d).first
    behind k d back inside =
        let apart = h.apart place k d (omega arith) inside in
        let e = get_or_at d in
        omega arith
