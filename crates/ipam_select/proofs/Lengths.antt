-- The printed form is as long as was counted.
use Rattle.std.proofs.Common.{◌≡◌, ℕ, ◌+◌, ◌^◌, ◌-◌, min, Bool, true, false, List, [], ◌∷◌, ◌++◌, length, nat_le, refl, ap, arith, length-append, codes}
use Rattle.std.proofs.lemmas.Bool.Decides.{nat_tests}
use Rattle.ipam_select.specs.Formula.{Formula, every, has, is, negation, among, contains, starts, ends, conjunction, disjunction, Formulas, no_formula, formula_then}
use Rattle.ipam_select.specs.Printing.{quote_of, quoted_text, value_lead, values_text, needs_parentheses, member_lead, wrapped, printed, members_text, quoted_len, values_len, wrapped_len, printed_len, members_len}
use Rattle.ipam_select.specs.Sound.{is_short}

quoted_length : (v : List ℕ) → length (quoted_text v) ≡ quoted_len v
quoted_length v = omega (arith, length-append v (quote_of v ∷ []))

values_length : (vs : List (List ℕ)) (first : Bool) (lead : ℕ) → length (value_lead first) ≡ lead → length (values_text first vs) ≡ values_len lead vs
values_length [] first lead e = refl
values_length (v ∷ vs) first lead e =
    omega (
      arith,
      e,
      length-append (value_lead first) (quoted_text v ++ values_text false vs),
      length-append (quoted_text v) (values_text false vs),
      quoted_length v,
      values_length vs false 2 refl,
    )

wrapped_length : (b : Bool) (text : List ℕ) → length (wrapped b text) ≡ wrapped_len b (length text)
wrapped_length true text = omega (arith, length-append text (codes ")"))
wrapped_length false text = refl

compared_length : (key operator v : List ℕ) (n : ℕ) → length operator ≡ n → length (key ++ (operator ++ quoted_text v)) ≡ length key + (quoted_len v + n)
compared_length key operator v n e = omega (arith, e, length-append key (operator ++ quoted_text v), length-append operator (quoted_text v), quoted_length v)

lead_length : (tight : Bool) → length (member_lead tight false) ≡ 4
lead_length true = refl
lead_length false = refl

mutual
  pub printed_length : (f : Formula) → length (printed f) ≡ printed_len f
  printed_length every = refl
  printed_length (has key) = omega (arith, length-append key (codes ")"))
  printed_length (is key v) = compared_length key (codes " == ") v 4 refl
  printed_length (negation f) =
      omega (arith, wrapped_length (needs_parentheses true f) (printed f), ap (wrapped_len (needs_parentheses true f)) (printed_length f))
  printed_length (among key vs) =
      omega (
        arith,
        length-append key (codes " in {" ++ (values_text true vs ++ codes "}")),
        length-append (values_text true vs) (codes "}"),
        values_length vs true 0 refl,
      )
  printed_length (contains key v) = compared_length key (codes " contains ") v 10 refl
  printed_length (starts key v) = compared_length key (codes " starts with ") v 13 refl
  printed_length (ends key v) = compared_length key (codes " ends with ") v 11 refl
  printed_length (conjunction fs) = members_length fs true true 0 refl
  printed_length (disjunction fs) = members_length fs false true 0 refl

  members_length : (fs : Formulas) (tight first : Bool) (lead : ℕ) → length (member_lead tight first) ≡ lead → length (members_text tight first fs) ≡ members_len tight lead fs
  members_length no_formula tight first lead e = refl
  members_length (formula_then f fs) tight first lead e =
      let text = wrapped (needs_parentheses tight f) (printed f) in
      omega (
        arith,
        e,
        length-append (member_lead tight first) (text ++ members_text tight false fs),
        length-append text (members_text tight false fs),
        wrapped_length (needs_parentheses tight f) (printed f),
        ap (wrapped_len (needs_parentheses tight f)) (printed_length f),
        members_length fs tight false 4 (lead_length tight),
      )

-- what was counted tells whether the printed form is short
pub counted : (f : Formula) (n : ℕ) → n ≡ min (printed_len f) (2 ^ 64 - 1) → nat_le n 1024 ≡ is_short (printed f)
counted f n e = let long = printed_length f in grind (arith, nat_tests)
