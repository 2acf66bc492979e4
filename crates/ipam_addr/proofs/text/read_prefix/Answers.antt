use Rattle.std.proofs.Common.{◌≡◌, ◌≢◌, ◌<◌, sym, ◌∙◌, arith, eqb-true, get_or, length, inl, inr}
use Rattle.std.proofs.lemmas.Bool.{eqb-false}
use Rattle.ipam_addr.proofs.CidrTextLemmas.{prefix_of-empty, prefix_of-long, prefix_of-zero_first, prefix_of-digits}
use Rattle.ipam_addr.proofs.text.read_prefix.Goals as goal

pub returns-then-is_empty : goal.returns-then-is_empty
returns-then-is_empty c = sym (prefix_of-empty c.args.digits.now (eqb-true _ 0 (sym c.is_empty.ensures ∙ c.if-is_empty.true)))

pub returns-then-digits-gt3 : goal.returns-then-digits-gt3
returns-then-digits-gt3 c = sym (prefix_of-long c.args.digits.now (omega arith))

pub returns-then-digits-gt1 : goal.returns-then-digits-gt1
returns-then-digits-gt1 c = sym (prefix_of-zero_first c.args.digits.now c.if-digits-gt1.true c.if-digits-eq48.true)

pub returns : goal.returns
returns c =
    let none : length c.args.digits.now ≡ 0 → ⊥ = eqb-false _ 0 (sym c.is_empty.ensures ∙ c.if-is_empty.false) in
    let some : 0 < length c.args.digits.now = omega arith in
    let first : 1 < length c.args.digits.now → get_or c.args.digits.now 0 0 ≢ 48 = elim c.else-digits-eq48.either [
      | inl alone ↦ λ more. absurd (omega arith)
      | inr other ↦ λ more. other
    ] in
    c.read_digits.ensures ∙ sym (prefix_of-digits c.args.digits.now some c.if-digits-gt3.false first)
