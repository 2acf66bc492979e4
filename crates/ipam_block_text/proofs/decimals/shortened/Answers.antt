use Rattle.std.proofs.Common.{◌∙◌, ◌+◌, ◌/◌, ◌%◌, ◌≤◌, [], ◌∷◌, length, take, decimal, sym, ap, inl, inr, arith}
use Rattle.std.proofs.lemmas.Bool.{cases_lt}
use Rattle.std.proofs.lemmas.Fmt.{decimal_step}
use Rattle.std.proofs.lemmas.List.{take-append-le, take_all}
use Rattle.itoa.proofs.Decimal.{length_one, length_step_wide}
use Rattle.ipam_block_text.proofs.decimals.shortened.Goals as goal

pub digits-smaller : goal.digits-smaller
digits-smaller c =
    let front = c.digits.front in
    elim (cases_lt front 10) [
      | inl low ↦ let one = length_one front low in absurd (omega arith)
      | inr high ↦ omega arith
    ]

pub digits-preserved : goal.digits-preserved
digits-preserved c =
    let front = c.digits.front in
    let count = c.args.count in
    elim (cases_lt front 10) [
      | inl low ↦ let one = length_one front low in absurd (omega arith)
      | inr high ↦
          let long = length_step_wide front high (omega arith) in
          let within : count ≤ length (decimal (front / 10)) = omega arith in
          let last = (48 + front % 10) ∷ [] in
          record {
            within = within;
            same = sym (take-append-le count (decimal (front / 10)) last within) ∙ sym (ap (take count) (decimal_step front high (omega arith))) ∙ c.digits.invariant.same;
          }
    ]

pub returns : goal.returns
returns c =
    let front = c.digits.front in
    sym (take_all c.args.count (decimal front) (omega arith)) ∙ c.digits.invariant.same
