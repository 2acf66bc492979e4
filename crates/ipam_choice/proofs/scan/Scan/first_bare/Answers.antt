use Rattle.std.proofs.Common.{◌≡◌, true, false, sym, rules, refl}
use Rattle.ipam_choice.specs.Scanned.{sight_of}
use Rattle.ipam_choice.proofs.PoolLemmas.{no_claim, none_is_bare, bare_is_first}
use Rattle.ipam_choice.proofs.scan.Scan.first_bare.Goals as goal

pub returns-then-not-self : goal.returns-then-not-self
returns-then-not-self c =
    let none : c.args.self.now.may_claim ≡ false = search rules in
    sym (no_claim (sight_of c.args.self.now) c.args.pool.now none)

pub returns-in_err-number : goal.returns-in_err-number
returns-in_err-number c =
    rw c.from_residual.ensures (sym (none_is_bare (sight_of c.args.self.now) c.args.pool.now (c.in_err-number.ensures.none refl)))

pub returns : goal.returns
returns c =
    let may : c.args.self.now.may_claim ≡ true = search rules in
    rw c.slot.ensures.value (sym (bare_is_first (sight_of c.args.self.now) c.args.pool.now c.in_ok-number.number may c.in_ok-number.ensures.found))
