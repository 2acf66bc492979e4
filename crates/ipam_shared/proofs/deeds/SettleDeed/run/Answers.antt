use Rattle.std.proofs.Common.{◌≡◌, inl, Result, Ok, Err, refl, sym, subst, ℕ, arith}
use Rattle.ipam_keeper.specs.declared.keeper.KeepFault.{KeepFault}
use Rattle.ipam_shared.specs.Settling.{Settles}
use Rattle.ipam_shared.proofs.Holding.{held-still, settles-not, settles-so}
use Rattle.ipam_shared.proofs.deeds.SettleDeed.run.Goals as goal

pub returns-then-self-sure-clause-does : goal.returns-then-self-sure-clause-does
returns-then-self-sure-clause-does g c =
    let is = c.settled-sure.ensures in
    let enough = c.if-self-sure.true in
    (is, inl (record { enough = omega arith; same = refl }))

pub returns-in_err-settle-clause-does : goal.returns-in_err-settle-clause-does
returns-in_err-settle-clause-does g c =
    let is = c.settled-sure.ensures in
    let due = c.if-self-sure.false in
    let answer = c.in_err-settle.ensures in
    let told : c.from_residual.result ≡ Err c.in_err-settle.field-0.0 = grind arith in
    subst (λ (r : Result ℕ KeepFault). Settles g.D.Keeper.rows g.D.Keeper.settled g.D.Keeper.faults g.D.Keeper.broken c.args.self.moment c.args.kept.now r c.settle.new.self) (sym told)
    (settles-not g.D.Keeper.rows g.D.Keeper.settled g.D.Keeper.faults g.D.Keeper.broken c.args.self.moment c.args.kept.now c.settle.new.self (omega arith)
    c.in_err-settle.field-0.0 answer.fault answer.breaks answer.no_fault)

pub returns-in_err-settle-clause-keeps : goal.returns-in_err-settle-clause-keeps
returns-in_err-settle-clause-keeps g c =
    held-still g.D.Keeper.rows g.D.Keeper.settled c.args.kept.now c.settle.new.self c.settle.ensures.still_fed c.settle.ensures.still_sure

pub returns-clause-does : goal.returns-clause-does
returns-clause-does g c =
    let is = c.settled-sure.ensures in
    let due = c.if-self-sure.false in
    let answer = c.in_ok-settle.ensures in
    subst (λ (n : ℕ). Settles g.D.Keeper.rows g.D.Keeper.settled g.D.Keeper.faults g.D.Keeper.broken c.args.self.moment c.args.kept.now (Ok n) c.settle.new.self) (sym c.settled.ensures)
    (settles-so g.D.Keeper.rows g.D.Keeper.settled g.D.Keeper.faults g.D.Keeper.broken c.args.self.moment c.args.kept.now c.settle.new.self (omega arith) answer.done answer.counted answer.no_fault)

pub returns-clause-keeps : goal.returns-clause-keeps
returns-clause-keeps g c =
    held-still g.D.Keeper.rows g.D.Keeper.settled c.args.kept.now c.settle.new.self c.settle.ensures.still_fed c.settle.ensures.still_sure
