use Rattle.std.proofs.Common.{◌≡◌, Option, Some, None, Err, sym, ap, ◌∙◌, subst, arith}
use Rattle.ipam_keeper.specs.Keeping.{IsOldOrNew, OnFailed}
use Rattle.ipam_shared.specs.declared.write.RowWrite.{RowWrite}
use Rattle.ipam_shared.specs.Giving.{known_after}
use Rattle.ipam_shared.specs.Rows.{AreToldKept, change_of, key_written, row_back}
use Rattle.ipam_shared.proofs.Given.{on-failed, put-back-done, put-back-fault}
use Rattle.ipam_shared.proofs.giving.put_back.Goals as goal

pub returns-in_err-give_row-clause-kept : goal.returns-in_err-give_row-clause-kept
returns-in_err-give_row-clause-kept g c = λ sound are.
    let store = c.args.store.now.store in
    let told = g.D.Keeper.rows c.args.keeper.now in
    let new = g.D.Keeper.rows c.give_row.new.keeper in
    let back : c.in-Ok.back ≡ row_back (key_written c.in-Some.failed) store = c.in-Ok.ensures ∙ ap (λ k. row_back k store) c.key.ensures in
    let in_doubt : AreToldKept told store (Some c.in-Some.failed) = subst (λ (d : Option RowWrite). AreToldKept told store d) c.in-Some.is are in
    let answer = c.in_err-give_row.ensures in
    put-back-fault store sound c.in-Some.failed told new in_doubt c.in_err-give_row.field-0.0
    (subst (λ (w : RowWrite). OnFailed {T = Unit {0}} (Err c.in_err-give_row.field-0.0) (IsOldOrNew told (known_after w told) new)) back answer.old_or_new) answer.unchanged

pub returns-clause-kept : goal.returns-clause-kept
returns-clause-kept g c = λ sound are.
    let store = c.args.store.now.store in
    let told = g.D.Keeper.rows c.args.keeper.now in
    let new = g.D.Keeper.rows c.give_row.new.keeper in
    let back : c.in-Ok.back ≡ row_back (key_written c.in-Some.failed) store = c.in-Ok.ensures ∙ ap (λ k. row_back k store) c.key.ensures in
    let in_doubt : AreToldKept told store (Some c.in-Some.failed) = subst (λ (d : Option RowWrite). AreToldKept told store d) c.in-Some.is are in
    let answer = c.in_ok-give_row.ensures in
    put-back-done store sound c.in-Some.failed told new in_doubt (answer.done ∙ ap (λ w. known_after w told) back)

-- the row was given back
pub returns-in_err-give_row-clause-failed : goal.returns-in_err-give_row-clause-failed
returns-in_err-give_row-clause-failed g c =
    let store = c.args.store.now.store in
    let back : c.in-Ok.back ≡ row_back (key_written c.in-Some.failed) store = c.in-Ok.ensures ∙ ap (λ k. row_back k store) c.key.ensures in
    let told : c.from_residual.result ≡ Err c.in_err-give_row.field-0.0 = grind arith in
    on-failed c.from_residual.result c.in_err-give_row.field-0.0 told c.in_err-give_row.ensures.given (λ given. record {
      write = c.in-Some.failed;
      was = c.in-Some.is;
      same = sym c.in-Some.is;
      given = subst (λ (w : RowWrite). g.D.Keeper.given c.args.keeper.now (change_of w) c.give_row.new.keeper) back given;
    })

pub returns-in_err-give_row-clause-nothing : goal.returns-in_err-give_row-clause-nothing
returns-in_err-give_row-clause-nothing g c = λ none. let clash : Some c.in-Some.failed ≡ None = sym c.in-Some.is ∙ none in absurd (cc clash)

pub returns-clause-nothing : goal.returns-clause-nothing
returns-clause-nothing g c = λ none. let clash : Some c.in-Some.failed ≡ None = sym c.in-Some.is ∙ none in absurd (cc clash)
