use Rattle.std.proofs.Common.{◌≡◌, OnOk, sym, ap, ◌∙◌, subst}
use Rattle.ipam_records.specs.declared.call.Row.{Row}
use Rattle.ipam_keeper.specs.Keeping.{KeeperChange, PutIn, IsOldOrNew, OnFailed, known_with}
use Rattle.ipam_keeper.specs.Rows.{row_with}
use Rattle.ipam_shared.specs.Giving.{known_after}
use Rattle.ipam_shared.specs.Rows.{change_of}
use Rattle.ipam_shared.proofs.giving.give_row.Goals as goal

pub returns-in-Put-clause-done : goal.returns-in-Put-clause-done
returns-in-Put-clause-done g c =
    let told = g.D.Keeper.rows c.args.keeper.now in
    let row : row_with c.as_str.result.now c.in-Put.row.revision c.as_str-in-Put.result.now ≡ c.in-Put.row = λ i. record { key = c.as_str.ensures i; revision = c.in-Put.row.revision; body = c.as_str-in-Put.ensures i } in
    let same : known_with (row_with c.as_str.result.now c.in-Put.row.revision c.as_str-in-Put.result.now) told ≡ known_after c.args.write.now told = ap (λ (r : Row). known_with r told) row ∙ ap (λ w. known_after w told) (sym c.in-Put.is) in
    subst (λ k. OnOk c.put.result (g.D.Keeper.rows c.put.new.self ≡ k)) same c.put.ensures.done

pub returns-in-Put-clause-old_or_new : goal.returns-in-Put-clause-old_or_new
returns-in-Put-clause-old_or_new g c =
    let told = g.D.Keeper.rows c.args.keeper.now in
    let row : row_with c.as_str.result.now c.in-Put.row.revision c.as_str-in-Put.result.now ≡ c.in-Put.row = λ i. record { key = c.as_str.ensures i; revision = c.in-Put.row.revision; body = c.as_str-in-Put.ensures i } in
    let same : known_with (row_with c.as_str.result.now c.in-Put.row.revision c.as_str-in-Put.result.now) told ≡ known_after c.args.write.now told = ap (λ (r : Row). known_with r told) row ∙ ap (λ w. known_after w told) (sym c.in-Put.is) in
    subst (λ k. OnFailed c.put.result (IsOldOrNew told k (g.D.Keeper.rows c.put.new.self))) same c.put.ensures.old_or_new

pub returns-in-Put-clause-given : goal.returns-in-Put-clause-given
returns-in-Put-clause-given g c =
    let row : row_with c.as_str.result.now c.in-Put.row.revision c.as_str-in-Put.result.now ≡ c.in-Put.row = λ i. record { key = c.as_str.ensures i; revision = c.in-Put.row.revision; body = c.as_str-in-Put.ensures i } in
    let same : PutIn (row_with c.as_str.result.now c.in-Put.row.revision c.as_str-in-Put.result.now) ≡ change_of c.args.write.now = ap PutIn row ∙ ap change_of (sym c.in-Put.is) in
    subst (λ (k : KeeperChange). OnFailed c.put.result (g.D.Keeper.given c.args.keeper.now k c.put.new.self)) same c.put.ensures.given
