use Rattle.std.proofs.Common.{◌≡◌, ℕ, List, Some, subst}
use Rattle.std.specs.Global.{Vec}
use Rattle.ipam_records.specs.declared.record.Record.{Record}
use Rattle.ipam_records.specs.Pages.{rows_of_pages}
use Rattle.ipam_session.specs.Page.{taken_from}
use Rattle.ipam_session.proofs.Skipping.{all-behind, from-page}
use Rattle.ipam_session.proofs.places.pages_from.Goals as goal

pub returns-in-Some : goal.returns-in-Some
returns-in-Some c taken =
    let key = c.in-Some.key in
    let pages = c.args.pages.now in
    let first = c.page_for.result in
    let before = rw c.of.ensures at c.page_for.ensures.before in
    rw c.in-Some.is
    (subst (λ (ps : List (Vec (ℕ × Record))). taken_from (Some key) taken (rows_of_pages ps) ≡ taken_from (Some key) taken (rows_of_pages pages)) (all-behind pages first) (from-page key pages first before taken))
