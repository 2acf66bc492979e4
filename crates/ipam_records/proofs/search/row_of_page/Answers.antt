use Rattle.std.proofs.Common.{Some, Ok, Err, ap, sym, ◌∙◌, rules}
use Rattle.std.proofs.lemmas.Fn.{always_returns_same}
use Rattle.ipam_records.specs.KeyOrder.{key_cmp}
use Rattle.ipam_records.specs.KeyOrderLaws.{key_cmp_total}
use Rattle.ipam_records.specs.KeyRef.{owned_key}
use Rattle.ipam_records.specs.Datastore.{row_key}
use Rattle.ipam_records.proofs.SearchLemmas.{searched}
use Rattle.ipam_records.proofs.RowSearch.{row_of-found, row_of-absent}
use Rattle.ipam_records.proofs.search.row_of_page.Goals as goal

pub returns-in-Ok : goal.returns-in-Ok
returns-in-Ok c =
    let key = owned_key c.args.key.now in
    let facts = c.in-Ok.ensures in
    let by_key = facts.position (λ row. key_cmp (row_key row) key) (always_returns_same _ _ _ (λ a r g called. (search rules, search rules))) in
    let found = (searched key_cmp key_cmp_total row_key c.args.page.now c.requires key (Ok c.in-Ok.place) facts.bound by_key).found in
    ap Some c.index-page-place.is ∙ sym (row_of-found c.args.page.now c.requires key c.in-Ok.place _ found)

pub returns-in-Err : goal.returns-in-Err
returns-in-Err c =
    let key = owned_key c.args.key.now in
    let facts = c.in-Err.ensures in
    let by_key = facts.position (λ row. key_cmp (row_key row) key) (always_returns_same _ _ _ (λ a r g called. (search rules, search rules))) in
    let gap = (searched key_cmp key_cmp_total row_key c.args.page.now c.requires key (Err c.in-Err.field-0) facts.bound by_key).absent in
    sym (row_of-absent c.args.page.now key c.in-Err.field-0 gap)
