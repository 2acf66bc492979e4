use Rattle.std.proofs.Common.{Ok, Err, rules}
use Rattle.std.specs.Cmp.Lexicographic.{slice_cmp}
use Rattle.std.specs.Ordering.{nat_cmp}
use Rattle.std.proofs.lemmas.Cmp.{nat_list_cmp_total}
use Rattle.std.proofs.lemmas.Fn.{always_returns_same}
use Rattle.ipam_records.specs.declared.call.Row.{Row as RowText}
use Rattle.ipam_records.proofs.SearchLemmas.{searched}
use Rattle.ipam_opening.proofs.Found.{found-place, found-gap}
use Rattle.ipam_opening.proofs.given.Given.place_of.Goals as goal

pub returns-in-Ok-clause-found : goal.returns-in-Ok-clause-found
returns-in-Ok-clause-found c =
    let text = c.args.text.now in
    let rows = c.args.self.now.rows.now in
    let facts = c.in-Ok.ensures in
    let by_key = facts.position (λ (row : RowText). slice_cmp nat_cmp row.key text) (always_returns_same _ _ _ (λ a r g called. (search rules, search rules))) in
    let found = (searched (slice_cmp nat_cmp) nat_list_cmp_total (λ (row : RowText). row.key) rows c.requires text (Ok c.in-Ok.place) facts.bound by_key).found in
    found-place rows text c.in-Ok.place found

pub returns-in-Err-clause-none : goal.returns-in-Err-clause-none
returns-in-Err-clause-none c =
    let text = c.args.text.now in
    let rows = c.args.self.now.rows.now in
    let facts = c.in-Err.ensures in
    let by_key = facts.position (λ (row : RowText). slice_cmp nat_cmp row.key text) (always_returns_same _ _ _ (λ a r g called. (search rules, search rules))) in
    let gap = (searched (slice_cmp nat_cmp) nat_list_cmp_total (λ (row : RowText). row.key) rows c.requires text (Err c.in-Err.field-0) facts.bound by_key).absent in
    found-gap rows text c.in-Err.field-0 gap
