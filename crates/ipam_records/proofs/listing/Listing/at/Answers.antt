use Rattle.std.proofs.Common.{arith, ◌≡◌, ◌<◌, ◌≤◌, length, refl, sym, ◌∙◌}
use Rattle.std.proofs.lemmas.Option.{slice_get_read}
use Rattle.ipam_records.proofs.PageLemmas.{row_of_page, row_past_page, length-rows_of_pages-drop}
use Rattle.ipam_records.proofs.listing.Listing.at.Goals as goal

pub returns-then-left-len : goal.returns-then-left-len
returns-then-left-len c =
    let page = c.page-item.result in
    let within : c.loop-page.left < length page.items = omega arith in
    let read = slice_get_read page.items (length page.items) c.loop-page.left c.index-row.result.now refl within c.index-row.ensures in
    let here = row_of_page c.args.self.now.pages.now c.loop-page.page-index c.loop-page.left page c.page-item.is c.loop-page-test.true within in
    sym c.loop-page.invariant.1 ∙ here ∙ read

pub loop-page-preserved : goal.loop-page-preserved
loop-page-preserved c =
    let pages = c.args.self.now.pages.now in
    let i = c.loop-page.page-index in
    let page = c.page-item.result in
    let same : c.len-left.result ≡ length page.items = omega arith in
    let past : length page.items ≤ c.loop-page.left = omega arith in
    let count = length-rows_of_pages-drop pages i page c.page-item.is c.loop-page-test.true in
    let next = row_past_page pages i c.loop-page.left page c.page-item.is c.loop-page-test.true past in
    (omega arith, rw same (sym next ∙ c.loop-page.invariant.1))
