use Rattle.std.proofs.Common.{◌≡◌, subst, sym, ap, ◌∙◌, length, rules}
use Rattle.std.specs.Vec.{vec_len}
use Rattle.ipam_records.specs.KeyRef.{owned_key}
use Rattle.ipam_records.specs.Pages.{rows_of_pages}
use Rattle.std.proofs.lemmas.List.{nil_from_length}
use Rattle.ipam_store.specs.Page.{IsPageFor}
use Rattle.ipam_store.proofs.Paging.{Ascend-page, rows-one}
use Rattle.ipam_store.proofs.pages.page_to_put.Goals as goal

pub returns-then-is_empty-clause-rows : goal.returns-then-is_empty-clause-rows
returns-then-is_empty-clause-rows c =
    let none : vec_len c.args.pages.now ≡ 0 = search rules in
    let empty : length c.args.pages.now.items ≡ 0 = search rules in
    rows-one c.open_page.new.pages.items c.open_page.ensures.one c.open_page.ensures.empty
    ∙ sym (ap rows_of_pages (nil_from_length c.args.pages.now.items empty))

pub find-requires : goal.find-requires
find-requires c =
    let page = subst (λ pages. IsPageFor pages (owned_key c.args.key.now) c.page_for-at.result) c.deref.ensures.value c.page_for-at.ensures in
    let here = Ascend-page c.args.pages.now.items c.requires.ascend c.page_for-at.result c.index-else-len-lt-PAGE_ROWS.result.now page.within in
    rw (c.deref-else-len-lt-PAGE_ROWS.ensures.value, c.index-else-len-lt-PAGE_ROWS.ensures) here
