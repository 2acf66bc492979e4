use Rattle.std.proofs.Common.{◌≡◌, ◌+◌, ◌∙◌, Option, None, ap, sym, drop}
use Rattle.std.specs.Option.{option_or}
use Rattle.ipam_records.specs.Pages.{rows_of_pages}
use Rattle.ipam_show.specs.Address.{Held, held_in, lent_holding}
use Rattle.ipam_show.proofs.Found.{found_page}
use Rattle.ipam_show.proofs.address_shown.held_in.Goals as goal

pub returns-in-Some : goal.returns-in-Some
returns-in-Some c =
    let a = c.args.addr in
    let pages = c.args.pages.now in
    let rest = held_in a (rows_of_pages (drop (c.loop-page.page-index + 1) pages)) in
    let split = found_page a pages c.loop-page.page-index c.page-item.result c.page-item.is c.loop-page-test.true in
    let page = rw c.deref.ensures.value at c.in-Some.ensures in
    sym (sym c.loop-page.invariant ∙ (split ∙ ap (λ (o : Option Held). option_or o rest) (sym page)))

pub loop-page-preserved : goal.loop-page-preserved
loop-page-preserved c =
    let a = c.args.addr in
    let pages = c.args.pages.now in
    let rest = held_in a (rows_of_pages (drop (c.loop-page.page-index + 1) pages)) in
    let split = found_page a pages c.loop-page.page-index c.page-item.result c.page-item.is c.loop-page-test.true in
    let page = rw c.deref.ensures.value at c.held_in_rows.ensures in
    let none : held_in a c.page-item.result.items ≡ None = sym page ∙ ap lent_holding c.in_default.is in
    sym (split ∙ ap (λ (o : Option Held). option_or o rest) none) ∙ c.loop-page.invariant
