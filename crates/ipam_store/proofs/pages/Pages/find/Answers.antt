use Rattle.std.proofs.Common.{ap, sym, ◌∙◌, subst}
use Rattle.ipam_records.specs.Datastore.{row_of}
use Rattle.ipam_records.specs.KeyRef.{owned_key}
use Rattle.ipam_store.specs.Shelved.{Shelved}
use Rattle.ipam_store.specs.Places.{Ascend}
use Rattle.ipam_store.specs.Page.{IsPageFor}
use Rattle.ipam_store.proofs.Paging.{Ascend-page, row_of-page}
use Rattle.ipam_store.proofs.pages.Pages.find.Goals as goal

pub find-requires : goal.find-requires
find-requires c =
    let ascend = subst (λ (v : Shelved). Ascend v.rows) (sym c.self.view_is) c.requires in
    let page = subst (λ pages. IsPageFor pages (owned_key c.args.key.now) c.page_for.result) c.deref.ensures.value c.page_for.ensures in
    let here = Ascend-page c.self.inside.pages.items ascend c.page_for.result c.index-page.result.now page.within in
    rw (c.deref-2.ensures.value, c.index-page.ensures) here

pub returns : goal.returns
returns c =
    let page = subst (λ pages. IsPageFor pages (owned_key c.args.key.now) c.page_for.result) c.deref.ensures.value c.page_for.ensures in
    c.find.ensures
    ∙ ap (row_of (owned_key c.args.key.now)) c.deref-2.ensures.value
    ∙ ap (λ p. row_of (owned_key c.args.key.now) p.items) c.index-page.ensures
    ∙ sym (row_of-page c.self.inside.pages.items (owned_key c.args.key.now) c.page_for.result page c.index-page.result.now)
    ∙ ap (λ (v : Shelved). row_of (owned_key c.args.key.now) v.rows) c.self.view_is
