use Rattle.std.proofs.Common.{◌≡◌, ◌≤◌, length, get_or, subst, sym, ap, ◌∙◌, arith, rules}
use Rattle.ipam_records.specs.KeyRef.{owned_key}
use Rattle.ipam_records.specs.Datastore.{without_row}
use Rattle.ipam_store.specs.Shelved.{Shelved}
use Rattle.ipam_store.specs.Places.{Ascend}
use Rattle.ipam_store.specs.Page.{IsPageFor}
use Rattle.ipam_store.proofs.Paging.{Ascend-page, without-page, page-length, length-set-page, counted_fewer}
use Rattle.ipam_store.proofs.pages.Pages.remove.Goals as goal

pub remove-requires : goal.remove-requires
remove-requires c =
    let ascend = subst (λ (v : Shelved). Ascend v.rows) (sym c.self.view_is) c.requires in
    let page = subst (λ pages. IsPageFor pages (owned_key c.args.key.now) c.page_for-at.result) c.deref.ensures.value c.page_for-at.ensures in
    rw c.index_mut-page.ensures.value (Ascend-page c.self.inside.pages.items ascend c.page_for-at.result c.index_mut-page.result.now page.within)

pub overflow_sub-self : goal.overflow_sub-self
overflow_sub-self c =
    let before : c.len-before.result ≡ length c.index_mut-page.result.now.items = search rules in
    let after : c.len-after.result ≡ length c.remove.new.rows.items = search rules in
    let fewer = c.remove.ensures.fewer in
    omega arith

pub overflow_sub-self-2 : goal.overflow_sub-self-2
overflow_sub-self-2 c =
    let ps = c.self.inside.pages.items in
    let at = c.page_for-at.result in
    let d = c.index_mut-page.result.now in
    let page = subst (λ pages. IsPageFor pages (owned_key c.args.key.now) c.page_for-at.result) c.deref.ensures.value c.page_for-at.ensures in
    let before_here : c.len-before.result ≡ length d.items = search rules in
    let before : c.len-before.result ≡ length (get_or ps at d).items = before_here ∙ ap (λ p. length p.items) c.index_mut-page.ensures.value in
    let part = page-length ps at d page.within in
    let old = c.self.invariant.counted in
    omega (arith, before, part, old)

pub invariant_of-self : goal.invariant_of-self
invariant_of-self c =
    let ps = c.self.inside.pages.items in
    let at = c.page_for-at.result in
    let d = c.index_mut-page.result.now in
    let q = c.remove.new.rows in
    let page = subst (λ pages. IsPageFor pages (owned_key c.args.key.now) c.page_for-at.result) c.deref.ensures.value c.page_for-at.ensures in
    let before_here : c.len-before.result ≡ length d.items = search rules in
    let before : c.len-before.result ≡ length (get_or ps at d).items = before_here ∙ ap (λ p. length p.items) c.index_mut-page.ensures.value in
    let after : c.len-after.result ≡ length q.items = search rules in
    let fewer = subst (λ p. length q.items ≤ length p.items) c.index_mut-page.ensures.value c.remove.ensures.fewer in
    let sum = length-set-page ps at d q page.within in
    let part = page-length ps at d page.within in
    record {
      filled = c.drop_if_empty.ensures.filled;
      roomy = c.drop_if_empty.ensures.roomy;
      ready = c.self.invariant.ready;
      counted = counted_fewer _ _ _ _ c.self.invariant.counted before after fewer part sum ∙ ap length (sym c.drop_if_empty.ensures.rows);
    }

pub returns-clause-rows : goal.returns-clause-rows
returns-clause-rows c =
    let ps = c.self.inside.pages.items in
    let page = subst (λ pages. IsPageFor pages (owned_key c.args.key.now) c.page_for-at.result) c.deref.ensures.value c.page_for-at.ensures in
    c.drop_if_empty.ensures.rows
    ∙ without-page ps (owned_key c.args.key.now) c.page_for-at.result page c.index_mut-page.result.now c.remove.new.rows (c.remove.ensures.rows ∙ ap (λ p. without_row (owned_key c.args.key.now) p.items) c.index_mut-page.ensures.value)
    ∙ ap (λ (v : Shelved). without_row (owned_key c.args.key.now) v.rows) c.self.view_is

pub returns-clause-fewer : goal.returns-clause-fewer
returns-clause-fewer c =
    let ps = c.self.inside.pages.items in
    let at = c.page_for-at.result in
    let d = c.index_mut-page.result.now in
    let q = c.remove.new.rows in
    let page = subst (λ pages. IsPageFor pages (owned_key c.args.key.now) c.page_for-at.result) c.deref.ensures.value c.page_for-at.ensures in
    let fewer = subst (λ p. length q.items ≤ length p.items) c.index_mut-page.ensures.value c.remove.ensures.fewer in
    let sum = length-set-page ps at d q page.within in
    let new = ap length c.drop_if_empty.ensures.rows in
    let old = ap (λ (v : Shelved). length v.rows) c.self.view_is in
    omega (arith, fewer, sum, new, old)
