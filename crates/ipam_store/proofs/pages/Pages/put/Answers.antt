use Rattle.std.proofs.Common.{◌≡◌, ◌+◌, ◌<◌, IsSome, None, length, get_or, subst, sym, ap, ◌∙◌, rules}
use Rattle.std.proofs.lemmas.List.Elements.{All-set}
use Rattle.ipam_records.specs.Datastore.{row_key, row_of, with_row}
use Rattle.ipam_records.specs.Pages.{rows_of_pages}
use Rattle.ipam_store.specs.Shelved.{Shelved}
use Rattle.ipam_store.specs.Places.{Ascend}
use Rattle.ipam_store.specs.Page.{IsRoomy, IsPageFor}
use Rattle.ipam_store.proofs.Paging.{Ascend-page, with-page, filled-set, length-set-page, put-replaced, put-added, put-grows, put-few, counted_more}
use Rattle.ipam_store.proofs.pages.Pages.put.Goals as goal

pub put-requires-clause-ascend : goal.put-requires-clause-ascend
put-requires-clause-ascend c =
    let old = subst (λ (v : Shelved). Ascend v.rows) (sym c.self.view_is) c.requires.ascend in
    let ascend = subst Ascend (sym c.page_to_put-at.ensures.rows) old in
    rw c.index_mut-page.ensures.value (Ascend-page c.page_to_put-at.new.pages.items ascend c.page_to_put-at.result c.index_mut-page.result.now c.page_to_put-at.ensures.page.within)

pub invariant_of-self : goal.invariant_of-self
invariant_of-self c =
    let ps = c.page_to_put-at.new.pages.items in
    let at = c.page_to_put-at.result in
    let d = c.index_mut-page.result.now in
    let q = c.put.new.rows in
    let page = subst (λ key. IsPageFor ps key at) c.of_record.ensures c.page_to_put-at.ensures.page in
    let replaced = subst (λ p. IsSome (row_of (row_key c.args.row) p.items) → length q.items ≡ length p.items) c.index_mut-page.ensures.value c.put.ensures.replaced in
    let added = subst (λ p. row_of (row_key c.args.row) p.items ≡ None → length q.items ≡ length p.items + 1) c.index_mut-page.ensures.value c.put.ensures.added in
    let room = subst (λ key. row_of key (get_or ps at d).items ≡ None → length (get_or ps at d).items < 128) c.of_record.ensures (c.page_to_put-at.ensures.has_room d) in
    let few = put-few ps c.args.row at page d q replaced added room (c.page_to_put-at.ensures.few d) in
    let roomy : IsRoomy q = search rules in
    let before_here : c.len-before.result ≡ length d.items = search rules in
    let before : c.len-before.result ≡ length (get_or ps at d).items = before_here ∙ ap (λ p. length p.items) c.index_mut-page.ensures.value in
    let after : c.len-after.result ≡ length q.items = search rules in
    let old : c.self.inside.count ≡ length (rows_of_pages ps) = c.self.invariant.counted ∙ ap length (sym c.page_to_put-at.ensures.rows) in
    let grows = put-grows ps c.args.row at page d q replaced added in
    let sum = length-set-page ps at d q page.within in
    record {
      filled = filled-set ps at q c.page_to_put-at.ensures.filled (record { some = c.put.ensures.some; few = few });
      roomy = All-set IsRoomy ps at q roomy c.page_to_put-at.ensures.roomy;
      ready = c.page_to_put-at.ensures.ready;
      counted = counted_more _ _ _ _ old before after grows sum;
    }

pub returns-clause-rows : goal.returns-clause-rows
returns-clause-rows c =
    let ps = c.page_to_put-at.new.pages.items in
    let at = c.page_to_put-at.result in
    let page = subst (λ key. IsPageFor ps key at) c.of_record.ensures c.page_to_put-at.ensures.page in
    with-page ps c.args.row at page c.index_mut-page.result.now c.put.new.rows (c.put.ensures.rows ∙ ap (λ p. with_row c.args.row p.items) c.index_mut-page.ensures.value)
    ∙ ap (with_row c.args.row) c.page_to_put-at.ensures.rows
    ∙ ap (λ (v : Shelved). with_row c.args.row v.rows) c.self.view_is

pub returns-clause-replaced : goal.returns-clause-replaced
returns-clause-replaced c some =
    let ps = c.page_to_put-at.new.pages.items in
    let at = c.page_to_put-at.result in
    let d = c.index_mut-page.result.now in
    let q = c.put.new.rows in
    let page = subst (λ key. IsPageFor ps key at) c.of_record.ensures c.page_to_put-at.ensures.page in
    let replaced = subst (λ p. IsSome (row_of (row_key c.args.row) p.items) → length q.items ≡ length p.items) c.index_mut-page.ensures.value c.put.ensures.replaced in
    let added = subst (λ p. row_of (row_key c.args.row) p.items ≡ None → length q.items ≡ length p.items + 1) c.index_mut-page.ensures.value c.put.ensures.added in
    let same = c.page_to_put-at.ensures.rows ∙ ap (λ (v : Shelved). v.rows) c.self.view_is in
    put-replaced ps c.args.row at page d q replaced added (subst (λ rows. IsSome (row_of (row_key c.args.row) rows)) (sym same) some)
    ∙ ap length same

pub returns-clause-added : goal.returns-clause-added
returns-clause-added c none =
    let ps = c.page_to_put-at.new.pages.items in
    let at = c.page_to_put-at.result in
    let d = c.index_mut-page.result.now in
    let q = c.put.new.rows in
    let page = subst (λ key. IsPageFor ps key at) c.of_record.ensures c.page_to_put-at.ensures.page in
    let replaced = subst (λ p. IsSome (row_of (row_key c.args.row) p.items) → length q.items ≡ length p.items) c.index_mut-page.ensures.value c.put.ensures.replaced in
    let added = subst (λ p. row_of (row_key c.args.row) p.items ≡ None → length q.items ≡ length p.items + 1) c.index_mut-page.ensures.value c.put.ensures.added in
    let same = c.page_to_put-at.ensures.rows ∙ ap (λ (v : Shelved). v.rows) c.self.view_is in
    put-added ps c.args.row at page d q replaced added (subst (λ rows. row_of (row_key c.args.row) rows ≡ None) (sym same) none)
    ∙ ap (λ rows. length rows + 1) same
