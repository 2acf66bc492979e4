use Rattle.std.proofs.Common.{◌≡◌, ◌<◌, length, sym, ap, ◌∙◌, rules}
use Rattle.std.proofs.lemmas.List.{nil_from_length}
use Rattle.std.specs.Vec.{vec_len}
use Rattle.ipam_records.specs.Pages.{rows_of_pages}
use Rattle.ipam_store.proofs.Paging.{rows-remove}
use Rattle.ipam_store.proofs.pages.drop_if_empty.Goals as goal

pub returns-then-is_empty-clause-rows : goal.returns-then-is_empty-clause-rows
returns-then-is_empty-clause-rows c =
    let d = c.index.result.now in
    let none : vec_len d ≡ 0 = search rules in
    let empty : length d.items ≡ 0 = search rules in
    let within : c.args.at < length c.args.pages.now.items = search rules in
    ap rows_of_pages c.remove.ensures.items
    ∙ rows-remove c.args.pages.now.items c.args.at d within (sym (ap (λ p. p.items) c.index.ensures) ∙ nil_from_length d.items empty)
