use Rattle.std.proofs.Common.{rules}
use Rattle.std.proofs.lemmas.Fn.{always_returns_same}
use Rattle.ipam_keeper.specs.Rows.{text_cmp, row_key_text}
use Rattle.ipam_keeper.proofs.Searching.{searched}
use Rattle.ipam_keeper.proofs.rows.place.Goals as goal

pub returns-clause-found : goal.returns-clause-found
returns-clause-found c =
    let facts = c.binary_search_by.ensures in
    let by_key = facts.position (λ row. text_cmp (row_key_text row) c.args.key.now) (always_returns_same _ _ _ (λ a r g called. (search rules, search rules))) in
    (searched _ c.requires c.args.key.now _ facts.bound by_key).found

pub returns-clause-absent : goal.returns-clause-absent
returns-clause-absent c =
    let facts = c.binary_search_by.ensures in
    let by_key = facts.position (λ row. text_cmp (row_key_text row) c.args.key.now) (always_returns_same _ _ _ (λ a r g called. (search rules, search rules))) in
    (searched _ c.requires c.args.key.now _ facts.bound by_key).absent
