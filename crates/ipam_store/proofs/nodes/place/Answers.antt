use Rattle.std.proofs.Common.{rules}
use Rattle.std.proofs.lemmas.Fn.{always_returns_same}
use Rattle.ipam_records.specs.BlockLists.{name_cmp}
use Rattle.ipam_records.proofs.BlockListLemmas.{names_searched}
use Rattle.ipam_store.proofs.nodes.place.Goals as goal

pub returns-clause-found : goal.returns-clause-found
returns-clause-found c =
    let node = c.args.node.now in
    let facts = c.binary_search_by.ensures in
    let by_name = facts.position (λ entry. name_cmp entry.0.items node) (always_returns_same _ _ _ (λ a r g called. (search rules, search rules))) in
    (names_searched node c.args.lists.now c.requires _ facts.bound by_name).found

pub returns-clause-absent : goal.returns-clause-absent
returns-clause-absent c =
    let node = c.args.node.now in
    let facts = c.binary_search_by.ensures in
    let by_name = facts.position (λ entry. name_cmp entry.0.items node) (always_returns_same _ _ _ (λ a r g called. (search rules, search rules))) in
    (names_searched node c.args.lists.now c.requires _ facts.bound by_name).absent
