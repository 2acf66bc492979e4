use Rattle.std.proofs.Common.{Ok, Err, ap, sym, ◌∙◌, rules}
use Rattle.std.proofs.lemmas.Fn.{always_returns_same}
use Rattle.ipam_records.specs.BlockLists.{name_cmp}
use Rattle.ipam_records.proofs.BlockListLemmas.{Entry, plain, named-get, names_searched, under-found, under-gap}
use Rattle.ipam_records.specs.BlockLists.{named_lists}
use Rattle.ipam_records.proofs.search.list_of.Goals as goal

pub returns-in-Ok : goal.returns-in-Ok
returns-in-Ok c =
    let owned = c.args.owned.now in
    let node = c.args.node.now in
    let facts = c.in-Ok.ensures in
    let entry = c.index-owned-place.result in
    let by_name = facts.position (λ entry. name_cmp entry.0.items node) (always_returns_same _ _ _ (λ a r g called. (search rules, search rules))) in
    let found = (names_searched node owned c.requires (Ok c.in-Ok.place) facts.bound by_name).found in
    c.as_slice.ensures.value
    ∙ ap (λ (e : Entry). e.1) (sym (named-get owned c.in-Ok.place entry (plain entry) facts.bound))
    ∙ sym (under-found node (named_lists owned) c.requires c.in-Ok.place found (plain entry))

pub returns-in-Err : goal.returns-in-Err
returns-in-Err c =
    let owned = c.args.owned.now in
    let node = c.args.node.now in
    let facts = c.in-Err.ensures in
    let by_name = facts.position (λ entry. name_cmp entry.0.items node) (always_returns_same _ _ _ (λ a r g called. (search rules, search rules))) in
    let gap = (names_searched node owned c.requires (Err c.in-Err.field-0) facts.bound by_name).absent in
    sym (under-gap node (named_lists owned) c.in-Err.field-0 gap)
