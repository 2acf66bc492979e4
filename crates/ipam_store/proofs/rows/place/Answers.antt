use Rattle.std.proofs.Common.{rules}
use Rattle.std.proofs.lemmas.Fn.{always_returns_same}
use Rattle.ipam_records.specs.KeyOrder.{key_cmp}
use Rattle.ipam_records.specs.Datastore.{row_key}
use Rattle.ipam_records.specs.KeyRef.{owned_key}
use Rattle.ipam_store.proofs.Searching.{searched}
use Rattle.ipam_store.proofs.rows.place.Goals as goal

pub returns-clause-found : goal.returns-clause-found
returns-clause-found c =
    let facts = c.binary_search_by.ensures in
    let by_key = facts.position (λ row. key_cmp (row_key row) (owned_key c.args.key.now)) (always_returns_same _ _ _ (λ a r g called. (search rules, search rules))) in
    (searched _ c.requires (owned_key c.args.key.now) _ facts.bound by_key).found

pub returns-clause-absent : goal.returns-clause-absent
returns-clause-absent c =
    let facts = c.binary_search_by.ensures in
    let by_key = facts.position (λ row. key_cmp (row_key row) (owned_key c.args.key.now)) (always_returns_same _ _ _ (λ a r g called. (search rules, search rules))) in
    (searched _ c.requires (owned_key c.args.key.now) _ facts.bound by_key).absent
