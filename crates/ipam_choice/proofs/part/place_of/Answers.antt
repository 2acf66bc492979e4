use Rattle.std.proofs.Common.{rules}
use Rattle.std.proofs.lemmas.Fn.{always_returns_same}
use Rattle.ipam_block.specs.Order.{cidr_cmp}
use Rattle.ipam_records.proofs.KeysCompared.{cidrs_compared}
use Rattle.ipam_choice.proofs.PartLemmas.{blocks_searched}
use Rattle.ipam_choice.proofs.part.place_of.Goals as goal

pub returns-clause-found : goal.returns-clause-found
returns-clause-found c =
    let facts = c.binary_search_by.ensures in
    let by_key = facts.position (λ other. cidr_cmp other c.args.cidr) (always_returns_same _ _ _ (λ a r g called. (grind (rules, cidrs_compared), search rules))) in
    (blocks_searched _ c.requires c.args.cidr _ facts.bound by_key).found

pub returns-clause-absent : goal.returns-clause-absent
returns-clause-absent c =
    let facts = c.binary_search_by.ensures in
    let by_key = facts.position (λ other. cidr_cmp other c.args.cidr) (always_returns_same _ _ _ (λ a r g called. (grind (rules, cidrs_compared), search rules))) in
    (blocks_searched _ c.requires c.args.cidr _ facts.bound by_key).absent
