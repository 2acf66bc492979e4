use Rattle.std.proofs.Common.{◌≡◌, ◌<◌, ◌≤◌, [], length, rules}
use Rattle.std.proofs.lemmas.List.{nil_from_length}
use Rattle.ipam_store.specs.CidrLists.{without_cidr}
use Rattle.ipam_store.specs.NodeNames.{HasRoom}
use Rattle.ipam_store.proofs.Paging.{All-remove}
use Rattle.ipam_store.proofs.NodeLemmas.{remove-set, CidrsAscend-at, ChangesList-write, AreNodeLists-write, ChangesList-drop, AreNodeLists-drop}
use Rattle.ipam_store.proofs.nodes.take_out.Goals as goal

pub remove-requires : goal.remove-requires
remove-requires c =
    let within : c.args.at < length c.args.lists.now.items = search rules in
    CidrsAscend-at c.args.lists.now.items c.requires.kept c.args.at within c.index_mut.result.now c.index_mut.ensures.value

pub returns-then-is_empty-clause-list : goal.returns-then-is_empty-clause-list
returns-then-is_empty-clause-list c =
    let within : c.args.at < length c.args.lists.now.items = search rules in
    let none : c.remove.new.cidrs.items ≡ [] = nil_from_length c.remove.new.cidrs.items (search rules) in
    rw c.remove-then-is_empty.ensures.items (ChangesList-drop c.args.lists.now.items c.requires.kept c.args.at within c.index_mut.result.now c.index_mut.ensures.value c.remove.new.cidrs (without_cidr c.args.cidr) c.remove.ensures.items none)

pub returns-then-is_empty-clause-kept : goal.returns-then-is_empty-clause-kept
returns-then-is_empty-clause-kept c =
    let within : c.args.at < length c.args.lists.now.items = search rules in
    rw c.remove-then-is_empty.ensures.items (AreNodeLists-drop c.args.lists.now.items c.requires.kept c.args.at within c.index_mut.result.now c.index_mut.ensures.value c.remove.new.cidrs)

pub returns-then-is_empty-clause-roomy : goal.returns-then-is_empty-clause-roomy
returns-then-is_empty-clause-roomy c all =
    let within : c.args.at < length c.args.lists.now.items = search rules in
    rw (c.remove-then-is_empty.ensures.items, remove-set) (All-remove HasRoom c.args.lists.now.items c.args.at within all)

pub returns-else-is_empty-clause-list : goal.returns-else-is_empty-clause-list
returns-else-is_empty-clause-list c =
    let within : c.args.at < length c.args.lists.now.items = search rules in
    ChangesList-write c.args.lists.now.items c.requires.kept c.args.at within c.index_mut.result.now c.index_mut.ensures.value c.remove.new.cidrs (without_cidr c.args.cidr) c.remove.ensures.items

pub returns-else-is_empty-clause-kept : goal.returns-else-is_empty-clause-kept
returns-else-is_empty-clause-kept c =
    let within : c.args.at < length c.args.lists.now.items = search rules in
    let some : 1 ≤ length c.remove.new.cidrs.items = search rules in
    AreNodeLists-write c.args.lists.now.items c.requires.kept c.args.at within c.index_mut.result.now c.index_mut.ensures.value c.remove.new.cidrs some c.remove.ensures.ascend
