use Rattle.std.proofs.Common.{◌<◌, length, rules}
use Rattle.ipam_store.specs.CidrLists.{with_cidr}
use Rattle.ipam_store.proofs.NodeLemmas.{CidrsAscend-at, ChangesList-write, AreNodeLists-write}
use Rattle.ipam_store.proofs.nodes.put_in.Goals as goal

pub insert-requires-clause-ascend : goal.insert-requires-clause-ascend
insert-requires-clause-ascend c =
    let within : c.args.at < length c.args.lists.now.items = search rules in
    CidrsAscend-at c.args.lists.now.items c.requires.kept c.args.at within c.index_mut-entry.result.now c.index_mut-entry.ensures.value

pub returns-clause-list : goal.returns-clause-list
returns-clause-list c =
    let within : c.args.at < length c.args.lists.now.items = search rules in
    ChangesList-write c.args.lists.now.items c.requires.kept c.args.at within c.index_mut-entry.result.now c.index_mut-entry.ensures.value c.insert.new.cidrs (with_cidr c.args.cidr) c.insert.ensures.items

pub returns-clause-kept : goal.returns-clause-kept
returns-clause-kept c =
    let within : c.args.at < length c.args.lists.now.items = search rules in
    AreNodeLists-write c.args.lists.now.items c.requires.kept c.args.at within c.index_mut-entry.result.now c.index_mut-entry.ensures.value c.insert.new.cidrs c.insert.ensures.some c.insert.ensures.ascend
