use Rattle.std.proofs.Common.{IsOk, ◌≡◌, [], ◌∷◌, length, sym, subst, arith, rules}
use Rattle.std.proofs.lemmas.List.{nil_from_length}
use Rattle.std.specs.List.Sorted.{IsStrictlySortedBy}
use Rattle.ipam_store.specs.NodeNames.{IsNext}
use Rattle.ipam_records.proofs.BlockListLemmas.{length-named}
use Rattle.ipam_store.proofs.NodeLemmas.{ChangesList-open, AreNodeLists-open}
use Rattle.ipam_store.proofs.nodes.open.Goals as goal

pub insert-requires : goal.insert-requires
insert-requires c =
    let within = c.requires.gap.within in
    omega (arith, length-named c.args.lists.now.items)

pub returns-clause-list : goal.returns-clause-list
returns-clause-list c =
    let next = subst IsNext (sym c.in-Some.ensures.value) c.requires.next in
    let no_bytes : length c.in-Some.name.items ≡ 0 = search rules in
    let no_blocks : length c.in-Some.list.items ≡ 0 = search rules in
    let no_name : c.in-Some.name.items ≡ [] = nil_from_length c.in-Some.name.items no_bytes in
    let no_list : c.in-Some.list.items ≡ [] = nil_from_length c.in-Some.list.items no_blocks in
    let named : IsOk c.extend_from_slice.result = search rules in
    let name : c.extend_from_slice.new.self.items ≡ c.args.node.now = rw (c.extend_from_slice.ensures.items, named, no_name) c.as_bytes.ensures.value in
    let list : c.push_reserved.new.self.items ≡ c.args.cidr ∷ [] = rw (c.push_reserved.ensures.items, no_list) in
    let done : IsOk c.insert.result = c.insert.ensures.succeeds c.requires.room in
    rw (c.insert.ensures.items, done) (ChangesList-open c.args.lists.now.items c.requires.kept c.args.at c.args.node.now c.requires.gap c.args.cidr (c.extend_from_slice.new.self, c.push_reserved.new.self) name list)

pub returns-clause-kept : goal.returns-clause-kept
unfolding IsStrictlySortedBy
returns-clause-kept c =
    let next = subst IsNext (sym c.in-Some.ensures.value) c.requires.next in
    let no_bytes : length c.in-Some.name.items ≡ 0 = search rules in
    let no_blocks : length c.in-Some.list.items ≡ 0 = search rules in
    let no_name : c.in-Some.name.items ≡ [] = nil_from_length c.in-Some.name.items no_bytes in
    let no_list : c.in-Some.list.items ≡ [] = nil_from_length c.in-Some.list.items no_blocks in
    let named : IsOk c.extend_from_slice.result = search rules in
    let name : c.extend_from_slice.new.self.items ≡ c.args.node.now = rw (c.extend_from_slice.ensures.items, named, no_name) c.as_bytes.ensures.value in
    let list : c.push_reserved.new.self.items ≡ c.args.cidr ∷ [] = rw (c.push_reserved.ensures.items, no_list) in
    let done : IsOk c.insert.result = c.insert.ensures.succeeds c.requires.room in
    rw (c.insert.ensures.items, done) (AreNodeLists-open c.args.lists.now.items c.requires.kept c.args.at c.args.node.now c.requires.gap c.args.cidr (c.extend_from_slice.new.self, c.push_reserved.new.self) name list (tt, tt))
