use Rattle.ipam_pool.proofs.Named.{found_named, none_named}
use Rattle.ipam_pool.proofs.Changing.{set-with_rules, IsPoolTable-with_rules}
use Rattle.ipam_pool.proofs.table.PoolTable.set.Goals as goal

pub invariant_of-self : goal.invariant_of-self
invariant_of-self c =
    let found = found_named c.args.name.now c.self.inside.pools.items _ _ c.in-Some.place c.index_mut.result.now c.as_slice.ensures.value c.named_place.ensures.value c.in-Some.is c.index_mut.ensures.value in
    rw (c.set_rules.ensures.value, set-with_rules c.args.name.now c.args.disabled c.args.mode c.args.selector _ _ c.index_mut.result.now c.self.invariant found.within c.index_mut.ensures.value found.named) (IsPoolTable-with_rules _ _ _ _ _ c.self.invariant)

pub returns-in-Some-clause-missing : goal.returns-in-Some-clause-missing
returns-in-Some-clause-missing c =
    let found = found_named c.args.name.now c.self.inside.pools.items _ _ c.in-Some.place c.index_mut.result.now c.as_slice.ensures.value c.named_place.ensures.value c.in-Some.is c.index_mut.ensures.value in
    rw (← c.self.view_is, found.any)

pub returns-in-Some-clause-ok : goal.returns-in-Some-clause-ok
returns-in-Some-clause-ok c =
    let found = found_named c.args.name.now c.self.inside.pools.items _ _ c.in-Some.place c.index_mut.result.now c.as_slice.ensures.value c.named_place.ensures.value c.in-Some.is c.index_mut.ensures.value in
    rw (← c.self.view_is, c.set_rules.ensures.value) (set-with_rules c.args.name.now c.args.disabled c.args.mode c.args.selector _ _ c.index_mut.result.now c.self.invariant found.within c.index_mut.ensures.value found.named)

pub returns-in-None-clause-missing : goal.returns-in-None-clause-missing
returns-in-None-clause-missing c =
    rw (← c.self.view_is, none_named c.args.name.now c.self.inside.pools.items _ _ c.as_slice.ensures.value c.named_place.ensures.value c.in-None.is)
