use Rattle.std.proofs.Common.{◌∙◌, sym}
use Rattle.ipam_pool.proofs.Members.{union_at, union_test}
use Rattle.ipam_pool.proofs.reserved_set.Reserved.of.Goals as goal

pub returns-clause-exact : goal.returns-clause-exact
returns-clause-exact c a =
    let same = union_at (record { v4 = c.in_ok-v4.v4.items; v6 = c.in_ok-v6.v6.items }) c.args.list.now c.in_ok-v4.ensures.union c.in_ok-v6.ensures.union a in
    let test = union_test c.args.list.now a in
    (λ held. test.0 (sym same ∙ held), λ in_union. same ∙ test.1 in_union)
