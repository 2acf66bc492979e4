use Rattle.std.proofs.Common.{◌≡◌, ◌∙◌, None, refl, sym}
use Rattle.std.proofs.lemmas.Bool.{cond_both}
use Rattle.ipam_pool.specs.Changes.{refusal_of}
use Rattle.ipam_pool.specs.Sound.{IsPoolTable}
use Rattle.ipam_pool.proofs.Accepting.{IsPoolTable-push}
use Rattle.ipam_pool.proofs.table.PoolTable.add.Goals as goal

pub invariant_of-self : goal.invariant_of-self
invariant_of-self c =
    let none : refusal_of c.self.inside.pools.items c.args.pool ≡ None = sym (rw c.as_slice.ensures.value at c.refusal_of.ensures.value) ∙ c.in_default.is in
    let sound = rw c.in_default.is at c.refusal_of.ensures.sound in
    rw c.push.ensures.items
    (cond_both _ _ _ IsPoolTable
    (λ ok. IsPoolTable-push _ _ c.self.invariant (sound refl) none)
    (λ err. c.self.invariant))
