-- An owner that is gone never comes back with the same stamp.
use Rattle.std.proofs.Common.{◌≡◌, ℕ, ◌-◌, ◌<◌, ◌≤◌, List, ap, subst, arith}
use Rattle.std.proofs.lemmas.List.Elements.{All-contains}
use Rattle.ipam_addr.specs.Shape.{CidrValue}
use Rattle.ipam_block.specs.declared.allocation.Allocation.{Allocation}
use Rattle.ipam_records.specs.Datastore.{Datastore}
use Rattle.ipam_records.specs.Sound.{IsDatastore}
use Rattle.ipam_model.specs.declared.entry.Entry.{Entry}
use Rattle.ipam_model.specs.BlockLaw.{BlockAt, NoReturnLaw}
use Rattle.ipam_model.specs.Consistent.{IsConsistent}
use Rattle.ipam_model.specs.History.{Base, Lawful, before, moment_of, store_before}
use Rattle.ipam_model.specs.Owners.{Owner}
use Rattle.ipam_laws.proofs.BlockHistory.{block-later, not-behind, stamps}
use Rattle.ipam_laws.proofs.OneRecord.{drop-lawful}
use Rattle.ipam_laws.proofs.Owned.{HeldIn, block-sound, held-in, held-inside, held-owns, one-block, owns-held}
use Rattle.ipam_laws.proofs.SlotsHistory.{consistent_law}

-- what was held at a moment, and is held later with the same stamp, was held between
pub held-between : (base : Base) (history : List Entry) → IsDatastore base.store → Lawful base history → (first second third : ℕ) → first ≤ second → second ≤ third → (cidr : CidrValue) (old : BlockAt (store_before base history first) cidr) (owner : Owner)
    → owner.stamp ≤ old.b.sequence → HeldIn (store_before base history third) cidr owner → HeldIn (store_before base history second) cidr owner
held-between base history sound h first second third order further cidr old owner stamped held =
    let (mid, keeps) = block-later base history sound h first second order cidr old in
    let (r, s) = not-behind old mid keeps.later in
    let stamp = ap (λ (o : Owner). o.stamp) held.is_owner in
    let among = stamps base history sound h second third further cidr mid held.holding held.a held.among (omega arith) in
    subst (λ (o : Owner). HeldIn (store_before base history second) cidr o) held.is_owner (held-in (store_before base history second) cidr mid held.a among)

pub consistent-before : (base : Base) (history : List Entry) (moment : ℕ) → IsConsistent base.store → Lawful base history → IsConsistent (store_before base history moment)
consistent-before base history moment c h =
    consistent_law base (before base history moment) c (drop-lawful base (moment_of base history - moment) history h)

-- a stamp that is held was given
pub held-stamped : (store : Datastore) (cidr : CidrValue) (o : Owner) → IsDatastore store → (held : HeldIn store cidr o) → o.stamp ≤ held.holding.b.sequence
held-stamped store cidr o sound held =
    let block = block-sound store cidr held.holding sound in
    let given : (0 < held.a.stamp) × (held.a.stamp ≤ held.holding.b.sequence) = All-contains (λ (a : Allocation). (0 < a.stamp) × (a.stamp ≤ held.holding.b.sequence)) held.holding.b.allocations held.a block.stamped held.among in
    let same = ap (λ (x : Owner). x.stamp) held.is_owner in
    let below = given.1 in
    omega arith

pub no_return : NoReturnLaw
no_return base history c h first second third order further owner one other =
    let early = consistent-before base history first c h in
    let late = consistent-before base history third c h in
    let (cidr, held) = owns-held (store_before base history first) owner early.sound one in
    let (cidr', held') = owns-held (store_before base history third) owner late.sound other in
    let (stays, keeps) = block-later base history c.sound h first third (omega arith) cidr held.holding in
    let same : cidr' ≡ cidr = one-block (store_before base history third) cidr' cidr owner.address late held'.holding stays
    (held-inside (store_before base history third) cidr' owner late.sound held') (held-inside (store_before base history first) cidr owner early.sound held) in
    let there : HeldIn (store_before base history third) cidr owner = subst (λ (x : CidrValue). HeldIn (store_before base history third) x owner) same held' in
    held-owns (store_before base history second) cidr owner
    (held-between base history c.sound h first second third order further cidr held.holding owner (held-stamped (store_before base history first) cidr owner early.sound held) there)
