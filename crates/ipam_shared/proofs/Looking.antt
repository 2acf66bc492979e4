-- What a pass is told of the datastore.
use Rattle.std.proofs.Common.{◌≡◌, [], Option, Some, None, Result, Ok, Err, IfSome, IfOk, sym, subst}
use Rattle.std.specs.Option.{ok_or}
use Rattle.ipam_records.specs.Datastore.{Datastore}
use Rattle.ipam_model.specs.Consistent.{IsConsistent}
use Rattle.ipam_model.specs.History.{store_at}
use Rattle.ipam_laws.proofs.SlotsHistory.{consistent_law}
use Rattle.ipam_shared.specs.declared.kept.Kept.{Kept}
use Rattle.ipam_shared.specs.Kept.{IsKept, Tells}
use Rattle.ipam_shared.specs.declared.faults.SpentPass.{SpentPass as Spent}
use Rattle.ipam_shared.specs.PassValue.{PassValue}
use Rattle.ipam_shared.specs.Turning.{HadTurn}

-- what is looked at is consistent
pub kept-consistent : {D : Type 0} (tells : Tells D) (kept : Kept D) → IsKept tells kept → IsConsistent kept.cluster.store.store
kept-consistent tells kept (base, (history, h)) =
    subst IsConsistent (sym h.cluster.is_cluster.store) (consistent_law base history h.cluster.stands.consistent h.cluster.stands.lawful)

module _ {D T : Type 0} (tells sure : Tells D) (told_of : Datastore → T → Type 0) (old new : PassValue) where
  told-look : (spare : Spent) (answer : Option T) → IfSome answer (λ given. HadTurn tells sure (λ (before after : Kept D). told_of before.cluster.store.store given) old [] new)
      → IfOk (ok_or answer spare) (λ told. told_of (store_at new.base new.seen) told)
  told-look spare None h = tt
  told-look spare (Some given) h = subst (λ (s : Datastore). told_of s given) h.done.stood.cluster.is_cluster.store h.done.deed

  pub look-told : (spare : Spent) (answer : Option T) (result : Result T Spent) → result ≡ ok_or answer spare
      → IfSome answer (λ given. HadTurn tells sure (λ (before after : Kept D). told_of before.cluster.store.store given) old [] new)
      → IfOk result (λ told. told_of (store_at new.base new.seen) told)
  look-told spare answer result is turned = subst (λ r. IfOk r (λ told. told_of (store_at new.base new.seen) told)) (sym is) (told-look spare answer turned)
