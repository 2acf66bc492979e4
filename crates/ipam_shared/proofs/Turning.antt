-- What a turn tells of the slot, of the entries that were there, and of what was done.
use Rattle.std.proofs.Common.{◌≡◌, ◌<◌, List, [], ◌∷◌, ◌++◌, length, drop, refl, ap, ◌∙◌, subst, arith}
use Rattle.ipam_model.specs.declared.entry.Entry.{Entry}
use Rattle.ipam_laws.proofs.StandsFor.{entries-are}
use Rattle.ipam_cluster.specs.Cluster.{IsSlot, slot_of_cluster}
use Rattle.ipam_shared.specs.declared.kept.Kept.{Kept}
use Rattle.ipam_shared.specs.Kept.{Tells}
use Rattle.ipam_shared.specs.PassValue.{PassValue}
use Rattle.ipam_shared.specs.Passes.{runs_at, runs_in}
use Rattle.ipam_shared.specs.Turning.{met, moment_met, HadTurn, WasDone}
use Rattle.ipam_shared.proofs.Slots.{runs-past}

pub drop-told : (told rest : List Entry) → drop (length told) (told ++ rest) ≡ rest
drop-told [] rest = refl
drop-told (new ∷ told) rest = drop-told told rest

module _ {D : Type 0} {tells sure : Tells D} {did : Kept D → Kept D → Type 0} {old new : PassValue} {told : List Entry} where
  -- what ran in the slot when the turn came is what ran there at the end of what the pass had seen
  pub slot-before : (h : HadTurn tells sure did old told new) → IsSlot (slot_of_cluster h.done.before.cluster old.slot) (runs_in old)
  slot-before h =
      let base : new.base ≡ old.base = ap (λ (p : PassValue). p.base) h.same in
      let seen : met told new ≡ h.sees.between ++ old.seen = ap (drop (length told)) h.sees.seen ∙ drop-told told (h.sees.between ++ old.seen) in
      let runs : runs_at new.base (met told new) old.slot ≡ runs_in old =
      ap (λ b. runs_at b (met told new) old.slot) base ∙ (ap (λ s. runs_at old.base s old.slot) seen ∙ runs-past old.base h.sees.between old.seen old.slot h.sees.others) in
      subst (IsSlot (slot_of_cluster h.done.before.cluster old.slot)) runs (h.done.stood.cluster.is_cluster.slots old.slot)

  -- as many entries were there when the turn came as its moment says
  pub entries-met : (h : HadTurn tells sure did old told new) → h.done.before.cluster.entries ≡ moment_met told new
  entries-met h = h.done.stood.cluster.is_cluster.entries ∙ entries-are new.base (met told new)

  pub had-left : HadTurn tells sure did old told new → 0 < old.left
  had-left h = let left = h.left in omega arith

pub done-as : {D : Type 0} {tells : Tells D} {did did' : Kept D → Kept D → Type 0} {told : List Entry} {new : PassValue}
    → ((before after : Kept D) → did before after → did' before after) → WasDone tells did told new → WasDone tells did' told new
done-as f h = record { before = h.before; after = h.after; stood = h.stood; fed = h.fed; deed = f h.before h.after h.deed; stands = h.stands }
