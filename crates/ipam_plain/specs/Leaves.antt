-- Which owners are left by a DEL and by a collection that run alone.
use Rattle.std.specs.Prelude.{◌≡◌, ◌≢◌, ◌⊎◌, ◌↔◌, ℕ, false, true, List}
use Rattle.ipam_block.specs.declared.allocation.Allocation.{Allocation}
use Rattle.ipam_model.specs.declared.request.CollectRequest.{CollectRequest}
use Rattle.ipam_model.specs.declared.request.Request.TheVariants.{Collect, Del}
use Rattle.ipam_model.specs.Alone.{alone_over}
use Rattle.ipam_model.specs.Consistent.{IsConsistent}
use Rattle.ipam_model.specs.History.{Base}
use Rattle.ipam_model.specs.Moments.{Owns, Recorded}
use Rattle.ipam_model.specs.Owners.{Owner}
use Rattle.ipam_model.specs.Plain.{HasSpareFor}
use Rattle.ipam_model.specs.Remove.{is_in_scope, is_live}
use Rattle.ipam_model.specs.SoundRequest.{IsSoundRequest}

-- All of the handle's owners go, and no other.
abbrev pub DelLeavesLaw : Type 0
DelLeavesLaw =
    (base : Base) (id : List ℕ) → IsConsistent base.store → IsSoundRequest (Del id) → HasSpareFor base.store (Del id)
    → (o : Owner) → Owns (alone_over base (Del id)).1 o ↔ (Owns base.store o × (o.handle ≢ id))

-- the allocation is outside of the scope, or its handle is listed
abbrev pub IsKept : CollectRequest → Allocation → Type 0
IsKept request a = (is_in_scope request.scope a ≡ false) ⊎ (is_live request.live a.attributes.handle ≡ true)

-- A collection without a grace leaves exactly the owners that are outside of the scope or whose handle is
-- listed.
abbrev pub CollectLeavesLaw : Type 0
CollectLeavesLaw =
    (base : Base) (request : CollectRequest) → IsConsistent base.store → IsSoundRequest (Collect request)
    → HasSpareFor base.store (Collect request) → request.grace ≡ 0
    → (o : Owner) → Owns (alone_over base (Collect request)).1 o
    ↔ ((a : Allocation) × Recorded base.store o a × IsKept request a)
