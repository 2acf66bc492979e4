-- Counts follow what is held.
use Rattle.std.specs.Prelude.{◌≡◌, ℕ, ◌+◌, List, Some}
use Rattle.ipam_addr.specs.Shape.{CidrValue}
use Rattle.ipam_model.specs.declared.request.Request.{Request}
use Rattle.ipam_model.specs.Alone.{alone_over}
use Rattle.ipam_model.specs.Consistent.{IsConsistent}
use Rattle.ipam_model.specs.CountLaw.{handle_count, held_count}
use Rattle.ipam_model.specs.History.{Base}
use Rattle.ipam_model.specs.Plain.{HasSpareFor, PlainResult, plain}
use Rattle.ipam_model.specs.SoundRequest.{IsSoundRequest}

-- A request that runs alone with spare changes each count by exactly as much as it changes how many
-- addresses the handle owns in the block. So a count that was more than that before is more by as much
-- after it.
abbrev pub CountsFollowLaw : Type 0
CountsFollowLaw =
    (base : Base) (request : Request) (result : PlainResult)
    → IsConsistent base.store → IsSoundRequest request → HasSpareFor base.store request → plain request base.store.rows ≡ Some result
    → (id : List ℕ) (cidr : CidrValue)
    → handle_count (alone_over base request).1 id cidr + held_count base.store id cidr
    ≡ handle_count base.store id cidr + held_count (alone_over base request).1 id cidr
