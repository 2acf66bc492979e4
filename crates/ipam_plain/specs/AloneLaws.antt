-- What requests come to that run alone, each kind by itself.
use Rattle.std.specs.Prelude.{◌≡◌, ℕ, List, Some}
use Rattle.ipam_addr.specs.Shape.{AddrValue}
use Rattle.ipam_model.specs.declared.request.AddRequest.{AddRequest}
use Rattle.ipam_model.specs.declared.request.CollectRequest.{CollectRequest}
use Rattle.ipam_model.specs.declared.request.Request.{Request}
use Rattle.ipam_model.specs.declared.request.Request.TheVariants.{Add, AddThis, Del, Collect}
use Rattle.ipam_model.specs.Alone.{alone_over}
use Rattle.ipam_model.specs.Consistent.{IsConsistent}
use Rattle.ipam_model.specs.History.{Base}
use Rattle.ipam_model.specs.Plain.{HasSpareFor, PlainResult, plain, plain_of, records}
use Rattle.ipam_model.specs.SoundRequest.{IsSoundRequest}

-- The request that runs alone is answered as the function of the records says, and leaves the records
-- that it says.
abbrev pub ComesToPlain : Base → Request → PlainResult → Type 0
ComesToPlain base request result =
    (plain_of (alone_over base request).0 ≡ Some result.0)
    × (records (alone_over base request).1.rows ≡ records result.1)

-- So it is over a consistent base with spare.
abbrev pub IsPlainAlone : Request → Type 0
IsPlainAlone request =
    (base : Base) (result : PlainResult)
    → IsConsistent base.store → IsSoundRequest request → HasSpareFor base.store request → plain request base.store.rows ≡ Some result
    → ComesToPlain base request result

abbrev pub AddAloneLaw : Type 0
AddAloneLaw = (request : AddRequest) → IsPlainAlone (Add request)

abbrev pub AddThisAloneLaw : Type 0
AddThisAloneLaw = (request : AddRequest) (address : AddrValue) → IsPlainAlone (AddThis request address)

abbrev pub DelAloneLaw : Type 0
DelAloneLaw = (id : List ℕ) → IsPlainAlone (Del id)

abbrev pub CollectAloneLaw : Type 0
CollectAloneLaw = (request : CollectRequest) → IsPlainAlone (Collect request)
