-- What a probe that runs alone tells of an ADD that runs alone with spare.
use Rattle.std.specs.Prelude.{◌≡◌, ◌↔◌, List}
use Rattle.ipam_model.specs.declared.answer.Answer.TheVariants as answer
use Rattle.ipam_model.specs.declared.answer.Given.{Given}
use Rattle.ipam_model.specs.declared.request.AddRequest.{AddRequest}
use Rattle.ipam_model.specs.declared.request.ProbeRequest.{ProbeRequest}
use Rattle.ipam_model.specs.declared.request.Request.TheVariants.{Add}
use Rattle.ipam_model.specs.Alone.{alone_over}
use Rattle.ipam_model.specs.Consistent.{IsConsistent}
use Rattle.ipam_model.specs.History.{Base}
use Rattle.ipam_model.specs.Plain.{HasSpare}
use Rattle.ipam_model.specs.SoundRequest.{IsSoundRequest}
use Rattle.ipam_laws.specs.AlonePlain.{AsksSame, IsReady}

-- The probe is ready exactly where the ADD, over the same base and with spare, is answered Added.
abbrev pub ReadyAddsLaw : Type 0
ReadyAddsLaw =
    (base : Base) (probe : ProbeRequest) (request : AddRequest)
    → IsConsistent base.store → IsSoundRequest (Add request) → AsksSame probe request → HasSpare base.store (Add request)
    → (IsReady base probe) ↔ ((given : List Given) × ((alone_over base (Add request)).0 ≡ answer.Added given))
