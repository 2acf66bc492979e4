-- What an ADD that runs alone makes of the owners.
use Rattle.std.specs.Prelude.{◌≡◌, ◌⊎◌, ◌↔◌, ℕ, List, [], ◌∷◌, Contains, map}
use Rattle.ipam_addr.specs.Shape.{AddrValue}
use Rattle.ipam_records.specs.Datastore.{Datastore}
use Rattle.ipam_model.specs.declared.answer.Answer.TheVariants as answer
use Rattle.ipam_model.specs.declared.answer.Given.{Given}
use Rattle.ipam_model.specs.declared.answer.GivenThis.{GivenThis}
use Rattle.ipam_model.specs.declared.request.AddRequest.{AddRequest}
use Rattle.ipam_model.specs.declared.request.Request.TheVariants.{Add, AddThis}
use Rattle.ipam_model.specs.Alone.{alone_over}
use Rattle.ipam_model.specs.Consistent.{IsConsistent}
use Rattle.ipam_model.specs.History.{Base}
use Rattle.ipam_model.specs.Moments.{Owns}
use Rattle.ipam_model.specs.Owners.{Owner}
use Rattle.ipam_model.specs.Plain.{HasSpare, records}
use Rattle.ipam_model.specs.SoundRequest.{IsSoundRequest}

-- all owners stay, those that come are of the handle and have one of the addresses, and of each of the
-- addresses the handle is an owner now
pub record GainsThese (old new : Datastore) (id : List ℕ) (addresses : List AddrValue) : Type 0 where
  pub stay : (o : Owner) → Owns old o → Owns new o
  pub come : (o : Owner) → Owns new o → Owns old o ⊎ ((o.handle ≡ id) × Contains addresses o.address)
  pub has : (address : AddrValue) → Contains addresses address → (o : Owner) × Owns new o × (o.handle ≡ id) × (o.address ≡ address)

abbrev pub addresses_in : List Given → List AddrValue
addresses_in given = map (λ (g : Given). g.address) given

-- The handle gains the addresses that were given, and nobody else gains or loses any. Where none were
-- given, the owners are those that there were: what was given of one family is freed where the other
-- has none.
abbrev pub AddOwnersLaw : Type 0
AddOwnersLaw =
    (base : Base) (request : AddRequest)
    → IsConsistent base.store → IsSoundRequest (Add request) → HasSpare base.store (Add request)
    → ((given : List Given) → (alone_over base (Add request)).0 ≡ answer.Added given
    → GainsThese base.store (alone_over base (Add request)).1 request.attributes.handle (addresses_in given))
    × (¬ ((given : List Given) × ((alone_over base (Add request)).0 ≡ answer.Added given))
    → (o : Owner) → Owns (alone_over base (Add request)).1 o ↔ Owns base.store o)

-- So it does where one address was asked for. Where it was not given, no record changes.
abbrev pub AddThisOwnersLaw : Type 0
AddThisOwnersLaw =
    (base : Base) (request : AddRequest) (address : AddrValue)
    → IsConsistent base.store → IsSoundRequest (AddThis request address) → HasSpare base.store (AddThis request address)
    → ((given : GivenThis) → (alone_over base (AddThis request address)).0 ≡ answer.AddedThis given
    → GainsThese base.store (alone_over base (AddThis request address)).1 request.attributes.handle (address ∷ []))
    × (¬ ((given : GivenThis) × ((alone_over base (AddThis request address)).0 ≡ answer.AddedThis given))
    → records (alone_over base (AddThis request address)).1.rows ≡ records base.store.rows)
