-- The changes that a document asks.
use Rattle.std.proofs.Common.{◌≡◌, ℕ, List, length, Bool, true, false, Ok, Err, nat_lt, refl, subst, All}
use Rattle.std.specs.Prelude.{if◌then◌else◌}
use Rattle.serde_json.specs.Data.{Data}
use Rattle.ipam_resources.specs.declared.fault.DocumentFault.TheVariants as fault
use Rattle.ipam_resources.specs.declared.fault.TheConstants.{DOCUMENT_MAX}
use Rattle.ipam_resources.specs.declared.kind.ResourceKind.{ResourceKind}
use Rattle.ipam_resources.specs.declared.kind.ResourceKind.TheVariants as kind
use Rattle.ipam_resources.specs.declared.resource.Resource.{Resource}
use Rattle.ipam_resources.specs.Resources.{pool_reading, reservation_reading, settings_reading, config_name, pool_resource, reservation_resource, config_resource, pool_resource_in, reservation_resource_in, config_resource_in, resource_in}
use Rattle.ipam_resources.specs.Documents.{json_of, object_reading, document_reading}
use Rattle.ipam_resources.proofs.DocumentParts.{bind_ok, same_Ok, document_each}
use Rattle.ipam_commands.specs.Ready.{IsOfDocument}

abbrev IsKind : Resource → Type 0
IsKind one = IsOfDocument one.change

-- ---- a resource

pool_in-kind : (d : Data) (r : Resource) → pool_resource_in d ≡ Ok r → IsKind r
unfolding pool_resource_in
pool_in-kind d r e = bind_ok _ (pool_reading d) r e (λ pool is e1. subst IsKind (same_Ok (pool_resource pool) r e1) tt)

reservation_in-kind : (d : Data) (r : Resource) → reservation_resource_in d ≡ Ok r → IsKind r
unfolding reservation_resource_in
reservation_in-kind d r e = bind_ok _ (reservation_reading d) r e (λ one is e1. subst IsKind (same_Ok (reservation_resource one) r e1) tt)

config_in-kind : (k : ResourceKind) (d : Data) (r : Resource) → config_resource_in k d ≡ Ok r → IsKind r
unfolding config_resource_in
config_in-kind k d r e =
    bind_ok _ (settings_reading d) r e (λ settings is e1.
    bind_ok _ (config_name d) r e1 (λ name is_name e2. subst IsKind (same_Ok (config_resource k settings name) r e2) tt))

resource_in-kind : (k : ResourceKind) (d : Data) (r : Resource) → resource_in k d ≡ Ok r → IsKind r
resource_in-kind kind.Pool d r e = pool_in-kind d r e
resource_in-kind kind.Reservation d r e = reservation_in-kind d r e
resource_in-kind kind.Config d r e = config_in-kind kind.Config d r e
resource_in-kind kind.Configuration d r e = config_in-kind kind.Configuration d r e

-- a document that is read is not too long
document_short : (bytes : List ℕ) (rs : List Resource) → document_reading bytes ≡ Ok rs → nat_lt DOCUMENT_MAX (length bytes) ≡ false
unfolding document_reading
document_short bytes rs e = go (nat_lt DOCUMENT_MAX (length bytes)) refl e
  where
    go : (b : Bool) → nat_lt DOCUMENT_MAX (length bytes) ≡ b → (if b then Err fault.Long else object_reading (json_of bytes)) ≡ Ok rs → nat_lt DOCUMENT_MAX (length bytes) ≡ false
    go true is e' = cc
    go false is e' = is

-- it asks changes of these kinds alone
pub document_kinds : (bytes : List ℕ) (rs : List Resource) → document_reading bytes ≡ Ok rs → All (λ one. IsOfDocument one.change) rs × (nat_lt DOCUMENT_MAX (length bytes) ≡ false)
document_kinds bytes rs e = (document_each IsKind resource_in-kind bytes rs e, document_short bytes rs e)
