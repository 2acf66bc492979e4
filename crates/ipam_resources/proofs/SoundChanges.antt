-- What is read of a document are sound changes.
use Rattle.std.proofs.Common.{◌≡◌, ℕ, ◌^◌, ◌<◌, List, length, true, false, Option, Some, None, Ok, nat_le, refl, subst, arith, All}
use Rattle.std.specs.Option.{ok_or}
use Rattle.std.specs.List.{AllByRecursion}
use Rattle.std.proofs.lemmas.Bool.{leb-true}
use Rattle.std.proofs.lemmas.Option.{cond_some}
use Rattle.std.proofs.lemmas.List.Elements.{All-from_recursion}
use Rattle.serde_json.specs.Data.{Data}
use Rattle.serde_json.specs.Find.{as_bool}
use Rattle.ipam_addr.specs.declared.address.Family.{Family}
use Rattle.ipam_addr.specs.declared.address.Family.TheVariants.{V4, V6}
use Rattle.ipam_addr.specs.Names.{is_name_text}
use Rattle.ipam_addr.specs.Width.{IsCidr}
use Rattle.ipam_select.specs.Formula.{every}
use Rattle.ipam_select.specs.Sound.{is_sound}
use Rattle.ipam_pool.specs.declared.pools.Pool.{Pool}
use Rattle.ipam_pool.specs.declared.pools.Mode.TheVariants.{Automatic}
use Rattle.ipam_pool.specs.Shape.{ReservationValue}
use Rattle.ipam_record_text.specs.declared.config.Config.{Config as Settings}
use Rattle.ipam_record_text.specs.Pools.{IsSoundPool}
use Rattle.ipam_record_text.specs.Reservations.{IsReservation, named_cidrs, cidr_in}
use Rattle.ipam_json.proofs.MemberLemmas.{then-is}
use Rattle.ipam_record_text.proofs.ReservationLists.{cidr_in-is}
use Rattle.ipam_model.specs.SoundRequest.{IsSoundChange}
use Rattle.ipam_resources.specs.declared.kind.ResourceKind.{ResourceKind}
use Rattle.ipam_resources.specs.declared.kind.ResourceKind.TheVariants as kind
use Rattle.ipam_resources.specs.declared.member.Member.{Member}
use Rattle.ipam_resources.specs.declared.member.Member.TheVariants as member
use Rattle.ipam_resources.specs.declared.resource.Resource.{Resource}
use Rattle.ipam_resources.specs.Members.{found_at, required, read_or, optional}
use Rattle.ipam_resources.specs.Values.{name_in, size_in, bound_in, selector_value_in, ranges_in, default_size}
use Rattle.ipam_resources.specs.Resources.{plain_pool, mode_at, pool_reading, reservation_reading, settings_reading, config_name, pool_resource, reservation_resource, config_resource, pool_resource_in, reservation_resource_in, config_resource_in, resource_in}
use Rattle.ipam_resources.specs.Documents.{document_reading}
use Rattle.ipam_resources.proofs.DocumentParts.{bind_ok, same_Ok, document_each}
use Rattle.ipam_resources.proofs.ValueLemmas.{name_in-is, size_in-is, bound_in-is, selector_in-is, ranges_in-is}

-- ---- what was read where there is something

ok_or_ok : {A : Type 0} (o : Option A) (m : Member) (x : A) → ok_or o m ≡ Ok x → o ≡ Some x
ok_or_ok (Some y) m x e = cc
ok_or_ok None m x e = cc

required-is : {A : Type 0} (found : Data → Option A) (P : A → Type 0) → ((d : Data) (x : A) → found d ≡ Some x → P x) → (m : Member) (d : Data) (x : A) → required found m d ≡ Ok x → P x
unfolding required
required-is found P h m d x e = then-is found P h (found_at m d) x (ok_or_ok _ m x e)

optional-is : {A : Type 0} (found : Data → Option A) (P : A → Type 0) (default : A) → P default → ((d : Data) (x : A) → found d ≡ Some x → P x) → (m : Member) (d : Data) (x : A) → optional found default m d ≡ Ok x → P x
unfolding optional
optional-is {A} found P default h0 h m d x e = go (found_at m d) e
  where
    go : (o : Option Data) → read_or found default m o ≡ Ok x → P x
    go None e' = subst P (same_Ok default x e') h0
    go (Some v) e' = h v x (ok_or_ok (found v) m x e')

-- ---- a pool

abbrev IsNameText : List ℕ → Type 0
IsNameText name = is_name_text name ≡ true

default_small : (family : Family) → default_size family < 2 ^ 8
default_small V4 = omega arith
default_small V6 = omega arith

plain_pool-sound : (d : Data) (p : Pool) → plain_pool d ≡ Ok p → IsSoundPool p
unfolding plain_pool
plain_pool-sound d p e =
    bind_ok _ (required name_in member.Name d) p e (λ name is_name e1.
    bind_ok _ (required cidr_in member.Cidr d) p e1 (λ range is_range e2.
    bind_ok _ (optional size_in (default_size range.family) member.BlockSize d) p e2 (λ size is_size e3.
    bind_ok _ (optional as_bool false member.Disabled d) p e3 (λ disabled is_disabled e4.
    subst IsSoundPool (same_Ok (record { name = name; cidr = range; size = size; disabled = disabled; mode = Automatic; selector = every }) p e4) (record {
      name = required-is name_in IsNameText name_in-is member.Name d name is_name;
      cidr = required-is cidr_in IsCidr cidr_in-is member.Cidr d range is_range;
      size = optional-is size_in (λ n. n < 2 ^ 8) (default_size range.family) (default_small range.family) size_in-is member.BlockSize d size is_size;
      selector = refl;
    })))))

pool_reading-sound : (d : Data) (p : Pool) → pool_reading d ≡ Ok p → IsSoundPool p
unfolding pool_reading
pool_reading-sound d p e =
    bind_ok _ (plain_pool d) p e (λ plain is_plain e1.
    bind_ok _ (optional selector_value_in every member.NodeSelector d) p e1 (λ selector is_selector e2.
    bind_ok _ (mode_at d) p e2 (λ mode is_mode e3.
    let h = plain_pool-sound d plain is_plain in
    subst IsSoundPool (same_Ok (record plain { mode = mode; selector = selector }) p e3) (record {
      name = h.name;
      cidr = h.cidr;
      size = h.size;
      selector = optional-is selector_value_in (λ f. is_sound f ≡ true) every refl selector_in-is member.NodeSelector d selector is_selector;
    }))))

-- ---- a reservation

reservation_reading-sound : (d : Data) (r : ReservationValue) → reservation_reading d ≡ Ok r → IsReservation r
unfolding reservation_reading named_cidrs
reservation_reading-sound d r e =
    bind_ok _ (required name_in member.Name d) r e (λ name is_name e1.
    bind_ok _ (required ranges_in member.ReservedCidrs d) r e1 (λ ranges is_ranges e2.
    let (few, same) = cond_some (nat_le (length ranges) 64) (record { name = name; cidrs = ranges }) r (ok_or_ok _ member.ReservedCidrs r e2) in
    subst IsReservation same (record {
      name = required-is name_in IsNameText name_in-is member.Name d name is_name;
      few = leb-true _ _ few;
      ranges = All-from_recursion IsCidr ranges (required-is ranges_in (AllByRecursion IsCidr) ranges_in-is member.ReservedCidrs d ranges is_ranges);
    })))

-- ---- a configuration

none_small : 0 < 2 ^ 32
none_small = omega arith

config_reading-sound : (d : Data) (c : Settings) → settings_reading d ≡ Ok c → c.max_blocks < 2 ^ 32
unfolding settings_reading
config_reading-sound d c e =
    bind_ok _ (optional as_bool false member.StrictAffinity d) c e (λ strict is_strict e1.
    bind_ok _ (optional as_bool true member.AutoAllocateBlocks d) c e1 (λ auto is_auto e2.
    bind_ok _ (optional bound_in 0 member.MaxBlocksPerHost d) c e2 (λ most is_most e3.
    subst (λ (s : Settings). s.max_blocks < 2 ^ 32) (same_Ok (record { strict = strict; auto = auto; max_blocks = most }) c e3)
    (optional-is bound_in (λ n. n < 2 ^ 32) 0 none_small bound_in-is member.MaxBlocksPerHost d most is_most))))

-- ---- a resource

abbrev Changes : Resource → Type 0
Changes r = IsSoundChange r.change

pool_in-sound : (d : Data) (r : Resource) → pool_resource_in d ≡ Ok r → Changes r
unfolding pool_resource_in
pool_in-sound d r e = bind_ok _ (pool_reading d) r e (λ pool is e1. subst Changes (same_Ok (pool_resource pool) r e1) (pool_reading-sound d pool is))

reservation_in-sound : (d : Data) (r : Resource) → reservation_resource_in d ≡ Ok r → Changes r
unfolding reservation_resource_in
reservation_in-sound d r e = bind_ok _ (reservation_reading d) r e (λ one is e1. subst Changes (same_Ok (reservation_resource one) r e1) (reservation_reading-sound d one is))

config_in-sound : (k : ResourceKind) (d : Data) (r : Resource) → config_resource_in k d ≡ Ok r → Changes r
unfolding config_resource_in
config_in-sound k d r e =
    bind_ok _ (settings_reading d) r e (λ settings is e1.
    bind_ok _ (config_name d) r e1 (λ name is_name e2.
    subst Changes (same_Ok (config_resource k settings name) r e2) (config_reading-sound d settings is)))

resource_in-sound : (k : ResourceKind) (d : Data) (r : Resource) → resource_in k d ≡ Ok r → Changes r
resource_in-sound kind.Pool d r e = pool_in-sound d r e
resource_in-sound kind.Reservation d r e = reservation_in-sound d r e
resource_in-sound kind.Config d r e = config_in-sound kind.Config d r e
resource_in-sound kind.Configuration d r e = config_in-sound kind.Configuration d r e

pub document_sound : (bytes : List ℕ) (rs : List Resource) → document_reading bytes ≡ Ok rs → All (λ r. IsSoundChange r.change) rs
document_sound = document_each Changes resource_in-sound
