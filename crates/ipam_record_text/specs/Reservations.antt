-- The body of reservations.
use Rattle.std.specs.Prelude.{◌≢◌, ℕ, ◌≤◌, List, [], ◌∷◌, ◌++◌, map, codes, length, All, AllPairs, IsTrue, Bool, not, ◌&&◌, nat_lt, nat_le, bytes_eq, Option, Some, Result, option_and_then}
use Rattle.std.specs.List.{list_any}
use Rattle.serde_json.specs.Data.{Data, string, Items, no_items, item}
use Rattle.serde_json.specs.Find.{as_str}
use Rattle.serde_json.specs.Written.{compact_text}
use Rattle.ipam_addr.specs.Shape.{CidrValue}
use Rattle.ipam_addr.specs.Text.{cidr_text_of}
use Rattle.ipam_addr.specs.Width.{IsCidr}
use Rattle.ipam_addr.specs.Names.{is_name_text}
use Rattle.ipam_json.specs.Built.{object_of, array_of}
use Rattle.ipam_pool.specs.declared.reservations.TheConstants.{MOST_CIDRS, MOST_RESERVATIONS}
use Rattle.ipam_pool.specs.Shape.{ReservationValue}
use Rattle.ipam_record_text.specs.declared.fault.BodyFault.{BodyFault}
use Rattle.ipam_json.specs.Members.{◌>>=◌, only_if, items_at}
use Rattle.ipam_record_text.specs.Reading.{body_reading}
use Rattle.ipam_record_text.specs.Blocks.{cidr_of, name_at}

abbrev pub cidr_data : CidrValue → Data
cidr_data r = string (cidr_text_of r)

-- the JSON of one reservation
unfoldable pub reservation_data : ReservationValue → Data
reservation_data r =
    object_of ((codes "name", string r.name)
    ∷ (codes "reservedCIDRs", array_of (map cidr_data r.cidrs)) ∷ [])

-- the JSON of reservations
unfoldable pub reservations_data : List ReservationValue → Data
reservations_data rs = object_of ((codes "reservations", array_of (map reservation_data rs)) ∷ [])

-- the body of reservations
unfoldable pub reservations_body : List ReservationValue → List ℕ
reservations_body rs = compact_text (reservations_data rs)

-- the reservation has a name and at most 64 CIDRs
pub record IsReservation (r : ReservationValue) : Type 0 where
  pub name : IsTrue (is_name_text r.name)
  pub few : length r.cidrs ≤ MOST_CIDRS
  pub ranges : All IsCidr r.cidrs

-- at most 256 reservations with names of their own
pub record IsReservationsRecord (list : List ReservationValue) : Type 0 where
  pub few : length list ≤ MOST_RESERVATIONS
  pub each : All IsReservation list
  pub names : AllPairs (λ r s. r.name ≢ s.name) list

-- the CIDR whose text the JSON is
unfoldable pub cidr_in : Data → Option CidrValue
cidr_in d = option_and_then cidr_of (as_str d)

-- the CIDRs, and after them those that the items are
abbrev pub cidrs_after : List CidrValue → Items → Option (List CidrValue)
cidrs_after cidrs no_items = Some cidrs
cidrs_after cidrs (item d ds) = do
  c ← cidr_in d
  cidrs_after (cidrs ++ c ∷ []) ds

-- the reservation of this name and these CIDRs, where they are at most 64
unfoldable pub named_cidrs : List ℕ → List CidrValue → Option ReservationValue
named_cidrs name cidrs = only_if (nat_le (length cidrs) MOST_CIDRS) (record { name = name; cidrs = cidrs })

-- the reservation that the JSON holds
unfoldable pub reservation_in : Data → Option ReservationValue
reservation_in d = do
  name ← name_at (codes "name") d
  items ← items_at (codes "reservedCIDRs") d
  cidrs ← cidrs_after [] items
  named_cidrs name cidrs

-- the reservations are fewer than 256, and none has this one's name
unfoldable pub may_follow : List ReservationValue → ReservationValue → Bool
may_follow rs r =
    nat_lt (length rs) MOST_RESERVATIONS && not (list_any (λ other. bytes_eq r.name other.name) rs)

-- the reservations, and after them those that the items hold
abbrev pub reservations_after : List ReservationValue → Items → Option (List ReservationValue)
reservations_after rs no_items = Some rs
reservations_after rs (item d ds) = do
  r ← reservation_in d
  more ← only_if (may_follow rs r) (rs ++ r ∷ [])
  reservations_after more ds

-- the reservations that the JSON holds
unfoldable pub reservations_in : Data → Option (List ReservationValue)
reservations_in d = do
  items ← items_at (codes "reservations") d
  reservations_after [] items

-- what is read of the body of reservations
unfoldable pub reservations_reading : List ℕ → Result (List ReservationValue) BodyFault
reservations_reading body = body_reading reservations_in reservations_body body
