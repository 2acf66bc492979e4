-- Changes of the pools, the reservations and the configuration.
use Rattle.std.specs.Prelude.{ℕ, Bool, not, ◌&&◌, ◌==◌, nat_le, List, [], ◌∷◌, ◌++◌, Option, Some, None, length, map, bytes_eq, slice_get, option_map, unwrap_or, if◌then◌else◌}
use Rattle.std.specs.List.{list_any, filter}
use Rattle.ipam_pool.specs.declared.pools.Pool.{Pool}
use Rattle.ipam_pool.specs.declared.pools.PoolRefusal.{PoolRefusal}
use Rattle.ipam_pool.specs.declared.pools.PoolRefusal.TheVariants.{NameTaken, Overlap, Size, Prefix}
use Rattle.ipam_pool.specs.Changes.{has_name, refusal_of, with_disabled, with_rules}
use Rattle.ipam_pool.specs.declared.reservations.TheConstants.{MOST_RESERVATIONS}
use Rattle.ipam_pool.specs.Shape.{ReservationValue}
use Rattle.ipam_records.specs.declared.key.Key.{Key}
use Rattle.ipam_records.specs.declared.key.Key.TheVariants as key
use Rattle.ipam_records.specs.declared.call.Call.TheVariants.{Get}
use Rattle.ipam_records.specs.declared.record.Record.{Record}
use Rattle.ipam_records.specs.declared.record.Record.TheVariants as record_of
use Rattle.ipam_records.specs.Label.{idle}
use Rattle.ipam_records.specs.Said.{Said}
use Rattle.ipam_records.specs.Word.{Word, Asks}
use Rattle.ipam_model.specs.declared.outcome.AdminAnswer.{AdminAnswer}
use Rattle.ipam_model.specs.declared.outcome.AdminAnswer.TheVariants as admin
use Rattle.ipam_model.specs.declared.request.Admin.{Admin}
use Rattle.ipam_model.specs.declared.request.Admin.TheVariants as change
use Rattle.ipam_model.specs.Reads.{pools_said, reservations_said}
use Rattle.ipam_model.specs.declared.part.Left.{Left}
use Rattle.ipam_model.specs.Step.{all_left, Part, StopAnswers, goes, write_back, on_write, with_retries, without_count, as_word}
use Rattle.ipam_model.specs.Usable.{is_same_cidr}

-- what a change makes of the record, or the number of the refusal and the name that it is about
pub data Changed : Type 0 where
  Becomes : Record → Changed
  Refuses : (number : ℕ) (name : List ℕ) → Changed

-- ---- the pools

-- whether this is the pool that the change is about, with the same CIDR and size
abbrev pub is_same_pool : Pool → Pool → Bool
is_same_pool pool p =
    has_name pool.name p && is_same_cidr p.cidr pool.cidr && (p.size == pool.size)

abbrev pub pool_name_at : List Pool → ℕ → List ℕ
pool_name_at pools place = unwrap_or (option_map (λ p. p.name) (slice_get pools place)) []

abbrev pub pool_refused : List Pool → Pool → PoolRefusal → Changed
pool_refused pools pool NameTaken = Refuses 1 pool.name
pool_refused pools pool (Overlap place) = Refuses 2 (pool_name_at pools place)
pool_refused pools pool Size = Refuses 3 pool.name
pool_refused pools pool Prefix = Refuses 4 pool.name
-- a want of memory is no refusal of a pool
pool_refused pools pool _ = Refuses 5 pool.name

abbrev pub pool_appended : List Pool → Pool → Option PoolRefusal → Changed
pool_appended pools pool None = Becomes (record_of.Pools (pools ++ pool ∷ []))
pool_appended pools pool (Some refusal) = pool_refused pools pool refusal

-- a pool that is there is disabled or not and has the mode and the selector, and another is appended
abbrev pub pool_changed : List Pool → Pool → Changed
pool_changed pools pool =
    if list_any (is_same_pool pool) pools
    then Becomes (record_of.Pools (with_rules pool.name pool.disabled pool.mode pool.selector pools))
    else pool_appended pools pool (refusal_of pools pool)

abbrev pub disable_changed : List Pool → List ℕ → Bool → Changed
disable_changed pools name disabled =
    if list_any (has_name name) pools then Becomes (record_of.Pools (with_disabled name disabled pools))
    else Refuses 6 name

-- ---- the reservations

abbrev pub most_reservations : ℕ
most_reservations = MOST_RESERVATIONS

abbrev pub is_named : List ℕ → ReservationValue → Bool
is_named name r = bytes_eq r.name name

abbrev pub with_reservation : ReservationValue → List ReservationValue → List ReservationValue
with_reservation new list = map (λ r. if is_named new.name r then new else r) list

-- the CIDRs of a name are replaced, and another name is appended
abbrev pub reserve_changed : List ReservationValue → ReservationValue → Changed
reserve_changed list new =
    if list_any (is_named new.name) list then Becomes (record_of.Reservations (with_reservation new list))
    else (if nat_le most_reservations (length list) then Refuses 7 new.name
    else Becomes (record_of.Reservations (list ++ new ∷ [])))

abbrev pub unreserve_changed : List ReservationValue → List ℕ → Changed
unreserve_changed list name =
    if list_any (is_named name) list
    then Becomes (record_of.Reservations (filter (λ r. not (is_named name r)) list))
    else Refuses 8 name

-- ---- all of them

abbrev pub key_changed : Admin → Key
key_changed (change.Pool pool) = key.Pools
key_changed (change.Disable name disabled) = key.Pools
key_changed (change.Reserve reservation) = key.Reservations
key_changed (change.Unreserve name) = key.Reservations
key_changed (change.Config config) = key.Config

-- what the change makes of what was read
abbrev pub admin_change : Admin → Said → Changed
admin_change (change.Pool pool) said = pool_changed (pools_said said) pool
admin_change (change.Disable name disabled) said = disable_changed (pools_said said) name disabled
admin_change (change.Reserve reservation) said = reserve_changed (reservations_said said) reservation
admin_change (change.Unreserve name) said = unreserve_changed (reservations_said said) name
admin_change (change.Config config) said = Becomes (record_of.Config config)

abbrev pub admin_write : (again : Part AdminAnswer) → Left → Said → Changed → Part AdminAnswer
admin_write again left said (Becomes new) =
    Asks idle (write_back said new) (λ moment reply.
    on_write reply left (λ revision. goes left (admin.Done revision)) again)
admin_write again left said (Refuses number name) = goes left (admin.Refused number name)

abbrev pub admin_once : Admin → (again : Part AdminAnswer) → Left → Part AdminAnswer
admin_once request again left =
    Asks idle (Get (key_changed request)) (λ moment said. admin_write again left said (admin_change request said))

abbrev pub admin_stops : StopAnswers AdminAnswer
admin_stops = without_count admin.Again admin.Full admin.Spent

-- The record is read, changed and written, even if the change makes no difference.
abbrev pub admin_word : Admin → Word AdminAnswer
admin_word request = as_word admin_stops (with_retries (admin_once request) all_left)
