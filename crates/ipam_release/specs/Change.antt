-- What a change makes of a record.
use Rattle.std.specs.Prelude.{if◌then◌else◌}
use Rattle.ipam_pool.specs.Shape.{ReservationValue}
use Rattle.ipam_model.specs.Admin.{Changed, Becomes, Refuses, is_named}
use Rattle.ipam_release.specs.declared.change.Change.{Change}
use Rattle.ipam_release.specs.declared.change.Change.TheVariants as change

-- a change as plain data
abbrev pub changed_to : Change → Changed
changed_to (change.Becomes new) = Becomes new
changed_to (change.Refuses number name) = Refuses number name

-- the new reservation, where the other has its name
abbrev pub reservation_in : ReservationValue → ReservationValue → ReservationValue
reservation_in new other = if is_named new.name other then new else other
