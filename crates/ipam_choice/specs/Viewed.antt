-- What is asked and seen, as the specification has it.
use Rattle.std.specs.Prelude.{◌≡◌, List}
use Rattle.ipam_addr.specs.Shape.{AddrValue}
use Rattle.ipam_pool.specs.Shape.{ReservationValue}
use Rattle.ipam_pool.specs.Spans.{ReservedValue, is_reserved_by}
use Rattle.ipam_pool.specs.Union.{is_in_union}
use Rattle.ipam_records.specs.Listing.{rows_of}
use Rattle.ipam_model.specs.Usable.{Asked}
use Rattle.ipam_model.specs.Choice.{Seen}
use Rattle.ipam_choice.specs.declared.view.Wanted.{Wanted}
use Rattle.ipam_choice.specs.declared.view.View.{View}

-- what is asked
abbrev pub asked_of : Wanted → Asked
asked_of wanted = record {
  node = wanted.node.now;
  family = wanted.family;
  names = wanted.names.now;
  labels = wanted.labels.now;
  one_address = wanted.one_address;
}

-- what is seen, with these reservations
abbrev pub seen_of : View → List ReservationValue → Seen
seen_of view reservations = record {
  config = view.config;
  pools = view.pools.now;
  reservations = reservations;
  affinities = rows_of view.affinities;
  blocks = rows_of view.blocks;
}

-- the set is that of all addresses that the reservations hold
abbrev pub IsSetOf : List ReservationValue → ReservedValue → Type 0
IsSetOf reservations reserved = (a : AddrValue) → is_reserved_by reserved a ≡ is_in_union reservations a
