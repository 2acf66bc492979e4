-- What holds of no row, and of a row of each kind of record, holds of whatever row is found.
use Rattle.std.proofs.Common.{ℕ, List, Option, Some, None}
use Rattle.ipam_block.specs.declared.record.Affinity.{Affinity}
use Rattle.ipam_block.specs.Shape.{BlockValue}
use Rattle.ipam_block.specs.HandleShape.{HandleValue}
use Rattle.ipam_pool.specs.declared.pools.Pool.{Pool}
use Rattle.ipam_record_text.specs.declared.config.Config.{Config}
use Rattle.ipam_pool.specs.Shape.{ReservationValue}
use Rattle.ipam_records.specs.declared.record.Record.{Record}
use Rattle.ipam_records.specs.declared.record.Record.TheVariants as record_of

pub each-kind : (P : Option (ℕ × Record) → Type 0) → P None
    → ((revision : ℕ) (config : Config) → P (Some (revision, record_of.Config config)))
    → ((revision : ℕ) (pools : List Pool) → P (Some (revision, record_of.Pools pools)))
    → ((revision : ℕ) (reservations : List ReservationValue) → P (Some (revision, record_of.Reservations reservations)))
    → ((revision : ℕ) (b : BlockValue) → P (Some (revision, record_of.Block b)))
    → ((revision : ℕ) (a : Affinity) → P (Some (revision, record_of.Affinity a)))
    → ((revision : ℕ) (h : HandleValue) → P (Some (revision, record_of.Handle h)))
    → (o : Option (ℕ × Record)) → P o
each-kind P none configs pools reservations blocks affinities handles None = none
each-kind P none configs pools reservations blocks affinities handles (Some (revision, record_of.Config config)) = configs revision config
each-kind P none configs pools reservations blocks affinities handles (Some (revision, record_of.Pools list)) = pools revision list
each-kind P none configs pools reservations blocks affinities handles (Some (revision, record_of.Reservations list)) = reservations revision list
each-kind P none configs pools reservations blocks affinities handles (Some (revision, record_of.Block b)) = blocks revision b
each-kind P none configs pools reservations blocks affinities handles (Some (revision, record_of.Affinity a)) = affinities revision a
each-kind P none configs pools reservations blocks affinities handles (Some (revision, record_of.Handle h)) = handles revision h
