-- Which list a key belongs to.
use Rattle.ipam_records.specs.declared.key.Key.{Key}
use Rattle.ipam_records.specs.declared.key.Key.TheVariants as key
use Rattle.ipam_store.specs.declared.shelf.Shelf.{Shelf}
use Rattle.ipam_store.specs.declared.shelf.Shelf.TheVariants.{Singles, Blocks, Affinities, Handles}

abbrev pub shelf_of : Key → Shelf
shelf_of key.Config = Singles
shelf_of key.Pools = Singles
shelf_of key.Reservations = Singles
shelf_of (key.Block cidr) = Blocks
shelf_of (key.Affinity node cidr) = Affinities
shelf_of (key.Handle id) = Handles
