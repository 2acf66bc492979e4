-- Changes by an operator.
use Rattle.std.specs.Prelude.{true, [], ◌∷◌, ◌++◌, Some, None, codes}
use Rattle.ipam_records.specs.declared.key.Key.TheVariants as key
use Rattle.ipam_records.specs.declared.key.Kind.TheVariants as kind
use Rattle.ipam_records.specs.declared.record.Record.TheVariants as record_of
use Rattle.ipam_pool.specs.Shape.{ReservationValue}
use Rattle.ipam_model.specs.declared.answer.Answer.TheVariants as answer
use Rattle.ipam_model.specs.declared.entry.CallName.TheVariants as name
use Rattle.ipam_model.specs.declared.entry.Entry.TheVariants as entry
use Rattle.ipam_model.specs.declared.entry.Told.TheVariants as told
use Rattle.ipam_model.specs.declared.request.Admin.TheVariants as change
use Rattle.ipam_model.specs.declared.request.Request.{Request}
use Rattle.ipam_model.specs.declared.request.Request.TheVariants.{Admin}
use Rattle.ipam_model.specs.Course.{Begin}
use Rattle.ipam_plain.specs.Setting.{v4, v4_range, slot0, slot1, pool, ready_base, block_record, handle_of, held, add, turns, did, did_read, get_handle, created, updated, given, goes}

abbrev pub two_reserved : ReservationValue
two_reserved = record { name = codes "r"; cidrs = v4_range 0 31 ∷ [] }

-- The first two addresses are reserved, and an ADD takes the third.
abbrev pub ReservationMade : Type 0
ReservationMade = goes ready_base
    (Begin 0 (Admin (change.Reserve two_reserved)) ∷ turns 0 2
    ++ Begin 0 (add (codes "n.c1") (codes "a")) ∷ turns 0 8)
    (entry.Began 0 (Admin (change.Reserve two_reserved))
    ∷ did_read 0 (name.Get key.Reservations) told.Missing
    ∷ created 0 key.Reservations 4 (record_of.Reservations (two_reserved ∷ [])) (Some (answer.Done 4))
    ∷ entry.Began 0 (add (codes "n.c1") (codes "a"))
    ∷ did_read 0 (name.Get key.Config) told.Missing
    ∷ did_read 0 (name.Get key.Pools) (told.Found 1)
    ∷ did_read 0 (name.Get key.Reservations) (told.Found 4)
    ∷ did_read 0 (name.List kind.Affinity) (told.Listed 1)
    ∷ did_read 0 (name.List kind.Block) (told.Listed 1)
    ∷ get_handle 0 (codes "n.c1") told.Missing
    ∷ created 0 (key.Handle (codes "n.c1")) 5 (handle_of (codes "n.c1") slot0 1) None
    ∷ updated 0 (key.Block slot0) 3 6
    (block_record slot0 (Some (codes "a")) (held 2 (codes "n.c1") 1 ∷ []) (0 ∷ 1 ∷ 3 ∷ []) 1)
    (Some (given (v4 2) 4 11))
    ∷ [])

abbrev pub overlapping : Request
overlapping = Admin (change.Pool (pool (codes "q") slot1 30))

-- a pool that shares addresses with another is refused with the other's name
abbrev pub PoolOverlaps : Type 0
PoolOverlaps = goes ready_base
    (Begin 0 overlapping ∷ turns 0 1)
    (entry.Began 0 overlapping
    ∷ did 0 (name.Get key.Pools) (told.Found 1) None (Some (answer.Refused 2 (codes "p")))
    ∷ [])

abbrev pub disabling : Request
disabling = Admin (change.Disable (codes "p") true)

abbrev pub PoolDisabled : Type 0
PoolDisabled = goes ready_base
    (Begin 0 disabling ∷ turns 0 2)
    (entry.Began 0 disabling
    ∷ did_read 0 (name.Get key.Pools) (told.Found 1)
    ∷ updated 0 key.Pools 1 4
    (record_of.Pools (record (pool (codes "p") (v4_range 0 29) 30) { disabled = true } ∷ []))
    (Some (answer.Done 4))
    ∷ [])

abbrev pub last_reserved : ReservationValue
last_reserved = record { name = codes "s"; cidrs = v4_range 7 32 ∷ [] }

-- a change whose write is lost is made again to what is there
abbrev pub ChangesRace : Type 0
ChangesRace = goes ready_base
    (Begin 0 (Admin (change.Reserve two_reserved)) ∷ turns 0 1
    ++ Begin 1 (Admin (change.Reserve last_reserved)) ∷ turns 1 2 ++ turns 0 3)
    (entry.Began 0 (Admin (change.Reserve two_reserved))
    ∷ did_read 0 (name.Get key.Reservations) told.Missing
    ∷ entry.Began 1 (Admin (change.Reserve last_reserved))
    ∷ did_read 1 (name.Get key.Reservations) told.Missing
    ∷ created 1 key.Reservations 4 (record_of.Reservations (last_reserved ∷ [])) (Some (answer.Done 4))
    ∷ did_read 0 (name.Create key.Reservations) (told.Exists 4)
    ∷ did_read 0 (name.Get key.Reservations) (told.Found 4)
    ∷ updated 0 key.Reservations 4 5 (record_of.Reservations (last_reserved ∷ two_reserved ∷ []))
    (Some (answer.Done 5))
    ∷ [])
