-- The counts of a handle that are higher than the addresses that it holds.
use Rattle.std.specs.Prelude.{ℕ, nat_lt, List, [], Option, Some, None, if◌then◌else◌}
use Rattle.std.specs.List.{filter_map}
use Rattle.ipam_addr.specs.Shape.{CidrValue}
use Rattle.ipam_records.specs.declared.call.Call.TheVariants.{Get}
use Rattle.ipam_records.specs.declared.key.Key.TheVariants as key
use Rattle.ipam_records.specs.declared.record.Record.TheVariants as record_of
use Rattle.ipam_records.specs.Datastore.{Datastore, reply_of}
use Rattle.ipam_records.specs.Said.{Said, Found}
use Rattle.ipam_model.specs.CountLaw.{held_count}
use Rattle.ipam_views.specs.declared.high_counts.HighCount.{HighCount}

-- the blocks with a count, and their counts
abbrev pub counts_said : Said → List (CidrValue × ℕ)
counts_said (Found revision (record_of.Handle handle)) = handle.counts
counts_said _ = []

-- the count of a block, where the handle holds fewer addresses of the block
abbrev pub high_at : Datastore → (handle : List ℕ) → CidrValue × ℕ → Option HighCount
high_at store handle (block, count) =
    if nat_lt (held_count store handle block) count
    then Some (record { block = block; count = count; in_use = held_count store handle block })
    else None

abbrev pub high_among : Datastore → (handle : List ℕ) → List (CidrValue × ℕ) → List HighCount
high_among store handle = filter_map (high_at store handle)

-- by the family, base and prefix of their blocks
abbrev pub high_counts : (handle : List ℕ) → Datastore → List HighCount
high_counts handle store = high_among store handle (counts_said (reply_of store (Get (key.Handle handle))))
