-- CHECKs where n.c1 holds the first address.
use Rattle.std.specs.Prelude.{true, List, [], ◌∷◌, Some, None, codes}
use Rattle.ipam_records.specs.declared.key.Key.TheVariants as key
use Rattle.ipam_records.specs.declared.record.Record.TheVariants as record_of
use Rattle.ipam_model.specs.declared.answer.Answer.{Answer}
use Rattle.ipam_model.specs.declared.answer.Answer.TheVariants as answer
use Rattle.ipam_model.specs.declared.entry.CallName.{CallName}
use Rattle.ipam_model.specs.declared.entry.CallName.TheVariants as name
use Rattle.ipam_model.specs.declared.entry.Entry.{Entry}
use Rattle.ipam_model.specs.declared.entry.Entry.TheVariants as entry
use Rattle.ipam_model.specs.declared.entry.Told.{Told}
use Rattle.ipam_model.specs.declared.entry.Told.TheVariants as told
use Rattle.ipam_model.specs.declared.request.Request.TheVariants.{Check}
use Rattle.ipam_model.specs.Course.{Begin}
use Rattle.ipam_model.specs.History.{Base}
use Rattle.ipam_plain.specs.Setting.{v4, v4_range, slot0, pool, held_base, base_of, block_record, handle_of, held, turns, did, did_read, get_block, goes}

abbrev pub get_pools : Entry
get_pools = did_read 0 (name.Get key.Pools) (told.Found 1)

-- the last read, with the answer
abbrev pub ends_with : CallName → Told → Answer → List Entry
ends_with asked reply answer = did 0 asked reply None (Some answer) ∷ []

abbrev pub Recorded : Type 0
Recorded = goes held_base
    (Begin 0 (Check (codes "n.c1") (v4 0 ∷ [])) ∷ turns 0 2)
    (entry.Began 0 (Check (codes "n.c1") (v4 0 ∷ []))
    ∷ get_pools
    ∷ ends_with (name.Get (key.Block slot0)) (told.Found 3) answer.Checked)

abbrev pub RecordedToAnother : Type 0
RecordedToAnother = goes held_base
    (Begin 0 (Check (codes "n.c2") (v4 0 ∷ [])) ∷ turns 0 2)
    (entry.Began 0 (Check (codes "n.c2") (v4 0 ∷ []))
    ∷ get_pools
    ∷ ends_with (name.Get (key.Block slot0)) (told.Found 3) (answer.NotRecorded (v4 0) 2))

-- the first that the handle does not hold
abbrev pub SecondNotRecorded : Type 0
SecondNotRecorded = goes held_base
    (Begin 0 (Check (codes "n.c1") (v4 0 ∷ v4 1 ∷ v4 2 ∷ [])) ∷ turns 0 3)
    (entry.Began 0 (Check (codes "n.c1") (v4 0 ∷ v4 1 ∷ v4 2 ∷ []))
    ∷ get_pools
    ∷ get_block 0 slot0 (told.Found 3)
    ∷ ends_with (name.Get (key.Block slot0)) (told.Found 3) (answer.NotRecorded (v4 1) 3))

-- the answer for an address that lies in no pool has the moment at which the pools were
-- read
abbrev pub InNoPool : Type 0
InNoPool = goes held_base
    (Begin 0 (Check (codes "n.c1") (v4 8 ∷ [])) ∷ turns 0 1)
    (entry.Began 0 (Check (codes "n.c1") (v4 8 ∷ []))
    ∷ ends_with (name.Get key.Pools) (told.Found 1) (answer.NotRecorded (v4 8) 1))

-- an address that lies in no pool, after one that is held
abbrev pub SecondInNoPool : Type 0
SecondInNoPool = goes held_base
    (Begin 0 (Check (codes "n.c1") (v4 0 ∷ v4 8 ∷ [])) ∷ turns 0 2)
    (entry.Began 0 (Check (codes "n.c1") (v4 0 ∷ v4 8 ∷ []))
    ∷ get_pools
    ∷ ends_with (name.Get (key.Block slot0)) (told.Found 3) (answer.NotRecorded (v4 8) 1))

abbrev pub disabled_base : Base
disabled_base = base_of
    ((1, record_of.Pools (record (pool (codes "p") (v4_range 0 29) 30) { disabled = true } ∷ []))
    ∷ (3, block_record slot0 None (held 0 (codes "n.c1") 1 ∷ []) (1 ∷ 2 ∷ 3 ∷ []) 1)
    ∷ (4, handle_of (codes "n.c1") slot0 1)
    ∷ []) 4

abbrev pub InDisabledPool : Type 0
InDisabledPool = goes disabled_base
    (Begin 0 (Check (codes "n.c1") (v4 0 ∷ [])) ∷ turns 0 2)
    (entry.Began 0 (Check (codes "n.c1") (v4 0 ∷ []))
    ∷ get_pools
    ∷ ends_with (name.Get (key.Block slot0)) (told.Found 3) answer.Checked)
