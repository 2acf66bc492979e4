-- What a request does where there is no room for one more record. A datastore with as many rows is not
-- written down here: the replies are.
use Rattle.std.specs.Prelude.{◌≡◌, List, [], ◌∷◌, ◌++◌, Some, codes}
use Rattle.ipam_block.specs.declared.state.State.TheVariants.{Pending, Confirmed, PendingDeletion}
use Rattle.ipam_records.specs.declared.key.Key.TheVariants as key
use Rattle.ipam_records.specs.declared.key.Kind.TheVariants as kind
use Rattle.ipam_records.specs.Said.{Said, Found, Missing, Listed, Can, Full}
use Rattle.ipam_model.specs.declared.answer.Answer.TheVariants as answer
use Rattle.ipam_model.specs.declared.entry.CallName.{CallName}
use Rattle.ipam_model.specs.declared.entry.CallName.TheVariants as name
use Rattle.ipam_model.specs.declared.request.Request.{Request}
use Rattle.ipam_model.specs.declared.request.Request.TheVariants.{Release}
use Rattle.ipam_model.specs.Reads.{StoredRecord}
use Rattle.ipam_model.specs.Requests.{word_of}
use Rattle.ipam_plain.specs.Dialogue.{dialogue}
use Rattle.ipam_plain.specs.Families.{add_both, both_pools, slot6}
use Rattle.ipam_plain.specs.Setting.{v4, slot0, pool_row, block_record, affinity_of, handle_of, held, queue4, add, add_this}

-- with these replies the request makes these calls, and is answered Full
abbrev pub IsFull : Request → List Said → List CallName → Type 0
IsFull request replies calls =
    dialogue 1 replies (word_of request) ≡ record { calls = calls; answer = Some answer.Full }

abbrev pub found : StoredRecord → Said
found (revision, there) = Found revision there

abbrev pub five_names : List CallName
five_names =
    name.Get key.Config ∷ name.Get key.Pools ∷ name.Get key.Reservations
    ∷ name.List kind.Affinity ∷ name.List kind.Block ∷ []

-- the five replies of a round, where nothing but the pools is configured
abbrev pub five_replies : (pools : StoredRecord) (affinities blocks : List StoredRecord) → List Said
five_replies pools affinities blocks =
    Missing ∷ found pools ∷ Missing ∷ Listed affinities ∷ Listed blocks ∷ []

-- ---- an ADD

-- the handle can't be created
abbrev pub FullInARaise : Type 0
FullInARaise = IsFull (add (codes "n.c1") (codes "a"))
    (five_replies pool_row
    ((2, affinity_of (codes "a") slot0 Confirmed) ∷ [])
    ((3, block_record slot0 (Some (codes "a")) [] queue4 0) ∷ [])
    ++ Missing ∷ Full ∷ [])
    (five_names ++ name.Get (key.Handle (codes "n.c1")) ∷ name.Create (key.Handle (codes "n.c1")) ∷ [])

-- the affinity can't be created
abbrev pub FullInAClaim : Type 0
FullInAClaim = IsFull (add (codes "n.c1") (codes "a"))
    (five_replies pool_row [] [] ++ Missing ∷ Full ∷ [])
    (five_names ++ name.Get (key.Affinity (codes "a") slot0) ∷ name.Create (key.Affinity (codes "a") slot0) ∷ [])

-- the block can't be created
abbrev pub FullOfBlocks : Type 0
FullOfBlocks = IsFull (add_this (codes "n.c1") (codes "a") (v4 0))
    (Missing ∷ found pool_row ∷ Missing ∷ Missing ∷ Can 2 ∷ Full ∷ [])
    (name.Get key.Config ∷ name.Get key.Pools ∷ name.Get (key.Block slot0)
    ∷ name.Get (key.Affinity (codes "a") slot0) ∷ name.Create (key.Affinity (codes "a") slot0)
    ∷ name.Create (key.Block slot0) ∷ [])

-- The IPv6 block can't be created, so the IPv4 address is freed before the answer.
abbrev pub FullInTheSecondFamily : Type 0
FullInTheSecondFamily =
    let affinities = (2, affinity_of (codes "a") slot0 Confirmed) ∷ [] in
    let taken = block_record slot0 (Some (codes "a")) (held 0 (codes "n.c1") 1 ∷ []) (1 ∷ 2 ∷ 3 ∷ []) 1 in
    IsFull add_both
    (five_replies both_pools affinities ((3, block_record slot0 (Some (codes "a")) [] queue4 0) ∷ [])
    ++ Missing ∷ Can 4 ∷ Can 5
    ∷ five_replies both_pools affinities ((5, taken) ∷ [])
    ++ Missing ∷ Can 6 ∷ Full
    ∷ Found 5 taken ∷ Can 7 ∷ Found 4 (handle_of (codes "n.c1") slot0 1) ∷ Can 8 ∷ [])
    (five_names
    ++ name.Get (key.Handle (codes "n.c1")) ∷ name.Create (key.Handle (codes "n.c1"))
    ∷ name.Update (key.Block slot0) 3
    ∷ five_names
    ++ name.Get (key.Affinity (codes "a") slot6) ∷ name.Create (key.Affinity (codes "a") slot6)
    ∷ name.Create (key.Block slot6)
    ∷ name.Get (key.Block slot0) ∷ name.Update (key.Block slot0) 5
    ∷ name.Get (key.Handle (codes "n.c1")) ∷ name.Delete (key.Handle (codes "n.c1")) 4 ∷ [])

-- ---- a release

-- the bare block can't be created
abbrev pub FullInARelease : Type 0
FullInARelease = IsFull (Release (codes "a") slot0)
    (Found 2 (affinity_of (codes "a") slot0 Pending) ∷ Can 3 ∷ Missing
    ∷ Found 3 (affinity_of (codes "a") slot0 PendingDeletion) ∷ Full ∷ [])
    (name.Get (key.Affinity (codes "a") slot0) ∷ name.Update (key.Affinity (codes "a") slot0) 2
    ∷ name.Get (key.Block slot0) ∷ name.Get (key.Affinity (codes "a") slot0)
    ∷ name.Create (key.Block slot0) ∷ [])
