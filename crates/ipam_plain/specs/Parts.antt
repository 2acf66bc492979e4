-- What the freeing of one address and a claim answer, where they are procedures of their own.
use Rattle.std.specs.Prelude.{◌≡◌, ℕ, zero, suc, List, [], ◌∷◌, ◌++◌, Some, None, codes}
use Rattle.ipam_block.specs.declared.state.State.TheVariants.{Pending, Confirmed, PendingDeletion}
use Rattle.ipam_records.specs.declared.key.Key.TheVariants as key
use Rattle.ipam_records.specs.Said.{Said, Found, Missing, Can, Exists, Conflict, Full, Spent}
use Rattle.ipam_model.specs.declared.entry.CallName.{CallName}
use Rattle.ipam_model.specs.declared.entry.CallName.TheVariants as name
use Rattle.ipam_model.specs.declared.outcome.ClaimAnswer.{ClaimAnswer}
use Rattle.ipam_model.specs.declared.outcome.ClaimAnswer.TheVariants as claimed
use Rattle.ipam_model.specs.declared.outcome.FreeAnswer.{FreeAnswer}
use Rattle.ipam_model.specs.declared.outcome.FreeAnswer.TheVariants as freed
use Rattle.ipam_model.specs.Affinities.{claim}
use Rattle.ipam_model.specs.Owners.{Owner}
use Rattle.ipam_model.specs.Remove.{free_word}
use Rattle.ipam_plain.specs.Dialogue.{dialogue}
use Rattle.ipam_plain.specs.Setting.{v4, slot0, block_record, affinity_of, handle_of, held}

-- ---- freeing

abbrev pub owner : (stamp : ℕ) → Owner
owner stamp = record { address = v4 0; handle = codes "n.c1"; stamp = stamp }

-- the block in which n.c1 holds the first address with the stamp 1
abbrev pub read : (revision : ℕ) → Said
read revision = Found revision (block_record slot0 (Some (codes "a")) (held 0 (codes "n.c1") 1 ∷ []) (1 ∷ 2 ∷ 3 ∷ []) 1)

abbrev pub Frees : (stamp : ℕ) → List Said → List CallName → FreeAnswer → Type 0
Frees stamp replies calls told = dialogue 0 replies (free_word (owner stamp) slot0) ≡ record { calls = calls; answer = Some told }

abbrev pub get_block : CallName
get_block = name.Get (key.Block slot0)

-- the count is lowered to nothing
abbrev pub Freed : Type 0
Freed = Frees 1
    (read 3 ∷ Can 5 ∷ Found 4 (handle_of (codes "n.c1") slot0 1) ∷ Can 6 ∷ [])
    (get_block ∷ name.Update (key.Block slot0) 3 ∷ name.Get (key.Handle (codes "n.c1"))
    ∷ name.Delete (key.Handle (codes "n.c1")) 4 ∷ [])
    freed.Freed

-- the handle holds the address, but with another stamp
abbrev pub GoneByStamp : Type 0
GoneByStamp = Frees 2 (read 3 ∷ []) (get_block ∷ []) freed.Gone

abbrev pub GoneWithTheBlock : Type 0
GoneWithTheBlock = Frees 1 (Missing ∷ []) (get_block ∷ []) freed.Gone

abbrev pub NoRevisionToFree : Type 0
NoRevisionToFree = Frees 1 (read 3 ∷ Spent ∷ []) (get_block ∷ name.Update (key.Block slot0) 3 ∷ []) freed.Spent

-- so many tries whose write is lost
unfoldable pub lost_tries : (many : ℕ) → List Said
lost_tries zero = []
lost_tries (suc many) = read 3 ∷ Conflict 4 ∷ lost_tries many

unfoldable pub tried : (many : ℕ) → List CallName
tried zero = []
tried (suc many) = get_block ∷ name.Update (key.Block slot0) 3 ∷ tried many

-- the 64th lost race ends it, and not the 63rd
abbrev pub EveryTryLost : Type 0
EveryTryLost = Frees 1 (lost_tries 64) (tried 64) (freed.Again 64)

abbrev pub LastTryDone : Type 0
LastTryDone = Frees 1
    (lost_tries 63 ++ read 3 ∷ Can 5 ∷ Found 4 (handle_of (codes "n.c1") slot0 2) ∷ Can 6 ∷ [])
    (tried 63
    ++ get_block ∷ name.Update (key.Block slot0) 3 ∷ name.Get (key.Handle (codes "n.c1"))
    ∷ name.Update (key.Handle (codes "n.c1")) 4 ∷ [])
    freed.Freed

-- ---- a claim

-- the claim of the first slot, which had no block
abbrev pub Claims : List Said → List CallName → ClaimAnswer → Type 0
Claims replies calls told = dialogue 0 replies (claim (codes "a") slot0 None) ≡ record { calls = calls; answer = Some told }

abbrev pub get_affinity : CallName
get_affinity = name.Get (key.Affinity (codes "a") slot0)

abbrev pub create_affinity : CallName
create_affinity = name.Create (key.Affinity (codes "a") slot0)

abbrev pub confirm : CallName
confirm = name.Update (key.Affinity (codes "a") slot0) 2

abbrev pub Confirms : Type 0
Confirms = Claims (Missing ∷ Can 2 ∷ Can 3 ∷ Can 4 ∷ [])
    (get_affinity ∷ create_affinity ∷ name.Create (key.Block slot0) ∷ confirm ∷ [])
    claimed.Confirmed

-- a race is lost at each of the three writes
abbrev pub LostAtTheAffinity : Type 0
LostAtTheAffinity = Claims (Missing ∷ Exists 2 ∷ []) (get_affinity ∷ create_affinity ∷ []) claimed.Lost

abbrev pub LostAtTheBlock : Type 0
LostAtTheBlock = Claims (Missing ∷ Can 2 ∷ Exists 3 ∷ [])
    (get_affinity ∷ create_affinity ∷ name.Create (key.Block slot0) ∷ []) claimed.Lost

abbrev pub LostAtTheEnd : Type 0
LostAtTheEnd = Claims (Missing ∷ Can 2 ∷ Can 3 ∷ Conflict 4 ∷ [])
    (get_affinity ∷ create_affinity ∷ name.Create (key.Block slot0) ∷ confirm ∷ []) claimed.Lost

-- an affinity that is to be deleted is taken back first, and that may be lost too
abbrev pub LostTakingBack : Type 0
LostTakingBack = Claims (Found 2 (affinity_of (codes "a") slot0 PendingDeletion) ∷ Missing ∷ [])
    (get_affinity ∷ confirm ∷ []) claimed.Lost

abbrev pub NoRoomForTheBlock : Type 0
NoRoomForTheBlock = Claims (Found 2 (affinity_of (codes "a") slot0 Pending) ∷ Full ∷ [])
    (get_affinity ∷ name.Create (key.Block slot0) ∷ []) claimed.Full

abbrev pub NoRevisionToConfirm : Type 0
NoRevisionToConfirm = Claims (Found 2 (affinity_of (codes "a") slot0 Confirmed) ∷ Can 3 ∷ Spent ∷ [])
    (get_affinity ∷ name.Create (key.Block slot0) ∷ confirm ∷ []) claimed.Spent
