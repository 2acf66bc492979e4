-- Requests that come to a limit.
use Rattle.std.specs.Prelude.{◌≡◌, ℕ, ◌-◌, ◌^◌, zero, suc, List, [], ◌∷◌, ◌++◌, Option, Some, None, codes}
use Rattle.ipam_block.specs.declared.state.State.TheVariants.{Confirmed}
use Rattle.ipam_records.specs.declared.key.Key.TheVariants as key
use Rattle.ipam_model.specs.declared.answer.Answer.{Answer}
use Rattle.ipam_model.specs.declared.answer.Answer.TheVariants as answer
use Rattle.ipam_model.specs.declared.entry.CallName.TheVariants as name
use Rattle.ipam_model.specs.declared.entry.Entry.{Entry}
use Rattle.ipam_model.specs.declared.entry.Entry.TheVariants as entry
use Rattle.ipam_model.specs.declared.entry.Told.TheVariants as told
use Rattle.ipam_model.specs.declared.request.Request.TheVariants.{Del, Release}
use Rattle.ipam_model.specs.Course.{Event, Begin, Turn, Stop, Worn}
use Rattle.ipam_model.specs.declared.entry.Fate.TheVariants.{Well}
use Rattle.ipam_model.specs.History.{Base}
use Rattle.ipam_plain.specs.Setting.{v4, slot0, pool_row, ready_rows, ready_base, bare_base, base_of, block_record, affinity_of, handle_of, queue4, add, add_this, turns, did, updated, get_handle, created, five_reads, goes, stops, run, excerpt}

-- ---- the last revision

-- The counter is one below the last revision, which the handle takes, so none is left for the block.
abbrev pub RevisionsSpent : Type 0
RevisionsSpent = goes (base_of ready_rows 4611686018427387903)
    (Begin 0 (add (codes "n.c1") (codes "a")) ∷ turns 0 8)
    (entry.Began 0 (add (codes "n.c1") (codes "a"))
    ∷ five_reads 0 1 1
    ++ get_handle 0 (codes "n.c1") told.Missing
    ∷ created 0 (key.Handle (codes "n.c1")) 4611686018427387904 (handle_of (codes "n.c1") slot0 1) None
    ∷ did 0 (name.Update (key.Block slot0) 3) told.Spent None (Some answer.Spent)
    ∷ [])

-- ---- 64 lost races

-- The ADD of slot 0 has read and raised its count. Slot 1 takes an address of the block, or gives it
-- back, and then slot 0's write of the block is lost.
abbrev pub lost_to_add : List Event
lost_to_add = turns 0 7 ++ Begin 1 (add_this (codes "n.x") (codes "a") (v4 3)) ∷ turns 1 6 ++ turns 0 1

abbrev pub lost_to_del : List Event
lost_to_del = turns 0 7 ++ Begin 1 (Del (codes "n.x")) ∷ turns 1 5 ++ turns 0 1

-- it lowers its count
abbrev pub lowers : List Event
lowers = turns 0 2

-- so many times two rounds
unfoldable pub lost_rounds : (pairs : ℕ) → List Event
lost_rounds zero = []
lost_rounds (suc pairs) = lost_to_add ++ lowers ++ lost_to_del ++ lowers ++ lost_rounds pairs

abbrev pub lost_update : (seen current : ℕ) → Option Answer → Entry
lost_update seen current answer =
    did 0 (name.Update (key.Block slot0) seen) (told.Conflict current) None answer

-- After the 63rd lost race another round begins, and the 64th ends the request in its entry.
abbrev pub SixtyFourLostRaces : Type 0
SixtyFourLostRaces =
    excerpt (1038 ∷ 1054 ∷ [])
    (run ready_base
    (Begin 0 (add (codes "n.c1") (codes "a")) ∷ lost_rounds 31 ++ lost_to_add ++ lowers ++ lost_to_del))
    ≡ record {
      entries =
          Some (lost_update 249 254 None)
          ∷ Some (lost_update 254 257 (Some (answer.Again 64 0)))
          ∷ [];
      count = 1055;
      refused = None;
    }

-- ---- 64 claims

-- the ADD claims the first slot
abbrev pub claims : List Event
claims = turns 0 9

-- the claim is released before the ADD looks again
abbrev pub released : List Event
released = Begin 1 (Release (codes "a") slot0) ∷ turns 1 6

unfoldable pub claim_rounds : (many : ℕ) → List Event
claim_rounds zero = []
claim_rounds (suc many) = claims ++ released ++ claim_rounds many

abbrev pub confirms : (seen revision : ℕ) → Option Answer → Entry
confirms seen revision answer =
    updated 0 (key.Affinity (codes "a") slot0) seen revision (affinity_of (codes "a") slot0 Confirmed) answer

-- After the 63rd claim another round begins, and the 64th ends the request in its entry.
abbrev pub SixtyFourClaims : Type 0
SixtyFourClaims =
    excerpt (1001 ∷ 1017 ∷ [])
    (run bare_base (Begin 0 (add (codes "n.c1") (codes "a")) ∷ claim_rounds 63 ++ claims))
    ≡ record {
      entries = Some (confirms 374 376 None) ∷ Some (confirms 380 382 (Some (answer.Again 0 64))) ∷ [];
      count = 1018;
      refused = None;
    }

-- ---- a claim, and 64 lost races

-- The races that are lost after a claim are as many.
abbrev pub ClaimAndLostRaces : Type 0
ClaimAndLostRaces =
    excerpt (1047 ∷ 1063 ∷ [])
    (run bare_base
    (Begin 0 (add (codes "n.c1") (codes "a")) ∷ claims ++ lost_rounds 31 ++ lost_to_add ++ lowers ++ lost_to_del))
    ≡ record {
      entries =
          Some (lost_update 250 255 None)
          ∷ Some (lost_update 255 258 (Some (answer.Again 64 1)))
          ∷ [];
      count = 1064;
      refused = None;
    }

-- ---- the highest count

abbrev pub highest_count : Base
highest_count = base_of
    (pool_row
    ∷ (3, block_record slot0 (Some (codes "a")) [] queue4 0)
    ∷ (2, affinity_of (codes "a") slot0 Confirmed)
    ∷ (4, handle_of (codes "n.c1") slot0 4294967295)
    ∷ []) 4

abbrev pub CountAtItsLimit : Type 0
CountAtItsLimit = goes highest_count
    (Begin 0 (add (codes "n.c1") (codes "a")) ∷ turns 0 6)
    (entry.Began 0 (add (codes "n.c1") (codes "a"))
    ∷ five_reads 0 1 1
    ++ did 0 (name.Get (key.Handle (codes "n.c1"))) (told.Found 4) None (Some (answer.CountFull 6))
    ∷ [])

-- ---- the last entry

-- a cluster that had so many entries before
abbrev pub begun_at : ℕ → Base
begun_at first = record ready_base { first = first }

abbrev pub WornAtFirst : Type 0
WornAtFirst = stops (begun_at (2 ^ 62)) (Begin 0 (add (codes "n.c1") (codes "a")) ∷ []) [] Worn

-- One entry is left. What it begins has no turn any more, and can be stopped.
abbrev pub WornAfterOne : Type 0
WornAfterOne = stops (begun_at (2 ^ 62 - 1))
    (Begin 0 (add (codes "n.c1") (codes "a")) ∷ Turn 0 Well ∷ [])
    (entry.Began 0 (add (codes "n.c1") (codes "a")) ∷ [])
    Worn

abbrev pub WornAndStopped : Type 0
WornAndStopped = goes (begun_at (2 ^ 62 - 1))
    (Begin 0 (add (codes "n.c1") (codes "a")) ∷ Stop 0 ∷ [])
    (entry.Began 0 (add (codes "n.c1") (codes "a")) ∷ entry.Stopped 0 ∷ [])
