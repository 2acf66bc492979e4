-- Which address an ADD takes, by what it has read.
use Rattle.std.specs.Prelude.{◌≡◌, ℕ, zero, suc, ◌+◌, ◌<◌, ◌≤◌, ◌⊎◌, Bool, true, false, ◌&&◌, ◌||◌, ◌==◌, nat_lt, IsTrue, List, [], ◌∷◌, Option, Some, None, MatchOption, is_some, slice_get, bytes_eq, if◌then◌else◌}
use Rattle.std.specs.List.{list_any, find, count_by}
use Rattle.ipam_addr.specs.Shape.{AddrValue, CidrValue}
use Rattle.ipam_addr.specs.Width.{cidr_size}
use Rattle.ipam_addr.specs.Holding.{is_same_family}
use Rattle.ipam_addr.specs.Slots.{last_slot_of, slot_of}
use Rattle.ipam_pool.specs.declared.pools.Pool.{Pool}
use Rattle.ipam_pool.specs.Shape.{ReservationValue}
use Rattle.ipam_pool.specs.Union.{is_in_union}
use Rattle.ipam_block.specs.Shape as block
use Rattle.ipam_block.specs.Operations.{ordinal_address, room}
use Rattle.ipam_block.specs.declared.state.State.{State}
use Rattle.ipam_block.specs.declared.state.State.TheVariants.{Confirmed}
use Rattle.ipam_record_text.specs.declared.config.Config.{Config}
use Rattle.ipam_records.specs.declared.record.Record.TheVariants as record_of
use Rattle.ipam_model.specs.declared.choice.Choice.{Choice}
use Rattle.ipam_model.specs.declared.choice.Choice.TheVariants.{Use, Claim, Borrow, Nothing, NoPool}
use Rattle.ipam_model.specs.Reads.{StoredRecord}
use Rattle.ipam_model.specs.Usable.{Asked, is_same_cidr, is_usable, unknown_name}
use Rattle.ipam_records.specs.BlockLists.{is_node}

-- what was read: the configuration, the pools and the reservations, and the rows of the affinities
-- and of the blocks
pub record Seen : Type 0 where
  pub config : Config
  pub pools : List Pool
  pub reservations : List ReservationValue
  pub affinities : List StoredRecord
  pub blocks : List StoredRecord

-- ---- what the rows say

abbrev pub is_confirmed_state : State → Bool
is_confirmed_state Confirmed = true
is_confirmed_state _ = false

-- whether the row is a confirmed affinity of the node for the block
abbrev pub is_confirmed_for : List ℕ → CidrValue → StoredRecord → Bool
is_confirmed_for node cidr (revision, record_of.Affinity a) =
    bytes_eq a.node node && is_same_cidr a.cidr cidr && is_confirmed_state a.state
is_confirmed_for node cidr _ = false

abbrev pub is_block_at : CidrValue → StoredRecord → Bool
is_block_at cidr (revision, record_of.Block b) = is_same_cidr b.cidr cidr
is_block_at cidr _ = false

abbrev pub block_of_row : StoredRecord → Option (ℕ × block.BlockValue)
block_of_row (revision, record_of.Block b) = Some (revision, b)
block_of_row _ = None

abbrev pub block_in_found : Option StoredRecord → Option (ℕ × block.BlockValue)
block_in_found None = None
block_in_found (Some row) = block_of_row row

-- the block of the slot, with its revision, where there is one
abbrev pub block_at : Seen → CidrValue → Option (ℕ × block.BlockValue)
block_at seen cidr = block_in_found (find (is_block_at cidr) seen.blocks)

-- whether the row is a block of the node in the family
abbrev pub is_block_of : Asked → StoredRecord → Bool
is_block_of asked (revision, record_of.Block b) =
    is_node asked.node b.node && is_same_family asked.family b.cidr.family
is_block_of asked _ = false

abbrev pub is_reserved : Seen → AddrValue → Bool
is_reserved seen = is_in_union seen.reservations

abbrev pub is_unowned_and_empty : block.BlockValue → Bool
is_unowned_and_empty b = nobody b.node && nothing b.allocations
  where
    nobody : Option (List ℕ) → Bool
    nobody None = true
    nobody (Some node) = false

    nothing : {A : Type 0} → List A → Bool
    nothing [] = true
    nothing (x ∷ xs) = false

-- what a node may do with a free address of a block
pub data Share : Type 0 where
  -- it may take it: the block is its own, or affinity is not strict and the block another's
  Takes : Share
  -- the block is nobody's and empty, so it claims the block first
  Claims : Share
  -- the block is another's, and affinity is strict
  Leaves : Share

abbrev pub share_of : (strict : Bool) → (node : List ℕ) → block.BlockValue → Share
share_of strict node b =
    if is_node node b.node then Takes
    else (if is_unowned_and_empty b then Claims else (if strict then Leaves else Takes))

abbrev pub by_share : {A : Type 0} → Share → (takes claims leaves : A) → A
by_share Takes takes claims leaves = takes
by_share Claims takes claims leaves = claims
by_share Leaves takes claims leaves = leaves

-- ---- the rank of a slot, where it is a candidate

-- whether the node may claim one more block of the family
abbrev pub may_claim : Asked → Seen → Bool
may_claim asked seen =
    seen.config.auto
    && ((seen.config.max_blocks == 0) || nat_lt (count_by (is_block_of asked) seen.blocks) seen.config.max_blocks)

abbrev pub room_of : Seen → block.BlockValue → Option ℕ
room_of seen b = room (is_reserved seen) b

-- what is found at the first number from `from` on, of so many, at which something is, with the number
unfoldable pub first_found : {A : Type 0} → (ℕ → Option A) → (many from : ℕ) → Option (ℕ × A)
first_found finds zero from = None
first_found finds (suc many) from =
    elim (finds from) [ Some found ↦ Some (from, found) | None ↦ first_found finds many (from + 1) ]

-- the address of this ordinal, where it is not reserved
abbrev pub free_address : Seen → CidrValue → (ordinal : ℕ) → Option AddrValue
free_address seen cidr ordinal =
    if is_reserved seen (ordinal_address cidr ordinal) then None else Some (ordinal_address cidr ordinal)

-- whether some address of the slot is not reserved
abbrev pub has_free_address : Seen → CidrValue → Bool
has_free_address seen cidr = is_some (first_found (free_address seen cidr) (cidr_size cidr) 0)

-- what makes a slot a candidate, with the block that was listed there
pub data Rank : Type 0 where
  -- a block of the node whose affinity is confirmed, with room at this ordinal
  Own : ℕ × block.BlockValue → (ordinal : ℕ) → Rank
  -- a block of the node whose affinity is missing or not confirmed, with room
  Unconfirmed : ℕ × block.BlockValue → Rank
  -- a slot without a block that has an unreserved address, or an empty block without affinity that
  -- has room, where one more block may be claimed
  Unclaimed : Option (ℕ × block.BlockValue) → Rank
  -- any other block with room at this ordinal, where affinity is not strict
  Foreign : ℕ × block.BlockValue → (ordinal : ℕ) → Rank

abbrev pub rank_number : Rank → ℕ
rank_number (Own found ordinal) = 0
rank_number (Unconfirmed found) = 1
rank_number (Unclaimed read) = 2
rank_number (Foreign found ordinal) = 3

-- the rank of a block, by its room
abbrev pub rank_of_block : Asked → Seen → ℕ × block.BlockValue → (room : Option ℕ) → Option Rank
rank_of_block asked seen found None = None
rank_of_block asked seen found (Some ordinal) =
    if is_node asked.node found.1.node
    then (if list_any (is_confirmed_for asked.node found.1.cidr) seen.affinities then Some (Own found ordinal) else Some (Unconfirmed found))
    else (if is_unowned_and_empty found.1 && may_claim asked seen then Some (Unclaimed (Some found))
    else (if seen.config.strict then None else Some (Foreign found ordinal)))

abbrev pub rank_at : Asked → Seen → CidrValue → Option (ℕ × block.BlockValue) → Option Rank
rank_at asked seen cidr (Some found) = rank_of_block asked seen found (room_of seen found.1)
rank_at asked seen cidr None =
    if may_claim asked seen && has_free_address seen cidr then Some (Unclaimed None) else None

abbrev pub rank_of : Asked → Seen → CidrValue → Option Rank
rank_of asked seen cidr = rank_at asked seen cidr (block_at seen cidr)

-- a slot with its rank
pub record Ranked : Type 0 where
  pub slot : CidrValue
  pub rank : Rank

-- what is done there
abbrev pub choice_at : CidrValue → Rank → Choice
choice_at slot (Own found ordinal) = Use slot ordinal
choice_at slot (Unconfirmed found) = Claim slot
choice_at slot (Unclaimed read) = Claim slot
choice_at slot (Foreign found ordinal) = Borrow slot ordinal

abbrev pub chosen : Ranked → Choice
chosen ranked = choice_at ranked.slot ranked.rank

-- ---- the choice as a relation

-- a ranked slot, by the place of its pool and its number in that
pub record Candidate : Type 0 where
  pub ranked : Ranked
  pub place : ℕ
  pub number : ℕ

-- the slot of this number of the pool at this place among the pools has this rank
pub record IsCandidateOf (asked : Asked) (seen : Seen) (pools : List Pool) (c : Candidate) : Type 0 where
  pub pool : Pool
  pub at_place : slice_get pools c.place ≡ Some pool
  pub usable : IsTrue (is_usable asked pool)
  pub within : c.number ≤ last_slot_of pool.cidr pool.size
  pub is_slot : c.ranked.slot ≡ slot_of pool.cidr pool.size c.number
  pub has_rank : rank_of asked seen c.ranked.slot ≡ Some c.ranked.rank

abbrev pub IsCandidate : Asked → Seen → Candidate → Type 0
IsCandidate asked seen = IsCandidateOf asked seen seen.pools

abbrev pub rank_in : Candidate → ℕ
rank_in c = rank_number c.ranked.rank

-- by rank, then by the place of the pool, then by the number of the slot
pub data IsNotBehind (c other : Candidate) : Type 0 where
  by_rank : rank_in c < rank_in other → IsNotBehind c other
  by_place : rank_in c ≡ rank_in other → c.place < other.place → IsNotBehind c other
  by_number : rank_in c ≡ rank_in other → c.place ≡ other.place → c.number ≤ other.number → IsNotBehind c other

-- the candidate that no other comes before
pub record FirstCandidate (asked : Asked) (seen : Seen) : Type 0 where
  pub best : Candidate
  pub candidate : IsCandidate asked seen best
  pub first : (other : Candidate) → IsCandidate asked seen other → IsNotBehind best other

abbrev pub HasNoCandidate : Asked → Seen → Type 0
HasNoCandidate asked seen = (c : Candidate) → ¬ (IsCandidate asked seen c)

-- nothing where there is no candidate, else what is done at the first one
abbrev pub IsBest : Asked → Seen → Choice → Type 0
IsBest asked seen choice =
    (HasNoCandidate asked seen × (choice ≡ Nothing))
    ⊎ ((c : FirstCandidate asked seen) × (choice ≡ chosen c.best.ranked))

-- the first name that no pool has, else the best choice
abbrev pub IsChoice : Asked → Seen → Choice → Type 0
IsChoice asked seen choice =
    MatchOption (unknown_name asked seen.pools) (IsBest asked seen choice) (λ place. choice ≡ NoPool place)

-- ---- the choice as a function

-- the slot, where its rank has this number
abbrev pub if_rank : (number : ℕ) → CidrValue → Option Rank → Option Ranked
if_rank number slot None = None
if_rank number slot (Some rank) =
    if rank_number rank == number then Some (record { slot = slot; rank = rank }) else None

abbrev pub ranked_at : Asked → Seen → (number : ℕ) → CidrValue → Option Ranked
ranked_at asked seen number slot = if_rank number slot (rank_of asked seen slot)

-- the first slot of the pool whose rank has this number
abbrev pub first_slot_in : Asked → Seen → (number : ℕ) → Pool → Option (ℕ × Ranked)
first_slot_in asked seen number pool =
    first_found (λ k. ranked_at asked seen number (slot_of pool.cidr pool.size k))
    (last_slot_of pool.cidr pool.size + 1) 0

-- the first such slot of the pools
unfoldable pub first_slot : Asked → Seen → (number : ℕ) → List Pool → Option Ranked
first_slot asked seen number [] = None
first_slot asked seen number (pool ∷ pools) =
    elim (is_usable asked pool) [
      | true ↦ elim (first_slot_in asked seen number pool) [
        | Some found ↦ Some found.1
        | None ↦ first_slot asked seen number pools
      ]
      | false ↦ first_slot asked seen number pools
    ]

-- what a request takes: nothing where a name is of no pool or where there is no candidate, else a slot
pub data Pick : Type 0 where
  Unknown : (place : ℕ) → Pick
  Lacks : Pick
  Picks : Ranked → Pick

-- the first slot of the first of these ranks that has one
unfoldable pub best_of_ranks : Asked → Seen → (numbers : List ℕ) → Pick
best_of_ranks asked seen [] = Lacks
best_of_ranks asked seen (number ∷ numbers) =
    elim (first_slot asked seen number seen.pools) [
      | Some ranked ↦ Picks ranked
      | None ↦ best_of_ranks asked seen numbers
    ]

abbrev pub pick_unless : Asked → Seen → Option ℕ → Pick
pick_unless asked seen (Some place) = Unknown place
pick_unless asked seen None = best_of_ranks asked seen (0 ∷ 1 ∷ 2 ∷ 3 ∷ [])

unfoldable pub pick_of : Asked → Seen → Pick
pick_of asked seen = pick_unless asked seen (unknown_name asked seen.pools)

abbrev pub choice_in : Pick → Choice
choice_in (Unknown place) = NoPool place
choice_in Lacks = Nothing
choice_in (Picks ranked) = chosen ranked

abbrev pub choice_of : Asked → Seen → Choice
choice_of asked seen = choice_in (pick_of asked seen)
