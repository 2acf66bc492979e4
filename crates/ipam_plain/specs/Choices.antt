-- What an ADD chooses in small cases.
use Rattle.std.specs.Prelude.{◌≡◌, ℕ, ◌+◌, ◌*◌, ◌^◌, true, false, List, [], ◌∷◌, Some, None, codes}
use Rattle.ipam_addr.specs.declared.address.Family.TheVariants.{V4, V6}
use Rattle.ipam_addr.specs.Shape.{CidrValue}
use Rattle.ipam_pool.specs.declared.pools.Mode.TheVariants.{Manual}
use Rattle.ipam_pool.specs.declared.pools.Pool.{Pool}
use Rattle.ipam_select.specs.Formula.{is}
use Rattle.ipam_block.specs.Operations.{fresh_block}
use Rattle.ipam_block.specs.declared.state.State.TheVariants.{Pending, Confirmed, PendingDeletion}
use Rattle.ipam_record_text.specs.declared.config.Config.{Config}
use Rattle.ipam_records.specs.declared.record.Record.TheVariants as record_of
use Rattle.ipam_model.specs.declared.choice.Choice.TheVariants.{Use, Claim, Borrow, Nothing, NoPool}
use Rattle.ipam_model.specs.Choice.{Seen, choice_of}
use Rattle.ipam_model.specs.Reads.{StoredRecord}
use Rattle.ipam_model.specs.Usable.{Asked, usable_pool_of}
use Rattle.ipam_plain.specs.Setting.{v4_range, v4, slot0, slot1, queue4, pool, held, block_record, affinity_of}

-- ---- what is asked and seen

abbrev pub a : List ℕ
a = codes "a"

abbrev pub b : List ℕ
b = codes "b"

-- the node a asks for an IPv4 address of any pool
abbrev pub anything : Asked
anything = record { node = a; family = V4; names = []; labels = []; one_address = false }

abbrev pub naming : List (List ℕ) → Asked
naming names = record anything { names = names }

-- a pool of two blocks of four addresses
abbrev pub two_slots : Pool
two_slots = pool (codes "p") (v4_range 0 29) 30

-- by default affinity is not strict, and blocks are allocated without a bound
abbrev pub defaults : Config
defaults = record { strict = false; auto = true; max_blocks = 0 }

abbrev pub strict : Config
strict = record defaults { strict = true }

abbrev pub bounded : Config
bounded = record defaults { max_blocks = 1 }

abbrev pub not_allocating : Config
not_allocating = record defaults { auto = false }

abbrev pub seen_in : List Pool → Config → (affinities blocks : List StoredRecord) → Seen
seen_in pools config affinities blocks = record {
  config = config;
  pools = pools;
  reservations = [];
  affinities = affinities;
  blocks = blocks;
}

abbrev pub seen : Config → (affinities blocks : List StoredRecord) → Seen
seen = seen_in (two_slots ∷ [])

abbrev pub reserving : List CidrValue → Seen → Seen
reserving cidrs all = record all { reservations = record { name = codes "r"; cidrs = cidrs } ∷ [] }

-- ---- rows

-- an empty block of a node
abbrev pub empty_of : CidrValue → List ℕ → StoredRecord
empty_of cidr node = (3, block_record cidr (Some node) [] queue4 0)

abbrev pub full_of : CidrValue → List ℕ → StoredRecord
full_of cidr node = (
  3,
  block_record cidr (Some node)
      (held 0 (codes "n.x") 1 ∷ held 1 (codes "n.x") 2 ∷ held 2 (codes "n.x") 3 ∷ held 3 (codes "n.x") 4 ∷ []) [] 4,
)

-- a block without affinity that is empty, or of which the first address is held
abbrev pub empty_bare : CidrValue → StoredRecord
empty_bare cidr = (3, block_record cidr None [] queue4 1)

abbrev pub held_bare : CidrValue → StoredRecord
held_bare cidr = (3, block_record cidr None (held 0 (codes "n.x") 1 ∷ []) (1 ∷ 2 ∷ 3 ∷ []) 2)

abbrev pub confirmed : CidrValue → List ℕ → StoredRecord
confirmed cidr node = (2, affinity_of node cidr Confirmed)

-- ---- by rank

abbrev pub OwnBlock : Type 0
OwnBlock = choice_of anything (seen defaults (confirmed slot0 a ∷ []) (empty_of slot0 a ∷ [])) ≡ Use slot0 0

-- the first in the queue, which isn't the least
abbrev pub FirstInQueue : Type 0
FirstInQueue =
    choice_of anything (seen defaults (confirmed slot0 a ∷ [])
    ((3, block_record slot0 (Some a) (held 0 (codes "n.x") 3 ∷ []) (2 ∷ 3 ∷ 1 ∷ []) 3) ∷ []))
    ≡ Use slot0 2

abbrev pub AffinityMissing : Type 0
AffinityMissing = choice_of anything (seen defaults [] (empty_of slot0 a ∷ [])) ≡ Claim slot0

abbrev pub AffinityPending : Type 0
AffinityPending =
    choice_of anything (seen defaults ((2, affinity_of a slot0 Pending) ∷ []) (empty_of slot0 a ∷ [])) ≡ Claim slot0

abbrev pub AffinityMarked : Type 0
AffinityMarked =
    choice_of anything (seen defaults ((2, affinity_of a slot0 PendingDeletion) ∷ []) (empty_of slot0 a ∷ []))
    ≡ Claim slot0

-- another node's affinity for the block, or the node's for another block, confirms nothing
abbrev pub OtherAffinities : Type 0
OtherAffinities =
    choice_of anything (seen defaults (confirmed slot1 a ∷ confirmed slot0 b ∷ []) (empty_of slot0 a ∷ []))
    ≡ Claim slot0

-- the node's own blocks are claimed again even where it may have no other
abbrev pub UnconfirmedAtTheBound : Type 0
UnconfirmedAtTheBound = choice_of anything (seen bounded [] (empty_of slot0 a ∷ [])) ≡ Claim slot0

-- a confirmed block comes before one that isn't, also where its slot comes after
abbrev pub ConfirmedFirst : Type 0
ConfirmedFirst =
    choice_of anything (seen defaults (confirmed slot1 a ∷ []) (empty_of slot0 a ∷ empty_of slot1 a ∷ []))
    ≡ Use slot1 0

abbrev pub SlotWithoutBlock : Type 0
SlotWithoutBlock = choice_of anything (seen defaults [] []) ≡ Claim slot0

-- a slot without a block comes before another node's block
abbrev pub SecondSlot : Type 0
SecondSlot =
    choice_of anything (seen defaults (confirmed slot0 b ∷ []) (empty_of slot0 b ∷ [])) ≡ Claim slot1

abbrev pub OwnBlockFull : Type 0
OwnBlockFull =
    choice_of anything (seen defaults (confirmed slot0 a ∷ []) (full_of slot0 a ∷ [])) ≡ Claim slot1

abbrev pub EmptyBareBlock : Type 0
EmptyBareBlock = choice_of anything (seen defaults [] (empty_bare slot0 ∷ [])) ≡ Claim slot0

-- one that isn't empty is no block to be claimed
abbrev pub HeldBareBlock : Type 0
HeldBareBlock = choice_of anything (seen defaults [] (held_bare slot0 ∷ [])) ≡ Claim slot1

-- ---- where no block may be claimed

abbrev pub full_and_other : Config → Seen
full_and_other config =
    seen config (confirmed slot0 a ∷ confirmed slot1 b ∷ []) (full_of slot0 a ∷ empty_of slot1 b ∷ [])

abbrev pub OtherNodesBlock : Type 0
OtherNodesBlock = choice_of anything (full_and_other defaults) ≡ Borrow slot1 0

abbrev pub OtherNodesBlockStrict : Type 0
OtherNodesBlockStrict = choice_of anything (full_and_other strict) ≡ Nothing

abbrev pub BareBlockNotEmpty : Type 0
BareBlockNotEmpty =
    choice_of anything (seen defaults (confirmed slot0 a ∷ []) (full_of slot0 a ∷ held_bare slot1 ∷ [])) ≡ Borrow slot1 1

-- an empty block without affinity is borrowed from where the bound is reached
abbrev pub EmptyBareAtTheBound : Type 0
EmptyBareAtTheBound =
    choice_of anything (seen bounded (confirmed slot0 a ∷ []) (full_of slot0 a ∷ empty_bare slot1 ∷ []))
    ≡ Borrow slot1 0

-- or where blocks aren't allocated
abbrev pub EmptyBareNotAllocating : Type 0
EmptyBareNotAllocating = choice_of anything (seen not_allocating [] (empty_bare slot0 ∷ [])) ≡ Borrow slot0 0

abbrev pub EmptyBareStrict : Type 0
EmptyBareStrict =
    choice_of anything (seen (record { strict = true; auto = false; max_blocks = 0 }) [] (empty_bare slot0 ∷ []))
    ≡ Nothing

abbrev pub SlotNotAllocating : Type 0
SlotNotAllocating = choice_of anything (seen not_allocating [] []) ≡ Nothing

abbrev pub SlotAtTheBound : Type 0
SlotAtTheBound =
    choice_of anything (seen bounded (confirmed slot0 a ∷ []) (full_of slot0 a ∷ [])) ≡ Nothing

-- the bound counts the node's blocks alone
abbrev pub BoundOfAnotherNode : Type 0
BoundOfAnotherNode =
    choice_of anything (seen bounded (confirmed slot0 b ∷ []) (full_of slot0 b ∷ [])) ≡ Claim slot1

-- in all pools of the family, and in none of the other
abbrev pub BoundInAnotherPool : Type 0
BoundInAnotherPool = choice_of anything (seen bounded [] (full_of (v4_range 64 30) a ∷ [])) ≡ Nothing

abbrev pub ipv6_slot : (offset : ℕ) → CidrValue
ipv6_slot offset = record { family = V6; base = 0x20010db8 * 2 ^ 96 + offset; prefix = 122 }

abbrev pub BoundInTheOtherFamily : Type 0
BoundInTheOtherFamily = choice_of anything (seen bounded [] (full_of (ipv6_slot 0) a ∷ [])) ≡ Claim slot0

-- ---- reservations

abbrev pub ReservedOrdinals : Type 0
ReservedOrdinals =
    choice_of anything (reserving (v4_range 0 31 ∷ [])
    (seen defaults (confirmed slot0 a ∷ []) (empty_of slot0 a ∷ [])))
    ≡ Use slot0 2

abbrev pub ReservedBlock : Type 0
ReservedBlock =
    choice_of anything (reserving (slot0 ∷ []) (seen defaults (confirmed slot0 a ∷ []) (empty_of slot0 a ∷ [])))
    ≡ Claim slot1

-- a slot that is reserved in part is claimed, and one that is reserved whole is passed over
abbrev pub ReservedInPart : Type 0
ReservedInPart =
    choice_of anything (reserving (v4_range 0 31 ∷ v4_range 2 32 ∷ []) (seen defaults [] [])) ≡ Claim slot0

abbrev pub ReservedSlot : Type 0
ReservedSlot =
    choice_of anything (reserving (v4_range 0 31 ∷ v4_range 2 31 ∷ []) (seen defaults [] [])) ≡ Claim slot1

abbrev pub ReservedPool : Type 0
ReservedPool = choice_of anything (reserving (v4_range 0 24 ∷ []) (seen defaults [] [])) ≡ Nothing

-- ---- pools

abbrev pub other_slots : Pool
other_slots = pool (codes "q") (v4_range 8 29) 30

abbrev pub slot_of_other : CidrValue
slot_of_other = v4_range 8 30

-- the first pool comes first, with each of its slots
abbrev pub FirstPool : Type 0
FirstPool =
    choice_of anything (seen_in (other_slots ∷ two_slots ∷ []) defaults [] [])
    ≡ Claim slot_of_other

abbrev pub LastSlotOfTheFirstPool : Type 0
LastSlotOfTheFirstPool =
    choice_of anything (seen_in (two_slots ∷ other_slots ∷ []) defaults []
    (full_of slot0 b ∷ []))
    ≡ Claim slot1

-- the rank comes before the place of the pool
abbrev pub RankBeforePool : Type 0
RankBeforePool =
    choice_of anything (seen_in (two_slots ∷ other_slots ∷ []) defaults
    (confirmed slot_of_other a ∷ []) (empty_of slot_of_other a ∷ []))
    ≡ Use slot_of_other 0

abbrev pub DisabledPool : Type 0
DisabledPool =
    choice_of anything (seen_in ((record two_slots { disabled = true }) ∷ other_slots ∷ [])
    defaults (confirmed slot0 a ∷ []) (empty_of slot0 a ∷ []))
    ≡ Claim slot_of_other

abbrev pub OtherFamily : Type 0
OtherFamily = choice_of (record anything { family = V6 }) (seen defaults [] []) ≡ Nothing

-- a manual pool is used where it is named
abbrev pub manual_pool : List Pool
manual_pool = record two_slots { mode = Manual } ∷ []

abbrev pub ManualNotNamed : Type 0
ManualNotNamed = choice_of anything (seen_in manual_pool defaults [] []) ≡ Nothing

abbrev pub ManualNamed : Type 0
ManualNamed = choice_of (naming (codes "p" ∷ [])) (seen_in manual_pool defaults [] []) ≡ Claim slot0

-- or where one of its addresses is asked for
abbrev pub ManualForOneAddress : Type 0
ManualForOneAddress =
    usable_pool_of (record anything { one_address = true }) (v4 1) manual_pool ≡ Some (record two_slots { mode = Manual })

abbrev pub ManualForAny : Type 0
ManualForAny = usable_pool_of anything (v4 1) manual_pool ≡ None

abbrev pub AddressOfNoPool : Type 0
AddressOfNoPool = usable_pool_of (record anything { one_address = true }) (v4 8) manual_pool ≡ None

-- a pool is for the nodes that its selector admits
abbrev pub western_pool : List Pool
western_pool = record two_slots { selector = is (codes "zone") (codes "west") } ∷ []

abbrev pub in_zone : List ℕ → Asked
in_zone zone = record anything { labels = (codes "zone", zone) ∷ [] }

abbrev pub Admitted : Type 0
Admitted = choice_of (in_zone (codes "west")) (seen_in western_pool defaults [] []) ≡ Claim slot0

abbrev pub NotAdmitted : Type 0
NotAdmitted = choice_of (in_zone (codes "east")) (seen_in western_pool defaults [] []) ≡ Nothing

abbrev pub WithoutLabels : Type 0
WithoutLabels = choice_of anything (seen_in western_pool defaults [] []) ≡ Nothing

-- a pool that does not admit the node gives nothing, even where it is named, or an address
-- of it is asked for
abbrev pub NamedAndNotAdmitted : Type 0
NamedAndNotAdmitted =
    choice_of (naming (codes "p" ∷ [])) (seen_in western_pool defaults [] []) ≡ Nothing

abbrev pub OneAddressNotAdmitted : Type 0
OneAddressNotAdmitted =
    usable_pool_of (record (in_zone (codes "east")) { one_address = true }) (v4 1) western_pool ≡ None

-- ---- pools by name

-- of two pools only the one that is named
abbrev pub NamedPool : Type 0
NamedPool =
    choice_of (naming (codes "q" ∷ []))
    (seen_in (two_slots ∷ other_slots ∷ []) defaults
    (confirmed slot0 a ∷ []) (empty_of slot0 a ∷ []))
    ≡ Claim slot_of_other

-- pools that are named stand in the order of the table, not of the names
abbrev pub NamedInTableOrder : Type 0
NamedInTableOrder =
    choice_of (naming (codes "q" ∷ codes "p" ∷ []))
    (seen_in (two_slots ∷ other_slots ∷ []) defaults [] [])
    ≡ Claim slot0

abbrev pub NamedByCidr : Type 0
NamedByCidr =
    choice_of (naming (codes "10.0.0.8/29" ∷ []))
    (seen_in (two_slots ∷ other_slots ∷ []) defaults [] [])
    ≡ Claim slot_of_other

-- in whichever spelling
abbrev pub ipv6_pool : Pool
ipv6_pool = pool (codes "six") (record { family = V6; base = 0x20010db8 * 2 ^ 96; prefix = 48 }) 122

abbrev pub NamedByOtherSpelling : Type 0
NamedByOtherSpelling =
    choice_of (record (naming (codes "2001:DB8:0:0::/48" ∷ [])) { family = V6 })
    (seen_in (ipv6_pool ∷ []) defaults
    (confirmed (ipv6_slot 0) a ∷ []) ((3, record_of.Block (fresh_block (ipv6_slot 0) (Some a))) ∷ []))
    ≡ Use (ipv6_slot 0) 0

-- the place of the first name that no enabled pool of the family has
abbrev pub UnknownName : Type 0
UnknownName = choice_of (naming (codes "p" ∷ codes "x" ∷ codes "y" ∷ [])) (seen defaults [] []) ≡ NoPool 1

abbrev pub NameOfDisabled : Type 0
NameOfDisabled =
    choice_of (naming (codes "p" ∷ []))
    (seen_in ((record two_slots { disabled = true }) ∷ []) defaults [] [])
    ≡ NoPool 0

abbrev pub NameOfOtherFamily : Type 0
NameOfOtherFamily =
    choice_of (naming (codes "six" ∷ [])) (seen_in (ipv6_pool ∷ []) defaults [] []) ≡ NoPool 0
