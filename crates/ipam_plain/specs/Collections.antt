-- Collections of addresses that no live handle owns.
use Rattle.std.specs.Prelude.{ℕ, ◌+◌, Bool, true, false, List, [], ◌∷◌, ◌++◌, Option, Some, None, codes}
use Rattle.ipam_block.specs.declared.allocation.Allocation.{Allocation}
use Rattle.ipam_block.specs.declared.state.State.TheVariants.{Confirmed}
use Rattle.ipam_records.specs.declared.key.Key.TheVariants as key
use Rattle.ipam_records.specs.declared.key.Kind.TheVariants as kind
use Rattle.ipam_model.specs.declared.answer.Answer.{Answer}
use Rattle.ipam_model.specs.declared.answer.Answer.TheVariants as answer
use Rattle.ipam_model.specs.declared.answer.Item.{Item}
use Rattle.ipam_model.specs.declared.entry.CallName.TheVariants as name
use Rattle.ipam_model.specs.declared.entry.Entry.{Entry}
use Rattle.ipam_model.specs.declared.entry.Entry.TheVariants as entry
use Rattle.ipam_model.specs.declared.entry.Told.TheVariants as told
use Rattle.ipam_model.specs.declared.request.Request.{Request}
use Rattle.ipam_model.specs.declared.request.Request.TheVariants.{Del, Collect}
use Rattle.ipam_model.specs.Course.{Event, Begin, Feed, NotWaiting, TooSoon, Waiting}
use Rattle.ipam_model.specs.History.{Base}
use Rattle.ipam_plain.specs.Setting.{v4, slot0, pool_row, base_of, held_base, block_record, affinity_of, handle_of, held, add_this, turns, did, get_block, get_handle, created, updated, deleted, given_this, goes, stops, three_reads}

abbrev pub collection : (at grace : ℕ) → (scope : Option (List ℕ × List ℕ)) → Request
collection at grace scope = Collect (record { live = []; at = at; grace = grace; scope = scope })

-- a collection at once and of all, whose first list is empty
abbrev pub collect_all : Request
collect_all = collection 0 0 None

abbrev pub list_blocks : Option Answer → Entry
list_blocks answer = did 0 (name.List kind.Block) (told.Listed 1) None answer

abbrev pub collected : (b1 b2 : ℕ) → List Item → Answer
collected b1 b2 items = answer.Collected (record { b1 = b1; b2 = b2; items = items })

-- the first address, which was n.c1's from the first assignment on
abbrev pub first_item : (freed : Bool) → Item
first_item freed = record { address = v4 0; handle = codes "n.c1"; stamp = 1; freed = freed }

-- ---- a leak

-- the leak is freed, from the second list of the blocks on
abbrev pub freeing : List Entry
freeing =
    list_blocks None
    ∷ get_block 0 slot0 (told.Found 3)
    ∷ updated 0 (key.Block slot0) 3 5 (block_record slot0 (Some (codes "a")) [] (1 ∷ 2 ∷ 3 ∷ 0 ∷ []) 2) None
    ∷ get_handle 0 (codes "n.c1") (told.Found 4)
    ∷ deleted 0 (key.Handle (codes "n.c1")) 4 6 (Some (collected 1 3 (first_item true ∷ [])))
    ∷ []

abbrev pub LeakFreed : Type 0
LeakFreed = goes held_base
    (Begin 0 collect_all ∷ turns 0 1 ++ Feed 0 0 [] ∷ turns 0 5)
    (entry.Began 0 collect_all ∷ list_blocks None ∷ entry.Fed 0 0 [] ∷ freeing)

-- a handle of the first list is live
abbrev pub first_live : Request
first_live = Collect (record { live = codes "n.c1" ∷ []; at = 0; grace = 0; scope = None })

abbrev pub LiveInFirstList : Type 0
LiveInFirstList = goes held_base
    (Begin 0 first_live ∷ turns 0 1 ++ Feed 0 0 [] ∷ turns 0 1)
    (entry.Began 0 first_live
    ∷ list_blocks None
    ∷ entry.Fed 0 0 []
    ∷ list_blocks (Some (collected 1 3 []))
    ∷ [])

-- a handle of the second list keeps its address
abbrev pub LiveInSecondList : Type 0
LiveInSecondList = goes held_base
    (Begin 0 collect_all ∷ turns 0 1 ++ Feed 0 0 (codes "n.c1" ∷ []) ∷ turns 0 1)
    (entry.Began 0 collect_all
    ∷ list_blocks None
    ∷ entry.Fed 0 0 (codes "n.c1" ∷ [])
    ∷ list_blocks (Some (collected 1 3 []))
    ∷ [])

-- the second list comes before the collection waits for it
abbrev pub NotYetWaiting : Type 0
NotYetWaiting = stops held_base (Begin 0 collect_all ∷ Feed 0 0 [] ∷ []) (entry.Began 0 collect_all ∷ []) NotWaiting

-- while the collection waits it has no call
abbrev pub WaitingHasNoCall : Type 0
WaitingHasNoCall = stops held_base
    (Begin 0 collect_all ∷ turns 0 2) (entry.Began 0 collect_all ∷ list_blocks None ∷ []) Waiting

-- ---- an address that is freed and given to the same handle again

-- a DEL of n.c1, and an ADD of the first address for it, in the other slot
abbrev pub give_again : List Event
give_again =
    Begin 1 (Del (codes "n.c1")) ∷ turns 1 5
    ++ Begin 1 (add_this (codes "n.c1") (codes "a") (v4 0)) ∷ turns 1 6

-- the moment is that at which the DEL begins
abbrev pub given_again : (moment : ℕ) → List Entry
given_again moment =
    entry.Began 1 (Del (codes "n.c1"))
    ∷ get_handle 1 (codes "n.c1") (told.Found 4)
    ∷ get_block 1 slot0 (told.Found 3)
    ∷ updated 1 (key.Block slot0) 3 5 (block_record slot0 (Some (codes "a")) [] (1 ∷ 2 ∷ 3 ∷ 0 ∷ []) 2) None
    ∷ get_handle 1 (codes "n.c1") (told.Found 4)
    ∷ deleted 1 (key.Handle (codes "n.c1")) 4 6 (Some (answer.Deleted (moment + 1)))
    ∷ entry.Began 1 (add_this (codes "n.c1") (codes "a") (v4 0))
    ∷ three_reads 1 told.Missing slot0 (told.Found 5) None
    ++ get_handle 1 (codes "n.c1") told.Missing
    ∷ created 1 (key.Handle (codes "n.c1")) 7 (handle_of (codes "n.c1") slot0 1) None
    ∷ updated 1 (key.Block slot0) 5 8
    (block_record slot0 (Some (codes "a")) (held 0 (codes "n.c1") 3 ∷ []) (1 ∷ 2 ∷ 3 ∷ []) 3)
    (Some (given_this (v4 0) (moment + 7) (moment + 12)))
    ∷ []

-- between the two lists of the blocks: it has another stamp, and is no leak
abbrev pub GivenAgainBetweenTheLists : Type 0
GivenAgainBetweenTheLists = goes held_base
    (Begin 0 collect_all ∷ turns 0 1 ++ give_again ++ Feed 0 0 [] ∷ turns 0 1)
    (entry.Began 0 collect_all
    ∷ list_blocks None
    ∷ given_again 2
    ++ entry.Fed 0 0 []
    ∷ list_blocks (Some (collected 1 16 []))
    ∷ [])

-- between the second list and the read of the block: the leak is gone, and what has its place stays
abbrev pub GivenAgainAfterTheLists : Type 0
GivenAgainAfterTheLists = goes held_base
    (Begin 0 collect_all ∷ turns 0 1 ++ Feed 0 0 [] ∷ turns 0 1 ++ give_again ++ turns 0 1)
    (entry.Began 0 collect_all
    ∷ list_blocks None
    ∷ entry.Fed 0 0 []
    ∷ list_blocks None
    ∷ given_again 4
    ++ did 0 (name.Get (key.Block slot0)) (told.Found 8) None (Some (collected 1 3 (first_item false ∷ [])))
    ∷ [])

-- ---- a grace and a scope

abbrev pub after_a_minute : Request
after_a_minute = collection 100 60 None

abbrev pub FedWithinTheGrace : Type 0
FedWithinTheGrace = stops held_base
    (Begin 0 after_a_minute ∷ turns 0 1 ++ Feed 0 159 [] ∷ [])
    (entry.Began 0 after_a_minute ∷ list_blocks None ∷ [])
    (TooSoon 100 60)

abbrev pub FedAfterTheGrace : Type 0
FedAfterTheGrace = goes held_base
    (Begin 0 after_a_minute ∷ turns 0 1 ++ Feed 0 160 [] ∷ turns 0 5)
    (entry.Began 0 after_a_minute ∷ list_blocks None ∷ entry.Fed 0 160 [] ∷ freeing)

abbrev pub of_one_node : Request
of_one_node = collection 0 0 (Some (codes "n", codes "a"))

-- the address was not recorded with the network and the node
abbrev pub OutsideTheScope : Type 0
OutsideTheScope = goes held_base
    (Begin 0 of_one_node ∷ turns 0 1 ++ Feed 0 0 [] ∷ turns 0 1)
    (entry.Began 0 of_one_node
    ∷ list_blocks None
    ∷ entry.Fed 0 0 []
    ∷ list_blocks (Some (collected 1 3 []))
    ∷ [])

-- n.c1 holds three addresses: two are recorded with the network, of which one is with the node
abbrev pub scoped : (ordinal : ℕ) → (secondary : List (List ℕ × List ℕ)) → (stamp : ℕ) → Allocation
scoped ordinal secondary stamp = record {
  ordinal = ordinal;
  attributes = record { handle = codes "n.c1"; secondary = secondary };
  stamp = stamp;
}

abbrev pub elsewhere : Allocation
elsewhere = scoped 0 ((codes "network", codes "n") ∷ (codes "node", codes "b") ∷ []) 1

abbrev pub here : Allocation
here = scoped 1 ((codes "network", codes "n") ∷ (codes "node", codes "a") ∷ []) 2

abbrev pub in_another : Allocation
in_another = scoped 2 ((codes "network", codes "m") ∷ (codes "node", codes "a") ∷ []) 3

abbrev pub scoped_base : Base
scoped_base = base_of
    (pool_row
    ∷ (3, block_record slot0 (Some (codes "a")) (elsewhere ∷ here ∷ in_another ∷ []) (3 ∷ []) 3)
    ∷ (2, affinity_of (codes "a") slot0 Confirmed)
    ∷ (4, handle_of (codes "n.c1") slot0 3)
    ∷ []) 4

abbrev pub InsideTheScope : Type 0
InsideTheScope = goes scoped_base
    (Begin 0 of_one_node ∷ turns 0 1 ++ Feed 0 0 [] ∷ turns 0 5)
    (entry.Began 0 of_one_node
    ∷ list_blocks None
    ∷ entry.Fed 0 0 []
    ∷ list_blocks None
    ∷ get_block 0 slot0 (told.Found 3)
    ∷ updated 0 (key.Block slot0) 3 5
    (block_record slot0 (Some (codes "a")) (elsewhere ∷ in_another ∷ []) (3 ∷ 1 ∷ []) 4) None
    ∷ get_handle 0 (codes "n.c1") (told.Found 4)
    ∷ updated 0 (key.Handle (codes "n.c1")) 4 6 (handle_of (codes "n.c1") slot0 2)
    (Some (collected 1 3 (record { address = v4 1; handle = codes "n.c1"; stamp = 2; freed = true } ∷ [])))
    ∷ [])

-- ---- two leaks

-- n.c1 and n.c2 hold the first two addresses
abbrev pub two_held : Base
two_held = base_of
    (pool_row
    ∷ (3, block_record slot0 (Some (codes "a")) (held 0 (codes "n.c1") 1 ∷ held 1 (codes "n.c2") 2 ∷ []) (2 ∷ 3 ∷ []) 2)
    ∷ (2, affinity_of (codes "a") slot0 Confirmed)
    ∷ (4, handle_of (codes "n.c1") slot0 1)
    ∷ (5, handle_of (codes "n.c2") slot0 1)
    ∷ []) 5

abbrev pub second_item : Item
second_item = record { address = v4 1; handle = codes "n.c2"; stamp = 2; freed = true }

-- they are freed, and told, by their addresses
abbrev pub TwoLeaksFreed : Type 0
TwoLeaksFreed = goes two_held
    (Begin 0 collect_all ∷ turns 0 1 ++ Feed 0 0 [] ∷ turns 0 9)
    (entry.Began 0 collect_all
    ∷ list_blocks None
    ∷ entry.Fed 0 0 []
    ∷ list_blocks None
    ∷ get_block 0 slot0 (told.Found 3)
    ∷ updated 0 (key.Block slot0) 3 6
    (block_record slot0 (Some (codes "a")) (held 1 (codes "n.c2") 2 ∷ []) (2 ∷ 3 ∷ 0 ∷ []) 3) None
    ∷ get_handle 0 (codes "n.c1") (told.Found 4)
    ∷ deleted 0 (key.Handle (codes "n.c1")) 4 7 None
    ∷ get_block 0 slot0 (told.Found 6)
    ∷ updated 0 (key.Block slot0) 6 8 (block_record slot0 (Some (codes "a")) [] (2 ∷ 3 ∷ 0 ∷ 1 ∷ []) 4) None
    ∷ get_handle 0 (codes "n.c2") (told.Found 5)
    ∷ deleted 0 (key.Handle (codes "n.c2")) 5 9 (Some (collected 1 3 (first_item true ∷ second_item ∷ [])))
    ∷ [])
