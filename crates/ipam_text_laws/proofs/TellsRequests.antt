-- Each sound request calls by sound names and comes to a sound answer, whatever sound replies it hears.
use Rattle.std.proofs.Common.{◌≡◌, ℕ, ◌+◌, ◌-◌, ◌<◌, ◌≤◌, inr, Bool, true, false, cond, List, [], ◌∷◌, ◌++◌, map, Option, Some, None, ◌&&◌, not, refl, sym, subst, arith}
use Rattle.std.specs.Prelude.{Contains, length, nat_le}
use Rattle.std.specs.List.{AllByRecursion, filter, find, list_any}
use Rattle.std.proofs.lemmas.List.Elements.{All-contains, recursion_from_All}
use Rattle.ipam_addr.specs.declared.address.Family.{Family}
use Rattle.ipam_addr.specs.Holding.{holds_address}
use Rattle.ipam_addr.specs.Shape.{AddrValue, CidrValue}
use Rattle.ipam_addr.specs.Slots.{HasSlots}
use Rattle.ipam_addr.specs.Width.{IsAddress, IsCidr, address_count, cidr_size}
use Rattle.ipam_addr.proofs.CidrLemmas.{cidr_end-le}
use Rattle.ipam_addr.proofs.SlotLemmas.{slot_sound}
use Rattle.ipam_pool.specs.declared.pools.Pool.{Pool}
use Rattle.ipam_pool.specs.Slots.{IsSlotOf}
use Rattle.ipam_pool.specs.declared.pools.PoolRefusal.{PoolRefusal}
use Rattle.ipam_pool.specs.declared.pools.PoolRefusal.TheVariants as refused
use Rattle.ipam_pool.specs.Changes.{has_name, refusal_of, with_disabled, with_rules}
use Rattle.ipam_block.specs.declared.allocation.Allocation.{Allocation}
use Rattle.ipam_block.specs.Shape as block
use Rattle.ipam_block.specs.Operations.{holder, ordinal_address}
use Rattle.ipam_block.specs.Sound.{AreAttributes, IsBlock, IsBlockRecord, IsBlockCidr, held_ordinals}
use Rattle.ipam_block.proofs.Ordinals.{queued-below, shared-below}
use Rattle.ipam_records.specs.declared.key.Key.{Key}
use Rattle.ipam_records.specs.declared.record.Record.{Record}
use Rattle.ipam_records.specs.declared.record.Record.TheVariants as record_of
use Rattle.ipam_records.specs.Key.{key_of}
use Rattle.ipam_records.specs.KeyText.{IsKey}
use Rattle.ipam_records.specs.Said.{Said, Found, Missing, Listed, Can, Exists, Conflict, Full, Spent}
use Rattle.ipam_records.specs.Sound.{IsName, IsHandleId, IsPoolsRecord}
use Rattle.ipam_records.specs.Word.{Word, Ends}
use Rattle.ipam_records.specs.BlockLists.{is_node}
use Rattle.ipam_model.specs.declared.answer.Answer.{Answer}
use Rattle.ipam_model.specs.declared.answer.Collected.{Collected}
use Rattle.ipam_model.specs.declared.answer.Item.{Item}
use Rattle.ipam_model.specs.declared.answer.Scan.{Scan}
use Rattle.ipam_model.specs.declared.choice.Choice.{Choice}
use Rattle.ipam_model.specs.declared.choice.Choice.TheVariants.{Use, Claim, Borrow, Nothing, NoPool}
use Rattle.ipam_model.specs.declared.outcome.AddAnswer.{AddAnswer}
use Rattle.ipam_model.specs.declared.outcome.AddAnswer.TheVariants as added
use Rattle.ipam_model.specs.declared.outcome.AddThisAnswer.{AddThisAnswer}
use Rattle.ipam_model.specs.declared.outcome.AddThisAnswer.TheVariants as add_this
use Rattle.ipam_model.specs.declared.outcome.AdminAnswer.{AdminAnswer}
use Rattle.ipam_model.specs.declared.outcome.AdminAnswer.TheVariants as admin
use Rattle.ipam_model.specs.declared.outcome.CheckAnswer.{CheckAnswer}
use Rattle.ipam_model.specs.declared.outcome.CollectAnswer.{CollectAnswer}
use Rattle.ipam_model.specs.declared.outcome.DelAnswer.{DelAnswer}
use Rattle.ipam_model.specs.declared.outcome.Gift.{Gift}
use Rattle.ipam_model.specs.declared.outcome.ProbeAnswer.{ProbeAnswer}
use Rattle.ipam_model.specs.declared.outcome.Served.{Served}
use Rattle.ipam_model.specs.declared.outcome.Served.TheVariants.{Gave, Refused}
use Rattle.ipam_model.specs.declared.part.Assigned.{Assigned}
use Rattle.ipam_model.specs.declared.part.Left.{Left}
use Rattle.ipam_model.specs.declared.part.Outcome.{Outcome}
use Rattle.ipam_model.specs.declared.part.Outcome.TheVariants.{Went, Stops}
use Rattle.ipam_model.specs.declared.part.Stop.{Stop}
use Rattle.ipam_model.specs.declared.part.Stop.TheVariants.{OutOfTries, OutOfClaims, NoRoom, CountAtLimit, NoRevisions}
use Rattle.ipam_model.specs.declared.request.AddRequest.{AddRequest}
use Rattle.ipam_model.specs.declared.request.Admin.{Admin as Setting}
use Rattle.ipam_model.specs.declared.request.Admin.TheVariants as setting
use Rattle.ipam_model.specs.declared.request.CollectRequest.{CollectRequest}
use Rattle.ipam_model.specs.declared.request.ProbeRequest.{ProbeRequest}
use Rattle.ipam_model.specs.declared.request.Request.{Request}
use Rattle.ipam_model.specs.declared.request.Request.TheVariants.{Add, AddThis, Del, Check, Release, Collect, Admin, Probe}
use Rattle.ipam_model.specs.Add as add
use Rattle.ipam_model.specs.Add.{Round}
use Rattle.ipam_model.specs.AddThis as this
use Rattle.ipam_model.specs.Admin as change
use Rattle.ipam_model.specs.Affinities.{BlockRead, release}
use Rattle.ipam_model.specs.Assigning.{Target, target_in, assign, claim_for}
use Rattle.ipam_model.specs.Choice.{Share, Takes, Claims, Leaves, by_share, share_of, is_block_at, block_in_found, block_at, is_confirmed_for, is_reserved, is_unowned_and_empty, may_claim, has_free_address, room_of, rank_of_block, rank_at, Rank, Own, Unconfirmed, Unclaimed, Foreign, Ranked, Seen, Pick, Unknown, Lacks, Picks, choice_of, pick_of}
use Rattle.ipam_model.proofs.ChoiceLemmas.{pick-ranked}
use Rattle.ipam_model.specs.Counting.{freeing_all, freeing_one, free}
use Rattle.ipam_model.specs.Look as look
use Rattle.ipam_model.specs.Owners.{is_owner_in}
use Rattle.ipam_model.specs.Reads.{StoredRecord, config_said, pools_said, reservations_said, rows_said, handle_said, block_said}
use Rattle.ipam_model.specs.Remove as remove
use Rattle.ipam_model.specs.Requests.{word_of, told_as}
use Rattle.ipam_model.specs.SoundRequest.{IsSoundRequest}
use Rattle.ipam_model.specs.Step.{all_left, Part, goes, with_retries, in_rounds}
use Rattle.ipam_model.specs.Told.{of_add, of_add_this, of_del, of_check, of_release, of_collect, of_admin, of_probe}
use Rattle.ipam_model.specs.Usable.{Asked, families_if, is_usable, pool_of, usable_pool_of}
use Rattle.ipam_laws.proofs.Members.{in-find, in-nothing}
use Rattle.ipam_laws.proofs.RequestSteps.{key-changed}
use Rattle.ipam_laws.proofs.SoundBlocks.{slot-of-pool}
use Rattle.ipam_laws.proofs.WordSteps.{picked-slot}
use Rattle.ipam_text_laws.specs.Answers.{FitsIn64, IsSoundScan, IsSoundGiven, IsSoundItem, IsSoundAnswer, IsSoundCollection}
use Rattle.ipam_text_laws.proofs.Tells.{Any, AreSoundStops, Comes, IsSoundRead, IsSoundRow, IsSoundSaid, IsSoundStop, Tells, block_said-sound, bound-tells, followed-tells, on_write-tells, rounds-tells, rows_said-sound, settled-tells, tries-tells, write_back-sound}
use Rattle.ipam_text_laws.proofs.TellsParts.{IsSoundDone, IsSoundSeen, IsSoundTarget, assign-tells, claim_for-tells, five_reads-tells, free-tells, release-tells}

-- the node of a request is a name, and its handle an id
pub record IsSoundAsker (request : AddRequest) : Type 0 where
  pub node : IsName request.node
  pub id : IsHandleId request.attributes.handle

-- ---- addresses of blocks, and slots of pools

below-count : (base ordinal size count : ℕ) → base + size ≤ count → ordinal < size → base + ordinal < count
below-count base ordinal size count end below = omega arith

ordinal-address : (cidr : CidrValue) (ordinal : ℕ) → IsCidr cidr → ordinal < cidr_size cidr → IsAddress (ordinal_address cidr ordinal)
ordinal-address cidr ordinal range below = below-count cidr.base ordinal (cidr_size cidr) (address_count cidr.family) (cidr_end-le cidr range) below

queued-address : (b : block.BlockValue) (ordinal : ℕ) → IsBlock b → Contains b.queue ordinal → IsAddress (ordinal_address b.cidr ordinal)
queued-address b ordinal h queued = ordinal-address b.cidr ordinal h.range (queued-below b queued.0 ordinal h queued.1 (sym queued.2))

-- each pool has slots
abbrev HaveSlots : List Pool → Type 0
HaveSlots pools = (pool : Pool) → Contains pools pool → IsCidr pool.cidr × HasSlots pool.cidr pool.size

table-slots : (pools : List Pool) → IsPoolsRecord pools → HaveSlots pools
table-slots pools h pool there =
    (All-contains (λ (p : Pool). IsCidr p.cidr) pools pool h.table.ranges there, All-contains (λ (p : Pool). HasSlots p.cidr p.size) pools pool h.table.sizes there)

no-slots : HaveSlots []
no-slots pool there = absurd (in-nothing pool there)

pools_said-slots : (said : Said) → IsSoundSaid said → HaveSlots (pools_said said)
pools_said-slots (Found revision (record_of.Pools pools)) told = table-slots pools told.0
pools_said-slots (Found revision (record_of.Block b)) told = no-slots
pools_said-slots (Found revision (record_of.Handle found)) told = no-slots
pools_said-slots (Found revision (record_of.Config config)) told = no-slots
pools_said-slots (Found revision (record_of.Reservations reservations)) told = no-slots
pools_said-slots (Found revision (record_of.Affinity a)) told = no-slots
pools_said-slots Missing told = no-slots
pools_said-slots (Listed rows) told = no-slots
pools_said-slots (Can revision) told = no-slots
pools_said-slots (Exists revision) told = no-slots
pools_said-slots (Conflict revision) told = no-slots
pools_said-slots Full told = no-slots
pools_said-slots Spent told = no-slots

slot-range : (pools : List Pool) (pool : Pool) (cidr : CidrValue) → HaveSlots pools → Contains pools pool → IsSlotOf pool cidr → IsCidr cidr
slot-range pools pool cidr have there at = let (range, slots) = have pool there in subst (λ (x : CidrValue). IsCidr x) (sym at.is) (slot_sound pool.cidr pool.size at.number range slots at.within)

-- the slot that holds an address of a pool
holding-range : (pools : List Pool) (pool : Pool) (address : AddrValue) → HaveSlots pools → Contains pools pool → holds_address pool.cidr address ≡ true → IsCidr (this.slot_holding pool address)
holding-range pools pool address have there holds =
    let (range, slots) = have pool there in
    slot-range pools pool (this.slot_holding pool address) have there (slot-of-pool pool (this.slot_holding pool address) slots (inr (address, holds, refl)))

-- a pool that was found holds the address
abbrev IsHolding : List Pool → AddrValue → Option Pool → Type 0
IsHolding pools address None = Unit {0}
IsHolding pools address (Some pool) = Contains pools pool × (holds_address pool.cidr address ≡ true)

both-true : (a b : Bool) → a && b ≡ true → b ≡ true
both-true true b e = e
both-true false b e = absurd (cc e)

pool-holding : (address : AddrValue) (pools : List Pool) → IsHolding pools address (pool_of address pools)
pool-holding address pools = from (pool_of address pools) refl
  where
    from : (o : Option Pool) → pool_of address pools ≡ o → IsHolding pools address o
    from None e = tt
    from (Some pool) e = in-find (λ p. holds_address p.cidr address) pool pools e

usable-holding : (asked : Asked) (address : AddrValue) (pools : List Pool) → IsHolding pools address (usable_pool_of asked address pools)
usable-holding asked address pools = from (usable_pool_of asked address pools) refl
  where
    from : (o : Option Pool) → usable_pool_of asked address pools ≡ o → IsHolding pools address o
    from None e = tt
    from (Some pool) e =
        let found = in-find (λ p. is_usable asked p && holds_address p.cidr address) pool pools e in
        (found.0, both-true (is_usable asked pool) (holds_address pool.cidr address) found.1)

-- ---- the slot that is picked

-- a block that was listed is sound
listed-sound : (rows : List StoredRecord) (cidr : CidrValue) → AllByRecursion IsSoundRow rows → IsSoundRead (block_in_found (find (is_block_at cidr) rows))
listed-sound [] cidr h = tt
listed-sound ((revision, record_of.Block b) ∷ rows) cidr h = from (is_block_at cidr (revision, record_of.Block b)) (listed-sound rows cidr h.1)
  where
    from : (t : Bool) → IsSoundRead (block_in_found (find (is_block_at cidr) rows)) → IsSoundRead (block_in_found (cond t (Some (revision, record_of.Block b)) (find (is_block_at cidr) rows)))
    from true rest = h.0
    from false rest = rest
listed-sound ((revision, record_of.Config config) ∷ rows) cidr h = listed-sound rows cidr h.1
listed-sound ((revision, record_of.Pools pools) ∷ rows) cidr h = listed-sound rows cidr h.1
listed-sound ((revision, record_of.Reservations reservations) ∷ rows) cidr h = listed-sound rows cidr h.1
listed-sound ((revision, record_of.Affinity a) ∷ rows) cidr h = listed-sound rows cidr h.1
listed-sound ((revision, record_of.Handle found) ∷ rows) cidr h = listed-sound rows cidr h.1

-- what makes a slot a candidate is sound, and an ordinal of it is queued
abbrev IsSoundRank : Rank → Type 0
IsSoundRank (Own found ordinal) = IsSoundRead (Some found) × Contains found.1.queue ordinal
IsSoundRank (Unconfirmed found) = IsSoundRead (Some found)
IsSoundRank (Unclaimed read) = IsSoundRead read
IsSoundRank (Foreign found ordinal) = IsSoundRead (Some found) × Contains found.1.queue ordinal

rank_of_block-sound : (asked : Asked) (seen : Seen) (found : ℕ × block.BlockValue) (room : Option ℕ) → room_of seen found.1 ≡ room → (rank : Rank) → IsSoundRead (Some found) → rank_of_block asked seen found room ≡ Some rank → IsSoundRank rank
rank_of_block-sound asked seen found None free rank h e = absurd (cc e)
rank_of_block-sound asked seen found (Some ordinal) free rank h e =
    by (is_node asked.node found.1.node) (list_any (is_confirmed_for asked.node found.1.cidr) seen.affinities) (is_unowned_and_empty found.1 && may_claim asked seen) seen.config.strict e
  where
    queued : Contains found.1.queue ordinal
    queued = (in-find (λ o. not (is_reserved seen (ordinal_address found.1.cidr o))) ordinal found.1.queue free).0

    is : (other : Rank) → IsSoundRank other → Some other ≡ Some rank → IsSoundRank rank
    is other k f = let same : other ≡ rank = cc f in subst (λ (x : Rank). IsSoundRank x) same k

    by : (own confirmed free strict : Bool) → cond own (cond confirmed (Some (Own found ordinal)) (Some (Unconfirmed found))) (cond free (Some (Unclaimed (Some found))) (cond strict None (Some (Foreign found ordinal)))) ≡ Some rank → IsSoundRank rank
    by true true free strict f = is (Own found ordinal) (h, queued) f
    by true false free strict f = is (Unconfirmed found) h f
    by false confirmed true strict f = is (Unclaimed (Some found)) h f
    by false confirmed false true f = absurd (cc f)
    by false confirmed false false f = is (Foreign found ordinal) (h, queued) f

rank_at-sound : (asked : Asked) (seen : Seen) (slot : CidrValue) (read : BlockRead) (rank : Rank) → IsSoundRead read → rank_at asked seen slot read ≡ Some rank → IsSoundRank rank
rank_at-sound asked seen slot (Some found) rank h e = rank_of_block-sound asked seen found (room_of seen found.1) refl rank h e
rank_at-sound asked seen slot None rank h e = by (may_claim asked seen && has_free_address seen slot) e
  where
    by : (b : Bool) → cond b (Some (Unclaimed None)) None ≡ Some rank → IsSoundRank rank
    by true f = let same : Unclaimed None ≡ rank = cc f in subst (λ (x : Rank). IsSoundRank x) same tt
    by false f = absurd (cc f)

-- what was picked is a CIDR, for a sound cause
record IsSoundPick (ranked : Ranked) : Type 0 where
  range : IsCidr ranked.slot
  rank : IsSoundRank ranked.rank

picked-sound : (asked : Asked) (seen : Seen) (ranked : Ranked) → IsSoundSeen seen → pick_of asked seen ≡ Picks ranked → IsSoundPick ranked
picked-sound asked seen ranked h e =
    let (pool, there, at) = picked-slot asked seen ranked e in
    let slots : HaveSlots seen.pools = subst (λ (pools : List Pool). HaveSlots pools) (sym h.are_pools) (pools_said-slots h.pools h.pools_told) in
    let rows : AllByRecursion IsSoundRow seen.blocks = subst (λ (rows : List StoredRecord). AllByRecursion IsSoundRow rows) (sym h.are_blocks) (rows_said-sound h.blocks h.blocks_told) in
    record {
      range = slot-range seen.pools pool ranked.slot slots there at;
      rank = rank_at-sound asked seen ranked.slot (block_at seen ranked.slot) ranked.rank (listed-sound seen.blocks ranked.slot rows) (pick-ranked asked seen ranked e);
    }

-- ---- one family

abbrev SaysAdd : AddAnswer → Type 0
SaysAdd one = IsSoundAnswer (of_add one)

record IsSoundGift (gift : Gift) : Type 0 where
  given : IsSoundGiven gift.given
  range : IsCidr gift.block

abbrev IsSoundServed : Served → Type 0
IsSoundServed (Gave gift) = IsSoundGift gift
IsSoundServed (Refused answer) = SaysAdd answer

abbrev Follow : (Left → Part Served) → Type 0
Follow next = (now : Left) → Tells (Comes IsSoundServed) (next now)

after_assign-tells : (round : Round) (target : Target) (left : Left) (done : Option Assigned) → IsSoundScan round.scan → IsSoundTarget target → IsAddress (ordinal_address target.block.cidr target.ordinal) → Follow round.next → IsSoundDone done → Tells (Comes IsSoundServed) (add.after_assign round target left done)
after_assign-tells round target left (Some done) scan sound address n fits = record {
  given = record { address = address; b = scan.b; c = scan.c; f = scan.f; p = scan.p; r = scan.r; w = fits };
  range = sound.range;
}
after_assign-tells round target left None scan sound address n fits = n left

take_in-tells : (round : Round) (left : Left) (found : ℕ × block.BlockValue) (ordinal : ℕ) → IsSoundAsker round.request → IsSoundScan round.scan → IsSoundRead (Some found) → Contains found.1.queue ordinal → Follow round.next → Tells (Comes IsSoundServed) (add.take_in round left (target_in found ordinal))
take_in-tells round left found ordinal named scan h queued n =
    let target = target_in found ordinal in
    let sound : IsSoundTarget target = record { range = h.0.block.range; revision = h.1 } in
    followed-tells IsSoundDone IsSoundServed (assign round.request.attributes target left) (add.after_assign round target) (assign-tells round.request.attributes target left named.id sound)
    (λ now done fits. after_assign-tells round target now done scan sound (queued-address found.1 ordinal h.0.block queued) n fits)

claim_in-tells : (round : Round) (left : Left) (slot : CidrValue) (read : BlockRead) → IsSoundAsker round.request → IsCidr slot → IsSoundRead read → Follow round.next → Tells (Comes IsSoundServed) (add.claim_in round left slot read)
claim_in-tells round left slot read named range h n =
    followed-tells Any IsSoundServed (claim_for round.request.node slot read left) (λ now done. round.next now) (claim_for-tells round.request.node slot read left named.node range h) (λ now done any. n now)

follow_rank-tells : (round : Round) (left : Left) (slot : CidrValue) (rank : Rank) → IsSoundAsker round.request → IsSoundScan round.scan → IsCidr slot → IsSoundRank rank → Follow round.next → Tells (Comes IsSoundServed) (add.follow_rank round left slot rank)
follow_rank-tells round left slot (Own found ordinal) named scan range h n = take_in-tells round left found ordinal named scan h.0 h.1 n
follow_rank-tells round left slot (Unconfirmed found) named scan range h n = claim_in-tells round left slot (Some found) named range h n
follow_rank-tells round left slot (Unclaimed read) named scan range h n = claim_in-tells round left slot read named range h n
follow_rank-tells round left slot (Foreign found ordinal) named scan range h n = take_in-tells round left found ordinal named scan h.0 h.1 n

follow_pick-tells : (round : Round) (left : Left) (pick : Pick) → ((ranked : Ranked) → pick ≡ Picks ranked → IsSoundPick ranked) → IsSoundAsker round.request → IsSoundScan round.scan → Follow round.next → Tells (Comes IsSoundServed) (add.follow_pick round left pick)
follow_pick-tells round left (Picks ranked) picked named scan n =
    let sound = picked ranked refl in
    follow_rank-tells round left ranked.slot ranked.rank named scan sound.range sound.rank n
follow_pick-tells round left Lacks picked named scan n = scan
follow_pick-tells round left (Unknown place) picked named scan n = scan.p

round-tells : (request : AddRequest) (family : Family) → IsSoundAsker request → (next : add.NextRound) (left : Left) → Follow next → Tells (Comes IsSoundServed) (add.round_of request family next left)
round-tells request family named next left n =
    five_reads-tells (Comes IsSoundServed) family (λ scan seen. add.follow_pick (record { request = request; scan = scan; next = next }) left (pick_of (add.asked_of request family) seen))
    (λ scan seen fits sound. follow_pick-tells (record { request = request; scan = scan; next = next }) left (pick_of (add.asked_of request family) seen) (λ ranked is. picked-sound (add.asked_of request family) seen ranked sound is) named fits n)

serve-tells : (request : AddRequest) (family : Family) (left : Left) → IsSoundAsker request → Tells (Comes IsSoundServed) (add.serve request family left)
serve-tells request family left named = rounds-tells IsSoundServed (add.round_of request family) (round-tells request family named) (left.races + left.claims) left

-- ---- each wanted family

add-stops : AreSoundStops AddAnswer SaysAdd add.add_stops
add-stops = record { again = λ lost claims few little. (few, little); full = tt; count_full = λ moment fits. fits; spent = tt }

refuse-tells : (request : AddRequest) (gifts : List Gift) (answer : AddAnswer) (left : Left) → IsSoundAsker request → AllByRecursion IsSoundGift gifts → SaysAdd answer → Tells (Comes SaysAdd) (add.refuse request gifts answer left)
refuse-tells request [] answer left named sound says = says
refuse-tells request (gift ∷ gifts) answer left named sound says =
    followed-tells Any SaysAdd (add.free_gift request gift left) (λ now amount. add.refuse request gifts answer now) (free-tells (freeing_one request.attributes.handle gift.block (gift.given.address.number - gift.block.base) gift.stamp) left (record { id = named.id; range = sound.0.range }))
    (λ now amount any. refuse-tells request gifts answer now named sound.1 says)

after_stop-tells : (request : AddRequest) (gifts : List Gift) (left : Left) (why : Stop) → IsSoundAsker request → AllByRecursion IsSoundGift gifts → IsSoundStop why → Tells (Comes SaysAdd) (add.after_stop request gifts left why)
after_stop-tells request gifts left OutOfTries named sound h = tt
after_stop-tells request gifts left OutOfClaims named sound h = tt
after_stop-tells request gifts left NoRoom named sound h = refuse-tells request gifts added.Full left named sound tt
after_stop-tells request gifts left (CountAtLimit moment) named sound h = refuse-tells request gifts (added.CountFull moment) left named sound h
after_stop-tells request gifts left NoRevisions named sound h = tt

after_family-tells : (request : AddRequest) (gifts : List Gift) (rest : Gift → Left → Part AddAnswer) (o : Outcome Served) → IsSoundAsker request → AllByRecursion IsSoundGift gifts → ((gift : Gift) (left : Left) → IsSoundGift gift → Tells (Comes SaysAdd) (rest gift left)) → Comes IsSoundServed o → Tells (Comes SaysAdd) (add.after_family request gifts rest o)
after_family-tells request gifts rest (Went left (Gave gift)) named sound r h = r gift left h
after_family-tells request gifts rest (Went left (Refused answer)) named sound r h = refuse-tells request gifts answer left named sound h
after_family-tells request gifts rest (Stops left why) named sound r h = after_stop-tells request gifts left why named sound h

one-more : {A : Type 0} → (P : A → Type 0) (all : List A) (one : A) → AllByRecursion P all → P one → AllByRecursion P (all ++ one ∷ [])
one-more P [] one h k = (k, tt)
one-more P (first ∷ all) one h k = (h.0, one-more P all one h.1 k)

givens-sound : (gifts : List Gift) → AllByRecursion IsSoundGift gifts → AllByRecursion IsSoundGiven (map (λ (gift : Gift). gift.given) gifts)
givens-sound [] h = tt
givens-sound (gift ∷ gifts) h = (h.0.given, givens-sound gifts h.1)

add_each-tells : (request : AddRequest) (gifts : List Gift) (families : List Family) (left : Left) → IsSoundAsker request → AllByRecursion IsSoundGift gifts → Tells (Comes SaysAdd) (add.add_each request gifts families left)
unfolding add.add_each
add_each-tells request gifts [] left named sound = givens-sound gifts sound
add_each-tells request gifts (family ∷ families) left named sound =
    bound-tells (Comes IsSoundServed) (Comes SaysAdd) (add.serve request family left) (add.after_family request gifts (λ gift now. add.add_each request (gifts ++ gift ∷ []) families now)) (serve-tells request family left named)
    (λ o h. after_family-tells request gifts (λ gift now. add.add_each request (gifts ++ gift ∷ []) families now) o named sound
    (λ gift now good. add_each-tells request (gifts ++ gift ∷ []) families now named (one-more IsSoundGift gifts gift sound good)) h)

add-tells : (request : AddRequest) → IsSoundAsker request → Tells SaysAdd (add.add_word request)
add-tells request named =
    settled-tells SaysAdd add.add_stops (add.add_each request [] (families_if request.ipv4 request.ipv6) all_left) add-stops
    (add_each-tells request [] (families_if request.ipv4 request.ipv6) all_left named tt)

-- ---- one address

abbrev SaysThis : AddThisAnswer → Type 0
SaysThis one = IsSoundAnswer (of_add_this one)

abbrev FollowThis : (Left → Part AddThisAnswer) → Type 0
FollowThis next = (now : Left) → Tells (Comes SaysThis) (next now)

-- the request's node and handle, and the address that it asks for
record IsSoundWanted (wanted : this.Wanted) : Type 0 where
  asker : IsSoundAsker wanted.request
  address : IsAddress wanted.address

-- the moments fit 64 bits, and the slot is a CIDR
record IsSoundLooked (looked : this.LookedAtBlock) : Type 0 where
  c : FitsIn64 looked.rules.c
  p : FitsIn64 looked.rules.p
  b : FitsIn64 looked.b
  range : IsCidr looked.cidr

this_assigned-tells : (wanted : this.Wanted) (next : this.NextThisRound) (looked : this.LookedAtBlock) (left : Left) (done : Option Assigned) → IsSoundWanted wanted → IsSoundLooked looked → FollowThis next → IsSoundDone done → Tells (Comes SaysThis) (this.this_assigned wanted next looked left done)
this_assigned-tells wanted next looked left (Some done) named sound n fits = record { address = named.address; b = sound.b; c = sound.c; p = sound.p; w = fits }
this_assigned-tells wanted next looked left None named sound n fits = n left

this_take-tells : (wanted : this.Wanted) (next : this.NextThisRound) (left : Left) (looked : this.LookedAtBlock) (found : ℕ × block.BlockValue) → IsSoundWanted wanted → IsSoundLooked looked → IsSoundRead (Some found) → FollowThis next → Tells (Comes SaysThis) (this.this_take wanted next left looked found)
this_take-tells wanted next left looked found named sound h n =
    let target = target_in found (wanted.address.number - looked.cidr.base) in
    followed-tells IsSoundDone SaysThis (assign wanted.request.attributes target left) (this.this_assigned wanted next looked)
    (assign-tells wanted.request.attributes target left named.asker.id (record { range = h.0.block.range; revision = h.1 }))
    (λ now done fits. this_assigned-tells wanted next looked now done named sound n fits)

this_claim-tells : (wanted : this.Wanted) (next : this.NextThisRound) (left : Left) (looked : this.LookedAtBlock) (read : BlockRead) → IsSoundWanted wanted → IsSoundLooked looked → IsSoundRead read → FollowThis next → Tells (Comes SaysThis) (this.this_claim wanted next left looked read)
this_claim-tells wanted next left looked read named sound h n =
    followed-tells Any SaysThis (claim_for wanted.request.node looked.cidr read left) (λ now done. next now) (claim_for-tells wanted.request.node looked.cidr read left named.asker.node sound.range h) (λ now done any. n now)

this_free-tells : (wanted : this.Wanted) (next : this.NextThisRound) (left : Left) (looked : this.LookedAtBlock) (found : ℕ × block.BlockValue) → IsSoundWanted wanted → IsSoundLooked looked → IsSoundRead (Some found) → FollowThis next → Tells (Comes SaysThis) (this.this_free wanted next left looked found)
this_free-tells wanted next left looked found named sound h n = from (share_of looked.rules.config.strict wanted.request.node found.1)
  where
    from : (share : Share) → Tells (Comes SaysThis) (by_share share (this.this_take wanted next left looked found) (this.this_claim wanted next left looked (Some found)) (goes left (add_this.NotAffine looked.cidr looked.b)))
    from Takes = this_take-tells wanted next left looked found named sound h n
    from Claims = this_claim-tells wanted next left looked (Some found) named sound h n
    from Leaves = (sound.range, sound.b)

this_held-tells : (free : Part AddThisAnswer) (left : Left) (looked : this.LookedAtBlock) (held : Option Allocation) → IsSoundLooked looked → Tells (Comes SaysThis) free → Tells (Comes SaysThis) (this.this_held free left looked held)
this_held-tells free left looked None sound h = h
this_held-tells free left looked (Some held) sound h = sound.b

this_block-tells : (wanted : this.Wanted) (next : this.NextThisRound) (left : Left) (looked : this.LookedAtBlock) (read : BlockRead) → IsSoundWanted wanted → IsSoundLooked looked → IsSoundRead read → FollowThis next → Tells (Comes SaysThis) (this.this_block wanted next left looked read)
this_block-tells wanted next left looked None named sound h n = this_claim-tells wanted next left looked None named sound h n
this_block-tells wanted next left looked (Some found) named sound h n =
    this_held-tells (this.this_free wanted next left looked found) left looked (holder found.1 (wanted.address.number - looked.cidr.base)) sound
    (this_free-tells wanted next left looked found named sound h n)

this_in_pool-tells : (wanted : this.Wanted) (next : this.NextThisRound) (left : Left) (rules : this.RulesRead) (pools : List Pool) (pool : Option Pool) → IsSoundWanted wanted → FitsIn64 rules.c → FitsIn64 rules.p → HaveSlots pools → IsHolding pools wanted.address pool → FollowThis next → Tells (Comes SaysThis) (this.this_in_pool wanted next left rules pool)
this_in_pool-tells wanted next left rules pools None named first second have holds n = second
this_in_pool-tells wanted next left rules pools (Some pool) named first second have holds n =
    let range = holding-range pools pool wanted.address have holds.0 holds.1 in (
      range,
      λ b said third told. this_block-tells wanted next left (record { rules = rules; cidr = this.slot_holding pool wanted.address; b = b }) (block_said said) named
          (record { c = first; p = second; b = third; range = range }) (block_said-sound said told) n,
    )

this_round-tells : (wanted : this.Wanted) → IsSoundWanted wanted → (next : this.NextThisRound) (left : Left) → FollowThis next → Tells (Comes SaysThis) (this.this_round wanted next left)
this_round-tells wanted named next left n = (
  tt,
  λ c config first one. (
    tt,
    λ p pools second two.
        let asked = this.asked_of_this wanted.request wanted.address in
        this_in_pool-tells wanted next left (record { config = config_said config; c = c; p = p }) (pools_said pools) (usable_pool_of asked wanted.address (pools_said pools)) named first second
        (pools_said-slots pools two) (usable-holding asked wanted.address (pools_said pools)) n,
  ),
)

add_this-tells : (request : AddRequest) (address : AddrValue) → IsSoundAsker request → IsAddress address → Tells SaysThis (this.add_this_word request address)
add_this-tells request address named is =
    let wanted : this.Wanted = record { request = request; address = address } in
    settled-tells SaysThis this.add_this_stops (in_rounds (this.this_round wanted) all_left)
    (record { again = λ lost claims few little. (few, little); full = tt; count_full = λ moment fits. fits; spent = tt })
    (rounds-tells SaysThis (this.this_round wanted) (this_round-tells wanted (record { asker = named; address = is })) 126 all_left)

-- ---- DEL

abbrev SaysDel : DelAnswer → Type 0
SaysDel one = IsSoundAnswer (of_del one)

del_blocks-tells : (id : List ℕ) (moment : ℕ) (blocks : List CidrValue) (left : Left) → IsHandleId id → FitsIn64 moment → AllByRecursion IsCidr blocks → Tells (Comes SaysDel) (remove.del_blocks id moment blocks left)
unfolding remove.del_blocks
del_blocks-tells id moment [] left named fits sound = fits
del_blocks-tells id moment (cidr ∷ rest) left named fits sound =
    followed-tells Any SaysDel (free (freeing_all id cidr) left) (λ now amount. remove.del_blocks id moment rest now) (free-tells (freeing_all id cidr) left (record { id = named; range = sound.0 }))
    (λ now amount any. del_blocks-tells id moment rest now named fits sound.1)

counted-ranges : (counts : List (CidrValue × ℕ)) → AllByRecursion (λ (count : CidrValue × ℕ). IsBlockCidr count.0) counts → AllByRecursion IsCidr (map (λ (count : CidrValue × ℕ). count.0) counts)
counted-ranges [] h = tt
counted-ranges (count ∷ counts) h = (h.0.range, counted-ranges counts h.1)

handle_said-ranges : (id : List ℕ) (said : Said) → IsSoundSaid said → AllByRecursion IsCidr (map (λ (count : CidrValue × ℕ). count.0) (handle_said id said).counts)
handle_said-ranges id (Found revision (record_of.Handle found)) told = counted-ranges found.counts (recursion_from_All _ found.counts told.0.ranges)
handle_said-ranges id other told = tt

del-tells : (id : List ℕ) → IsHandleId id → Tells SaysDel (remove.del_word id)
del-tells id named = (
  named,
  λ moment said fits told.
      let blocks = map (λ (count : CidrValue × ℕ). count.0) (handle_said id said).counts in
      settled-tells SaysDel remove.del_stops (remove.del_blocks id moment blocks all_left)
      (record { again = λ lost claims few little. (few, omega arith); full = tt; count_full = λ at few. tt; spent = tt })
      (del_blocks-tells id moment blocks all_left named fits (handle_said-ranges id said told)),
)

-- ---- collection

abbrev SaysCollect : CollectAnswer → Type 0
SaysCollect one = IsSoundAnswer (of_collect one)

record IsSoundLeak (leak : remove.Leak) : Type 0 where
  id : IsHandleId leak.owner.handle
  range : IsCidr leak.block
  address : IsAddress leak.owner.address
  stamp : FitsIn64 leak.owner.stamp

with-item : (done : Collected) (item : Item) → IsSoundCollection done → IsSoundItem item → IsSoundCollection (remove.with_item done item)
with-item done item h k = record { b1 = h.b1; b2 = h.b2; items = one-more IsSoundItem done.items item h.items k }

free_leaks-tells : (done : Collected) (leaks : List remove.Leak) (left : Left) → IsSoundCollection done → AllByRecursion IsSoundLeak leaks → Tells (Comes SaysCollect) (remove.free_leaks done leaks left)
unfolding remove.free_leaks
free_leaks-tells done [] left sound h = sound
free_leaks-tells done (leak ∷ rest) left sound h =
    followed-tells Any SaysCollect (free (remove.freeing_owner leak.owner leak.block) left) (λ now amount. remove.free_leaks (remove.with_item done (remove.item_of leak amount)) rest now)
    (free-tells (remove.freeing_owner leak.owner leak.block) left (record { id = h.0.id; range = h.0.range }))
    (λ now amount any. free_leaks-tells (remove.with_item done (remove.item_of leak amount)) rest now
    (with-item done (remove.item_of leak amount) sound (record { address = h.0.address; stamp = h.0.stamp })) h.1)

-- what is held of a block: an id, an ordinal of the block and a stamp
record IsHeldIn (b : block.BlockValue) (a : Allocation) : Type 0 where
  id : IsHandleId a.attributes.handle
  within : a.ordinal < cidr_size b.cidr
  stamp : FitsIn64 a.stamp

leaks_of-sound : (request : CollectRequest) (b : block.BlockValue) (held : List Allocation) → IsCidr b.cidr → AllByRecursion (IsHeldIn b) held → AllByRecursion IsSoundLeak (map (remove.leak_of b.cidr) (filter (remove.may_leak request) held))
leaks_of-sound request b [] range h = tt
leaks_of-sound request b (a ∷ held) range h = from (remove.may_leak request a) (leaks_of-sound request b held range h.1)
  where
    from : (t : Bool) → AllByRecursion IsSoundLeak (map (remove.leak_of b.cidr) (filter (remove.may_leak request) held)) → AllByRecursion IsSoundLeak (map (remove.leak_of b.cidr) (cond t (a ∷ filter (remove.may_leak request) held) (filter (remove.may_leak request) held)))
    from true rest = (record { id = h.0.id; range = range; address = ordinal-address b.cidr a.ordinal range h.0.within; stamp = h.0.stamp }, rest)
    from false rest = rest

first-all : {A : Type 0} → (P : A → Type 0) (xs ys : List A) → AllByRecursion P (xs ++ ys) → AllByRecursion P xs
first-all P [] ys h = tt
first-all P (x ∷ xs) ys h = (h.0, first-all P xs ys h.1)

holdings : (b : block.BlockValue) (held : List Allocation) → FitsIn64 b.sequence → AllByRecursion (λ (a : Allocation). AreAttributes a.attributes) held → AllByRecursion (λ (a : Allocation). (0 < a.stamp) × (a.stamp ≤ b.sequence)) held → AllByRecursion (λ (o : ℕ). o < cidr_size b.cidr) (held_ordinals held) → AllByRecursion (IsHeldIn b) held
holdings b [] fits named stamped within = tt
holdings b (a ∷ held) fits named stamped within =
    let most = stamped.0.1 in
    (record { id = named.0.id; within = within.0; stamp = omega (arith, most, fits) }, holdings b held fits named.1 stamped.1 within.1)

in_row-sound : (request : CollectRequest) (row : StoredRecord) → IsSoundRow row → AllByRecursion IsSoundLeak (remove.leaks_in_row request row)
in_row-sound request (revision, record_of.Block b) sound =
    let is : IsBlockRecord b = sound.0 in
    let shared = recursion_from_All (λ (o : ℕ). o < cidr_size b.cidr) (held_ordinals b.allocations ++ b.queue) (shared-below b is.block) in
    leaks_of-sound request b b.allocations is.block.range
    (holdings b b.allocations is.counted (recursion_from_All _ b.allocations is.attributes) (recursion_from_All _ b.allocations is.block.stamped) (first-all (λ (o : ℕ). o < cidr_size b.cidr) (held_ordinals b.allocations) b.queue shared))
in_row-sound request (revision, record_of.Config config) sound = tt
in_row-sound request (revision, record_of.Pools pools) sound = tt
in_row-sound request (revision, record_of.Reservations reservations) sound = tt
in_row-sound request (revision, record_of.Affinity a) sound = tt
in_row-sound request (revision, record_of.Handle found) sound = tt

both-sound : (leaks others : List remove.Leak) → AllByRecursion IsSoundLeak leaks → AllByRecursion IsSoundLeak others → AllByRecursion IsSoundLeak (leaks ++ others)
both-sound [] others h k = k
both-sound (leak ∷ leaks) others h k = (h.0, both-sound leaks others h.1 k)

suspects-sound : (request : CollectRequest) (rows : List StoredRecord) → AllByRecursion IsSoundRow rows → AllByRecursion IsSoundLeak (remove.suspects request rows)
suspects-sound request [] sound = tt
suspects-sound request (row ∷ rows) sound =
    both-sound (remove.leaks_in_row request row) (remove.suspects request rows) (in_row-sound request row sound.0) (suspects-sound request rows sound.1)

leaks-sound : (kept : List remove.Leak) (live : List (List ℕ)) (rows : List StoredRecord) → AllByRecursion IsSoundLeak kept → AllByRecursion IsSoundLeak (remove.leaks kept live rows)
leaks-sound [] live rows h = tt
leaks-sound (leak ∷ kept) live rows h = from (is_owner_in rows leak.owner && not (remove.is_live live leak.owner.handle)) (leaks-sound kept live rows h.1)
  where
    from : (t : Bool) → AllByRecursion IsSoundLeak (remove.leaks kept live rows) → AllByRecursion IsSoundLeak (cond t (leak ∷ remove.leaks kept live rows) (remove.leaks kept live rows))
    from true rest = (h.0, rest)
    from false rest = rest

collect-tells : (request : CollectRequest) → Tells SaysCollect (remove.collect_word request)
collect-tells request = (
  tt,
  λ b1 first fits one live. (
    tt,
    λ b2 second also two.
        let leaks = remove.leaks (remove.suspects request (rows_said first)) live (rows_said second) in
        let done : Collected = record { b1 = b1; b2 = b2; items = [] } in
        settled-tells SaysCollect remove.collect_stops (remove.free_leaks done leaks all_left)
        (record { again = λ lost claims few little. (few, omega arith); full = tt; count_full = λ at few. tt; spent = tt })
        (free_leaks-tells done leaks all_left (record { b1 = fits; b2 = also; items = tt })
        (leaks-sound (remove.suspects request (rows_said first)) live (rows_said second) (suspects-sound request (rows_said first) (rows_said-sound first one)))),
  ),
)

-- ---- CHECK

abbrev SaysCheck : CheckAnswer → Type 0
SaysCheck one = IsSoundAnswer (of_check one)

check_held-tells : (rest : Word CheckAnswer) (address : AddrValue) (moment : ℕ) (held : Bool) → IsAddress address → FitsIn64 moment → Tells SaysCheck rest → Tells SaysCheck (look.check_held rest address moment held)
check_held-tells rest address moment true is fits h = h
check_held-tells rest address moment false is fits h = (is, fits)

check_in_pool-tells : (rest : Word CheckAnswer) (id : List ℕ) (address : AddrValue) (p : ℕ) (pools : List Pool) (pool : Option Pool) → IsAddress address → FitsIn64 p → HaveSlots pools → IsHolding pools address pool → Tells SaysCheck rest → Tells SaysCheck (look.check_in_pool rest id address p pool)
check_in_pool-tells rest id address p pools None is fits have holds h = (is, fits)
check_in_pool-tells rest id address p pools (Some pool) is fits have holds h =
    (holding-range pools pool address have holds.0 holds.1, λ moment said also told. check_held-tells rest address moment _ is also h)

check_each-tells : (id : List ℕ) (p : ℕ) (pools : List Pool) (addresses : List AddrValue) → FitsIn64 p → HaveSlots pools → AllByRecursion IsAddress addresses → Tells SaysCheck (look.check_each id p pools addresses)
unfolding look.check_each
check_each-tells id p pools [] fits have are = tt
check_each-tells id p pools (address ∷ rest) fits have are =
    check_in_pool-tells (look.check_each id p pools rest) id address p pools (pool_of address pools) are.0 fits have (pool-holding address pools) (check_each-tells id p pools rest fits have are.1)

check-tells : (id : List ℕ) (addresses : List AddrValue) → AllByRecursion IsAddress addresses → Tells SaysCheck (look.check_word id addresses)
check-tells id addresses are = (tt, λ p said fits told. check_each-tells id p (pools_said said) addresses fits (pools_said-slots said told) are)

-- ---- administration

abbrev SaysChange : AdminAnswer → Type 0
SaysChange one = IsSoundAnswer (of_admin one)

changed-key : (request : Setting) → IsKey (change.key_changed request)
changed-key (setting.Pool pool) = tt
changed-key (setting.Disable name disabled) = tt
changed-key (setting.Reserve reservation) = tt
changed-key (setting.Unreserve name) = tt
changed-key (setting.Config config) = tt

-- the record that a change makes is that of its key
becomes-key : (request : Setting) (said : Said) (new : Record) → change.admin_change request said ≡ change.Becomes new → IsKey (key_of new)
becomes-key request said new e = subst (λ (k : Key). IsKey k) (sym (key-changed request said new e)) (changed-key request)

-- the number of a refusal is small
abbrev IsSoundChanged : change.Changed → Type 0
IsSoundChanged (change.Becomes new) = Unit {0}
IsSoundChanged (change.Refuses number name) = FitsIn64 number

pool_refused-sound : (pools : List Pool) (pool : Pool) (refusal : PoolRefusal) → IsSoundChanged (change.pool_refused pools pool refusal)
pool_refused-sound pools pool refused.NameTaken = omega arith
pool_refused-sound pools pool (refused.Overlap place) = omega arith
pool_refused-sound pools pool refused.Size = omega arith
pool_refused-sound pools pool refused.Prefix = omega arith
pool_refused-sound pools pool _ = omega arith

pool_appended-sound : (pools : List Pool) (pool : Pool) (refusal : Option PoolRefusal) → IsSoundChanged (change.pool_appended pools pool refusal)
pool_appended-sound pools pool None = tt
pool_appended-sound pools pool (Some refusal) = pool_refused-sound pools pool refusal

by-test : (t : Bool) (one other : change.Changed) → IsSoundChanged one → IsSoundChanged other → IsSoundChanged (cond t one other)
by-test true one other h k = h
by-test false one other h k = k

changed-sound : (request : Setting) (said : Said) → IsSoundChanged (change.admin_change request said)
changed-sound (setting.Pool pool) said =
    let pools = pools_said said in
    by-test (list_any (change.is_same_pool pool) pools) (change.Becomes (record_of.Pools (with_rules pool.name pool.disabled pool.mode pool.selector pools)))
    (change.pool_appended pools pool (refusal_of pools pool)) tt (pool_appended-sound pools pool (refusal_of pools pool))
changed-sound (setting.Disable name disabled) said =
    let pools = pools_said said in
    by-test (list_any (has_name name) pools) (change.Becomes (record_of.Pools (with_disabled name disabled pools))) (change.Refuses 6 name) tt (omega arith)
changed-sound (setting.Reserve new) said =
    let list = reservations_said said in
    let appended = change.Becomes (record_of.Reservations (list ++ new ∷ [])) in
    by-test (list_any (change.is_named new.name) list) (change.Becomes (record_of.Reservations (change.with_reservation new list)))
    (cond (nat_le change.most_reservations (length list)) (change.Refuses 7 new.name) appended) tt
    (by-test (nat_le change.most_reservations (length list)) (change.Refuses 7 new.name) appended (omega arith) tt)
changed-sound (setting.Unreserve name) said =
    let list = reservations_said said in
    by-test (list_any (change.is_named name) list) (change.Becomes (record_of.Reservations (filter (λ r. not (change.is_named name r)) list))) (change.Refuses 8 name) tt (omega arith)
changed-sound (setting.Config config) said = tt

admin_write-tells : (again : Part AdminAnswer) (left : Left) (said : Said) (changed : change.Changed) → IsSoundSaid said → ((new : Record) → changed ≡ change.Becomes new → IsKey (key_of new)) → IsSoundChanged changed → Tells (Comes SaysChange) again → Tells (Comes SaysChange) (change.admin_write again left said changed)
admin_write-tells again left said (change.Becomes new) told key small h = (
  write_back-sound said new told (key new refl),
  λ moment reply fits answered. on_write-tells SaysChange reply left (λ revision. goes left (admin.Done revision)) again answered (λ revision few. few) h,
)
admin_write-tells again left said (change.Refuses number name) told key small h = small

admin_once-tells : (request : Setting) (again : Part AdminAnswer) (left : Left) → Tells (Comes SaysChange) again → Tells (Comes SaysChange) (change.admin_once request again left)
admin_once-tells request again left h =
    (changed-key request, λ moment said fits told. admin_write-tells again left said (change.admin_change request said) told (becomes-key request said) (changed-sound request said) h)

admin-tells : (request : Setting) → Tells SaysChange (change.admin_word request)
admin-tells request =
    settled-tells SaysChange change.admin_stops (with_retries (change.admin_once request) all_left)
    (record { again = λ lost claims few little. (few, omega arith); full = tt; count_full = λ at few. tt; spent = tt })
    (tries-tells SaysChange (change.admin_once request) (admin_once-tells request) 63 63)

-- ---- the probe

abbrev SaysProbe : ProbeAnswer → Type 0
SaysProbe one = IsSoundAnswer (of_probe one)

probe_choice-tells : (rest : Word ProbeAnswer) (request : ProbeRequest) (family : Family) (scan : Scan) (choice : Choice) → IsSoundScan scan → Tells SaysProbe rest → Tells SaysProbe (look.probe_choice rest (look.asked_of_probe request family) scan choice)
probe_choice-tells rest request family scan Nothing sound h = sound
probe_choice-tells rest request family scan (NoPool place) sound h = sound.p
probe_choice-tells rest request family scan (Use cidr ordinal) sound h = h
probe_choice-tells rest request family scan (Claim cidr) sound h = h
probe_choice-tells rest request family scan (Borrow cidr ordinal) sound h = h

probe_each-tells : (request : ProbeRequest) (scans : List Scan) (families : List Family) → AllByRecursion IsSoundScan scans → Tells SaysProbe (look.probe_each request scans families)
unfolding look.probe_each
probe_each-tells request scans [] sound = sound
probe_each-tells request scans (family ∷ families) sound =
    five_reads-tells SaysProbe family (λ scan seen. look.probe_choice (look.probe_each request (scans ++ scan ∷ []) families) (look.asked_of_probe request family) scan (choice_of (look.asked_of_probe request family) seen))
    (λ scan seen fits was. probe_choice-tells (look.probe_each request (scans ++ scan ∷ []) families) request family scan (choice_of (look.asked_of_probe request family) seen) fits
    (probe_each-tells request (scans ++ scan ∷ []) families (one-more IsSoundScan scans scan sound fits)))

-- ---- all of them

told-tells : {A : Type 0} → (of_one : A → Answer) (w : Word A) → Tells (λ one. IsSoundAnswer (of_one one)) w → Tells IsSoundAnswer (told_as of_one w)
told-tells of_one w h = bound-tells (λ one. IsSoundAnswer (of_one one)) IsSoundAnswer w (λ one. Ends (of_one one)) h (λ one says. says)

pub word-tells : (request : Request) → IsSoundRequest request → Tells IsSoundAnswer (word_of request)
unfolding word_of
word-tells (Add request) sound = told-tells of_add (add.add_word request) (add-tells request (record { node = sound.0.node; id = sound.0.attributes.id }))
word-tells (AddThis request address) sound = told-tells of_add_this (this.add_this_word request address) (add_this-tells request address (record { node = sound.0.node; id = sound.0.attributes.id }) sound.1)
word-tells (Del id) sound = told-tells of_del (remove.del_word id) (del-tells id sound)
word-tells (Check id addresses) sound = told-tells of_check (look.check_word id addresses) (check-tells id addresses (recursion_from_All IsAddress addresses sound.2))
word-tells (Release node cidr) sound = told-tells of_release (release node cidr) (release-tells node cidr sound.0 sound.1)
word-tells (Collect request) sound = told-tells of_collect (remove.collect_word request) (collect-tells request)
word-tells (Admin request) sound = told-tells of_admin (change.admin_word request) (admin-tells request)
word-tells (Probe request) sound = told-tells of_probe (look.probe_word request) (probe_each-tells request [] (families_if request.ipv4 request.ipv6) tt)
