-- Assigning, claiming and the rounds of an ADD take steps of their kinds.
use Rattle.std.proofs.lemmas.Slice.Eq.{bytes_eq-Decides}
use Rattle.std.proofs.Common.{◌≡◌, ◌⊎◌, ℕ, zero, suc, ◌+◌, inl, inr, Bool, true, false, cond, List, [], ◌∷◌, Option, Some, None, refl, sym, ap, ◌∙◌, subst}
use Rattle.std.specs.Prelude.{Contains, MatchOption, not, ◌&&◌}
use Rattle.std.specs.List.{find, filter, list_any}
use Rattle.ipam_addr.specs.declared.address.Family.{Family}
use Rattle.ipam_addr.specs.Shape.{CidrValue}
use Rattle.ipam_block.specs.declared.allocation.Attributes.{Attributes}
use Rattle.ipam_block.specs.Shape as block
use Rattle.ipam_block.specs.Operations.{ordinal_address}
use Rattle.ipam_pool.specs.declared.pools.Pool.{Pool}
use Rattle.ipam_pool.specs.Slots.{IsSlotOf}
use Rattle.ipam_records.specs.declared.key.Key.TheVariants as key
use Rattle.ipam_records.specs.declared.key.Kind.TheVariants as kind
use Rattle.ipam_records.specs.declared.record.Record.{Record}
use Rattle.ipam_records.specs.declared.record.Record.TheVariants as record_of
use Rattle.ipam_records.specs.declared.call.Call.TheVariants as call
use Rattle.ipam_records.specs.Datastore.{Datastore, reply_of, reply_to_get, row_of, row_key, rows_of_kind}
use Rattle.ipam_records.specs.KeyOrder.{is_of_kind}
use Rattle.ipam_records.specs.Label.{idle}
use Rattle.ipam_records.specs.Said.{Said, Listed}
use Rattle.ipam_records.specs.Word.{Word, Ends, Asks, bound}
use Rattle.ipam_records.proofs.DatastoreLemmas.{row_key-row_of}
use Rattle.ipam_records.specs.Sound.{IsName, AreAttributes}
use Rattle.ipam_model.specs.SoundRequest.{IsSoundAdd}
use Rattle.ipam_model.specs.declared.answer.Scan.{Scan}
use Rattle.ipam_model.specs.declared.choice.Choice.TheVariants.{NoPool}
use Rattle.ipam_model.specs.declared.outcome.ClaimAnswer.{ClaimAnswer}
use Rattle.ipam_model.specs.declared.outcome.ClaimAnswer.TheVariants as claimed
use Rattle.ipam_model.specs.declared.request.AddRequest.{AddRequest}
use Rattle.ipam_model.specs.Add as add
use Rattle.ipam_model.specs.Add.{five_reads, Round}
use Rattle.ipam_model.specs.Affinities.{BlockRead, claim}
use Rattle.ipam_model.specs.AffinityLaw.{HasAt}
use Rattle.ipam_model.specs.Assigning.{Target, target_in, assign, assign_block, after_claim, claim_for}
use Rattle.ipam_model.specs.Choice.{Ranked, IsBest, choice_in, choice_of, is_reserved, Seen, is_block_at, block_in_found, block_at, is_unowned_and_empty, is_confirmed_for, may_claim, room_of, has_free_address, Rank, Own, Unconfirmed, Unclaimed, Foreign, rank_of_block, rank_at, Pick, Unknown, Lacks, Picks, pick_of}
use Rattle.ipam_model.proofs.ChoiceLemmas.{choice_is, pick-ranked}
use Rattle.ipam_model.specs.Counting.{raise}
use Rattle.ipam_model.specs.Reads.{StoredRecord, pools_said, rows_said}
use Rattle.ipam_model.specs.declared.part.Left.{Left}
use Rattle.ipam_model.specs.declared.part.Outcome.{Outcome}
use Rattle.ipam_model.specs.declared.part.Stop.TheVariants.{OutOfTries}
use Rattle.ipam_model.specs.declared.part.Outcome.TheVariants.{Went, Stops}
use Rattle.ipam_model.specs.Step.{left_of, Part, StopAnswers, answer_of, as_word, stops, onward, part_then, rounds}
use Rattle.ipam_model.specs.Usable.{Asked, unknown_name, is_same_cidr}
use Rattle.ipam_laws.proofs.SeenReads.{seen_by_replies}
use Rattle.ipam_laws.proofs.ChosenSlots.{chosen-slot, slot_in}
use Rattle.ipam_laws.proofs.Lift.{Known, more, Grows, label_to, Meets-bound, label_to-bound}
use Rattle.ipam_laws.proofs.Calls.{found-block, get-meets, list-meets}
use Rattle.ipam_laws.proofs.Members.{in-find, in-nothing, in-place}
use Rattle.ipam_laws.proofs.Steps.{IsKnownBlock, IsKnownPool, IsKnownSlot, IsClaimable, IsFree, IsCountable, known-pool-grows, free-grows, Step, Idles}
use Rattle.ipam_laws.proofs.PartSteps.{Any, still, Steps, raised_label, raise-label, raise-steps}
use Rattle.ipam_laws.proofs.WriteSteps.{claim-steps, claim-label, assign_block-steps}
use Rattle.ipam_records.specs.BlockLists.{is_node}

-- a word that stands nowhere at first, and takes its steps with this known
abbrev pub Keeps : {A : Type 0} → Known → Word A → Type 0
Keeps known word = (label_to still word ≡ idle) × Steps still known word

-- the first label of a word after another that stands nowhere
behind-label : {A B : Type 0} → (w : Word A) (follows : A → Word B) → label_to still w ≡ idle → ((a : A) → idle ≡ label_to still (follows a)) → label_to still (bound w follows) ≡ idle
behind-label w follows label labels = sym (label_to-bound Step still still follows labels w) ∙ label

-- a word after one that ends idle
pub bound-keeps : {A B : Type 0} → (w : Word A) (follows : A → Word B) (known : Known) → Keeps known w → ((a : A) → idle ≡ label_to still (follows a)) → ((other : Known) (a : A) → Grows known other → Steps still other (follows a)) → Keeps known (bound w follows)
bound-keeps w follows known h labels k = (
  behind-label w follows h.0 labels,
  Meets-bound Step still still Any Any follows labels w known h.1 (λ other a grows t. k other a grows),
)

-- a word that stands nowhere at first, and takes its steps whatever is known
abbrev pub Lawful : {A : Type 0} → Word A → Type 1
Lawful word = (known : Known) → (label_to still word ≡ idle) × Steps still known word

-- what follows an answer
abbrev pub LawfulAfter : {A B : Type 0} → (A → Word B) → Type 1
LawfulAfter {A} follows = (a : A) → Lawful (follows a)

-- what follows what a part came to
abbrev pub LawfulOn : {A B : Type 0} → (Left → A → Part B) → Type 1
LawfulOn {A} follows = (left : Left) (a : A) → Lawful (follows left a)

-- the rounds that follow
abbrev pub LawfulNext : {A : Type 0} → (Left → Part A) → Type 1
LawfulNext next = (left : Left) → Lawful (next left)

nothing_known : Known
nothing_known = λ k r f. ⊥

pub onward-lawful : {A B : Type 0} → (follows : Left → A → Part B) → LawfulOn follows → LawfulAfter (onward follows)
onward-lawful follows h (Went left a) known = h left a known
onward-lawful follows h (Stops left why) known = (refl, tt)

pub lawful-behind : {A B : Type 0} → (w : Word A) (follows : A → Word B) (known : Known) → Keeps known w → LawfulAfter follows → Keeps known (bound w follows)
lawful-behind w follows known h k =
    bound-keeps w follows known h (λ a. sym (k a nothing_known).0) (λ other a grows. (k a other).1)

pub lawful-both : {A B : Type 0} → (w : Word A) (follows : A → Word B) → Lawful w → LawfulAfter follows → Lawful (bound w follows)
lawful-both w follows h k known = lawful-behind w follows known (h known) k

pub followed-keeps : {A B : Type 0} → (part : Part A) (follows : Left → A → Part B) (known : Known) → Keeps known part → LawfulOn follows → Keeps known (part_then part follows)
followed-keeps part follows known h k = lawful-behind part (onward follows) known h (onward-lawful follows k)

pub followed-lawful : {A B : Type 0} → (part : Part A) (follows : Left → A → Part B) → Lawful part → LawfulOn follows → Lawful (part_then part follows)
followed-lawful part follows h k = lawful-both part (onward follows) h (onward-lawful follows k)

pub settled-lawful : {A : Type 0} → (answers : StopAnswers A) (part : Part A) → Lawful part → Lawful (as_word answers part)
settled-lawful answers part h = lawful-both part (λ outcome. Ends (answer_of answers outcome)) h (λ outcome known. (refl, tt))

pub rounds-lawful : {A : Type 0} → (round : (Left → Part A) → Left → Part A) → ((next : Left → Part A) → LawfulNext next → LawfulNext (round next)) → (many : ℕ) → LawfulNext (rounds round many)
unfolding rounds
rounds-lawful round h zero left = h (λ now. stops now OutOfTries) (λ now known. (refl, tt)) left
rounds-lawful round h (suc many) left = h (rounds round many) (rounds-lawful round h many) left

-- ---- blocks that were listed

pub listed-block : (rows : List StoredRecord) (cidr : CidrValue) → find (is_block_at cidr) (filter (λ row. is_of_kind kind.Block (row_key row)) rows) ≡ row_of (key.Block cidr) rows
listed-block [] cidr = refl
listed-block ((revision, record_of.Block b) ∷ rows) cidr = ap (λ o. cond (is_same_cidr b.cidr cidr) (Some (revision, record_of.Block b)) o) (listed-block rows cidr)
listed-block ((revision, record_of.Config config) ∷ rows) cidr = listed-block rows cidr
listed-block ((revision, record_of.Pools pools) ∷ rows) cidr = listed-block rows cidr
listed-block ((revision, record_of.Reservations reservations) ∷ rows) cidr = listed-block rows cidr
listed-block ((revision, record_of.Affinity a) ∷ rows) cidr = listed-block rows cidr
listed-block ((revision, record_of.Handle h) ∷ rows) cidr = listed-block rows cidr

-- each block and each pool that was seen is known
pub record SeenKnown (known : Known) (seen : Seen) : Type 0 where
  pub blocks : (cidr : CidrValue) → IsKnownBlock known cidr (block_at seen cidr)
  pub pools : (pool : Pool) → Contains seen.pools pool → IsKnownPool known pool

-- the pools that were read are known
abbrev pub ArePoolsKnown : Known → Said → Type 0
ArePoolsKnown known said = (pool : Pool) → Contains (pools_said said) pool → IsKnownPool known pool

pub pools-known-grow : (known other : Known) (said : Said) → Grows known other → ArePoolsKnown known said → ArePoolsKnown other said
pools-known-grow known other said grows h pool there = known-pool-grows known other pool grows (h pool there)

pub pools-read : (known : Known) (store : Datastore) → ArePoolsKnown (more known store store) (reply_to_get (row_of key.Pools store.rows))
pools-read known store = from (row_of key.Pools store.rows) refl
  where
    from : (o : Option StoredRecord) → row_of key.Pools store.rows ≡ o → ArePoolsKnown (more known store store) (reply_to_get o)
    from None e pool there = absurd (in-nothing pool there)
    from (Some (revision, record_of.Pools pools)) e pool there = (revision, pools, inr (inl e), there)
    from (Some (revision, record_of.Config config)) e pool there = absurd (in-nothing pool there)
    from (Some (revision, record_of.Reservations reservations)) e pool there = absurd (in-nothing pool there)
    from (Some (revision, record_of.Block b)) e pool there = absurd (in-nothing pool there)
    from (Some (revision, record_of.Affinity a)) e pool there = absurd (in-nothing pool there)
    from (Some (revision, record_of.Handle h)) e pool there = absurd (in-nothing pool there)

found-known : (known : Known) (store : Datastore) (cidr : CidrValue) (o : Option StoredRecord) → row_of (key.Block cidr) store.rows ≡ o → IsKnownBlock (more known store store) cidr (block_in_found o)
found-known known store cidr None e = tt
found-known known store cidr (Some row) e =
    let (b, is, same) = found-block cidr row.1 (row_key-row_of (key.Block cidr) store.rows row e) in
    let there : HasAt store (key.Block cidr) row.0 (record_of.Block b) = e ∙ ap (λ (x : Record). Some (row.0, x)) is in
    subst (λ (x : Record). IsKnownBlock (more known store store) cidr (block_in_found (Some (row.0, x)))) (sym is) (same, inr (inl there))

listed-known : (known : Known) (store : Datastore) (cidr : CidrValue) → IsKnownBlock (more known store store) cidr (block_in_found (find (is_block_at cidr) (rows_said (Listed (rows_of_kind kind.Block store)))))
listed-known known store cidr =
    subst (λ (o : Option StoredRecord). IsKnownBlock (more known store store) cidr (block_in_found o)) (sym (listed-block store.rows cidr))
    (found-known known store cidr (row_of (key.Block cidr) store.rows) refl)

-- the word of a round after each of its reads
abbrev behind_4 : {A : Type 0} → Family → (Scan → Seen → Word A) → (c p r f : ℕ) → (config pools reservations affinities : Said) → Word A
behind_4 family follows c p r f config pools reservations affinities =
    Asks idle (call.List kind.Block) (λ b blocks. follows
    (record { family = family; c = c; p = p; r = r; f = f; b = b })
    (seen_by_replies config pools reservations affinities blocks))

abbrev behind_3 : {A : Type 0} → Family → (Scan → Seen → Word A) → (c p r : ℕ) → (config pools reservations : Said) → Word A
behind_3 family follows c p r config pools reservations = Asks idle (call.List kind.Affinity) (λ f affinities. behind_4 family follows c p r f config pools reservations affinities)

abbrev behind_2 : {A : Type 0} → Family → (Scan → Seen → Word A) → (c p : ℕ) → (config pools : Said) → Word A
behind_2 family follows c p config pools = Asks idle (call.Get key.Reservations) (λ r reservations. behind_3 family follows c p r config pools reservations)

abbrev behind_1 : {A : Type 0} → Family → (Scan → Seen → Word A) → (c : ℕ) → (config : Said) → Word A
behind_1 family follows c config = Asks idle (call.Get key.Pools) (λ p pools. behind_2 family follows c p config pools)

-- what follows takes its steps, with the blocks and pools known that it has seen
abbrev Follows : {A : Type 0} → (Scan → Seen → Word A) → Type 1
Follows follows = (known : Known) (scan : Scan) (seen : Seen) → SeenKnown known seen → Keeps known (follows scan seen)

steps_4 : {A : Type 0} → (family : Family) (follows : Scan → Seen → Word A) → Follows follows → (c p r f : ℕ) (config pools reservations affinities : Said) (known : Known) → ArePoolsKnown known pools → Steps still known (behind_4 family follows c p r f config pools reservations affinities)
steps_4 family follows k c p r f config pools reservations affinities known h =
    list-meets Step still Any known idle kind.Block
    (λ b blocks. follows
    (record { family = family; c = c; p = p; r = r; f = f; b = b })
    (seen_by_replies config pools reservations affinities blocks))
    (λ b store agrees. turn b store (k (more known store store)
    (record { family = family; c = c; p = p; r = r; f = f; b = b })
    (seen_there store)
    (record {
      blocks = λ cidr. listed-known known store cidr;
      pools = pools-known-grow known (more known store store) pools (λ k r f there. inl there) h;
    })))
  where
    seen_there : Datastore → Seen
    seen_there store = seen_by_replies config pools reservations affinities (Listed (rows_of_kind kind.Block store))

    turn : (b : ℕ) (store : Datastore) → Keeps (more known store store) (follows (record { family = family; c = c; p = p; r = r; f = f; b = b }) (seen_there store)) → Step known store store idle (label_to still (follows (record { family = family; c = c; p = p; r = r; f = f; b = b }) (seen_there store))) × Steps still (more known store store) (follows (record { family = family; c = c; p = p; r = r; f = f; b = b }) (seen_there store))
    turn b store h = (Idles refl h.0, h.1)

steps_3 : {A : Type 0} → (family : Family) (follows : Scan → Seen → Word A) → Follows follows → (c p r : ℕ) (config pools reservations : Said) (known : Known) → ArePoolsKnown known pools → Steps still known (behind_3 family follows c p r config pools reservations)
steps_3 family follows k c p r config pools reservations known h =
    list-meets Step still Any known idle kind.Affinity (λ f affinities. behind_4 family follows c p r f config pools reservations affinities)
    (λ f store agrees. (Idles refl refl, steps_4 family follows k c p r f config pools reservations (reply_of store (call.List kind.Affinity)) (more known store store) (pools-known-grow known (more known store store) pools (λ k r f there. inl there) h)))

steps_2 : {A : Type 0} → (family : Family) (follows : Scan → Seen → Word A) → Follows follows → (c p : ℕ) (config pools : Said) (known : Known) → ArePoolsKnown known pools → Steps still known (behind_2 family follows c p config pools)
steps_2 family follows k c p config pools known h =
    get-meets Step still Any known idle key.Reservations (λ r reservations. behind_3 family follows c p r config pools reservations)
    (λ r store agrees. (Idles refl refl, steps_3 family follows k c p r config pools (reply_to_get (row_of key.Reservations store.rows)) (more known store store) (pools-known-grow known (more known store store) pools (λ k r f there. inl there) h)))

steps_1 : {A : Type 0} → (family : Family) (follows : Scan → Seen → Word A) → Follows follows → (c : ℕ) (config : Said) (known : Known) → Steps still known (behind_1 family follows c config)
steps_1 family follows k c config known =
    get-meets Step still Any known idle key.Pools (λ p pools. behind_2 family follows c p config pools)
    (λ p store agrees. (Idles refl refl, steps_2 family follows k c p config (reply_to_get (row_of key.Pools store.rows)) (more known store store) (pools-read known store)))

pub five_reads-steps : {A : Type 0} → (family : Family) (follows : Scan → Seen → Word A) → ((known : Known) (scan : Scan) (seen : Seen) → SeenKnown known seen → Keeps known (follows scan seen)) → (known : Known) → Keeps known (five_reads family follows)
five_reads-steps family follows k known = (
  refl,
  get-meets Step still Any known idle key.Config (λ c config. behind_1 family follows c config)
      (λ c store agrees. (Idles refl refl, steps_1 family follows k c (reply_to_get (row_of key.Config store.rows)) (more known store store))),
)

-- ---- assigning and claiming

-- the block is known as it was read
abbrev pub IsKnownTarget : Known → Target → Type 0
IsKnownTarget known target = known (key.Block target.block.cidr) target.revision (record_of.Block target.block)

assigned-label : (attributes : Attributes) (target : Target) (o : Outcome (Unit {0})) → raised_label attributes.handle target.block.cidr o ≡ label_to still (onward (λ now done. assign_block attributes target now) o)
assigned-label attributes target (Went left done) = refl
assigned-label attributes target (Stops left why) = refl

assigned-steps : (attributes : Attributes) (target : Target) (o : Outcome (Unit {0})) (known : Known) → IsKnownTarget known target → AreAttributes attributes → IsFree known target → Steps still known (onward (λ now done. assign_block attributes target now) o)
assigned-steps attributes target (Went left done) known k sound free = assign_block-steps known attributes target left k sound free
assigned-steps attributes target (Stops left why) known k sound free = tt

pub assign-keeps : (attributes : Attributes) (target : Target) (left : Left) (known : Known) → IsKnownTarget known target → AreAttributes attributes → IsFree known target → Keeps known (assign attributes target left)
assign-keeps attributes target left known k sound free =
    let raising = raise attributes.handle target.block.cidr left in
    let labelled = raised_label attributes.handle target.block.cidr in
    let follows = onward (λ now done. assign_block attributes target now) in
    let countable : IsCountable known attributes.handle target.block.cidr = record { name = sound.id; revision = target.revision; b = target.block; is_of = refl; was_read = k } in (
      sym (label_to-bound Step labelled still follows (assigned-label attributes target) raising) ∙ raise-label attributes.handle target.block.cidr left,
      Meets-bound Step labelled still Any Any follows (assigned-label attributes target) raising known (raise-steps attributes.handle target.block.cidr left known countable)
          (λ other o grows t. assigned-steps attributes target o other (grows (key.Block target.block.cidr) target.revision (record_of.Block target.block) k) sound (free-grows known other target grows free)),
    )

-- a block that was found at its CIDR
pub own-known : (known : Known) (cidr : CidrValue) (found : ℕ × block.BlockValue) (ordinal : ℕ) → IsKnownBlock known cidr (Some found) → IsKnownTarget known (target_in found ordinal)
own-known known cidr found ordinal h = subst (λ (x : CidrValue). known (key.Block x) found.0 (record_of.Block found.1)) (sym h.0) h.1

after_claim-lawful : (races claims : ℕ) (answer : ClaimAnswer) → Lawful (after_claim (left_of races claims) answer)
after_claim-lawful races zero claimed.Confirmed known = (refl, tt)
after_claim-lawful races (suc claims) claimed.Confirmed known = (refl, tt)
after_claim-lawful zero claims claimed.Lost known = (refl, tt)
after_claim-lawful (suc races) claims claimed.Lost known = (refl, tt)
after_claim-lawful races claims claimed.Full known = (refl, tt)
after_claim-lawful races claims claimed.Spent known = (refl, tt)

pub claim_for-keeps : (node : List ℕ) (cidr : CidrValue) (read : BlockRead) (left : Left) (known : Known) → IsClaimable known node cidr read → Keeps known (claim_for node cidr read left)
claim_for-keeps node cidr read left known h =
    lawful-behind (claim node cidr read) (after_claim left) known (claim-label node cidr read, claim-steps known node cidr read h)
    (λ answer. after_claim-lawful left.races left.claims answer)

-- ---- one family

-- the ordinal is queued in a block that was read
abbrev pub IsQueued : Known → CidrValue → ℕ × block.BlockValue → ℕ → Type 0
IsQueued known slot found ordinal = IsKnownBlock known slot (Some found) × Contains found.1.queue ordinal

-- what makes a slot a candidate is known
abbrev pub IsKnownRank : Known → (node : List ℕ) → CidrValue → Rank → Type 0
IsKnownRank known node slot (Own found ordinal) = IsQueued known slot found ordinal
IsKnownRank known node slot (Unconfirmed found) = IsClaimable known node slot (Some found)
IsKnownRank known node slot (Unclaimed read) = IsClaimable known node slot read
IsKnownRank known node slot (Foreign found ordinal) = IsQueued known slot found ordinal

own-node : (node : List ℕ) (held : Option (List ℕ)) → is_node node held ≡ true → held ≡ Some node
own-node node None e = absurd (cc e)
own-node node (Some other) e = ap Some ((bytes_eq-Decides other node).0 e)

pub unowned-nobodys : (b : block.BlockValue) (also : Bool) → is_unowned_and_empty b && also ≡ true → b.node ≡ None
unowned-nobodys b also e = from b.node e
  where
    from : (o : Option (List ℕ)) → is_unowned_and_empty (record b { node = o }) && also ≡ true → o ≡ None
    from None f = refl
    from (Some other) f = absurd (cc f)

rank_of_block-known : (known : Known) (asked : Asked) (seen : Seen) (slot : CidrValue) (found : ℕ × block.BlockValue) → IsName asked.node → IsKnownSlot known slot → (room : Option ℕ) → room_of seen found.1 ≡ room → (rank : Rank) → IsKnownBlock known slot (Some found) → rank_of_block asked seen found room ≡ Some rank → IsKnownRank known asked.node slot rank
rank_of_block-known known asked seen slot found name at None free rank h e = absurd (cc e)
rank_of_block-known known asked seen slot found name at (Some ordinal) free rank h e =
    by (is_node asked.node found.1.node) refl (list_any (is_confirmed_for asked.node found.1.cidr) seen.affinities) (is_unowned_and_empty found.1 && may_claim asked seen) refl seen.config.strict e
  where
    queued : IsQueued known slot found ordinal
    queued = (h, (in-find (λ o. not (is_reserved seen (ordinal_address found.1.cidr o))) ordinal found.1.queue free).0)

    is : (other : Rank) → IsKnownRank known asked.node slot other → Some other ≡ Some rank → IsKnownRank known asked.node slot rank
    is other k f = let same : other ≡ rank = cc f in subst (λ (x : Rank). IsKnownRank known asked.node slot x) same k

    claimable : (found.1.node ≡ None) ⊎ (found.1.node ≡ Some asked.node) → IsClaimable known asked.node slot (Some found)
    claimable own = record { was_read = h; own = own; name = name; slot = at }

    by : (own : Bool) → is_node asked.node found.1.node ≡ own → (confirmed free : Bool) → is_unowned_and_empty found.1 && may_claim asked seen ≡ free → (strict : Bool) → cond own (cond confirmed (Some (Own found ordinal)) (Some (Unconfirmed found))) (cond free (Some (Unclaimed (Some found))) (cond strict None (Some (Foreign found ordinal)))) ≡ Some rank → IsKnownRank known asked.node slot rank
    by true o true free n strict f = is (Own found ordinal) queued f
    by true o false free n strict f = is (Unconfirmed found) (claimable (inr (own-node asked.node found.1.node o))) f
    by false o confirmed true n strict f = is (Unclaimed (Some found)) (claimable (inl (unowned-nobodys found.1 (may_claim asked seen) n))) f
    by false o confirmed false n true f = absurd (cc f)
    by false o confirmed false n false f = is (Foreign found ordinal) queued f

rank_at-known : (known : Known) (asked : Asked) (seen : Seen) (slot : CidrValue) (read : BlockRead) (rank : Rank) → IsName asked.node → IsKnownSlot known slot → IsKnownBlock known slot read → rank_at asked seen slot read ≡ Some rank → IsKnownRank known asked.node slot rank
rank_at-known known asked seen slot (Some found) rank name at h e = rank_of_block-known known asked seen slot found name at (room_of seen found.1) refl rank h e
rank_at-known known asked seen slot None rank name at h e = by (may_claim asked seen && has_free_address seen slot) e
  where
    none : IsClaimable known asked.node slot None
    none = record { was_read = tt; own = tt; name = name; slot = at }

    by : (b : Bool) → cond b (Some (Unclaimed None)) None ≡ Some rank → IsKnownRank known asked.node slot rank
    by true f = let same : Unclaimed None ≡ rank = cc f in subst (λ (x : Rank). IsKnownRank known asked.node slot x) same none
    by false f = absurd (cc f)

-- ---- the slot that is picked

-- it is a slot of a pool that was seen
pub picked-slot : (asked : Asked) (seen : Seen) (found : Ranked) → pick_of asked seen ≡ Picks found → (pool : Pool) × Contains seen.pools pool × IsSlotOf pool found.slot
picked-slot asked seen found e = by (unknown_name asked seen.pools) (choice_is asked seen)
  where
    chosen_is : slot_in (choice_of asked seen) ≡ Some found.slot
    chosen_is = ap (λ pick. slot_in (choice_in pick)) e ∙ chosen-slot found.slot found.rank

    by : (o : Option ℕ) → MatchOption o (IsBest asked seen (choice_of asked seen)) (λ place. choice_of asked seen ≡ NoPool place) → (pool : Pool) × Contains seen.pools pool × IsSlotOf pool found.slot
    by (Some place) h = let none = ap slot_in h in absurd (cc (none, chosen_is))
    by None (inl (nothing, is)) = let none = ap slot_in is in absurd (cc (none, chosen_is))
    by None (inr (first, is)) =
        let best = first.best.ranked in
        let slots : Some best.slot ≡ Some found.slot = sym (chosen-slot best.slot best.rank) ∙ (sym (ap slot_in is) ∙ chosen_is) in
        let same : best.slot ≡ found.slot = cc slots in (
          first.candidate.pool,
          in-place seen.pools first.best.place first.candidate.pool first.candidate.at_place,
          record { number = first.best.number; within = first.candidate.within; is = sym same ∙ first.candidate.is_slot },
        )

-- ---- one family, round by round

after_assign-lawful : (round : Round) → LawfulNext round.next → (target : Target) → LawfulOn (add.after_assign round target)
after_assign-lawful round n target left (Some done) known = (refl, tt)
after_assign-lawful round n target left None known = n left known

take_in-keeps : (round : Round) → IsSoundAdd round.request → LawfulNext round.next → (left : Left) (slot : CidrValue) (found : ℕ × block.BlockValue) (ordinal : ℕ) (known : Known) → IsQueued known slot found ordinal → Keeps known (add.take_in round left (target_in found ordinal))
take_in-keeps round sound n left slot found ordinal known h =
    let target = target_in found ordinal in
    followed-keeps (assign round.request.attributes target left) (add.after_assign round target) known
    (assign-keeps round.request.attributes target left known (own-known known slot found ordinal h.0) sound.attributes (inl h.1)) (after_assign-lawful round n target)

claim_in-keeps : (round : Round) → LawfulNext round.next → (left : Left) (slot : CidrValue) (read : BlockRead) (known : Known) → IsClaimable known round.request.node slot read → Keeps known (add.claim_in round left slot read)
claim_in-keeps round n left slot read known h =
    followed-keeps (claim_for round.request.node slot read left) (λ now done. round.next now) known
    (claim_for-keeps round.request.node slot read left known h) (λ now done. n now)

follow_rank-keeps : (round : Round) → IsSoundAdd round.request → LawfulNext round.next → (left : Left) (slot : CidrValue) (rank : Rank) (known : Known) → IsKnownRank known round.request.node slot rank → Keeps known (add.follow_rank round left slot rank)
follow_rank-keeps round sound n left slot (Own found ordinal) known h = take_in-keeps round sound n left slot found ordinal known h
follow_rank-keeps round sound n left slot (Unconfirmed found) known h = claim_in-keeps round n left slot (Some found) known h
follow_rank-keeps round sound n left slot (Unclaimed read) known h = claim_in-keeps round n left slot read known h
follow_rank-keeps round sound n left slot (Foreign found ordinal) known h = take_in-keeps round sound n left slot found ordinal known h

follow_pick-keeps : (round : Round) → IsSoundAdd round.request → LawfulNext round.next → (left : Left) (family : Family) (seen : Seen) (known : Known) → SeenKnown known seen → (pick : Pick) → pick_of (add.asked_of round.request family) seen ≡ pick → Keeps known (add.follow_pick round left pick)
follow_pick-keeps round sound n left family seen known h (Picks ranked) is =
    let asked = add.asked_of round.request family in
    let (pool, there, at) = picked-slot asked seen ranked is in
    follow_rank-keeps round sound n left ranked.slot ranked.rank known
    (rank_at-known known asked seen ranked.slot (block_at seen ranked.slot) ranked.rank sound.node (pool, h.pools pool there, inl at) (h.blocks ranked.slot) (pick-ranked asked seen ranked is))
follow_pick-keeps round sound n left family seen known h Lacks is = (refl, tt)
follow_pick-keeps round sound n left family seen known h (Unknown place) is = (refl, tt)

round-lawful : (request : AddRequest) → IsSoundAdd request → (family : Family) (next : add.NextRound) → LawfulNext next → LawfulNext (add.round_of request family next)
round-lawful request sound family next n left known = (
  refl,
  (five_reads-steps family (λ scan seen. add.follow_pick (record { request = request; scan = scan; next = next }) left (pick_of (add.asked_of request family) seen))
      (λ other scan seen h. follow_pick-keeps (record { request = request; scan = scan; next = next }) sound n left family seen other h (pick_of (add.asked_of request family) seen) refl) known).1,
)

pub serve-lawful : (request : AddRequest) → IsSoundAdd request → (family : Family) → LawfulNext (add.serve request family)
serve-lawful request sound family left = rounds-lawful (add.round_of request family) (round-lawful request sound family) (left.races + left.claims) left
