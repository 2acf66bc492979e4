-- An ADD of one address that runs alone comes to what the records say.
use Rattle.std.proofs.Common.{◌≡◌, ℕ, zero, suc, ◌+◌, ◌-◌, ◌<◌, Bool, true, List, [], ◌∷◌, Option, Some, None, refl, sym, ap, ◌∙◌, subst, arith}
use Rattle.ipam_addr.specs.Shape.{AddrValue, CidrValue}
use Rattle.ipam_pool.specs.declared.pools.Pool.{Pool}
use Rattle.ipam_block.specs.declared.allocation.Allocation.{Allocation}
use Rattle.ipam_block.specs.Operations.{holder}
use Rattle.ipam_block.specs.Shape.{BlockValue}
use Rattle.ipam_block.specs.HandleOperations.{count_of}
use Rattle.ipam_block.specs.HandleShape.{HandleValue}
use Rattle.ipam_records.specs.declared.call.Call.TheVariants.{Get}
use Rattle.ipam_records.specs.declared.key.Key.TheVariants as key
use Rattle.ipam_records.specs.declared.record.Record.TheVariants as record_of
use Rattle.ipam_records.specs.Datastore.{Datastore, reply_of, reply_to_get}
use Rattle.ipam_records.specs.Label.{idle}
use Rattle.ipam_records.specs.Said.{Said}
use Rattle.ipam_records.specs.Word.{Asks}
use Rattle.ipam_model.specs.declared.outcome.AddThisAnswer.{AddThisAnswer}
use Rattle.ipam_model.specs.declared.part.Assigned.{Assigned}
use Rattle.ipam_model.specs.declared.part.Left.{Left}
use Rattle.ipam_model.specs.declared.part.Stop.TheVariants.{OutOfTries}
use Rattle.ipam_model.specs.declared.outcome.AddThisAnswer.TheVariants as add
use Rattle.ipam_model.specs.declared.request.AddRequest.{AddRequest}
use Rattle.ipam_model.specs.AddThis.{LookedAtBlock, NextThisRound, RulesRead, Wanted, add_this_stops, add_this_word, asked_of_this, slot_holding, this_assigned, this_block, this_claim, this_free, this_held, this_in_pool, this_round, this_take}
use Rattle.ipam_model.specs.Affinities.{BlockRead}
use Rattle.ipam_model.specs.AffinityLaw.{HasAt}
use Rattle.ipam_model.specs.Assigning.{assign, claim_for, target_in}
use Rattle.ipam_model.specs.Choice.{Claims, Leaves, Share, Takes, by_share, share_of}
use Rattle.ipam_model.specs.Counting.{most_count}
use Rattle.ipam_model.specs.Plain.{Gives, IsAnothers, PlainResult, Rows, block_in_rows, found_in, handle_of, plain_add_this, plain_of, plain_this, plain_this_block, plain_this_claimed, plain_this_free, plain_this_held, plain_this_pool, with_assigned, with_claimed}
use Rattle.ipam_model.specs.Reads.{block_said, config_said, pools_said}
use Rattle.ipam_model.specs.Step.{all_left, part_then, goes, left_of, rounds, stops}
use Rattle.ipam_model.specs.Told.{of_add_this}
use Rattle.ipam_model.specs.Usable.{usable_pool_of}
use Rattle.ipam_laws.proofs.AloneCalls.{Runs, runs-get}
use Rattle.ipam_laws.proofs.AloneParts.{found-as_read, taken-cidr}
use Rattle.ipam_laws.proofs.CountLemmas.{same_text}
use Rattle.ipam_laws.proofs.Steps.{IsAsRead, taken}
use Rattle.ipam_plain.proofs.Alike.{block_from, block_of-record, record-row, same-handle, same-pools, value_in}
use Rattle.ipam_plain.proofs.Budget.{Enough, enough-less}
use Rattle.ipam_plain.proofs.Claiming.{IsClaimed, claim_for-comes, claimed-as, claimed-taken}
use Rattle.ipam_plain.proofs.Taking.{IsAssigned, IsBelow, as-assigned, assign-comes}
use Rattle.ipam_plain.proofs.Writes.{Finishes, IsAs, comes-followed, finishes-settled}
use Rattle.ipam_records.specs.BlockLists.{is_node}

-- answered so, and the store stands for the rows
pub record IsPlainThis (result : PlainResult) (then : Datastore) (told : AddThisAnswer) : Type 0 where
  pub says : plain_of (of_add_this told) ≡ Some result.0
  pub is_as : IsAs then result.1

module _ (request : AddRequest) (address : AddrValue) where
  abbrev wanted : Wanted
  wanted = record { request = request; address = address }

  abbrev id : List ℕ
  id = request.attributes.handle

  abbrev pool_in : Rows → Option Pool
  pool_in rows = usable_pool_of (asked_of_this request address) address (pools_said (found_in key.Pools rows))

  abbrev AllBelow : Datastore → Type 0
  AllBelow store = (c : CidrValue) → IsBelow store id c

  -- the address was given in the block
  abbrev gives : CidrValue → BlockValue → Rows → PlainResult
  gives cidr b rows = (Gives (address ∷ []), with_assigned request.attributes b (address.number - cidr.base) rows)

  take-comes : (looked : LookedAtBlock) (next : NextThisRound) (left : Left) (found : ℕ × BlockValue) (store : Datastore) (moment : ℕ) (rows : Rows) → IsAsRead store looked.cidr (Some found) → IsAs store rows → AllBelow store → Enough 2 1 0 store
      → Runs [] (Finishes (IsPlainThis (gives looked.cidr found.1 rows))) store moment (this_take wanted next left looked found)
  take-comes looked next left found store moment rows as_read is below enough =
      let ordinal = address.number - looked.cidr.base in
      let target = target_in found ordinal in
      let Q = IsPlainThis (gives looked.cidr found.1 rows) in
      comes-followed [] left (IsAssigned [] store request.attributes target) (Finishes Q) (this_assigned wanted next looked) (assign request.attributes target left) store moment
      (assign-comes [] request.attributes target left store moment true 0 0 0 (subst (λ (c : CidrValue). HasAt store (key.Block c) found.0 (record_of.Block found.1)) (sym as_read.0) as_read.1) (below found.1.cidr) tt enough)
      (λ then later done h.
      subst (λ (d : Option Assigned). Runs [] (Finishes Q) then later (this_assigned wanted next looked left d)) (sym h.is_done)
      (record { says = refl; is_as = subst (λ (s : Datastore). IsAs s (with_assigned request.attributes found.1 ordinal rows)) (sym h.is_store) (as-assigned store rows request.attributes found.1 ordinal is) }))

  -- ---- a round after a claim

  -- the block of the address is the node's own, and the address is free
  record IsOwnFree (store : Datastore) (cidr : CidrValue) (b : BlockValue) : Type 0 where
    revision : ℕ
    there : HasAt store (key.Block cidr) revision (record_of.Block b)
    is_of : b.cidr ≡ cidr
    own : is_node request.node b.node ≡ true
    none : holder b (address.number - cidr.base) ≡ None

  settled-pool : (pool : Pool) (b : BlockValue) (rules : RulesRead) (next : NextThisRound) (left : Left) (store : Datastore) (moment : ℕ) (rows : Rows) → IsOwnFree store (slot_holding pool address) b → IsAs store rows → AllBelow store → Enough 2 1 0 store
      → Runs [] (Finishes (IsPlainThis (gives (slot_holding pool address) b rows))) store moment (this_in_pool wanted next left rules (Some pool))
  settled-pool pool b rules next left store moment rows own is below enough =
      let cidr = slot_holding pool address in
      let Q = IsPlainThis (gives cidr b rows) in
      let looked : LookedAtBlock = record { rules = rules; cidr = cidr; b = moment } in
      let found : ℕ × BlockValue = (own.revision, b) in
      runs-get [] (Finishes Q) store moment idle (key.Block cidr) (λ at said. this_block wanted next left (record { rules = rules; cidr = cidr; b = at }) (block_said said))
      (λ good.
      let share : share_of rules.config.strict request.node b ≡ Takes = let t = own.own in rw t refl in
      let take = take-comes looked next left found store (moment + 1) rows (own.is_of, own.there) is below enough in
      let free = subst (λ (s : Share). Runs [] (Finishes Q) store (moment + 1) (by_share s (this_take wanted next left looked found) (this_claim wanted next left looked (Some found)) (goes left (add.NotAffine cidr moment)))) (sym share) take in
      let held = subst (λ (o : Option Allocation). Runs [] (Finishes Q) store (moment + 1) (this_held (this_free wanted next left looked found) left looked o)) (sym own.none) free in
      subst (λ (said : Said). Runs [] (Finishes Q) store (moment + 1) (this_block wanted next left looked (block_said said))) (sym (ap reply_to_get own.there)) held)

  settled-round : (pool : Pool) (b : BlockValue) (next : NextThisRound) (left : Left) (store : Datastore) (moment : ℕ) (rows : Rows) → pool_in store.rows ≡ Some pool → IsOwnFree store (slot_holding pool address) b → IsAs store rows → AllBelow store → Enough 2 1 0 store
      → Runs [] (Finishes (IsPlainThis (gives (slot_holding pool address) b rows))) store moment (this_round wanted next left)
  settled-round pool b next left store moment rows in_pool own is below enough =
      let config = reply_of store (Get key.Config) in
      let Q = IsPlainThis (gives (slot_holding pool address) b rows) in
      runs-get [] (Finishes Q) store moment idle key.Config
      (λ c config. Asks idle (Get key.Pools) (λ p pools. this_in_pool wanted next left (record { config = config_said config; c = c; p = p }) (usable_pool_of (asked_of_this request address) address (pools_said pools))))
      (λ g1. runs-get [] (Finishes Q) store (moment + 1) idle key.Pools
      (λ p pools. this_in_pool wanted next left (record { config = config_said config; c = moment; p = p }) (usable_pool_of (asked_of_this request address) address (pools_said pools)))
      (λ g2. subst (λ (o : Option Pool). Runs [] (Finishes Q) store (moment + 1 + 1) (this_in_pool wanted next left (record { config = config_said config; c = moment; p = moment + 1 }) o)) (sym in_pool)
      (settled-pool pool b (record { config = config_said config; c = moment; p = moment + 1 }) next left store (moment + 1 + 1) rows own is below enough)))

  settled-rounds : (pool : Pool) (b : BlockValue) (more : ℕ) (left : Left) (store : Datastore) (moment : ℕ) (rows : Rows) → pool_in store.rows ≡ Some pool → IsOwnFree store (slot_holding pool address) b → IsAs store rows → AllBelow store → Enough 2 1 0 store
      → Runs [] (Finishes (IsPlainThis (gives (slot_holding pool address) b rows))) store moment (rounds (this_round wanted) more left)
  unfolding rounds
  settled-rounds pool b zero left store moment rows in_pool own is below enough = settled-round pool b (λ now. stops now OutOfTries) left store moment rows in_pool own is below enough
  settled-rounds pool b (suc more) left store moment rows in_pool own is below enough = settled-round pool b (rounds (this_round wanted) more) left store moment rows in_pool own is below enough

  -- ---- the first round

  own-node : (cidr : CidrValue) (read : BlockRead) → is_node request.node (taken request.node cidr read).node ≡ true
  own-node cidr None = same_text request.node
  own-node cidr (Some found) = same_text request.node

  -- what the records say after a claim
  plain-gives : (cidr : CidrValue) (o : BlockRead) (b : BlockValue) (rows : Rows) → value_in o ≡ Some b → plain_this wanted cidr o rows ≡ gives cidr b rows
  plain-gives cidr None b rows e = absurd (cc e)
  plain-gives cidr (Some found) b rows e = let same : found.1 ≡ b = cc e in ap (λ (x : BlockValue). gives cidr x rows) same

  module _ (next : NextThisRound) (races claims : ℕ) (store : Datastore) (is : IsAs store store.rows) (below : AllBelow store) (enough : Enough 5 3 1 store)
      (on : (pool : Pool) (b : BlockValue) (then : Datastore) (later : ℕ) (rows : Rows) → pool_in then.rows ≡ Some pool → IsOwnFree then (slot_holding pool address) b → IsAs then rows → AllBelow then → Enough 2 1 0 then
      → Runs [] (Finishes (IsPlainThis (gives (slot_holding pool address) b rows))) then later (next (left_of races claims))) where
    abbrev left : Left
    left = left_of races (suc claims)

    -- after the claim there is one round more
    behind-claim : (pool : Pool) (then : Datastore) (later : ℕ) → pool_in store.rows ≡ Some pool → IsAsRead store (slot_holding pool address) (block_in_rows (slot_holding pool address) store.rows)
        → holder (taken request.node (slot_holding pool address) (block_in_rows (slot_holding pool address) store.rows)) (address.number - (slot_holding pool address).base) ≡ None
        → IsClaimed store.rows request.node (slot_holding pool address) (block_in_rows (slot_holding pool address) store.rows) 2 1 0 then
        → Runs [] (Finishes (IsPlainThis (plain_this_claimed wanted (slot_holding pool address) store.rows))) then later (next (left_of races claims))
    behind-claim pool then later in_pool as_read none h =
        let cidr = slot_holding pool address in
        let read = block_in_rows cidr store.rows in
        let b = taken request.node cidr read in
        let own = taken-cidr [] request.node cidr read store as_read in
        let after = with_claimed request.node cidr store.rows in
        let is_then = claimed-as store then store.rows request.node cidr read b is (sym (claimed-taken request.node cidr read)) own h.is_in h.sorted in
        let (revision, there) = record-row (key.Block cidr) then.rows (record_of.Block b) h.is_in.has_block in
        let handles : handle_of id then.rows ≡ handle_of id store.rows = same-handle id then.rows store.rows (h.is_in.others (key.Handle id) (λ e. cc e) (λ e. cc e)) in
        let pools : pool_in then.rows ≡ pool_in store.rows = ap (λ (l : List Pool). usable_pool_of (asked_of_this request address) address l) (same-pools then.rows store.rows (h.is_in.others key.Pools (λ e. cc e) (λ e. cc e))) in
        let shown : value_in (block_in_rows cidr after) ≡ Some b = block_of-record cidr after ∙ ap block_from (sym (is_then.alike (key.Block cidr)) ∙ h.is_in.has_block) in
        subst (λ (r : PlainResult). Runs [] (Finishes (IsPlainThis r)) then later (next (left_of races claims))) (sym (plain-gives cidr (block_in_rows cidr after) b after shown))
        (on pool b then later after (pools ∙ in_pool) (record { revision = revision; there = there; is_of = own; own = own-node cidr read; none = none }) is_then
        (λ c. subst (λ (g : HandleValue). count_of g c < most_count) (sym handles) (below c)) h.enough)

    claim-comes : (looked : LookedAtBlock) (pool : Pool) (moment : ℕ) → pool_in store.rows ≡ Some pool → looked.cidr ≡ slot_holding pool address → IsAsRead store (slot_holding pool address) (block_in_rows (slot_holding pool address) store.rows)
        → holder (taken request.node (slot_holding pool address) (block_in_rows (slot_holding pool address) store.rows)) (address.number - (slot_holding pool address).base) ≡ None
        → Runs [] (Finishes (IsPlainThis (plain_this_claimed wanted (slot_holding pool address) store.rows))) store moment (this_claim wanted next left looked (block_in_rows (slot_holding pool address) store.rows))
    claim-comes looked pool moment in_pool slot as_read none =
        let cidr = slot_holding pool address in
        let read = block_in_rows cidr store.rows in
        let Q = IsPlainThis (plain_this_claimed wanted cidr store.rows) in
        subst (λ (c : CidrValue). Runs [] (Finishes Q) store moment (part_then (claim_for request.node c read left) (λ now done. next now))) (sym slot)
        (comes-followed [] (left_of races claims) (λ then (done : Unit {0}). IsClaimed store.rows request.node cidr read 2 1 0 then) (Finishes Q) (λ now done. next now) (claim_for request.node cidr read left) store moment
        (claim_for-comes [] request.node cidr read (taken-cidr [] request.node cidr read store as_read) store.rows 2 1 0 races claims store moment as_read (λ k a b. refl) is.sorted_store enough)
        (λ then later done h. behind-claim pool then later in_pool as_read none h))

    -- what the first round has looked at
    abbrev looks : Pool → (c p b : ℕ) → LookedAtBlock
    looks pool c p b = record { rules = record { config = config_said (found_in key.Config store.rows); c = c; p = p }; cidr = slot_holding pool address; b = b }

    abbrev strict : Bool
    strict = (config_said (found_in key.Config store.rows)).strict

    claims-block : (pool : Pool) (c p b moment : ℕ) (read : BlockRead) → pool_in store.rows ≡ Some pool → block_in_rows (slot_holding pool address) store.rows ≡ read → IsAsRead store (slot_holding pool address) read
        → holder (taken request.node (slot_holding pool address) read) (address.number - (slot_holding pool address).base) ≡ None
        → Runs [] (Finishes (IsPlainThis (plain_this_claimed wanted (slot_holding pool address) store.rows))) store moment (this_claim wanted next left (looks pool c p b) read)
    claims-block pool c p b moment read in_pool e as_read none =
        let cidr = slot_holding pool address in
        let Q = IsPlainThis (plain_this_claimed wanted cidr store.rows) in
        subst (λ (r : BlockRead). Runs [] (Finishes Q) store moment (this_claim wanted next left (looks pool c p b) r)) e
        (claim-comes (looks pool c p b) pool moment in_pool refl (subst (λ (r : BlockRead). IsAsRead store cidr r) (sym e) as_read)
        (subst (λ (r : BlockRead). holder (taken request.node cidr r) (address.number - cidr.base) ≡ None) (sym e) none))

    block-comes : (pool : Pool) (c p b moment : ℕ) (read : BlockRead) → pool_in store.rows ≡ Some pool → block_in_rows (slot_holding pool address) store.rows ≡ read → IsAsRead store (slot_holding pool address) read
        → Runs [] (Finishes (IsPlainThis (plain_this_block strict wanted (slot_holding pool address) read store.rows))) store moment (this_block wanted next left (looks pool c p b) read)
    block-comes pool c p b moment None in_pool e as_read = claims-block pool c p b moment None in_pool e as_read refl
    block-comes pool c p b moment (Some found) in_pool e as_read = held (holder found.1 (address.number - (slot_holding pool address).base)) refl
      where
        shared : holder found.1 (address.number - (slot_holding pool address).base) ≡ None → (share : Share)
            → Runs [] (Finishes (IsPlainThis (by_share share (plain_this wanted (slot_holding pool address) (Some found) store.rows) (plain_this_claimed wanted (slot_holding pool address) store.rows) (IsAnothers (slot_holding pool address), store.rows)))) store moment
            (by_share share (this_take wanted next left (looks pool c p b) found) (this_claim wanted next left (looks pool c p b) (Some found)) (goes left (add.NotAffine (slot_holding pool address) b)))
        shared none Takes = take-comes (looks pool c p b) next left found store moment store.rows as_read is below (enough-less 2 1 0 5 3 1 store (omega arith) (omega arith) (omega arith) enough)
        shared none Claims = claims-block pool c p b moment (Some found) in_pool e as_read none
        shared none Leaves = record { says = refl; is_as = is }

        held : (o : Option Allocation) → holder found.1 (address.number - (slot_holding pool address).base) ≡ o
            → Runs [] (Finishes (IsPlainThis (plain_this_held (plain_this_free strict wanted (slot_holding pool address) found store.rows) store.rows o))) store moment (this_held (this_free wanted next left (looks pool c p b) found) left (looks pool c p b) o)
        held (Some holds) f = record { says = refl; is_as = is }
        held None f = shared f (share_of strict request.node found.1)

    pool-comes : (c p moment : ℕ) (o : Option Pool) → pool_in store.rows ≡ o
        → Runs [] (Finishes (IsPlainThis (plain_this_pool strict wanted o store.rows))) store moment (this_in_pool wanted next left (record { config = config_said (found_in key.Config store.rows); c = c; p = p }) o)
    pool-comes c p moment None e = record { says = refl; is_as = is }
    pool-comes c p moment (Some pool) e =
        let cidr = slot_holding pool address in
        let read = block_in_rows cidr store.rows in
        let Q = IsPlainThis (plain_this_block strict wanted cidr read store.rows) in
        runs-get [] (Finishes Q) store moment idle (key.Block cidr) (λ b said. this_block wanted next left (looks pool c p b) (block_said said))
        (λ good. block-comes pool c p moment (moment + 1) read e refl (found-as_read store cidr))

    first-round : (moment : ℕ) → Runs [] (Finishes (IsPlainThis (plain_add_this wanted store.rows))) store moment (this_round wanted next left)
    first-round moment =
        let config = reply_of store (Get key.Config) in
        let Q = IsPlainThis (plain_add_this wanted store.rows) in
        runs-get [] (Finishes Q) store moment idle key.Config
        (λ c config. Asks idle (Get key.Pools) (λ p pools. this_in_pool wanted next left (record { config = config_said config; c = c; p = p }) (usable_pool_of (asked_of_this request address) address (pools_said pools))))
        (λ g1. runs-get [] (Finishes Q) store (moment + 1) idle key.Pools
        (λ p pools. this_in_pool wanted next left (record { config = config_said config; c = moment; p = p }) (usable_pool_of (asked_of_this request address) address (pools_said pools)))
        (λ g2. pool-comes moment (moment + 1) (moment + 1 + 1) (pool_in store.rows) refl))

  all-rounds : (races claims : ℕ) (store : Datastore) (moment : ℕ) → IsAs store store.rows → AllBelow store → Enough 5 3 1 store
      → Runs [] (Finishes (IsPlainThis (plain_add_this wanted store.rows))) store moment (rounds (this_round wanted) (races + suc claims) (left_of races (suc claims)))
  unfolding rounds
  all-rounds races claims store moment is below enough =
      let many : suc (races + claims) ≡ races + suc claims = omega arith in
      let Q = IsPlainThis (plain_add_this wanted store.rows) in
      subst (λ (n : ℕ). Runs [] (Finishes Q) store moment (rounds (this_round wanted) n (left_of races (suc claims)))) many
      (first-round (rounds (this_round wanted) (races + claims)) races claims store is below enough
      (λ pool b then later rows in_pool own is_then below_then left. settled-rounds pool b (races + claims) (left_of races claims) then later rows in_pool own is_then below_then left) moment)

  pub this-comes : (store : Datastore) (moment : ℕ) → IsAs store store.rows → AllBelow store → Enough 5 3 1 store → Runs [] (IsPlainThis (plain_add_this wanted store.rows)) store moment (add_this_word request address)
  this-comes store moment is below enough =
      finishes-settled [] (IsPlainThis (plain_add_this wanted store.rows)) add_this_stops (rounds (this_round wanted) (63 + 63) all_left) store moment (all-rounds 63 62 store moment is below enough)
