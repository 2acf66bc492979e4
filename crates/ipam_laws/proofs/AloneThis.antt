-- An ADD of one address that runs alone loses no race, and claims one block at most.
use Rattle.std.proofs.Common.{◌≡◌, ◌≢◌, ℕ, zero, suc, ◌+◌, ◌-◌, true, List, [], Option, Some, None, refl, sym, ap, ◌∙◌, subst, arith}
use Rattle.ipam_addr.specs.Shape.{AddrValue, CidrValue}
use Rattle.ipam_pool.specs.declared.pools.Pool.{Pool}
use Rattle.ipam_block.specs.Operations.{holder}
use Rattle.ipam_block.specs.Shape.{BlockValue}
use Rattle.ipam_block.specs.declared.allocation.Allocation.{Allocation}
use Rattle.ipam_records.specs.declared.call.Call.TheVariants.{Get}
use Rattle.ipam_records.specs.declared.key.Key.TheVariants as key
use Rattle.ipam_records.specs.declared.record.Record.TheVariants as record_of
use Rattle.ipam_records.specs.Datastore.{Datastore, reply_of, reply_to_get}
use Rattle.ipam_records.specs.Label.{idle}
use Rattle.ipam_records.specs.Said.{Found, Said}
use Rattle.ipam_records.specs.Word.{Asks}
use Rattle.ipam_model.specs.declared.outcome.AddThisAnswer.{AddThisAnswer}
use Rattle.ipam_model.specs.declared.outcome.AddThisAnswer.TheVariants as add
use Rattle.ipam_model.specs.declared.part.Assigned.{Assigned}
use Rattle.ipam_model.specs.declared.part.Left.{Left}
use Rattle.ipam_model.specs.declared.part.Outcome.{Outcome}
use Rattle.ipam_model.specs.declared.part.Outcome.TheVariants.{Went, Stops}
use Rattle.ipam_model.specs.declared.part.Stop.TheVariants.{OutOfTries}
use Rattle.ipam_model.specs.declared.request.AddRequest.{AddRequest}
use Rattle.ipam_model.specs.AddThis.{LookedAtBlock, NextThisRound, RulesRead, Wanted, add_this_stops, add_this_word, asked_of_this, slot_holding, this_assigned, this_block, this_claim, this_free, this_held, this_in_pool, this_round, this_take}
use Rattle.ipam_model.specs.Affinities.{BlockRead}
use Rattle.ipam_model.specs.AffinityLaw.{HasAt}
use Rattle.ipam_model.specs.Assigning.{assign, claim_for, target_in}
use Rattle.ipam_model.specs.Choice.{Claims, Leaves, Share, Takes, by_share, share_of}
use Rattle.ipam_model.specs.Reads.{StoredRecord, block_said, config_said, pools_said}
use Rattle.ipam_model.specs.Step.{all_left, goes, left_of, onward, rounds, stops}
use Rattle.ipam_model.specs.Usable.{usable_pool_of}
use Rattle.ipam_laws.proofs.AloneCalls.{Runs, Runs-bound, runs-get}
use Rattle.ipam_laws.proofs.AloneOthers.{NotTried, settles-runs}
use Rattle.ipam_laws.proofs.AloneParts.{AssignEnds, ClaimForEnds, assign-runs, claim_for-runs, found-as_read, taken-cidr}
use Rattle.ipam_laws.proofs.CountLemmas.{same_text}
use Rattle.ipam_laws.proofs.Steps.{IsAsRead, taken}
use Rattle.ipam_records.specs.BlockLists.{is_node}

abbrev pub NotAgainThis : AddThisAnswer → Type 0
NotAgainThis told = (lost claims : ℕ) → told ≢ add.Again lost claims

-- the block is the node's own
record IsOwnAt (store : Datastore) (cidr : CidrValue) (node : List ℕ) : Type 0 where
  revision : ℕ
  b : BlockValue
  there : HasAt store (key.Block cidr) revision (record_of.Block b)
  is_of : b.cidr ≡ cidr
  own : is_node node b.node ≡ true

module _ (request : AddRequest) (address : AddrValue) where
  abbrev wanted : Wanted
  wanted = record { request = request; address = address }

  abbrev Fine : Datastore → Outcome AddThisAnswer → Type 0
  Fine = NotTried NotAgainThis

  abbrev pool_in : Datastore → Option Pool
  pool_in store = usable_pool_of (asked_of_this request address) address (pools_said (reply_of store (Get key.Pools)))

  -- the block of the address, where a pool holds that, is the node's own
  abbrev IsSettled : Datastore → Type 0
  IsSettled store = (pool : Pool) → pool_in store ≡ Some pool → IsOwnAt store (slot_holding pool address) request.node

  take-runs : (looked : LookedAtBlock) (next : NextThisRound) (left : Left) (found : ℕ × BlockValue) (store : Datastore) (moment : ℕ) → IsAsRead store looked.cidr (Some found) → Runs [] Fine store moment (this_take wanted next left looked found)
  take-runs looked next left found store moment as_read =
      let target = target_in found (address.number - looked.cidr.base) in
      Runs-bound [] (AssignEnds left) Fine (onward (this_assigned wanted next looked)) (assign request.attributes target left) store moment
      (assign-runs [] request.attributes target left store moment (subst (λ (c : CidrValue). HasAt store (key.Block c) found.0 (record_of.Block found.1)) (sym as_read.0) as_read.1)) ends
    where
      ends : (then : Datastore) (later : ℕ) (outcome : Outcome (Option Assigned)) → AssignEnds left then outcome → Runs [] Fine then later (onward (this_assigned wanted next looked) outcome)
      ends then later (Went now (Some done)) k = λ lost claims e. cc e
      ends then later (Went now None) k = absurd k
      ends then later (Stops now why) k = k

  -- ---- a round that claims nothing

  settled-pool : (rules : RulesRead) (next : NextThisRound) (left : Left) (store : Datastore) (moment : ℕ) (o : Option Pool) → pool_in store ≡ o → IsSettled store → Runs [] Fine store moment (this_in_pool wanted next left rules o)
  settled-pool rules next left store moment None is settled = λ lost claims e. cc e
  settled-pool rules next left store moment (Some pool) is settled =
      let cidr = slot_holding pool address in
      let own = settled pool is in
      runs-get [] Fine store moment idle (key.Block cidr) (λ b said. this_block wanted next left (record { rules = rules; cidr = cidr; b = b }) (block_said said))
      (λ good.
      let looked : LookedAtBlock = record { rules = rules; cidr = cidr; b = moment } in
      let P : Said → Type 0 = λ said. Runs [] Fine store (moment + 1) (this_block wanted next left looked (block_said said)) in
      let found : P (Found own.revision (record_of.Block own.b)) = held looked (own.revision, own.b) (own.is_of, own.there) own.own (holder own.b (address.number - cidr.base)) in
      subst P (sym (ap reply_to_get own.there)) found)
    where
      held : (looked : LookedAtBlock) (found : ℕ × BlockValue) → IsAsRead store looked.cidr (Some found) → is_node request.node found.1.node ≡ true → (o : Option Allocation) → Runs [] Fine store (moment + 1) (this_held (this_free wanted next left looked found) left looked o)
      held looked found as_read own (Some taken_by) = λ lost claims e. cc e
      held looked found as_read own None =
          let share : share_of looked.rules.config.strict request.node found.1 ≡ Takes = rw own refl in
          subst (λ (s : Share). Runs [] Fine store (moment + 1) (by_share s (this_take wanted next left looked found) (this_claim wanted next left looked (Some found)) (goes left (add.NotAffine looked.cidr looked.b)))) (sym share)
          (take-runs looked next left found store (moment + 1) as_read)

  settled-round : (next : NextThisRound) (left : Left) (store : Datastore) (moment : ℕ) → IsSettled store → Runs [] Fine store moment (this_round wanted next left)
  settled-round next left store moment settled =
      let config = reply_of store (Get key.Config) in
      runs-get [] Fine store moment idle key.Config
      (λ c config. Asks idle (Get key.Pools) (λ p pools. this_in_pool wanted next left (record { config = config_said config; c = c; p = p }) (usable_pool_of (asked_of_this request address) address (pools_said pools))))
      (λ g1. runs-get [] Fine store (moment + 1) idle key.Pools
      (λ p pools. this_in_pool wanted next left (record { config = config_said config; c = moment; p = p }) (usable_pool_of (asked_of_this request address) address (pools_said pools)))
      (λ g2. settled-pool (record { config = config_said config; c = moment; p = moment + 1 }) next left store (moment + 1 + 1) (pool_in store) refl settled))

  settled-rounds : (more : ℕ) (left : Left) (store : Datastore) (moment : ℕ) → IsSettled store → Runs [] Fine store moment (rounds (this_round wanted) more left)
  unfolding rounds
  settled-rounds zero left store moment = settled-round (λ now. stops now OutOfTries) left store moment
  settled-rounds (suc more) left store moment = settled-round (rounds (this_round wanted) more) left store moment

  -- ---- the first round

  module _ (next : NextThisRound) (races claims : ℕ) (on : (then : Datastore) (later : ℕ) → IsSettled then → Runs [] Fine then later (next (left_of races claims))) where
    abbrev left : Left
    left = left_of races (suc claims)

    claim-runs : (looked : LookedAtBlock) (pool : Pool) (read : BlockRead) (store : Datastore) (moment : ℕ) → pool_in store ≡ Some pool → looked.cidr ≡ slot_holding pool address → IsAsRead store looked.cidr read → Runs [] Fine store moment (this_claim wanted next left looked read)
    claim-runs looked pool read store moment is slot as_read =
        Runs-bound [] (ClaimForEnds [] races claims store request.node looked.cidr read) Fine (onward (λ now done. next now)) (claim_for request.node looked.cidr read left) store moment
        (claim_for-runs [] request.node looked.cidr read races claims store moment as_read) ends
      where
        own : (read : BlockRead) → is_node request.node (taken request.node looked.cidr read).node ≡ true
        own None = same_text request.node
        own (Some found) = same_text request.node

        ends : (then : Datastore) (later : ℕ) (outcome : Outcome (Unit {0})) → ClaimForEnds [] races claims store request.node looked.cidr read then outcome → Runs [] Fine then later (onward (λ now done. next now) outcome)
        ends then later (Stops now why) k = k
        ends then later (Went now done) k =
            let c = k.1 in
            let pools : pool_in then ≡ pool_in store = ap (λ (o : Option StoredRecord). usable_pool_of (asked_of_this request address) address (pools_said (reply_to_get o))) (c.settings key.Pools tt) in
            let settled : IsSettled then = λ other there.
            let same : pool ≡ other = cc (is, pools, there) in
            subst (λ (x : CidrValue). IsOwnAt then x request.node) (slot ∙ ap (λ (p : Pool). slot_holding p address) same)
            (record { revision = c.revision; b = taken request.node looked.cidr read; there = c.has_block; is_of = taken-cidr [] request.node looked.cidr read store as_read; own = own read }) in
            subst (λ (l : Left). Runs [] Fine then later (next l)) (sym k.0) (on then later settled)

    block-runs : (looked : LookedAtBlock) (pool : Pool) (read : BlockRead) (store : Datastore) (moment : ℕ) → pool_in store ≡ Some pool → looked.cidr ≡ slot_holding pool address → IsAsRead store looked.cidr read → Runs [] Fine store moment (this_block wanted next left looked read)
    block-runs looked pool None store moment is slot as_read = claim-runs looked pool None store moment is slot as_read
    block-runs looked pool (Some found) store moment is slot as_read = held (holder found.1 (address.number - looked.cidr.base))
      where
        shared : (share : Share) → Runs [] Fine store moment (by_share share (this_take wanted next left looked found) (this_claim wanted next left looked (Some found)) (goes left (add.NotAffine looked.cidr looked.b)))
        shared Takes = take-runs looked next left found store moment as_read
        shared Claims = claim-runs looked pool (Some found) store moment is slot as_read
        shared Leaves = λ lost more e. cc e

        held : (o : Option Allocation) → Runs [] Fine store moment (this_held (this_free wanted next left looked found) left looked o)
        held (Some taken_by) = λ lost more e. cc e
        held None = shared (share_of looked.rules.config.strict request.node found.1)

    pool-runs : (rules : RulesRead) (store : Datastore) (moment : ℕ) (o : Option Pool) → pool_in store ≡ o → Runs [] Fine store moment (this_in_pool wanted next left rules o)
    pool-runs rules store moment None is = λ lost more e. cc e
    pool-runs rules store moment (Some pool) is =
        let cidr = slot_holding pool address in
        runs-get [] Fine store moment idle (key.Block cidr) (λ b said. this_block wanted next left (record { rules = rules; cidr = cidr; b = b }) (block_said said))
        (λ good. block-runs (record { rules = rules; cidr = cidr; b = moment }) pool (block_said (reply_of store (Get (key.Block cidr)))) store (moment + 1) is refl (found-as_read store cidr))

    first-round : (store : Datastore) (moment : ℕ) → Runs [] Fine store moment (this_round wanted next left)
    first-round store moment =
        let config = reply_of store (Get key.Config) in
        runs-get [] Fine store moment idle key.Config
        (λ c config. Asks idle (Get key.Pools) (λ p pools. this_in_pool wanted next left (record { config = config_said config; c = c; p = p }) (usable_pool_of (asked_of_this request address) address (pools_said pools))))
        (λ g1. runs-get [] Fine store (moment + 1) idle key.Pools
        (λ p pools. this_in_pool wanted next left (record { config = config_said config; c = moment; p = p }) (usable_pool_of (asked_of_this request address) address (pools_said pools)))
        (λ g2. pool-runs (record { config = config_said config; c = moment; p = moment + 1 }) store (moment + 1 + 1) (pool_in store) refl))

  all-rounds : (races claims : ℕ) (store : Datastore) (moment : ℕ) → Runs [] Fine store moment (rounds (this_round wanted) (races + suc claims) (left_of races (suc claims)))
  unfolding rounds
  all-rounds races claims store moment =
      let many : suc (races + claims) ≡ races + suc claims = omega arith in
      subst (λ (n : ℕ). Runs [] Fine store moment (rounds (this_round wanted) n (left_of races (suc claims)))) many
      (first-round (rounds (this_round wanted) (races + claims)) races claims (λ then later settled. settled-rounds (races + claims) (left_of races claims) then later settled) store moment)

  pub this-runs : (store : Datastore) (moment : ℕ) → Runs [] (λ then told. NotAgainThis told) store moment (add_this_word request address)
  this-runs store moment =
      settles-runs [] NotAgainThis add_this_stops (λ lost claims e. cc e) (λ at lost claims e. cc e) (λ lost claims e. cc e) (rounds (this_round wanted) (63 + 63) all_left) store moment (all-rounds 63 62 store moment)
