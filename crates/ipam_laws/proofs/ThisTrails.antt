-- What an ADD of one address is answered, by the trail that led to it.
use Rattle.std.proofs.Common.{◌≡◌, ℕ, zero, suc, ◌+◌, ◌-◌, List, [], ◌∷◌, Option, Some, None, refl, sym, subst}
use Rattle.ipam_addr.specs.Shape.{AddrValue, CidrValue}
use Rattle.ipam_block.specs.declared.allocation.Allocation.{Allocation}
use Rattle.ipam_block.specs.Operations.{holder}
use Rattle.ipam_block.specs.Shape as block
use Rattle.ipam_pool.specs.declared.pools.Pool.{Pool}
use Rattle.ipam_records.specs.declared.call.Call.TheVariants.{Get}
use Rattle.ipam_records.specs.declared.key.Key.TheVariants as key
use Rattle.ipam_records.specs.Datastore.{Datastore, reply_of}
use Rattle.ipam_records.specs.Word.{Ends}
use Rattle.ipam_model.specs.declared.answer.Answer.{Answer}
use Rattle.ipam_model.specs.declared.answer.Answer.TheVariants as answer
use Rattle.ipam_model.specs.declared.answer.GivenThis.{GivenThis}
use Rattle.ipam_model.specs.declared.outcome.AddThisAnswer.{AddThisAnswer}
use Rattle.ipam_model.specs.declared.outcome.AddThisAnswer.TheVariants as add_this
use Rattle.ipam_model.specs.declared.part.Assigned.{Assigned}
use Rattle.ipam_model.specs.declared.part.Left.{Left}
use Rattle.ipam_model.specs.declared.part.Outcome.{Outcome}
use Rattle.ipam_model.specs.declared.part.Outcome.TheVariants.{Went, Stops}
use Rattle.ipam_model.specs.declared.part.Stop.{Stop}
use Rattle.ipam_model.specs.declared.part.Stop.TheVariants.{OutOfTries, OutOfClaims, NoRoom, CountAtLimit, NoRevisions}
use Rattle.ipam_model.specs.declared.request.AddRequest.{AddRequest}
use Rattle.ipam_model.specs.AddThis as this
use Rattle.ipam_model.specs.Affinities.{BlockRead}
use Rattle.ipam_model.specs.Assigning.{assign, claim_for, target_in}
use Rattle.ipam_model.specs.Choice.{Claims, Leaves, Share, Takes, by_share, share_of}
use Rattle.ipam_model.specs.Reads.{block_said, config_said, pools_said}
use Rattle.ipam_model.specs.Requests.{told_as}
use Rattle.ipam_model.specs.Step.{all_left, answer_of, goes, onward, rounds, stops}
use Rattle.ipam_model.specs.Told.{of_add_this}
use Rattle.ipam_model.specs.Usable.{usable_pool_of}
use Rattle.ipam_laws.proofs.ActParts.{read-current}
use Rattle.ipam_laws.proofs.AddParts.{AssignEnds, AssignsLast, GoesQuietly, KnowsRead, NotLimit, ReadLast, assign-comes, claim-for}
use Rattle.ipam_laws.proofs.AddTrails.{Calmly, Knows, NoBlock, Quietly, Same, quietly-calmly}
use Rattle.ipam_laws.proofs.Trails.{Comes, Comes-bound, Did, Trail}

module _ (request : AddRequest) (address : AddrValue) where
  abbrev pub wanted : this.Wanted
  wanted = record { request = request; address = address }

  -- ---- what was looked at

  -- the configuration, the pools and the block of the address's slot were read, and nothing since
  pub record HasRead (looked : this.LookedAtBlock) (trail : Trail) : Type 0 where
    pub config : Datastore
    pub pools : Datastore
    pub block : Datastore
    pub pool : Pool
    pub before : Trail
    pub is : trail ≡ Did looked.b block (Get (key.Block looked.cidr)) ∷ Did looked.rules.p pools (Get key.Pools) ∷ Did looked.rules.c config (Get key.Config) ∷ before
    pub by_config : looked.rules.config ≡ config_said (reply_of config (Get key.Config))
    pub usable : usable_pool_of (this.asked_of_this request address) address (pools_said (reply_of pools (Get key.Pools))) ≡ Some pool
    pub at_slot : looked.cidr ≡ this.slot_holding pool address
    pub calm : Calmly trail

  -- the block was there
  pub record HasFoundBlock (looked : this.LookedAtBlock) (found : ℕ × block.BlockValue) (trail : Trail) : Type 0 where
    pub read : HasRead looked trail
    pub there : block_said (reply_of read.block (Get (key.Block looked.cidr))) ≡ Some found

  pub record IsUnpooled (moment : ℕ) (trail : Trail) : Type 0 where
    pub pools : Datastore
    pub before : Trail
    pub is : trail ≡ Did moment pools (Get key.Pools) ∷ before
    pub none : usable_pool_of (this.asked_of_this request address) address (pools_said (reply_of pools (Get key.Pools))) ≡ None

  pub record IsHeldBy (id : List ℕ) (moment : ℕ) (trail : Trail) : Type 0 where
    pub looked : this.LookedAtBlock
    pub found : ℕ × block.BlockValue
    pub has : HasFoundBlock looked found trail
    pub at : looked.b ≡ moment
    pub held : Allocation
    pub is_held : holder found.1 (address.number - looked.cidr.base) ≡ Some held
    pub is_holder : held.attributes.handle ≡ id

  pub record IsLeftAlone (cidr : CidrValue) (moment : ℕ) (trail : Trail) : Type 0 where
    pub looked : this.LookedAtBlock
    pub found : ℕ × block.BlockValue
    pub has : HasFoundBlock looked found trail
    pub at : looked.b ≡ moment
    pub is_block : cidr ≡ looked.cidr
    pub was_free : holder found.1 (address.number - looked.cidr.base) ≡ None
    pub leaves : share_of looked.rules.config.strict request.node found.1 ≡ Leaves

  -- the address was free in a block that was read, and then it was assigned there
  pub record IsAssignedTo (given : GivenThis) (trail : Trail) : Type 0 where
    pub looked : this.LookedAtBlock
    pub found : ℕ × block.BlockValue
    pub mid : Trail
    pub has : HasFoundBlock looked found mid
    pub was_free : holder found.1 (address.number - looked.cidr.base) ≡ None
    pub takes : share_of looked.rules.config.strict request.node found.1 ≡ Takes
    pub done : Assigned
    pub assigns : AssignsLast mid request.attributes (target_in found (address.number - looked.cidr.base)) done trail
    pub is : given ≡ this.this_given wanted looked done

  -- the count of the block that was read is at its limit
  pub record IsAtLimit (moment : ℕ) (trail : Trail) : Type 0 where
    pub looked : this.LookedAtBlock
    pub found : ℕ × block.BlockValue
    pub mid : Trail
    pub has : HasFoundBlock looked found mid
    pub last : ReadLast mid request.attributes.handle found.1.cidr moment trail

  unfoldable pub IsThis : Trail → AddThisAnswer → Type 0
  IsThis trail (add_this.AddedThis given) = IsAssignedTo given trail
  IsThis trail (add_this.NotInPool moment) = IsUnpooled moment trail
  IsThis trail (add_this.Taken id moment) = IsHeldBy id moment trail
  IsThis trail (add_this.NotAffine cidr moment) = IsLeftAlone cidr moment trail
  IsThis trail (add_this.Again lost claims) = Unit {0}
  IsThis trail add_this.Full = Calmly trail
  IsThis trail (add_this.CountFull moment) = IsAtLimit moment trail × Calmly trail
  IsThis trail add_this.Spent = Unit {0}

  unfoldable ThisEnds : Trail → Outcome AddThisAnswer → Type 0
  ThisEnds trail (Went left told) = IsThis trail told
  ThisEnds trail (Stops left (CountAtLimit moment)) = IsAtLimit moment trail × Calmly trail
  ThisEnds trail (Stops left why) = Calmly trail

  abbrev NextThis : this.NextThisRound → Type 0
  NextThis next = (trail : Trail) (now : Left) → Calmly trail → Comes ThisEnds trail (next now)

  otherwise : (trail : Trail) (left : Left) (why : Stop) → NotLimit why → Calmly trail → ThisEnds trail (Stops left why)
  unfolding ThisEnds NotLimit
  otherwise trail left OutOfTries h k = k
  otherwise trail left OutOfClaims h k = k
  otherwise trail left NoRoom h k = k
  otherwise trail left (CountAtLimit moment) h k = absurd h
  otherwise trail left NoRevisions h k = k

  limit-calm : (mid trail : Trail) (id : List ℕ) (cidr : CidrValue) (moment : ℕ) → Calmly mid → ReadLast mid id cidr moment trail → Calmly trail
  unfolding Calmly
  limit-calm mid trail id cidr moment h last = subst (λ (t : Trail). Calmly t) (sym last.is) (NoBlock (λ other e. cc e), quietly-calmly mid last.between last.quiet h)

  module _ (next : this.NextThisRound) (after : NextThis next) (left : Left) where
    take-this : (looked : this.LookedAtBlock) (found : ℕ × block.BlockValue) (trail : Trail) → HasFoundBlock looked found trail → Knows trail found.0 found.1 → holder found.1 (address.number - looked.cidr.base) ≡ None → share_of looked.rules.config.strict request.node found.1 ≡ Takes
        → Comes ThisEnds trail (this.this_take wanted next left looked found)
    unfolding AssignEnds ThisEnds IsThis
    take-this looked found trail has knows free takes =
        Comes-bound (AssignEnds trail request.attributes (target_in found (address.number - looked.cidr.base))) ThisEnds (onward (this.this_assigned wanted next looked)) (assign request.attributes (target_in found (address.number - looked.cidr.base)) left) trail
        (assign-comes trail request.attributes (target_in found (address.number - looked.cidr.base)) left knows) ends
      where
        calm : (longer : Trail) → Quietly trail longer → Calmly longer
        calm longer quiet = quietly-calmly trail longer quiet has.read.calm

        ends : (longer : Trail) (outcome : Outcome (Option Assigned)) → AssignEnds trail request.attributes (target_in found (address.number - looked.cidr.base)) longer outcome → Comes ThisEnds longer (onward (this.this_assigned wanted next looked) outcome)
        ends longer (Went now (Some done)) k = record {
          looked = looked;
          found = found;
          mid = trail;
          has = has;
          was_free = free;
          takes = takes;
          done = done;
          assigns = k.1;
          is = refl;
        }
        ends longer (Went now None) k = after longer now (calm longer k)
        ends longer (Stops now OutOfTries) k = calm longer k
        ends longer (Stops now OutOfClaims) k = calm longer k
        ends longer (Stops now NoRoom) k = calm longer k
        ends longer (Stops now NoRevisions) k = calm longer k
        ends longer (Stops now (CountAtLimit moment)) k = (
          record { looked = looked; found = found; mid = trail; has = has; last = k },
          limit-calm trail longer request.attributes.handle found.1.cidr moment has.read.calm k,
        )

    claim-this : (looked : this.LookedAtBlock) (read : BlockRead) (trail : Trail) → HasRead looked trail → KnowsRead trail read → Comes ThisEnds trail (this.this_claim wanted next left looked read)
    unfolding GoesQuietly
    claim-this looked read trail has knows =
        Comes-bound (GoesQuietly trail) ThisEnds (onward (λ now done. next now)) (claim_for request.node looked.cidr read left) trail (claim-for trail trail request.node looked.cidr read left Same knows) ends
      where
        ends : (longer : Trail) (outcome : Outcome (Unit {0})) → GoesQuietly trail longer outcome → Comes ThisEnds longer (onward (λ now done. next now) outcome)
        ends longer (Went now done) k = after longer now (quietly-calmly trail longer k has.calm)
        ends longer (Stops now why) k = otherwise longer now why k.0 (quietly-calmly trail longer k.1 has.calm)

    block-this : (looked : this.LookedAtBlock) (read : BlockRead) (trail : Trail) → (has : HasRead looked trail) → block_said (reply_of has.block (Get (key.Block looked.cidr))) ≡ read → KnowsRead trail read → Comes ThisEnds trail (this.this_block wanted next left looked read)
    unfolding ThisEnds IsThis
    block-this looked None trail has there knows = claim-this looked None trail has tt
    block-this looked (Some found) trail has there knows = by (holder found.1 (address.number - looked.cidr.base)) refl
      where
        shared : (share : Share) → share_of looked.rules.config.strict request.node found.1 ≡ share → holder found.1 (address.number - looked.cidr.base) ≡ None
            → Comes ThisEnds trail (by_share share (this.this_take wanted next left looked found) (this.this_claim wanted next left looked (Some found)) (goes left (add_this.NotAffine looked.cidr looked.b)))
        shared Takes e free = take-this looked found trail (record { read = has; there = there }) knows free e
        shared Claims e free = claim-this looked (Some found) trail has knows
        shared Leaves e free = record {
          looked = looked;
          found = found;
          has = record { read = has; there = there };
          at = refl;
          is_block = refl;
          was_free = free;
          leaves = e;
        }

        by : (o : Option Allocation) → holder found.1 (address.number - looked.cidr.base) ≡ o → Comes ThisEnds trail (this.this_held (this.this_free wanted next left looked found) left looked o)
        by (Some held) e = record {
          looked = looked;
          found = found;
          has = record { read = has; there = there };
          at = refl;
          held = held;
          is_held = e;
          is_holder = refl;
        }
        by None e = shared (share_of looked.rules.config.strict request.node found.1) refl e

    round-this : (trail : Trail) → Calmly trail → Comes ThisEnds trail (this.this_round wanted next left)
    unfolding ThisEnds IsThis Calmly
    round-this trail calm = λ c config a1 p pools a2.
        pooled c config p pools (usable_pool_of (this.asked_of_this request address) address (pools_said (reply_of pools (Get key.Pools)))) refl
      where
        -- a block that was read is known
        known : (b : ℕ) (store : Datastore) (rest : Trail) (cidr : CidrValue) (read : BlockRead) → block_said (reply_of store (Get (key.Block cidr))) ≡ read → KnowsRead (Did b store (Get (key.Block cidr)) ∷ rest) read
        known b store rest cidr None e = tt
        known b store rest cidr (Some found) e = λ later agrees.
            (read-current b store later rest cidr found e agrees).1

        pooled : (c : ℕ) (config : Datastore) (p : ℕ) (pools : Datastore) (o : Option Pool) → usable_pool_of (this.asked_of_this request address) address (pools_said (reply_of pools (Get key.Pools))) ≡ o
            → Comes ThisEnds (Did p pools (Get key.Pools) ∷ Did c config (Get key.Config) ∷ trail) (this.this_in_pool wanted next left (record { config = config_said (reply_of config (Get key.Config)); c = c; p = p }) o)
        pooled c config p pools None e = record { pools = pools; before = Did c config (Get key.Config) ∷ trail; is = refl; none = e }
        pooled c config p pools (Some pool) e = λ b store agrees.
            let cidr = this.slot_holding pool address in
            let rest : Trail = Did p pools (Get key.Pools) ∷ Did c config (Get key.Config) ∷ trail in
            let looked : this.LookedAtBlock = record { rules = record { config = config_said (reply_of config (Get key.Config)); c = c; p = p }; cidr = cidr; b = b } in
            block-this looked (block_said (reply_of store (Get (key.Block cidr)))) (Did b store (Get (key.Block cidr)) ∷ rest)
            (record {
              config = config;
              pools = pools;
              block = store;
              pool = pool;
              before = trail;
              is = refl;
              by_config = refl;
              usable = e;
              at_slot = refl;
              calm = (NoBlock (λ other f. cc f), (NoBlock (λ other f. cc f), (NoBlock (λ other f. cc f), calm)));
            })
            refl (known b store rest cidr (block_said (reply_of store (Get (key.Block cidr)))) refl)

  rounds-this : (more : ℕ) (trail : Trail) (left : Left) → Calmly trail → Comes ThisEnds trail (rounds (this.this_round wanted) more left)
  unfolding rounds NotLimit
  rounds-this zero trail left calm = round-this (λ now. stops now OutOfTries) (λ longer now k. otherwise longer now OutOfTries tt k) left trail calm
  rounds-this (suc more) trail left calm = round-this (rounds (this.this_round wanted) more) (λ longer now k. rounds-this more longer now k) left trail calm

  -- ---- what is told

  unfoldable pub OfThis : Trail → Answer → Type 0
  OfThis trail (answer.AddedThis given) = IsAssignedTo given trail
  OfThis trail (answer.NotInPool moment) = IsUnpooled moment trail
  OfThis trail (answer.Taken id moment) = IsHeldBy id moment trail
  OfThis trail (answer.NotAffine cidr moment) = IsLeftAlone cidr moment trail
  OfThis trail (answer.Again lost claims) = Unit {0}
  OfThis trail answer.Full = Calmly trail
  OfThis trail (answer.CountFull moment) = IsAtLimit moment trail × Calmly trail
  OfThis trail answer.Spent = Unit {0}
  OfThis trail _ = ⊥

  this-answers : Comes IsThis [] (this.add_this_word request address)
  unfolding Calmly ThisEnds IsThis
  this-answers =
      Comes-bound ThisEnds IsThis (λ outcome. Ends (answer_of this.add_this_stops outcome)) _ [] (rounds-this (all_left.races + all_left.claims) [] all_left tt) ends
    where
      ends : (trail : Trail) (outcome : Outcome AddThisAnswer) → ThisEnds trail outcome → IsThis trail (answer_of this.add_this_stops outcome)
      ends trail (Went left told) k = k
      ends trail (Stops left OutOfTries) k = tt
      ends trail (Stops left OutOfClaims) k = tt
      ends trail (Stops left NoRoom) k = k
      ends trail (Stops left (CountAtLimit moment)) k = k
      ends trail (Stops left NoRevisions) k = tt

  pub told-this : Comes OfThis [] (told_as of_add_this (this.add_this_word request address))
  unfolding IsThis OfThis
  told-this = Comes-bound IsThis OfThis (λ one. Ends (of_add_this one)) (this.add_this_word request address) [] this-answers ends
    where
      ends : (longer : Trail) (one : AddThisAnswer) → IsThis longer one → Comes OfThis longer (Ends (of_add_this one))
      ends longer (add_this.AddedThis given) k = k
      ends longer (add_this.NotInPool moment) k = k
      ends longer (add_this.Taken id moment) k = k
      ends longer (add_this.NotAffine cidr moment) k = k
      ends longer (add_this.Again lost claims) k = k
      ends longer add_this.Full k = k
      ends longer (add_this.CountFull moment) k = k
      ends longer add_this.Spent k = k
