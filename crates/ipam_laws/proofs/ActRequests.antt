-- What the other requests call, by the trail that led there, and all of them.
use Rattle.std.proofs.Common.{◌≡◌, inr, ℕ, zero, suc, ◌+◌, ◌-◌, ◌/◌, Bool, true, false, cond, List, [], ◌∷◌, ◌++◌, map, Option, Some, None, refl, sym, ap, ◌∙◌, subst, arith}
use Rattle.std.specs.Prelude.{◌&&◌}
use Rattle.ipam_addr.specs.declared.address.Family.{Family}
use Rattle.ipam_addr.specs.Shape.{AddrValue, CidrValue}
use Rattle.ipam_pool.specs.declared.pools.Pool.{Pool}
use Rattle.ipam_block.specs.Shape.{BlockValue}
use Rattle.ipam_records.specs.declared.call.Call.{Call}
use Rattle.ipam_records.specs.declared.call.Call.TheVariants.{Get, List as ListAll}
use Rattle.ipam_records.specs.declared.key.Key.TheVariants as key
use Rattle.ipam_records.specs.declared.key.Kind.TheVariants as kind
use Rattle.ipam_records.specs.Datastore.{Datastore, reply_of}
use Rattle.ipam_records.specs.Said.{Said}
use Rattle.ipam_records.specs.Word.{Word, Ends}
use Rattle.ipam_model.specs.declared.answer.Answer.{Answer}
use Rattle.ipam_model.specs.declared.answer.Scan.{Scan}
use Rattle.ipam_model.specs.declared.choice.Choice.{Choice}
use Rattle.ipam_model.specs.declared.choice.Choice.TheVariants.{Use, Borrow, Claim, Nothing, NoPool}
use Rattle.ipam_model.specs.declared.part.Assigned.{Assigned}
use Rattle.ipam_model.specs.declared.part.Left.{Left}
use Rattle.ipam_model.specs.declared.part.Outcome.{Outcome}
use Rattle.ipam_model.specs.declared.part.Outcome.TheVariants.{Went, Stops}
use Rattle.ipam_model.specs.declared.part.Stop.TheVariants.{OutOfTries, NoRoom, NoRevisions}
use Rattle.ipam_model.specs.declared.request.AddRequest.{AddRequest}
use Rattle.ipam_model.specs.declared.request.ProbeRequest.{ProbeRequest}
use Rattle.ipam_model.specs.declared.request.Request.{Request}
use Rattle.ipam_model.specs.declared.request.Request.TheVariants.{Add, AddThis, Del, Check, Release, Collect, Admin, Probe}
use Rattle.ipam_model.specs.Affinities.{BlockRead}
use Rattle.ipam_model.specs.Add.{add_word}
use Rattle.ipam_model.specs.Assigning.{assign, claim_for, target_in}
use Rattle.ipam_model.specs.Reads.{config_said, pools_said}
use Rattle.ipam_model.specs.Remove.{del_blocks}
use Rattle.ipam_model.specs.Requests.{word_of}
use Rattle.ipam_model.specs.Step.{Part, all_left, goes, onward, rounds, stops}
use Rattle.ipam_model.specs.Usable.{families_if}
use Rattle.ipam_laws.proofs.SeenReads.{seen_by_stores}
use Rattle.ipam_laws.specs.Claims.{IsBareRead}
use Rattle.ipam_laws.proofs.Acting.{Act, Assigns, ByLook, Changes, Claims, Counts, ForAdd, HasLookedAt, Reads, Releases}
use Rattle.ipam_laws.proofs.ActParts.{Any, AssignDone, assign-acts, claim_for-acts}
use Rattle.ipam_laws.proofs.Acts.{Acts, Acts-bound, Later, Same, Since, since-agrees}
use Rattle.ipam_laws.proofs.Trails.{AgreesAll, Did, Trail}
use Rattle.ipam_addr.specs.Holding.{holds_address}
use Rattle.ipam_addr.proofs.HoldingLemmas.{holds_from}
use Rattle.ipam_addr.proofs.SlotLemmas.{slot_number_holds}
use Rattle.ipam_addr.specs.Slots.{slot_of}
use Rattle.ipam_addr.specs.Width.{size_of}
use Rattle.ipam_block.specs.Operations.{ordinal_address, holder}
use Rattle.ipam_block.specs.declared.allocation.Allocation.{Allocation}
use Rattle.ipam_records.specs.declared.record.Record.{Record}
use Rattle.ipam_model.specs.declared.outcome.AddThisAnswer.{AddThisAnswer}
use Rattle.ipam_model.specs.declared.outcome.AddThisAnswer.TheVariants as add_this
use Rattle.ipam_model.specs.declared.outcome.AdminAnswer.{AdminAnswer}
use Rattle.ipam_model.specs.declared.request.Admin.{Admin as Setting}
use Rattle.ipam_model.specs.AddThis as this
use Rattle.ipam_model.specs.Admin as change
use Rattle.ipam_model.specs.Affinities.{Tie, release, release_once, release_stops}
use Rattle.ipam_model.specs.Choice.{Claims as ToClaim, Leaves, Share, Takes, by_share, choice_of, is_unowned_and_empty, share_of}
use Rattle.ipam_model.specs.Look.{asked_of_probe, check_word, probe_word, check_each, check_held, check_in_pool, holds_at, probe_choice, probe_each}
use Rattle.ipam_model.specs.Reads.{block_said, handle_said}
use Rattle.ipam_model.specs.Remove.{collect_word, del_stops, del_word}
use Rattle.ipam_model.specs.Requests.{told_as}
use Rattle.ipam_model.specs.Step.{tries, left_of, write_back}
use Rattle.ipam_model.specs.Told.{of_add, of_add_this, of_admin, of_check, of_collect, of_del, of_probe, of_release}
use Rattle.ipam_model.specs.Usable.{pool_of, usable_pool_of, is_usable}
use Rattle.ipam_laws.proofs.ActAdds.{add-acts}
use Rattle.ipam_laws.proofs.ActParts.{Begins, Goes, InClaim, IsCurrent, MayClaim, WasRead, read-current, release-tries, wrote}
use Rattle.ipam_laws.proofs.ActWords.{collect-acts, del-blocks, reads-acts, settles}
use Rattle.ipam_laws.proofs.DebtCalls.{back-puts}
use Rattle.ipam_records.specs.BlockLists.{is_node}
use Rattle.ipam_laws.proofs.Members.{in-find}
use Rattle.ipam_laws.proofs.RequestSteps.{key-changed}
use Rattle.ipam_laws.proofs.SoundBlocks.{holding-number}

-- ---- requests that only look

check-acts : (request : Request) (id : List ℕ) (p : ℕ) (pools : List Pool) (addresses : List AddrValue) (trail : Trail) → Acts (Act request) Any trail (check_each id p pools addresses)
unfolding check_each
check-acts request id p pools [] trail = tt
check-acts request id p pools (address ∷ rest) trail = by (pool_of address pools) (λ longer. check-acts request id p pools rest longer)
  where
    held : (longer : Trail) (moment : ℕ) (b : Bool) → Acts (Act request) Any longer (check_each id p pools rest) → Acts (Act request) Any longer (check_held (check_each id p pools rest) address moment b)
    held longer moment true h = h
    held longer moment false h = tt

    by : (o : Option Pool) → ((longer : Trail) → Acts (Act request) Any longer (check_each id p pools rest)) → Acts (Act request) Any trail (check_in_pool (check_each id p pools rest) id address p o)
    by None h = tt
    by (Some pool) h = λ moment store agrees.
        let asked = Get (key.Block (this.slot_holding pool address)) in
        (Reads refl, held (Did moment store asked ∷ trail) moment (holds_at id address (block_said (reply_of store asked))) (h (Did moment store asked ∷ trail)))

probe-acts : (request : ProbeRequest) (scans : List Scan) (families : List Family) (trail : Trail) → Acts (Act (Probe request)) Any trail (probe_each request scans families)
unfolding probe_each
probe-acts request scans [] trail = tt
probe-acts request scans (family ∷ families) trail = λ c config a1. (
  Reads refl,
  λ p pools a2. (
    Reads refl,
    λ r reservations a3. (
      Reads refl,
      λ f affinities a4. (
        Reads refl,
        λ b blocks a5. (
          Reads refl,
          by (record { family = family; c = c; p = p; r = r; f = f; b = b })
              (Did b blocks (ListAll kind.Block) ∷ Did f affinities (ListAll kind.Affinity) ∷ Did r reservations (Get key.Reservations) ∷ Did p pools (Get key.Pools) ∷ Did c config (Get key.Config) ∷ trail)
              (choice_of (asked_of_probe request family) (seen_by_stores config pools reservations affinities blocks))
              (λ scan longer. probe-acts request (scans ++ scan ∷ []) families longer),
        ),
      ),
    ),
  ),
)
  where
    by : (scan : Scan) (longer : Trail) (choice : Choice) → ((one : Scan) (further : Trail) → Acts (Act (Probe request)) Any further (probe_each request (scans ++ one ∷ []) families)) → Acts (Act (Probe request)) Any longer (probe_choice (probe_each request (scans ++ scan ∷ []) families) (asked_of_probe request family) scan choice)
    by scan longer Nothing h = tt
    by scan longer (NoPool place) h = tt
    by scan longer (Use cidr ordinal) h = h scan longer
    by scan longer (Claim cidr) h = h scan longer
    by scan longer (Borrow cidr ordinal) h = h scan longer

-- ---- changes of settings

admin-once : (request : Setting) (again : Part AdminAnswer) (left : Left) → ((trail : Trail) → Acts (Act (Admin request)) Any trail again) → (trail : Trail) → Acts (Act (Admin request)) Any trail (change.admin_once request again left)
admin-once request again left h trail = λ moment store agrees.
    let asked = Get (change.key_changed request) in
    (Reads refl, by (Did moment store asked ∷ trail) (reply_of store asked) (change.admin_change request (reply_of store asked)) refl)
  where
    by : (longer : Trail) (said : Said) (what : change.Changed) → change.admin_change request said ≡ what → Acts (Act (Admin request)) Any longer (change.admin_write again left said what)
    by longer said (change.Refuses number name) e = tt
    by longer said (change.Becomes new) e = λ moment store agrees.
        let asked = write_back said new in (
          Changes request new refl (back-puts said new) (key-changed request said new e),
          wrote (Act (Admin request)) (reads-acts (Admin request)) Any (Did moment store asked ∷ longer) (reply_of store asked) (reply_of store asked) _ again (stops left NoRoom) (stops left NoRevisions) refl
              (λ revision f. tt) (h (Did moment store asked ∷ longer)) tt tt,
        )

admin-tries : (request : Setting) (races claims : ℕ) (trail : Trail) → Acts (Act (Admin request)) Any trail (tries (change.admin_once request) races claims)
unfolding tries
admin-tries request zero claims = admin-once request (stops (left_of zero claims) OutOfTries) (left_of zero claims) (λ trail. tt)
admin-tries request (suc races) claims = admin-once request (tries (change.admin_once request) races claims) (left_of (suc races) claims) (admin-tries request races claims)

-- ---- an ADD of one address

and-second : (a b : Bool) → (a && b) ≡ true → b ≡ true
and-second true b e = e
and-second false b e = absurd (cc e)

-- the store that answered agrees with itself
own-agrees : (moment : ℕ) (store : Datastore) (trail : Trail) (asked : Call) → AgreesAll store trail → AgreesAll store (Did moment store asked ∷ trail)
unfolding AgreesAll
own-agrees moment store trail asked agrees = (
  λ k revision one other a b.
      let rows : (revision, one) ≡ (revision, other) = cc (a, b) in ap (λ (row : ℕ × Record). row.1) rows,
  agrees,
)

-- what a node claims is nobody's and empty
claims-bare : (strict : Bool) (node : List ℕ) (b : BlockValue) → share_of strict node b ≡ ToClaim → is_unowned_and_empty b ≡ true
claims-bare strict node b e = by (is_node node b.node) (is_unowned_and_empty b) strict e
  where
    by : (own free strict : Bool) → cond own Takes (cond free ToClaim (cond strict Leaves Takes)) ≡ ToClaim → free ≡ true
    by true free strict f = absurd (cc f)
    by false true strict f = refl
    by false false true f = absurd (cc f)
    by false false false f = absurd (cc f)

module _ (add : AddRequest) (address : AddrValue) where
  abbrev wanted : this.Wanted
  wanted = record { request = add; address = address }

  abbrev ActsThis : Part AddThisAnswer → Type 0
  ActsThis part = (trail : Trail) → Acts (Act (AddThis add address)) Any trail part

  -- the address of the slot that holds it
  own-address : (pool : Pool) (cidr : CidrValue) → holds_address pool.cidr address ≡ true → cidr ≡ this.slot_holding pool address → ordinal_address cidr (address.number - cidr.base) ≡ address
  own-address pool cidr holds is =
      let number = holding-number pool address holds in
      let inside = slot_number_holds pool.cidr pool.size address (holds_from pool.cidr address holds) in
      let slot = slot_of pool.cidr pool.size ((address.number - pool.cidr.base) / size_of pool.cidr.family pool.size) in
      let from = inside.from_base in
      let sum : slot.base + (address.number - slot.base) ≡ address.number = omega arith in
      let there : ordinal_address slot (address.number - slot.base) ≡ address = λ i. record { family = sym inside.same_family i; number = sum i } in
      subst (λ (c : CidrValue). ordinal_address c (address.number - c.base) ≡ address) (sym (is ∙ number)) there

  take-this : (pool : Pool) (looked : this.LookedAtBlock) (next : this.NextThisRound) → ((left : Left) → ActsThis (next left)) → (origin : Trail) (left : Left) (found : ℕ × BlockValue)
      → holds_address pool.cidr address ≡ true → looked.cidr ≡ this.slot_holding pool address → found.1.cidr ≡ looked.cidr → ((store : Datastore) → AgreesAll store origin → IsCurrent store found.0 found.1)
      → Acts (Act (AddThis add address)) Any origin (this.this_take wanted next left looked found)
  unfolding AssignDone
  take-this pool looked next h origin left found holds is same current =
      Acts-bound (Act (AddThis add address)) (AssignDone add.attributes (target_in found (address.number - looked.cidr.base))) Any (onward (this.this_assigned wanted next looked)) (assign add.attributes (target_in found (address.number - looked.cidr.base)) left) origin
      (assign-acts (Act (AddThis add address)) (reads-acts (AddThis add address)) add.attributes (target_in found (address.number - looked.cidr.base)) origin left (record {
        counts = λ trail store label asked is. Counts add.attributes.handle is (ForAdd add (inr (address, refl)) refl);
        current = λ trail since store agrees. current store (since-agrees store origin trail since agrees);
        may = λ trail store now. Assigns add.attributes (target_in found (address.number - looked.cidr.base)) refl now (refl, own);
      }))
      (λ longer outcome since k. ends longer outcome)
    where
      own : ordinal_address found.1.cidr (address.number - looked.cidr.base) ≡ address
      own = ap (λ (c : CidrValue). ordinal_address c (address.number - looked.cidr.base)) same ∙ own-address pool looked.cidr holds is

      ends : (longer : Trail) (outcome : Outcome (Option Assigned)) → Acts (Act (AddThis add address)) Any longer (onward (this.this_assigned wanted next looked) outcome)
      ends longer (Went now (Some done)) = tt
      ends longer (Went now None) = h now longer
      ends longer (Stops now why) = tt

  -- what is known of the block that was read, and how it came to be read
  record HasKnown (looked : this.LookedAtBlock) (read : BlockRead) (origin : Trail) : Type 0 where
    known : (found : ℕ × BlockValue) → read ≡ Some found → (found.1.cidr ≡ looked.cidr) × ((store : Datastore) → AgreesAll store origin → IsCurrent store found.0 found.1)
    looks : IsBareRead read → HasLookedAt add address looked.cidr read origin

  may-claim : (looked : this.LookedAtBlock) (read : BlockRead) (origin : Trail) → HasKnown looked read origin → IsBareRead read → MayClaim (Act (AddThis add address)) (reads-acts (AddThis add address)) add.node looked.cidr read origin
  may-claim looked read origin h bare trail within store label asked agrees is =
      Claims add looked.cidr read origin is (was-read read h.known) (ByLook address refl (h.looks bare)) within
    where
      claim-since : (longer : Trail) → InClaim origin longer → Since origin longer
      claim-since longer Begins = Same
      claim-since longer (Goes moment old call rest no_round before) = Later (Did moment old call) rest (claim-since rest before)

      was-read : (read : BlockRead) → ((found : ℕ × BlockValue) → read ≡ Some found → (found.1.cidr ≡ looked.cidr) × ((store : Datastore) → AgreesAll store origin → IsCurrent store found.0 found.1)) → WasRead store looked.cidr read
      was-read None known = tt
      was-read (Some found) known =
          let (same, current) = known found refl in
          (same, current store (since-agrees store origin trail (claim-since trail within) agrees))

  claim-this : (looked : this.LookedAtBlock) (next : this.NextThisRound) → ((left : Left) → ActsThis (next left)) → (left : Left) (read : BlockRead) (trail : Trail) → HasKnown looked read trail → IsBareRead read
      → Acts (Act (AddThis add address)) Any trail (this.this_claim wanted next left looked read)
  claim-this looked next h left read trail known bare =
      Acts-bound (Act (AddThis add address)) Any Any (onward (λ now done. next now)) (claim_for add.node looked.cidr read left) trail
      (claim_for-acts (Act (AddThis add address)) (reads-acts (AddThis add address)) add.node looked.cidr read left trail (may-claim looked read trail known bare)) (λ longer outcome since any. ends longer outcome)
    where
      ends : (longer : Trail) (outcome : Outcome (Unit {0})) → Acts (Act (AddThis add address)) Any longer (onward (λ now done. next now) outcome)
      ends longer (Went now done) = h now longer
      ends longer (Stops now why) = tt

  free-this : (pool : Pool) (looked : this.LookedAtBlock) (next : this.NextThisRound) → ((left : Left) → ActsThis (next left)) → (origin : Trail) (left : Left) (found : ℕ × BlockValue)
      → holds_address pool.cidr address ≡ true → looked.cidr ≡ this.slot_holding pool address → HasKnown looked (Some found) origin
      → Acts (Act (AddThis add address)) Any origin (this.this_free wanted next left looked found)
  free-this pool looked next h origin left found holds is known = by (share_of looked.rules.config.strict add.node found.1) refl
    where
      by : (share : Share) → share_of looked.rules.config.strict add.node found.1 ≡ share → Acts (Act (AddThis add address)) Any origin (by_share share (this.this_take wanted next left looked found) (this.this_claim wanted next left looked (Some found)) (goes left (add_this.NotAffine looked.cidr looked.b)))
      by Takes e = take-this pool looked next h origin left found holds is (known.known found refl).0 (known.known found refl).1
      by ToClaim e = claim-this looked next h left (Some found) origin known (claims-bare looked.rules.config.strict add.node found.1 e)
      by Leaves e = tt

  block-this : (pool : Pool) (looked : this.LookedAtBlock) (next : this.NextThisRound) → ((left : Left) → ActsThis (next left)) → (origin : Trail) (left : Left) (read : BlockRead)
      → holds_address pool.cidr address ≡ true → looked.cidr ≡ this.slot_holding pool address → HasKnown looked read origin
      → Acts (Act (AddThis add address)) Any origin (this.this_block wanted next left looked read)
  block-this pool looked next h origin left None holds is known = claim-this looked next h left None origin known tt
  block-this pool looked next h origin left (Some found) holds is known = by (holder found.1 (address.number - looked.cidr.base))
    where
      by : (o : Option Allocation) → Acts (Act (AddThis add address)) Any origin (this.this_held (this.this_free wanted next left looked found) left looked o)
      by None = free-this pool looked next h origin left found holds is known
      by (Some held) = tt

  pool-this : (rules : this.RulesRead) (next : this.NextThisRound) → ((left : Left) → ActsThis (next left)) → (config pools : Datastore) (trail : Trail) (left : Left) (o : Option Pool) → ((pool : Pool) → o ≡ Some pool → holds_address pool.cidr address ≡ true)
      → usable_pool_of (this.asked_of_this add address) address (pools_said (reply_of pools (Get key.Pools))) ≡ o
      → Acts (Act (AddThis add address)) Any (Did rules.p pools (Get key.Pools) ∷ Did rules.c config (Get key.Config) ∷ trail) (this.this_in_pool wanted next left rules o)
  pool-this rules next h config pools trail left None holds usable = tt
  pool-this rules next h config pools trail left (Some pool) holds usable = λ b store agrees.
      let two : Trail = Did rules.p pools (Get key.Pools) ∷ Did rules.c config (Get key.Config) ∷ trail in
      let cidr = this.slot_holding pool address in
      let asked = Get (key.Block cidr) in (
        Reads refl,
        block-this pool (record { rules = rules; cidr = cidr; b = b }) next h (Did b store asked ∷ two) left (block_said (reply_of store asked)) (holds pool refl) refl (record {
          known = λ found e. (
            (read-current b store store two cidr found e (own-agrees b store two asked agrees)).0,
            λ later agrees_then. (read-current b store later two cidr found e agrees_then).1,
          );
          looks = λ bare. record {
            at = record { c = rules.c; p = rules.p; b = b };
            config = config;
            pools = pools;
            block = store;
            pool = pool;
            before = trail;
            is = refl;
            usable = usable;
            at_slot = refl;
            was_read = refl;
            bare = bare;
          };
        }),
      )

  round-this : (next : this.NextThisRound) → ((left : Left) → ActsThis (next left)) → (left : Left) → ActsThis (this.this_round wanted next left)
  round-this next h left trail = λ c config a1. (
    Reads refl,
    λ p pools a2. (
      Reads refl,
      pool-this (record { config = config_said (reply_of config (Get key.Config)); c = c; p = p }) next h config pools trail left
          (usable_pool_of (this.asked_of_this add address) address (pools_said (reply_of pools (Get key.Pools))))
          (λ pool e. and-second (is_usable (this.asked_of_this add address) pool) (holds_address pool.cidr address)
          (in-find (λ (one : Pool). is_usable (this.asked_of_this add address) one && holds_address one.cidr address) pool (pools_said (reply_of pools (Get key.Pools))) e).1)
          refl,
    ),
  )

  rounds-this : (more : ℕ) (left : Left) → ActsThis (rounds (this.this_round wanted) more left)
  unfolding rounds
  rounds-this zero left = round-this (λ now. stops now OutOfTries) (λ now trail. tt) left
  rounds-this (suc more) left = round-this (rounds (this.this_round wanted) more) (rounds-this more) left

  add-this : (trail : Trail) → Acts (Act (AddThis add address)) Any trail (this.add_this_word add address)
  add-this trail = settles (AddThis add address) this.add_this_stops _ trail (rounds-this (all_left.races + all_left.claims) all_left trail)

-- ---- all requests

told : {A : Type 0} → (request : Request) (of_one : A → Answer) (w : Word A) (trail : Trail) → Acts (Act request) Any trail w → Acts (Act request) Any trail (told_as of_one w)
told request of_one w trail h = Acts-bound (Act request) Any Any (λ one. Ends (of_one one)) w trail h (λ longer a since any. tt)

del-acts : (id : List ℕ) → Acts (Act (Del id)) Any [] (del_word id)
del-acts id = λ moment store agrees. (
  Reads refl,
  settles (Del id) del_stops (del_blocks id moment (map (λ count. count.0) (handle_said id (reply_of store (Get (key.Handle id)))).counts) all_left) (Did moment store (Get (key.Handle id)) ∷ [])
      (del-blocks id moment (map (λ count. count.0) (handle_said id (reply_of store (Get (key.Handle id)))).counts) all_left (Did moment store (Get (key.Handle id)) ∷ [])),
)

checks-act : (id : List ℕ) (addresses : List AddrValue) → Acts (Act (Check id addresses)) Any [] (check_word id addresses)
checks-act id addresses = λ moment store agrees. (
  Reads refl,
  check-acts (Check id addresses) id moment (pools_said (reply_of store (Get key.Pools))) addresses (Did moment store (Get key.Pools) ∷ []),
)

release-acts : (node : List ℕ) (cidr : CidrValue) → Acts (Act (Release node cidr)) Any [] (release node cidr)
release-acts node cidr =
    let tie : Tie = record { node = node; block = cidr } in
    settles (Release node cidr) release_stops (tries (release_once tie) all_left.races all_left.claims) []
    (release-tries (Act (Release node cidr)) (reads-acts (Release node cidr)) tie (λ trail store label asked is. Releases tie refl is) all_left.races all_left.claims [])

admin-acts : (request : Setting) → Acts (Act (Admin request)) Any [] (change.admin_word request)
admin-acts request = settles (Admin request) change.admin_stops (tries (change.admin_once request) all_left.races all_left.claims) [] (admin-tries request all_left.races all_left.claims [])

pub all-acts : (request : Request) → Acts (Act request) Any [] (word_of request)
unfolding word_of
all-acts (Add request) = told (Add request) of_add (add_word request) [] (add-acts request [])
all-acts (AddThis request address) = told (AddThis request address) of_add_this (this.add_this_word request address) [] (add-this request address [])
all-acts (Del id) = told (Del id) of_del (del_word id) [] (del-acts id)
all-acts (Check id addresses) = told (Check id addresses) of_check (check_word id addresses) [] (checks-act id addresses)
all-acts (Release node cidr) = told (Release node cidr) of_release (release node cidr) [] (release-acts node cidr)
all-acts (Collect request) = told (Collect request) of_collect (collect_word request) [] (collect-acts request)
all-acts (Admin request) = told (Admin request) of_admin (change.admin_word request) [] (admin-acts request)
all-acts (Probe request) = told (Probe request) of_probe (probe_word request) [] (probe-acts request [] (families_if request.ipv4 request.ipv6) [])
