-- The word of each request: its labels say what its calls have made.
use Rattle.std.proofs.Common.{◌≡◌, ◌≢◌, inl, ℕ, zero, suc, ◌+◌, ◌-◌, Bool, true, false, List, [], ◌∷◌, ◌++◌, map, Option, Some, None, refl, sym, ap, ◌∙◌, subst}
use Rattle.ipam_addr.specs.declared.address.Family.{Family}
use Rattle.ipam_addr.specs.Shape.{AddrValue, CidrValue}
use Rattle.ipam_pool.specs.declared.pools.Pool.{Pool}
use Rattle.ipam_block.specs.Shape.{BlockValue}
use Rattle.ipam_block.specs.Operations.{holder}
use Rattle.ipam_block.specs.declared.allocation.Allocation.{Allocation}
use Rattle.ipam_records.specs.declared.call.Call.TheVariants.{Get, List as ListAll}
use Rattle.ipam_records.specs.declared.key.Key.{Key}
use Rattle.ipam_records.specs.declared.key.Key.TheVariants as key
use Rattle.ipam_records.specs.declared.key.Kind.TheVariants as kind
use Rattle.ipam_records.specs.declared.record.Record.{Record}
use Rattle.ipam_records.specs.declared.record.Record.TheVariants as record_of
use Rattle.ipam_records.specs.Datastore.{reply_of}
use Rattle.ipam_records.specs.Key.{key_of}
use Rattle.ipam_records.specs.Said.{Said, Can}
use Rattle.ipam_records.specs.Word.{Word, Ends}
use Rattle.ipam_model.specs.declared.answer.Answer.{Answer}
use Rattle.ipam_model.specs.declared.answer.Collected.{Collected}
use Rattle.ipam_model.specs.declared.answer.Scan.{Scan}
use Rattle.ipam_model.specs.declared.choice.Choice.{Choice}
use Rattle.ipam_model.specs.declared.choice.Choice.TheVariants.{Use, Borrow, Claim, Nothing as Lacking, NoPool}
use Rattle.ipam_model.specs.declared.outcome.AddThisAnswer.TheVariants as add_this
use Rattle.ipam_model.specs.declared.outcome.AdminAnswer.{AdminAnswer}
use Rattle.ipam_model.specs.declared.outcome.AdminAnswer.TheVariants as admin
use Rattle.ipam_model.specs.declared.outcome.CollectAnswer.TheVariants as collected
use Rattle.ipam_model.specs.declared.outcome.DelAnswer.TheVariants as del
use Rattle.ipam_model.specs.declared.outcome.ReleaseAnswer.TheVariants as released
use Rattle.ipam_model.specs.declared.part.Assigned.{Assigned}
use Rattle.ipam_model.specs.declared.part.Left.{Left}
use Rattle.ipam_model.specs.declared.part.Stop.TheVariants.{OutOfTries, NoRoom, NoRevisions}
use Rattle.ipam_model.specs.declared.request.AddRequest.{AddRequest}
use Rattle.ipam_model.specs.declared.request.Admin.{Admin as Setting}
use Rattle.ipam_model.specs.declared.request.Admin.TheVariants as change_of
use Rattle.ipam_model.specs.declared.request.CollectRequest.{CollectRequest}
use Rattle.ipam_model.specs.declared.request.ProbeRequest.{ProbeRequest}
use Rattle.ipam_model.specs.declared.request.Request.{Request}
use Rattle.ipam_model.specs.declared.request.Request.TheVariants.{Add, AddThis, Del, Check, Release, Collect, Admin, Probe}
use Rattle.ipam_model.specs.Add.{add_word}
use Rattle.ipam_model.specs.AddThis as this
use Rattle.ipam_model.specs.Admin as change
use Rattle.ipam_model.specs.Affinities.{BlockRead, Tie, release, release_once, release_stops, revision_read}
use Rattle.ipam_model.specs.Assigning.{assign, claim_for, target_in}
use Rattle.ipam_model.specs.Choice.{Claims, Leaves, Share, Takes, by_share, choice_of, share_of}
use Rattle.ipam_model.specs.Cluster.{new_record}
use Rattle.ipam_model.specs.Counting.{free, freeing_all}
use Rattle.ipam_model.specs.Look.{asked_of_probe, check_each, check_held, check_in_pool, check_word, holds_at, probe_choice, probe_each, probe_word}
use Rattle.ipam_model.specs.Moments.{revision_of}
use Rattle.ipam_model.specs.Reads.{block_said, config_said, handle_said, pools_said, rows_said}
use Rattle.ipam_model.specs.Remove.{Leak, collect_stops, collect_word, del_blocks, del_stops, del_word, free_leaks, freeing_owner, item_of, leaks, suspects, with_item}
use Rattle.ipam_model.specs.Requests.{told_as, word_of}
use Rattle.ipam_model.specs.Step.{Part, all_left, confirmed_so_far, goes, left_of, lost_so_far, most_claims, most_lost, rounds, stops, tries, without_count, write_back}
use Rattle.ipam_model.specs.Told.{of_add, of_add_this, of_admin, of_check, of_collect, of_del, of_probe, of_release}
use Rattle.ipam_model.specs.Usable.{families_if, pool_of, usable_pool_of}
use Rattle.ipam_laws.proofs.CountLemmas.{same_itself}
use Rattle.ipam_laws.proofs.CountSteps.{IsApart}
use Rattle.ipam_laws.proofs.DebtCalls.{apart-harmless, back-puts}
use Rattle.ipam_laws.proofs.Debts.{Nothing, owes-begins, owes-fed}
use Rattle.ipam_laws.proofs.LookedBlocks.{KnowsRead, looked-read, looked-revision}
use Rattle.ipam_laws.proofs.PointTrails.{IsPlain, begins-nowhere, fed-nowhere, seen_last}
use Rattle.ipam_laws.proofs.RequestSteps.{key-changed, one-picks, owned-picks}
use Rattle.ipam_laws.proofs.Losses.{back-new}
use Rattle.ipam_laws.proofs.Says.{Clean, IsGivenUp, NoneLeft, Rests, Settled, TooOften, Says, Says-bound, rests-plain, rests-tells, stays-listed, stays-read, stays-undone, wrote}
use Rattle.ipam_laws.proofs.SaysAdds.{GivesUp, add-says, five-says, settles, then-says}
use Rattle.ipam_laws.proofs.SaysBlocks.{assign-says, free-says}
use Rattle.ipam_laws.proofs.SaysClaims.{claim_for-says}
use Rattle.ipam_laws.proofs.SaysRelease.{release-tries}
use Rattle.ipam_laws.proofs.Trails.{Did, Got, Trail}

-- a procedure that raises no count gives up so
gives-up : {A : Type 0} → (of_one : A → Answer) (again : ℕ → A) (full spent : A) → ((lost : ℕ) → IsGivenUp (of_one (again lost))) → IsGivenUp (of_one spent) → GivesUp of_one (without_count again full spent)
gives-up of_one again full spent tries revisions = record { tries = λ left. tries most_lost; claims = λ left. tries (lost_so_far left); revisions = λ left. revisions }

-- ---- DEL and collection

del-blocks : (id : List ℕ) (moment : ℕ) (list : List CidrValue) (left : Left) (trail : Trail) → Rests (Del id) trail → Says (Del id) (Clean (Del id)) trail (del_blocks id moment list left)
unfolding del_blocks
del-blocks id moment [] left trail rests = rests
del-blocks id moment (cidr ∷ rest) left trail rests =
    then-says (Del id) (free (freeing_all id cidr) left) (λ now amount. del_blocks id moment rest now) trail
    (free-says (Del id) (freeing_all id cidr) (owned-picks id) left trail rests) (λ longer now amount k. del-blocks id moment rest now longer k)

del-says : (id : List ℕ) → Rests (Del id) [] → Says (Del id) (Settled (Del id) of_del) [] (del_word id)
del-says id rests = (
  rests-tells (Del id) [] rests,
  λ moment store agrees sound.
      let list = map (λ count. count.0) (handle_said id (reply_of store (Get (key.Handle id)))).counts in
      let trail : Trail = Did moment store (Get (key.Handle id)) ∷ [] in
      settles (Del id) of_del del_stops (gives-up of_del del.Again del.Spent del.Spent (λ lost. TooOften lost 0) NoneLeft) (del_blocks id moment list all_left) trail
      (del-blocks id moment list all_left trail (stays-read (Del id) moment store [] Nothing rests (key.Handle id) (λ n c e. cc e))),
)

module _ (collect : CollectRequest) where
  abbrev collects : Request
  collects = Collect collect

  free-leaks : (done : Collected) (list : List Leak) (left : Left) (trail : Trail) → Rests collects trail → Says collects (Clean collects) trail (free_leaks done list left)
  unfolding free_leaks
  free-leaks done [] left trail rests = rests
  free-leaks done (leak ∷ rest) left trail rests =
      then-says collects (free (freeing_owner leak.owner leak.block) left) (λ now amount. free_leaks (with_item done (item_of leak amount)) rest now) trail
      (free-says collects (freeing_owner leak.owner leak.block) (one-picks leak.owner.handle leak.block (leak.owner.address.number - leak.block.base) leak.owner.stamp) left trail rests)
      (λ longer now amount k. free-leaks (with_item done (item_of leak amount)) rest now longer k)

  collect-says : Rests collects [] → Says collects (Settled collects of_collect) [] (collect_word collect)
  collect-says rests = (
    rests-tells collects [] rests,
    λ b1 first a1 s1.
        let one : Trail = Did b1 first (ListAll kind.Block) ∷ [] in
        let at1 = stays-listed collects b1 first [] Nothing rests kind.Block in (
          rests-tells collects one at1,
          λ fed_at time live. (
            refl,
            let two : Trail = Got fed_at time live ∷ one in
                let at2 : Rests collects two = record { owes = owes-fed fed_at time live one Nothing at1.owes; point = fed-nowhere collects fed_at time live one } in (
                  rests-tells collects two at2,
                  λ b2 second a2 s2.
                      let three : Trail = Did b2 second (ListAll kind.Block) ∷ two in
                      let done : Collected = record { b1 = b1; b2 = b2; items = [] } in
                      let all = leaks (suspects collect (rows_said (reply_of first (ListAll kind.Block)))) live (rows_said (reply_of second (ListAll kind.Block))) in
                      settles collects of_collect collect_stops (gives-up of_collect collected.Again collected.Spent collected.Spent (λ lost. TooOften lost 0) NoneLeft) (free_leaks done all all_left) three
                      (free-leaks done all all_left three (stays-listed collects b2 second two Nothing at2 kind.Block)),
                ),
          ),
        ),
  )

-- ---- requests that only look

check-each : (request : Request) (id : List ℕ) (p : ℕ) (pools : List Pool) (addresses : List AddrValue) (trail : Trail) → Rests request trail → Says request (Settled request of_check) trail (check_each id p pools addresses)
unfolding check_each
check-each request id p pools [] trail rests = inl rests
check-each request id p pools (address ∷ rest) trail rests = by (pool_of address pools) (λ longer at. check-each request id p pools rest longer at)
  where
    held : (longer : Trail) (moment : ℕ) (b : Bool) → Rests request longer → Says request (Settled request of_check) longer (check_each id p pools rest) → Says request (Settled request of_check) longer (check_held (check_each id p pools rest) address moment b)
    held longer moment true at h = h
    held longer moment false at h = inl at

    by : (o : Option Pool) → ((longer : Trail) → Rests request longer → Says request (Settled request of_check) longer (check_each id p pools rest)) → Says request (Settled request of_check) trail (check_in_pool (check_each id p pools rest) id address p o)
    by None h = inl rests
    by (Some pool) h = (
      rests-tells request trail rests,
      λ moment store agrees sound.
          let cidr = this.slot_holding pool address in
          let asked = Get (key.Block cidr) in
          let longer : Trail = Did moment store asked ∷ trail in
          let at = stays-read request moment store trail Nothing rests (key.Block cidr) (λ n c e. cc e) in
          held longer moment (holds_at id address (block_said (reply_of store asked))) at (h longer at),
    )

check-says : (id : List ℕ) (addresses : List AddrValue) → Rests (Check id addresses) [] → Says (Check id addresses) (Settled (Check id addresses) of_check) [] (check_word id addresses)
check-says id addresses rests = (
  rests-tells (Check id addresses) [] rests,
  λ moment store agrees sound.
      check-each (Check id addresses) id moment (pools_said (reply_of store (Get key.Pools))) addresses (Did moment store (Get key.Pools) ∷ [])
      (stays-read (Check id addresses) moment store [] Nothing rests key.Pools (λ n c e. cc e)),
)

probe-says : (request : ProbeRequest) (scans : List Scan) (families : List Family) (trail : Trail) → Rests (Probe request) trail → Says (Probe request) (Settled (Probe request) of_probe) trail (probe_each request scans families)
unfolding probe_each
probe-says request scans [] trail rests = inl rests
probe-says request scans (family ∷ families) trail rests =
    five-says (Probe request) (Settled (Probe request) of_probe) family (λ scan seen. probe_choice (probe_each request (scans ++ scan ∷ []) families) (asked_of_probe request family) scan (choice_of (asked_of_probe request family) seen)) trail rests
    (λ scan what five same at seen. by scan five (choice_of (asked_of_probe request family) what) at (probe-says request (scans ++ scan ∷ []) families five at))
  where
    by : (scan : Scan) (five : Trail) (choice : Choice) → Rests (Probe request) five → Says (Probe request) (Settled (Probe request) of_probe) five (probe_each request (scans ++ scan ∷ []) families) → Says (Probe request) (Settled (Probe request) of_probe) five (probe_choice (probe_each request (scans ++ scan ∷ []) families) (asked_of_probe request family) scan choice)
    by scan five Lacking at h = inl at
    by scan five (NoPool place) at h = inl at
    by scan five (Use cidr ordinal) at h = h
    by scan five (Claim cidr) at h = h
    by scan five (Borrow cidr ordinal) at h = h

-- ---- changes of settings

-- a change is of neither a block, an affinity nor a handle
abbrev pub IsSetting : Key → Type 0
IsSetting key.Config = Unit {0}
IsSetting key.Pools = Unit {0}
IsSetting key.Reservations = Unit {0}
IsSetting (key.Block cidr) = ⊥
IsSetting (key.Affinity node cidr) = ⊥
IsSetting (key.Handle id) = ⊥

pub changed-setting : (setting : Setting) → IsSetting (change.key_changed setting)
changed-setting (change_of.Pool pool) = tt
changed-setting (change_of.Disable name disabled) = tt
changed-setting (change_of.Reserve new) = tt
changed-setting (change_of.Unreserve name) = tt
changed-setting (change_of.Config config) = tt

setting-apart : (k : Key) → IsSetting k → IsApart k
setting-apart key.Config h = tt
setting-apart key.Pools h = tt
setting-apart key.Reservations h = tt
setting-apart (key.Block cidr) h = absurd h
setting-apart (key.Affinity node cidr) h = absurd h
setting-apart (key.Handle id) h = absurd h

setting-plain : (said : Said) (new : Record) → IsSetting (key_of new) → IsPlain (write_back said new)
setting-plain said new setting = record {
  reads_none = λ node cidr e. let none = sym (back-new said new) ∙ ap new_record e in absurd (cc none);
  writes_none = λ a e.
      let same : new ≡ record_of.Affinity a = cc (back-new said new, e) in
      absurd (subst (λ (x : Record). IsSetting (key_of x)) same setting);
  puts_none = λ b e.
      let same : new ≡ record_of.Block b = cc (back-new said new, e) in
      absurd (subst (λ (x : Record). IsSetting (key_of x)) same setting);
}

module _ (setting : Setting) where
  abbrev changes : Request
  changes = Admin setting

  abbrev Again : Part AdminAnswer → Type 0
  Again again = (trail : Trail) → Rests changes trail → Says changes (Clean changes) trail again

  admin-write : (again : Part AdminAnswer) (left : Left) (said : Said) (what : change.Changed) → change.admin_change setting said ≡ what → Again again → Again (change.admin_write again left said what)
  admin-write again left said (change.Refuses number name) e a trail rests = rests
  admin-write again left said (change.Becomes new) e a trail rests =
      let asked = write_back said new in
      let is_setting = subst (λ (k : Key). IsSetting k) (sym (key-changed setting said new e)) (changed-setting setting) in
      let plain = setting-plain said new is_setting in (
        rests-tells changes trail rests,
        λ moment store agrees sound.
            let longer : Trail = Did moment store asked ∷ trail in
            let lost : ((r : ℕ) → reply_of store asked ≢ Can r) → Rests changes longer = λ f. stays-undone changes moment store trail Nothing rests asked plain f in
            wrote changes (Clean changes) longer (reply_of store asked) (reply_of store asked) (λ revision. goes left (admin.Done revision)) again (stops left NoRoom) (stops left NoRevisions) refl
            (λ r f. rests-plain changes moment store asked trail plain (apart-harmless store asked (key_of new) (back-puts said new).writes (setting-apart (key_of new) is_setting)) rests)
            (λ f. a longer (lost f)) (λ full f. lost f) (λ f. tt),
      )

  admin-once : (again : Part AdminAnswer) (left : Left) → Again again → Again (change.admin_once setting again left)
  admin-once again left a trail rests = (
    rests-tells changes trail rests,
    λ moment store agrees sound.
        let asked = Get (change.key_changed setting) in
        admin-write again left (reply_of store asked) (change.admin_change setting (reply_of store asked)) refl a (Did moment store asked ∷ trail)
        (stays-read changes moment store trail Nothing rests (change.key_changed setting) (λ n c e. absurd (subst (λ (k : Key). IsSetting k) e (changed-setting setting)))),
  )

  admin-tries : (races claims : ℕ) → Again (tries (change.admin_once setting) races claims)
  unfolding tries
  admin-tries zero claims = admin-once (stops (left_of zero claims) OutOfTries) (left_of zero claims) (λ trail rests. tt)
  admin-tries (suc races) claims = admin-once (tries (change.admin_once setting) races claims) (left_of (suc races) claims) (admin-tries races claims)

-- ---- an ADD of one address

module _ (add : AddRequest) (address : AddrValue) where
  abbrev asks : Request
  asks = AddThis add address

  abbrev wanted : this.Wanted
  wanted = record { request = add; address = address }

  abbrev SaysNext : this.NextThisRound → Type 0
  SaysNext next = (left : Left) (trail : Trail) → Rests asks trail → Says asks (Clean asks) trail (next left)

  take-says : (looked : this.LookedAtBlock) (next : this.NextThisRound) → SaysNext next → (left : Left) (found : ℕ × BlockValue) (trail : Trail) → KnowsRead trail looked.cidr (Some found) → Rests asks trail → Says asks (Clean asks) trail (this.this_take wanted next left looked found)
  take-says looked next h left found trail knows rests =
      let target = target_in found (address.number - looked.cidr.base) in
      then-says asks (assign add.attributes target left) (this.this_assigned wanted next looked) trail (assign-says asks add.attributes target left trail knows.1 rests) ends
    where
      ends : (longer : Trail) (now : Left) (done : Option Assigned) → Rests asks longer → Says asks (Clean asks) longer (this.this_assigned wanted next looked now done)
      ends longer now (Some done) k = k
      ends longer now None k = h now longer k

  claim-says : (looked : this.LookedAtBlock) (next : this.NextThisRound) → SaysNext next → (left : Left) (read : BlockRead) (trail : Trail) → KnowsRead trail looked.cidr read → seen_last looked.cidr trail ≡ Some (revision_read read) → Rests asks trail
      → Says asks (Clean asks) trail (this.this_claim wanted next left looked read)
  claim-says looked next h left read trail knows saw rests =
      then-says asks (claim_for add.node looked.cidr read left) (λ now done. next now) trail (claim_for-says asks refl add.node looked.cidr read left trail knows saw rests) (λ longer now done k. h now longer k)

  free-this : (looked : this.LookedAtBlock) (next : this.NextThisRound) → SaysNext next → (left : Left) (found : ℕ × BlockValue) (trail : Trail) → KnowsRead trail looked.cidr (Some found) → seen_last looked.cidr trail ≡ Some (Some found.0) → Rests asks trail
      → Says asks (Clean asks) trail (this.this_free wanted next left looked found)
  free-this looked next h left found trail knows saw rests = by (share_of looked.rules.config.strict add.node found.1)
    where
      by : (share : Share) → Says asks (Clean asks) trail (by_share share (this.this_take wanted next left looked found) (this.this_claim wanted next left looked (Some found)) (goes left (add_this.NotAffine looked.cidr looked.b)))
      by Takes = take-says looked next h left found trail knows rests
      by Claims = claim-says looked next h left (Some found) trail knows saw rests
      by Leaves = rests

  block-this : (looked : this.LookedAtBlock) (next : this.NextThisRound) → SaysNext next → (left : Left) (read : BlockRead) (trail : Trail) → KnowsRead trail looked.cidr read → seen_last looked.cidr trail ≡ Some (revision_read read) → Rests asks trail
      → Says asks (Clean asks) trail (this.this_block wanted next left looked read)
  block-this looked next h left None trail knows saw rests = claim-says looked next h left None trail knows saw rests
  block-this looked next h left (Some found) trail knows saw rests = by (holder found.1 (address.number - looked.cidr.base))
    where
      by : (o : Option Allocation) → Says asks (Clean asks) trail (this.this_held (this.this_free wanted next left looked found) left looked o)
      by None = free-this looked next h left found trail knows saw rests
      by (Some held) = rests

  pool-this : (rules : this.RulesRead) (next : this.NextThisRound) → SaysNext next → (left : Left) (o : Option Pool) (trail : Trail) → Rests asks trail → Says asks (Clean asks) trail (this.this_in_pool wanted next left rules o)
  unfolding seen_last
  pool-this rules next h left None trail rests = rests
  pool-this rules next h left (Some pool) trail rests = (
    rests-tells asks trail rests,
    λ b store agrees sound.
        let cidr = this.slot_holding pool address in
        let asked = Get (key.Block cidr) in
        let read = block_said (reply_of store asked) in
        let longer : Trail = Did b store asked ∷ trail in
        let t = same_itself cidr in
        let shown : seen_last cidr longer ≡ Some (revision_of store (key.Block cidr)) = rw t refl in
        block-this (record { rules = rules; cidr = cidr; b = b }) next h left read longer (looked-read b store asked trail cidr)
        (shown ∙ ap Some (looked-revision store cidr)) (stays-read asks b store trail Nothing rests (key.Block cidr) (λ n c e. cc e)),
  )

  round-this : (next : this.NextThisRound) → SaysNext next → SaysNext (this.this_round wanted next)
  round-this next h left trail rests = (
    rests-tells asks trail rests,
    λ c config a1 s1.
        let one : Trail = Did c config (Get key.Config) ∷ trail in
        let at1 = stays-read asks c config trail Nothing rests key.Config (λ n x e. cc e) in (
          rests-tells asks one at1,
          λ p pools a2 s2.
              pool-this (record { config = config_said (reply_of config (Get key.Config)); c = c; p = p }) next h left
              (usable_pool_of (this.asked_of_this add address) address (pools_said (reply_of pools (Get key.Pools)))) (Did p pools (Get key.Pools) ∷ one)
              (stays-read asks p pools one Nothing at1 key.Pools (λ n x e. cc e)),
        ),
  )

  rounds-this : (more : ℕ) → SaysNext (rounds (this.this_round wanted) more)
  unfolding rounds
  rounds-this zero = round-this (λ now. stops now OutOfTries) (λ now trail rests. tt)
  rounds-this (suc more) = round-this (rounds (this.this_round wanted) more) (rounds-this more)

  this-says : Rests asks [] → Says asks (Settled asks of_add_this) [] (this.add_this_word add address)
  this-says rests =
      settles asks of_add_this this.add_this_stops
      (record { tries = λ left. TooOften most_lost (confirmed_so_far left); claims = λ left. TooOften (lost_so_far left) most_claims; revisions = λ left. NoneLeft }) _ [] (rounds-this (all_left.races + all_left.claims) all_left [] rests)

-- ---- all requests

begins : (request : Request) → Rests request []
begins request = record { owes = owes-begins; point = begins-nowhere request }

release-says : (node : List ℕ) (cidr : CidrValue) → Rests (Release node cidr) [] → Says (Release node cidr) (Settled (Release node cidr) of_release) [] (release node cidr)
release-says node cidr rests =
    let tie : Tie = record { node = node; block = cidr } in
    settles (Release node cidr) of_release release_stops (gives-up of_release released.Again released.Full released.Spent (λ lost. TooOften lost 0) NoneLeft) (tries (release_once tie) all_left.races all_left.claims) []
    (release-tries node cidr all_left.races all_left.claims [] rests (λ newest c e. let none = newest.is in absurd (cc none)))

-- whatever a request is answered, it owes nothing then, unless it gave up
abbrev pub AllSettled : Request → Trail → Answer → Type 0
AllSettled request = Settled request (λ told. told)

told : {A : Type 0} → (request : Request) (of_one : A → Answer) (w : Word A) → Says request (Settled request of_one) [] w → Says request (AllSettled request) [] (told_as of_one w)
told request of_one w h = Says-bound request (Settled request of_one) (AllSettled request) (λ one. Ends (of_one one)) w [] h (λ longer a since settled. settled)

pub all-say : (request : Request) → Says request (AllSettled request) [] (word_of request)
unfolding word_of
all-say (Add request) = told (Add request) of_add (add_word request) (add-says request [] (begins (Add request)))
all-say (AddThis request address) = told (AddThis request address) of_add_this (this.add_this_word request address) (this-says request address (begins (AddThis request address)))
all-say (Del id) = told (Del id) of_del (del_word id) (del-says id (begins (Del id)))
all-say (Check id addresses) = told (Check id addresses) of_check (check_word id addresses) (check-says id addresses (begins (Check id addresses)))
all-say (Release node cidr) = told (Release node cidr) of_release (release node cidr) (release-says node cidr (begins (Release node cidr)))
all-say (Collect request) = told (Collect request) of_collect (collect_word request) (collect-says request (begins (Collect request)))
all-say (Admin setting) =
    told (Admin setting) of_admin (change.admin_word setting)
    (settles (Admin setting) of_admin change.admin_stops (gives-up of_admin admin.Again admin.Full admin.Spent (λ lost. TooOften lost 0) NoneLeft) (tries (change.admin_once setting) all_left.races all_left.claims) [] (admin-tries setting all_left.races all_left.claims [] (begins (Admin setting))))
all-say (Probe request) = told (Probe request) of_probe (probe_word request) (probe-says request [] (families_if request.ipv4 request.ipv6) [] (begins (Probe request)))
