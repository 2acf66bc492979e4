-- Why each request stops, by the trail that led there.
use Rattle.std.proofs.Common.{◌≡◌, ◌⊎◌, inl, inr, ℕ, zero, suc, ◌+◌, ◌-◌, ◌<◌, ◌≤◌, Bool, true, false, cond, List, [], ◌∷◌, ◌++◌, map, Option, Some, None, refl, sym, ap, subst, arith}
use Rattle.ipam_addr.specs.Shape.{AddrValue, CidrValue}
use Rattle.ipam_addr.specs.declared.address.Family.{Family}
use Rattle.ipam_block.specs.declared.allocation.Allocation.{Allocation}
use Rattle.ipam_block.specs.Operations.{holder}
use Rattle.ipam_block.specs.Shape as block
use Rattle.ipam_pool.specs.declared.pools.Pool.{Pool}
use Rattle.ipam_records.specs.declared.call.Call.TheVariants.{Get, List as ListAll}
use Rattle.ipam_records.specs.declared.key.Key.TheVariants as key
use Rattle.ipam_records.specs.declared.key.Kind.TheVariants as kind
use Rattle.ipam_records.specs.Datastore.{reply_of}
use Rattle.ipam_records.specs.Said.{Said}
use Rattle.ipam_records.specs.Word.{Word, Ends, bound}
use Rattle.ipam_model.specs.declared.answer.Answer.{Answer}
use Rattle.ipam_model.specs.declared.answer.Answer.TheVariants as answer
use Rattle.ipam_model.specs.declared.answer.Collected.{Collected}
use Rattle.ipam_model.specs.declared.answer.Scan.{Scan}
use Rattle.ipam_model.specs.declared.outcome.AddAnswer.{AddAnswer}
use Rattle.ipam_model.specs.declared.outcome.AddAnswer.TheVariants as add
use Rattle.ipam_model.specs.declared.outcome.AddThisAnswer.{AddThisAnswer}
use Rattle.ipam_model.specs.declared.outcome.AddThisAnswer.TheVariants as add_this
use Rattle.ipam_model.specs.declared.outcome.AdminAnswer.{AdminAnswer}
use Rattle.ipam_model.specs.declared.outcome.AdminAnswer.TheVariants as admin
use Rattle.ipam_model.specs.declared.outcome.CollectAnswer.TheVariants as collected
use Rattle.ipam_model.specs.declared.outcome.DelAnswer.TheVariants as del
use Rattle.ipam_model.specs.declared.outcome.Gift.{Gift}
use Rattle.ipam_model.specs.declared.outcome.Served.{Served}
use Rattle.ipam_model.specs.declared.outcome.Served.TheVariants.{Gave, Refused}
use Rattle.ipam_model.specs.declared.part.Assigned.{Assigned}
use Rattle.ipam_model.specs.declared.part.Left.{Left}
use Rattle.ipam_model.specs.declared.part.Outcome.{Outcome}
use Rattle.ipam_model.specs.declared.part.Outcome.TheVariants.{Went, Stops}
use Rattle.ipam_model.specs.declared.part.Stop.{Stop}
use Rattle.ipam_model.specs.declared.part.Stop.TheVariants.{OutOfTries, OutOfClaims, NoRoom, CountAtLimit, NoRevisions}
use Rattle.ipam_model.specs.declared.request.AddRequest.{AddRequest}
use Rattle.ipam_model.specs.declared.request.Admin.{Admin as Setting}
use Rattle.ipam_model.specs.declared.request.CollectRequest.{CollectRequest}
use Rattle.ipam_model.specs.declared.request.Request.{Request}
use Rattle.ipam_model.specs.declared.request.Request.TheVariants.{Add, AddThis, Del, Collect, Admin}
use Rattle.ipam_model.specs.Add.{NextRound, Round, add_each, add_stops, add_word, after_assign, after_family, after_stop, asked_of, claim_in, follow_pick, follow_rank, free_gift, refuse, round_of, serve, take_in}
use Rattle.ipam_model.specs.AddThis as this
use Rattle.ipam_model.specs.Admin as change
use Rattle.ipam_model.specs.Affinities.{BlockRead}
use Rattle.ipam_model.specs.Assigning.{assign, claim_for, target_in}
use Rattle.ipam_model.specs.Choice.{Foreign, Lacks, Own, Pick, Picks, Rank, Seen, Share, Takes, Claims, Leaves, Unclaimed, Unconfirmed, Unknown, by_share, pick_of, share_of}
use Rattle.ipam_model.specs.Counting.{free, freeing_all, freeing_one}
use Rattle.ipam_model.specs.Reads.{block_said, config_said, handle_said, pools_said, rows_said}
use Rattle.ipam_model.specs.Remove.{Leak, collect_stops, collect_word, del_blocks, del_stops, del_word, free_leaks, freeing_owner, item_of, leaks, suspects, with_item}
use Rattle.ipam_model.specs.Requests.{told_as}
use Rattle.ipam_model.specs.Step.{Part, StopAnswers, all_left, answer_of, confirmed_so_far, goes, lost_so_far, most_claims, most_lost, onward, rounds, as_word, stop_answer, stops, without_count, write_back}
use Rattle.ipam_model.specs.Told.{of_add, of_add_this, of_admin, of_collect, of_del}
use Rattle.ipam_model.specs.Tries.{confirmed_claims, is_add, is_release, lost_races}
use Rattle.ipam_model.specs.Usable.{families_if, usable_pool_of}
use Rattle.ipam_laws.proofs.SeenReads.{seen_by_stores}
use Rattle.ipam_laws.proofs.AddFamilies.{comes-lasting}
use Rattle.ipam_laws.proofs.Losses.{HasFull, IsLeft, LastConfirmed, LastLost, LastSpent, Stopped, back-writes, claims_in, full-more, lost_in, read-left, told_calls, wrote}
use Rattle.ipam_laws.proofs.StopParts.{Again, AssignEnds, ClaimedEnds, FreeEnds, IsEnding, assign-comes, claim-for, free-comes, frees-follow, tries-come}
use Rattle.ipam_laws.proofs.Trails.{Comes, Comes-bound, Did, Got, Step, Trail}

-- ---- what is told

-- so many races were lost and so many claims confirmed, and the latest step was the last of them
pub record IsAgainThere (request : Request) (trail : Trail) (lost claims : ℕ) : Type 0 where
  pub are_lost : lost_in request trail ≡ lost
  pub are_claims : claims_in request trail ≡ claims
  pub by_last : ((lost ≡ most_lost) × LastLost request trail) ⊎ ((claims ≡ most_claims) × LastConfirmed request trail)

unfoldable pub ToldStop : Request → Trail → Answer → Type 0
ToldStop request trail (answer.Again lost claims) = IsAgainThere request trail lost claims
ToldStop request trail answer.Full = HasFull trail
ToldStop request trail answer.Spent = LastSpent trail
ToldStop request trail _ = Unit {0}

-- an outcome as it is told
abbrev pub ToldOf : {A : Type 0} → Request → (A → Answer) → StopAnswers A → Trail → Outcome A → Type 0
ToldOf request of_one answers trail outcome = ToldStop request trail (of_one (answer_of answers outcome))

pub settle-told : {A : Type 0} → (request : Request) (of_one : A → Answer) (answers : StopAnswers A) (part : Part A) (trail : Trail) → Comes (ToldOf request of_one answers) trail part → Comes (λ t a. ToldStop request t (of_one a)) trail (as_word answers part)
settle-told request of_one answers part trail h = Comes-bound (ToldOf request of_one answers) (λ t a. ToldStop request t (of_one a)) (λ outcome. Ends (answer_of answers outcome)) part trail h (λ longer outcome k. k)

pub tell : {A : Type 0} → (request : Request) (of_one : A → Answer) (w : Word A) (trail : Trail) → Comes (λ t a. ToldStop request t (of_one a)) trail w → Comes (ToldStop request) trail (told_as of_one w)
tell request of_one w trail h = Comes-bound (λ t a. ToldStop request t (of_one a)) (ToldStop request) (λ one. Ends (of_one one)) w trail h (λ longer a k. k)

difference : (n left : ℕ) → n + left ≡ 63 → n ≡ 63 - left
difference n left e = omega (arith, e)

again-tries : (request : Request) (trail : Trail) (left : Left) → Stopped request trail left OutOfTries → IsAgainThere request trail most_lost (confirmed_so_far left)
unfolding Stopped
again-tries request trail left h = record { are_lost = h.0; are_claims = difference (claims_in request trail) left.claims h.1; by_last = inl (refl, h.2) }

again-claims : (request : Request) (trail : Trail) (left : Left) → Stopped request trail left OutOfClaims → IsAgainThere request trail (lost_so_far left) most_claims
unfolding Stopped
again-claims request trail left h = record { are_lost = difference (lost_in request trail) left.races h.1; are_claims = h.0; by_last = inr (refl, h.2) }

-- of a request that is no ADD
pub claims-zero : (request : Request) (trail : Trail) → is_add request ≡ false → claims_in request trail ≡ 0
claims-zero request trail e = ap (λ (b : Bool). cond b (confirmed_claims (told_calls trail)) 0) e

pub again-none : (request : Request) (trail : Trail) (left : Left) → is_add request ≡ false → Stopped request trail left OutOfTries → IsAgainThere request trail most_lost 0
unfolding Stopped
again-none request trail left e h = record { are_lost = h.0; are_claims = claims-zero request trail e; by_last = inl (refl, h.2) }

no-claims : (request : Request) (trail : Trail) (left : Left) → is_add request ≡ false → ¬ (Stopped request trail left OutOfClaims)
unfolding Stopped
no-claims request trail left e h = let zero_claims = claims-zero request trail e in let many = h.0 in absurd (omega (arith, zero_claims, many))

pub first-left : (request : Request) → IsLeft request 126 [] all_left
unfolding told_calls lost_races confirmed_claims
first-left request = record { lost = refl; claims = by (is_add request); within = omega arith }
  where
    by : (b : Bool) → cond b 0 0 + 63 ≡ 63
    by true = refl
    by false = refl

-- ---- changes of settings

module _ (setting : Setting) where
  abbrev ToldChange : Trail → Outcome AdminAnswer → Type 0
  ToldChange = ToldOf (Admin setting) of_admin change.admin_stops

  change-ending : IsEnding (Admin setting) refl ToldChange
  unfolding ToldStop
  change-ending = record { tired = λ trail left h. again-none (Admin setting) trail left refl h; worn = λ trail left h. h }

  change-once : (bound : ℕ) (again : Part AdminAnswer) (left : Left) → Again (Admin setting) refl ToldChange bound left again → (trail : Trail) → IsLeft (Admin setting) bound trail left → Comes ToldChange trail (change.admin_once setting again left)
  unfolding ToldStop
  change-once bound again left h trail l = λ moment store agrees.
      let asked = Get (change.key_changed setting) in
      by (Did moment store asked ∷ trail) (reply_of store asked) (change.admin_change setting (reply_of store asked)) (read-left (Admin setting) refl bound moment store asked trail left refl (inl refl) l)
    where
      by : (longer : Trail) (said : Said) (what : change.Changed) → IsLeft (Admin setting) bound longer left → Comes ToldChange longer (change.admin_write again left said what)
      by longer said (change.Refuses number name) k = tt
      by longer said (change.Becomes new) k = λ moment store agrees.
          wrote (Admin setting) ToldChange bound moment store (write_back said new) longer left (λ revision. goes left (admin.Done revision)) again (stops left NoRoom) (stops left NoRevisions) (back-writes said new) k
          (λ revision done. tt) (λ lost. h (Did moment store (write_back said new) ∷ longer) lost) (λ created is full k. full) (λ spent. spent)

  pub change-stops : Comes (ToldStop (Admin setting)) [] (told_as of_admin (change.admin_word setting))
  change-stops =
      tell (Admin setting) of_admin (change.admin_word setting) []
      (settle-told (Admin setting) of_admin change.admin_stops _ []
      (tries-come (Admin setting) refl ToldChange change-ending (change.admin_once setting) 126 (λ again left h trail l. change-once 126 again left h trail l) 63 63 [] (first-left (Admin setting))))

-- ---- DEL and collection

freed-told : {A : Type 0} → (B : Type 0) (request : Request) (no_release : is_release request ≡ false) → is_add request ≡ false → (again : ℕ → A) (spent : A) (of_one : A → Answer) → ((lost : ℕ) → of_one (again lost) ≡ answer.Again lost 0) → of_one spent ≡ answer.Spent
    → (trail : Trail) (left : Left) (why : Stop) → FreeEnds request no_release {A = B} 0 trail (Stops left why) → ToldStop request trail (of_one (stop_answer (without_count again spent spent) left why))
unfolding FreeEnds ToldStop Stopped
freed-told B request no_release no_add again spent of_one tells_again tells_spent trail left OutOfTries h = subst (λ (x : Answer). ToldStop request trail x) (sym (tells_again most_lost)) (again-none request trail left no_add h)
freed-told B request no_release no_add again spent of_one tells_again tells_spent trail left OutOfClaims h = absurd (no-claims request trail left no_add h)
freed-told B request no_release no_add again spent of_one tells_again tells_spent trail left NoRoom h = absurd h
freed-told B request no_release no_add again spent of_one tells_again tells_spent trail left (CountAtLimit moment) h = absurd h
freed-told B request no_release no_add again spent of_one tells_again tells_spent trail left NoRevisions h = subst (λ (x : Answer). ToldStop request trail x) (sym tells_spent) h

module _ (id : List ℕ) where
  del-blocks : (moment : ℕ) (list : List CidrValue) (left : Left) (trail : Trail) → IsLeft (Del id) 126 trail left → Comes (ToldOf (Del id) of_del del_stops) trail (del_blocks id moment list left)
  unfolding del_blocks ToldStop
  del-blocks moment [] left trail h = tt
  del-blocks moment (cidr ∷ rest) left trail h =
      frees-follow (Del id) refl (ToldOf (Del id) of_del del_stops) (λ longer now why e. freed-told ℕ (Del id) refl refl del.Again del.Spent of_del (λ lost. refl) refl longer now why e) 126
      (free (freeing_all id cidr) left) (λ now amount. del_blocks id moment rest now) trail (free-comes (Del id) refl (freeing_all id cidr) 126 left trail h)
      (λ longer now amount k. del-blocks moment rest now longer k)

  pub del-stops : Comes (ToldStop (Del id)) [] (told_as of_del (del_word id))
  del-stops = tell (Del id) of_del (del_word id) [] (λ moment store agrees.
      let asked = Get (key.Handle id) in
      let list = map (λ count. count.0) (handle_said id (reply_of store asked)).counts in
      settle-told (Del id) of_del del_stops (del_blocks id moment list all_left) (Did moment store asked ∷ [])
      (del-blocks moment list all_left (Did moment store asked ∷ []) (read-left (Del id) refl 126 moment store asked [] all_left refl (inl refl) (first-left (Del id)))))

module _ (request : CollectRequest) where
  free-leaks : (done : Collected) (list : List Leak) (left : Left) (trail : Trail) → IsLeft (Collect request) 126 trail left → Comes (ToldOf (Collect request) of_collect collect_stops) trail (free_leaks done list left)
  unfolding free_leaks ToldStop
  free-leaks done [] left trail h = tt
  free-leaks done (leak ∷ rest) left trail h =
      frees-follow (Collect request) refl (ToldOf (Collect request) of_collect collect_stops) (λ longer now why e. freed-told ℕ (Collect request) refl refl collected.Again collected.Spent of_collect (λ lost. refl) refl longer now why e) 126
      (free (freeing_owner leak.owner leak.block) left) (λ now amount. free_leaks (with_item done (item_of leak amount)) rest now) trail (free-comes (Collect request) refl (freeing_owner leak.owner leak.block) 126 left trail h)
      (λ longer now amount k. free-leaks (with_item done (item_of leak amount)) rest now longer k)

  fed-left : (moment at : ℕ) (live : List (List ℕ)) (trail : Trail) (left : Left) → IsLeft (Collect request) 126 trail left → IsLeft (Collect request) 126 (Got moment at live ∷ trail) left
  unfolding told_calls
  fed-left moment at live trail left h = record { lost = h.lost; claims = h.claims; within = h.within }

  pub collect-stops : Comes (ToldStop (Collect request)) [] (told_as of_collect (collect_word request))
  collect-stops = tell (Collect request) of_collect (collect_word request) [] (λ b1 first a1 fed_at time live b2 second a2.
      let asked = ListAll kind.Block in
      let one : Trail = Did b1 first asked ∷ [] in
      let two : Trail = Got fed_at time live ∷ one in
      let three : Trail = Did b2 second asked ∷ two in
      let all = leaks (suspects request (rows_said (reply_of first asked))) live (rows_said (reply_of second asked)) in
      let left_one = read-left (Collect request) refl 126 b1 first asked [] all_left refl (inl refl) (first-left (Collect request)) in
      let left_three = read-left (Collect request) refl 126 b2 second asked two all_left refl (inl refl) (fed-left fed_at time live one all_left left_one) in
      settle-told (Collect request) of_collect collect_stops (free_leaks (record { b1 = b1; b2 = b2; items = [] }) all all_left) three
      (free-leaks (record { b1 = b1; b2 = b2; items = [] }) all all_left three left_three))

-- ---- rounds

module _ (request : Request) where
  abbrev pub NextComes : {A : Type 0} → (Trail → Outcome A → Type 0) → (bound : ℕ) → (Left → Part A) → Type 0
  NextComes Q bound next = (trail : Trail) (now : Left) → IsLeft request bound trail now → now.races + now.claims < bound → Comes Q trail (next now)

  pub rounds-come : {A : Type 0} → (Q : Trail → Outcome A → Type 0) (round : (Left → Part A) → Left → Part A)
      → ((bound : ℕ) (next : Left → Part A) → NextComes Q bound next → (trail : Trail) (left : Left) → IsLeft request bound trail left → Comes Q trail (round next left))
      → (more : ℕ) (trail : Trail) (left : Left) → IsLeft request more trail left → Comes Q trail (rounds round more left)
  unfolding rounds
  rounds-come Q round step zero trail left h = step 0 (λ now. stops now OutOfTries) (λ longer now l below. absurd (omega arith)) trail left h
  rounds-come Q round step (suc more) trail left h =
      step (suc more) (rounds round more) (λ longer now l below. rounds-come Q round step more longer now (record { lost = l.lost; claims = l.claims; within = fits (now.races + now.claims) below })) trail left h
    where
      fits : (n : ℕ) → n < suc more → n ≤ more
      fits n below = omega arith

-- ---- an ADD of one address

module _ (request : AddRequest) (address : AddrValue) where
  abbrev whole : Request
  whole = AddThis request address

  abbrev wanted : this.Wanted
  wanted = record { request = request; address = address }

  abbrev ToldThis : Trail → Outcome AddThisAnswer → Type 0
  ToldThis = ToldOf whole of_add_this this.add_this_stops

  this-stopped : (trail : Trail) (left : Left) (why : Stop) → Stopped whole trail left why → ToldThis trail (Stops left why)
  unfolding ToldStop Stopped
  this-stopped trail left OutOfTries h = again-tries whole trail left h
  this-stopped trail left OutOfClaims h = again-claims whole trail left h
  this-stopped trail left NoRoom h = h.0
  this-stopped trail left (CountAtLimit moment) h = tt
  this-stopped trail left NoRevisions h = h

  module _ (bound : ℕ) (next : this.NextThisRound) (after : NextComes whole ToldThis bound next) (left : Left) where
    this-take : (looked : this.LookedAtBlock) (found : ℕ × block.BlockValue) (trail : Trail) → IsLeft whole bound trail left → Comes ToldThis trail (this.this_take wanted next left looked found)
    unfolding AssignEnds ToldStop
    this-take looked found trail h =
        Comes-bound (AssignEnds whole refl bound) ToldThis (onward (this.this_assigned wanted next looked)) (assign request.attributes (target_in found (address.number - looked.cidr.base)) left) trail
        (assign-comes whole refl request.attributes (target_in found (address.number - looked.cidr.base)) bound left trail h) ends
      where
        ends : (longer : Trail) (outcome : Outcome (Option Assigned)) → AssignEnds whole refl bound longer outcome → Comes ToldThis longer (onward (this.this_assigned wanted next looked) outcome)
        ends longer (Went now (Some done)) k = tt
        ends longer (Went now None) k = after longer now k.0 k.1
        ends longer (Stops now why) k = this-stopped longer now why k

    this-claim : (looked : this.LookedAtBlock) (read : BlockRead) (trail : Trail) → IsLeft whole bound trail left → Comes ToldThis trail (this.this_claim wanted next left looked read)
    unfolding ClaimedEnds
    this-claim looked read trail h =
        Comes-bound (ClaimedEnds whole refl refl bound) ToldThis (onward (λ now done. next now)) (claim_for request.node looked.cidr read left) trail
        (claim-for whole refl refl request.node looked.cidr read bound left trail h) ends
      where
        ends : (longer : Trail) (outcome : Outcome (Unit {0})) → ClaimedEnds whole refl refl bound longer outcome → Comes ToldThis longer (onward (λ now done. next now) outcome)
        ends longer (Went now done) k = after longer now k.0 k.1
        ends longer (Stops now why) k = this-stopped longer now why k

    this-block : (looked : this.LookedAtBlock) (read : BlockRead) (trail : Trail) → IsLeft whole bound trail left → Comes ToldThis trail (this.this_block wanted next left looked read)
    unfolding ToldStop
    this-block looked None trail h = this-claim looked None trail h
    this-block looked (Some found) trail h = by (holder found.1 (address.number - looked.cidr.base))
      where
        shared : (share : Share) → Comes ToldThis trail (by_share share (this.this_take wanted next left looked found) (this.this_claim wanted next left looked (Some found)) (goes left (add_this.NotAffine looked.cidr looked.b)))
        shared Takes = this-take looked found trail h
        shared Claims = this-claim looked (Some found) trail h
        shared Leaves = tt

        by : (o : Option Allocation) → Comes ToldThis trail (this.this_held (this.this_free wanted next left looked found) left looked o)
        by (Some held) = tt
        by None = shared (share_of looked.rules.config.strict request.node found.1)

    this-pool : (rules : this.RulesRead) (o : Option Pool) (trail : Trail) → IsLeft whole bound trail left → Comes ToldThis trail (this.this_in_pool wanted next left rules o)
    unfolding ToldStop
    this-pool rules None trail h = tt
    this-pool rules (Some pool) trail h = λ b store agrees.
        let cidr = this.slot_holding pool address in
        let asked = Get (key.Block cidr) in
        this-block (record { rules = rules; cidr = cidr; b = b }) (block_said (reply_of store asked)) (Did b store asked ∷ trail) (read-left whole refl bound b store asked trail left refl (inr refl) h)

    this-round : (trail : Trail) → IsLeft whole bound trail left → Comes ToldThis trail (this.this_round wanted next left)
    this-round trail h = λ c config a1 p pools a2.
        let one = read-left whole refl bound c config (Get key.Config) trail left refl (inr refl) h in
        let two = read-left whole refl bound p pools (Get key.Pools) (Did c config (Get key.Config) ∷ trail) left refl (inr refl) one in
        this-pool (record { config = config_said (reply_of config (Get key.Config)); c = c; p = p }) (usable_pool_of (this.asked_of_this request address) address (pools_said (reply_of pools (Get key.Pools)))) (Did p pools (Get key.Pools) ∷ Did c config (Get key.Config) ∷ trail) two

  pub this-stops : Comes (ToldStop whole) [] (told_as of_add_this (this.add_this_word request address))
  this-stops =
      tell whole of_add_this (this.add_this_word request address) []
      (settle-told whole of_add_this this.add_this_stops _ []
      (rounds-come whole ToldThis (this.this_round wanted) (λ bound next after trail left l. this-round bound next after left trail l) 126 [] all_left (first-left whole)))

-- ---- an ADD

module _ (request : AddRequest) where
  abbrev all_of : Request
  all_of = Add request

  -- an answer that may wait until what was given is freed
  unfoldable Stays : Trail → AddAnswer → Type 0
  Stays trail (add.Again lost claims) = ⊥
  Stays trail add.Full = HasFull trail
  Stays trail add.Spent = ⊥
  Stays trail _ = Unit {0}

  stays-more : (told : AddAnswer) (trail : Trail) (step : Step) → Stays trail told → Stays (step ∷ trail) told
  unfolding Stays
  stays-more (add.Added given) trail step h = tt
  stays-more (add.Exhausted scan) trail step h = tt
  stays-more (add.NoPool name moment) trail step h = tt
  stays-more (add.Again lost claims) trail step h = h
  stays-more add.Full trail step h = full-more trail step h
  stays-more (add.CountFull moment) trail step h = tt
  stays-more add.Spent trail step h = h

  stays-told : (told : AddAnswer) (trail : Trail) → Stays trail told → ToldStop all_of trail (of_add told)
  unfolding Stays ToldStop
  stays-told (add.Added given) trail h = tt
  stays-told (add.Exhausted scan) trail h = tt
  stays-told (add.NoPool name moment) trail h = tt
  stays-told (add.Again lost claims) trail h = absurd h
  stays-told add.Full trail h = h
  stays-told (add.CountFull moment) trail h = tt
  stays-told add.Spent trail h = absurd h

  unfoldable ServedEnds : (bound : ℕ) → Trail → Outcome Served → Type 0
  ServedEnds bound trail (Went left (Gave gift)) = IsLeft all_of bound trail left
  ServedEnds bound trail (Went left (Refused told)) = IsLeft all_of bound trail left × Stays trail told
  ServedEnds bound trail (Stops left why) = Stopped all_of trail left why

  module _ (bound : ℕ) (next : NextRound) (after : NextComes all_of (ServedEnds 126) bound next) (scan : Scan) (left : Left) (below : bound ≤ 126) where
    abbrev round : Round
    round = record { request = request; scan = scan; next = next }

    wide : (trail : Trail) (now : Left) → IsLeft all_of bound trail now → IsLeft all_of 126 trail now
    wide trail now h = let w = h.within in record { lost = h.lost; claims = h.claims; within = omega arith }

    take-in : (found : ℕ × block.BlockValue) (ordinal : ℕ) (trail : Trail) → IsLeft all_of bound trail left → Comes (ServedEnds 126) trail (take_in round left (target_in found ordinal))
    unfolding AssignEnds ServedEnds
    take-in found ordinal trail h =
        Comes-bound (AssignEnds all_of refl bound) (ServedEnds 126) (onward (after_assign round (target_in found ordinal))) (assign request.attributes (target_in found ordinal) left) trail
        (assign-comes all_of refl request.attributes (target_in found ordinal) bound left trail h) ends
      where
        ends : (longer : Trail) (outcome : Outcome (Option Assigned)) → AssignEnds all_of refl bound longer outcome → Comes (ServedEnds 126) longer (onward (after_assign round (target_in found ordinal)) outcome)
        ends longer (Went now (Some done)) k = wide longer now k
        ends longer (Went now None) k = after longer now k.0 k.1
        ends longer (Stops now why) k = k

    claim-in : (slot : CidrValue) (read : BlockRead) (trail : Trail) → IsLeft all_of bound trail left → Comes (ServedEnds 126) trail (claim_in round left slot read)
    unfolding ClaimedEnds ServedEnds
    claim-in slot read trail h =
        Comes-bound (ClaimedEnds all_of refl refl bound) (ServedEnds 126) (onward (λ now done. next now)) (claim_for request.node slot read left) trail
        (claim-for all_of refl refl request.node slot read bound left trail h) ends
      where
        ends : (longer : Trail) (outcome : Outcome (Unit {0})) → ClaimedEnds all_of refl refl bound longer outcome → Comes (ServedEnds 126) longer (onward (λ now done. next now) outcome)
        ends longer (Went now done) k = after longer now k.0 k.1
        ends longer (Stops now why) k = k

    rank-comes : (slot : CidrValue) (rank : Rank) (trail : Trail) → IsLeft all_of bound trail left → Comes (ServedEnds 126) trail (follow_rank round left slot rank)
    rank-comes slot (Own found ordinal) trail h = take-in found ordinal trail h
    rank-comes slot (Unconfirmed found) trail h = claim-in slot (Some found) trail h
    rank-comes slot (Unclaimed read) trail h = claim-in slot read trail h
    rank-comes slot (Foreign found ordinal) trail h = take-in found ordinal trail h

    pick-comes : (pick : Pick) (trail : Trail) → IsLeft all_of bound trail left → Comes (ServedEnds 126) trail (follow_pick round left pick)
    unfolding ServedEnds Stays
    pick-comes (Picks ranked) trail h = rank-comes ranked.slot ranked.rank trail h
    pick-comes Lacks trail h = (wide trail left h, tt)
    pick-comes (Unknown place) trail h = (wide trail left h, tt)

  round-comes : (family : Family) (bound : ℕ) → bound ≤ 126 → (next : NextRound) → NextComes all_of (ServedEnds 126) bound next → (trail : Trail) (left : Left) → IsLeft all_of bound trail left → Comes (ServedEnds 126) trail (round_of request family next left)
  round-comes family bound below next after trail left h = λ c config a1 p pools a2 r reservations a3 f affinities a4 b blocks a5.
      let scan : Scan = record { family = family; c = c; p = p; r = r; f = f; b = b } in
      let seen : Seen = seen_by_stores config pools reservations affinities blocks in
      let one : Trail = Did c config (Get key.Config) ∷ trail in
      let two : Trail = Did p pools (Get key.Pools) ∷ one in
      let three : Trail = Did r reservations (Get key.Reservations) ∷ two in
      let four : Trail = Did f affinities (ListAll kind.Affinity) ∷ three in
      let five : Trail = Did b blocks (ListAll kind.Block) ∷ four in
      let l1 = read-left all_of refl bound c config (Get key.Config) trail left refl (inr refl) h in
      let l2 = read-left all_of refl bound p pools (Get key.Pools) one left refl (inr refl) l1 in
      let l3 = read-left all_of refl bound r reservations (Get key.Reservations) two left refl (inr refl) l2 in
      let l4 = read-left all_of refl bound f affinities (ListAll kind.Affinity) three left refl (inr refl) l3 in
      let l5 = read-left all_of refl bound b blocks (ListAll kind.Block) four left refl (inr refl) l4 in
      pick-comes bound next after scan left below (pick_of (asked_of request family) seen) five l5

  rounds-serve : (family : Family) (more : ℕ) → more ≤ 126 → (trail : Trail) (left : Left) → IsLeft all_of more trail left → Comes (ServedEnds 126) trail (rounds (round_of request family) more left)
  unfolding rounds
  rounds-serve family zero below trail left h = round-comes family 0 below (λ now. stops now OutOfTries) (λ longer now l less. absurd (omega arith)) trail left h
  rounds-serve family (suc more) below trail left h =
      round-comes family (suc more) below (rounds (round_of request family) more)
      (λ longer now l less. rounds-serve family more (smaller below) longer now (record { lost = l.lost; claims = l.claims; within = fits (now.races + now.claims) less })) trail left h
    where
      smaller : suc more ≤ 126 → more ≤ 126
      smaller w = omega arith

      fits : (n : ℕ) → n < suc more → n ≤ more
      fits n w = omega arith

  serve-comes : (family : Family) (left : Left) (trail : Trail) → IsLeft all_of 126 trail left → Comes (ServedEnds 126) trail (serve request family left)
  serve-comes family left trail h = rounds-serve family (left.races + left.claims) h.within trail left (record { lost = h.lost; claims = h.claims; within = same (left.races + left.claims) })
    where
      same : (n : ℕ) → n ≤ n
      same n = omega arith

  abbrev ToldAdd : Trail → Outcome AddAnswer → Type 0
  ToldAdd = ToldOf all_of of_add add_stops

  add-stopped : (trail : Trail) (left : Left) (why : Stop) → Stopped all_of trail left why → ToldAdd trail (Stops left why)
  unfolding ToldStop Stopped
  add-stopped trail left OutOfTries h = again-tries all_of trail left h
  add-stopped trail left OutOfClaims h = again-claims all_of trail left h
  add-stopped trail left NoRoom h = h.0
  add-stopped trail left (CountAtLimit moment) h = tt
  add-stopped trail left NoRevisions h = h

  refuse-comes : (gifts : List Gift) (told : AddAnswer) (left : Left) (trail : Trail) → IsLeft all_of 126 trail left → Stays trail told → Comes ToldAdd trail (refuse request gifts told left)
  unfolding FreeEnds
  refuse-comes [] told left trail h stays = stays-told told trail stays
  refuse-comes (gift ∷ gifts) told left trail h stays =
      let what = freeing_one request.attributes.handle gift.block (gift.given.address.number - gift.block.base) gift.stamp in
      Comes-bound (λ t (o : Outcome ℕ). FreeEnds all_of refl 126 t o × Stays t told) ToldAdd (onward (λ now amount. refuse request gifts told now)) (free_gift request gift left) trail
      (comes-lasting (FreeEnds all_of refl 126) (λ t. Stays t told) (stays-more told) (free_gift request gift left) trail stays (free-comes all_of refl what 126 left trail h))
      (λ longer outcome k. ends longer outcome k (λ now l stay. refuse-comes gifts told now longer l stay))
    where
      ends : (longer : Trail) (outcome : Outcome ℕ) → FreeEnds all_of refl 126 longer outcome × Stays longer told → ((now : Left) → IsLeft all_of 126 longer now → Stays longer told → Comes ToldAdd longer (refuse request gifts told now)) → Comes ToldAdd longer (onward (λ now amount. refuse request gifts told now) outcome)
      ends longer (Went now amount) k rest = rest now k.0 k.1
      ends longer (Stops now OutOfTries) k rest = add-stopped longer now OutOfTries k.0
      ends longer (Stops now OutOfClaims) k rest = add-stopped longer now OutOfClaims k.0
      ends longer (Stops now NoRoom) k rest = absurd k.0
      ends longer (Stops now (CountAtLimit moment)) k rest = absurd k.0
      ends longer (Stops now NoRevisions) k rest = add-stopped longer now NoRevisions k.0

  stop-comes : (gifts : List Gift) (left : Left) (why : Stop) (trail : Trail) → Stopped all_of trail left why → Comes ToldAdd trail (after_stop request gifts left why)
  unfolding Stopped Stays
  stop-comes gifts left OutOfTries trail h = add-stopped trail left OutOfTries h
  stop-comes gifts left OutOfClaims trail h = add-stopped trail left OutOfClaims h
  stop-comes gifts left NoRoom trail h = refuse-comes gifts add.Full left trail h.1 h.0
  stop-comes gifts left (CountAtLimit moment) trail h = refuse-comes gifts (add.CountFull moment) left trail h tt
  stop-comes gifts left NoRevisions trail h = add-stopped trail left NoRevisions h

  add-families : (gifts : List Gift) (families : List Family) (left : Left) (trail : Trail) → IsLeft all_of 126 trail left → Comes ToldAdd trail (add_each request gifts families left)
  unfolding add_each ServedEnds ToldStop
  add-families gifts [] left trail h = tt
  add-families gifts (family ∷ families) left trail h =
      Comes-bound (ServedEnds 126) ToldAdd (after_family request gifts (λ gift now. add_each request (gifts ++ gift ∷ []) families now)) (serve request family left) trail (serve-comes family left trail h)
      (λ longer outcome k. ends longer outcome k (λ gift now l. add-families (gifts ++ gift ∷ []) families now longer l))
    where
      ends : (longer : Trail) (outcome : Outcome Served) → ServedEnds 126 longer outcome → ((gift : Gift) (now : Left) → IsLeft all_of 126 longer now → Comes ToldAdd longer (add_each request (gifts ++ gift ∷ []) families now))
          → Comes ToldAdd longer (after_family request gifts (λ gift now. add_each request (gifts ++ gift ∷ []) families now) outcome)
      ends longer (Went now (Gave gift)) k rest = rest gift now k
      ends longer (Went now (Refused told)) k rest = refuse-comes gifts told now longer k.0 k.1
      ends longer (Stops now why) k rest = stop-comes gifts now why longer k

  pub add-stops : Comes (ToldStop all_of) [] (told_as of_add (add_word request))
  add-stops =
      tell all_of of_add (add_word request) []
      (settle-told all_of of_add add_stops (add_each request [] (families_if request.ipv4 request.ipv6) all_left) []
      (add-families [] (families_if request.ipv4 request.ipv6) all_left [] (first-left all_of)))
