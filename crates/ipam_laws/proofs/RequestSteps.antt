-- The word of each request takes steps of their kinds.
use Rattle.std.proofs.Common.{◌≡◌, ◌∙◌, ◌⊎◌, inl, inr, ℕ, zero, suc, ◌-◌, Bool, true, false, cond, List, [], ◌∷◌, ◌++◌, Option, Some, None, refl, sym, ap, subst}
use Rattle.std.specs.Prelude.{◌==◌, ◌&&◌, map, nat_le, not, length}
use Rattle.std.specs.List.{list_any, filter}
use Rattle.ipam_addr.specs.declared.address.Family.{Family}
use Rattle.ipam_addr.specs.Shape.{AddrValue, CidrValue}
use Rattle.ipam_addr.specs.Holding.{holds_address}
use Rattle.ipam_pool.specs.declared.pools.Pool.{Pool}
use Rattle.ipam_pool.specs.declared.pools.PoolRefusal.{PoolRefusal}
use Rattle.ipam_pool.specs.declared.pools.PoolRefusal.TheVariants.{NameTaken, Overlap, Size, Prefix, TooMany, Memory}
use Rattle.ipam_pool.specs.Changes.{has_name, refusal_of, with_disabled, with_rules}
use Rattle.ipam_block.specs.declared.allocation.Allocation.{Allocation}
use Rattle.ipam_block.specs.Shape as block
use Rattle.ipam_block.specs.Operations.{is_owned, is_stamped, holder}
use Rattle.ipam_records.specs.declared.key.Key.{Key}
use Rattle.ipam_records.specs.declared.key.Key.TheVariants as key
use Rattle.ipam_records.specs.declared.key.Kind.TheVariants as kind
use Rattle.ipam_records.specs.declared.record.Record.{Record}
use Rattle.ipam_records.specs.declared.record.Record.TheVariants as record_of
use Rattle.ipam_records.specs.declared.call.Call.TheVariants as call
use Rattle.ipam_records.specs.Datastore.{Datastore, reply_of, reply_to_get, row_of, write_of}
use Rattle.ipam_records.specs.Key.{key_of}
use Rattle.ipam_records.specs.Label.{idle}
use Rattle.ipam_records.specs.Said.{Said, Found, Missing, Can}
use Rattle.ipam_records.specs.Word.{Word, Ends, Asks, Waits}
use Rattle.ipam_model.specs.declared.answer.Answer.{Answer}
use Rattle.ipam_model.specs.declared.answer.Collected.{Collected}
use Rattle.ipam_model.specs.declared.answer.Scan.{Scan}
use Rattle.ipam_model.specs.declared.choice.Choice.{Choice}
use Rattle.ipam_model.specs.declared.choice.Choice.TheVariants.{Use, Claim, Borrow, Nothing, NoPool}
use Rattle.ipam_model.specs.declared.outcome.AddAnswer.{AddAnswer}
use Rattle.ipam_model.specs.declared.outcome.AddThisAnswer.{AddThisAnswer}
use Rattle.ipam_model.specs.declared.outcome.AddThisAnswer.TheVariants as add_this
use Rattle.ipam_model.specs.declared.outcome.AdminAnswer.{AdminAnswer}
use Rattle.ipam_model.specs.declared.outcome.AdminAnswer.TheVariants as admin
use Rattle.ipam_model.specs.declared.outcome.CheckAnswer.{CheckAnswer}
use Rattle.ipam_model.specs.declared.outcome.CollectAnswer.{CollectAnswer}
use Rattle.ipam_model.specs.declared.outcome.ProbeAnswer.{ProbeAnswer}
use Rattle.ipam_model.specs.declared.request.AddRequest.{AddRequest}
use Rattle.ipam_model.specs.declared.request.Admin.{Admin}
use Rattle.ipam_model.specs.declared.request.Admin.TheVariants as change_of
use Rattle.ipam_model.specs.declared.request.CollectRequest.{CollectRequest}
use Rattle.ipam_model.specs.declared.request.ProbeRequest.{ProbeRequest}
use Rattle.ipam_model.specs.declared.request.Request.{Request}
use Rattle.ipam_model.specs.declared.request.Request.TheVariants as request_of
use Rattle.ipam_model.specs.Add as add
use Rattle.ipam_model.specs.declared.outcome.Gift.{Gift}
use Rattle.ipam_model.specs.declared.outcome.Served.TheVariants.{Gave, Refused}
use Rattle.ipam_model.specs.AddThis as this
use Rattle.ipam_model.specs.Admin as change
use Rattle.ipam_model.specs.Affinities as affinities
use Rattle.ipam_model.specs.Affinities.{BlockRead}
use Rattle.ipam_model.specs.Assigning.{target_in, assign, claim_for}
use Rattle.ipam_model.specs.AffinityLaw.{HasAt}
use Rattle.ipam_model.specs.Choice.{is_unowned_and_empty, Share, Takes, Claims, Leaves as Foreign, by_share, share_of, choice_of}
use Rattle.ipam_model.specs.Cluster.{store_with}
use Rattle.ipam_model.specs.Counting.{FreedOfHandle, freeing_all, freeing_one, free}
use Rattle.ipam_model.specs.Look as look
use Rattle.ipam_model.specs.Reads.{config_said, pools_said, reservations_said, handle_said, rows_said, block_said}
use Rattle.ipam_model.specs.Remove as remove
use Rattle.ipam_model.specs.SoundRequest.{IsSoundAdd, IsSoundChange, IsSoundRequest}
use Rattle.ipam_model.specs.Requests.{word_of, told_as}
use Rattle.ipam_model.specs.Told.{of_add, of_add_this, of_del, of_check, of_release, of_collect, of_admin, of_probe}
use Rattle.ipam_model.specs.declared.part.Left.{Left}
use Rattle.ipam_model.specs.declared.part.Stop.{Stop}
use Rattle.ipam_model.specs.declared.part.Stop.TheVariants.{OutOfTries, OutOfClaims, NoRoom, CountAtLimit, NoRevisions}
use Rattle.ipam_model.specs.declared.part.Outcome.TheVariants.{Went, Stops}
use Rattle.ipam_model.specs.Step.{left_of, all_left, Part, stop_answer, as_word, goes, stops, tries, with_retries, in_rounds, write_back}
use Rattle.ipam_model.specs.Usable.{is_usable, families_if, usable_pool_of, pool_of}
use Rattle.ipam_laws.proofs.Lift.{Known, more, Agrees, label_to}
use Rattle.ipam_laws.proofs.Calls.{create-can, update-can, can-put, get-meets, list-meets, write-meets}
use Rattle.ipam_laws.proofs.Members.{in-find}
use Rattle.ipam_laws.proofs.Steps.{IsKnownBlock, IsOwnOrNobodys, IsKnownPool, IsClaimable, known-pool-grows, OwnPicks, Step, Idles, Changes, step-grows}
use Rattle.ipam_laws.proofs.PartSteps.{Any, still, Steps, any-lasts}
use Rattle.ipam_laws.proofs.WriteSteps.{block-read, free-steps, free-label, release-steps}
use Rattle.ipam_laws.proofs.WordSteps.{ArePoolsKnown, pools-read, Keeps, Lawful, LawfulAfter, LawfulOn, LawfulNext, unowned-nobodys, lawful-both, followed-keeps, followed-lawful, settled-lawful, rounds-lawful, own-known, assign-keeps, claim_for-keeps, serve-lawful, five_reads-steps}
use Rattle.ipam_records.specs.BlockLists.{is_node}

pub owned-picks : (id : List ℕ) (a : Allocation) → is_owned id a ≡ true → is_owned id a ≡ true
owned-picks id a h = h

-- what is picked by its stamp is the handle's own
stamped-own : (ordinal : ℕ) (id : List ℕ) (stamp : ℕ) (a : Allocation) → is_stamped ordinal id stamp a ≡ true → is_owned id a ≡ true
stamped-own ordinal id stamp a h = from (a.ordinal == ordinal) (a.stamp == stamp) (is_owned id a) h
  where
    from : (b c d : Bool) → b && c && d ≡ true → d ≡ true
    from true true d e = e
    from true false d e = cc
    from false true d e = cc
    from false false d e = cc

free-lawful : (what : FreedOfHandle) (left : Left) → OwnPicks what → Lawful (free what left)
free-lawful what left own known = (free-label what left, free-steps what left own known)

pub one-picks : (id : List ℕ) (cidr : CidrValue) (ordinal stamp : ℕ) → OwnPicks (freeing_one id cidr ordinal stamp)
one-picks id cidr ordinal stamp = stamped-own ordinal id stamp

-- ---- ADD of each wanted family

refuse-lawful : (request : AddRequest) (gifts : List Gift) (answer : AddAnswer) → LawfulNext (add.refuse request gifts answer)
refuse-lawful request [] answer left known = (refl, tt)
refuse-lawful request (gift ∷ gifts) answer left known =
    followed-lawful (add.free_gift request gift left) (λ now amount. add.refuse request gifts answer now)
    (free-lawful (freeing_one request.attributes.handle gift.block (gift.given.address.number - gift.block.base) gift.stamp) left (one-picks request.attributes.handle gift.block (gift.given.address.number - gift.block.base) gift.stamp))
    (λ now amount. refuse-lawful request gifts answer now) known

after_stop-lawful : (request : AddRequest) (gifts : List Gift) (left : Left) (why : Stop) → Lawful (add.after_stop request gifts left why)
after_stop-lawful request gifts left OutOfTries known = (refl, tt)
after_stop-lawful request gifts left OutOfClaims known = (refl, tt)
after_stop-lawful request gifts left NoRoom known = refuse-lawful request gifts (stop_answer add.add_stops left NoRoom) left known
after_stop-lawful request gifts left (CountAtLimit moment) known = refuse-lawful request gifts (stop_answer add.add_stops left (CountAtLimit moment)) left known
after_stop-lawful request gifts left NoRevisions known = (refl, tt)

after_family-lawful : (request : AddRequest) (gifts : List Gift) (rest : Gift → Left → Part AddAnswer) → ((gift : Gift) → LawfulNext (rest gift)) → LawfulAfter (add.after_family request gifts rest)
after_family-lawful request gifts rest r (Went left (Gave gift)) = r gift left
after_family-lawful request gifts rest r (Went left (Refused answer)) = refuse-lawful request gifts answer left
after_family-lawful request gifts rest r (Stops left why) = after_stop-lawful request gifts left why

add_each-lawful : (request : AddRequest) → IsSoundAdd request → (gifts : List Gift) (families : List Family) → LawfulNext (add.add_each request gifts families)
unfolding add.add_each
add_each-lawful request sound gifts [] left known = (refl, tt)
add_each-lawful request sound gifts (family ∷ families) left known =
    let rest : Gift → Left → Part AddAnswer = λ gift now. add.add_each request (gifts ++ gift ∷ []) families now in
    lawful-both (add.serve request family left) (add.after_family request gifts rest) (serve-lawful request sound family left)
    (after_family-lawful request gifts rest (λ gift now. add_each-lawful request sound (gifts ++ gift ∷ []) families now)) known

add-lawful : (request : AddRequest) → IsSoundAdd request → Lawful (add.add_word request)
add-lawful request sound =
    let families = families_if request.ipv4 request.ipv6 in
    settled-lawful add.add_stops (add.add_each request [] families all_left) (add_each-lawful request sound [] families all_left)

-- ---- ADD of one address

this_assigned-lawful : (wanted : this.Wanted) (next : this.NextThisRound) → LawfulNext next → (looked : this.LookedAtBlock) → LawfulOn (this.this_assigned wanted next looked)
this_assigned-lawful wanted next n looked left (Some done) known = (refl, tt)
this_assigned-lawful wanted next n looked left None known = n left known

-- the pool that holds the address that is wanted, as it was read
pub record IsHolding (known : Known) (wanted : this.Wanted) (looked : this.LookedAtBlock) : Type 0 where
  pub pool : Pool
  pub was_read : IsKnownPool known pool
  pub holds : holds_address pool.cidr wanted.address ≡ true
  pub slot : looked.cidr ≡ this.slot_holding pool wanted.address

this_take-keeps : (wanted : this.Wanted) → IsSoundAdd wanted.request → (next : this.NextThisRound) → LawfulNext next → (left : Left) (looked : this.LookedAtBlock) (found : ℕ × block.BlockValue) (known : Known) → IsHolding known wanted looked → IsKnownBlock known looked.cidr (Some found) → holder found.1 (wanted.address.number - looked.cidr.base) ≡ None → Keeps known (this.this_take wanted next left looked found)
this_take-keeps wanted sound next n left looked found known at h free =
    let ordinal = wanted.address.number - looked.cidr.base in
    let own : ordinal ≡ wanted.address.number - found.1.cidr.base = ap (λ (x : CidrValue). wanted.address.number - x.base) (sym h.0) in
    followed-keeps (assign wanted.request.attributes (target_in found ordinal) left) (this.this_assigned wanted next looked) known
    (assign-keeps wanted.request.attributes (target_in found ordinal) left known (own-known known looked.cidr found ordinal h) sound.attributes
    (inr (free, at.pool, wanted.address, at.was_read, at.holds, h.0 ∙ at.slot, own)))
    (this_assigned-lawful wanted next n looked)

this_claim-keeps : (wanted : this.Wanted) (next : this.NextThisRound) → LawfulNext next → (left : Left) (looked : this.LookedAtBlock) (read : BlockRead) (known : Known) → IsClaimable known wanted.request.node looked.cidr read → Keeps known (this.this_claim wanted next left looked read)
this_claim-keeps wanted next n left looked read known h =
    followed-keeps (claim_for wanted.request.node looked.cidr read left) (λ now done. next now) known
    (claim_for-keeps wanted.request.node looked.cidr read left known h) (λ now done. n now)

-- what a node claims is nobody's
claimed-nobodys : (strict : Bool) (node : List ℕ) (b : block.BlockValue) → share_of strict node b ≡ Claims → b.node ≡ None
claimed-nobodys strict node b e = by (is_node node b.node) (is_unowned_and_empty b) refl strict e
  where
    whole : (b : Bool) → b ≡ true → b && true ≡ true
    whole true f = refl
    whole false f = absurd (cc f)

    by : (own free : Bool) → is_unowned_and_empty b ≡ free → (strict : Bool) → cond own Takes (cond free Claims (cond strict Foreign Takes)) ≡ Claims → b.node ≡ None
    by true free n strict f = absurd (cc f)
    by false true n strict f = unowned-nobodys b true (whole (is_unowned_and_empty b) n)
    by false false n true f = absurd (cc f)
    by false false n false f = absurd (cc f)

-- what may be claimed of it
holding-claimable : (known : Known) (wanted : this.Wanted) (looked : this.LookedAtBlock) (read : BlockRead) → IsSoundAdd wanted.request → IsHolding known wanted looked → IsKnownBlock known looked.cidr read → IsOwnOrNobodys wanted.request.node read → IsClaimable known wanted.request.node looked.cidr read
holding-claimable known wanted looked read sound at h own = record {
  was_read = h;
  own = own;
  name = sound.node;
  slot = (at.pool, at.was_read, inr (wanted.address, at.holds, at.slot));
}

this_free-keeps : (wanted : this.Wanted) → IsSoundAdd wanted.request → (next : this.NextThisRound) → LawfulNext next → (left : Left) (looked : this.LookedAtBlock) (found : ℕ × block.BlockValue) (known : Known) → IsHolding known wanted looked → IsKnownBlock known looked.cidr (Some found) → holder found.1 (wanted.address.number - looked.cidr.base) ≡ None → Keeps known (this.this_free wanted next left looked found)
this_free-keeps wanted sound next n left looked found known at h free = from (share_of looked.rules.config.strict wanted.request.node found.1) refl
  where
    from : (share : Share) → share_of looked.rules.config.strict wanted.request.node found.1 ≡ share → Keeps known (by_share share (this.this_take wanted next left looked found) (this.this_claim wanted next left looked (Some found)) (goes left (add_this.NotAffine looked.cidr looked.b)))
    from Takes e = this_take-keeps wanted sound next n left looked found known at h free
    from Claims e =
        this_claim-keeps wanted next n left looked (Some found) known
        (holding-claimable known wanted looked (Some found) sound at h (inl (claimed-nobodys looked.rules.config.strict wanted.request.node found.1 e)))
    from Foreign e = (refl, tt)

this_held-keeps : (free : Part AddThisAnswer) (left : Left) (looked : this.LookedAtBlock) (held : Option Allocation) (known : Known) → (held ≡ None → Keeps known free) → Keeps known (this.this_held free left looked held)
this_held-keeps free left looked None known f = f refl
this_held-keeps free left looked (Some held) known f = (refl, tt)

this_block-keeps : (wanted : this.Wanted) → IsSoundAdd wanted.request → (next : this.NextThisRound) → LawfulNext next → (left : Left) (looked : this.LookedAtBlock) (read : BlockRead) (known : Known) → IsHolding known wanted looked → IsKnownBlock known looked.cidr read → Keeps known (this.this_block wanted next left looked read)
this_block-keeps wanted sound next n left looked None known at h = this_claim-keeps wanted next n left looked None known (holding-claimable known wanted looked None sound at tt tt)
this_block-keeps wanted sound next n left looked (Some found) known at h =
    this_held-keeps (this.this_free wanted next left looked found) left looked (holder found.1 (wanted.address.number - looked.cidr.base)) known
    (λ free. this_free-keeps wanted sound next n left looked found known at h free)

-- the usable pool that holds the address was read
abbrev IsRead : Known → this.Wanted → Option Pool → Type 0
IsRead known wanted None = Unit {0}
IsRead known wanted (Some pool) = IsKnownPool known pool × (holds_address pool.cidr wanted.address ≡ true)

usable-read : (known : Known) (wanted : this.Wanted) (said : Said) → ArePoolsKnown known said → IsRead known wanted (usable_pool_of (this.asked_of_this wanted.request wanted.address) wanted.address (pools_said said))
usable-read known wanted said h = from (usable_pool_of (this.asked_of_this wanted.request wanted.address) wanted.address (pools_said said)) refl
  where
    both : (a b : Bool) → a && b ≡ true → b ≡ true
    both true b e = e
    both false b e = absurd (cc e)

    from : (o : Option Pool) → usable_pool_of (this.asked_of_this wanted.request wanted.address) wanted.address (pools_said said) ≡ o → IsRead known wanted o
    from None e = tt
    from (Some pool) e =
        let (there, passes) = in-find (λ (r : Pool). is_usable (this.asked_of_this wanted.request wanted.address) r && holds_address r.cidr wanted.address) pool (pools_said said) e in
        (h pool there, both (is_usable (this.asked_of_this wanted.request wanted.address) pool) (holds_address pool.cidr wanted.address) passes)

this_in_pool-keeps : (wanted : this.Wanted) → IsSoundAdd wanted.request → (next : this.NextThisRound) → LawfulNext next → (left : Left) (rules : this.RulesRead) (pool : Option Pool) (known : Known) → IsRead known wanted pool → Keeps known (this.this_in_pool wanted next left rules pool)
this_in_pool-keeps wanted sound next n left rules None known at = (refl, tt)
this_in_pool-keeps wanted sound next n left rules (Some pool) known at = (
  refl,
  get-meets Step still Any known idle (key.Block cidr) (λ b said. this.this_block wanted next left (looked b) (block_said said))
      (λ b store agrees. turn b store (this_block-keeps wanted sound next n left (looked b) (block_said (reply_to_get (row_of (key.Block cidr) store.rows))) (more known store store) (holding b store) (block-read known store cidr))),
)
  where
    cidr : CidrValue
    cidr = this.slot_holding pool wanted.address

    looked : ℕ → this.LookedAtBlock
    looked b = record { rules = rules; cidr = this.slot_holding pool wanted.address; b = b }

    holding : (b : ℕ) (store : Datastore) → IsHolding (more known store store) wanted (record { rules = rules; cidr = this.slot_holding pool wanted.address; b = b })
    holding b store = record { pool = pool; was_read = known-pool-grows known (more known store store) pool (λ k r f there. inl there) at.0; holds = at.1; slot = refl }

    turn : (b : ℕ) (store : Datastore) → Keeps (more known store store) (this.this_block wanted next left (record { rules = rules; cidr = this.slot_holding pool wanted.address; b = b }) (block_said (reply_to_get (row_of (key.Block (this.slot_holding pool wanted.address)) store.rows))))
        → Step known store store idle (label_to still (this.this_block wanted next left (record { rules = rules; cidr = this.slot_holding pool wanted.address; b = b }) (block_said (reply_to_get (row_of (key.Block (this.slot_holding pool wanted.address)) store.rows)))))
        × Steps still (more known store store) (this.this_block wanted next left (record { rules = rules; cidr = this.slot_holding pool wanted.address; b = b }) (block_said (reply_to_get (row_of (key.Block (this.slot_holding pool wanted.address)) store.rows))))
    turn b store h = (Idles refl h.0, h.1)

this_round-lawful : (wanted : this.Wanted) → IsSoundAdd wanted.request → (next : this.NextThisRound) → LawfulNext next → LawfulNext (this.this_round wanted next)
this_round-lawful wanted sound next n left known = (
  refl,
  get-meets Step still Any known idle key.Config
      (λ c config. Asks idle (call.Get key.Pools) (λ p pools. this.this_in_pool wanted next left (record { config = config_said config; c = c; p = p }) (usable_pool_of (this.asked_of_this wanted.request wanted.address) wanted.address (pools_said pools))))
      (λ c store agrees. (
        Idles refl refl,
        get-meets Step still Any (more known store store) idle key.Pools
            (λ p pools. this.this_in_pool wanted next left (record { config = config_said (reply_to_get (row_of key.Config store.rows)); c = c; p = p }) (usable_pool_of (this.asked_of_this wanted.request wanted.address) wanted.address (pools_said pools)))
            (λ p later agrees'.
            let wide = more (more known store store) later later in
            let said = reply_to_get (row_of key.Pools later.rows) in
            let (label, meets) = this_in_pool-keeps wanted sound next n left (record { config = config_said (reply_to_get (row_of key.Config store.rows)); c = c; p = p }) (usable_pool_of (this.asked_of_this wanted.request wanted.address) wanted.address (pools_said said)) wide (usable-read wide wanted said (pools-read (more known store store) later)) in
            (Idles refl label, meets)),
      )),
)

add_this-lawful : (request : AddRequest) → IsSoundAdd request → (address : AddrValue) → Lawful (this.add_this_word request address)
add_this-lawful request sound address =
    let wanted : this.Wanted = record { request = request; address = address } in
    settled-lawful this.add_this_stops (in_rounds (this.this_round wanted) all_left) (rounds-lawful (this.this_round wanted) (this_round-lawful wanted sound) 126 all_left)

-- ---- DEL

del_blocks-lawful : (id : List ℕ) (moment : ℕ) (blocks : List CidrValue) → LawfulNext (remove.del_blocks id moment blocks)
unfolding remove.del_blocks
del_blocks-lawful id moment [] left known = (refl, tt)
del_blocks-lawful id moment (cidr ∷ rest) left known =
    followed-lawful (free (freeing_all id cidr) left) (λ now amount. remove.del_blocks id moment rest now)
    (free-lawful (freeing_all id cidr) left (owned-picks id)) (λ now amount. del_blocks-lawful id moment rest now) known

blocks_said : List ℕ → Said → List CidrValue
blocks_said id said = map (λ (count : CidrValue × ℕ). count.0) (handle_said id said).counts

del-lawful : (id : List ℕ) → Lawful (remove.del_word id)
unfolding blocks_said
del-lawful id known = (
  refl,
  get-meets Step still Any known idle (key.Handle id) (λ moment said. as_word remove.del_stops (remove.del_blocks id moment (blocks_said id said) all_left)) (λ moment store agrees.
      let blocks = blocks_said id (reply_to_get (row_of (key.Handle id) store.rows)) in
      let (label, meets) = settled-lawful remove.del_stops (remove.del_blocks id moment blocks all_left) (del_blocks-lawful id moment blocks all_left) (more known store store) in
      (Idles refl label, meets)),
)

-- ---- collection

free_leaks-lawful : (done : Collected) (leaks : List remove.Leak) → LawfulNext (remove.free_leaks done leaks)
unfolding remove.free_leaks
free_leaks-lawful done [] left known = (refl, tt)
free_leaks-lawful done (leak ∷ rest) left known =
    followed-lawful (free (remove.freeing_owner leak.owner leak.block) left) (λ now amount. remove.free_leaks (remove.with_item done (remove.item_of leak amount)) rest now)
    (free-lawful (remove.freeing_owner leak.owner leak.block) left (one-picks leak.owner.handle leak.block (leak.owner.address.number - leak.block.base) leak.owner.stamp))
    (λ now amount. free_leaks-lawful (remove.with_item done (remove.item_of leak amount)) rest now) known

-- what a collection does after its second list
abbrev collected : (b1 b2 : ℕ) → List remove.Leak → Word CollectAnswer
collected b1 b2 leaks = as_word remove.collect_stops (remove.free_leaks (record { b1 = b1; b2 = b2; items = [] }) leaks all_left)

collected-lawful : (b1 b2 : ℕ) (leaks : List remove.Leak) → Lawful (collected b1 b2 leaks)
collected-lawful b1 b2 leaks = settled-lawful remove.collect_stops _ (free_leaks-lawful (record { b1 = b1; b2 = b2; items = [] }) leaks all_left)

collect-lawful : (request : CollectRequest) → Lawful (remove.collect_word request)
collect-lawful request known = (
  refl,
  list-meets Step still Any known idle kind.Block
      (λ b1 first. Waits (λ live. Asks idle (call.List kind.Block) (λ b2 second. collected b1 b2 (remove.leaks (remove.suspects request (rows_said first)) live (rows_said second)))))
      (λ b1 store agrees. (
        Idles refl refl,
        λ live. (
          refl,
          list-meets Step still Any (more known store store) idle kind.Block
              (λ b2 second. collected b1 b2 (remove.leaks (remove.suspects request (rows_said (reply_of store (call.List kind.Block)))) live (rows_said second)))
              (λ b2 later agrees'.
              let (label, meets) = collected-lawful b1 b2 (remove.leaks (remove.suspects request (rows_said (reply_of store (call.List kind.Block)))) live (rows_said (reply_of later (call.List kind.Block)))) (more (more known store store) later later) in
              (Idles refl label, meets)),
        ),
      )),
)

-- ---- CHECK

check_held-lawful : (rest : Word CheckAnswer) (address : AddrValue) (moment : ℕ) (held : Bool) → Lawful rest → Lawful (look.check_held rest address moment held)
check_held-lawful rest address moment true r = r
check_held-lawful rest address moment false r = λ known. (refl, tt)

check_in_pool-lawful : (rest : Word CheckAnswer) (id : List ℕ) (address : AddrValue) (p : ℕ) (pool : Option Pool) → Lawful rest → Lawful (look.check_in_pool rest id address p pool)
check_in_pool-lawful rest id address p None r known = (refl, tt)
check_in_pool-lawful rest id address p (Some pool) r known = (
  refl,
  get-meets Step still Any known idle (key.Block (this.slot_holding pool address)) (λ moment said. look.check_held rest address moment (look.holds_at id address (block_said said))) (λ moment store agrees.
      let (label, meets) = check_held-lawful rest address moment (look.holds_at id address (block_said (reply_to_get (row_of (key.Block (this.slot_holding pool address)) store.rows)))) r (more known store store) in
      (Idles refl label, meets)),
)

check_each-lawful : (id : List ℕ) (p : ℕ) (pools : List Pool) (addresses : List AddrValue) → Lawful (look.check_each id p pools addresses)
unfolding look.check_each
check_each-lawful id p pools [] known = (refl, tt)
check_each-lawful id p pools (address ∷ rest) known = check_in_pool-lawful (look.check_each id p pools rest) id address p (pool_of address pools) (check_each-lawful id p pools rest) known

check-lawful : (id : List ℕ) (addresses : List AddrValue) → Lawful (look.check_word id addresses)
check-lawful id addresses known = (
  refl,
  get-meets Step still Any known idle key.Pools (λ p said. look.check_each id p (pools_said said) addresses) (λ p store agrees.
      let (label, meets) = check_each-lawful id p (pools_said (reply_to_get (row_of key.Pools store.rows))) addresses (more known store store) in
      (Idles refl label, meets)),
)

-- ---- the probe

probe_choice-lawful : (rest : Word ProbeAnswer) (request : ProbeRequest) (family : Family) (scan : Scan) (choice : Choice) → Lawful rest → Lawful (look.probe_choice rest (look.asked_of_probe request family) scan choice)
probe_choice-lawful rest request family scan Nothing r known = (refl, tt)
probe_choice-lawful rest request family scan (NoPool place) r known = (refl, tt)
probe_choice-lawful rest request family scan (Use cidr ordinal) r known = r known
probe_choice-lawful rest request family scan (Claim cidr) r known = r known
probe_choice-lawful rest request family scan (Borrow cidr ordinal) r known = r known

probe_each-lawful : (request : ProbeRequest) (scans : List Scan) (families : List Family) → Lawful (look.probe_each request scans families)
unfolding look.probe_each
probe_each-lawful request scans [] known = (refl, tt)
probe_each-lawful request scans (family ∷ families) known =
    let asked = look.asked_of_probe request family in (
      refl,
      (five_reads-steps family (λ scan seen. look.probe_choice (look.probe_each request (scans ++ scan ∷ []) families) asked scan (choice_of asked seen))
          (λ other scan seen h.
          let (label, meets) = probe_choice-lawful (look.probe_each request (scans ++ scan ∷ []) families) request family scan (choice_of asked seen) (probe_each-lawful request (scans ++ scan ∷ []) families) other in
          (label, meets)) known).1,
    )

-- ---- administration

-- the row was read as known, or was missing
abbrev IsReadOf : Known → Key → Said → Type 0
IsReadOf known k said = (said ≡ Missing) ⊎ ((revision : ℕ) × (found : Record) × (said ≡ Found revision found) × known k revision found)

row-read : (known : Known) (store : Datastore) (k : Key) → IsReadOf (more known store store) k (reply_to_get (row_of k store.rows))
row-read known store k = from (row_of k store.rows) refl
  where
    from : (o : Option (ℕ × Record)) → row_of k store.rows ≡ o → IsReadOf (more known store store) k (reply_to_get o)
    from None e = inl refl
    from (Some row) e = inr (row.0, row.1, refl, inr (inl e))

becomes-key : (one new : Record) → change.Becomes one ≡ change.Becomes new → key_of new ≡ key_of one
becomes-key one new e = let same : one ≡ new = cc e in ap key_of (sym same)

-- a change has the key that it is about
pub key-changed : (request : Admin) (said : Said) (new : Record) → change.admin_change request said ≡ change.Becomes new → key_of new ≡ change.key_changed request
key-changed (change_of.Pool pool) said new e = pools (list_any (change.is_same_pool pool) (pools_said said)) e
  where
    refused : (refusal : PoolRefusal) → change.pool_refused (pools_said said) pool refusal ≡ change.Becomes new → key_of new ≡ key.Pools
    refused NameTaken f = absurd (cc f)
    refused (Overlap place) f = absurd (cc f)
    refused Size f = absurd (cc f)
    refused Prefix f = absurd (cc f)
    refused TooMany f = absurd (cc f)
    refused Memory f = absurd (cc f)

    appended : (refusal : Option PoolRefusal) → change.pool_appended (pools_said said) pool refusal ≡ change.Becomes new → key_of new ≡ key.Pools
    appended None f = becomes-key (record_of.Pools (pools_said said ++ pool ∷ [])) new f
    appended (Some refusal) f = refused refusal f

    pools : (b : Bool) → cond b (change.Becomes (record_of.Pools (with_rules pool.name pool.disabled pool.mode pool.selector (pools_said said)))) (change.pool_appended (pools_said said) pool (refusal_of (pools_said said) pool)) ≡ change.Becomes new → key_of new ≡ key.Pools
    pools true f = becomes-key (record_of.Pools (with_rules pool.name pool.disabled pool.mode pool.selector (pools_said said))) new f
    pools false f = appended (refusal_of (pools_said said) pool) f
key-changed (change_of.Disable name disabled) said new e = by (list_any (has_name name) (pools_said said)) e
  where
    by : (b : Bool) → cond b (change.Becomes (record_of.Pools (with_disabled name disabled (pools_said said)))) (change.Refuses 6 name) ≡ change.Becomes new → key_of new ≡ key.Pools
    by true f = becomes-key (record_of.Pools (with_disabled name disabled (pools_said said))) new f
    by false f = absurd (cc f)
key-changed (change_of.Reserve reserved) said new e = by (list_any (change.is_named reserved.name) (reservations_said said)) (nat_le change.most_reservations (length (reservations_said said))) e
  where
    by : (b c : Bool) → cond b (change.Becomes (record_of.Reservations (change.with_reservation reserved (reservations_said said)))) (cond c (change.Refuses 7 reserved.name) (change.Becomes (record_of.Reservations (reservations_said said ++ reserved ∷ [])))) ≡ change.Becomes new → key_of new ≡ key.Reservations
    by true c f = becomes-key (record_of.Reservations (change.with_reservation reserved (reservations_said said))) new f
    by false true f = absurd (cc f)
    by false false f = becomes-key (record_of.Reservations (reservations_said said ++ reserved ∷ [])) new f
key-changed (change_of.Unreserve name) said new e = by (list_any (change.is_named name) (reservations_said said)) e
  where
    by : (b : Bool) → cond b (change.Becomes (record_of.Reservations (filter (λ r. not (change.is_named name r)) (reservations_said said)))) (change.Refuses 8 name) ≡ change.Becomes new → key_of new ≡ key.Reservations
    by true f = becomes-key (record_of.Reservations (filter (λ r. not (change.is_named name r)) (reservations_said said))) new f
    by false f = absurd (cc f)
key-changed (change_of.Config config) said new e = becomes-key (record_of.Config config) new e

-- a key of neither a block nor an affinity
abbrev pub IsUntied : Key → Type 0
IsUntied key.Config = Unit {0}
IsUntied key.Pools = Unit {0}
IsUntied key.Reservations = Unit {0}
IsUntied (key.Block cidr) = ⊥
IsUntied (key.Affinity node cidr) = ⊥
IsUntied (key.Handle id) = Unit {0}

untied-changed : (request : Admin) → IsUntied (change.key_changed request)
untied-changed (change_of.Pool pool) = tt
untied-changed (change_of.Disable name disabled) = tt
untied-changed (change_of.Reserve new) = tt
untied-changed (change_of.Unreserve name) = tt
untied-changed (change_of.Config config) = tt

pub changed-untied : (request : Admin) (said : Said) (new : Record) → change.admin_change request said ≡ change.Becomes new → IsUntied (key_of new)
changed-untied request said new e = subst (λ (k : Key). IsUntied k) (sym (key-changed request said new e)) (untied-changed request)

-- what was read is still there where the change is written
admin-done : (known : Known) (request : Admin) → IsSoundChange request → (said : Said) (new : Record) → IsReadOf known (change.key_changed request) said → change.admin_change request said ≡ change.Becomes new → (store : Datastore) → Agrees known store → (r : ℕ) → reply_of store (write_back said new) ≡ Can r → Step known store (store_with (write_of (write_back said new) r) store) idle idle
admin-done known request sound said new (inl missing) becomes store agrees r e =
    let P : Said → Type 0 = λ s. change.admin_change request s ≡ change.Becomes new → reply_of store (write_back s new) ≡ Can r → Step known store (store_with (write_of (write_back s new) r) store) idle idle in
    let created : P Missing = λ b f.
    let none = subst (λ (x : Key). row_of x store.rows ≡ None) (key-changed request Missing new b) (create-can store new r f) in
    Changes request new (can-put store new (call.Create new) r f) refl refl (ap (λ o. change.admin_change request (reply_to_get o)) none ∙ b) sound in
    subst P (sym missing) created becomes e
admin-done known request sound said new (inr (revision, found, is, k)) becomes store agrees r e =
    let P : Said → Type 0 = λ s. change.admin_change request s ≡ change.Becomes new → reply_of store (write_back s new) ≡ Can r → Step known store (store_with (write_of (write_back s new) r) store) idle idle in
    let updated : P (Found revision found) = λ b f.
    let (old, there) = update-can store new revision r f in
    let there' = subst (λ (x : Key). HasAt store x revision old) (key-changed request (Found revision found) new b) there in
    let same = agrees.same (change.key_changed request) revision found old k there' in
    let now : HasAt store (change.key_changed request) revision found = there' ∙ ap (λ (x : Record). Some (revision, x)) (sym same) in
    Changes request new (can-put store new (call.Update new revision) r f) refl refl (ap (λ o. change.admin_change request (reply_to_get o)) now ∙ b) sound in
    subst P (sym is) updated becomes e

admin_write-keeps : (request : Admin) → IsSoundChange request → (again : Part AdminAnswer) (left : Left) (said : Said) (changed : change.Changed) → change.admin_change request said ≡ changed → Lawful again → (known : Known) → IsReadOf known (change.key_changed request) said → Keeps known (change.admin_write again left said changed)
admin_write-keeps request sound again left said (change.Refuses number name) is a known read = (refl, tt)
admin_write-keeps request sound again left said (change.Becomes new) is a known read = (
  refl,
  write-meets Step step-grows still Any known idle (write_back said new) (λ revision. goes left (admin.Done revision)) again (stops left NoRoom) (stops left NoRevisions) any-lasts
      (admin-done known request sound said new read is) (λ other r grows w. tt)
      (λ store. Idles refl (a known).0) (a known).1
      (λ store. Idles refl refl) tt (λ store. Idles refl refl) tt,
)

admin_once-lawful : (request : Admin) → IsSoundChange request → (again : Part AdminAnswer) (left : Left) → Lawful again → Lawful (change.admin_once request again left)
admin_once-lawful request sound again left a known = (
  refl,
  get-meets Step still Any known idle (change.key_changed request) (λ moment said. change.admin_write again left said (change.admin_change request said)) (λ moment store agrees.
      let said = reply_to_get (row_of (change.key_changed request) store.rows) in
      let (label, meets) = admin_write-keeps request sound again left said (change.admin_change request said) refl a (more known store store) (row-read known store (change.key_changed request)) in
      (Idles refl label, meets)),
)

admin_tries-lawful : (request : Admin) → IsSoundChange request → (races claims : ℕ) → Lawful (tries (change.admin_once request) races claims)
unfolding tries
admin_tries-lawful request sound zero claims = admin_once-lawful request sound (stops (left_of zero claims) OutOfTries) (left_of zero claims) (λ known. (refl, tt))
admin_tries-lawful request sound (suc races) claims = admin_once-lawful request sound (tries (change.admin_once request) races claims) (left_of (suc races) claims) (admin_tries-lawful request sound races claims)

admin-lawful : (request : Admin) → IsSoundChange request → Lawful (change.admin_word request)
admin-lawful request sound = settled-lawful change.admin_stops (with_retries (change.admin_once request) all_left) (admin_tries-lawful request sound 63 63)

-- ---- all of them

release-lawful : (node : List ℕ) (cidr : CidrValue) → Lawful (affinities.release node cidr)
release-lawful node cidr =
    let tie : affinities.Tie = record { node = node; block = cidr } in
    settled-lawful affinities.release_stops (with_retries (affinities.release_once tie) all_left) (release-steps tie all_left)

told-lawful : {A : Type 0} → (of_one : A → Answer) (w : Word A) → Lawful w → Lawful (told_as of_one w)
told-lawful of_one w h = lawful-both w (λ one. Ends (of_one one)) h (λ one known. (refl, tt))

pub word-lawful : (request : Request) → IsSoundRequest request → Lawful (word_of request)
unfolding word_of
word-lawful (request_of.Add request) sound = told-lawful of_add (add.add_word request) (add-lawful request sound.0)
word-lawful (request_of.AddThis request address) sound = told-lawful of_add_this (this.add_this_word request address) (add_this-lawful request sound.0 address)
word-lawful (request_of.Del id) sound = told-lawful of_del (remove.del_word id) (del-lawful id)
word-lawful (request_of.Check id addresses) sound = told-lawful of_check (look.check_word id addresses) (check-lawful id addresses)
word-lawful (request_of.Release node cidr) sound = told-lawful of_release (affinities.release node cidr) (release-lawful node cidr)
word-lawful (request_of.Collect request) sound = told-lawful of_collect (remove.collect_word request) (collect-lawful request)
word-lawful (request_of.Admin request) sound = told-lawful of_admin (change.admin_word request) (admin-lawful request sound)
word-lawful (request_of.Probe request) sound = told-lawful of_probe (look.probe_word request) (probe_each-lawful request [] (families_if request.ipv4 request.ipv6))
