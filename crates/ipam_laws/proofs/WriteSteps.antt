-- Freeing, claiming, releasing and assigning take steps of their kinds.
use Rattle.std.proofs.Common.{◌≡◌, ℕ, zero, suc, ◌+◌, ◌⊎◌, inl, inr, Bool, true, false, cond, List, Option, Some, None, refl, sym, ap, ◌∙◌, subst, eqb-true}
use Rattle.std.specs.List.{count_by}
use Rattle.ipam_addr.specs.Shape.{CidrValue}
use Rattle.ipam_block.specs.declared.allocation.Attributes.{Attributes}
use Rattle.ipam_block.specs.Shape as block
use Rattle.ipam_block.specs.Operations.{next_block, fresh_block, affine_to, block_with_ordinal, block_without}
use Rattle.ipam_block.specs.declared.record.Affinity.{Affinity}
use Rattle.ipam_block.specs.declared.state.State.{State}
use Rattle.ipam_block.specs.declared.state.State.TheVariants.{Pending, Confirmed, PendingDeletion}
use Rattle.ipam_records.specs.declared.key.Key.TheVariants as key
use Rattle.ipam_records.specs.declared.record.Record.{Record}
use Rattle.ipam_records.specs.declared.record.Record.TheVariants as record_of
use Rattle.ipam_records.specs.declared.call.Call.{Call}
use Rattle.ipam_records.specs.declared.call.Call.TheVariants as call
use Rattle.ipam_records.specs.declared.call.Write.TheVariants.{Put}
use Rattle.ipam_records.specs.Datastore.{Datastore, reply_of, reply_to_get, row_of, written, write_of}
use Rattle.ipam_records.specs.Key.{key_of}
use Rattle.ipam_records.specs.Label.{idle, owing}
use Rattle.ipam_records.specs.Sound.{AreAttributes}
use Rattle.ipam_records.specs.Said.{Found, Can}
use Rattle.ipam_records.specs.Word.{Word, Ends, Asks}
use Rattle.ipam_model.specs.declared.outcome.ClaimAnswer.TheVariants as claimed
use Rattle.ipam_model.specs.declared.outcome.ReleaseAnswer.{ReleaseAnswer}
use Rattle.ipam_model.specs.declared.outcome.ReleaseAnswer.TheVariants as released
use Rattle.ipam_model.specs.Affinities as affinities
use Rattle.ipam_model.specs.Affinities.{BlockRead, Tie, affinity}
use Rattle.ipam_model.specs.AffinityLaw.{HasAt}
use Rattle.ipam_model.specs.declared.part.Assigned.{Assigned}
use Rattle.ipam_model.specs.Assigning.{Target, assign_block, assign_lost}
use Rattle.ipam_model.specs.Cluster.{store_with}
use Rattle.ipam_model.specs.Counting.{lower, FreedOfHandle, free, free_once, free_found, free_these, credit_of}
use Rattle.ipam_model.specs.Reads.{affinity_said, block_said}
use Rattle.ipam_model.specs.declared.part.Left.{Left}
use Rattle.ipam_model.specs.declared.part.Stop.TheVariants.{OutOfTries, NoRoom, NoRevisions}
use Rattle.ipam_model.specs.Step.{left_of, Part, goes, stops, part_then, tries, with_retries}
use Rattle.ipam_laws.proofs.Lift.{Known, more, Agrees, label_to}
use Rattle.ipam_laws.proofs.StoreSteps.{can-next}
use Rattle.ipam_laws.proofs.Calls.{found-key, found-block, create-can, update-can, delete-can, can-put, can-remove, get-meets, write-meets, write-meets-at}
use Rattle.ipam_laws.proofs.Steps.{IsKnownBlock, IsClaimable, IsMarked, IsFree, claimable-grows, IsAsRead, HasAffinityAt, OwnPicks, at_claiming, at_claimed, at_releasing, at_released, Step, Idles, Finds, Starts, Takes, Confirms, Marks, Looks, Bares, Deletes, Frees, Assigns, known-block-grows, step-grows}
use Rattle.ipam_laws.proofs.PartSteps.{Any, still, Steps, any-lasts, GoesOn, goes-on, lowered-steps}

-- ---- blocks that were read

pub block-read : (known : Known) (store : Datastore) (cidr : CidrValue) → IsKnownBlock (more known store store) cidr (block_said (reply_to_get (row_of (key.Block cidr) store.rows)))
block-read known store cidr = from (row_of (key.Block cidr) store.rows) refl
  where
    from : (o : Option (ℕ × Record)) → row_of (key.Block cidr) store.rows ≡ o → IsKnownBlock (more known store store) cidr (block_said (reply_to_get o))
    from None e = tt
    from (Some row) e =
        let (b, is, same) = found-block cidr row.1 (found-key store (key.Block cidr) row.0 row.1 e) in
        let there : HasAt store (key.Block cidr) row.0 (record_of.Block b) = e ∙ ap (λ (x : Record). Some (row.0, x)) is in
        subst (λ (x : Record). IsKnownBlock (more known store store) cidr (block_said (Found row.0 x))) (sym is) (same, inr (inl there))

-- a known block that is there is still the same
known-as_read : (known : Known) (store : Datastore) (cidr : CidrValue) (found : ℕ × block.BlockValue) (old : Record) → Agrees known store → IsKnownBlock known cidr (Some found) → HasAt store (key.Block cidr) found.0 old → IsAsRead store cidr (Some found)
known-as_read known store cidr found old agrees k there =
    let is = agrees.same (key.Block cidr) found.0 (record_of.Block found.1) old k.1 there in
    (k.0, there ∙ ap (λ (x : Record). Some (found.0, x)) (sym is))

-- a write of a block where it is as it was read: another record, or one where it was missing
update-as_read : (known : Known) (store : Datastore) (cidr : CidrValue) (found : ℕ × block.BlockValue) (new : block.BlockValue) (r : ℕ) → new.cidr ≡ found.1.cidr → Agrees known store → IsKnownBlock known cidr (Some found) → reply_of store (call.Update (record_of.Block new) found.0) ≡ Can r → IsAsRead store cidr (Some found)
update-as_read known store cidr found new r own agrees k e =
    let (old, there) = update-can store (record_of.Block new) found.0 r e in
    let there' = subst (λ (x : CidrValue). HasAt store (key.Block x) found.0 old) (own ∙ k.0) there in
    known-as_read known store cidr found old agrees k there'

-- ---- an affinity that was read

-- it is there as it was read, where it was not missing
abbrev IsThere : Datastore → Tie → Option (ℕ × Affinity) → Type 0
IsThere store tie None = Unit {0}
IsThere store tie (Some found) = HasAffinityAt store tie found.0 found.1.state

pub found-affinity : (tie : Tie) (found : Record) → key_of found ≡ key.Affinity tie.node tie.block → (a : Affinity) × (found ≡ record_of.Affinity a) × (a ≡ affinity tie.node tie.block a.state)
found-affinity tie (record_of.Affinity a) e =
    let node : a.node ≡ tie.node = cc in
    let cidr : a.cidr ≡ tie.block = cc in
    (a, refl, λ i. record { node = node i; cidr = cidr i; state = a.state })
found-affinity tie (record_of.Block b) e = absurd (cc e)
found-affinity tie (record_of.Config config) e = absurd (cc e)
found-affinity tie (record_of.Pools pools) e = absurd (cc e)
found-affinity tie (record_of.Reservations reservations) e = absurd (cc e)
found-affinity tie (record_of.Handle h) e = absurd (cc e)

affinity-read : (store : Datastore) (tie : Tie) → IsThere store tie (affinity_said (reply_to_get (row_of (key.Affinity tie.node tie.block) store.rows)))
affinity-read store tie = from (row_of (key.Affinity tie.node tie.block) store.rows) refl
  where
    from : (o : Option (ℕ × Record)) → row_of (key.Affinity tie.node tie.block) store.rows ≡ o → IsThere store tie (affinity_said (reply_to_get o))
    from None e = tt
    from (Some row) e =
        let (a, is, same) = found-affinity tie row.1 (found-key store (key.Affinity tie.node tie.block) row.0 row.1 e) in
        let there : HasAffinityAt store tie row.0 a.state = e ∙ ap (λ (x : Record). Some (row.0, x)) (is ∙ ap record_of.Affinity same) in
        subst (λ (x : Record). IsThere store tie (affinity_said (Found row.0 x))) (sym is) there

-- ---- a claim

claim_confirm-steps : (known : Known) (tie : Tie) (kept : ℕ) → Steps still known (affinities.claim_confirm tie.node tie.block kept)
claim_confirm-steps known tie kept =
    let new = record_of.Affinity (affinity tie.node tie.block Confirmed) in
    write-meets Step step-grows still Any known (at_claimed tie kept) (call.Update new kept) (λ revision. Ends claimed.Confirmed) (Ends claimed.Lost) (Ends claimed.Full) (Ends claimed.Spent) any-lasts
    (λ store agrees r e.
    let (old, there) = update-can store new kept r e in
    Confirms tie kept old (can-put store new (call.Update new kept) r e) refl refl there)
    (λ other r grows w. tt)
    (λ store. Idles refl refl) tt (λ store. Idles refl refl) tt (λ store. Idles refl refl) tt

claim-taken : (known : Known) (tie : Tie) (read : BlockRead) (kept : ℕ) → IsClaimable known tie.node tie.block read → (store : Datastore) → Agrees known store → (r : ℕ) → reply_of store (affinities.claiming tie.node tie.block read) ≡ Can r
    → Step known store (store_with (write_of (affinities.claiming tie.node tie.block read) r) store) (at_claiming tie read kept) (at_claimed tie kept)
claim-taken known tie None kept h store agrees r e =
    let new = record_of.Block (fresh_block tie.block (Some tie.node)) in
    Takes tie None kept (can-put store new (call.Create new) r e) refl refl (create-can store new r e) h
claim-taken known tie (Some (revision, b)) kept h store agrees r e =
    let new = affine_to (Some tie.node) (next_block b) in
    Takes tie (Some (revision, b)) kept (can-put store (record_of.Block new) (call.Update (record_of.Block new) revision) r e) refl refl
    (update-as_read known store tie.block (revision, b) new r refl agrees h.was_read e) h

claim_block-steps : (known : Known) (tie : Tie) (read : BlockRead) (kept : ℕ) → IsClaimable known tie.node tie.block read → Steps still known (affinities.claim_block tie.node tie.block read kept)
claim_block-steps known tie read kept h =
    write-meets Step step-grows still Any known (at_claiming tie read kept) (affinities.claiming tie.node tie.block read) (λ revision. affinities.claim_confirm tie.node tie.block kept) (Ends claimed.Lost) (Ends claimed.Full) (Ends claimed.Spent) any-lasts
    (claim-taken known tie read kept h)
    (λ other r grows w. claim_confirm-steps other tie kept)
    (λ store. Idles refl refl) tt (λ store. Idles refl refl) tt (λ store. Idles refl refl) tt

-- a write of the affinity, created where it was missing or changed where it is to be deleted
IsFirstWrite : Tie → Call → Type 0
IsFirstWrite tie asked = let new = record_of.Affinity (affinity tie.node tie.block Pending) in (asked ≡ call.Create new) ⊎ ((revision : ℕ) × (asked ≡ call.Update new revision))

claim-started : (known : Known) (tie : Tie) (read : BlockRead) (asked : Call) → IsFirstWrite tie asked → IsClaimable known tie.node tie.block read → (store : Datastore) (r : ℕ) → reply_of store asked ≡ Can r
    → Step known store (store_with (write_of asked r) store) idle (at_claiming tie read r)
unfolding IsFirstWrite
claim-started known tie read asked (inl is) h store r e =
    let new = record_of.Affinity (affinity tie.node tie.block Pending) in
    let next = can-next store asked r e in
    let put = ap (λ (x : Call). store_with (write_of x r) store) is ∙ ap (λ (n : ℕ). written store (Put n new)) next in
    Starts tie read put refl (ap (at_claiming tie read) next) h
claim-started known tie read asked (inr (revision, is)) h store r e =
    let new = record_of.Affinity (affinity tie.node tie.block Pending) in
    let next = can-next store asked r e in
    let put = ap (λ (x : Call). store_with (write_of x r) store) is ∙ ap (λ (n : ℕ). written store (Put n new)) next in
    Starts tie read put refl (ap (at_claiming tie read) next) h

claim_first-steps : (known : Known) (tie : Tie) (read : BlockRead) (asked : Call) → IsFirstWrite tie asked → IsClaimable known tie.node tie.block read → Steps still known (Asks idle asked (λ moment said. affinities.on_claim_write said (affinities.claim_block tie.node tie.block read)))
claim_first-steps known tie read asked is h =
    write-meets Step step-grows still Any known idle asked (affinities.claim_block tie.node tie.block read) (Ends claimed.Lost) (Ends claimed.Full) (Ends claimed.Spent) any-lasts
    (λ store agrees r e. claim-started known tie read asked is h store r e)
    (λ other r grows w. claim_block-steps other tie read r (claimable-grows known other tie.node tie.block read grows h))
    (λ store. Idles refl refl) tt (λ store. Idles refl refl) tt (λ store. Idles refl refl) tt

-- what follows the read of the affinity, from the store in which it was read
claim_kept-steps : (known : Known) (tie : Tie) (read : BlockRead) (revision : ℕ) (state : State) (store : Datastore) → HasAffinityAt store tie revision state → IsClaimable known tie.node tie.block read
    → Step known store store idle (label_to still (affinities.claim_kept tie.node tie.block read revision state)) × Steps still known (affinities.claim_kept tie.node tie.block read revision state)
unfolding IsFirstWrite
claim_kept-steps known tie read revision PendingDeletion store there h = (Idles refl refl, claim_first-steps known tie read (call.Update (record_of.Affinity (affinity tie.node tie.block Pending)) revision) (inr (revision, refl)) h)
claim_kept-steps known tie read revision Pending store there h = (Finds tie read revision Pending refl refl refl there (λ e. cc e) h, claim_block-steps known tie read revision h)
claim_kept-steps known tie read revision Confirmed store there h = (Finds tie read revision Confirmed refl refl refl there (λ e. cc e) h, claim_block-steps known tie read revision h)

claim_found-steps : (known : Known) (tie : Tie) (read : BlockRead) (found : Option (ℕ × Affinity)) (store : Datastore) → IsThere store tie found → IsClaimable known tie.node tie.block read
    → Step known store store idle (label_to still (affinities.claim_found tie.node tie.block read found)) × Steps still known (affinities.claim_found tie.node tie.block read found)
unfolding IsFirstWrite
claim_found-steps known tie read None store there h = (Idles refl refl, claim_first-steps known tie read (call.Create (record_of.Affinity (affinity tie.node tie.block Pending))) (inl refl) h)
claim_found-steps known tie read (Some (revision, found)) store there h = claim_kept-steps known tie read revision found.state store there h

pub claim-steps : (known : Known) (node : List ℕ) (cidr : CidrValue) (read : BlockRead) → IsClaimable known node cidr read → Steps still known (affinities.claim node cidr read)
unfolding affinities.claim
claim-steps known node cidr read h =
    let tie : Tie = record { node = node; block = cidr } in
    get-meets Step still Any known idle (key.Affinity node cidr) (λ moment said. affinities.claim_found node cidr read (affinity_said said)) (λ moment store agrees.
    let wide : IsClaimable (more known store store) node cidr read = claimable-grows known (more known store store) node cidr read (λ k r f there. inl there) h in
    let narrow = claim_found-steps known tie read (affinity_said (reply_to_get (row_of (key.Affinity node cidr) store.rows))) store (affinity-read store tie) h in
    let (step, steps) = claim_found-steps (more known store store) tie read (affinity_said (reply_to_get (row_of (key.Affinity node cidr) store.rows))) store (affinity-read store tie) wide in
    (narrow.0, steps))

pub claim-label : (node : List ℕ) (cidr : CidrValue) (read : BlockRead) → label_to still (affinities.claim node cidr read) ≡ idle
unfolding affinities.claim
claim-label node cidr read = refl

-- ---- a release

-- what is tried again stands nowhere, and takes its steps whatever is known
abbrev pub Tries : {A : Type 0} → Word A → Type 1
Tries again = ((known : Known) → Steps still known again) × (label_to still again ≡ idle)

release_delete-steps : (known : Known) (tie : Tie) (again : Part ReleaseAnswer) (left : Left) (mark : ℕ) → Tries again → Steps still known (affinities.release_delete tie again left mark)
release_delete-steps known tie again left mark a =
    let gone = key.Affinity tie.node tie.block in
    write-meets Step step-grows still Any known (at_released tie mark) (call.Delete gone mark) (λ revision. goes left released.Released) again (stops left NoRoom) (stops left NoRevisions) any-lasts
    (λ store agrees r e.
    let (old, there) = delete-can store gone mark r e in
    Deletes tie mark old (can-remove store gone (call.Delete gone mark) r e) refl refl there)
    (λ other r grows w. tt)
    (λ store. Idles refl a.1) (a.0 known) (λ store. Idles refl refl) tt (λ store. Idles refl refl) tt

release-bared : (known : Known) (tie : Tie) (read : BlockRead) (mark : ℕ) → IsKnownBlock known tie.block read → IsMarked known tie mark → (store : Datastore) → Agrees known store → (r : ℕ) → reply_of store (affinities.baring tie.node tie.block read) ≡ Can r
    → Step known store (store_with (write_of (affinities.baring tie.node tie.block read) r) store) (at_releasing tie read mark) (at_released tie mark)
release-bared known tie None mark h k store agrees r e =
    let new = record_of.Block (fresh_block tie.block None) in
    Bares tie None mark (can-put store new (call.Create new) r e) refl refl (create-can store new r e) k
release-bared known tie (Some (revision, b)) mark h k store agrees r e =
    let new = affine_to (affinities.other_node tie.node b.node) (next_block b) in
    Bares tie (Some (revision, b)) mark (can-put store (record_of.Block new) (call.Update (record_of.Block new) revision) r e) refl refl
    (update-as_read known store tie.block (revision, b) new r refl agrees h e) k

release_block-steps : (known : Known) (tie : Tie) (again : Part ReleaseAnswer) (left : Left) (mark : ℕ) (read : BlockRead) → Tries again → IsKnownBlock known tie.block read → IsMarked known tie mark → Steps still known (affinities.release_block tie again left mark read)
release_block-steps known tie again left mark read a h k =
    write-meets Step step-grows still Any known (at_releasing tie read mark) (affinities.baring tie.node tie.block read) (λ revision. affinities.release_delete tie again left mark) again (stops left NoRoom) (stops left NoRevisions) any-lasts
    (release-bared known tie read mark h k)
    (λ other r grows w. release_delete-steps other tie again left mark a)
    (λ store. Idles refl a.1) (a.0 known) (λ store. Idles refl refl) tt (λ store. Idles refl refl) tt

marked-there : (known : Known) (tie : Tie) (mark : ℕ) (found : Option (ℕ × Affinity)) (store : Datastore) → Agrees known store → IsMarked known tie mark → IsThere store tie found → affinities.is_at_mark mark found ≡ true → HasAffinityAt store tie mark PendingDeletion
marked-there known tie mark None store agrees k there e = absurd (cc e)
marked-there known tie mark (Some (revision, a)) store agrees k there e =
    let same : revision ≡ mark = eqb-true revision mark e in
    let at_mark = subst (λ (n : ℕ). HasAffinityAt store tie n a.state) same there in
    let is = agrees.same (key.Affinity tie.node tie.block) mark (record_of.Affinity (affinity tie.node tie.block PendingDeletion)) (record_of.Affinity (affinity tie.node tie.block a.state)) k at_mark in
    at_mark ∙ ap (λ (x : Record). Some (mark, x)) (sym is)

release_marked-steps : (known other : Known) (tie : Tie) (again : Part ReleaseAnswer) (left : Left) (mark : ℕ) (read : BlockRead) (same : Bool) (store : Datastore) → Tries again → IsKnownBlock known tie.block read → IsKnownBlock other tie.block read → IsMarked other tie mark → (same ≡ true → HasAffinityAt store tie mark PendingDeletion)
    → Step known store store idle (label_to still (cond same (affinities.release_block tie again left mark read) again)) × Steps still other (cond same (affinities.release_block tie again left mark read) again)
release_marked-steps known other tie again left mark read true store a h h' k there = (Looks tie read mark refl refl refl (there refl) h, release_block-steps other tie again left mark read a h' k)
release_marked-steps known other tie again left mark read false store a h h' k there = (Idles refl a.1, a.0 other)

release_look-steps : (known : Known) (tie : Tie) (again : Part ReleaseAnswer) (left : Left) (mark : ℕ) → Tries again → IsMarked known tie mark → Steps still known (affinities.release_look tie again left mark)
release_look-steps known tie again left mark a k =
    get-meets Step still Any known idle (key.Block tie.block) (λ moment seen. Asks idle (call.Get (key.Affinity tie.node tie.block)) (λ second said. cond (affinities.is_at_mark mark (affinity_said said)) (affinities.release_block tie again left mark (block_said seen)) again)) (λ moment store agrees. (
      Idles refl refl,
      release_second-steps known tie again left mark store a k,
    ))
  where
    release_second-steps : (known : Known) (tie : Tie) (again : Part ReleaseAnswer) (left : Left) (mark : ℕ) (store : Datastore) → Tries again → IsMarked known tie mark
        → Steps still (more known store store) (Asks idle (call.Get (key.Affinity tie.node tie.block)) (λ second said. cond (affinities.is_at_mark mark (affinity_said said)) (affinities.release_block tie again left mark (block_said (reply_to_get (row_of (key.Block tie.block) store.rows)))) again))
    release_second-steps known tie again left mark store a k =
        get-meets Step still Any (more known store store) idle (key.Affinity tie.node tie.block) (λ second said. cond (affinities.is_at_mark mark (affinity_said said)) (affinities.release_block tie again left mark (block_said (reply_to_get (row_of (key.Block tie.block) store.rows)))) again) (λ second later agrees.
        let read = block_said (reply_to_get (row_of (key.Block tie.block) store.rows)) in
        let found = affinity_said (reply_to_get (row_of (key.Affinity tie.node tie.block) later.rows)) in
        let here = block-read known store tie.block in
        release_marked-steps (more known store store) (more (more known store store) later later) tie again left mark read (affinities.is_at_mark mark found) later a here
        (known-block-grows (more known store store) (more (more known store store) later later) tie.block read (λ k r f there. inl there) here) (inl (inl k))
        (marked-there (more known store store) tie mark found later agrees (inl k) (affinity-read later tie)))

release_found-steps : (known : Known) (tie : Tie) (again : Part ReleaseAnswer) (left : Left) (moment : ℕ) (found : Option (ℕ × Affinity)) → Tries again → (label_to still (affinities.release_found tie again left moment found) ≡ idle) × Steps still known (affinities.release_found tie again left moment found)
release_found-steps known tie again left moment None a = (refl, tt)
release_found-steps known tie again left moment (Some (revision, found)) a =
    let new = record_of.Affinity (affinity tie.node tie.block PendingDeletion) in (
      refl,
      write-meets Step step-grows still Any known idle (call.Update new revision) (affinities.release_look tie again left) again (stops left NoRoom) (stops left NoRevisions) any-lasts
          (λ store agrees r e.
          let (old, there) = update-can store new revision r e in
          Marks tie revision old (can-put store new (call.Update new revision) r e) refl refl there)
          (λ other r grows w. release_look-steps other tie again left r a w)
          (λ store. Idles refl a.1) (a.0 known) (λ store. Idles refl refl) tt (λ store. Idles refl refl) tt,
    )

release_once-steps : (known : Known) (tie : Tie) (again : Part ReleaseAnswer) (left : Left) → Tries again → Steps still known (affinities.release_once tie again left)
release_once-steps known tie again left a =
    get-meets Step still Any known idle (key.Affinity tie.node tie.block) (λ moment said. affinities.release_found tie again left moment (affinity_said said)) (λ moment store agrees.
    let (label, meets) = release_found-steps (more known store store) tie again left moment (affinity_said (reply_to_get (row_of (key.Affinity tie.node tie.block) store.rows))) a in
    (Idles refl label, meets))

release_tries-label : (tie : Tie) (races claims : ℕ) → label_to still (tries (affinities.release_once tie) races claims) ≡ idle
unfolding tries
release_tries-label tie zero claims = refl
release_tries-label tie (suc races) claims = refl

release_tries-steps : (tie : Tie) (races claims : ℕ) (known : Known) → Steps still known (tries (affinities.release_once tie) races claims)
unfolding tries
release_tries-steps tie zero claims known = release_once-steps known tie (stops (left_of zero claims) OutOfTries) (left_of zero claims) (λ other. tt, refl)
release_tries-steps tie (suc races) claims known = release_once-steps known tie (tries (affinities.release_once tie) races claims) (left_of (suc races) claims) (λ other. release_tries-steps tie races claims other, release_tries-label tie races claims)

pub release-steps : (tie : Tie) (left : Left) (known : Known) → (label_to still (with_retries (affinities.release_once tie) left) ≡ idle) × Steps still known (with_retries (affinities.release_once tie) left)
release-steps tie left known = (release_tries-label tie left.races left.claims, release_tries-steps tie left.races left.claims known)

-- ---- freeing

free_these-steps : (known : Known) (what : FreedOfHandle) (again : Part ℕ) (left : Left) (amount : ℕ) (found : ℕ × block.BlockValue) → OwnPicks what → count_by what.picks found.1.allocations ≡ amount → IsKnownBlock known what.block (Some found) → Tries again
    → (label_to still (free_these what again left amount found) ≡ idle) × Steps still known (free_these what again left amount found)
free_these-steps known what again left zero found own e h a = (refl, tt)
free_these-steps known what again left (suc amount) (revision, b) own e h a =
    let credit = credit_of what.handle what.block (suc amount) in
    let new = block_without what.picks (next_block b) in (
      refl,
      write-meets Step step-grows still Any known idle (call.Update (record_of.Block new) revision) (λ taken. part_then (lower credit left) (λ now done. goes now (suc amount))) again (stops left NoRoom) (stops left NoRevisions) any-lasts
          (λ store agrees r f.
          let there = update-as_read known store what.block (revision, b) new r refl agrees h f in
          Frees what amount revision b (can-put store (record_of.Block new) (call.Update (record_of.Block new) revision) r f) refl (lowered-steps credit left (suc amount) known).0 there.1 h.0 own e)
          (λ other r grows w. (lowered-steps credit left (suc amount) other).1)
          (λ store. Idles refl a.1) (a.0 known) (λ store. Idles refl refl) tt (λ store. Idles refl refl) tt,
    )

free_found-steps : (known : Known) (what : FreedOfHandle) (again : Part ℕ) (left : Left) (found : Option (ℕ × block.BlockValue)) → OwnPicks what → IsKnownBlock known what.block found → Tries again
    → (label_to still (free_found what again left found) ≡ idle) × Steps still known (free_found what again left found)
free_found-steps known what again left None own h a = (refl, tt)
free_found-steps known what again left (Some found) own h a = free_these-steps known what again left (count_by what.picks found.1.allocations) found own refl h a

free_once-steps : (known : Known) (what : FreedOfHandle) (again : Part ℕ) (left : Left) → OwnPicks what → Tries again → Steps still known (free_once what again left)
free_once-steps known what again left own a =
    get-meets Step still Any known idle (key.Block what.block) (λ moment said. free_found what again left (block_said said)) (λ moment store agrees.
    let (label, meets) = free_found-steps (more known store store) what again left (block_said (reply_to_get (row_of (key.Block what.block) store.rows))) own (block-read known store what.block) a in
    (Idles refl label, meets))

free_tries-label : (what : FreedOfHandle) (races claims : ℕ) → label_to still (tries (free_once what) races claims) ≡ idle
unfolding tries
free_tries-label what zero claims = refl
free_tries-label what (suc races) claims = refl

pub free-label : (what : FreedOfHandle) (left : Left) → label_to still (free what left) ≡ idle
free-label what left = free_tries-label what left.races left.claims

free_tries-steps : (what : FreedOfHandle) (races claims : ℕ) → OwnPicks what → (known : Known) → Steps still known (tries (free_once what) races claims)
unfolding tries
free_tries-steps what zero claims own known = free_once-steps known what (stops (left_of zero claims) OutOfTries) (left_of zero claims) own (λ other. tt, refl)
free_tries-steps what (suc races) claims own known =
    free_once-steps known what (tries (free_once what) races claims) (left_of (suc races) claims) own
    (λ other. free_tries-steps what races claims own other, free_tries-label what races claims)

pub free-steps : (what : FreedOfHandle) (left : Left) → OwnPicks what → (known : Known) → Steps still known (free what left)
free-steps what left own known = free_tries-steps what left.races left.claims own known

-- ---- assigning

assign_lost-steps : (attributes : Attributes) (target : Target) (races claims : ℕ) (known : Known) → GoesOn (credit_of attributes.handle target.block.cidr 1) (label_to still (assign_lost attributes target (left_of races claims))) × Steps still known (assign_lost attributes target (left_of races claims))
assign_lost-steps attributes target zero claims known = (inl refl, tt)
assign_lost-steps attributes target (suc races) claims known =
    let (label, steps) = lowered-steps {A = Option Assigned} (credit_of attributes.handle target.block.cidr 1) (left_of races claims) None known in
    (inr label, steps)

pub assign_block-steps : (known : Known) (attributes : Attributes) (target : Target) (left : Left) → known (key.Block target.block.cidr) target.revision (record_of.Block target.block) → AreAttributes attributes → IsFree known target → Steps still known (assign_block attributes target left)
assign_block-steps known attributes target left k sound free =
    let credit = credit_of attributes.handle target.block.cidr 1 in
    let new = block_with_ordinal (next_block target.block) target.ordinal attributes in
    let (label, lost) = assign_lost-steps attributes target left.races left.claims known in
    write-meets-at Step step-grows still Any known (owing credit) (call.Update (record_of.Block new) target.revision) (λ moment taken. goes left (Some (record { moment = moment; stamp = target.block.sequence + 1 }))) (assign_lost attributes target left) (stops left NoRoom) (stops left NoRevisions) any-lasts
    (λ moment store agrees r f.
    let there = update-as_read known store target.block.cidr (target.revision, target.block) new r refl agrees (refl, k) f in
    Assigns attributes target (can-put store (record_of.Block new) (call.Update (record_of.Block new) target.revision) r f) refl refl there.1 sound free)
    (λ moment other r grows w. tt)
    (λ store. goes-on known store credit (label_to still (assign_lost attributes target left)) label) lost
    (λ store. Idles refl refl) tt (λ store. Idles refl refl) tt
