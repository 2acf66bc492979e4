-- Why the parts of a request stop, by the trail that led there.
use Rattle.std.proofs.Common.{◌≡◌, inr, ℕ, zero, suc, ◌+◌, ◌<◌, ◌≤◌, Bool, true, false, cond, List, [], ◌∷◌, Option, Some, None, refl, ap, ◌∙◌, arith}
use Rattle.std.specs.Prelude.{nat_le}
use Rattle.std.specs.List.{count_by}
use Rattle.ipam_addr.specs.Shape.{CidrValue}
use Rattle.ipam_block.specs.declared.record.Affinity.{Affinity}
use Rattle.ipam_block.specs.declared.state.State.{State}
use Rattle.ipam_block.specs.declared.state.State.TheVariants.{Pending, Confirmed, PendingDeletion}
use Rattle.ipam_block.specs.declared.allocation.Attributes.{Attributes}
use Rattle.ipam_block.specs.Shape as block
use Rattle.ipam_block.specs.Operations.{block_with_ordinal, block_without, next_block}
use Rattle.ipam_block.specs.HandleShape as handle
use Rattle.ipam_block.specs.HandleOperations.{count_of, with_lowered_count, with_raised_count}
use Rattle.ipam_records.specs.declared.call.Call.{Call}
use Rattle.ipam_records.specs.declared.call.Call.TheVariants.{Get, Create, Update}
use Rattle.ipam_records.specs.declared.key.Key.TheVariants as key
use Rattle.ipam_records.specs.declared.record.Record.TheVariants as record_of
use Rattle.ipam_records.specs.Datastore.{Datastore, reply_of}
use Rattle.ipam_records.specs.Label.{Credit}
use Rattle.ipam_records.specs.Said.{Said, Can}
use Rattle.ipam_records.specs.Word.{Word, Ends}
use Rattle.ipam_model.specs.declared.outcome.ClaimAnswer.{ClaimAnswer}
use Rattle.ipam_model.specs.declared.outcome.ClaimAnswer.TheVariants as claimed
use Rattle.ipam_model.specs.declared.part.Assigned.{Assigned}
use Rattle.ipam_model.specs.declared.part.Left.{Left}
use Rattle.ipam_model.specs.declared.part.Outcome.{Outcome}
use Rattle.ipam_model.specs.declared.part.Outcome.TheVariants.{Went, Stops}
use Rattle.ipam_model.specs.declared.part.Stop.{Stop}
use Rattle.ipam_model.specs.declared.part.Stop.TheVariants.{OutOfTries, OutOfClaims, NoRoom, CountAtLimit, NoRevisions}
use Rattle.ipam_model.specs.declared.request.Request.{Request}
use Rattle.ipam_model.specs.Affinities.{BlockRead, affinity, claim, claim_block, claim_confirm, claim_found, claim_kept, claiming, on_claim_write}
use Rattle.ipam_model.specs.Assigning.{Target, after_claim, after_confirmed, assign, assign_block, assign_lost, claim_for}
use Rattle.ipam_model.specs.Cluster.{new_record}
use Rattle.ipam_model.specs.Counting.{FreedOfHandle, credit_of, free, free_found, free_once, free_these, lower, lower_once, lowering, most_count, raise, raise_once, raise_write, revision_said, written_or_deleted}
use Rattle.ipam_model.specs.Named.{name_of, told_of}
use Rattle.ipam_model.specs.Reads.{affinity_said, block_said, handle_said}
use Rattle.ipam_model.specs.Step.{Part, after_lost, part_then, goes, left_of, on_write, onward, stops, tries, write_back}
use Rattle.ipam_model.specs.Tries.{is_add, is_confirmation_of, is_race_lost, is_release, is_write}
use Rattle.ipam_laws.proofs.Losses.{CreatesNone, HasConfirmed, HasFull, HasLost, IsLeft, LastSpent, NoClaim, Stopped, any-left, back-new, back-writes, claims_in, claims-one, costs-none, done-left, lost_in, read-left, wrote}
use Rattle.ipam_laws.proofs.Trails.{Comes, Comes-bound, Did, Trail}

module _ (request : Request) (no_release : is_release request ≡ false) where
  -- ---- how parts end

  -- a part that goes on with what is left, or stops
  unfoldable pub PartEnds : {A : Type 0} → (bound : ℕ) → Trail → Outcome A → Type 0
  PartEnds bound trail (Went left a) = IsLeft request bound trail left
  PartEnds bound trail (Stops left why) = Stopped request trail left why

  -- a part that creates nothing
  unfoldable pub FreeEnds : {A : Type 0} → (bound : ℕ) → Trail → Outcome A → Type 0
  FreeEnds bound trail (Went left a) = IsLeft request bound trail left
  FreeEnds bound trail (Stops left NoRoom) = ⊥
  FreeEnds bound trail (Stops left (CountAtLimit moment)) = ⊥
  FreeEnds bound trail (Stops left why) = Stopped request trail left why

  pub free-stopped : (A : Type 0) (bound : ℕ) (trail : Trail) (left : Left) (why : Stop) → FreeEnds {A = A} bound trail (Stops left why) → Stopped request trail left why
  unfolding FreeEnds
  free-stopped A bound trail left OutOfTries h = h
  free-stopped A bound trail left OutOfClaims h = h
  free-stopped A bound trail left NoRoom h = absurd h
  free-stopped A bound trail left (CountAtLimit moment) h = absurd h
  free-stopped A bound trail left NoRevisions h = h

  -- what a part may come to: with each loss that was its last, and each write that found no revision
  pub record IsEnding {A : Type 0} (Q : Trail → Outcome A → Type 0) : Type 0 where
    pub tired : (trail : Trail) (left : Left) → Stopped request trail left OutOfTries → Q trail (Stops left OutOfTries)
    pub worn : (trail : Trail) (left : Left) → LastSpent trail → Q trail (Stops left NoRevisions)

  part-ending : {A : Type 0} → (bound : ℕ) → IsEnding (PartEnds {A = A} bound)
  unfolding PartEnds Stopped
  part-ending bound = record { tired = λ trail left h. h; worn = λ trail left h. h }

  free-ending : {A : Type 0} → (bound : ℕ) → IsEnding (FreeEnds {A = A} bound)
  unfolding FreeEnds Stopped
  free-ending bound = record { tired = λ trail left h. h; worn = λ trail left h. h }

  -- ---- lost races

  lost-out : {A : Type 0} → (Q : Trail → Outcome A → Type 0) → IsEnding Q → (bound claims : ℕ) (trail : Trail) → HasLost request bound trail (left_of zero claims) → Q trail (Stops (left_of zero claims) OutOfTries)
  unfolding Stopped
  lost-out Q ending bound claims trail h = ending.tired trail (left_of zero claims) (plain (lost_in request trail) h.lost, h.claims, h.last)
    where
      plain : (n : ℕ) → n + 0 ≡ 64 → n ≡ 64
      plain n e = omega (arith, e)

  lost-less : (bound races claims : ℕ) (trail : Trail) → HasLost request bound trail (left_of (suc races) claims) → IsLeft request (races + claims) trail (left_of races claims)
  lost-less bound races claims trail h = record { lost = less (lost_in request trail) h.lost; claims = h.claims; within = fits h.within }
    where
      less : (n : ℕ) → n + suc races ≡ 64 → n + races ≡ 63
      less n e = omega (arith, e)

      fits : suc races + claims ≤ bound → races + claims ≤ races + claims
      fits w = omega arith

  pub wider : (bound more : ℕ) (trail : Trail) (left : Left) → bound ≤ more → IsLeft request bound trail left → IsLeft request more trail left
  wider bound more trail left below h = let w = h.within in record { lost = h.lost; claims = h.claims; within = omega arith }

  -- a part that begins again
  abbrev pub Again : {A : Type 0} → (Trail → Outcome A → Type 0) → (bound : ℕ) → Left → Part A → Type 0
  Again Q bound left again = (trail : Trail) → HasLost request bound trail left → Comes Q trail again

  pub tries-come : {A : Type 0} → (Q : Trail → Outcome A → Type 0) → IsEnding Q → (try : Part A → Left → Part A) (bound : ℕ)
      → ((again : Part A) (left : Left) → Again Q bound left again → (trail : Trail) → IsLeft request bound trail left → Comes Q trail (try again left))
      → (races claims : ℕ) (trail : Trail) → IsLeft request bound trail (left_of races claims) → Comes Q trail (tries try races claims)
  unfolding tries
  tries-come Q ending try bound step zero claims trail h =
      step (stops (left_of zero claims) OutOfTries) (left_of zero claims) (λ longer lost. lost-out Q ending bound claims longer lost) trail h
  tries-come Q ending try bound step (suc races) claims trail h =
      step (tries try races claims) (left_of (suc races) claims)
      (λ longer lost. tries-come Q ending try bound step races claims longer (wider (races + claims) bound longer (left_of races claims) (fits lost.within) (lost-less bound races claims longer lost))) trail h
    where
      fits : suc races + claims ≤ bound → races + claims ≤ bound
      fits w = omega arith

  -- ---- writes

  -- a write of a part
  part-wrote : {A : Type 0} → (bound moment : ℕ) (store : Datastore) (asked : Call) (trail : Trail) (left : Left) (took : ℕ → Part A) (again : Part A) → is_write (name_of asked) ≡ true → NoClaim request asked → IsLeft request bound trail left
      → ((revision : ℕ) → reply_of store asked ≡ Can revision → IsLeft request bound (Did moment store asked ∷ trail) left → Comes (PartEnds bound) (Did moment store asked ∷ trail) (took revision))
      → Again (PartEnds bound) bound left again
      → Comes (PartEnds bound) (Did moment store asked ∷ trail) (on_write (reply_of store asked) left took again)
  unfolding PartEnds Stopped
  part-wrote bound moment store asked trail left took again w none h a b =
      wrote request (PartEnds bound) bound moment store asked trail left took again (stops left NoRoom) (stops left NoRevisions) w h
      (λ revision done. a revision done (done-left request bound moment store asked trail left revision w done none h))
      (λ lost. b (Did moment store asked ∷ trail) lost)
      (λ new is full k. (full, any-left request bound (Did moment store asked ∷ trail) left k)) (λ spent. spent)

  free-wrote : {A : Type 0} → (bound moment : ℕ) (store : Datastore) (asked : Call) (trail : Trail) (left : Left) (took : ℕ → Part A) (again : Part A) → is_write (name_of asked) ≡ true → NoClaim request asked → CreatesNone asked → IsLeft request bound trail left
      → ((revision : ℕ) → reply_of store asked ≡ Can revision → IsLeft request bound (Did moment store asked ∷ trail) left → Comes (FreeEnds bound) (Did moment store asked ∷ trail) (took revision))
      → Again (FreeEnds bound) bound left again
      → Comes (FreeEnds bound) (Did moment store asked ∷ trail) (on_write (reply_of store asked) left took again)
  unfolding FreeEnds Stopped
  free-wrote bound moment store asked trail left took again w none creates h a b =
      wrote request (FreeEnds bound) bound moment store asked trail left took again (stops left NoRoom) (stops left NoRevisions) w h
      (λ revision done. a revision done (done-left request bound moment store asked trail left revision w done none h))
      (λ lost. b (Did moment store asked ∷ trail) lost)
      (λ new is full k. absurd (creates new is)) (λ spent. spent)

  -- ---- parts after parts

  pub parts-follow : {A B : Type 0} → (Q : Trail → Outcome B → Type 0) → ((trail : Trail) (left : Left) (why : Stop) → Stopped request trail left why → Q trail (Stops left why)) → (bound : ℕ) (part : Part A) (follows : Left → A → Part B) (trail : Trail)
      → Comes (PartEnds bound) trail part → ((longer : Trail) (left : Left) (a : A) → IsLeft request bound longer left → Comes Q longer (follows left a)) → Comes Q trail (part_then part follows)
  unfolding PartEnds
  parts-follow {A} Q stopped bound part follows trail h k = Comes-bound (PartEnds bound) Q (onward follows) part trail h ends
    where
      ends : (longer : Trail) (outcome : Outcome A) → PartEnds bound longer outcome → Comes Q longer (onward follows outcome)
      ends longer (Went left a) e = k longer left a e
      ends longer (Stops left why) e = stopped longer left why e

  pub frees-follow : {A B : Type 0} → (Q : Trail → Outcome B → Type 0) → ((trail : Trail) (left : Left) (why : Stop) → FreeEnds {A = A} 0 trail (Stops left why) → Q trail (Stops left why)) → (bound : ℕ) (part : Part A) (follows : Left → A → Part B) (trail : Trail)
      → Comes (FreeEnds bound) trail part → ((longer : Trail) (left : Left) (a : A) → IsLeft request bound longer left → Comes Q longer (follows left a)) → Comes Q trail (part_then part follows)
  unfolding FreeEnds
  frees-follow {A} Q stopped bound part follows trail h k = Comes-bound (FreeEnds bound) Q (onward follows) part trail h ends
    where
      ends : (longer : Trail) (outcome : Outcome A) → FreeEnds bound longer outcome → Comes Q longer (onward follows outcome)
      ends longer (Went left a) e = k longer left a e
      ends longer (Stops left OutOfTries) e = stopped longer left OutOfTries e
      ends longer (Stops left OutOfClaims) e = stopped longer left OutOfClaims e
      ends longer (Stops left NoRoom) e = absurd e
      ends longer (Stops left (CountAtLimit moment)) e = absurd e
      ends longer (Stops left NoRevisions) e = stopped longer left NoRevisions e

  -- ---- counts

  raise-once : (id : List ℕ) (cidr : CidrValue) (bound : ℕ) (again : Part (Unit {0})) (left : Left) → Again (PartEnds bound) bound left again → (trail : Trail) → IsLeft request bound trail left → Comes (PartEnds bound) trail (raise_once id cidr again left)
  unfolding PartEnds Stopped
  raise-once id cidr bound again left h trail l = λ moment store agrees.
      by moment store (nat_le most_count (count_of (handle_said id (reply_of store (Get (key.Handle id)))) cidr)) (read-left request no_release bound moment store (Get (key.Handle id)) trail left refl (inr refl) l)
    where
      by : (moment : ℕ) (store : Datastore) (b : Bool) → IsLeft request bound (Did moment store (Get (key.Handle id)) ∷ trail) left → Comes (PartEnds bound) (Did moment store (Get (key.Handle id)) ∷ trail)
          (cond b (stops left (CountAtLimit moment)) (raise_write id cidr again left (reply_of store (Get (key.Handle id)))))
      by moment store true k = any-left request bound (Did moment store (Get (key.Handle id)) ∷ trail) left k
      by moment store false k = λ second other agrees.
          let said = reply_of store (Get (key.Handle id)) in
          let new = record_of.Handle (with_raised_count (handle_said id said) cidr 1) in
          part-wrote bound second other (write_back said new) (Did moment store (Get (key.Handle id)) ∷ trail) left (λ revision. goes left tt) again (back-writes said new) (inr (ap is_confirmation_of (back-new said new))) k
          (λ revision done m. m) h

  raise-comes : (id : List ℕ) (cidr : CidrValue) (bound : ℕ) (left : Left) (trail : Trail) → IsLeft request bound trail left → Comes (PartEnds bound) trail (raise id cidr left)
  raise-comes id cidr bound left trail h = tries-come (PartEnds bound) (part-ending bound) (raise_once id cidr) bound (λ again now k longer l. raise-once id cidr bound again now k longer l) left.races left.claims trail h

  lowering-shape : (h : handle.HandleValue) (counts : List (CidrValue × ℕ)) (revision : ℕ) → (is_write (name_of (written_or_deleted h counts revision)) ≡ true) × (is_confirmation_of (new_record (written_or_deleted h counts revision)) ≡ false) × CreatesNone (written_or_deleted h counts revision)
  lowering-shape h [] revision = (refl, refl, λ new e. cc e)
  lowering-shape h (count ∷ counts) revision = (refl, refl, λ new e. cc e)

  lower-once : (credit : Credit) (bound : ℕ) (again : Part (Unit {0})) (left : Left) → Again (FreeEnds bound) bound left again → (trail : Trail) → IsLeft request bound trail left → Comes (FreeEnds bound) trail (lower_once credit again left)
  unfolding FreeEnds
  lower-once credit bound again left h trail l = λ moment store agrees second other agrees_then.
      let asked = Get (key.Handle credit.handle) in
      let said = reply_of store asked in
      let less = with_lowered_count (handle_said credit.handle said) credit.block credit.amount in
      let (w, none, creates) = lowering-shape less less.counts (revision_said said) in
      free-wrote bound second other (lowering less (revision_said said)) (Did moment store asked ∷ trail) left (λ revision. goes left tt) again w (inr none) creates
      (read-left request no_release bound moment store asked trail left refl (inr refl) l) (λ revision done m. m) h

  pub lower-comes : (credit : Credit) (bound : ℕ) (left : Left) (trail : Trail) → IsLeft request bound trail left → Comes (FreeEnds bound) trail (lower credit left)
  lower-comes credit bound left trail h = tries-come (FreeEnds bound) (free-ending bound) (lower_once credit) bound (λ again now k longer l. lower-once credit bound again now k longer l) left.races left.claims trail h

  -- ---- freeing

  free-these : (what : FreedOfHandle) (bound : ℕ) (again : Part ℕ) (left : Left) (amount : ℕ) (found : ℕ × block.BlockValue) → Again (FreeEnds bound) bound left again → (trail : Trail) → IsLeft request bound trail left → Comes (FreeEnds bound) trail (free_these what again left amount found)
  unfolding FreeEnds
  free-these what bound again left zero found h trail l = l
  free-these what bound again left (suc more) found h trail l = λ moment store agrees.
      let asked = Update (record_of.Block (block_without what.picks (next_block found.1))) found.0 in
      free-wrote bound moment store asked trail left (λ taken. part_then (lower (credit_of what.handle what.block (suc more)) left) (λ now done. goes now (suc more))) again refl (inr refl) (λ new e. cc e) l
      (λ revision done m. frees-follow (FreeEnds bound) (λ longer now why e. stopped longer now why e) bound (lower (credit_of what.handle what.block (suc more)) left) (λ now tt. goes now (suc more)) (Did moment store asked ∷ trail)
      (lower-comes (credit_of what.handle what.block (suc more)) bound left (Did moment store asked ∷ trail) m) (λ longer now unit k. k)) h
    where
      stopped : (longer : Trail) (now : Left) (why : Stop) → FreeEnds {A = Unit {0}} 0 longer (Stops now why) → FreeEnds {A = ℕ} bound longer (Stops now why)
      stopped longer now OutOfTries e = e
      stopped longer now OutOfClaims e = e
      stopped longer now NoRoom e = e
      stopped longer now (CountAtLimit moment) e = e
      stopped longer now NoRevisions e = e

  free-once : (what : FreedOfHandle) (bound : ℕ) (again : Part ℕ) (left : Left) → Again (FreeEnds bound) bound left again → (trail : Trail) → IsLeft request bound trail left → Comes (FreeEnds bound) trail (free_once what again left)
  unfolding FreeEnds
  free-once what bound again left h trail l = λ moment store agrees.
      by (Did moment store (Get (key.Block what.block)) ∷ trail) (block_said (reply_of store (Get (key.Block what.block)))) (read-left request no_release bound moment store (Get (key.Block what.block)) trail left refl (inr refl) l)
    where
      by : (longer : Trail) (read : BlockRead) → IsLeft request bound longer left → Comes (FreeEnds bound) longer (free_found what again left read)
      by longer None k = k
      by longer (Some found) k = free-these what bound again left (count_by what.picks found.1.allocations) found h longer k

  pub free-comes : (what : FreedOfHandle) (bound : ℕ) (left : Left) (trail : Trail) → IsLeft request bound trail left → Comes (FreeEnds bound) trail (free what left)
  free-comes what bound left trail h = tries-come (FreeEnds bound) (free-ending bound) (free_once what) bound (λ again now k longer l. free-once what bound again now k longer l) left.races left.claims trail h

  -- ---- assigning

  -- an address was assigned, or less is left
  unfoldable pub AssignEnds : (bound : ℕ) → Trail → Outcome (Option Assigned) → Type 0
  AssignEnds bound trail (Went left (Some done)) = IsLeft request bound trail left
  AssignEnds bound trail (Went left None) = IsLeft request bound trail left × (left.races + left.claims < bound)
  AssignEnds bound trail (Stops left why) = Stopped request trail left why

  assign-lost : (attributes : Attributes) (target : Target) (bound races claims : ℕ) (trail : Trail) → HasLost request bound trail (left_of races claims)
      → Comes (AssignEnds bound) trail (after_lost races claims (λ less. part_then (lower (credit_of attributes.handle target.block.cidr 1) less) (λ now done. goes now None)))
  unfolding AssignEnds Stopped
  assign-lost attributes target bound zero claims trail h = lost-out (AssignEnds bound) (record { tired = λ t left e. e; worn = λ t left e. e }) bound claims trail h
  assign-lost attributes target bound (suc races) claims trail h =
      frees-follow (AssignEnds bound) (λ longer now why e. free-stopped (Unit {0}) 0 longer now why e) (races + claims) (lower (credit_of attributes.handle target.block.cidr 1) (left_of races claims)) (λ now done. goes now None) trail
      (lower-comes (credit_of attributes.handle target.block.cidr 1) (races + claims) (left_of races claims) trail (lost-less bound races claims trail h))
      (λ longer now unit k. (wider (races + claims) bound longer now (fits h.within) k, below (now.races + now.claims) h.within k.within))
    where
      fits : suc races + claims ≤ bound → races + claims ≤ bound
      fits w = omega arith

      below : (n : ℕ) → suc races + claims ≤ bound → n ≤ races + claims → n < bound
      below n w v = omega arith

  assign-block : (attributes : Attributes) (target : Target) (bound : ℕ) (left : Left) (trail : Trail) → IsLeft request bound trail left → Comes (AssignEnds bound) trail (assign_block attributes target left)
  unfolding AssignEnds Stopped
  assign-block attributes target bound left trail h = λ moment store agrees.
      let asked = Update (record_of.Block (block_with_ordinal (next_block target.block) target.ordinal attributes)) target.revision in
      wrote request (AssignEnds bound) bound moment store asked trail left (λ taken. goes left (Some (record { moment = moment; stamp = target.block.sequence + 1 }))) (assign_lost attributes target left) (stops left NoRoom) (stops left NoRevisions) refl h
      (λ revision done. done-left request bound moment store asked trail left revision refl done (inr refl) h)
      (λ lost. assign-lost attributes target bound left.races left.claims (Did moment store asked ∷ trail) lost)
      (λ new is full k. absurd (cc is)) (λ spent. spent)

  pub assign-comes : (attributes : Attributes) (target : Target) (bound : ℕ) (left : Left) (trail : Trail) → IsLeft request bound trail left → Comes (AssignEnds bound) trail (assign attributes target left)
  unfolding AssignEnds
  assign-comes attributes target bound left trail h =
      parts-follow (AssignEnds bound) (λ longer now why e. e) bound (raise attributes.handle target.block.cidr left) (λ now done. assign_block attributes target now) trail
      (raise-comes attributes.handle target.block.cidr bound left trail h) (λ longer now unit k. assign-block attributes target bound now longer k)

  -- ---- claims, of an ADD

  module _ (adds : is_add request ≡ true) where
    unfoldable ClaimEnds : (bound : ℕ) → Left → Trail → ClaimAnswer → Type 0
    ClaimEnds bound left trail claimed.Confirmed = HasConfirmed request bound trail left
    ClaimEnds bound left trail claimed.Lost = HasLost request bound trail left
    ClaimEnds bound left trail claimed.Full = HasFull trail × IsLeft request 126 trail left
    ClaimEnds bound left trail claimed.Spent = LastSpent trail

    claim-wrote : (bound moment : ℕ) (store : Datastore) (asked : Call) (trail : Trail) (left : Left) (took : ℕ → Word ClaimAnswer) → is_write (name_of asked) ≡ true → IsLeft request bound trail left
        → ((revision : ℕ) → reply_of store asked ≡ Can revision → Comes (ClaimEnds bound left) (Did moment store asked ∷ trail) (took revision))
        → Comes (ClaimEnds bound left) (Did moment store asked ∷ trail) (on_claim_write (reply_of store asked) took)
    unfolding ClaimEnds
    claim-wrote bound moment store asked trail left took w h a =
        wrote request (ClaimEnds bound left) bound moment store asked trail left took (Ends claimed.Lost) (Ends claimed.Full) (Ends claimed.Spent) w h a (λ lost. lost) (λ new is full k. (full, any-left request bound (Did moment store asked ∷ trail) left k)) (λ spent. spent)

    claim-confirm : (node : List ℕ) (cidr : CidrValue) (kept bound : ℕ) (left : Left) (trail : Trail) → IsLeft request bound trail left → Comes (ClaimEnds bound left) trail (claim_confirm node cidr kept)
    unfolding ClaimEnds
    claim-confirm node cidr kept bound left trail h = λ moment store agrees.
        let asked = Update (record_of.Affinity (affinity node cidr Confirmed)) kept in
        claim-wrote bound moment store asked trail left (λ revision. Ends claimed.Confirmed) refl h
        (λ revision done.
        let claims = claims-one request moment store asked trail revision adds refl done in
        let lost = costs-none request moment store asked trail (ap (λ (said : Said). is_race_lost (told_of said)) done) in
        record {
          lost = ap (λ (n : ℕ). n + left.races) lost ∙ h.lost;
          claims = more (claims_in request (Did moment store asked ∷ trail)) (claims_in request trail) claims h.claims;
          within = h.within;
          last = record { moment = moment; store = store; asked = asked; before = trail; is = refl; one_more = swap (claims_in request (Did moment store asked ∷ trail)) (claims_in request trail) claims };
        })
      where
        more : (n m : ℕ) → n ≡ 1 + m → m + left.claims ≡ 63 → n + left.claims ≡ 64
        more n m e f = omega (arith, e, f)

        swap : (n m : ℕ) → n ≡ 1 + m → m + 1 ≡ n
        swap n m e = omega (arith, e)

    claim-block : (node : List ℕ) (cidr : CidrValue) (read : BlockRead) (kept bound : ℕ) (left : Left) (trail : Trail) → IsLeft request bound trail left → Comes (ClaimEnds bound left) trail (claim_block node cidr read kept)
    claim-block node cidr read kept bound left trail h = λ moment store agrees.
        let asked = claiming node cidr read in
        let (w, none) = shape read in
        claim-wrote bound moment store asked trail left (λ revision. claim_confirm node cidr kept) w h
        (λ revision done. claim-confirm node cidr kept bound left (Did moment store asked ∷ trail) (done-left request bound moment store asked trail left revision w done (inr none) h))
      where
        shape : (read : BlockRead) → (is_write (name_of (claiming node cidr read)) ≡ true) × (is_confirmation_of (new_record (claiming node cidr read)) ≡ false)
        shape None = (refl, refl)
        shape (Some found) = (refl, refl)

    claim-kept : (node : List ℕ) (cidr : CidrValue) (read : BlockRead) (revision : ℕ) (state : State) (bound : ℕ) (left : Left) (trail : Trail) → IsLeft request bound trail left → Comes (ClaimEnds bound left) trail (claim_kept node cidr read revision state)
    claim-kept node cidr read revision Pending bound left trail h = claim-block node cidr read revision bound left trail h
    claim-kept node cidr read revision Confirmed bound left trail h = claim-block node cidr read revision bound left trail h
    claim-kept node cidr read revision PendingDeletion bound left trail h = λ moment store agrees.
        let asked = Update (record_of.Affinity (affinity node cidr Pending)) revision in
        claim-wrote bound moment store asked trail left (claim_block node cidr read) refl h
        (λ kept done. claim-block node cidr read kept bound left (Did moment store asked ∷ trail) (done-left request bound moment store asked trail left kept refl done (inr refl) h))

    claim-found : (node : List ℕ) (cidr : CidrValue) (read : BlockRead) (found : Option (ℕ × Affinity)) (bound : ℕ) (left : Left) (trail : Trail) → IsLeft request bound trail left → Comes (ClaimEnds bound left) trail (claim_found node cidr read found)
    claim-found node cidr read (Some found) bound left trail h = claim-kept node cidr read found.0 found.1.state bound left trail h
    claim-found node cidr read None bound left trail h = λ moment store agrees.
        let asked = Create (record_of.Affinity (affinity node cidr Pending)) in
        claim-wrote bound moment store asked trail left (claim_block node cidr read) refl h
        (λ kept done. claim-block node cidr read kept bound left (Did moment store asked ∷ trail) (done-left request bound moment store asked trail left kept refl done (inr refl) h))

    claim-comes : (node : List ℕ) (cidr : CidrValue) (read : BlockRead) (bound : ℕ) (left : Left) (trail : Trail) → IsLeft request bound trail left → Comes (ClaimEnds bound left) trail (claim node cidr read)
    unfolding claim
    claim-comes node cidr read bound left trail h = λ moment store agrees.
        let asked = Get (key.Affinity node cidr) in
        claim-found node cidr read (affinity_said (reply_of store asked)) bound left (Did moment store asked ∷ trail) (read-left request no_release bound moment store asked trail left refl (inr refl) h)

    -- a claim leaves less
    unfoldable pub ClaimedEnds : (bound : ℕ) → Trail → Outcome (Unit {0}) → Type 0
    ClaimedEnds bound trail (Went left a) = IsLeft request bound trail left × (left.races + left.claims < bound)
    ClaimedEnds bound trail (Stops left why) = Stopped request trail left why

    after-lost : (bound races claims : ℕ) (trail : Trail) → HasLost request bound trail (left_of races claims) → Comes (ClaimedEnds bound) trail (after_lost races claims (λ less. goes {A = Unit {0}} less tt))
    unfolding ClaimedEnds Stopped
    after-lost bound zero claims trail h = lost-out (ClaimedEnds bound) (record { tired = λ t left e. e; worn = λ t left e. e }) bound claims trail h
    after-lost bound (suc races) claims trail h = (wider (races + claims) bound trail (left_of races claims) (fits h.within) (lost-less bound races claims trail h), below h.within)
      where
        fits : suc races + claims ≤ bound → races + claims ≤ bound
        fits w = omega arith

        below : suc races + claims ≤ bound → races + claims < bound
        below w = omega arith

    after-confirmed : (bound races claims : ℕ) (trail : Trail) → HasConfirmed request bound trail (left_of races claims) → Comes (ClaimedEnds bound) trail (after_confirmed races claims)
    unfolding ClaimedEnds Stopped
    after-confirmed bound races zero trail h = (plain (claims_in request trail) h.claims, h.lost, h.last)
      where
        plain : (n : ℕ) → n + 0 ≡ 64 → n ≡ 64
        plain n e = omega (arith, e)
    after-confirmed bound races (suc claims) trail h = (record { lost = h.lost; claims = less (claims_in request trail) h.claims; within = fits h.within }, below h.within)
      where
        less : (n : ℕ) → n + suc claims ≡ 64 → n + claims ≡ 63
        less n e = omega (arith, e)

        fits : races + suc claims ≤ bound → races + claims ≤ bound
        fits w = omega arith

        below : races + suc claims ≤ bound → races + claims < bound
        below w = omega arith

    pub claim-for : (node : List ℕ) (cidr : CidrValue) (read : BlockRead) (bound : ℕ) (left : Left) (trail : Trail) → IsLeft request bound trail left → Comes (ClaimedEnds bound) trail (claim_for node cidr read left)
    unfolding ClaimEnds ClaimedEnds Stopped
    claim-for node cidr read bound left trail h = Comes-bound (ClaimEnds bound left) (ClaimedEnds bound) (after_claim left) (claim node cidr read) trail (claim-comes node cidr read bound left trail h) ends
      where
        ends : (longer : Trail) (answer : ClaimAnswer) → ClaimEnds bound left longer answer → Comes (ClaimedEnds bound) longer (after_claim left answer)
        ends longer claimed.Confirmed k = after-confirmed bound left.races left.claims longer k
        ends longer claimed.Lost k = after-lost bound left.races left.claims longer k
        ends longer claimed.Full k = k
        ends longer claimed.Spent k = k
