-- The parts of a request that runs alone lose no race.
use Rattle.std.proofs.Common.{◌≡◌, ◌≢◌, ℕ, zero, suc, ◌+◌, ◌<◌, Bool, true, false, cond, List, [], ◌∷◌, Option, Some, None, refl, sym, ap, ◌∙◌, subst, arith}
use Rattle.std.specs.Prelude.{nat_le}
use Rattle.std.specs.List.{count_by}
use Rattle.ipam_addr.specs.Shape.{CidrValue}
use Rattle.ipam_block.specs.declared.state.State.{State}
use Rattle.ipam_block.specs.declared.state.State.TheVariants.{Pending, Confirmed, PendingDeletion}
use Rattle.ipam_block.specs.declared.allocation.Attributes.{Attributes}
use Rattle.ipam_block.specs.Shape.{BlockValue}
use Rattle.ipam_block.specs.Operations.{block_with_ordinal, block_without, next_block}
use Rattle.ipam_block.specs.HandleOperations.{count_of, with_lowered_count, with_raised_count}
use Rattle.ipam_block.specs.HandleShape.{HandleValue}
use Rattle.ipam_records.specs.declared.call.Call.{Call}
use Rattle.ipam_records.specs.declared.call.Call.TheVariants.{Get, Create, Update, Delete}
use Rattle.ipam_records.specs.declared.key.Key.{Key}
use Rattle.ipam_records.specs.declared.key.Key.TheVariants as key
use Rattle.ipam_records.specs.declared.record.Record.{Record}
use Rattle.ipam_records.specs.declared.record.Record.TheVariants as record_of
use Rattle.ipam_records.specs.Datastore.{Datastore, reply_of, reply_to_get, row_of}
use Rattle.ipam_records.specs.Key.{key_of}
use Rattle.ipam_records.specs.Label.{Credit, idle, owing}
use Rattle.ipam_records.specs.Said.{Said, Found, Can}
use Rattle.ipam_records.specs.Word.{Asks, Ends}
use Rattle.ipam_model.specs.declared.outcome.ClaimAnswer.{ClaimAnswer}
use Rattle.ipam_model.specs.declared.outcome.ClaimAnswer.TheVariants as claimed
use Rattle.ipam_model.specs.declared.part.Assigned.{Assigned}
use Rattle.ipam_model.specs.declared.part.Left.{Left}
use Rattle.ipam_model.specs.declared.part.Outcome.{Outcome}
use Rattle.ipam_model.specs.declared.part.Outcome.TheVariants.{Went, Stops}
use Rattle.ipam_model.specs.declared.part.Stop.{Stop}
use Rattle.ipam_model.specs.declared.part.Stop.TheVariants.{OutOfTries, OutOfClaims, NoRoom, CountAtLimit, NoRevisions}
use Rattle.ipam_model.specs.Affinities.{BlockRead, affinity, claim, claim_block, claim_confirm, claim_found, claim_kept, claiming, on_claim_write}
use Rattle.ipam_model.specs.AffinityLaw.{HasAt}
use Rattle.ipam_model.specs.Assigning.{Target, after_claim, assign, assign_block, assign_lost, claim_for}
use Rattle.ipam_model.specs.CountLaw.{count_in_row, handle_count}
use Rattle.ipam_model.specs.Counting.{FreedOfHandle, credit_of, free, free_found, free_once, free_these, lower, lower_once, lowering, most_count, raise, raise_once, raise_write, revision_said, written_or_deleted}
use Rattle.ipam_model.specs.Reads.{affinity_said, block_said, handle_said}
use Rattle.ipam_model.specs.Step.{Part, part_then, goes, left_of, on_write, onward, stops, tries, write_back}
use Rattle.ipam_laws.proofs.ActParts.{assigning_call, freeing_call}
use Rattle.ipam_laws.proofs.AloneCalls.{Good, IsUnlost, Runs, Runs-bound, create-unlost, delete-unlost, runs-get, unlost-runs, update-unlost}
use Rattle.ipam_laws.proofs.Calls.{found-block, found-handle, found-key}
use Rattle.ipam_laws.proofs.CountSteps.{owed-own, put-other, put-own}
use Rattle.ipam_laws.proofs.DebtCalls.{Puts, back-puts, create-puts, update-puts}
use Rattle.ipam_laws.proofs.Lift.{behind}
use Rattle.ipam_laws.proofs.SaysWords.{IsSetting}
use Rattle.ipam_laws.proofs.Steps.{IsAsRead, taken}
use Rattle.ipam_laws.proofs.WriteSteps.{found-affinity}

-- ---- rows after a write

pub put-there : (store : Datastore) (asked : Call) (new : Record) (r : ℕ) → Puts asked new → reply_of store asked ≡ Can r → HasAt (behind store asked) (key_of new) r new
put-there store asked new r puts e = ap (λ (s : Datastore). row_of (key_of new) s.rows) (puts.puts store r e) ∙ put-own store r new

pub put-keeps : (store : Datastore) (asked : Call) (new : Record) (r : ℕ) → Puts asked new → reply_of store asked ≡ Can r → (k : Key) → key_of new ≢ k → row_of k (behind store asked).rows ≡ row_of k store.rows
put-keeps store asked new r puts e k other = ap (λ (s : Datastore). row_of k s.rows) (puts.puts store r e) ∙ put-other store r new k other

-- what is written back as it was read is not lost
pub back-unlost : (store : Datastore) (k : Key) (new : Record) → key_of new ≡ k → IsUnlost (reply_of store (write_back (reply_of store (Get k)) new))
back-unlost store k new same = by (row_of k store.rows) refl
  where
    by : (o : Option (ℕ × Record)) → row_of k store.rows ≡ o → IsUnlost (reply_of store (write_back (reply_to_get o) new))
    by None e = create-unlost store new (subst (λ (x : Key). row_of x store.rows ≡ None) (sym same) e)
    by (Some row) e = update-unlost store new row.1 row.0 (subst (λ (x : Key). HasAt store x row.0 row.1) (sym same) e)

-- a block that was just read is as it was read
pub found-as_read : (store : Datastore) (cidr : CidrValue) → IsAsRead store cidr (block_said (reply_of store (Get (key.Block cidr))))
found-as_read store cidr = by (row_of (key.Block cidr) store.rows) refl
  where
    by : (o : Option (ℕ × Record)) → row_of (key.Block cidr) store.rows ≡ o → IsAsRead store cidr (block_said (reply_to_get o))
    by None e = e
    by (Some row) e =
        let (b, is, same) = found-block cidr row.1 (found-key store (key.Block cidr) row.0 row.1 e) in
        let there : HasAt store (key.Block cidr) row.0 (record_of.Block b) = e ∙ ap (λ (x : Record). Some (row.0, x)) is in
        subst (λ (x : Record). IsAsRead store cidr (block_said (Found row.0 x))) (sym is) (same, there)

-- ---- what a part comes to

-- the request stopped for want of something, and not since it was tried too often
abbrev pub IsWant : Stop → Type 0
IsWant OutOfTries = ⊥
IsWant OutOfClaims = ⊥
IsWant NoRoom = Unit {0}
IsWant (CountAtLimit moment) = Unit {0}
IsWant NoRevisions = Unit {0}

-- no race was lost, and no claim made
abbrev pub Unlost : {A : Type 0} → Left → Datastore → Outcome A → Type 0
Unlost left then (Went now value) = now ≡ left
Unlost left then (Stops now why) = IsWant why

abbrev pub KeepsBlocks : Datastore → Datastore → Type 0
KeepsBlocks store then = (cidr : CidrValue) → row_of (key.Block cidr) then.rows ≡ row_of (key.Block cidr) store.rows

abbrev RaiseEnds : Left → Datastore → Datastore → Outcome (Unit {0}) → Type 0
RaiseEnds left store then (Went now value) = (now ≡ left) × KeepsBlocks store then
RaiseEnds left store then (Stops now why) = IsWant why

abbrev pub AssignEnds : Left → Datastore → Outcome (Option Assigned) → Type 0
AssignEnds left then (Went now (Some done)) = now ≡ left
AssignEnds left then (Went now None) = ⊥
AssignEnds left then (Stops now why) = IsWant why

-- a handle whose count covers a credit is there
pub handle-there : (credit : Credit) (store : Datastore) → 0 < credit.amount → Good (owing credit) store → (revision : ℕ) × (h : HandleValue) × HasAt store (key.Handle credit.handle) revision (record_of.Handle h) × (h.id ≡ credit.handle)
handle-there credit store some good = by (row_of (key.Handle credit.handle) store.rows) refl
  where
    by : (o : Option (ℕ × Record)) → row_of (key.Handle credit.handle) store.rows ≡ o → (revision : ℕ) × (h : HandleValue) × HasAt store (key.Handle credit.handle) revision (record_of.Handle h) × (h.id ≡ credit.handle)
    by None e =
        let none : handle_count store credit.handle credit.block ≡ 0 = ap (count_in_row credit.handle credit.block) e in
        let least = good.covers credit.handle credit.block in
        let own = owed-own credit in
        absurd (omega arith)
    by (Some row) e =
        let (h, is, same) = found-handle credit.handle row.1 (found-key store (key.Handle credit.handle) row.0 row.1 e) in
        (row.0, h, e ∙ ap (λ (x : Record). Some (row.0, x)) is, same)

module _ (live : List (List ℕ)) where
  -- ---- raising

  raise-once : (id : List ℕ) (cidr : CidrValue) (again : Part (Unit {0})) (left : Left) (store : Datastore) (moment : ℕ) → Runs live (RaiseEnds left store) store moment (raise_once id cidr again left)
  raise-once id cidr again left store moment =
      runs-get live (RaiseEnds left store) store moment idle (key.Handle id) (λ at said. cond (nat_le most_count (count_of (handle_said id said) cidr)) (stops left (CountAtLimit at)) (raise_write id cidr again left said))
      (λ good. by (nat_le most_count (count_of (handle_said id (reply_of store (Get (key.Handle id)))) cidr)))
    where
      own : (handle_said id (reply_of store (Get (key.Handle id)))).id ≡ id
      own = from (row_of (key.Handle id) store.rows) refl
        where
          from : (o : Option (ℕ × Record)) → row_of (key.Handle id) store.rows ≡ o → (handle_said id (reply_to_get o)).id ≡ id
          from None e = refl
          from (Some row) e =
              let (h, is, same) = found-handle id row.1 (found-key store (key.Handle id) row.0 row.1 e) in
              ap (λ (x : Record). (handle_said id (Found row.0 x)).id) is ∙ same

      by : (b : Bool) → Runs live (RaiseEnds left store) store (moment + 1) (cond b (stops left (CountAtLimit moment)) (raise_write id cidr again left (reply_of store (Get (key.Handle id)))))
      by true = tt
      by false = λ good.
          let said = reply_of store (Get (key.Handle id)) in
          let new = record_of.Handle (with_raised_count (handle_said id said) cidr 1) in
          let asked = write_back said new in
          unlost-runs live (RaiseEnds left store) (behind store asked) (moment + 1 + 1) (reply_of store asked) (λ revision. goes left tt) again (stops left NoRoom) (stops left NoRevisions)
          (back-unlost store (key.Handle id) new (ap key.Handle own))
          (λ r e. (refl, λ c. put-keeps store asked new r (back-puts said new) e (key.Block c) (λ f. cc f))) tt tt

  raise-runs : (id : List ℕ) (cidr : CidrValue) (races claims : ℕ) (store : Datastore) (moment : ℕ) → Runs live (RaiseEnds (left_of races claims) store) store moment (tries (raise_once id cidr) races claims)
  unfolding tries
  raise-runs id cidr zero claims store moment = raise-once id cidr (stops (left_of zero claims) OutOfTries) (left_of zero claims) store moment
  raise-runs id cidr (suc races) claims store moment = raise-once id cidr (tries (raise_once id cidr) races claims) (left_of (suc races) claims) store moment

  -- ---- assigning

  pub assign-runs : (attributes : Attributes) (target : Target) (left : Left) (store : Datastore) (moment : ℕ) → HasAt store (key.Block target.block.cidr) target.revision (record_of.Block target.block) → Runs live (AssignEnds left) store moment (assign attributes target left)
  assign-runs attributes target left store moment there =
      Runs-bound live (RaiseEnds left store) (AssignEnds left) (onward (λ now done. assign_block attributes target now)) (raise attributes.handle target.block.cidr left) store moment
      (raise-runs attributes.handle target.block.cidr left.races left.claims store moment) ends
    where
      ends : (then : Datastore) (later : ℕ) (outcome : Outcome (Unit {0})) → RaiseEnds left store then outcome → Runs live (AssignEnds left) then later (onward (λ now done. assign_block attributes target now) outcome)
      ends then later (Stops now why) k = k
      ends then later (Went now done) k = λ good.
          let new = record_of.Block (block_with_ordinal (next_block target.block) target.ordinal attributes) in
          let asked = assigning_call attributes target in
          unlost-runs live (AssignEnds left) (behind then asked) (later + 1) (reply_of then asked) (λ taken. goes now (Some (record { moment = later; stamp = target.block.sequence + 1 }))) (assign_lost attributes target now) (stops now NoRoom) (stops now NoRevisions)
          (update-unlost then new (record_of.Block target.block) target.revision (k.1 target.block.cidr ∙ there)) (λ r e. k.0) tt tt

  -- ---- lowering

  lower-write : (credit : Credit) (again : Part (Unit {0})) (left : Left) (store : Datastore) (moment revision : ℕ) (h : HandleValue) → HasAt store (key.Handle credit.handle) revision (record_of.Handle h) → h.id ≡ credit.handle → (counts : List (CidrValue × ℕ))
      → Runs live (Unlost left) store moment (Asks (owing credit) (written_or_deleted (with_lowered_count h credit.block credit.amount) counts revision) (λ at reply. on_write reply left (λ taken. goes left tt) again))
  lower-write credit again left store moment revision h there own [] = λ good.
      let asked = Delete (key.Handle h.id) revision in
      unlost-runs live (Unlost left) (behind store asked) (moment + 1) (reply_of store asked) (λ taken. goes left tt) again (stops left NoRoom) (stops left NoRevisions)
      (delete-unlost store (key.Handle h.id) (record_of.Handle h) revision (subst (λ (i : List ℕ). HasAt store (key.Handle i) revision (record_of.Handle h)) (sym own) there)) (λ r e. refl) tt tt
  lower-write credit again left store moment revision h there own (count ∷ counts) = λ good.
      let new = record_of.Handle (with_lowered_count h credit.block credit.amount) in
      let asked = Update new revision in
      unlost-runs live (Unlost left) (behind store asked) (moment + 1) (reply_of store asked) (λ taken. goes left tt) again (stops left NoRoom) (stops left NoRevisions)
      (update-unlost store new (record_of.Handle h) revision (subst (λ (i : List ℕ). HasAt store (key.Handle i) revision (record_of.Handle h)) (sym own) there)) (λ r e. refl) tt tt

  lower-once : (credit : Credit) (again : Part (Unit {0})) (left : Left) (store : Datastore) (moment : ℕ) → 0 < credit.amount → Runs live (Unlost left) store moment (lower_once credit again left)
  lower-once credit again left store moment some =
      runs-get live (Unlost left) store moment (owing credit) (key.Handle credit.handle)
      (λ at said. Asks (owing credit) (lowering (with_lowered_count (handle_said credit.handle said) credit.block credit.amount) (revision_said said)) (λ second reply. on_write reply left (λ taken. goes left tt) again))
      (λ good.
      let (revision, h, there, own) = handle-there credit store some good in
      let P : Said → Type 0 = λ said. Runs live (Unlost left) store (moment + 1) (Asks (owing credit) (lowering (with_lowered_count (handle_said credit.handle said) credit.block credit.amount) (revision_said said)) (λ second reply. on_write reply left (λ taken. goes left tt) again)) in
      let found : P (Found revision (record_of.Handle h)) = lower-write credit again left store (moment + 1) revision h there own (with_lowered_count h credit.block credit.amount).counts in
      subst P (sym (ap reply_to_get there)) found)

  lower-runs : (credit : Credit) (races claims : ℕ) (store : Datastore) (moment : ℕ) → 0 < credit.amount → Runs live (Unlost (left_of races claims)) store moment (tries (lower_once credit) races claims)
  unfolding tries
  lower-runs credit zero claims store moment some = lower-once credit (stops (left_of zero claims) OutOfTries) (left_of zero claims) store moment some
  lower-runs credit (suc races) claims store moment some = lower-once credit (tries (lower_once credit) races claims) (left_of (suc races) claims) store moment some

  -- ---- freeing

  free-these : (what : FreedOfHandle) (again : Part ℕ) (left : Left) (store : Datastore) (moment amount : ℕ) (found : ℕ × BlockValue) → HasAt store (key.Block found.1.cidr) found.0 (record_of.Block found.1) → Runs live (Unlost left) store moment (free_these what again left amount found)
  free-these what again left store moment zero found there = refl
  free-these what again left store moment (suc more) found there = λ good.
      let new = record_of.Block (block_without what.picks (next_block found.1)) in
      let asked = freeing_call what found.1 found.0 in
      let credit = credit_of what.handle what.block (suc more) in
      unlost-runs live (Unlost left) (behind store asked) (moment + 1) (reply_of store asked) (λ taken. part_then (lower credit left) (λ now done. goes now (suc more))) again (stops left NoRoom) (stops left NoRevisions)
      (update-unlost store new (record_of.Block found.1) found.0 there)
      (λ r e. Runs-bound live (Unlost left) (Unlost left) (onward (λ now done. goes now (suc more))) (lower credit left) (behind store asked) (moment + 1)
      (lower-runs credit left.races left.claims (behind store asked) (moment + 1) (omega arith)) ends)
      tt tt
    where
      ends : (then : Datastore) (later : ℕ) (outcome : Outcome (Unit {0})) → Unlost left then outcome → Runs live (Unlost left) then later (onward (λ now done. goes now (suc more)) outcome)
      ends then later (Went now done) k = k
      ends then later (Stops now why) k = k

  free-once : (what : FreedOfHandle) (again : Part ℕ) (left : Left) (store : Datastore) (moment : ℕ) → Runs live (Unlost left) store moment (free_once what again left)
  free-once what again left store moment =
      runs-get live (Unlost left) store moment idle (key.Block what.block) (λ at said. free_found what again left (block_said said)) (λ good. by (row_of (key.Block what.block) store.rows) refl)
    where
      by : (o : Option (ℕ × Record)) → row_of (key.Block what.block) store.rows ≡ o → Runs live (Unlost left) store (moment + 1) (free_found what again left (block_said (reply_to_get o)))
      by None e = refl
      by (Some row) e =
          let (b, is, same) = found-block what.block row.1 (found-key store (key.Block what.block) row.0 row.1 e) in
          let there = subst (λ (c : CidrValue). HasAt store (key.Block c) row.0 (record_of.Block b)) (sym same) (e ∙ ap (λ (x : Record). Some (row.0, x)) is) in
          subst (λ (x : Record). Runs live (Unlost left) store (moment + 1) (free_found what again left (block_said (Found row.0 x)))) (sym is)
          (free-these what again left store (moment + 1) (count_by what.picks b.allocations) (row.0, b) there)

  free-tries : (what : FreedOfHandle) (races claims : ℕ) (store : Datastore) (moment : ℕ) → Runs live (Unlost (left_of races claims)) store moment (tries (free_once what) races claims)
  unfolding tries
  free-tries what zero claims store moment = free-once what (stops (left_of zero claims) OutOfTries) (left_of zero claims) store moment
  free-tries what (suc races) claims store moment = free-once what (tries (free_once what) races claims) (left_of (suc races) claims) store moment

  pub free-runs : (what : FreedOfHandle) (left : Left) (store : Datastore) (moment : ℕ) → Runs live (Unlost left) store moment (free what left)
  free-runs what left store moment = free-tries what left.races left.claims store moment

  -- ---- a claim

  -- the block is the node's, and confirmed; the settings are as they were
  pub record ClaimedIn (store then : Datastore) (node : List ℕ) (cidr : CidrValue) (read : BlockRead) : Type 0 where
    pub revision : ℕ
    pub has_block : HasAt then (key.Block cidr) revision (record_of.Block (taken node cidr read))
    pub mark : ℕ
    pub confirmed : HasAt then (key.Affinity node cidr) mark (record_of.Affinity (affinity node cidr Confirmed))
    pub settings : (k : Key) → IsSetting k → row_of k then.rows ≡ row_of k store.rows

  abbrev pub ClaimEnds : Datastore → List ℕ → CidrValue → BlockRead → Datastore → ClaimAnswer → Type 0
  ClaimEnds store node cidr read then claimed.Confirmed = ClaimedIn store then node cidr read
  ClaimEnds store node cidr read then claimed.Lost = ⊥
  ClaimEnds store node cidr read then claimed.Full = Unit {0}
  ClaimEnds store node cidr read then claimed.Spent = Unit {0}

  -- what a write of another key leaves of the settings
  setting-other : (k l : Key) → IsSetting k → (IsSetting l → ⊥) → l ≢ k
  setting-other k l setting none e = none (subst (λ (x : Key). IsSetting x) (sym e) setting)

  pub taken-cidr : (node : List ℕ) (cidr : CidrValue) (read : BlockRead) (store : Datastore) → IsAsRead store cidr read → (taken node cidr read).cidr ≡ cidr
  taken-cidr node cidr None store as_read = refl
  taken-cidr node cidr (Some found) store as_read = as_read.0

  claiming-puts : (node : List ℕ) (cidr : CidrValue) (read : BlockRead) → Puts (claiming node cidr read) (record_of.Block (taken node cidr read))
  claiming-puts node cidr None = create-puts (record_of.Block (taken node cidr None))
  claiming-puts node cidr (Some found) = update-puts (record_of.Block (taken node cidr (Some found))) found.0

  claiming-unlost : (node : List ℕ) (cidr : CidrValue) (read : BlockRead) (store : Datastore) → IsAsRead store cidr read → IsUnlost (reply_of store (claiming node cidr read))
  claiming-unlost node cidr None store as_read = create-unlost store (record_of.Block (taken node cidr None)) as_read
  claiming-unlost node cidr (Some found) store as_read =
      update-unlost store (record_of.Block (taken node cidr (Some found))) (record_of.Block found.1) found.0
      (subst (λ (c : CidrValue). HasAt store (key.Block c) found.0 (record_of.Block found.1)) (sym as_read.0) as_read.1)

  module _ (node : List ℕ) (cidr : CidrValue) (read : BlockRead) (origin : Datastore) where
    abbrev Ends-so : Datastore → ClaimAnswer → Type 0
    Ends-so then answer = ClaimEnds origin node cidr read then answer

    abbrev KeptSettings : Datastore → Type 0
    KeptSettings store = (k : Key) → IsSetting k → row_of k store.rows ≡ row_of k origin.rows

    claim-confirm : (kept revision : ℕ) (a : Record) (store : Datastore) (moment : ℕ) → HasAt store (key.Affinity node cidr) kept a → HasAt store (key.Block cidr) revision (record_of.Block (taken node cidr read)) → KeptSettings store
        → Runs live Ends-so store moment (claim_confirm node cidr kept)
    claim-confirm kept revision a store moment there block settings good =
        let new = record_of.Affinity (affinity node cidr Confirmed) in
        let asked = Update new kept in
        unlost-runs live Ends-so (behind store asked) (moment + 1) (reply_of store asked) (λ r. Ends claimed.Confirmed) (Ends claimed.Lost) (Ends claimed.Full) (Ends claimed.Spent)
        (update-unlost store new a kept there)
        (λ r e. record {
          revision = revision;
          has_block = put-keeps store asked new r (update-puts new kept) e (key.Block cidr) (λ f. cc f) ∙ block;
          mark = r;
          confirmed = put-there store asked new r (update-puts new kept) e;
          settings = λ k setting. put-keeps store asked new r (update-puts new kept) e k (setting-other k (key.Affinity node cidr) setting (λ none. none)) ∙ settings k setting;
        })
        tt tt

    claim-block : (kept : ℕ) (a : Record) (store : Datastore) (moment : ℕ) → HasAt store (key.Affinity node cidr) kept a → IsAsRead store cidr read → KeptSettings store → Runs live Ends-so store moment (claim_block node cidr read kept)
    claim-block kept a store moment there as_read settings good =
        let new = record_of.Block (taken node cidr read) in
        let asked = claiming node cidr read in
        let puts = claiming-puts node cidr read in
        let same = taken-cidr node cidr read store as_read in
        unlost-runs live Ends-so (behind store asked) (moment + 1) (reply_of store asked) (λ r. claim_confirm node cidr kept) (Ends claimed.Lost) (Ends claimed.Full) (Ends claimed.Spent)
        (claiming-unlost node cidr read store as_read)
        (λ r e. claim-confirm kept r a (behind store asked) (moment + 1)
        (put-keeps store asked new r puts e (key.Affinity node cidr) (λ f. cc f) ∙ there)
        (subst (λ (c : CidrValue). HasAt (behind store asked) (key.Block c) r new) same (put-there store asked new r puts e))
        (λ k setting. put-keeps store asked new r puts e k (setting-other k (key.Block (taken node cidr read).cidr) setting (λ none. none)) ∙ settings k setting))
        tt tt

    -- the affinity is written, and then the block
    claim-put : (asked : Call) (store : Datastore) (moment : ℕ) → Puts asked (record_of.Affinity (affinity node cidr Pending)) → IsUnlost (reply_of store asked) → IsAsRead store cidr read → KeptSettings store
        → Runs live Ends-so store moment (Asks idle asked (λ at said. on_claim_write said (claim_block node cidr read)))
    claim-put asked store moment puts unlost as_read settings good =
        let new = record_of.Affinity (affinity node cidr Pending) in
        unlost-runs live Ends-so (behind store asked) (moment + 1) (reply_of store asked) (claim_block node cidr read) (Ends claimed.Lost) (Ends claimed.Full) (Ends claimed.Spent) unlost
        (λ r e. claim-block r new (behind store asked) (moment + 1) (put-there store asked new r puts e) (kept-read read (put-keeps store asked new r puts e (key.Block cidr) (λ f. cc f)) as_read)
        (λ k setting. put-keeps store asked new r puts e k (setting-other k (key.Affinity node cidr) setting (λ none. none)) ∙ settings k setting))
        tt tt
      where
        kept-read : (read : BlockRead) → row_of (key.Block cidr) (behind store asked).rows ≡ row_of (key.Block cidr) store.rows → IsAsRead store cidr read → IsAsRead (behind store asked) cidr read
        kept-read None same as_read = same ∙ as_read
        kept-read (Some found) same as_read = (as_read.0, same ∙ as_read.1)

    claim-kept : (store : Datastore) (moment revision : ℕ) (found : Record) (state : State) → HasAt store (key.Affinity node cidr) revision found → IsAsRead store cidr read → KeptSettings store → Runs live Ends-so store moment (claim_kept node cidr read revision state)
    claim-kept store moment revision found Pending there as_read settings = claim-block revision found store moment there as_read settings
    claim-kept store moment revision found Confirmed there as_read settings = claim-block revision found store moment there as_read settings
    claim-kept store moment revision found PendingDeletion there as_read settings =
        let new = record_of.Affinity (affinity node cidr Pending) in
        claim-put (Update new revision) store moment (update-puts new revision) (update-unlost store new found revision there) as_read settings

  pub claim-runs : (node : List ℕ) (cidr : CidrValue) (read : BlockRead) (store : Datastore) (moment : ℕ) → IsAsRead store cidr read → Runs live (ClaimEnds store node cidr read) store moment (claim node cidr read)
  unfolding claim
  claim-runs node cidr read store moment as_read =
      runs-get live (ClaimEnds store node cidr read) store moment idle (key.Affinity node cidr) (λ at said. claim_found node cidr read (affinity_said said)) (λ good. by (row_of (key.Affinity node cidr) store.rows) refl)
    where
      by : (o : Option (ℕ × Record)) → row_of (key.Affinity node cidr) store.rows ≡ o → Runs live (ClaimEnds store node cidr read) store (moment + 1) (claim_found node cidr read (affinity_said (reply_to_get o)))
      by None e =
          let new = record_of.Affinity (affinity node cidr Pending) in
          claim-put node cidr read store (Create new) store (moment + 1) (create-puts new) (create-unlost store new e) as_read (λ k setting. refl)
      by (Some row) e =
          let (a, is, whole) = found-affinity (record { node = node; block = cidr }) row.1 (found-key store (key.Affinity node cidr) row.0 row.1 e) in
          subst (λ (x : Record). Runs live (ClaimEnds store node cidr read) store (moment + 1) (claim_found node cidr read (affinity_said (Found row.0 x)))) (sym is)
          (claim-kept node cidr read store store (moment + 1) row.0 row.1 a.state e as_read (λ k setting. refl))

  -- with a claim left
  abbrev pub ClaimForEnds : (races claims : ℕ) → Datastore → List ℕ → CidrValue → BlockRead → Datastore → Outcome (Unit {0}) → Type 0
  ClaimForEnds races claims store node cidr read then (Went now done) = (now ≡ left_of races claims) × ClaimedIn store then node cidr read
  ClaimForEnds races claims store node cidr read then (Stops now why) = IsWant why

  pub claim_for-runs : (node : List ℕ) (cidr : CidrValue) (read : BlockRead) (races claims : ℕ) (store : Datastore) (moment : ℕ) → IsAsRead store cidr read → Runs live (ClaimForEnds races claims store node cidr read) store moment (claim_for node cidr read (left_of races (suc claims)))
  claim_for-runs node cidr read races claims store moment as_read =
      Runs-bound live (ClaimEnds store node cidr read) (ClaimForEnds races claims store node cidr read) (after_claim (left_of races (suc claims))) (claim node cidr read) store moment (claim-runs node cidr read store moment as_read) ends
    where
      ends : (then : Datastore) (later : ℕ) (answer : ClaimAnswer) → ClaimEnds store node cidr read then answer → Runs live (ClaimForEnds races claims store node cidr read) then later (after_claim (left_of races (suc claims)) answer)
      ends then later claimed.Confirmed k = (refl, k)
      ends then later claimed.Lost k = absurd k
      ends then later claimed.Full k = tt
      ends then later claimed.Spent k = tt
