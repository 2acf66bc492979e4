-- What a claim comes to, alone.
use Rattle.std.proofs.Common.{◌≡◌, ◌≢◌, ℕ, suc, ◌+◌, inl, inr, List, Option, Some, None, refl, sym, ap, ◌∙◌, subst, arith}
use Rattle.ipam_addr.specs.Shape.{CidrValue}
use Rattle.ipam_block.specs.declared.state.State.{State}
use Rattle.ipam_block.specs.declared.state.State.TheVariants.{Pending, Confirmed, PendingDeletion}
use Rattle.ipam_block.specs.Shape.{BlockValue}
use Rattle.ipam_records.specs.declared.key.Key.{Key}
use Rattle.ipam_records.specs.declared.key.Key.TheVariants as key
use Rattle.ipam_records.specs.declared.record.Record.{Record}
use Rattle.ipam_records.specs.declared.record.Record.TheVariants as record_of
use Rattle.ipam_records.specs.Datastore.{Datastore, reply_to_get, row_of, with_row}
use Rattle.ipam_records.specs.Label.{idle}
use Rattle.ipam_records.specs.Said.{Found}
use Rattle.ipam_records.specs.Word.{Ends}
use Rattle.ipam_model.specs.declared.outcome.ClaimAnswer.{ClaimAnswer}
use Rattle.ipam_model.specs.declared.outcome.ClaimAnswer.TheVariants as claimed
use Rattle.ipam_model.specs.Affinities.{BlockRead, affinity, claim, claim_block, claim_confirm, claim_found, claim_kept}
use Rattle.ipam_model.specs.AffinityLaw.{HasAt}
use Rattle.ipam_model.specs.Assigning.{after_claim, claim_for}
use Rattle.ipam_model.specs.Plain.{Rows, block_in_rows, claimed_block, put, with_claimed}
use Rattle.ipam_model.specs.Reads.{affinity_said}
use Rattle.ipam_model.specs.Step.{left_of}
use Rattle.ipam_laws.proofs.AloneCalls.{Runs, Runs-bound, runs-get}
use Rattle.ipam_laws.proofs.Calls.{found-key}
use Rattle.ipam_laws.proofs.CountSteps.{put-other, put-own}
use Rattle.ipam_laws.proofs.OneRecord.{key_cases}
use Rattle.ipam_records.proofs.RowWrites.{sorted-with_row}
use Rattle.ipam_laws.proofs.Steps.{IsAsRead, taken}
use Rattle.ipam_laws.proofs.WriteSteps.{found-affinity}
use Rattle.ipam_plain.proofs.Alike.{Alike, IsSorted, record_at, record_at-other, record_at-put, value_in}
use Rattle.ipam_plain.proofs.Budget.{Enough, enough-block, enough-less, enough-new, enough-there, room-block, room-other}
use Rattle.ipam_plain.proofs.Writes.{Comes, IsAs, create-runs, put_in, update-runs}

-- ---- what a claim makes of the rows

-- the block and the confirmed affinity are there, and all else is as it was
pub record IsClaimedIn (before then : Rows) (node : List ℕ) (cidr : CidrValue) (b : BlockValue) : Type 0 where
  pub has_block : record_at (key.Block cidr) then ≡ Some (record_of.Block b)
  pub confirmed : record_at (key.Affinity node cidr) then ≡ Some (record_of.Affinity (affinity node cidr Confirmed))
  pub others : (k : Key) → key.Block cidr ≢ k → key.Affinity node cidr ≢ k → record_at k then ≡ record_at k before

-- two that were made of rows that are alike are alike
pub claimed-alike : (before then rows after : Rows) (node : List ℕ) (cidr : CidrValue) (b : BlockValue) → Alike before rows → IsClaimedIn before then node cidr b → IsClaimedIn rows after node cidr b → Alike then after
claimed-alike before then rows after node cidr b alike h g k = elim (key_cases (key.Block cidr) k) [
  | inl block ↦ subst (λ (x : Key). record_at x then ≡ record_at x after) block (h.has_block ∙ sym g.has_block)
  | inr no_block ↦ elim (key_cases (key.Affinity node cidr) k) [
    | inl own ↦ subst (λ (x : Key). record_at x then ≡ record_at x after) own (h.confirmed ∙ sym g.confirmed)
    | inr no_affinity ↦ h.others k no_block no_affinity ∙ (alike k ∙ sym (g.others k no_block no_affinity))
  ]
]

-- the block as it was read, or a fresh one
pub claimed-taken : (node : List ℕ) (cidr : CidrValue) (read : BlockRead) → claimed_block node cidr read ≡ taken node cidr read
claimed-taken node cidr None = refl
claimed-taken node cidr (Some found) = refl

-- of the block alone, whatever its revision
pub taken-same : (node : List ℕ) (cidr : CidrValue) (one other : BlockRead) → value_in one ≡ value_in other → taken node cidr one ≡ taken node cidr other
taken-same node cidr None None e = refl
taken-same node cidr None (Some found) e = absurd (cc e)
taken-same node cidr (Some found) None e = absurd (cc e)
taken-same node cidr (Some found) (Some there) e =
    let same : found.1 ≡ there.1 = cc e in
    ap (λ (b : BlockValue). taken node cidr (Some (0, b))) same

-- what the records say of a claim
pub plain-claimed : (node : List ℕ) (cidr : CidrValue) (rows : Rows) → (claimed_block node cidr (block_in_rows cidr rows)).cidr ≡ cidr → IsClaimedIn rows (with_claimed node cidr rows) node cidr (claimed_block node cidr (block_in_rows cidr rows))
plain-claimed node cidr rows same =
    let b = claimed_block node cidr (block_in_rows cidr rows) in
    let confirmed = record_of.Affinity (affinity node cidr Confirmed) in
    let first = put confirmed rows in
    record {
      has_block = subst (λ (c : CidrValue). record_at (key.Block c) (put (record_of.Block b) first) ≡ Some (record_of.Block b)) same (record_at-put (0, record_of.Block b) first);
      confirmed = record_at-other (key.Affinity node cidr) (0, record_of.Block b) first (λ e. cc e) ∙ record_at-put (0, confirmed) rows;
      others = λ k no_block no_affinity.
          record_at-other k (0, record_of.Block b) first (λ e. no_block (ap key.Block (sym same) ∙ e))
          ∙ record_at-other k (0, confirmed) rows no_affinity;
    }

-- ---- the calls of a claim

-- the claim was confirmed, and so much is left
pub record IsClaimed (before : Rows) (node : List ℕ) (cidr : CidrValue) (read : BlockRead) (revisions rows blocks : ℕ) (then : Datastore) : Type 0 where
  pub is_in : IsClaimedIn before then.rows node cidr (taken node cidr read)
  pub sorted : IsSorted then.rows
  pub enough : Enough revisions rows blocks then

module _ (live : List (List ℕ)) (node : List ℕ) (cidr : CidrValue) (read : BlockRead) (own : (taken node cidr read).cidr ≡ cidr) (before : Rows) (revisions rows blocks : ℕ) where
  abbrev Claims : Datastore → ClaimAnswer → Type 0
  Claims then claimed.Confirmed = IsClaimed before node cidr read revisions rows blocks then
  Claims then claimed.Lost = ⊥
  Claims then claimed.Full = ⊥
  Claims then claimed.Spent = ⊥

  -- all rows but the block's and the affinity's are as they were
  abbrev Others : Rows → Type 0
  Others now = (k : Key) → key.Block cidr ≢ k → key.Affinity node cidr ≢ k → record_at k now ≡ record_at k before

  claim-confirm : (kept : ℕ) (a : Record) (store : Datastore) (moment : ℕ) → HasAt store (key.Affinity node cidr) kept a → record_at (key.Block cidr) store.rows ≡ Some (record_of.Block (taken node cidr read)) → Others store.rows → IsSorted store.rows → Enough (suc revisions) rows blocks store
      → Runs live Claims store moment (claim_confirm node cidr kept)
  claim-confirm kept a store moment there block others sorted enough = λ good.
      let new = record_of.Affinity (affinity node cidr Confirmed) in
      let spare = enough.revisions_left in
      let row : ℕ × Record = (store.counter + 1, new) in
      update-runs live Claims store moment new a kept (λ r. Ends claimed.Confirmed) (Ends claimed.Lost) (Ends claimed.Full) (Ends claimed.Spent) there (omega arith)
      (record {
        is_in = record {
          has_block = record_at-other (key.Block cidr) row store.rows (λ e. cc e) ∙ block;
          confirmed = record_at-put row store.rows;
          others = λ k no_block no_affinity. record_at-other k row store.rows no_affinity ∙ others k no_block no_affinity;
        };
        sorted = sorted-with_row row store.rows sorted;
        enough = enough-there revisions rows blocks store new (kept, a) enough sorted there;
      })

  claim-block : (kept : ℕ) (a : Record) (store : Datastore) (moment : ℕ) → HasAt store (key.Affinity node cidr) kept a → IsAsRead store cidr read → Others store.rows → IsSorted store.rows → Enough (suc (suc revisions)) (suc rows) (suc blocks) store
      → Runs live Claims store moment (claim_block node cidr read kept)
  claim-block kept a store moment there as_read others sorted enough = by read refl as_read
    where
      new : Record
      new = record_of.Block (taken node cidr read)

      -- the affinity is still there after the block's write
      confirms : Enough (suc revisions) rows blocks (put_in store (record_of.Block (taken node cidr read))) → Runs live Claims (put_in store (record_of.Block (taken node cidr read))) (moment + 1) (claim_confirm node cidr kept)
      confirms left =
          let row : ℕ × Record = (store.counter + 1, record_of.Block (taken node cidr read)) in
          claim-confirm kept a (put_in store (record_of.Block (taken node cidr read))) (moment + 1)
          (put-other store (store.counter + 1) (record_of.Block (taken node cidr read)) (key.Affinity node cidr) (λ e. cc e) ∙ there)
          (subst (λ (c : CidrValue). record_at (key.Block c) (with_row row store.rows) ≡ Some (record_of.Block (taken node cidr read))) own (record_at-put row store.rows))
          (λ k no_block no_affinity. record_at-other k row store.rows (λ e. no_block (ap key.Block (sym own) ∙ e)) ∙ others k no_block no_affinity)
          (sorted-with_row row store.rows sorted) left

      by : (r : BlockRead) → read ≡ r → IsAsRead store cidr r → Runs live Claims store moment (claim_block node cidr r kept)
      by None e as_it = λ good.
          let spare = enough.revisions_left in
          let same : record_of.Block (taken node cidr read) ≡ record_of.Block (taken node cidr None) = ap (λ (r : BlockRead). record_of.Block (taken node cidr r)) e in
          create-runs live Claims store moment (record_of.Block (taken node cidr None)) (λ revision. claim_confirm node cidr kept) (Ends claimed.Lost) (Ends claimed.Full) (Ends claimed.Spent)
          as_it (room-block (suc (suc revisions)) rows blocks store (key.Block cidr) enough) (omega arith)
          (subst (λ (x : Record). Runs live Claims (put_in store x) (moment + 1) (claim_confirm node cidr kept)) same
          (confirms (subst (λ (x : Record). Enough (suc revisions) rows blocks (put_in store x)) (sym same) (enough-block (suc revisions) rows blocks store (record_of.Block (taken node cidr None)) enough as_it))))
      by (Some found) e as_it = λ good.
          let spare = enough.revisions_left in
          let same : record_of.Block (taken node cidr read) ≡ record_of.Block (taken node cidr (Some found)) = ap (λ (r : BlockRead). record_of.Block (taken node cidr r)) e in
          let at : HasAt store (key.Block found.1.cidr) found.0 (record_of.Block found.1) = subst (λ (c : CidrValue). HasAt store (key.Block c) found.0 (record_of.Block found.1)) (sym as_it.0) as_it.1 in
          update-runs live Claims store moment (record_of.Block (taken node cidr (Some found))) (record_of.Block found.1) found.0 (λ revision. claim_confirm node cidr kept) (Ends claimed.Lost) (Ends claimed.Full) (Ends claimed.Spent)
          at (omega arith)
          (subst (λ (x : Record). Runs live Claims (put_in store x) (moment + 1) (claim_confirm node cidr kept)) same
          (confirms (subst (λ (x : Record). Enough (suc revisions) rows blocks (put_in store x)) (sym same)
          (enough-less (suc revisions) rows blocks (suc revisions) (suc rows) (suc blocks) (put_in store (record_of.Block (taken node cidr (Some found)))) (omega arith) (omega arith) (omega arith) (enough-there (suc revisions) (suc rows) (suc blocks) store (record_of.Block (taken node cidr (Some found))) (found.0, record_of.Block found.1) enough sorted at)))))

  -- after the write of the pending affinity
  claim-pending : (store : Datastore) (moment : ℕ) → IsAsRead store cidr read → Others store.rows → IsSorted store.rows → Enough (suc (suc revisions)) (suc rows) (suc blocks) (put_in store (record_of.Affinity (affinity node cidr Pending)))
      → Runs live Claims (put_in store (record_of.Affinity (affinity node cidr Pending))) moment (claim_block node cidr read (store.counter + 1))
  claim-pending store moment as_read others sorted enough =
      let new = record_of.Affinity (affinity node cidr Pending) in
      let row : ℕ × Record = (store.counter + 1, new) in
      claim-block (store.counter + 1) new (put_in store new) moment (put-own store (store.counter + 1) new) (kept_read read as_read)
      (λ k no_block no_affinity. record_at-other k row store.rows no_affinity ∙ others k no_block no_affinity)
      (sorted-with_row row store.rows sorted) enough
    where
      kept_read : (r : BlockRead) → IsAsRead store cidr r → IsAsRead (put_in store (record_of.Affinity (affinity node cidr Pending))) cidr r
      kept_read None as_it = put-other store (store.counter + 1) (record_of.Affinity (affinity node cidr Pending)) (key.Block cidr) (λ e. cc e) ∙ as_it
      kept_read (Some found) as_it = (as_it.0, put-other store (store.counter + 1) (record_of.Affinity (affinity node cidr Pending)) (key.Block cidr) (λ e. cc e) ∙ as_it.1)

  claim-kept : (store : Datastore) (moment revision : ℕ) (found : Record) (state : State) → HasAt store (key.Affinity node cidr) revision found → IsAsRead store cidr read → Others store.rows → IsSorted store.rows → Enough (suc (suc (suc revisions))) (suc (suc rows)) (suc blocks) store
      → Runs live Claims store moment (claim_kept node cidr read revision state)
  claim-kept store moment revision found Pending there as_read others sorted enough = claim-block revision found store moment there as_read others sorted (enough-less (suc (suc revisions)) (suc rows) (suc blocks) (suc (suc (suc revisions))) (suc (suc rows)) (suc blocks) store (omega arith) (omega arith) (omega arith) enough)
  claim-kept store moment revision found Confirmed there as_read others sorted enough = claim-block revision found store moment there as_read others sorted (enough-less (suc (suc revisions)) (suc rows) (suc blocks) (suc (suc (suc revisions))) (suc (suc rows)) (suc blocks) store (omega arith) (omega arith) (omega arith) enough)
  claim-kept store moment revision found PendingDeletion there as_read others sorted enough = λ good.
      let new = record_of.Affinity (affinity node cidr Pending) in
      let spare = enough.revisions_left in
      update-runs live Claims store moment new found revision (claim_block node cidr read) (Ends claimed.Lost) (Ends claimed.Full) (Ends claimed.Spent) there (omega arith)
      (claim-pending store (moment + 1) as_read others sorted
      (enough-less (suc (suc revisions)) (suc rows) (suc blocks) (suc (suc revisions)) (suc (suc rows)) (suc blocks) (put_in store new) (omega arith) (omega arith) (omega arith) (enough-there (suc (suc revisions)) (suc (suc rows)) (suc blocks) store new (revision, found) enough sorted there)))

  claim-comes : (store : Datastore) (moment : ℕ) → IsAsRead store cidr read → Others store.rows → IsSorted store.rows → Enough (suc (suc (suc revisions))) (suc (suc rows)) (suc blocks) store
      → Runs live Claims store moment (claim node cidr read)
  unfolding claim
  claim-comes store moment as_read others sorted enough =
      runs-get live Claims store moment idle (key.Affinity node cidr) (λ at said. claim_found node cidr read (affinity_said said)) (λ good. by (row_of (key.Affinity node cidr) store.rows) refl)
    where
      by : (o : Option (ℕ × Record)) → row_of (key.Affinity node cidr) store.rows ≡ o → Runs live Claims store (moment + 1) (claim_found node cidr read (affinity_said (reply_to_get o)))
      by None e = λ good.
          let new = record_of.Affinity (affinity node cidr Pending) in
          let spare = enough.revisions_left in
          create-runs live Claims store (moment + 1) new (claim_block node cidr read) (Ends claimed.Lost) (Ends claimed.Full) (Ends claimed.Spent) e
          (room-other (suc (suc (suc revisions))) (suc rows) (suc blocks) store (key.Affinity node cidr) enough refl) (omega arith)
          (claim-pending store (moment + 1 + 1) as_read others sorted (enough-new (suc (suc revisions)) (suc rows) (suc blocks) store new enough e refl))
      by (Some row) e =
          let (a, is, whole) = found-affinity (record { node = node; block = cidr }) row.1 (found-key store (key.Affinity node cidr) row.0 row.1 e) in
          subst (λ (x : Record). Runs live Claims store (moment + 1) (claim_found node cidr read (affinity_said (Found row.0 x)))) (sym is)
          (claim-kept store (moment + 1) row.0 row.1 a.state e as_read others sorted enough)

  -- with a claim left
  pub claim_for-comes : (races claims : ℕ) (store : Datastore) (moment : ℕ) → IsAsRead store cidr read → Others store.rows → IsSorted store.rows → Enough (suc (suc (suc revisions))) (suc (suc rows)) (suc blocks) store
      → Runs live (Comes (left_of races claims) (λ then (done : Unit {0}). IsClaimed before node cidr read revisions rows blocks then)) store moment (claim_for node cidr read (left_of races (suc claims)))
  claim_for-comes races claims store moment as_read others sorted enough =
      Runs-bound live Claims (Comes (left_of races claims) (λ then (done : Unit {0}). IsClaimed before node cidr read revisions rows blocks then)) (after_claim (left_of races (suc claims))) (claim node cidr read) store moment
      (claim-comes store moment as_read others sorted enough) ends
    where
      ends : (then : Datastore) (later : ℕ) (answer : ClaimAnswer) → Claims then answer → Runs live (Comes (left_of races claims) (λ then (done : Unit {0}). IsClaimed before node cidr read revisions rows blocks then)) then later (after_claim (left_of races (suc claims)) answer)
      ends then later claimed.Confirmed k = (refl, k)
      ends then later claimed.Lost k = absurd k
      ends then later claimed.Full k = absurd k
      ends then later claimed.Spent k = absurd k

-- ---- a store in which a block was claimed

-- it stands for what the records say of the claim
pub claimed-as : (store then : Datastore) (rows : Rows) (node : List ℕ) (cidr : CidrValue) (read : BlockRead) (b : BlockValue) → IsAs store rows → b ≡ claimed_block node cidr (block_in_rows cidr rows) → b.cidr ≡ cidr → IsClaimedIn store.rows then.rows node cidr b → IsSorted then.rows
    → IsAs then (with_claimed node cidr rows)
claimed-as store then rows node cidr read b is same own h sorted =
    let c = claimed_block node cidr (block_in_rows cidr rows) in
    let says = plain-claimed node cidr rows (ap (λ (x : BlockValue). x.cidr) (sym same) ∙ own) in
    let confirmed = record_of.Affinity (affinity node cidr Confirmed) in
    record {
      alike = claimed-alike store.rows then.rows rows (with_claimed node cidr rows) node cidr c is.alike (subst (λ (x : BlockValue). IsClaimedIn store.rows then.rows node cidr x) same h) says;
      sorted_store = sorted;
      sorted = sorted-with_row (0, record_of.Block c) (put confirmed rows) (sorted-with_row (0, confirmed) rows is.sorted);
    }
