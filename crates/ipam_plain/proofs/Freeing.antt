-- What lowering a count and freeing addresses come to, alone.
use Rattle.std.proofs.Common.{◌≡◌, ℕ, zero, suc, ◌+◌, ◌<◌, ◌≤◌, List, [], ◌∷◌, Option, Some, None, refl, sym, ap, ◌∙◌, subst, arith}
use Rattle.std.specs.List.{count_by}
use Rattle.ipam_addr.specs.Shape.{CidrValue}
use Rattle.ipam_block.specs.Operations.{block_without, next_block}
use Rattle.ipam_block.specs.Shape.{BlockValue}
use Rattle.ipam_block.specs.HandleOperations.{with_lowered_count}
use Rattle.ipam_block.specs.HandleShape.{HandleValue}
use Rattle.ipam_records.specs.declared.call.Call.TheVariants.{Get}
use Rattle.ipam_records.specs.declared.key.Key.TheVariants as key
use Rattle.ipam_records.specs.declared.record.Record.{Record}
use Rattle.ipam_records.specs.declared.record.Record.TheVariants as record_of
use Rattle.ipam_records.specs.Datastore.{Datastore, last_revision, reply_of, reply_to_get, row_of}
use Rattle.ipam_records.specs.Label.{Credit, idle, owing}
use Rattle.ipam_records.specs.Said.{Said, Found}
use Rattle.ipam_records.specs.Word.{Asks}
use Rattle.ipam_model.specs.declared.part.Left.{Left}
use Rattle.ipam_model.specs.declared.part.Stop.TheVariants.{OutOfTries, NoRoom, NoRevisions}
use Rattle.ipam_model.specs.AffinityLaw.{HasAt}
use Rattle.ipam_model.specs.Counting.{FreedOfHandle, credit_of, free, free_found, free_once, free_these, lower, lower_once, lower_write, written_or_deleted}
use Rattle.ipam_model.specs.Plain.{Rows, block_in_rows, handle_of, kept_or_gone, put, with_freed, with_freed_found, with_lowered, with_these_freed}
use Rattle.ipam_model.specs.Reads.{block_said, handle_said}
use Rattle.ipam_model.specs.Step.{Part, part_then, goes, left_of, on_write, stops, tries}
use Rattle.ipam_laws.proofs.AloneCalls.{Runs, runs-get}
use Rattle.ipam_laws.proofs.AloneParts.{handle-there}
use Rattle.ipam_laws.proofs.Calls.{found-block, found-key}
use Rattle.ipam_plain.proofs.Alike.{alike-block, alike-handle, value_in}
use Rattle.ipam_plain.proofs.Writes.{Comes, IsAs, as-cut, as-put, comes-followed, delete-runs, put_in, update-runs}

-- ---- what is freed of a block, by what the block is

pub freed-same : (what : FreedOfHandle) (one other : Option (ℕ × BlockValue)) (rows : Rows) → value_in one ≡ value_in other → with_freed_found what one rows ≡ with_freed_found what other rows
freed-same what None None rows e = refl
freed-same what None (Some found) rows e = absurd (cc e)
freed-same what (Some found) None rows e = absurd (cc e)
freed-same what (Some found) (Some there) rows e =
    let same : found.1 ≡ there.1 = cc e in
    ap (λ (b : BlockValue). with_these_freed what (count_by what.picks b.allocations) b rows) same

-- the store stands for the rows, with this many revisions taken at most
pub record Became (rows : Rows) (counter : ℕ) (then : Datastore) : Type 0 where
  pub is_as : IsAs then rows
  pub taken : then.counter ≤ counter

module _ (live : List (List ℕ)) where
  -- ---- lowering

  lower-write : (credit : Credit) (again : Part (Unit {0})) (left : Left) (store : Datastore) (moment : ℕ) (rows : Rows) (revision : ℕ) (h : HandleValue) → HasAt store (key.Handle credit.handle) revision (record_of.Handle h) → h.id ≡ credit.handle
      → IsAs store rows → store.counter < last_revision → (counts : List (CidrValue × ℕ))
      → Runs live (Comes left (λ then (done : Unit {0}). Became (kept_or_gone (with_lowered_count h credit.block credit.amount) counts rows) (store.counter + 1) then)) store moment
      (Asks (owing credit) (written_or_deleted (with_lowered_count h credit.block credit.amount) counts revision) (λ at reply. on_write reply left (λ taken. goes left tt) again))
  lower-write credit again left store moment rows revision h there own is spare [] = λ good.
      delete-runs live (Comes left (λ then (done : Unit {0}). Became (kept_or_gone (with_lowered_count h credit.block credit.amount) [] rows) (store.counter + 1) then)) store moment
      (key.Handle h.id) (record_of.Handle h) revision (λ taken. goes left tt) again (stops left NoRoom) (stops left NoRevisions)
      (subst (λ (i : List ℕ). HasAt store (key.Handle i) revision (record_of.Handle h)) (sym own) there) spare
      (refl, record { is_as = as-cut store rows (key.Handle h.id) is; taken = omega arith })
  lower-write credit again left store moment rows revision h there own is spare (count ∷ counts) = λ good.
      let new = record_of.Handle (with_lowered_count h credit.block credit.amount) in
      update-runs live (Comes left (λ then (done : Unit {0}). Became (kept_or_gone (with_lowered_count h credit.block credit.amount) (count ∷ counts) rows) (store.counter + 1) then)) store moment
      new (record_of.Handle h) revision (λ taken. goes left tt) again (stops left NoRoom) (stops left NoRevisions)
      (subst (λ (i : List ℕ). HasAt store (key.Handle i) revision (record_of.Handle h)) (sym own) there) spare
      (refl, record { is_as = as-put store rows new is; taken = omega arith })

  lower-once : (credit : Credit) (again : Part (Unit {0})) (left : Left) (store : Datastore) (moment : ℕ) (rows : Rows) → 0 < credit.amount → IsAs store rows → store.counter < last_revision
      → Runs live (Comes left (λ then (done : Unit {0}). Became (with_lowered credit.handle credit.block credit.amount rows) (store.counter + 1) then)) store moment (lower_once credit again left)
  lower-once credit again left store moment rows some is spare =
      runs-get live (Comes left (λ then (done : Unit {0}). Became (with_lowered credit.handle credit.block credit.amount rows) (store.counter + 1) then)) store moment (owing credit) (key.Handle credit.handle) (λ at said. lower_write credit again left said)
      (λ good.
      let (revision, h, there, own) = handle-there credit store some good in
      let same : h ≡ handle_of credit.handle rows = ap (λ (o : Option (ℕ × Record)). handle_said credit.handle (reply_to_get o)) (sym there) ∙ alike-handle credit.handle store.rows rows is.alike in
      let low = with_lowered_count h credit.block credit.amount in
      let runs = lower-write credit again left store (moment + 1) rows revision h there own is spare low.counts in
      subst (λ (said : Said). Runs live (Comes left (λ then (done : Unit {0}). Became (with_lowered credit.handle credit.block credit.amount rows) (store.counter + 1) then)) store (moment + 1) (lower_write credit again left said)) (sym (ap reply_to_get there))
      (subst (λ (g : HandleValue). Runs live (Comes left (λ then (done : Unit {0}). Became (kept_or_gone (with_lowered_count g credit.block credit.amount) (with_lowered_count g credit.block credit.amount).counts rows) (store.counter + 1) then)) store (moment + 1) (lower_write credit again left (Found revision (record_of.Handle h)))) same runs))

  lower-tries : (credit : Credit) (races claims : ℕ) (store : Datastore) (moment : ℕ) (rows : Rows) → 0 < credit.amount → IsAs store rows → store.counter < last_revision
      → Runs live (Comes (left_of races claims) (λ then (done : Unit {0}). Became (with_lowered credit.handle credit.block credit.amount rows) (store.counter + 1) then)) store moment (tries (lower_once credit) races claims)
  unfolding tries
  lower-tries credit zero claims store moment rows some is spare = lower-once credit (stops (left_of zero claims) OutOfTries) (left_of zero claims) store moment rows some is spare
  lower-tries credit (suc races) claims store moment rows some is spare = lower-once credit (tries (lower_once credit) races claims) (left_of (suc races) claims) store moment rows some is spare

  pub lower-comes : (credit : Credit) (left : Left) (store : Datastore) (moment : ℕ) (rows : Rows) → 0 < credit.amount → IsAs store rows → store.counter < last_revision
      → Runs live (Comes left (λ then (done : Unit {0}). Became (with_lowered credit.handle credit.block credit.amount rows) (store.counter + 1) then)) store moment (lower credit left)
  lower-comes credit left store moment rows some is spare = lower-tries credit left.races left.claims store moment rows some is spare

  -- ---- freeing

  free-these : (what : FreedOfHandle) (again : Part ℕ) (left : Left) (store : Datastore) (moment : ℕ) (rows : Rows) (amount : ℕ) (found : ℕ × BlockValue) → HasAt store (key.Block found.1.cidr) found.0 (record_of.Block found.1) → found.1.cidr ≡ what.block
      → IsAs store rows → store.counter + 2 ≤ last_revision
      → Runs live (Comes left (λ then (many : ℕ). Became (with_these_freed what amount found.1 rows) (store.counter + 2) then)) store moment (free_these what again left amount found)
  free-these what again left store moment rows zero found there same is spare = (refl, record { is_as = is; taken = omega arith })
  free-these what again left store moment rows (suc more) found there same is spare = λ good.
      let new = record_of.Block (block_without what.picks (next_block found.1)) in
      let credit = credit_of what.handle what.block (suc more) in
      let Q : Datastore → ℕ → Type 0 = λ then many. Became (with_lowered what.handle found.1.cidr (suc more) (put new rows)) (store.counter + 2) then in
      update-runs live (Comes left Q) store moment new (record_of.Block found.1) found.0 (λ taken. part_then (lower credit left) (λ now done. goes now (suc more))) again (stops left NoRoom) (stops left NoRevisions) there (omega arith)
      (comes-followed live left (λ then (done : Unit {0}). Became (with_lowered what.handle what.block (suc more) (put new rows)) (store.counter + 1 + 1) then) (Comes left Q) (λ now done. goes now (suc more)) (lower credit left) (put_in store new) (moment + 1)
      (lower-comes credit left (put_in store new) (moment + 1) (put new rows) (omega arith) (as-put store rows new is) (omega arith))
      (λ then later done b.
      let most = b.taken in
      (refl, subst (λ (c : CidrValue). Became (with_lowered what.handle c (suc more) (put new rows)) (store.counter + 2) then) (sym same) (record { is_as = b.is_as; taken = omega arith }))))

  free-once : (what : FreedOfHandle) (again : Part ℕ) (left : Left) (store : Datastore) (moment : ℕ) (rows : Rows) → IsAs store rows → store.counter + 2 ≤ last_revision
      → Runs live (Comes left (λ then (many : ℕ). Became (with_freed what rows) (store.counter + 2) then)) store moment (free_once what again left)
  free-once what again left store moment rows is spare =
      runs-get live (Comes left (λ then (many : ℕ). Became (with_freed what rows) (store.counter + 2) then)) store moment idle (key.Block what.block) (λ at said. free_found what again left (block_said said))
      (λ good. subst (λ (after : Rows). Runs live (Comes left (λ then (many : ℕ). Became after (store.counter + 2) then)) store (moment + 1) (free_found what again left (block_said (reply_of store (Get (key.Block what.block))))))
      (freed-same what (block_in_rows what.block store.rows) (block_in_rows what.block rows) rows (alike-block what.block store.rows rows is.alike))
      (by (row_of (key.Block what.block) store.rows) refl))
    where
      by : (o : Option (ℕ × Record)) → row_of (key.Block what.block) store.rows ≡ o
          → Runs live (Comes left (λ then (many : ℕ). Became (with_freed_found what (block_said (reply_to_get o)) rows) (store.counter + 2) then)) store (moment + 1) (free_found what again left (block_said (reply_to_get o)))
      by None e = (refl, record { is_as = is; taken = omega arith })
      by (Some row) e =
          let (b, at, same) = found-block what.block row.1 (found-key store (key.Block what.block) row.0 row.1 e) in
          let there = subst (λ (c : CidrValue). HasAt store (key.Block c) row.0 (record_of.Block b)) (sym same) (e ∙ ap (λ (x : Record). Some (row.0, x)) at) in
          subst (λ (x : Record). Runs live (Comes left (λ then (many : ℕ). Became (with_freed_found what (block_said (Found row.0 x)) rows) (store.counter + 2) then)) store (moment + 1) (free_found what again left (block_said (Found row.0 x)))) (sym at)
          (free-these what again left store (moment + 1) rows (count_by what.picks b.allocations) (row.0, b) there same is spare)

  free-tries : (what : FreedOfHandle) (races claims : ℕ) (store : Datastore) (moment : ℕ) (rows : Rows) → IsAs store rows → store.counter + 2 ≤ last_revision
      → Runs live (Comes (left_of races claims) (λ then (many : ℕ). Became (with_freed what rows) (store.counter + 2) then)) store moment (tries (free_once what) races claims)
  unfolding tries
  free-tries what zero claims store moment rows is spare = free-once what (stops (left_of zero claims) OutOfTries) (left_of zero claims) store moment rows is spare
  free-tries what (suc races) claims store moment rows is spare = free-once what (tries (free_once what) races claims) (left_of (suc races) claims) store moment rows is spare

  pub free-comes : (what : FreedOfHandle) (left : Left) (store : Datastore) (moment : ℕ) (rows : Rows) → IsAs store rows → store.counter + 2 ≤ last_revision
      → Runs live (Comes left (λ then (many : ℕ). Became (with_freed what rows) (store.counter + 2) then)) store moment (free what left)
  free-comes what left store moment rows is spare = free-tries what left.races left.claims store moment rows is spare
