-- The other requests lose no race where they run alone; so none is answered that it was tried too often.
use Rattle.std.proofs.Common.{◌≡◌, ◌≢◌, ℕ, ◌+◌, Bool, true, false, cond, List, [], ◌∷◌, map, Option, Some, None, refl, sym, ap, ◌∙◌, subst}
use Rattle.std.specs.Prelude.{◌==◌}
use Rattle.std.proofs.lemmas.Bool.{eqb-false}
use Rattle.ipam_addr.specs.Shape.{CidrValue}
use Rattle.ipam_block.specs.declared.record.Affinity.{Affinity}
use Rattle.ipam_block.specs.declared.state.State.TheVariants.{PendingDeletion}
use Rattle.ipam_records.specs.declared.call.Call.TheVariants.{Get, List as ListAll, Delete, Update}
use Rattle.ipam_records.specs.declared.key.Key.TheVariants as key
use Rattle.ipam_records.specs.declared.key.Kind.TheVariants as kind
use Rattle.ipam_records.specs.declared.record.Record.{Record}
use Rattle.ipam_records.specs.declared.record.Record.TheVariants as record_of
use Rattle.ipam_records.specs.Datastore.{Datastore, reply_of, reply_to_get, row_of}
use Rattle.ipam_records.specs.Label.{idle}
use Rattle.ipam_records.specs.Said.{Found, Said}
use Rattle.ipam_records.specs.Word.{Asks, Ends, Waits, Word}
use Rattle.ipam_model.specs.declared.answer.Collected.{Collected}
use Rattle.ipam_model.specs.declared.outcome.AdminAnswer.{AdminAnswer}
use Rattle.ipam_model.specs.declared.outcome.AdminAnswer.TheVariants as admin
use Rattle.ipam_model.specs.declared.outcome.CollectAnswer.{CollectAnswer}
use Rattle.ipam_model.specs.declared.outcome.CollectAnswer.TheVariants as collect
use Rattle.ipam_model.specs.declared.outcome.DelAnswer.{DelAnswer}
use Rattle.ipam_model.specs.declared.outcome.DelAnswer.TheVariants as del
use Rattle.ipam_model.specs.declared.outcome.ReleaseAnswer.{ReleaseAnswer}
use Rattle.ipam_model.specs.declared.outcome.ReleaseAnswer.TheVariants as released
use Rattle.ipam_model.specs.declared.part.Left.{Left}
use Rattle.ipam_model.specs.declared.part.Outcome.{Outcome}
use Rattle.ipam_model.specs.declared.part.Outcome.TheVariants.{Went, Stops}
use Rattle.ipam_model.specs.declared.part.Stop.TheVariants.{OutOfTries, OutOfClaims, NoRoom, CountAtLimit, NoRevisions}
use Rattle.ipam_model.specs.declared.request.Admin.{Admin as Setting}
use Rattle.ipam_model.specs.declared.request.CollectRequest.{CollectRequest}
use Rattle.ipam_model.specs.Admin as change
use Rattle.ipam_model.specs.Affinities.{BlockRead, Tie, affinity, baring, is_at_mark, release, release_block, release_delete, release_found, release_look, release_once, release_stops}
use Rattle.ipam_model.specs.AffinityLaw.{HasAt}
use Rattle.ipam_model.specs.Counting.{free, freeing_all}
use Rattle.ipam_model.specs.Reads.{affinity_said, block_said, handle_said, rows_said}
use Rattle.ipam_model.specs.Remove.{Leak, collect_stops, collect_word, del_blocks, del_stops, del_word, free_leaks, freeing_owner, item_of, leaks, suspects, with_item}
use Rattle.ipam_model.specs.Step.{Part, StopAnswers, all_left, answer_of, goes, left_of, onward, as_word, stops, tries, write_back}
use Rattle.ipam_laws.proofs.AloneCalls.{IsUnlost, Runs, Runs-bound, create-unlost, delete-unlost, runs-get, runs-list, unlost-runs, update-unlost}
use Rattle.ipam_laws.proofs.AloneParts.{IsWant, Unlost, back-unlost, free-runs, put-keeps, put-there}
use Rattle.ipam_laws.proofs.Calls.{found-key}
use Rattle.ipam_laws.proofs.DebtCalls.{Puts, create-puts, update-puts}
use Rattle.ipam_laws.proofs.Lift.{behind}
use Rattle.ipam_laws.proofs.RequestSteps.{key-changed}
use Rattle.ipam_laws.proofs.Steps.{IsAsRead, bared}
use Rattle.ipam_laws.proofs.AloneParts.{found-as_read}
use Rattle.ipam_laws.proofs.WriteSteps.{found-affinity}

-- ---- answers

-- what a part that was not tried too often is answered
abbrev pub NotTried : {A : Type 0} → (A → Type 0) → Datastore → Outcome A → Type 0
NotTried Fine then (Went now value) = Fine value
NotTried Fine then (Stops now why) = IsWant why

pub settles-runs : {A : Type 0} → (live : List (List ℕ)) (Fine : A → Type 0) (answers : StopAnswers A) → Fine answers.full → ((moment : ℕ) → Fine (answers.count_full moment)) → Fine answers.spent → (part : Part A) (store : Datastore) (moment : ℕ) → Runs live (NotTried Fine) store moment part
    → Runs live (λ then value. Fine value) store moment (as_word answers part)
settles-runs {A} live Fine answers full count spent part store moment h = Runs-bound live (NotTried Fine) (λ then value. Fine value) (λ outcome. Ends (answer_of answers outcome)) part store moment h ends
  where
    ends : (then : Datastore) (later : ℕ) (outcome : Outcome A) → NotTried Fine then outcome → Fine (answer_of answers outcome)
    ends then later (Went now value) k = k
    ends then later (Stops now OutOfTries) k = absurd k
    ends then later (Stops now OutOfClaims) k = absurd k
    ends then later (Stops now NoRoom) k = full
    ends then later (Stops now (CountAtLimit at)) k = count at
    ends then later (Stops now NoRevisions) k = spent

-- ---- DEL and collection

abbrev pub NotAgainDel : DelAnswer → Type 0
NotAgainDel told = (lost : ℕ) → told ≢ del.Again lost

abbrev pub NotAgainCollect : CollectAnswer → Type 0
NotAgainCollect told = (lost : ℕ) → told ≢ collect.Again lost

del-blocks : (id : List ℕ) (at : ℕ) (list : List CidrValue) (left : Left) (store : Datastore) (moment : ℕ) → Runs [] (NotTried NotAgainDel) store moment (del_blocks id at list left)
unfolding del_blocks
del-blocks id at [] left store moment = λ lost e. cc e
del-blocks id at (cidr ∷ rest) left store moment =
    Runs-bound [] (Unlost left) (NotTried NotAgainDel) (onward (λ now amount. del_blocks id at rest now)) (free (freeing_all id cidr) left) store moment (free-runs [] (freeing_all id cidr) left store moment)
    (λ then later outcome k. ends then later outcome k (λ now. del-blocks id at rest now then later))
  where
    ends : (then : Datastore) (later : ℕ) (outcome : Outcome ℕ) → Unlost left then outcome → ((now : Left) → Runs [] (NotTried NotAgainDel) then later (del_blocks id at rest now)) → Runs [] (NotTried NotAgainDel) then later (onward (λ now amount. del_blocks id at rest now) outcome)
    ends then later (Went now amount) k h = h now
    ends then later (Stops now why) k h = k

pub del-runs : (id : List ℕ) (store : Datastore) (moment : ℕ) → Runs [] (λ then told. NotAgainDel told) store moment (del_word id)
del-runs id store moment =
    runs-get [] (λ then told. NotAgainDel told) store moment idle (key.Handle id) (λ at said. as_word del_stops (del_blocks id at (map (λ count. count.0) (handle_said id said).counts) all_left))
    (λ good. settles-runs [] NotAgainDel del_stops (λ lost e. cc e) (λ at lost e. cc e) (λ lost e. cc e) (del_blocks id moment (map (λ count. count.0) (handle_said id (reply_of store (Get (key.Handle id)))).counts) all_left) store (moment + 1)
    (del-blocks id moment (map (λ count. count.0) (handle_said id (reply_of store (Get (key.Handle id)))).counts) all_left store (moment + 1)))

free-leaks : (live : List (List ℕ)) (done : Collected) (list : List Leak) (left : Left) (store : Datastore) (moment : ℕ) → Runs live (NotTried NotAgainCollect) store moment (free_leaks done list left)
unfolding free_leaks
free-leaks live done [] left store moment = λ lost e. cc e
free-leaks live done (leak ∷ rest) left store moment =
    Runs-bound live (Unlost left) (NotTried NotAgainCollect) (onward (λ now amount. free_leaks (with_item done (item_of leak amount)) rest now)) (free (freeing_owner leak.owner leak.block) left) store moment (free-runs live (freeing_owner leak.owner leak.block) left store moment)
    (λ then later outcome k. ends then later outcome k (λ now amount. free-leaks live (with_item done (item_of leak amount)) rest now then later))
  where
    ends : (then : Datastore) (later : ℕ) (outcome : Outcome ℕ) → Unlost left then outcome → ((now : Left) (amount : ℕ) → Runs live (NotTried NotAgainCollect) then later (free_leaks (with_item done (item_of leak amount)) rest now))
        → Runs live (NotTried NotAgainCollect) then later (onward (λ now amount. free_leaks (with_item done (item_of leak amount)) rest now) outcome)
    ends then later (Went now amount) k h = h now amount
    ends then later (Stops now why) k h = k

pub collect-runs : (request : CollectRequest) (live : List (List ℕ)) (store : Datastore) (moment : ℕ) → Runs live (λ then told. NotAgainCollect told) store moment (collect_word request)
collect-runs request live store moment =
    let Q : Datastore → CollectAnswer → Type 0 = λ then told. NotAgainCollect told in
    let second : (b1 : ℕ) (first : Said) → ℕ → Said → Word CollectAnswer = λ b1 first b2 said.
    as_word collect_stops (free_leaks (record { b1 = b1; b2 = b2; items = [] }) (leaks (suspects request (rows_said first)) live (rows_said said)) all_left) in
    let first_rows = reply_of store (ListAll kind.Block) in
    runs-list live Q store moment idle kind.Block
    (λ b1 first. Waits (λ list. Asks idle (ListAll kind.Block) (λ b2 said. as_word collect_stops (free_leaks (record { b1 = b1; b2 = b2; items = [] }) (leaks (suspects request (rows_said first)) list (rows_said said)) all_left))))
    (λ g1. runs-list live Q store (moment + 1 + 1) idle kind.Block (second moment first_rows)
    (λ g2. settles-runs live NotAgainCollect collect_stops (λ lost e. cc e) (λ at lost e. cc e) (λ lost e. cc e)
    (free_leaks (record { b1 = moment; b2 = moment + 1 + 1; items = [] }) (leaks (suspects request (rows_said first_rows)) live (rows_said first_rows)) all_left) store (moment + 1 + 1 + 1)
    (free-leaks live (record { b1 = moment; b2 = moment + 1 + 1; items = [] }) (leaks (suspects request (rows_said first_rows)) live (rows_said first_rows)) all_left store (moment + 1 + 1 + 1))))

-- ---- changes of settings

abbrev pub NotAgainAdmin : AdminAnswer → Type 0
NotAgainAdmin told = (lost : ℕ) → told ≢ admin.Again lost

admin-once : (setting : Setting) (again : Part AdminAnswer) (left : Left) (store : Datastore) (moment : ℕ) → Runs [] (NotTried NotAgainAdmin) store moment (change.admin_once setting again left)
admin-once setting again left store moment =
    runs-get [] (NotTried NotAgainAdmin) store moment idle (change.key_changed setting) (λ at said. change.admin_write again left said (change.admin_change setting said))
    (λ good. by (change.admin_change setting (reply_of store (Get (change.key_changed setting)))) refl)
  where
    by : (what : change.Changed) → change.admin_change setting (reply_of store (Get (change.key_changed setting))) ≡ what → Runs [] (NotTried NotAgainAdmin) store (moment + 1) (change.admin_write again left (reply_of store (Get (change.key_changed setting))) what)
    by (change.Refuses number name) e = λ lost f. cc f
    by (change.Becomes new) e = λ good.
        let said = reply_of store (Get (change.key_changed setting)) in
        let asked = write_back said new in
        unlost-runs [] (NotTried NotAgainAdmin) (behind store asked) (moment + 1 + 1) (reply_of store asked) (λ revision. goes left (admin.Done revision)) again (stops left NoRoom) (stops left NoRevisions)
        (back-unlost store (change.key_changed setting) new (key-changed setting said new e)) (λ r f lost g. cc g) tt tt

pub admin-runs : (setting : Setting) (store : Datastore) (moment : ℕ) → Runs [] (λ then told. NotAgainAdmin told) store moment (change.admin_word setting)
unfolding tries
admin-runs setting store moment =
    settles-runs [] NotAgainAdmin change.admin_stops (λ lost e. cc e) (λ at lost e. cc e) (λ lost e. cc e) (tries (change.admin_once setting) 63 63) store moment
    (admin-once setting (tries (change.admin_once setting) 62 63) (left_of 63 63) store moment)

-- ---- a release

abbrev pub NotAgainRelease : ReleaseAnswer → Type 0
NotAgainRelease told = (lost : ℕ) → told ≢ released.Again lost

module _ (node : List ℕ) (cidr : CidrValue) where
  abbrev tie : Tie
  tie = record { node = node; block = cidr }

  abbrev Fine : Datastore → Outcome ReleaseAnswer → Type 0
  Fine = NotTried NotAgainRelease

  baring-puts : (read : BlockRead) → Puts (baring node cidr read) (record_of.Block (bared node cidr read))
  baring-puts None = create-puts (record_of.Block (bared node cidr None))
  baring-puts (Some found) = update-puts (record_of.Block (bared node cidr (Some found))) found.0

  baring-unlost : (read : BlockRead) (store : Datastore) → IsAsRead store cidr read → IsUnlost (reply_of store (baring node cidr read))
  baring-unlost None store as_read = create-unlost store (record_of.Block (bared node cidr None)) as_read
  baring-unlost (Some found) store as_read =
      update-unlost store (record_of.Block (bared node cidr (Some found))) (record_of.Block found.1) found.0
      (subst (λ (c : CidrValue). HasAt store (key.Block c) found.0 (record_of.Block found.1)) (sym as_read.0) as_read.1)

  release-delete : (again : Part ReleaseAnswer) (left : Left) (mark : ℕ) (a : Record) (store : Datastore) (moment : ℕ) → HasAt store (key.Affinity node cidr) mark a → Runs [] Fine store moment (release_delete tie again left mark)
  release-delete again left mark a store moment there good =
      let asked = Delete (key.Affinity node cidr) mark in
      unlost-runs [] Fine (behind store asked) (moment + 1) (reply_of store asked) (λ r. goes left released.Released) again (stops left NoRoom) (stops left NoRevisions)
      (delete-unlost store (key.Affinity node cidr) a mark there) (λ r e lost f. cc f) tt tt

  release-block : (again : Part ReleaseAnswer) (left : Left) (mark : ℕ) (a : Record) (read : BlockRead) (store : Datastore) (moment : ℕ) → HasAt store (key.Affinity node cidr) mark a → IsAsRead store cidr read → Runs [] Fine store moment (release_block tie again left mark read)
  release-block again left mark a read store moment there as_read good =
      let asked = baring node cidr read in
      let new = record_of.Block (bared node cidr read) in
      unlost-runs [] Fine (behind store asked) (moment + 1) (reply_of store asked) (λ r. release_delete tie again left mark) again (stops left NoRoom) (stops left NoRevisions)
      (baring-unlost read store as_read)
      (λ r e. release-delete again left mark a (behind store asked) (moment + 1) (put-keeps store asked new r (baring-puts read) e (key.Affinity node cidr) (λ f. cc f) ∙ there)) tt tt

  at-itself : (mark : ℕ) → (mark == mark) ≡ true
  at-itself mark = by (mark == mark) refl
    where
      by : (b : Bool) → (mark == mark) ≡ b → (mark == mark) ≡ true
      by true e = e
      by false e = absurd (eqb-false mark mark e refl)

  release-look : (again : Part ReleaseAnswer) (left : Left) (mark : ℕ) (a : Affinity) (store : Datastore) (moment : ℕ) → HasAt store (key.Affinity node cidr) mark (record_of.Affinity a) → Runs [] Fine store moment (release_look tie again left mark)
  release-look again left mark a store moment there =
      let seen = reply_of store (Get (key.Block cidr)) in
      let second : ℕ → Said → Part ReleaseAnswer = λ at said. cond (is_at_mark mark (affinity_said said)) (release_block tie again left mark (block_said seen)) again in
      runs-get [] Fine store moment idle (key.Block cidr) (λ at seen. Asks idle (Get (key.Affinity node cidr)) (λ second said. cond (is_at_mark mark (affinity_said said)) (release_block tie again left mark (block_said seen)) again))
      (λ g1. runs-get [] Fine store (moment + 1) idle (key.Affinity node cidr) second
      (λ g2.
      let P : Said → Type 0 = λ said. Runs [] Fine store (moment + 1 + 1) (cond (is_at_mark mark (affinity_said said)) (release_block tie again left mark (block_said seen)) again) in
      let t = at-itself mark in
      let at_mark : is_at_mark mark (affinity_said (Found mark (record_of.Affinity a))) ≡ true = t in
      let goes_on = release-block again left mark (record_of.Affinity a) (block_said seen) store (moment + 1 + 1) there (found-as_read store cidr) in
      let found : P (Found mark (record_of.Affinity a)) = subst (λ (b : Bool). Runs [] Fine store (moment + 1 + 1) (cond b (release_block tie again left mark (block_said seen)) again)) (sym at_mark) goes_on in
      subst P (sym (ap reply_to_get there)) found))

  release-once : (again : Part ReleaseAnswer) (left : Left) (store : Datastore) (moment : ℕ) → Runs [] Fine store moment (release_once tie again left)
  release-once again left store moment =
      runs-get [] Fine store moment idle (key.Affinity node cidr) (λ at said. release_found tie again left at (affinity_said said)) (λ good. by (row_of (key.Affinity node cidr) store.rows) refl)
    where
      by : (o : Option (ℕ × Record)) → row_of (key.Affinity node cidr) store.rows ≡ o → Runs [] Fine store (moment + 1) (release_found tie again left moment (affinity_said (reply_to_get o)))
      by None e = λ lost f. cc f
      by (Some row) e =
          let (a, is, whole) = found-affinity tie row.1 (found-key store (key.Affinity node cidr) row.0 row.1 e) in
          let marked = affinity node cidr PendingDeletion in
          let asked = Update (record_of.Affinity marked) row.0 in
          subst (λ (x : Record). Runs [] Fine store (moment + 1) (release_found tie again left moment (affinity_said (Found row.0 x)))) (sym is)
          (λ good. unlost-runs [] Fine (behind store asked) (moment + 1 + 1) (reply_of store asked) (release_look tie again left) again (stops left NoRoom) (stops left NoRevisions)
          (update-unlost store (record_of.Affinity marked) row.1 row.0 e)
          (λ r f. release-look again left r marked (behind store asked) (moment + 1 + 1) (put-there store asked (record_of.Affinity marked) r (update-puts (record_of.Affinity marked) row.0) f)) tt tt)

  pub release-runs : (store : Datastore) (moment : ℕ) → Runs [] (λ then told. NotAgainRelease told) store moment (release node cidr)
  unfolding tries
  release-runs store moment =
      settles-runs [] NotAgainRelease release_stops (λ lost e. cc e) (λ at lost e. cc e) (λ lost e. cc e) (tries (release_once tie) 63 63) store moment
      (release-once (tries (release_once tie) 62 63) (left_of 63 63) store moment)
