-- Raising and lowering a count, freeing, and assigning: their labels say what their calls have made.
use Rattle.std.proofs.Common.{◌≡◌, ◌≢◌, ℕ, zero, suc, ◌≤◌, inr, Bool, true, false, cond, List, [], ◌∷◌, Option, Some, None, refl, sym, ap, ◌∙◌, subst, arith}
use Rattle.std.specs.Prelude.{nat_le}
use Rattle.ipam_addr.specs.Shape.{CidrValue}
use Rattle.ipam_block.specs.HandleShape.{HandleValue}
use Rattle.ipam_block.specs.HandleOperations.{content, count_in, count_of, with_lowered_count, with_raised_count}
use Rattle.ipam_block.specs.HandleSound.{AreCounts}
use Rattle.ipam_records.specs.declared.call.Call.{Call}
use Rattle.ipam_records.specs.declared.call.Call.TheVariants.{Get, Update, Delete}
use Rattle.ipam_records.specs.declared.key.Key.TheVariants as key
use Rattle.ipam_records.specs.declared.record.Record.{Record}
use Rattle.ipam_records.specs.declared.record.Record.TheVariants as record_of
use Rattle.ipam_records.specs.Datastore.{Datastore, reply_of, reply_to_get, row_of}
use Rattle.ipam_records.specs.Label.{Credit, owing}
use Rattle.ipam_records.specs.Said.{Said, Found, Missing, Can}
use Rattle.ipam_records.specs.Sound.{IsDatastore, IsRow}
use Rattle.ipam_records.specs.Word.{Asks}
use Rattle.ipam_records.proofs.HearingLemmas.{All-row_of}
use Rattle.ipam_model.specs.declared.part.Left.{Left}
use Rattle.ipam_model.specs.declared.part.Outcome.{Outcome}
use Rattle.ipam_model.specs.declared.part.Outcome.TheVariants.{Went, Stops}
use Rattle.ipam_model.specs.declared.part.Stop.TheVariants.{OutOfTries, NoRoom, CountAtLimit, NoRevisions}
use Rattle.ipam_model.specs.declared.request.Request.{Request}
use Rattle.ipam_model.specs.AffinityLaw.{HasAt}
use Rattle.ipam_model.specs.CountLaw.{count_in_row, handle_count}
use Rattle.ipam_model.specs.Counting.{credit_of, lower, lower_once, lowering, most_count, raise, raise_once, raise_write, revision_said, written_or_deleted}
use Rattle.ipam_model.specs.Reads.{handle_said}
use Rattle.ipam_model.specs.Step.{Part, part_then, goes, left_of, on_write, onward, stops, tries, write_back}
use Rattle.ipam_laws.proofs.Calls.{create-can, found-handle, found-key, update-can}
use Rattle.ipam_laws.proofs.DebtCalls.{back-puts, delete-harmless, handle-harmless, lowered-less, lowered-nothing, raise-frees_none, raise-only, raise-raises, update-puts}
use Rattle.ipam_laws.proofs.Debts.{Debt, Done, Freed, Harmless, Nothing, Owes, Raised, credit_in, owes-paid, owes-raised, owes-used}
use Rattle.ipam_laws.proofs.PointTrails.{plain-nowhere}
use Rattle.ipam_laws.proofs.Losses.{back-new}
use Rattle.ipam_laws.proofs.Says.{Clean, Rests, Says, Says-bound, Stays, StopsClean, Tells, delete-has_room, delete-plain, handle-plain, rests-tells, stays-read, stays-undone, update-has_room, wrote}
use Rattle.ipam_laws.proofs.Trails.{AgreesAll, AgreesWith, Did, Trail}

-- ---- a handle as it was read

-- the handle was found, or is missing and stands for one without counts
data HandleRead (store : Datastore) (id : List ℕ) (said : Said) : Type 0 where
  WasMissing : said ≡ Missing → HandleRead store id said
  WasFound : (revision : ℕ) (h : HandleValue) → said ≡ Found revision (record_of.Handle h) → h.id ≡ id → HasAt store (key.Handle id) revision (record_of.Handle h) → AreCounts h.counts → HandleRead store id said

handle-read : (store : Datastore) (id : List ℕ) → IsDatastore store → HandleRead store id (reply_of store (Get (key.Handle id)))
handle-read store id sound = from (row_of (key.Handle id) store.rows) refl
  where
    from : (o : Option (ℕ × Record)) → row_of (key.Handle id) store.rows ≡ o → HandleRead store id (reply_to_get o)
    from None e = WasMissing refl
    from (Some row) e =
        let (h, is, same) = found-handle id row.1 (found-key store (key.Handle id) row.0 row.1 e) in
        let there : HasAt store (key.Handle id) row.0 (record_of.Handle h) = e ∙ ap (λ (x : Record). Some (row.0, x)) is in
        let kept = (All-row_of (λ (r : ℕ × Record). IsRow store.counter r) (key.Handle id) store.rows (row.0, record_of.Handle h) sound.rows there).is_record in
        WasFound row.0 h (ap (Found row.0) is) same there kept.counts

-- where it is written back, it is there as it was read
written-back : (store other : Datastore) (id : List ℕ) (said : Said) → AgreesWith store other → HandleRead store id said → (new : HandleValue) → new.id ≡ (handle_said id said).id → (r : ℕ) → reply_of other (write_back said (record_of.Handle new)) ≡ Can r
    → (c : CidrValue) → handle_count other new.id c ≡ count_of (handle_said id said) c
written-back store other id said agrees (WasMissing e) new same r can c =
    let P : Said → Type 0 = λ s. new.id ≡ (handle_said id s).id → reply_of other (write_back s (record_of.Handle new)) ≡ Can r → handle_count other new.id c ≡ count_of (handle_said id s) c in
    let created : P Missing = λ own f. ap (count_in_row new.id c) (create-can other (record_of.Handle new) r f) in
    subst P (sym e) created same can
written-back store other id said agrees (WasFound revision h e own there sound) new same r can c =
    let P : Said → Type 0 = λ s. new.id ≡ (handle_said id s).id → reply_of other (write_back s (record_of.Handle new)) ≡ Can r → handle_count other new.id c ≡ count_of (handle_said id s) c in
    let updated : P (Found revision (record_of.Handle h)) = λ mine f.
    let (found, at) = update-can other (record_of.Handle new) revision r f in
    let at_id = subst (λ (x : List ℕ). HasAt other (key.Handle x) revision found) (mine ∙ own) at in
    let is = agrees (key.Handle id) revision (record_of.Handle h) found there at_id in
    ap (count_in_row new.id c) at ∙ ap (λ (x : Record). count_in_row new.id c (Some (revision, x))) (sym is) in
    subst P (sym e) updated same can

said-id : (store : Datastore) (id : List ℕ) (said : Said) → HandleRead store id said → (handle_said id said).id ≡ id
said-id store id said (WasMissing e) = ap (λ (s : Said). (handle_said id s).id) e
said-id store id said (WasFound revision h e own there sound) = ap (λ (s : Said). (handle_said id s).id) e ∙ own

module _ (request : Request) where
  -- ---- raising

  -- the count is raised, or nothing is owed
  unfoldable pub RaiseEnds : List ℕ → CidrValue → Trail → Outcome (Unit {0}) → Type 0
  RaiseEnds id cidr trail (Went left done) = Stays request (Raised id cidr) trail
  RaiseEnds id cidr trail (Stops left why) = StopsClean request trail why

  raise-done : (id : List ℕ) (cidr : CidrValue) (said : Said) (moment : ℕ) (store other : Datastore) (trail : Trail) → AgreesWith store other → HandleRead store id said → Rests request trail → (r : ℕ)
      → reply_of other (write_back said (record_of.Handle (with_raised_count (handle_said id said) cidr 1))) ≡ Can r
      → Stays request (Raised id cidr) (Did moment other (write_back said (record_of.Handle (with_raised_count (handle_said id said) cidr 1))) ∷ trail)
  raise-done id cidr said moment store other trail agrees read rests r e =
      let h = handle_said id said in
      let new = record_of.Handle (with_raised_count h cidr 1) in
      let asked = write_back said new in
      let own = said-id store id said read in
      let puts = back-puts said new in
      let before = written-back store other id said agrees read (with_raised_count h cidr 1) refl r e in
      let owes = owes-raised moment other asked trail h.id cidr (raise-raises other h cidr asked puts before r e) (raise-only other h cidr asked puts before) (raise-frees_none other h cidr asked puts before) rests.owes in
      record {
        owes = subst (λ (i : List ℕ). Owes (Did moment other asked ∷ trail) (Raised i cidr)) own owes;
        point = plain-nowhere request moment other asked trail (handle-plain asked (with_raised_count h cidr 1) (back-new said new));
      }

  raise-once : (id : List ℕ) (cidr : CidrValue) (again : Part (Unit {0})) (left : Left) → ((longer : Trail) → Rests request longer → Says request (RaiseEnds id cidr) longer again) → (trail : Trail) → Rests request trail → Says request (RaiseEnds id cidr) trail (raise_once id cidr again left)
  unfolding RaiseEnds AgreesAll
  raise-once id cidr again left h trail rests = (
    rests-tells request trail rests,
    λ moment store agrees sound.
        by moment store (stays-read request moment store trail Nothing rests (key.Handle id) (λ node c e. cc e)) (handle-read store id sound) (nat_le most_count (count_of (handle_said id (reply_of store (Get (key.Handle id)))) cidr)),
  )
    where
      by : (moment : ℕ) (store : Datastore) → Rests request (Did moment store (Get (key.Handle id)) ∷ trail) → HandleRead store id (reply_of store (Get (key.Handle id))) → (b : Bool) → Says request (RaiseEnds id cidr) (Did moment store (Get (key.Handle id)) ∷ trail)
          (cond b (stops left (CountAtLimit moment)) (raise_write id cidr again left (reply_of store (Get (key.Handle id)))))
      by moment store now read true = now
      by moment store now read false =
          let said = reply_of store (Get (key.Handle id)) in
          let new = record_of.Handle (with_raised_count (handle_said id said) cidr 1) in
          let asked = write_back said new in
          let before : Trail = Did moment store (Get (key.Handle id)) ∷ trail in (
            rests-tells request before now,
            λ second other agrees sound.
                let longer : Trail = Did second other asked ∷ before in
                let lost : ((revision : ℕ) → reply_of other asked ≢ Can revision) → Rests request longer = λ f. stays-undone request second other before Nothing now asked (handle-plain asked (with_raised_count (handle_said id said) cidr 1) (back-new said new)) f in
                wrote request (RaiseEnds id cidr) longer (reply_of other asked) (reply_of other asked) (λ revision. goes left tt) again (stops left NoRoom) (stops left NoRevisions) refl
                (λ r e. raise-done id cidr said second store other before agrees.0 read now r e)
                (λ f. h longer (lost f)) (λ full f. lost f) (λ f. tt),
          )

  raise-tries : (id : List ℕ) (cidr : CidrValue) (races claims : ℕ) (trail : Trail) → Rests request trail → Says request (RaiseEnds id cidr) trail (tries (raise_once id cidr) races claims)
  unfolding tries RaiseEnds
  raise-tries id cidr zero claims = raise-once id cidr (stops (left_of zero claims) OutOfTries) (left_of zero claims) (λ longer rests. tt)
  raise-tries id cidr (suc races) claims = raise-once id cidr (tries (raise_once id cidr) races claims) (left_of (suc races) claims) (raise-tries id cidr races claims)

  pub raise-says : (id : List ℕ) (cidr : CidrValue) (left : Left) (trail : Trail) → Rests request trail → Says request (RaiseEnds id cidr) trail (raise id cidr left)
  raise-says id cidr left = raise-tries id cidr left.races left.claims

  -- ---- lowering

  -- what is owed is this credit
  pub data IsCreditOf (credit : Credit) : Debt → Type 0 where
    OfRaised : (id : List ℕ) (cidr : CidrValue) → credit ≡ credit_of id cidr 1 → IsCreditOf credit (Raised id cidr)
    OfFreed : IsCreditOf credit (Freed credit)

  owed-credit : (credit : Credit) (debt : Debt) → IsCreditOf credit debt → Some credit ≡ credit_in debt
  owed-credit credit (Raised id cidr) (OfRaised same block e) = ap Some e
  owed-credit credit (Freed same) OfFreed = refl
  owed-credit credit Nothing none = elim none [ ]

  owing-tells : (credit : Credit) (debt : Debt) (trail : Trail) → IsCreditOf credit debt → Stays request debt trail → Tells request trail (owing credit)
  owing-tells credit debt trail is h = record { debt = debt; owes = h.owes; credit = owed-credit credit debt is; point = h.point }

  -- a write of the handle makes up for it
  paid : (moment : ℕ) (store : Datastore) (asked : Call) (trail : Trail) (credit : Credit) (debt : Debt) → IsCreditOf credit debt → Harmless store asked → Done store asked (key.Handle credit.handle) → Owes trail debt → Owes (Did moment store asked ∷ trail) Nothing
  paid moment store asked trail credit (Raised id cidr) (OfRaised same block e) harmless done owes =
      owes-used moment store asked trail id cidr harmless (inr (subst (λ (c : Credit). Done store asked (key.Handle c.handle)) e done)) owes
  paid moment store asked trail credit (Freed same) OfFreed harmless done owes = owes-paid moment store asked trail credit harmless done owes
  paid moment store asked trail credit Nothing none harmless done owes = elim none [ ]

  module _ (credit : Credit) (debt : Debt) (is : IsCreditOf credit debt) where
    lower-read : (again : Part (Unit {0})) (left : Left) → ((longer : Trail) → Stays request debt longer → Says request (Clean request) longer again) → (moment : ℕ) (store : Datastore) (trail : Trail) → (h : HandleValue) (revision : ℕ) → h.id ≡ credit.handle
        → ((other : Datastore) (r : ℕ) → AgreesAll other (Did moment store (Get (key.Handle credit.handle)) ∷ trail) → reply_of other (Update (record_of.Handle (with_lowered_count h credit.block credit.amount)) revision) ≡ Can r → (c : CidrValue) → count_of (with_lowered_count h credit.block credit.amount) c ≤ handle_count other h.id c)
        → Stays request debt (Did moment store (Get (key.Handle credit.handle)) ∷ trail) → (counts : List (CidrValue × ℕ))
        → Says request (Clean request) (Did moment store (Get (key.Handle credit.handle)) ∷ trail) (Asks (owing credit) (written_or_deleted (with_lowered_count h credit.block credit.amount) counts revision) (λ second reply. on_write reply left (λ taken. goes left tt) again))
    lower-read again left a moment store trail h revision own less now [] =
        let before : Trail = Did moment store (Get (key.Handle credit.handle)) ∷ trail in
        let asked = Delete (key.Handle h.id) revision in (
          owing-tells credit debt before is now,
          λ second other agrees sound.
              let longer : Trail = Did second other asked ∷ before in
              let lost : ((r : ℕ) → reply_of other asked ≢ Can r) → Stays request debt longer = λ f. stays-undone request second other before debt now asked (delete-plain (key.Handle h.id) revision) f in
              wrote request (Clean request) longer (reply_of other asked) (reply_of other asked) (λ taken. goes left tt) again (stops left NoRoom) (stops left NoRevisions) refl
              (λ r e. record {
                owes = paid second other asked before credit debt is (delete-harmless other h.id revision) (record { writes = ap (λ i. Some (key.Handle i)) own; revision = r; can = e }) now.owes;
                point = plain-nowhere request second other asked before (delete-plain (key.Handle h.id) revision);
              })
              (λ f. a longer (lost f)) (λ full f. absurd (delete-has_room other (key.Handle h.id) revision full)) (λ f. tt),
        )
    lower-read again left a moment store trail h revision own less now (count ∷ counts) =
        let before : Trail = Did moment store (Get (key.Handle credit.handle)) ∷ trail in
        let new = with_lowered_count h credit.block credit.amount in
        let asked = Update (record_of.Handle new) revision in (
          owing-tells credit debt before is now,
          λ second other agrees sound.
              let longer : Trail = Did second other asked ∷ before in
              let lost : ((r : ℕ) → reply_of other asked ≢ Can r) → Stays request debt longer = λ f. stays-undone request second other before debt now asked (handle-plain asked new refl) f in
              wrote request (Clean request) longer (reply_of other asked) (reply_of other asked) (λ taken. goes left tt) again (stops left NoRoom) (stops left NoRevisions) refl
              (λ r e. record {
                owes = paid second other asked before credit debt is (handle-harmless other asked new (update-puts (record_of.Handle new) revision) (λ t f c. less other t agrees f c)) (record { writes = ap (λ i. Some (key.Handle i)) own; revision = r; can = e }) now.owes;
                point = plain-nowhere request second other asked before (handle-plain asked new refl);
              })
              (λ f. a longer (lost f)) (λ full f. absurd (update-has_room other (record_of.Handle new) revision full)) (λ f. tt),
        )

    lower-said : (again : Part (Unit {0})) (left : Left) → ((longer : Trail) → Stays request debt longer → Says request (Clean request) longer again) → (moment : ℕ) (store : Datastore) (trail : Trail) → (said : Said) → HandleRead store credit.handle said
        → Stays request debt (Did moment store (Get (key.Handle credit.handle)) ∷ trail)
        → Says request (Clean request) (Did moment store (Get (key.Handle credit.handle)) ∷ trail) (Asks (owing credit) (lowering (with_lowered_count (handle_said credit.handle said) credit.block credit.amount) (revision_said said)) (λ second reply. on_write reply left (λ taken. goes left tt) again))
    unfolding AgreesAll
    lower-said again left a moment store trail said (WasMissing e) now =
        let P : Said → Type 0 = λ s. Says request (Clean request) (Did moment store (Get (key.Handle credit.handle)) ∷ trail) (Asks (owing credit) (lowering (with_lowered_count (handle_said credit.handle s) credit.block credit.amount) (revision_said s)) (λ second reply. on_write reply left (λ taken. goes left tt) again)) in
        let h = content credit.handle [] in
        let empty = lowered-nothing credit.handle credit.block credit.amount in
        let none : (other : Datastore) (c : CidrValue) → count_of (with_lowered_count h credit.block credit.amount) c ≤ handle_count other h.id c = λ other c.
        let zero_is : count_of (with_lowered_count h credit.block credit.amount) c ≡ 0 = ap (λ (l : List (CidrValue × ℕ)). count_in l c) empty in omega arith in
        let missing : P Missing = lower-read again left a moment store trail h 0 refl (λ other r agrees f c. none other c) now (with_lowered_count h credit.block credit.amount).counts in
        subst P (sym e) missing
    lower-said again left a moment store trail said (WasFound revision h e own there sound) now =
        let P : Said → Type 0 = λ s. Says request (Clean request) (Did moment store (Get (key.Handle credit.handle)) ∷ trail) (Asks (owing credit) (lowering (with_lowered_count (handle_said credit.handle s) credit.block credit.amount) (revision_said s)) (λ second reply. on_write reply left (λ taken. goes left tt) again)) in
        let found : P (Found revision (record_of.Handle h)) =
        lower-read again left a moment store trail h revision own
        (λ other r agrees f c.
        let (old, at) = update-can other (record_of.Handle (with_lowered_count h credit.block credit.amount)) revision r f in
        let at_id = subst (λ (x : List ℕ). HasAt other (key.Handle x) revision old) own at in
        let same = agrees.0 (key.Handle credit.handle) revision (record_of.Handle h) old there at_id in
        let was : handle_count other h.id c ≡ count_of h c = ap (count_in_row h.id c) at ∙ ap (λ (x : Record). count_in_row h.id c (Some (revision, x))) (sym same) in
        let fewer = lowered-less h sound credit.block credit.amount c in
        omega arith)
        now (with_lowered_count h credit.block credit.amount).counts in
        subst P (sym e) found

    lower-once : (again : Part (Unit {0})) (left : Left) → ((longer : Trail) → Stays request debt longer → Says request (Clean request) longer again) → (trail : Trail) → Stays request debt trail → Says request (Clean request) trail (lower_once credit again left)
    lower-once again left a trail now = (
      owing-tells credit debt trail is now,
      λ moment store agrees sound.
          lower-said again left a moment store trail (reply_of store (Get (key.Handle credit.handle))) (handle-read store credit.handle sound)
          (stays-read request moment store trail debt now (key.Handle credit.handle) (λ node c e. cc e)),
    )

    lower-tries : (races claims : ℕ) (trail : Trail) → Stays request debt trail → Says request (Clean request) trail (tries (lower_once credit) races claims)
    unfolding tries
    lower-tries zero claims = lower-once (stops (left_of zero claims) OutOfTries) (left_of zero claims) (λ longer now. tt)
    lower-tries (suc races) claims = lower-once (tries (lower_once credit) races claims) (left_of (suc races) claims) (lower-tries races claims)

    pub lower-says : {A : Type 0} → (left : Left) (value : A) (trail : Trail) → Stays request debt trail → Says request (Clean request) trail (part_then (lower credit left) (λ now done. goes now value))
    lower-says {A} left value trail now =
        Says-bound request (Clean request) (Clean request) (onward (λ later done. goes later value)) (lower credit left) trail (lower-tries left.races left.claims trail now) (λ longer outcome since k. ends longer outcome k)
      where
        ends : (longer : Trail) (outcome : Outcome (Unit {0})) → Clean request longer outcome → Says request (Clean request) longer (onward (λ later done. goes later value) outcome)
        ends longer (Went later done) k = k
        ends longer (Stops later why) k = k
