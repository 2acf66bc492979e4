-- Freeing and assigning: their labels say what their calls have made.
use Rattle.std.proofs.Common.{◌≡◌, ◌≢◌, ℕ, zero, suc, ◌+◌, ◌≤◌, inl, List, ◌∷◌, Option, Some, None, refl, ap, ◌∙◌, subst, arith}
use Rattle.std.specs.List.{count_by}
use Rattle.ipam_addr.specs.Shape.{CidrValue}
use Rattle.ipam_block.specs.declared.allocation.Attributes.{Attributes}
use Rattle.ipam_block.specs.Shape.{BlockValue}
use Rattle.ipam_block.specs.Operations.{block_with_ordinal, block_without, is_owned, next_block}
use Rattle.ipam_records.specs.declared.call.Call.TheVariants.{Get, Update}
use Rattle.ipam_records.specs.declared.key.Key.TheVariants as key
use Rattle.ipam_records.specs.declared.record.Record.{Record}
use Rattle.ipam_records.specs.declared.record.Record.TheVariants as record_of
use Rattle.ipam_records.specs.Datastore.{Datastore, reply_of}
use Rattle.ipam_records.specs.Said.{Can}
use Rattle.ipam_model.specs.declared.part.Assigned.{Assigned}
use Rattle.ipam_model.specs.declared.part.Left.{Left}
use Rattle.ipam_model.specs.declared.part.Outcome.{Outcome}
use Rattle.ipam_model.specs.declared.part.Outcome.TheVariants.{Went, Stops}
use Rattle.ipam_model.specs.declared.part.Stop.TheVariants.{OutOfTries, NoRoom, NoRevisions}
use Rattle.ipam_model.specs.declared.request.Request.{Request}
use Rattle.ipam_model.specs.AffinityLaw.{HasAt}
use Rattle.ipam_model.specs.Assigning.{Target, assign, assign_block, assign_lost}
use Rattle.ipam_model.specs.CountLaw.{held_count, held_in_row}
use Rattle.ipam_model.specs.Counting.{FreedOfHandle, credit_of, free, free_found, free_once, free_these, lower, raise}
use Rattle.ipam_model.specs.Reads.{block_said}
use Rattle.ipam_model.specs.Step.{Part, after_lost, part_then, goes, left_of, onward, stops, tries}
use Rattle.ipam_laws.proofs.Acts.{Since, since-agrees}
use Rattle.ipam_laws.proofs.ActParts.{IsCurrent, assigning_call, freeing_call}
use Rattle.ipam_laws.proofs.AddTrails.{Knows}
use Rattle.ipam_laws.proofs.Calls.{update-can}
use Rattle.ipam_laws.proofs.CountLemmas.{held-assigned}
use Rattle.ipam_laws.proofs.DebtCalls.{block-harmless, free-frees, free-only, free-raises_none, lost-undone, update-puts}
use Rattle.ipam_laws.proofs.Debts.{Debt, Freed, Nothing, Owes, Raised, owes-freed, owes-still, owes-used}
use Rattle.ipam_laws.proofs.LookedBlocks.{looked-block}
use Rattle.ipam_laws.proofs.PointTrails.{block-nowhere}
use Rattle.ipam_laws.proofs.Says.{Clean, Rests, Says, Says-bound, Stays, rests-tells, stays-read, update-has_room, wrote}
use Rattle.ipam_laws.proofs.SaysCounts.{OfFreed, OfRaised, RaiseEnds, lower-says, raise-says}
use Rattle.ipam_laws.proofs.Steps.{OwnPicks}
use Rattle.ipam_laws.proofs.Trails.{Did, Trail}

-- a block that is changed at the revision at which it is current is there
pub current-there : (store : Datastore) (b new : BlockValue) (old revision : ℕ) → new.cidr ≡ b.cidr → IsCurrent store old b → reply_of store (Update (record_of.Block new) old) ≡ Can revision → HasAt store (key.Block b.cidr) old (record_of.Block b)
current-there store b new old revision same current e =
    let (found, at) = update-can store (record_of.Block new) old revision e in
    let there = subst (λ (c : CidrValue). HasAt store (key.Block c) old found) same at in
    there ∙ ap (λ (x : Record). Some (old, x)) (current found there)

module _ (request : Request) where
  -- a write of a block where the request stands nowhere, that was not done
  block-lost : (moment : ℕ) (store : Datastore) (new : BlockValue) (old : ℕ) (trail : Trail) (debt : Debt) → Stays request debt trail → ((r : ℕ) → reply_of store (Update (record_of.Block new) old) ≢ Can r) → Stays request debt (Did moment store (Update (record_of.Block new) old) ∷ trail)
  block-lost moment store new old trail debt h lost = record {
    owes = owes-still moment store (Update (record_of.Block new) old) trail debt (lost-undone store (Update (record_of.Block new) old) lost) h.owes;
    point = block-nowhere request moment store (Update (record_of.Block new) old) trail new refl h.point;
  }

  -- ---- freeing

  free-done : (what : FreedOfHandle) (moment : ℕ) (store : Datastore) (b : BlockValue) (old amount : ℕ) (trail : Trail) → OwnPicks what → b.cidr ≡ what.block → count_by what.picks b.allocations ≡ suc amount → IsCurrent store old b → Rests request trail → (r : ℕ)
      → reply_of store (freeing_call what b old) ≡ Can r → Stays request (Freed (credit_of what.handle what.block (suc amount))) (Did moment store (freeing_call what b old) ∷ trail)
  free-done what moment store b old amount trail own same count current rests r e =
      let asked = freeing_call what b old in
      let there = current-there store b (block_without what.picks (next_block b)) old r refl current e in
      let owes = owes-freed moment store asked trail (credit_of what.handle b.cidr (suc amount)) (free-frees store b old what.handle what.picks own amount count r e there) (free-only store b old what.handle what.picks own amount count there)
      (free-raises_none store b old what.handle what.picks own amount count) rests.owes in
      record {
        owes = subst (λ (c : CidrValue). Owes (Did moment store asked ∷ trail) (Freed (credit_of what.handle c (suc amount)))) same owes;
        point = block-nowhere request moment store asked trail (block_without what.picks (next_block b)) refl rests.point;
      }

  free-these : (what : FreedOfHandle) (again : Part ℕ) (left : Left) → OwnPicks what → ((longer : Trail) → Rests request longer → Says request (Clean request) longer again) → (trail : Trail) (found : ℕ × BlockValue) → found.1.cidr ≡ what.block → Knows trail found.0 found.1
      → Rests request trail → (amount : ℕ) → count_by what.picks found.1.allocations ≡ amount → Says request (Clean request) trail (free_these what again left amount found)
  free-these what again left own a trail found same knows rests zero count = rests
  free-these what again left own a trail found same knows rests (suc more) count =
      let asked = freeing_call what found.1 found.0 in
      let credit = credit_of what.handle what.block (suc more) in (
        rests-tells request trail rests,
        λ moment store agrees sound.
            let longer : Trail = Did moment store asked ∷ trail in
            let lost : ((r : ℕ) → reply_of store asked ≢ Can r) → Rests request longer = λ f. block-lost moment store (block_without what.picks (next_block found.1)) found.0 trail Nothing rests f in
            wrote request (Clean request) longer (reply_of store asked) (reply_of store asked) (λ taken. part_then (lower credit left) (λ now done. goes now (suc more))) again (stops left NoRoom) (stops left NoRevisions) refl
            (λ r e. lower-says request credit (Freed credit) OfFreed left (suc more) longer (free-done what moment store found.1 found.0 more trail own same count (knows store agrees) rests r e))
            (λ f. a longer (lost f)) (λ full f. lost f) (λ f. tt),
      )

  free-once : (what : FreedOfHandle) (again : Part ℕ) (left : Left) → OwnPicks what → ((longer : Trail) → Rests request longer → Says request (Clean request) longer again) → (trail : Trail) → Rests request trail → Says request (Clean request) trail (free_once what again left)
  free-once what again left own a trail rests = (
    rests-tells request trail rests,
    λ moment store agrees sound. by moment store (stays-read request moment store trail Nothing rests (key.Block what.block) (λ node c e. cc e)) (block_said (reply_of store (Get (key.Block what.block)))) refl,
  )
    where
      by : (moment : ℕ) (store : Datastore) → Rests request (Did moment store (Get (key.Block what.block)) ∷ trail) → (o : Option (ℕ × BlockValue)) → block_said (reply_of store (Get (key.Block what.block))) ≡ o
          → Says request (Clean request) (Did moment store (Get (key.Block what.block)) ∷ trail) (free_found what again left o)
      by moment store now None e = now
      by moment store now (Some found) e =
          let (same, knows) = looked-block moment store (Get (key.Block what.block)) trail what.block found e in
          free-these what again left own a (Did moment store (Get (key.Block what.block)) ∷ trail) found same knows now (count_by what.picks found.1.allocations) refl

  free-tries : (what : FreedOfHandle) → OwnPicks what → (races claims : ℕ) (trail : Trail) → Rests request trail → Says request (Clean request) trail (tries (free_once what) races claims)
  unfolding tries
  free-tries what own zero claims = free-once what (stops (left_of zero claims) OutOfTries) (left_of zero claims) own (λ longer rests. tt)
  free-tries what own (suc races) claims = free-once what (tries (free_once what) races claims) (left_of (suc races) claims) own (free-tries what own races claims)

  pub free-says : (what : FreedOfHandle) → OwnPicks what → (left : Left) (trail : Trail) → Rests request trail → Says request (Clean request) trail (free what left)
  free-says what own left = free-tries what own left.races left.claims

  -- ---- assigning

  module _ (attributes : Attributes) (target : Target) where
    abbrev raised_debt : Debt
    raised_debt = Raised attributes.handle target.block.cidr

    -- the block that is assigned from holds no less than it did
    assign-harmless : (store : Datastore) → IsCurrent store target.revision target.block → (r : ℕ) → reply_of store (assigning_call attributes target) ≡ Can r → (id : List ℕ)
        → held_count store id target.block.cidr ≤ count_by (is_owned id) (block_with_ordinal (next_block target.block) target.ordinal attributes).allocations
    assign-harmless store current r e id =
        let there = current-there store target.block (block_with_ordinal (next_block target.block) target.ordinal attributes) target.revision r refl current e in
        let was : held_count store id target.block.cidr ≡ count_by (is_owned id) target.block.allocations = ap (held_in_row id) there in
        let more = held-assigned target.block target.ordinal attributes id in
        omega arith

    assign-lost : (races claims : ℕ) (trail : Trail) → Stays request raised_debt trail
        → Says request (Clean request) trail (after_lost races claims (λ less. part_then (lower (credit_of attributes.handle target.block.cidr 1) less) (λ now done. goes {A = Option Assigned} now None)))
    assign-lost zero claims trail now = tt
    assign-lost (suc races) claims trail now =
        lower-says request (credit_of attributes.handle target.block.cidr 1) raised_debt (OfRaised attributes.handle target.block.cidr refl) (left_of races claims) None trail now

    assign-block : (left : Left) (trail : Trail) → Knows trail target.revision target.block → Stays request raised_debt trail → Says request (Clean request) trail (assign_block attributes target left)
    assign-block left trail knows now =
        let asked = assigning_call attributes target in
        let new = block_with_ordinal (next_block target.block) target.ordinal attributes in (
          record { debt = raised_debt; owes = now.owes; credit = refl; point = now.point },
          λ moment store agrees sound.
              let longer : Trail = Did moment store asked ∷ trail in
              let lost : ((r : ℕ) → reply_of store asked ≢ Can r) → Stays request raised_debt longer = λ f. block-lost moment store new target.revision trail raised_debt now f in
              wrote request (Clean request) longer (reply_of store asked) (reply_of store asked) (λ taken. goes left (Some (record { moment = moment; stamp = target.block.sequence + 1 }))) (assign_lost attributes target left) (stops left NoRoom) (stops left NoRevisions) refl
              (λ r e. record {
                owes = owes-used moment store asked trail attributes.handle target.block.cidr (block-harmless store asked new (update-puts (record_of.Block new) target.revision) (assign-harmless store (knows store agrees)))
                    (inl (record { writes = refl; revision = r; can = e })) now.owes;
                point = block-nowhere request moment store asked trail new refl now.point;
              })
              (λ f. assign-lost left.races left.claims longer (lost f)) (λ full f. absurd (update-has_room store (record_of.Block new) target.revision full)) (λ f. tt),
        )

    pub assign-says : (left : Left) (trail : Trail) → Knows trail target.revision target.block → Rests request trail → Says request (Clean request) trail (assign attributes target left)
    unfolding RaiseEnds
    assign-says left trail knows rests =
        Says-bound request (RaiseEnds request attributes.handle target.block.cidr) (Clean request) (onward (λ now done. assign_block attributes target now)) (raise attributes.handle target.block.cidr left) trail
        (raise-says request attributes.handle target.block.cidr left trail rests) ends
      where
        ends : (longer : Trail) (outcome : Outcome (Unit {0})) → Since trail longer → RaiseEnds request attributes.handle target.block.cidr longer outcome → Says request (Clean request) longer (onward (λ now done. assign_block attributes target now) outcome)
        ends longer (Went now done) since k = assign-block now longer (λ store agrees. knows store (since-agrees store trail longer since agrees)) k
        ends longer (Stops now why) since k = k
