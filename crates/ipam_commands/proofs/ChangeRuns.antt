-- How a request that changes one thing runs alone, and how it ends over a keeper's rows.
use Rattle.std.proofs.Common.{◌≡◌, ◌≢◌, ℕ, ◌⊎◌, inl, inr, List, [], Option, Some, None, Result, Ok, Err, refl, sym, ap, ◌∙◌, subst}
use Rattle.std.specs.Prelude.{IsSome}
use Rattle.ipam_io.specs.Counts.{Rose}
use Rattle.ipam_records.specs.declared.call.Row.{Row as RowText}
use Rattle.ipam_records.specs.Datastore.{Datastore}
use Rattle.ipam_model.specs.declared.answer.Answer.{Answer}
use Rattle.ipam_model.specs.declared.answer.Answer.TheVariants as answer
use Rattle.ipam_model.specs.declared.outcome.AdminAnswer.{AdminAnswer}
use Rattle.ipam_model.specs.declared.outcome.AdminAnswer.TheVariants as admin
use Rattle.ipam_model.specs.declared.outcome.ReleaseAnswer.{ReleaseAnswer}
use Rattle.ipam_model.specs.declared.outcome.ReleaseAnswer.TheVariants as release
use Rattle.ipam_model.specs.declared.request.Admin.TheVariants as change
use Rattle.ipam_model.specs.declared.request.Request.{Request}
use Rattle.ipam_model.specs.declared.request.Request.TheVariants as request
use Rattle.ipam_model.specs.Alone.{alone_over}
use Rattle.ipam_model.specs.CanAnswer.{CanAnswer}
use Rattle.ipam_model.specs.History.{Base}
use Rattle.ipam_model.specs.SoundRequest.{IsSoundRequest}
use Rattle.ipam_model.specs.Told.{of_admin, of_release}
use Rattle.ipam_laws.proofs.AloneAgain.{alone_again}
use Rattle.ipam_shared.specs.declared.kept.Kept.{Kept}
use Rattle.ipam_shared.specs.declared.kept.KeptFault.{KeptFault}
use Rattle.ipam_shared.specs.declared.kept.KeptFault.TheVariants as fault
use Rattle.ipam_shared.specs.Kept.{KeptFor, Tells, opened}
use Rattle.ipam_shared.specs.Opening.{IsFaultOf, IsOpened}
use Rattle.ipam_shared.specs.Solo.{IsAnswered, IsFaulted, IsStopped, base_of}
use Rattle.ipam_commands.specs.declared.outcome.ChangeOutcome.{ChangeOutcome}
use Rattle.ipam_commands.specs.declared.outcome.ChangeOutcome.TheVariants as outcome
use Rattle.ipam_commands.specs.Courses.{AreRowsOf}
use Rattle.ipam_commands.specs.Changing.{ChangeEnds, ChangeRuns, IsChange, outcome_of}
use Rattle.ipam_shared.proofs.Courses.{answer-course, fault-course}
use Rattle.ipam_commands.proofs.CourseRuns.{stop-course}

-- ---- what an answer comes to

-- an answer of the request, or that a call failed
data Comes (told : Answer) : Type 0 where
  Well : (found : ChangeOutcome) → outcome_of told ≡ Some (Ok found) → Comes told
  Again : (lost claims : ℕ) → told ≡ answer.Again lost claims → Comes told
  Fails : told ≡ answer.Fault → Comes told

released-comes : (told : Answer) (one : ReleaseAnswer) → told ≡ of_release one → Comes told
released-comes told release.Released is = Well outcome.Made (ap outcome_of is)
released-comes told (release.NoAffinity moment) is = Well outcome.Absent (ap outcome_of is)
released-comes told (release.Again lost) is = Again lost 0 is
released-comes told release.Full is = Well outcome.Full (ap outcome_of is)
released-comes told release.Spent is = Well outcome.Spent (ap outcome_of is)

removed-comes : (told : Answer) (one : AdminAnswer) → told ≡ of_admin one → Comes told
removed-comes told (admin.Done revision) is = Well outcome.Made (ap outcome_of is)
removed-comes told (admin.Refused number name) is = Well outcome.Absent (ap outcome_of is)
removed-comes told (admin.Again lost) is = Again lost 0 is
removed-comes told admin.Full is = Well outcome.Full (ap outcome_of is)
removed-comes told admin.Spent is = Well outcome.Spent (ap outcome_of is)

comes : (asked : Request) (told : Answer) → IsChange asked → CanAnswer asked told → Comes told
comes (request.Release node cidr) told r (inl (one, is)) = released-comes told one is
comes (request.Release node cidr) told r (inr is) = Fails is
comes (request.Admin (change.Unreserve name)) told r (inl (one, is)) = removed-comes told one is
comes (request.Admin (change.Unreserve name)) told r (inr is) = Fails is
comes (request.Admin (change.Pool a)) told r can = absurd r
comes (request.Admin (change.Disable a b)) told r can = absurd r
comes (request.Admin (change.Reserve a)) told r can = absurd r
comes (request.Admin (change.Config a)) told r can = absurd r
comes (request.Add a) told r can = absurd r
comes (request.AddThis a b) told r can = absurd r
comes (request.Del a) told r can = absurd r
comes (request.Check a b) told r can = absurd r
comes (request.Collect a) told r can = absurd r
comes (request.Probe a) told r can = absurd r

some-of : {A : Type 0} (o : Option A) (x : A) → o ≡ Some x → IsSome o
some-of o x is = subst (λ (p : Option _). IsSome p) (sym is) refl

-- ---- over a datastore

module _ {D : Type 0} (tells : Tells D) (faults : D → ℕ) (asked : Request) (old new : Kept D)
    (first : old.cluster.entries ≡ 0) (kept : KeptFor tells old (opened old.cluster.store.store) []) where
  base-opened : base_of old ≡ opened old.cluster.store.store
  base-opened = ap (λ (n : ℕ). record { store = old.cluster.store.store; first = n }) first

  pub stopped_runs : old.doubt ≡ None → IsStopped tells faults asked old new → ChangeRuns old.cluster.store.store asked (Err fault.Memory) (tells new.keeper) (faults old.keeper) (faults new.keeper)
  stopped_runs sure e = (e.no_fault, stop-course tells faults asked old new (opened old.cluster.store.store) kept sure e)

  well-runs : (told : Answer) (found : ChangeOutcome) → CanAnswer asked told → IsAnswered tells faults asked old new told → outcome_of told ≡ Some (Ok found)
      → ChangeRuns old.cluster.store.store asked (Ok found) (tells new.keeper) (faults old.keeper) (faults new.keeper)
  well-runs told found can e is = (
    e.no_fault,
    record {
      answer = ap outcome_of (sym (e.answer ∙ ap (λ (b : Base). (alone_over b asked).0) base-opened)) ∙ is;
      own = subst (λ (t : Answer). CanAnswer asked t) (e.answer ∙ ap (λ (b : Base). (alone_over b asked).0) base-opened) can;
      rows = subst (λ (s : Datastore). AreRowsOf (tells new.keeper) s) (e.store ∙ ap (λ (b : Base). (alone_over b asked).1) base-opened) e.rows;
      course = answer-course tells faults asked old new (opened old.cluster.store.store) kept told _ _
          (e.answer ∙ ap (λ (b : Base). (alone_over b asked).0) base-opened)
          (e.store ∙ ap (λ (b : Base). (alone_over b asked).1) base-opened) e;
    },
  )

  -- alone it is never answered that it was tried too often
  not-again : (told : Answer) (lost claims : ℕ) → IsSoundRequest asked → IsAnswered tells faults asked old new told
      → told ≢ answer.Again lost claims
  not-again told lost claims sound e is =
      alone_again (base_of old) asked lost claims kept.cluster.stands.consistent sound (sym e.answer ∙ is)

  by-comes : (told : Answer) → IsSoundRequest asked
      → IsAnswered tells faults asked old new told ⊎ IsFaulted tells faults asked old new told → Comes told → IsSome (outcome_of told)
  by-comes told sound ran (Well found is) = some-of (outcome_of told) (Ok found) is
  by-comes told sound ran (Fails is) = some-of (outcome_of told) (Err fault.Keeper) (ap outcome_of is)
  by-comes told sound (inl e) (Again lost claims is) = absurd (not-again told lost claims sound e is)
  by-comes told sound (inr e) (Again lost claims is) = some-of (outcome_of told) (Err fault.Keeper) (ap outcome_of e.is_fault)

  pub has_outcome : (told : Answer) → IsChange asked → IsSoundRequest asked → CanAnswer asked told
      → IsAnswered tells faults asked old new told ⊎ IsFaulted tells faults asked old new told → IsSome (outcome_of told)
  has_outcome told r sound can ran = by-comes told sound ran (comes asked told r can)

  runs-by : (told : Answer) (came : Result ChangeOutcome KeptFault) → CanAnswer asked told → IsAnswered tells faults asked old new told ⊎ IsFaulted tells faults asked old new told
      → Comes told → outcome_of told ≡ Some came
      → ChangeRuns old.cluster.store.store asked came (tells new.keeper) (faults old.keeper) (faults new.keeper)
  runs-by told came can (inr e) c is =
      let same : came ≡ Err fault.Keeper = cc (is, ap outcome_of e.is_fault) in
      subst (λ (x : Result ChangeOutcome KeptFault). ChangeRuns old.cluster.store.store asked x (tells new.keeper) (faults old.keeper) (faults new.keeper)) (sym same)
      (e.fault, fault-course tells faults asked old new (opened old.cluster.store.store) kept told e)
  runs-by told came can (inl e) (Well found well) is =
      let same : came ≡ Ok found = cc (is, well) in
      subst (λ (x : Result ChangeOutcome KeptFault). ChangeRuns old.cluster.store.store asked x (tells new.keeper) (faults old.keeper) (faults new.keeper)) (sym same)
      (well-runs told found can e well)
  runs-by told came can (inl e) (Again lost claims again) is =
      let none : None ≡ Some came = sym (ap outcome_of again) ∙ is in
      absurd (cc none)
  runs-by told came can (inl e) (Fails is-fault) is = absurd (e.not_fault is-fault)

  pub answered_runs : (told : Answer) (came : Result ChangeOutcome KeptFault) → IsChange asked → CanAnswer asked told
      → IsAnswered tells faults asked old new told ⊎ IsFaulted tells faults asked old new told → outcome_of told ≡ Some came
      → ChangeRuns old.cluster.store.store asked came (tells new.keeper) (faults old.keeper) (faults new.keeper)
  answered_runs told came r can ran is = runs-by told came can ran (comes asked told r can) is

-- ---- over a keeper's rows

-- what was opened runs over the rows that were loaded
pub opened_ends : {D : Type 0} (tells : Tells D) (faults name : D → ℕ) (keeper : D) (kept : Kept D) (asked : Request) (came : Result ChangeOutcome KeptFault) (new : Option (List RowText)) (after : ℕ) → IsOpened tells faults name keeper 0 kept
    → ChangeRuns kept.cluster.store.store asked came new (faults kept.keeper) after → ChangeEnds asked came (tells keeper) new (faults keeper) after
opened_ends tells faults name keeper kept asked (Ok found) new after o (none, so) =
    (none ∙ o.no_fault, record { rows = o.loaded; store = kept.cluster.store.store; opened = record { loaded = o.told; opens = o.opens }; so = so })
opened_ends tells faults name keeper kept asked (Err fault.Keeper) new after o (rose, so) = (
  subst (λ (n : ℕ). Rose n after) o.no_fault rose,
  inr (record { rows = o.loaded; store = kept.cluster.store.store; opened = record { loaded = o.told; opens = o.opens }; so = so }),
)
opened_ends tells faults name keeper kept asked (Err (fault.Refused number about)) new after o r = absurd r
opened_ends tells faults name keeper kept asked (Err fault.Memory) new after o (none, so) = (
  none ∙ o.no_fault,
  inr (record { rows = o.loaded; store = kept.cluster.store.store; opened = record { loaded = o.told; opens = o.opens }; so = so }),
)

-- what was not opened leaves the rows
pub unopened_ends : {D : Type 0} (tells : Tells D) (faults : D → ℕ) (keeper after : D) (asked : Request) (why : KeptFault) (new : Option (List RowText)) → new ≡ tells keeper → IsFaultOf tells faults keeper after why
    → ChangeEnds asked (Err why) (tells keeper) new (faults keeper) (faults after)
unopened_ends tells faults keeper after asked fault.Keeper new same is = (is, inl same)
unopened_ends tells faults keeper after asked fault.Memory new same is = (is, inl same)
unopened_ends tells faults keeper after asked (fault.Refused number about) new same (none, (loaded, told, refused)) =
    (none, record { rows = loaded; loaded = told; refused = refused }, same)
