-- What comes of one resource.
use Rattle.std.proofs.Common.{◌≡◌, ℕ, ◌⊎◌, inl, inr, List, Option, Some, None, refl, sym, ap, ◌∙◌, subst}
use Rattle.std.specs.Prelude.{IsSome}
use Rattle.std.specs.Io.KnownBytes.{append_known}
use Rattle.ipam_records.specs.Datastore.{Datastore}
use Rattle.ipam_model.specs.declared.answer.Answer.{Answer}
use Rattle.ipam_model.specs.declared.outcome.AdminAnswer.{AdminAnswer}
use Rattle.ipam_model.specs.declared.outcome.AdminAnswer.TheVariants as admin
use Rattle.ipam_model.specs.declared.request.Admin.{Admin as Change}
use Rattle.ipam_model.specs.declared.request.Request.{Request}
use Rattle.ipam_model.specs.declared.request.Request.TheVariants.{Admin}
use Rattle.ipam_model.specs.Alone.{alone_over}
use Rattle.ipam_model.specs.CanAnswer.{CanAnswer}
use Rattle.ipam_model.specs.Told.{of_admin}
use Rattle.ipam_laws.proofs.AloneAgain.{alone_again}
use Rattle.ipam_shared.specs.declared.kept.Kept.{Kept}
use Rattle.ipam_shared.specs.Kept.{IsKept, Tells}
use Rattle.ipam_shared.specs.Solo.{IsAnswered, IsFaulted, IsStopped, NothingRuns, base_of}
use Rattle.ipam_resources.specs.declared.refusal.Refusal.TheVariants as refusal
use Rattle.ipam_resources.specs.declared.resource.Resource.{Resource}
use Rattle.ipam_resources.specs.Printed.{applied_line, answer_refusal}
use Rattle.ipam_commands.specs.declared.status.Status.{Status}
use Rattle.ipam_commands.specs.declared.status.Status.TheVariants as status
use Rattle.ipam_commands.specs.Courses.{AreRowsOf}
use Rattle.ipam_commands.specs.Telling.{Cut, Untold as NoText, Whole, Writes}
use Rattle.ipam_shared.proofs.Courses.{answer-course, fault-course}
use Rattle.ipam_commands.proofs.CourseRuns.{stop-course}
use Rattle.ipam_commands.specs.declared.step.Step.{Step}
use Rattle.ipam_commands.specs.declared.step.Step.TheVariants.{Applied, Ended}
use Rattle.ipam_commands.specs.Applying.{HasCourse, IsApplied, KeeperFailed, Refused, StepEnds, Stopped, Untold, alone_on, change_asked}
use Rattle.ipam_commands.specs.Outside.{IsLeft}
use Rattle.ipam_commands.specs.Ready.{IsFit, IsReady, OnApplied}
use Rattle.ipam_commands.specs.ToldApply.{Applies, Fails, MayBeTold, Refuses, TellsAnswer}
use Rattle.ipam_commands.proofs.AdminWords.{CanTellAnswer, alone_anew, alone_tells}
use Rattle.ipam_commands.proofs.Readiness.{ready-again}

pub some-value : {A : Type 0} (o : Option A) → IsSome o → (x : A) × (o ≡ Some x)
some-value None h = absurd (cc h)
some-value (Some x) h = (x, refl)

-- where a run ends as it would with all of the text, all of it is written
all-written : (old new : Option (List ℕ)) (faults faults' : ℕ) (text : List ℕ) (own end : Status) → Writes old new faults faults' text own end → end ≡ status.Done
    → (new ≡ append_known old text) × (faults' ≡ faults)
all-written old new faults faults' text own _ (Whole wrote none) is = (wrote, none)
all-written old new faults faults' text own _ (Cut said part rose) is = absurd (cc is)
all-written old new faults faults' text own _ (NoText made same none) is = absurd (cc is)

same-change : (one other : Change) → ◌≡◌ {A = Request} (Admin one) (Admin other) → other ≡ one
same-change one other is = cc is

-- what is told of the resource with a change is told of the resource that has it
pub told-again : (one : Resource) (other : Change) → ◌≡◌ {A = Request} (Admin one.change) (Admin other) → (told : Answer) (writes : List ℕ → Status → Status → Type 0) (step : Step)
    → TellsAnswer (record { kind = one.kind; name = one.name; change = other }) told writes step → TellsAnswer one told writes step
told-again one other is told writes step h =
    subst (λ (c : Change). TellsAnswer (record { kind = one.kind; name = one.name; change = c }) told writes step) (same-change one.change other is) h

module _ {D : Type 0} (tells : Tells D) (faults : D → ℕ) (one : Resource) (fit : IsFit one) (old new : Kept D) (ready : IsReady tells old) where
  -- what the request is answered, and leaves, is what it would be on the datastore itself
  same-alone : alone_over (base_of old) (change_asked one) ≡ alone_on old.cluster.store.store one
  same-alone = alone_anew (base_of old) one.change fit.of_document

  told-is : (told : Answer) → IsAnswered tells faults (change_asked one) old new told → told ≡ (alone_on old.cluster.store.store one).0
  told-is told e = e.answer ∙ ap (λ (both : Answer × Datastore). both.0) same-alone

  pub store-is : (told : Answer) → IsAnswered tells faults (change_asked one) old new told → new.cluster.store.store ≡ (alone_on old.cluster.store.store one).1
  store-is told e = e.store ∙ ap (λ (both : Answer × Datastore). both.1) same-alone

  pub course-is : (told : Answer) → IsAnswered tells faults (change_asked one) old new told → HasCourse old.cluster.store.store one
  course-is told e = (
    old.cluster.entries,
    answer-course tells faults (change_asked one) old new (base_of old) ready.kept_for told _ _ (told-is told e) (store-is told e) e,
  )

  -- ---- what can be told

  own-told : (told : Answer) (own : AdminAnswer) → told ≡ of_admin own → IsAnswered tells faults (change_asked one) old new told → MayBeTold told
  own-told told (admin.Done revision) is e = Applies (subst IsApplied (sym is) tt)
  own-told told (admin.Refused number name) is e =
      let can = subst CanTellAnswer (sym e.answer ∙ is) (alone_tells (base_of old) one.change fit.of_document) in
      let why = some-value (answer_refusal (of_admin (admin.Refused number name))) can in
      Refuses why.0 (ap answer_refusal is ∙ why.1)
  own-told told (admin.Again lost) is e =
      absurd (alone_again (base_of old) (change_asked one) lost 0 ready.kept_for.cluster.stands.consistent fit.sound (sym e.answer ∙ is))
  own-told told admin.Full is e = Refuses refusal.Full (ap answer_refusal is)
  own-told told admin.Spent is e = Refuses refusal.Spent (ap answer_refusal is)

  pub may-tell : (told : Answer) → CanAnswer (change_asked one) told → IsAnswered tells faults (change_asked one) old new told ⊎ IsFaulted tells faults (change_asked one) old new told → MayBeTold told
  may-tell told can (inr e) = Fails e.is_fault
  may-tell told (inl (own, is)) (inl e) = own-told told own is e
  may-tell told (inr is) (inl e) = absurd (e.not_fault is)

  -- ---- what comes of it

  module _ (w w' : Option (List ℕ)) (f f' : ℕ) where
    left : (told : Answer) → IsAnswered tells faults (change_asked one) old new told
        → IsLeft (alone_on old.cluster.store.store one).1 (record { left = None; read_faults = 0; written = w; write_faults = f; rows = tells old.keeper; keeper_faults = faults old.keeper })
        (record { left = None; read_faults = 0; written = w'; write_faults = f'; rows = tells new.keeper; keeper_faults = faults new.keeper })
    left told e = record {
      rows = subst (λ (s : Datastore). AreRowsOf (tells new.keeper) s) (store-is told e) e.rows;
      no_keeper_fault = e.no_fault;
    }

    pub step-ends : (told : Answer) (step : Step) → TellsAnswer one told (λ text own end. Writes w w' f f' text own end) step
        → IsAnswered tells faults (change_asked one) old new told ⊎ IsFaulted tells faults (change_asked one) old new told
        → StepEnds old.cluster.store.store one (record { left = None; read_faults = 0; written = w; write_faults = f; rows = tells old.keeper; keeper_faults = faults old.keeper })
        (record { left = None; read_faults = 0; written = w'; write_faults = f'; rows = tells new.keeper; keeper_faults = faults new.keeper }) step
    step-ends told Applied (applied, said) (inl e) =
        let all = all-written w w' f f' (applied_line one) status.Done status.Done said refl in
        ((subst IsApplied (told-is told e) applied, course-is told e), left told e, record { written = all.0; no_write_fault = all.1; no_keeper_fault = e.no_fault })
    step-ends told Applied (applied, said) (inr e) = absurd (subst IsApplied e.is_fault applied)
    step-ends told (Ended end) (inl (applied, (said, not_done))) (inl e) = Untold (subst IsApplied (told-is told e) applied, course-is told e) (left told e) said not_done
    step-ends told (Ended end) (inl (applied, rest)) (inr e) = absurd (subst IsApplied e.is_fault applied)
    step-ends told (Ended end) (inr (inl (why, is, said))) (inl e) = Refused why (ap answer_refusal (sym (told-is told e)) ∙ is) (course-is told e) (left told e) said
    step-ends told (Ended end) (inr (inl (why, is, said))) (inr e) =
        let none : None ≡ Some why = sym (ap answer_refusal e.is_fault) ∙ is in
        absurd (cc none)
    step-ends told (Ended end) (inr (inr (is, said))) (inl e) = absurd (e.not_fault is)
    step-ends told (Ended end) (inr (inr (is, said))) (inr e) =
        KeeperFailed old.cluster.entries (fault-course tells faults (change_asked one) old new (base_of old) ready.kept_for told e) e.fault said

    -- where it is applied, the cluster has the datastore that the request alone leaves, and is ready again
    pub step-store : (told : Answer) (step : Step) → TellsAnswer one told (λ text own end. Writes w w' f f' text own end) step
        → IsAnswered tells faults (change_asked one) old new told ⊎ IsFaulted tells faults (change_asked one) old new told
        → OnApplied step (new.cluster.store.store ≡ (alone_on old.cluster.store.store one).1)
    step-store told Applied said (inl e) = store-is told e
    step-store told Applied said (inr e) = absurd (subst IsApplied e.is_fault said.0)
    step-store told (Ended end) said ran = tt

    pub step-ready : (told : Answer) (step : Step) → TellsAnswer one told (λ text own end. Writes w w' f f' text own end) step
        → IsAnswered tells faults (change_asked one) old new told ⊎ IsFaulted tells faults (change_asked one) old new told
        → IsKept tells new → NothingRuns new → OnApplied step (IsReady tells new)
    step-ready told Applied said (inl e) kept idle = ready-again tells new kept idle e.sure
    step-ready told Applied said (inr e) kept idle = absurd (subst IsApplied e.is_fault said.0)
    step-ready told (Ended end) said ran kept idle = tt

  pub stop-ends : (w : Option (List ℕ)) (f : ℕ) → IsStopped tells faults (change_asked one) old new
      → StepEnds old.cluster.store.store one (record { left = None; read_faults = 0; written = w; write_faults = f; rows = tells old.keeper; keeper_faults = faults old.keeper })
      (record { left = None; read_faults = 0; written = w; write_faults = f; rows = tells new.keeper; keeper_faults = faults new.keeper }) (Ended status.NoMemory)
  stop-ends w f e =
      Stopped old.cluster.entries (stop-course tells faults (change_asked one) old new (base_of old) ready.kept_for ready.sure e)
      (record { written = refl; no_write_fault = refl; no_memory = refl }) e.no_fault
