-- What a request that was run has made of a kept cluster once its answer waited for its rows to be sure.
use Rattle.std.proofs.Common.{◌≡◌, ℕ, ◌⊎◌, inl, inr, List, [], ◌∷◌, ◌++◌, Option, sym, ap, ◌∙◌, subst}
use Rattle.std.specs.Prelude.{IfSome}
use Rattle.ipam_io.specs.Counts.{Rose}
use Rattle.ipam_records.specs.declared.call.Row.{Row as RowText}
use Rattle.ipam_records.specs.Datastore.{Datastore}
use Rattle.ipam_model.specs.declared.answer.Answer.{Answer}
use Rattle.ipam_model.specs.declared.entry.Entry.TheVariants as entry
use Rattle.ipam_model.specs.declared.request.Request.{Request}
use Rattle.ipam_model.specs.CanAnswer.{CanAnswer}
use Rattle.ipam_model.specs.History.{Base}
use Rattle.ipam_cluster.specs.declared.cluster.Cluster.{Cluster}
use Rattle.ipam_shared.specs.declared.kept.Kept.{Kept}
use Rattle.ipam_shared.specs.Courses.{IsFaultCourse}
use Rattle.ipam_shared.specs.Durable.{Failed, HadFailed, HasFailed, IsDurable, IsUnsettled, IsUnsure, OnlySettles, Settled, TellsOnceSure}
use Rattle.ipam_shared.specs.Kept.{IsKept, KeptFor, Stays, Tells}
use Rattle.ipam_shared.specs.Rows.{AreTextsOf}
use Rattle.ipam_shared.specs.Solo.{IsAnswered, IsFaulted, IsStopped, NothingRuns}
use Rattle.ipam_shared.proofs.Courses.{ends-kept, fault-course, sure-rows}
use Rattle.ipam_shared.proofs.Ending.{stays-idle, stays-kept}
use Rattle.ipam_shared.proofs.Instead.{failed-course}

-- what a settling leaves
pub only-settles : {D : Type 0} (tells : Tells D) (old new : Kept D) → new ≡ record old { keeper = new.keeper; settled = new.settled } → tells new.keeper ≡ tells old.keeper → Stays tells old new → OnlySettles tells old new
only-settles {D} tells old new rest rows stays = record {
  cluster = ap (λ (k : Kept D). k.cluster) rest;
  doubt = ap (λ (k : Kept D). k.doubt) rest;
  rows = rows;
  stays = stays;
}

module _ {D : Type 0} (tells sure : Tells D) (faults : D → ℕ) (request : Request) (old mid new : Kept D) where
  -- what was answered before it is answered after it
  answered-over : (told : Answer) → OnlySettles tells mid new → faults new.keeper ≡ faults mid.keeper → IsAnswered tells faults request old mid told → IsAnswered tells faults request old new told
  answered-over told only none e =
      let store : new.cluster.store.store ≡ mid.cluster.store.store = ap (λ (c : Cluster). c.store.store) only.cluster in
      record {
        no_fault = none ∙ e.no_fault;
        not_fault = e.not_fault;
        answer = e.answer;
        store = store ∙ e.store;
        rows = subst (λ (t : Option (List RowText)). IfSome t (λ rows. AreTextsOf rows new.cluster.store.store)) (sym only.rows)
            (subst (λ (s : Datastore). IfSome (tells mid.keeper) (λ rows. AreTextsOf rows s)) (sym store) e.rows);
        sure = only.doubt ∙ e.sure;
        last = e.last;
        earlier = e.earlier;
        ends = e.ends;
        alone = e.alone;
        keeps = λ base history kept. only.stays.kept base ((entry.Called e.last ∷ e.earlier) ++ history) (e.keeps base history kept);
      }

  -- where all calls were done and the settling failed, the rows are those of a course that ends in a failure
  failed-over : (told : Answer) → tells new.keeper ≡ tells mid.keeper → IsAnswered tells faults request old mid told → (base : Base) → KeptFor tells old base [] → IsFaultCourse base request (tells new.keeper)
  failed-over told rows e base kept =
      let is = ends-kept tells old mid base kept (entry.Called e.last ∷ e.earlier) e.keeps in
      subst (λ (t : Option (List RowText)). IsFaultCourse base request t) (sym rows)
      (failed-course base request e.earlier e.last is.cluster.stands.consistent is.cluster.stands.lawful e.alone (tells mid.keeper)
      (sure-rows tells mid base (entry.Called e.last ∷ e.earlier) is e.sure))

  pub sure-answered : (answer : Answer) → IsAnswered tells faults request old mid answer ⊎ IsFaulted tells faults request old mid answer
      → (told : Answer) → TellsOnceSure tells sure faults mid new answer told → IsDurable tells sure faults request old new told ⊎ HasFailed tells faults request old new told
  sure-answered answer (inl e) told (HadFailed is same left) = absurd (e.not_fault is)
  sure-answered answer (inl e) told (Settled not same only none settled) = inl (record {
    answered = subst (λ (t : Answer). IsAnswered tells faults request old new t) (sym same) (answered-over answer only none e);
    settled = settled;
  })
  sure-answered answer (inl e) told (Failed not same only rose) = inr (record {
    fault = subst (λ (n : ℕ). Rose n (faults new.keeper)) e.no_fault rose;
    is_fault = same;
    course = failed-over answer only.rows e;
  })
  sure-answered answer (inr e) told (HadFailed is same left) = inr (record {
    fault = subst (λ (k : Kept D). Rose (faults old.keeper) (faults k.keeper)) (sym left) e.fault;
    is_fault = same ∙ is;
    course = λ base kept. subst (λ (k : Kept D). IsFaultCourse base request (tells k.keeper)) (sym left) (fault-course tells faults request old mid base kept answer e);
  })
  sure-answered answer (inr e) told (Settled not same only none settled) = absurd (not e.is_fault)
  sure-answered answer (inr e) told (Failed not same only rose) = absurd (not e.is_fault)

  pub sure-can : (answer : Answer) → CanAnswer request answer → (told : Answer) → TellsOnceSure tells sure faults mid new answer told → CanAnswer request told
  sure-can answer can told (HadFailed is same left) = subst (λ (t : Answer). CanAnswer request t) (sym same) can
  sure-can answer can told (Settled not same only none settled) = subst (λ (t : Answer). CanAnswer request t) (sym same) can
  sure-can answer can told (Failed not same only rose) = inr same

  pub unsure-so : (answer : Answer) → CanAnswer request answer → IsAnswered tells faults request old mid answer ⊎ IsFaulted tells faults request old mid answer
      → IsUnsettled tells faults mid new answer → IsStopped tells faults request old new ⊎ IsUnsure tells faults request old new
  unsure-so answer can (inl e) so = inr (record { told = answer; can_answer = can; answered = answered-over answer so.only so.no_fault e })
  unsure-so answer can (inr e) so = absurd (so.not_fault e.is_fault)

  pub sure-idle : (answer : Answer) → NothingRuns mid → (told : Answer) → TellsOnceSure tells sure faults mid new answer told → NothingRuns new
  sure-idle answer idle told (HadFailed is same left) = subst (λ (k : Kept D). NothingRuns k) (sym left) idle
  sure-idle answer idle told (Settled not same only none settled) = stays-idle tells mid new idle only.stays
  sure-idle answer idle told (Failed not same only rose) = stays-idle tells mid new idle only.stays

  pub sure-kept : (answer : Answer) → IsKept tells mid → (told : Answer) → TellsOnceSure tells sure faults mid new answer told → IsKept tells new
  sure-kept answer kept told (HadFailed is same left) = subst (λ (k : Kept D). IsKept tells k) (sym left) kept
  sure-kept answer kept told (Settled not same only none settled) = stays-kept tells mid new kept only.stays
  sure-kept answer kept told (Failed not same only rose) = stays-kept tells mid new kept only.stays
