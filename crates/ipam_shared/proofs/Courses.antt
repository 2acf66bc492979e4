-- What is kept of a request that did not come to its answer.
use Rattle.std.proofs.Common.{◌≡◌, ℕ, inl, inr, List, [], ◌∷◌, Option, None, sym, ◌∙◌, subst}
use Rattle.std.proofs.lemmas.List.{append-nil}
use Rattle.std.specs.Prelude.{IfSome}
use Rattle.ipam_records.specs.Datastore.{Datastore}
use Rattle.ipam_model.specs.declared.answer.Answer.{Answer}
use Rattle.ipam_model.specs.declared.entry.Entry.{Entry}
use Rattle.ipam_model.specs.declared.entry.Entry.TheVariants as entry
use Rattle.ipam_model.specs.declared.request.Request.{Request}
use Rattle.ipam_model.specs.History.{Base, store_at}
use Rattle.ipam_shared.specs.declared.kept.Kept.{Kept}
use Rattle.ipam_shared.specs.declared.write.RowWrite.{RowWrite}
use Rattle.ipam_shared.specs.Kept.{KeptFor, Tells}
use Rattle.ipam_shared.specs.Rows.{AreTextsOf, AreToldKept}
use Rattle.ipam_shared.specs.Courses.{IsAnswerCourse, IsFaultCourse}
use Rattle.ipam_shared.specs.Solo.{IsAnswered, IsFaulted, KeepsWithAll, NoMoreDoubt}

pub no-doubt : {D : Type 0} (old new : Kept D) → NoMoreDoubt old new → old.doubt ≡ None → new.doubt ≡ None
no-doubt old new (inl same) sure = same ∙ sure
no-doubt old new (inr none) sure = none

-- what is kept once these entries came
pub ends-kept : {D : Type 0} (tells : Tells D) (old new : Kept D) (base : Base) → KeptFor tells old base [] → (added : List Entry) → KeepsWithAll tells old new added → KeptFor tells new base added
ends-kept tells old new base kept added keeps = subst (λ (h : List Entry). KeptFor tells new base h) (append-nil added) (keeps base [] kept)

-- with nothing in doubt, the rows are the history's
pub sure-rows : {D : Type 0} (tells : Tells D) (new : Kept D) (base : Base) (added : List Entry) → KeptFor tells new base added → new.doubt ≡ None → IfSome (tells new.keeper) (λ rows. AreTextsOf rows (store_at base added))
sure-rows tells new base added is sure =
    let P : Datastore → Type 0 = λ s. IfSome (tells new.keeper) (λ rows. AreTextsOf rows s) in
    subst P is.cluster.is_cluster.store
    (subst (λ (d : Option RowWrite). AreToldKept (tells new.keeper) new.cluster.store.store d) sure is.rows)

-- the request that was answered came to that by a lawful history of its own
pub answer-course : {D : Type 0} (tells : Tells D) (faults : D → ℕ) (asked : Request) (old new : Kept D) (base : Base) → KeptFor tells old base []
    → (told found : Answer) (left : Datastore) → told ≡ found → new.cluster.store.store ≡ left → IsAnswered tells faults asked old new told → IsAnswerCourse base asked found left
answer-course tells faults asked old new base kept told found left same leaves e =
    let is = ends-kept tells old new base kept (entry.Called e.last ∷ e.earlier) e.keeps in
    subst (λ (f : Answer). IsAnswerCourse base asked f left) same
    (record {
      last = e.last;
      earlier = e.earlier;
      lawful = is.cluster.stands.lawful;
      ends = e.ends;
      alone = e.alone;
      leaves = sym is.cluster.is_cluster.store ∙ leaves;
    })

pub fault-course : {D : Type 0} (tells : Tells D) (faults : D → ℕ) (asked : Request) (old new : Kept D) (base : Base) → KeptFor tells old base []
    → (told : Answer) → IsFaulted tells faults asked old new told → IsFaultCourse base asked (tells new.keeper)
fault-course tells faults asked old new base kept told e =
    let is = ends-kept tells old new base kept (entry.Called e.last ∷ e.earlier) e.keeps in
    record {
      last = e.last;
      earlier = e.earlier;
      lawful = is.cluster.stands.lawful;
      ends = e.ends;
      failed = e.failed;
      own = e.own;
      alone = e.alone;
      doubt = new.doubt;
      rows = subst (λ (s : Datastore). AreToldKept (tells new.keeper) s new.doubt) is.cluster.is_cluster.store is.rows;
      is_doubt = is.doubt;
    }
