-- How a request by itself ends.
use Rattle.std.proofs.Common.{◌≡◌, ℕ, ◌⊎◌, inl, inr, List, [], ◌∷◌, None, refl, sym, ap, ◌∙◌, subst}
use Rattle.std.specs.Prelude.{IfSome}
use Rattle.ipam_records.specs.Datastore.{Datastore}
use Rattle.ipam_model.specs.declared.answer.Answer.{Answer}
use Rattle.ipam_model.specs.declared.entry.Entry.{Entry}
use Rattle.ipam_model.specs.declared.entry.Entry.TheVariants as entry
use Rattle.ipam_model.specs.declared.request.Request.{Request}
use Rattle.ipam_model.specs.Alone.{alone_over}
use Rattle.ipam_model.specs.History.{Base, store_at}
use Rattle.ipam_shared.specs.declared.kept.Kept.{Kept}
use Rattle.ipam_shared.specs.Kept.{KeptFor, Tells, opened}
use Rattle.ipam_shared.specs.Rows.{AreTextsOf}
use Rattle.ipam_shared.proofs.Courses.{answer-course, ends-kept, fault-course, no-doubt, sure-rows}
use Rattle.ipam_shared.specs.Solo.{IsAnswered, IsFaulted, IsStopped, KeepsWithAll, base_of}
use Rattle.cni_types.specs.declared.version.Version.{Version}
use Rattle.ipam_command.specs.declared.cni_end.CniEnd.{CniEnd}
use Rattle.ipam_command.specs.declared.cni_end.CniEnd.TheVariants.{Failed}
use Rattle.ipam_command.specs.declared.cni_end.CniFault.TheVariants.{Memory}
use Rattle.ipam_command.specs.Calls.{AnswerEnds, KeeperFailed, AnswerTold, NoMemory, AloneEnds}
use Rattle.ipam_command.specs.Replies.{reply_to}

module _ {D : Type 0} (tells : Tells D) (faults : D → ℕ) (asked : Request) (old new : Kept D)
    (first : old.cluster.entries ≡ 0) (kept : KeptFor tells old (opened old.cluster.store.store) []) where
  now-kept : (added : List Entry) → KeepsWithAll tells old new added → KeptFor tells new (opened old.cluster.store.store) added
  now-kept added keeps = ends-kept tells old new (opened old.cluster.store.store) kept added keeps

  now-rows : (added : List Entry) → KeepsWithAll tells old new added → new.doubt ≡ None → IfSome (tells new.keeper) (λ rows. AreTextsOf rows (store_at (opened old.cluster.store.store) added))
  now-rows added keeps sure = sure-rows tells new (opened old.cluster.store.store) added (now-kept added keeps) sure

  base-opened : base_of old ≡ opened old.cluster.store.store
  base-opened = ap (λ (n : ℕ). record { store = old.cluster.store.store; first = n }) first

  pub stopped_ends : (version : Version) → old.doubt ≡ None → IsStopped tells faults asked old new → AloneEnds old.cluster.store.store asked version (Failed version Memory) (tells new.keeper) (faults old.keeper) (faults new.keeper)
  stopped_ends version sure e = (
    refl,
    e.no_fault,
    record {
      entries = e.entries;
      lawful = (now-kept e.entries e.keeps).cluster.stands.lawful;
      alone = inl e.stopped;
      rows = now-rows e.entries e.keeps (no-doubt old new e.doubt sure);
    },
  )

  alone-ends : (version : Version) (told : Answer) (end : CniEnd) → IsAnswered tells faults asked old new told → AnswerEnds asked told version end → AloneEnds old.cluster.store.store asked version end (tells new.keeper) (faults old.keeper) (faults new.keeper)
  alone-ends version told end e (KeeperFailed is) = absurd (e.not_fault is)
  alone-ends version told end e (AnswerTold reply not is) = (
    e.no_fault,
    record {
      is_told = reply;
      answer = ap (reply_to asked) (sym (e.answer ∙ ap (λ (b : Base). (alone_over b asked).0) base-opened)) ∙ is;
      text = refl;
      rows = subst (λ (s : Datastore). IfSome (tells new.keeper) (λ rows. AreTextsOf rows s)) (e.store ∙ ap (λ (b : Base). (alone_over b asked).1) base-opened) e.rows;
      course = answer-course tells faults asked old new (opened old.cluster.store.store) kept told _ _
          (e.answer ∙ ap (λ (b : Base). (alone_over b asked).0) base-opened)
          (e.store ∙ ap (λ (b : Base). (alone_over b asked).1) base-opened) e;
    },
  )
  alone-ends version told end e (NoMemory not) = (
    refl,
    e.no_fault,
    record {
      entries = entry.Called e.last ∷ e.earlier;
      lawful = (now-kept (entry.Called e.last ∷ e.earlier) e.keeps).cluster.stands.lawful;
      alone = inr e.alone;
      rows = now-rows (entry.Called e.last ∷ e.earlier) e.keeps e.sure;
    },
  )

  failed-ends : (version : Version) (told : Answer) (end : CniEnd) → IsFaulted tells faults asked old new told → AnswerEnds asked told version end → AloneEnds old.cluster.store.store asked version end (tells new.keeper) (faults old.keeper) (faults new.keeper)
  failed-ends version told end e (KeeperFailed is) = (refl, e.fault, fault-course tells faults asked old new (opened old.cluster.store.store) kept told e)
  failed-ends version told end e (AnswerTold reply not is) = absurd (not e.is_fault)
  failed-ends version told end e (NoMemory not) = absurd (not e.is_fault)

  pub answered_ends : (version : Version) (told : Answer) (end : CniEnd) → IsAnswered tells faults asked old new told ⊎ IsFaulted tells faults asked old new told → AnswerEnds asked told version end → AloneEnds old.cluster.store.store asked version end (tells new.keeper) (faults old.keeper) (faults new.keeper)
  answered_ends version told end (inl e) ends = alone-ends version told end e ends
  answered_ends version told end (inr e) ends = failed-ends version told end e ends
