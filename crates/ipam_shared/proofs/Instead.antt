-- A course whose last call was done may have ended in a failure of that call, which left its write in doubt.
use Rattle.std.proofs.Common.{◌≡◌, ℕ, inr, List, [], ◌∷◌, Option, Some, None, refl, sym, ap, ◌∙◌, subst}
use Rattle.std.specs.Prelude.{IfSome}
use Rattle.ipam_records.specs.declared.call.Call.{Call}
use Rattle.ipam_records.specs.declared.call.Row.{Row as RowText}
use Rattle.ipam_records.specs.declared.call.Write.{Write}
use Rattle.ipam_records.specs.Datastore.{Datastore, reply_of, write_granted, written}
use Rattle.ipam_records.specs.Sound.{IsDatastore}
use Rattle.ipam_records.specs.Word.{Word, Ends, Asks, Waits, next_call, answer_in}
use Rattle.ipam_model.specs.declared.answer.Answer.{Answer}
use Rattle.ipam_model.specs.declared.answer.Answer.TheVariants.{Fault}
use Rattle.ipam_model.specs.declared.entry.Called.{Called}
use Rattle.ipam_model.specs.declared.entry.Entry.{Entry}
use Rattle.ipam_model.specs.declared.entry.Entry.TheVariants as entry
use Rattle.ipam_model.specs.declared.entry.Fate.{Fate}
use Rattle.ipam_model.specs.declared.entry.Fate.TheVariants.{Well, Before}
use Rattle.ipam_model.specs.declared.request.Request.{Request}
use Rattle.ipam_model.specs.declared.request.Request.TheVariants.{Del}
use Rattle.ipam_model.specs.Alone.{IsAlone}
use Rattle.ipam_model.specs.Answered.{Answered}
use Rattle.ipam_model.specs.Cluster.{call_entry, call_made, store_after, store_with}
use Rattle.ipam_model.specs.Consistent.{IsConsistent}
use Rattle.ipam_model.specs.FateLaw.{IsSameCall}
use Rattle.ipam_model.specs.History.{Base, Lawful, cluster_at, store_at}
use Rattle.ipam_laws.proofs.Fates.{any_fate, faults}
use Rattle.ipam_laws.proofs.SlotsHistory.{consistent_law}
use Rattle.ipam_laws.proofs.StoreSteps.{write_told-granted}
use Rattle.ipam_shared.specs.Courses.{IsFaultCourse}
use Rattle.ipam_shared.specs.Rows.{AreTextsOf, AreToldKept, key_written, row_back, rows_after, texts_written}
use Rattle.ipam_shared.proofs.Doubts.{DoneInstead, after-store, done-instead, failed-in}
use Rattle.ipam_shared.proofs.StoreTexts.{stand-before, stand-texts, texts-stand, written-after}

-- ---- what a call leaves

-- the call that an entry tells of is the one that the word asks for
record Made (slot : ℕ) (fate : Fate) (store : Datastore) (word : Word Answer) (c : Called) : Type 0 where
  pub own : Call
  pub asks : next_call word ≡ Some own
  pub answer : Option Answer
  pub is : call_made slot fate own (reply_of store own) answer ≡ c

made-of : (slot : ℕ) (fate : Fate) (store : Datastore) (moment : ℕ) (word : Word Answer) (c : Called) → call_entry slot fate store moment word ≡ Some c → Made slot fate store word c
made-of slot fate store moment (Ends answer) c e = absurd (cc e)
made-of slot fate store moment (Waits next) c e = absurd (cc e)
made-of slot fate store moment (Asks label first next) c e = record {
  own = first;
  asks = refl;
  answer = answer_in (next moment (reply_of store first));
  is = cc e;
}

-- one that was done leaves what its write makes of the store
well-leaves : (slot : ℕ) (store : Datastore) (word : Word Answer) (c : Called) → (m : Made slot Well store word c) → store_after c store ≡ store_with (write_granted m.own (reply_of store m.own)) store
well-leaves slot store word c m =
    subst (λ (x : Called). store_after x store ≡ store_with (write_granted m.own (reply_of store m.own)) store) m.is
    (ap (λ w. store_with w store) (write_told-granted m.own (reply_of store m.own)))

-- one that failed before it was done leaves the store
before-leaves : (slot : ℕ) (store : Datastore) (word : Word Answer) (c : Called) → Made slot Before store word c → store_after c store ≡ store
before-leaves slot store word c m = subst (λ (x : Called). store_after x store ≡ store) m.is refl

not-well : (fate : Fate) → fate ≡ Before → fate ≡ Well → ⊥
not-well fate e f = cc (e, f)

-- ---- the course that ends in the failure

module _ (base : Base) (asked : Request) (earlier : List Entry) (last : Called) (consistent : IsConsistent base.store) where
  -- the same call had it failed before, and what each leaves
  record Instead : Type 0 where
    pub other : Called
    pub same : IsSameCall last other Before
    pub lawful : Lawful base (entry.Called other ∷ earlier)
    pub leaves : store_at base (entry.Called other ∷ earlier) ≡ store_at base earlier
    pub granted : Option Write
    pub left : store_at base (entry.Called last ∷ earlier) ≡ store_with granted (store_at base earlier)
    pub done : (write : Write) → granted ≡ Some write → DoneInstead base earlier other write

  instead : Lawful base (entry.Called last ∷ earlier) → last.fate ≡ Well → Instead
  unfolding Lawful
  instead lawful well =
      let (other, same, other_lawful) = any_fate base earlier last Before lawful in
      let may = lawful.1 in
      let other_may = other_lawful.1 in
      let entries = (cluster_at base earlier).entries in
      let made = made-of last.slot Well (store_at base earlier) entries may.running.word last
      (subst (λ (f : Fate). call_entry last.slot f (store_at base earlier) entries may.running.word ≡ Some last) well may.is_called) in
      let failed = made-of other.slot Before (store_at base earlier) entries other_may.running.word other
      (subst (λ (f : Fate). call_entry other.slot f (store_at base earlier) entries other_may.running.word ≡ Some other) same.has_fate other_may.is_called) in
      record {
        other = other;
        same = same;
        lawful = other_lawful;
        leaves = after-store base earlier other ∙ before-leaves other.slot (store_at base earlier) other_may.running.word other failed;
        granted = write_granted made.own (reply_of (store_at base earlier) made.own);
        left = after-store base earlier last ∙ well-leaves last.slot (store_at base earlier) may.running.word last made;
        done = λ write is. done-instead base earlier other may.running made.own write consistent other_lawful
            (subst (λ (s : ℕ). (cluster_at base earlier).slots s ≡ Some may.running) (sym same.same_slot) may.runs) made.asks is;
      }

  -- ---- its rows

  -- the rows are those that the write in doubt makes of the store's before it
  doubted-rows : (before : Lawful base earlier) (i : Instead) (write : Write) → i.granted ≡ Some write → (told : Option (List RowText)) → IfSome told (λ rows. AreTextsOf rows (store_at base (entry.Called last ∷ earlier)))
      → AreToldKept told (store_at base (entry.Called i.other ∷ earlier)) (Some (texts_written write))
  doubted-rows before i write is None are = tt
  doubted-rows before i write is (Some rows) are =
      let d = i.done write is in
      let store = store_at base earlier in
      let next = written store write in
      let left : store_at base (entry.Called last ∷ earlier) ≡ next = i.left ∙ ap (λ (w : Option Write). store_with w store) is in
      let next_sound : IsDatastore next = subst (λ (s : Datastore). IsDatastore s) d.store_is (consistent_law base (entry.Called d.other ∷ earlier) consistent d.lawful).sound in
      let now_sound : IsDatastore store = (consistent_law base earlier consistent before).sound in
      let stands = texts-stand next next_sound rows (subst (λ (s : Datastore). AreTextsOf rows s) left are) in
      let own = rows_after (row_back (key_written (texts_written write)) store) rows in (
        own,
        subst (λ (s : Datastore). AreTextsOf own s) (sym i.leaves) (stand-texts store now_sound own (stand-before rows store write d.named stands)),
        inr (written-after rows store write d.named stands),
      )

  course-of : (before : Lawful base earlier) (i : Instead) → last.slot ≡ 0 → IsAlone asked earlier → (told : Option (List RowText)) → IfSome told (λ rows. AreTextsOf rows (store_at base (entry.Called last ∷ earlier)))
      → IsFaultCourse base asked told
  course-of before i own alone told are = by i.granted refl
    where
      fault : i.other.answer ≡ Some Fault
      fault =
          let a : Answered = record { base = base; earlier = earlier; call = i.other; request = Del [] } in
          (faults a i.lawful).1 (λ well. not-well i.other.fate i.same.has_fate well)

      by : (granted : Option Write) → i.granted ≡ granted → IsFaultCourse base asked told
      by None is = record {
        last = i.other;
        earlier = earlier;
        lawful = i.lawful;
        ends = fault;
        failed = i.same.has_fate;
        own = i.same.same_slot ∙ own;
        alone = alone;
        doubt = None;
        rows = subst (λ (s : Datastore). IfSome told (λ rows. AreTextsOf rows s)) (i.left ∙ (ap (λ (w : Option Write). store_with w (store_at base earlier)) is ∙ sym i.leaves)) are;
        is_doubt = tt;
      }
      by (Some write) is = record {
        last = i.other;
        earlier = earlier;
        lawful = i.lawful;
        ends = fault;
        failed = i.same.has_fate;
        own = i.same.same_slot ∙ own;
        alone = alone;
        doubt = Some (texts_written write);
        rows = doubted-rows before i write is told are;
        is_doubt = failed-in base earlier i.other write consistent before i.same.has_fate i.leaves (i.done write is);
      }

-- the rows of a course whose calls were all done are those of one that ends in a failure
pub failed-course : (base : Base) (asked : Request) (earlier : List Entry) (last : Called) → IsConsistent base.store → Lawful base (entry.Called last ∷ earlier) → IsAlone asked (entry.Called last ∷ earlier)
    → (told : Option (List RowText)) → IfSome told (λ rows. AreTextsOf rows (store_at base (entry.Called last ∷ earlier)))
    → IsFaultCourse base asked told
unfolding Lawful
failed-course base asked earlier last consistent lawful (own, well, alone) told are =
    course-of base asked earlier last consistent lawful.0 (instead base asked earlier last consistent lawful well) own alone told are
