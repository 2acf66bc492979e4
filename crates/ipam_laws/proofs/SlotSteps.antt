-- In every lawful history each entry is a step of its slot, of one of the kinds, and all other slots
-- stand where they stood.
use Rattle.std.proofs.Common.{◌≡◌, ◌≢◌, ℕ, zero, suc, ◌+◌, ◌<◌, ◌≤◌, ◌⊎◌, inl, inr, Bool, true, false, cond, List, [], ◌∷◌, drop, Option, Some, None, refl, sym, ap, ◌∙◌, subst, arith, eqb-true}
use Rattle.std.specs.Prelude.{◌==◌}
use Rattle.ipam_records.specs.declared.key.Key.{Key}
use Rattle.ipam_records.specs.declared.record.Record.{Record}
use Rattle.ipam_records.specs.declared.call.Call.{Call}
use Rattle.ipam_records.specs.Datastore.{Datastore, reply_of}
use Rattle.ipam_records.specs.Label.{CallLabel, idle}
use Rattle.ipam_records.specs.Said.{Said}
use Rattle.ipam_records.specs.Sound.{IsDatastore, IsRow}
use Rattle.ipam_records.specs.Word.{Word, Ends, Asks, Waits, label_of, answer_in, after_feed, waits}
use Rattle.ipam_records.proofs.HearingLemmas.{All-row_of}
use Rattle.ipam_model.specs.declared.answer.Answer.{Answer}
use Rattle.ipam_model.specs.declared.answer.Answer.TheVariants.{Fault}
use Rattle.ipam_model.specs.declared.entry.Called.{Called}
use Rattle.ipam_model.specs.declared.entry.Entry.{Entry}
use Rattle.ipam_model.specs.declared.entry.Entry.TheVariants as entry
use Rattle.ipam_model.specs.declared.entry.Fate.{Fate}
use Rattle.ipam_model.specs.declared.entry.Fate.TheVariants.{Well, Before, After}
use Rattle.ipam_model.specs.declared.request.Request.{Request}
use Rattle.ipam_model.specs.AffinityLaw.{HasAt}
use Rattle.ipam_model.specs.Cluster.{RunningRequest, Slots, store_with, with_slot, call_made, call_entry, store_after, goes_on, fresh_run, run_after_feed, after}
use Rattle.ipam_model.specs.Course.{slot_count}
use Rattle.ipam_model.specs.History.{Base, Lawful, cluster_at, store_at, slot_of_entry}
use Rattle.ipam_model.specs.Requests.{word_of}
use Rattle.ipam_model.specs.SoundRequest.{IsSoundRequest}
use Rattle.ipam_laws.proofs.Lift.{Known, more, Grows, Agrees, behind, label_to, Meets-grows}
use Rattle.ipam_laws.proofs.StoreSteps.{StoreStep, Stays, Puts, Removes, store-step, write_told-granted}
use Rattle.ipam_laws.proofs.OneRecord.{put-found, remove-found, later-same, earlier-below}
use Rattle.ipam_laws.proofs.KeptWords.{own-slot, other-slot}
use Rattle.ipam_laws.proofs.Steps.{Step, Idles, step-grows}
use Rattle.ipam_laws.proofs.PartSteps.{Any, still, Steps, any-lasts}
use Rattle.ipam_laws.proofs.RequestSteps.{word-lawful}

-- ---- no row has the revision 0

ArePositive : Datastore → Type 0
ArePositive store = (key : Key) (revision : ℕ) (found : Record) → HasAt store key revision found → 0 < revision

step-positive : (store next : Datastore) → StoreStep store next → ArePositive store → ArePositive next
unfolding ArePositive
step-positive store next (Stays e) h = subst (λ (s : Datastore). ArePositive s) (sym e) h
step-positive store next (Puts new e left place) h = subst (λ (s : Datastore). ArePositive s) (sym e) (λ key revision found f. elim (put-found store (store.counter + 1) new key revision found f) [
  | inl is ↦ omega (arith, is.1)
  | inr old ↦ h key revision found old
])
step-positive store next (Removes gone e left) h = subst (λ (s : Datastore). ArePositive s) (sym e) (λ key revision found f. h key revision found (remove-found store (store.counter + 1) gone key revision found f))

history-positive : (base : Base) (history : List Entry) → IsDatastore base.store → Lawful base history → ArePositive (store_at base history)
unfolding Lawful cluster_at ArePositive
history-positive base [] sound h = λ key revision found e. (All-row_of (λ row. IsRow base.store.counter row) key base.store.rows (revision, found) sound.rows e).some
history-positive base (new ∷ history) sound h = step-positive (store_at base history) (store_at base (new ∷ history)) (store-step base history new h) (history-positive base history sound h.0)

-- ---- what is known of a history

-- the rows of all its stores
unfoldable pub known_at : Base → List Entry → Known
known_at base [] = λ key revision found. HasAt base.store key revision found
known_at base (new ∷ history) = more (known_at base history) (store_at base history) (store_at base (new ∷ history))

pub known-earlier : (base : Base) (history : List Entry) (key : Key) (revision : ℕ) (found : Record) → known_at base history key revision found → (many : ℕ) × HasAt (store_at base (drop many history)) key revision found
unfolding known_at cluster_at
known-earlier base [] key revision found k = (zero, k)
known-earlier base (new ∷ history) key revision found (inl k) = let (many, there) = known-earlier base history key revision found k in (suc many, there)
known-earlier base (new ∷ history) key revision found (inr (inl there)) = (suc zero, there)
known-earlier base (new ∷ history) key revision found (inr (inr there)) = (zero, there)

-- what is there now is known
pub known-now : (base : Base) (history : List Entry) (key : Key) (revision : ℕ) (found : Record) → HasAt (store_at base history) key revision found → known_at base history key revision found
unfolding known_at cluster_at
known-now base [] key revision found there = there
known-now base (new ∷ history) key revision found there = inr (inr there)

-- no known revision is above the counter
pub known-below : (base : Base) (history : List Entry) → IsDatastore base.store → Lawful base history → (key : Key) (revision : ℕ) (found : Record) → known_at base history key revision found → revision ≤ (store_at base history).counter
known-below base history sound h key revision found k =
    let (many, there) = known-earlier base history key revision found k in
    earlier-below base many history sound h key revision found there

pub history-agrees : (base : Base) (history : List Entry) → IsDatastore base.store → Lawful base history → Agrees (known_at base history) (store_at base history)
unfolding ArePositive
history-agrees base history sound h = record {
  same = λ key revision one other k there.
      let (many, early) = known-earlier base history key revision one k in
      later-same base many history sound h key revision one other early there;
  positive = history-positive base history sound h;
}

-- ---- each slot's word takes its steps

SlotsKeep : Base → List Entry → Type 0
SlotsKeep base history = (slot : ℕ) (running : RunningRequest) → (cluster_at base history).slots slot ≡ Some running → Steps still (known_at base history) running.word

pub grows-next : (base : Base) (history : List Entry) (new : Entry) → Grows (known_at base history) (known_at base (new ∷ history))
unfolding known_at
grows-next base history new key revision found k = inl k

-- what a slot has where another one changed, or the one that it was given
changed-slot : (slots : Slots) (slot : ℕ) (running : Option RunningRequest) (other : ℕ) (r : RunningRequest) → with_slot slot running slots other ≡ Some r → ((other ≡ slot) × (running ≡ Some r)) ⊎ (slots other ≡ Some r)
changed-slot slots slot running other r e = from (other == slot) refl e
  where
    from : (b : Bool) → (other == slot) ≡ b → cond b running (slots other) ≡ Some r → ((other ≡ slot) × (running ≡ Some r)) ⊎ (slots other ≡ Some r)
    from true same f = inl (eqb-true other slot same, f)
    from false differ f = inr f

keep-others : (base : Base) (history : List Entry) (new : Entry) → SlotsKeep base history → (slot : ℕ) (r : RunningRequest) → (cluster_at base history).slots slot ≡ Some r → Steps still (known_at base (new ∷ history)) r.word
unfolding SlotsKeep
keep-others base history new h slot r e = Meets-grows Step step-grows still Any any-lasts r.word (known_at base history) (known_at base (new ∷ history)) (grows-next base history new) (h slot r e)

-- the label of a word that ends idle
label-is : (w : Word Answer) → label_to still w ≡ label_of w
label-is (Ends answer) = refl
label-is (Asks label asked next) = refl
label-is (Waits next) = refl

-- where the slot stands
abbrev pub label_in : Option RunningRequest → CallLabel
label_in None = idle
label_in (Some running) = label_of running.word

abbrev pub label_at : Base → List Entry → (slot : ℕ) → CallLabel
label_at base history slot = label_in ((cluster_at base history).slots slot)

-- ---- a call of a word

-- the call is a step to where the slot then stands, or it leaves the slot idle
record CallTurn (store next : Datastore) (moment : ℕ) (c : Called) (running : RunningRequest) (known : Known) : Type 0 where
  keeps : (r : RunningRequest) → goes_on store moment c.answer (Some running) ≡ Some r → Steps still (more known store next) r.word
  reached : CallLabel
  step : Step known store next (label_of running.word) reached
  now : (label_in (goes_on store moment c.answer (Some running)) ≡ reached) ⊎ (label_in (goes_on store moment c.answer (Some running)) ≡ idle)
  exact : c.fate ≢ After → label_in (goes_on store moment c.answer (Some running)) ≡ reached

-- where a word ends it stands nowhere
ends-idle : (w : Word Answer) (told : Answer) → answer_in w ≡ Some told → label_to still w ≡ idle
ends-idle (Ends answer) told e = refl
ends-idle (Asks label asked next) told e = absurd (cc e)
ends-idle (Waits next) told e = absurd (cc e)

-- the store after a call that was done
pub done-store : (slot : ℕ) (fate : Fate) (asked : Call) (store : Datastore) (answer : Option Answer) → fate ≢ Before → store_after (call_made slot fate asked (reply_of store asked) answer) store ≡ behind store asked
done-store slot Well asked store answer done = ap (λ w. store_with w store) (write_told-granted asked (reply_of store asked))
done-store slot After asked store answer done = ap (λ w. store_with w store) (write_told-granted asked (reply_of store asked))
done-store slot Before asked store answer done = absurd (done refl)

done-turn : (store : Datastore) (moment : ℕ) (c : Called) (request : Request) (known : Known) (label : CallLabel) (asked : Call) (next : ℕ → Said → Word Answer) (answer : Option Answer) → c.answer ≡ answer
    → ((told : Answer) → answer ≡ Some told → c.fate ≢ After → label_to still (next moment (reply_of store asked)) ≡ idle)
    → Step known store (behind store asked) label (label_to still (next moment (reply_of store asked))) → Steps still (more known store (behind store asked)) (next moment (reply_of store asked))
    → CallTurn store (behind store asked) moment c (record { request = request; word = Asks label asked next }) known
done-turn store moment c request known label asked next (Some answer) e ends does meets = record {
  keeps = λ r f. absurd (cc (ap (λ o. goes_on store moment o (Some (record { request = request; word = Asks label asked next }))) e, f));
  reached = label_to still (next moment (reply_of store asked));
  step = does;
  now = inr (ap (λ o. label_in (goes_on store moment o (Some (record { request = request; word = Asks label asked next })))) e);
  exact = λ well. ap (λ o. label_in (goes_on store moment o (Some (record { request = request; word = Asks label asked next })))) e ∙ sym (ends answer refl well);
}
done-turn store moment c request known label asked next None e ends does meets =
    let goes : goes_on store moment c.answer (Some (record { request = request; word = Asks label asked next })) ≡ Some (record { request = request; word = next moment (reply_of store asked) }) = ap (λ o. goes_on store moment o (Some (record { request = request; word = Asks label asked next }))) e in
    record {
      keeps = λ r f.
          let same : record { request = request; word = next moment (reply_of store asked) } ≡ r = cc (goes, f) in
          subst (λ (x : RunningRequest). Steps still (more known store (behind store asked)) x.word) same meets;
      reached = label_to still (next moment (reply_of store asked));
      step = does;
      now = inl (ap label_in goes ∙ sym (label-is (next moment (reply_of store asked))));
      exact = λ well. ap label_in goes ∙ sym (label-is (next moment (reply_of store asked)));
    }

fate-turn : (store : Datastore) (moment slot : ℕ) (fate : Fate) (request : Request) (known : Known) (label : CallLabel) (asked : Call) (next : ℕ → Said → Word Answer)
    → Step known store (behind store asked) label (label_to still (next moment (reply_of store asked))) → Steps still (more known store (behind store asked)) (next moment (reply_of store asked))
    → CallTurn store (store_after (call_made slot fate asked (reply_of store asked) (answer_in (next moment (reply_of store asked)))) store) moment (call_made slot fate asked (reply_of store asked) (answer_in (next moment (reply_of store asked)))) (record { request = request; word = Asks label asked next }) known
fate-turn store moment slot Well request known label asked next does meets =
    let c = call_made slot Well asked (reply_of store asked) (answer_in (next moment (reply_of store asked))) in
    subst (λ (s : Datastore). CallTurn store s moment c (record { request = request; word = Asks label asked next }) known) (sym (done-store slot Well asked store (answer_in (next moment (reply_of store asked))) (λ e. cc e)))
    (done-turn store moment c request known label asked next (answer_in (next moment (reply_of store asked))) refl (λ told e well. ends-idle (next moment (reply_of store asked)) told e) does meets)
fate-turn store moment slot After request known label asked next does meets =
    let c = call_made slot After asked (reply_of store asked) (answer_in (next moment (reply_of store asked))) in
    subst (λ (s : Datastore). CallTurn store s moment c (record { request = request; word = Asks label asked next }) known) (sym (done-store slot After asked store (answer_in (next moment (reply_of store asked))) (λ e. cc e)))
    (done-turn store moment c request known label asked next (Some Fault) refl (λ told e well. absurd (well refl)) does meets)
fate-turn store moment slot Before request known label asked next does meets = record {
  keeps = λ r f. absurd (cc f);
  reached = idle;
  step = Idles refl refl;
  now = inl refl;
  exact = λ well. refl;
}

call-turn : (store : Datastore) (moment slot : ℕ) (fate : Fate) (running : RunningRequest) (known : Known) (c : Called) → Agrees known store → Steps still known running.word → call_entry slot fate store moment running.word ≡ Some c → CallTurn store (store_after c store) moment c running known
call-turn store moment slot fate running known c agrees steps e = from running.request running.word steps e
  where
    from : (request : Request) (w : Word Answer) → Steps still known w → call_entry slot fate store moment w ≡ Some c → CallTurn store (store_after c store) moment c (record { request = request; word = w }) known
    from request (Ends answer) k f = absurd (cc f)
    from request (Waits next) k f = absurd (cc f)
    from request (Asks label asked next) k f =
        let is : call_made slot fate asked (reply_of store asked) (answer_in (next moment (reply_of store asked))) ≡ c = cc f in
        let here = k moment store agrees in
        subst (λ (x : Called). CallTurn store (store_after x store) moment x (record { request = request; word = Asks label asked next }) known) is
        (fate-turn store moment slot fate request known label asked next here.0 here.1)

-- ---- every entry

-- a word that waits goes on standing nowhere
fed-keeps : (w : Word Answer) (live : List (List ℕ)) (known : Known) → waits w ≡ true → Steps still known w → (label_of (after_feed w live) ≡ idle) × Steps still known (after_feed w live)
fed-keeps (Ends answer) live known e h = absurd (cc e)
fed-keeps (Asks label asked next) live known e h = absurd (cc e)
fed-keeps (Waits next) live known e h = (sym (label-is (next live)) ∙ (h live).0, (h live).1)

begun-label : (request : Request) → IsSoundRequest request → label_in (fresh_run request) ≡ idle
begun-label request sound = sym (label-is (word_of request)) ∙ (word-lawful request sound (λ k r f. ⊥)).0

-- the entry is a step of its slot, and other slots stand where they stood
pub record Turn (base : Base) (history : List Entry) (new : Entry) : Type 0 where
  pub below : slot_of_entry new < slot_count
  pub reached : CallLabel
  pub step : Step (known_at base history) (store_at base history) (store_at base (new ∷ history)) (label_at base history (slot_of_entry new)) reached
  pub now : (label_at base (new ∷ history) (slot_of_entry new) ≡ reached) ⊎ (label_at base (new ∷ history) (slot_of_entry new) ≡ idle)
  -- where the call went well, or failed before, or nothing was called
  pub exact : ((c : Called) → new ≡ entry.Called c → c.fate ≢ After) → label_at base (new ∷ history) (slot_of_entry new) ≡ reached
  pub others : (other : ℕ) → slot_of_entry new ≢ other → label_at base (new ∷ history) other ≡ label_at base history other

EntryKeeps : Base → List Entry → Entry → Type 0
EntryKeeps base history new = SlotsKeep base (new ∷ history) × Turn base history new

entry-keeps : (base : Base) (history : List Entry) (new : Entry) → IsDatastore base.store → Lawful base (new ∷ history) → SlotsKeep base history → EntryKeeps base history new
unfolding EntryKeeps SlotsKeep Lawful cluster_at after known_at
entry-keeps base history (entry.Began slot request) sound h i = (
  λ other r e. elim (changed-slot (cluster_at base history).slots slot (fresh_run request) other r e) [
    | inl own ↦
        let same : record { request = request; word = word_of request } ≡ r = cc own.1 in
        subst (λ (x : RunningRequest). Steps still (known_at base (entry.Began slot request ∷ history)) x.word) same (word-lawful request h.1.sound (known_at base (entry.Began slot request ∷ history))).1
    | inr stays ↦ keep-others base history (entry.Began slot request) i other r stays
  ],
  record {
    below = h.1.turn.slot_exists;
    reached = idle;
    step = Idles refl refl;
    now = inl (ap label_in (own-slot slot (fresh_run request) (cluster_at base history).slots) ∙ begun-label request h.1.sound);
    exact = λ well. ap label_in (own-slot slot (fresh_run request) (cluster_at base history).slots) ∙ begun-label request h.1.sound;
    others = λ other differ. ap label_in (other-slot slot other (fresh_run request) (cluster_at base history).slots differ);
  },
)
entry-keeps base history (entry.Fed slot at live) sound h i =
    let may = h.1 in
    let word-keeps = i slot may.running may.runs in
    let (label, meets) = fed-keeps may.running.word live (known_at base history) may.waiting word-keeps in
    let fed_slot = run_after_feed live ((cluster_at base history).slots slot) in
    let is : run_after_feed live ((cluster_at base history).slots slot) ≡ Some (record may.running { word = after_feed may.running.word live }) = ap (run_after_feed live) may.runs in (
      λ other r e. elim (changed-slot (cluster_at base history).slots slot fed_slot other r e) [
        | inl own ↦
            let same : record may.running { word = after_feed may.running.word live } ≡ r = cc (is, own.1) in
            let wider = Meets-grows Step step-grows still Any any-lasts (after_feed may.running.word live) (known_at base history) (known_at base (entry.Fed slot at live ∷ history)) (grows-next base history (entry.Fed slot at live)) meets in
            subst (λ (x : RunningRequest). Steps still (known_at base (entry.Fed slot at live ∷ history)) x.word) same wider
        | inr stays ↦ keep-others base history (entry.Fed slot at live) i other r stays
      ],
      record {
        below = may.turn.slot_exists;
        reached = idle;
        step = Idles refl refl;
        now = inl (ap label_in (own-slot slot fed_slot (cluster_at base history).slots ∙ is) ∙ label);
        exact = λ well. ap label_in (own-slot slot fed_slot (cluster_at base history).slots ∙ is) ∙ label;
        others = λ other differ. ap label_in (other-slot slot other fed_slot (cluster_at base history).slots differ);
      },
    )
entry-keeps base history (entry.Stopped slot) sound h i = (
  λ other r e. elim (changed-slot (cluster_at base history).slots slot None other r e) [
    | inl own ↦ absurd (cc own.1)
    | inr stays ↦ keep-others base history (entry.Stopped slot) i other r stays
  ],
  record {
    below = h.1.slot_exists;
    reached = idle;
    step = Idles refl refl;
    now = inl (ap label_in (own-slot slot None (cluster_at base history).slots));
    exact = λ well. ap label_in (own-slot slot None (cluster_at base history).slots);
    others = λ other differ. ap label_in (other-slot slot other None (cluster_at base history).slots differ);
  },
)
entry-keeps base history (entry.Called c) sound h i =
    let may = h.1 in
    let store = store_at base history in
    let moment = (cluster_at base history).entries in
    let turn = call-turn store moment c.slot c.fate may.running (known_at base history) c (history-agrees base history sound h.0) (i c.slot may.running may.runs) may.is_called in
    let slot_then = goes_on store moment c.answer ((cluster_at base history).slots c.slot) in
    let is : goes_on store moment c.answer ((cluster_at base history).slots c.slot) ≡ goes_on store moment c.answer (Some may.running) = ap (goes_on store moment c.answer) may.runs in
    let before : label_at base history c.slot ≡ label_of may.running.word = ap label_in may.runs in
    let then : label_at base (entry.Called c ∷ history) c.slot ≡ label_in (goes_on store moment c.answer (Some may.running)) = ap label_in (own-slot c.slot slot_then (cluster_at base history).slots ∙ is) in (
      λ other r e. elim (changed-slot (cluster_at base history).slots c.slot slot_then other r e) [
        | inl own ↦ turn.keeps r (sym is ∙ own.1)
        | inr stays ↦ keep-others base history (entry.Called c) i other r stays
      ],
      record {
        below = may.turn.slot_exists;
        reached = turn.reached;
        step = subst (λ (l : CallLabel). Step (known_at base history) store (store_after c store) l turn.reached) (sym before) turn.step;
        now = elim turn.now [ inl reached ↦ inl (then ∙ reached) | inr idles ↦ inr (then ∙ idles) ];
        exact = λ well. then ∙ turn.exact (well c refl);
        others = λ other differ. ap label_in (other-slot c.slot other slot_then (cluster_at base history).slots differ);
      },
    )

slots-keep : (base : Base) (history : List Entry) → IsDatastore base.store → Lawful base history → SlotsKeep base history
unfolding SlotsKeep Lawful cluster_at EntryKeeps
slots-keep base [] sound h = λ slot r e. absurd (cc e)
slots-keep base (new ∷ history) sound h = (entry-keeps base history new sound h (slots-keep base history sound h.0)).0

pub turn-of : (base : Base) (history : List Entry) (new : Entry) → IsDatastore base.store → Lawful base (new ∷ history) → Turn base history new
unfolding EntryKeeps Lawful
turn-of base history new sound h = (entry-keeps base history new sound h (slots-keep base history sound h.0)).1

-- nothing stands anywhere at first
pub label-first : (base : Base) (slot : ℕ) → label_at base [] slot ≡ idle
unfolding cluster_at
label-first base slot = refl
