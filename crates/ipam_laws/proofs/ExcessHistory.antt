-- In every lawful history a count is too high only by what running requests are ahead by, and by what
-- ended requests left over.
use Rattle.std.proofs.Common.{◌≡◌, ◌≢◌, ◌⊎◌, ℕ, zero, suc, ◌+◌, ◌<◌, ◌≤◌, inl, inr, Bool, true, false, cond, List, [], ◌∷◌, Option, Some, None, refl, sym, ap, ◌∙◌, subst, arith, bytes_eq}
use Rattle.std.specs.Prelude.{◌&&◌, Contains, option_map}
use Rattle.ipam_addr.specs.Shape.{CidrValue}
use Rattle.ipam_records.specs.declared.call.Call.{Call}
use Rattle.ipam_records.specs.declared.call.Call.TheVariants.{Get, List as ListAll, Create, Update, Delete}
use Rattle.ipam_records.specs.declared.key.Key.{Key}
use Rattle.ipam_records.specs.Datastore.{Datastore, reply_of, write_granted, write_of}
use Rattle.ipam_records.specs.Label.{CallLabel, Credit, idle}
use Rattle.ipam_records.specs.Said.{Said, Can}
use Rattle.ipam_records.specs.Sound.{IsDatastore}
use Rattle.ipam_records.specs.Word.{Word, Ends, Asks, Waits, answer_in, label_of}
use Rattle.ipam_model.specs.declared.answer.Answer.{Answer}
use Rattle.ipam_model.specs.declared.entry.Called.{Called}
use Rattle.ipam_model.specs.declared.entry.Entry.{Entry}
use Rattle.ipam_model.specs.declared.entry.Entry.TheVariants as entry
use Rattle.ipam_model.specs.declared.entry.Fate.{Fate}
use Rattle.ipam_model.specs.declared.entry.Fate.TheVariants.{Well, Before, After}
use Rattle.ipam_model.specs.declared.entry.Told.TheVariants as told
use Rattle.ipam_model.specs.declared.request.Request.{Request}
use Rattle.ipam_model.specs.Cluster.{RunningRequest, after, call_entry, call_made, goes_on, run_after_feed, store_with, word_after_reply}
use Rattle.ipam_model.specs.CountLaw.{IsCovered, amount_for, credit_of_slot, credits, handle_count, held_count}
use Rattle.ipam_model.specs.Course.{slot_count}
use Rattle.ipam_model.specs.Credits.{HasCredit, HasWritten, RunsWith, call_key_written}
use Rattle.ipam_model.specs.History.{Base, Lawful, RequestSpan, cluster_at, moment_of, now, slot_of_entry, store_at}
use Rattle.ipam_model.specs.Named.{name_of, told_of}
use Rattle.ipam_model.specs.Usable.{is_same_cidr}
use Rattle.ipam_laws.specs.Excess.{Adds, AtFirst, CausesLaw, EndsShort, ExactLaw, Fails, FindsNone, GivesUp, IsLeftOver, Stays, Stops}
use Rattle.ipam_laws.proofs.CountHistory.{changed_sum, count_law, credit-label, credit_law, none-owe, sum-with, sum_with}
use Rattle.ipam_laws.proofs.CountLemmas.{cidr_cases, text_cases}
use Rattle.ipam_laws.proofs.CountSinks.{CountsSink, CoversOwed, step-sinks}
use Rattle.ipam_laws.proofs.CountSteps.{owed}
use Rattle.ipam_laws.proofs.Debts.{Nothing}
use Rattle.ipam_laws.proofs.ExcessSpans.{IsAlike, credit-alike, credit-later, same-store}
use Rattle.ipam_laws.proofs.FamilyHistory.{told-can}
use Rattle.ipam_laws.proofs.KeptWords.{own-slot}
use Rattle.ipam_laws.proofs.LabelHistory.{LeftSays, all-says, labels_law, run-says, trail-sound}
use Rattle.ipam_laws.proofs.Lift.{behind}
use Rattle.ipam_laws.proofs.MayHear.{member-sum}
use Rattle.ipam_laws.proofs.Members.{in-here, in-there}
use Rattle.ipam_laws.proofs.OwnersHistory.{next-is}
use Rattle.ipam_laws.proofs.Says.{IsGivenUp, NoneLeft, Rests, Says, TooOften}
use Rattle.ipam_laws.proofs.SaysWords.{AllSettled}
use Rattle.ipam_laws.proofs.SlotSteps.{Turn, known_at, label_at, label_in, turn-of}
use Rattle.ipam_laws.proofs.SoundHistory.{sound_law}
use Rattle.ipam_laws.proofs.SpanSteps.{owes-exactly}
use Rattle.ipam_laws.proofs.StoreSteps.{can-next, failed-answered}
use Rattle.ipam_laws.proofs.Trails.{IsMade, IsTrail, Trail, call-comes, grown, made, now-is, span_at}

-- ---- credits and what labels owe

abbrev credit_for : List ℕ → CidrValue → ℕ → Credit
credit_for id cidr amount = record { handle = id; block = cidr; amount = amount }

-- a label that owes some has this credit
owed-is : (id : List ℕ) (cidr : CidrValue) (o : Option Credit) (more : ℕ) → amount_for id cidr o ≡ suc more → o ≡ Some (credit_for id cidr (suc more))
owed-is id cidr None more e = absurd (cc e)
owed-is id cidr (Some credit) more e = elim (text_cases credit.handle id) [
  | inl (t, handle) ↦ elim (cidr_cases credit.block cidr) [
    | inl (u, block) ↦
        let amount : credit.amount ≡ suc more = with_both (bytes_eq credit.handle id) (is_same_cidr credit.block cidr) t u e in
        λ i. Some (record { handle = handle i; block = block i; amount = amount i })
    | inr (u, differ) ↦ absurd (without (bytes_eq credit.handle id) (is_same_cidr credit.block cidr) u e)
  ]
  | inr (t, differ) ↦ absurd (without_first (bytes_eq credit.handle id) (is_same_cidr credit.block cidr) t e)
]
  where
    with_both : (a b : Bool) → a ≡ true → b ≡ true → cond (a && b) credit.amount 0 ≡ suc more → credit.amount ≡ suc more
    with_both true true f g h = h
    with_both true false f g h = absurd (cc g)
    with_both false b f g h = absurd (cc f)

    without : (a b : Bool) → b ≡ false → cond (a && b) credit.amount 0 ≡ suc more → ⊥
    without true true g h = cc g
    without true false g h = cc h
    without false b g h = cc h

    without_first : (a b : Bool) → a ≡ false → cond (a && b) credit.amount 0 ≡ suc more → ⊥
    without_first true b g h = cc g
    without_first false b g h = cc h

-- what runs where the label has a credit
record IsOwing (base : Base) (history : List Entry) (slot : ℕ) (credit : Credit) : Type 0 where
  running : RunningRequest
  runs : (cluster_at base history).slots slot ≡ Some running
  has : HasCredit (span_at base history slot) credit

module _ (base : Base) (sound : IsDatastore base.store) where
  owing : (history : List Entry) → Lawful base history → (slot : ℕ) (credit : Credit) → (label_at base history slot).credit ≡ Some credit → IsOwing base history slot credit
  owing history h slot credit e = by ((cluster_at base history).slots slot) refl e
    where
      by : (o : Option RunningRequest) → (cluster_at base history).slots slot ≡ o → (label_in o).credit ≡ Some credit → IsOwing base history slot credit
      by None runs f = absurd (cc f)
      by (Some running) runs f = record { running = running; runs = runs; has = ((labels_law base history slot running sound h runs).credit credit).0 f }

  owing-some : (history : List Entry) → Lawful base history → (slot : ℕ) (id : List ℕ) (cidr : CidrValue) (more : ℕ) → owed id cidr (label_at base history slot) ≡ suc more → IsOwing base history slot (credit_for id cidr (suc more))
  owing-some history h slot id cidr more e = owing history h slot (credit_for id cidr (suc more)) (owed-is id cidr (label_at base history slot).credit more e)

  -- what runs and stands idle has no credit
  idle-none : (history : List Entry) → Lawful base history → (slot : ℕ) (running : RunningRequest) → (cluster_at base history).slots slot ≡ Some running → label_at base history slot ≡ idle → (credit : Credit) → ¬ (HasCredit (span_at base history slot) credit)
  idle-none history h slot running runs idles credit has =
      let label = ((labels_law base history slot running sound h runs).credit credit).1 has in
      let none : (label_of running.word).credit ≡ None = ap (λ (l : CallLabel). l.credit) (sym (ap label_in runs) ∙ idles) in
      absurd (cc (label, none))

-- ---- a call that left the store wrote nothing

counter-moves : (store : Datastore) (asked : Call) (revision : ℕ) (k : Key) → reply_of store asked ≡ Can revision → call_key_written (name_of asked) ≡ Some k → behind store asked ≢ store
counter-moves store asked revision k can wrote same =
    let next = can-next store asked revision can in
    let counter : (store_with (write_of asked revision) store).counter ≡ store.counter = ap (λ (said : Said). (store_with (write_granted asked said) store).counter) (sym can) ∙ ap (λ (s : Datastore). s.counter) same in
    by asked wrote counter next
  where
    by : (c : Call) → call_key_written (name_of c) ≡ Some k → (store_with (write_of c revision) store).counter ≡ store.counter → revision ≡ store.counter + 1 → ⊥
    by (Get other) w e n = cc w
    by (ListAll kind) w e n = cc w
    by (Create new) w e n = absurd (omega arith)
    by (Update new old) w e n = absurd (omega arith)
    by (Delete other old) w e n = absurd (omega arith)

failed-nothing : (c : Called) (asked : Call) (reply : Said) (answer : Option Answer) → call_made c.slot Before asked reply answer ≡ c → c.reply ≡ told.Nothing
failed-nothing c asked reply answer e = sym (ap (λ (x : Called). x.reply) e)

call-told : (fate : Fate) (c : Called) (asked : Call) (reply : Said) (answer : Option Answer) → call_made c.slot fate asked reply answer ≡ c → fate ≢ Before → (c.call ≡ name_of asked) × (c.reply ≡ told_of reply)
call-told Well c asked reply answer e not = (sym (ap (λ (x : Called). x.call) e), sym (ap (λ (x : Called). x.reply) e))
call-told After c asked reply answer e not = (sym (ap (λ (x : Called). x.call) e), sym (ap (λ (x : Called). x.reply) e))
call-told Before c asked reply answer e not = absurd (not refl)

-- a call that was done, and left the store, wrote nothing
done-nothing : (base : Base) (history : List Entry) (c : Called) (word : Word Answer) → (is : IsMade c (store_at base history) (cluster_at base history).entries word) → c.fate ≢ Before → store_at base (entry.Called c ∷ history) ≡ store_at base history
    → (k : Key) (revision : ℕ) → call_key_written c.call ≡ Some k → c.reply ≡ told.Done revision → ⊥
done-nothing base history c word is well same k revision wrote done =
    let store = store_at base history in
    let reply = reply_of store is.asked in
    let answer = answer_in (is.next (cluster_at base history).entries reply) in
    let (named, replied) = call-told c.fate c is.asked reply answer is.is_call well in
    let can = told-can reply revision (sym replied ∙ done) in
    let next = next-is base history c is.asked answer is.is_call well in
    counter-moves store is.asked revision k can (ap call_key_written (sym named) ∙ wrote) (sym next ∙ same)

-- one that failed before has no revision
before-nothing : (base : Base) (history : List Entry) (c : Called) (word : Word Answer) → (is : IsMade c (store_at base history) (cluster_at base history).entries word) → c.fate ≡ Before → (revision : ℕ) → c.reply ≡ told.Done revision → ⊥
before-nothing base history c word is before revision done =
    let reply = reply_of (store_at base history) is.asked in
    let answer = answer_in (is.next (cluster_at base history).entries reply) in
    let whole = ap (λ (f : Fate). call_made c.slot f is.asked reply answer) (sym before) ∙ is.is_call in
    let nothing = failed-nothing c is.asked reply answer whole in
    cc (nothing, done)

call-nothing : (base : Base) (history : List Entry) (c : Called) (word : Word Answer) → (is : IsMade c (store_at base history) (cluster_at base history).entries word) → store_at base (entry.Called c ∷ history) ≡ store_at base history
    → (k : Key) (revision : ℕ) → call_key_written c.call ≡ Some k → c.reply ≡ told.Done revision → ⊥
call-nothing base history c word is same k revision wrote done = by c.fate refl
  where
    by : (fate : Fate) → c.fate ≡ fate → ⊥
    by Before fate = before-nothing base history c word is fate revision done
    by Well fate = done-nothing base history c word is (λ f. cc (f, fate)) same k revision wrote done
    by After fate = done-nothing base history c word is (λ f. cc (f, fate)) same k revision wrote done

-- so nothing was written at its moment
unwritten : (base : Base) (history : List Entry) (c : Called) → Lawful base (entry.Called c ∷ history) → store_at base (entry.Called c ∷ history) ≡ store_at base history
    → (k : Key) → ¬ (HasWritten (grown (span_at base history c.slot) (entry.Called c)) (now (span_at base history c.slot)) k)
unfolding Lawful
unwritten base history c h same k w =
    let entries = now-is (span_at base history c.slot) (entry.Called c) (entry.Called w.c) w.in_span in
    let is_c : w.c ≡ c = cc entries in
    let is = made c (store_at base history) (cluster_at base history).entries h.1.running.word h.1.is_called in
    call-nothing base history c h.1.running.word is same k w.revision
    (ap (λ (x : Called). call_key_written x.call) (sym is_c) ∙ w.is_of) (ap (λ (x : Called). x.reply) (sym is_c) ∙ w.is_done)

-- an entry that is no call wrote nothing
not-called : (span : RequestSpan) (new : Entry) → ((c : Called) → entry.Called c ≢ new) → (k : Key) → ¬ (HasWritten (grown span new) (now span) k)
not-called span new differ k w = differ w.c (now-is span new (entry.Called w.c) w.in_span)

-- ---- the sum of what is owed

-- the sum where a slot has changed
sum-moves : (base : Base) (history later : List Entry) (slot : ℕ) → slot < slot_count → ((other : ℕ) → slot ≢ other → label_at base later other ≡ label_at base history other) → (id : List ℕ) (cidr : CidrValue)
    → credits id cidr (cluster_at base later).slots + owed id cidr (label_at base history slot) ≡ credits id cidr (cluster_at base history).slots + owed id cidr (label_at base later slot)
sum-moves base history later slot below others id cidr =
    let f : ℕ → ℕ = λ s. credit_of_slot id cidr ((cluster_at base later).slots s) in
    let g : ℕ → ℕ = λ s. credit_of_slot id cidr ((cluster_at base history).slots s) in
    let one = sum-with f 64 0 in
    let two = sum-with g 64 0 in
    let change = changed_sum f g slot same 64 0 (omega arith) below in
    let then = credit-label id cidr ((cluster_at base later).slots slot) in
    let before = credit-label id cidr ((cluster_at base history).slots slot) in
    omega arith
  where
    same : (other : ℕ) → other ≢ slot → credit_of_slot id cidr ((cluster_at base later).slots other) ≡ credit_of_slot id cidr ((cluster_at base history).slots other)
    same other differ =
        credit-label id cidr ((cluster_at base later).slots other)
        ∙ ap (owed id cidr) (others other (λ e. differ (sym e)))
        ∙ sym (credit-label id cidr ((cluster_at base history).slots other))

-- the count covers what the slot owes
covers-owed : (base : Base) (history : List Entry) (slot : ℕ) → IsDatastore base.store → IsCovered base.store → Lawful base history → slot < slot_count → CoversOwed (store_at base history) (label_at base history slot)
covers-owed base history slot sound covered h below id cidr =
    let all = credit_law base history sound covered h id cidr in
    let one = member-sum (λ s. credit_of_slot id cidr ((cluster_at base history).slots s)) slot_count 0 slot (omega arith) below in
    let own = credit-label id cidr ((cluster_at base history).slots slot) in
    omega arith

-- ---- an entry that gives up a debt ended its request short

-- a call that was answered, with the trail that led to the answer
record CallSettled (base : Base) (history : List Entry) (c : Called) (trail : Trail) (told_so : Answer) : Type 0 where
  request : Request
  is_trail : IsTrail (span_at base (entry.Called c ∷ history) c.slot) (moment_of base (entry.Called c ∷ history)) trail
  answers : c.answer ≡ Some told_so
  settled : AllSettled request trail told_so

module _ (base : Base) (sound : IsDatastore base.store) (history : List Entry) (credit : Credit) where
  -- it has the credit still, and ended short
  record IsGivenUpBy (new : Entry) : Type 0 where
    short : EndsShort new
    has : HasCredit (span_at base (new ∷ history) (slot_of_entry new)) credit

  -- what a settled answer leaves: nothing, unless the request gave up
  settled-short : (c : Called) (trail : Trail) (told_so : Answer) → (s : CallSettled base history c trail told_so) → HasCredit (span_at base (entry.Called c ∷ history) c.slot) credit → EndsShort (entry.Called c)
  settled-short c trail told_so s has = by s.settled s.answers
    where
      gives : (told_so : Answer) → IsGivenUp told_so → c.answer ≡ Some told_so → EndsShort (entry.Called c)
      gives told_so (TooOften lost claims) e = GivesUp c lost claims e
      gives told_so NoneLeft e = FindsNone c e

      by : Rests s.request trail ⊎ IsGivenUp told_so → c.answer ≡ Some told_so → EndsShort (entry.Called c)
      by (inl rests) e =
          let none = (owes-exactly (span_at base (entry.Called c ∷ history) c.slot) trail s.is_trail Nothing rests.owes credit).1 has in
          absurd (cc none)
      by (inr given_up) e = gives told_so given_up e

  well-short : (c : Called) → Lawful base (entry.Called c ∷ history) → (o : IsOwing base history c.slot credit) → c.fate ≡ Well → (told_so : Answer) → c.answer ≡ Some told_so → HasCredit (span_at base (entry.Called c ∷ history) c.slot) credit → EndsShort (entry.Called c)
  unfolding Lawful
  well-short c h o fate told_so answered has =
      let may = h.1 in
      let run = run-says base history sound h.0 c.slot may.running may.runs in
      let step = call-comes LeftSays all-says base history sound h.0 c may.running fate may.is_called run in
      let says = step.comes (trail-sound (span_at base (entry.Called c ∷ history) c.slot) sound h step.trail (moment_of base (entry.Called c ∷ history)) step.is_trail) in
      settled-short c step.trail told_so
      (record {
        request = may.running.request;
        is_trail = step.is_trail;
        answers = answered;
        settled = ends (word_after_reply (store_at base history) (cluster_at base history).entries may.running.word) says (sym step.answers ∙ answered);
      })
      has
    where
      ends : {request : Request} {trail : Trail} → (w : Word Answer) → Says request (AllSettled request) trail w → answer_in w ≡ Some told_so → AllSettled request trail told_so
      ends {request} {trail} (Ends answer) k e = let same : answer ≡ told_so = cc e in subst (λ (a : Answer). AllSettled request trail a) same k
      ends (Asks label asked next) k e = absurd (cc e)
      ends (Waits next) k e = absurd (cc e)

  -- where the slot stands idle afterwards, and the store stays
  given-up : (new : Entry) → Lawful base (new ∷ history) → IsOwing base history (slot_of_entry new) credit → store_at base (new ∷ history) ≡ store_at base history → label_at base (new ∷ history) (slot_of_entry new) ≡ idle → IsGivenUpBy new
  unfolding Lawful cluster_at after
  given-up (entry.Began slot request) h o same idles = let idle_before = h.1.idle in let runs = o.runs in absurd (cc (idle_before, runs))
  given-up (entry.Fed slot at live) h o same idles =
      let has = credit-later (span_at base history slot) (entry.Fed slot at live) refl (not-called (span_at base history slot) (entry.Fed slot at live) (λ c e. cc e)) credit o.has in
      let runs : (cluster_at base (entry.Fed slot at live ∷ history)).slots slot ≡ run_after_feed live (Some o.running) = own-slot slot (run_after_feed live ((cluster_at base history).slots slot)) (cluster_at base history).slots ∙ ap (run_after_feed live) o.runs in
      absurd (idle-none base sound (entry.Fed slot at live ∷ history) h slot _ runs idles credit has)
  given-up (entry.Stopped slot) h o same idles = record {
    short = Stops slot;
    has = credit-later (span_at base history slot) (entry.Stopped slot) refl (not-called (span_at base history slot) (entry.Stopped slot) (λ c e. cc e)) credit o.has;
  }
  given-up (entry.Called c) h o same idles = record { short = by c.fate refl; has = has }
    where
      has : HasCredit (span_at base (entry.Called c ∷ history) c.slot) credit
      has = credit-later (span_at base history c.slot) (entry.Called c) refl (unwritten base history c h same) credit o.has

      answered : (answer : Option Answer) → c.answer ≡ answer → c.fate ≡ Well → EndsShort (entry.Called c)
      answered (Some told_so) e fate = well-short c h o fate told_so e has
      answered None e fate =
          let goes : (cluster_at base (entry.Called c ∷ history)).slots c.slot ≡ goes_on (store_at base history) (cluster_at base history).entries None (Some o.running) =
          own-slot c.slot (goes_on (store_at base history) (cluster_at base history).entries c.answer ((cluster_at base history).slots c.slot)) (cluster_at base history).slots
          ∙ (λ i. goes_on (store_at base history) (cluster_at base history).entries (e i) (o.runs i)) in
          absurd (idle-none base sound (entry.Called c ∷ history) h c.slot _ goes idles credit has)

      by : (fate : Fate) → c.fate ≡ fate → EndsShort (entry.Called c)
      by Before fate = Fails c (λ f. cc (f, fate))
      by After fate = Fails c (λ f. cc (f, fate))
      by Well fate = answered c.answer refl fate

-- ---- every entry

-- what is left over, and how high the count is at most
record IsSunk (base : Base) (history : List Entry) (id : List ℕ) (cidr : CidrValue) : Type 0 where
  left : ℕ
  over : IsLeftOver base id cidr history left
  most : handle_count (store_at base history) id cidr + held_count base.store id cidr
      ≤ held_count (store_at base history) id cidr + handle_count base.store id cidr + credits id cidr (cluster_at base history).slots + left

module _ (base : Base) (sound : IsDatastore base.store) (covered : IsCovered base.store) (history : List Entry) (id : List ℕ) (cidr : CidrValue) (sunk : IsSunk base history id cidr) where
  -- the store stays, and the slot owes no more: what it owed is left over
  gives-up : (new : Entry) → Lawful base (new ∷ history) → store_at base (new ∷ history) ≡ store_at base history → label_at base (new ∷ history) (slot_of_entry new) ≡ idle → (turn : Turn base history new) → IsSunk base (new ∷ history) id cidr
  unfolding Lawful
  gives-up new h same idles turn = by (owed id cidr (label_at base history (slot_of_entry new))) refl
    where
      moves : credits id cidr (cluster_at base (new ∷ history)).slots + owed id cidr (label_at base history (slot_of_entry new)) ≡ credits id cidr (cluster_at base history).slots
      moves =
          let sum = sum-moves base history (new ∷ history) (slot_of_entry new) turn.below turn.others id cidr in
          let none = ap (owed id cidr) idles in
          omega arith

      counts : handle_count (store_at base (new ∷ history)) id cidr ≡ handle_count (store_at base history) id cidr
      counts = ap (λ (s : Datastore). handle_count s id cidr) same

      holds : held_count (store_at base (new ∷ history)) id cidr ≡ held_count (store_at base history) id cidr
      holds = ap (λ (s : Datastore). held_count s id cidr) same

      by : (amount : ℕ) → owed id cidr (label_at base history (slot_of_entry new)) ≡ amount → IsSunk base (new ∷ history) id cidr
      by zero e = record {
        left = sunk.left;
        over = Stays new history sunk.left sunk.over;
        most = let k = sunk.most in omega (arith, moves, counts, holds, e);
      }
      by (suc more) e =
          let owes = owing-some base sound history h.0 (slot_of_entry new) id cidr more e in
          let up = given-up base sound history (credit_for id cidr (suc more)) new h owes same idles in
          record {
            left = suc more + sunk.left;
            over = Adds new history sunk.left (suc more) up.short up.has sunk.over;
            most = let k = sunk.most in omega (arith, moves, counts, holds, e);
          }

  -- the count sinks with what is owed
  sinks : (new : Entry) (turn : Turn base history new) → label_at base (new ∷ history) (slot_of_entry new) ≡ turn.reached → CountsSink (store_at base history) (store_at base (new ∷ history)) (label_at base history (slot_of_entry new)) turn.reached → IsSunk base (new ∷ history) id cidr
  sinks new turn exact sink = record {
    left = sunk.left;
    over = Stays new history sunk.left sunk.over;
    most =
        let sum = sum-moves base history (new ∷ history) (slot_of_entry new) turn.below turn.others id cidr in
        let at = ap (owed id cidr) exact in
        let one = sink id cidr in
        let k = sunk.most in
        omega arith;
  }

  entry-sunk : (new : Entry) → Lawful base (new ∷ history) → ((c : Called) → new ≡ entry.Called c → c.fate ≢ After) → IsSunk base (new ∷ history) id cidr
  unfolding Lawful
  entry-sunk new h well =
      let turn = turn-of base history new sound h in
      let exact = turn.exact well in
      elim (step-sinks (known_at base history) (store_at base history) (store_at base (new ∷ history)) (label_at base history (slot_of_entry new)) turn.reached (sound_law base history sound h.0) (covers-owed base history (slot_of_entry new) sound covered h.0 turn.below) turn.step) [
        | inl sink ↦ sinks new turn exact sink
        | inr up ↦ gives-up new h up.0 (exact ∙ up.1) turn
      ]

-- ---- a call that failed after it was done

-- the same call, which went well
record WentWell (base : Base) (history : List Entry) (c : Called) : Type 0 where
  other : Called
  alike : IsAlike c other
  well : other.fate ≡ Well
  lawful : Lawful base (entry.Called other ∷ history)

well-instead : (base : Base) (history : List Entry) (c : Called) → Lawful base (entry.Called c ∷ history) → c.fate ≡ After → WentWell base history c
unfolding Lawful
well-instead base history c h fate =
    let may = h.1 in
    let store = store_at base history in
    let moment = (cluster_at base history).entries in
    let is = made c store moment may.running.word may.is_called in
    let reply = reply_of store is.asked in
    let answer = answer_in (is.next moment reply) in
    let other = call_made c.slot Well is.asked reply answer in
    let whole : call_made c.slot After is.asked reply answer ≡ c = ap (λ (f : Fate). call_made c.slot f is.asked reply answer) (sym fate) ∙ is.is_call in
    record {
      other = other;
      alike = record {
        slot = refl;
        call = ap (λ (x : Called). x.call) whole;
        reply = ap (λ (x : Called). x.reply) whole;
        is_written = ap (λ (x : Called). x.written) whole;
      };
      well = refl;
      lawful = (
        h.0,
        record {
          turn = may.turn;
          running = may.running;
          runs = may.runs;
          is_called = ap (λ (w : Word Answer). call_entry c.slot Well store moment w) is.is_word;
        },
      );
    }

-- the slot of a call that failed stands idle
failed-idle : (base : Base) (history : List Entry) (c : Called) → Lawful base (entry.Called c ∷ history) → c.fate ≢ Well → label_at base (entry.Called c ∷ history) c.slot ≡ idle
unfolding cluster_at after
failed-idle base history c h fate =
    let fault = failed-answered base history c h fate in
    ap label_in (own-slot c.slot (goes_on (store_at base history) (cluster_at base history).entries c.answer ((cluster_at base history).slots c.slot)) (cluster_at base history).slots
    ∙ ap (λ (o : Option Answer). goes_on (store_at base history) (cluster_at base history).entries o ((cluster_at base history).slots c.slot)) fault)

module _ (base : Base) (sound : IsDatastore base.store) (covered : IsCovered base.store) (history : List Entry) (id : List ℕ) (cidr : CidrValue) (sunk : IsSunk base history id cidr) (c : Called) (h : Lawful base (entry.Called c ∷ history)) (fate : c.fate ≡ After) where
  abbrev later : List Entry
  later = entry.Called c ∷ history

  fails : EndsShort (entry.Called c)
  fails = Fails c (λ f. cc (f, fate))

  -- what the call made the count ahead by is left over
  leaves : (instead : WentWell base history c) (turn : Turn base history (entry.Called c)) → (turn' : Turn base history (entry.Called instead.other))
      → CountsSink (store_at base history) (store_at base later) (label_at base history c.slot) (label_at base (entry.Called instead.other ∷ history) instead.other.slot) → IsSunk base later id cidr
  leaves instead turn turn' sink = by (owed id cidr (label_at base (entry.Called instead.other ∷ history) instead.other.slot)) refl
    where
      sum : credits id cidr (cluster_at base later).slots + owed id cidr (label_at base history c.slot) ≡ credits id cidr (cluster_at base history).slots + owed id cidr (label_at base later c.slot)
      sum = sum-moves base history later c.slot turn.below turn.others id cidr

      none : owed id cidr (label_at base later c.slot) ≡ 0
      none = ap (owed id cidr) (failed-idle base history c h (λ f. cc (f, fate)))

      by : (amount : ℕ) → owed id cidr (label_at base (entry.Called instead.other ∷ history) instead.other.slot) ≡ amount → IsSunk base later id cidr
      by zero e = record {
        left = sunk.left;
        over = Stays (entry.Called c) history sunk.left sunk.over;
        most = let k = sunk.most in let one = sink id cidr in omega (arith, sum, none, e);
      }
      by (suc more) e =
          let owes = owing-some base sound (entry.Called instead.other ∷ history) instead.lawful instead.other.slot id cidr more e in
          let has = subst (λ (s : ℕ). HasCredit (span_at base (entry.Called instead.other ∷ history) s) (credit_for id cidr (suc more))) instead.alike.slot owes.has in
          record {
            left = suc more + sunk.left;
            over = Adds (entry.Called c) history sunk.left (suc more) fails (credit-alike (span_at base history c.slot) c instead.other refl instead.alike (credit_for id cidr (suc more)) has) sunk.over;
            most = let k = sunk.most in let one = sink id cidr in omega (arith, sum, none, e);
          }

  after-sunk : IsSunk base later id cidr
  unfolding Lawful
  after-sunk =
      let instead = well-instead base history c h fate in
      let new = entry.Called instead.other in
      let turn = turn-of base history new sound instead.lawful in
      let turn_of_c = turn-of base history (entry.Called c) sound h in
      let exact = turn.exact (λ x e f. let same : instead.other ≡ x = cc e in let went = instead.well in absurd (cc (ap (λ (y : Called). y.fate) same, went, f))) in
      let same = same-store base history c instead.other instead.alike in
      let slot = instead.alike.slot in
      elim (step-sinks (known_at base history) (store_at base history) (store_at base (new ∷ history)) (label_at base history instead.other.slot) turn.reached (sound_law base history sound h.0) (covers-owed base history instead.other.slot sound covered h.0 turn.below) turn.step) [
        | inl sink ↦
            leaves instead turn_of_c turn
            (subst (λ (s : Datastore). CountsSink (store_at base history) s (label_at base history c.slot) (label_at base (new ∷ history) instead.other.slot)) same
            (subst (λ (l : CallLabel). CountsSink (store_at base history) (store_at base (new ∷ history)) (label_at base history c.slot) l) (sym exact)
            (subst (λ (n : ℕ). CountsSink (store_at base history) (store_at base (new ∷ history)) (label_at base history n) turn.reached) slot sink)))
        | inr up ↦
            gives-up base sound covered history id cidr sunk (entry.Called c) h (sym same ∙ up.0) (failed-idle base history c h (λ f. cc (f, fate))) turn_of_c
      ]

-- ---- the whole history

is-called-after : (new : Entry) → ((c : Called) × (new ≡ entry.Called c) × (c.fate ≡ After)) ⊎ ((c : Called) → new ≡ entry.Called c → c.fate ≢ After)
is-called-after (entry.Began slot request) = inr (λ c e f. absurd (cc e))
is-called-after (entry.Fed slot at live) = inr (λ c e f. absurd (cc e))
is-called-after (entry.Stopped slot) = inr (λ c e f. absurd (cc e))
is-called-after (entry.Called c) = by c.fate refl
  where
    other : (fate : Fate) → c.fate ≡ fate → fate ≢ After → (x : Called) → entry.Called c ≡ entry.Called x → x.fate ≢ After
    other fate is differ x e f = let same : c ≡ x = cc e in differ (sym is ∙ ap (λ (y : Called). y.fate) same ∙ f)

    by : (fate : Fate) → c.fate ≡ fate → ((x : Called) × (entry.Called c ≡ entry.Called x) × (x.fate ≡ After)) ⊎ ((x : Called) → entry.Called c ≡ entry.Called x → x.fate ≢ After)
    by After fate = inl (c, refl, fate)
    by Well fate = inr (other Well fate (λ e. cc e))
    by Before fate = inr (other Before fate (λ e. cc e))

history-sunk : (base : Base) (history : List Entry) → IsDatastore base.store → IsCovered base.store → Lawful base history → (id : List ℕ) (cidr : CidrValue) → IsSunk base history id cidr
unfolding Lawful cluster_at
history-sunk base [] sound covered h id cidr = record {
  left = 0;
  over = AtFirst;
  most = let none = sum-with (λ slot. credit_of_slot id cidr None) 64 0 ∙ none-owe id cidr 64 0 in omega arith;
}
history-sunk base (new ∷ history) sound covered h id cidr =
    let sunk = history-sunk base history sound covered h.0 id cidr in
    elim (is-called-after new) [
      | inl (c, is, fate) ↦
          subst (λ (e : Entry). IsSunk base (e ∷ history) id cidr) (sym is)
          (after-sunk base sound covered history id cidr sunk c (subst (λ (e : Entry). Lawful base (e ∷ history)) is h) fate)
      | inr well ↦ entry-sunk base sound covered history id cidr sunk new h well
    ]

-- ---- the laws

-- what the label of a slot owes is a credit of what runs there
by-running : (base : Base) (history : List Entry) → IsDatastore base.store → Lawful base history → (id : List ℕ) (cidr : CidrValue) (slot : ℕ)
    → (credit_of_slot id cidr ((cluster_at base history).slots slot) ≡ 0) ⊎ RunsWith (span_at base history slot) (credit_for id cidr (credit_of_slot id cidr ((cluster_at base history).slots slot)))
by-running base history sound h id cidr slot = by (credit_of_slot id cidr ((cluster_at base history).slots slot)) refl
  where
    by : (amount : ℕ) → credit_of_slot id cidr ((cluster_at base history).slots slot) ≡ amount → (amount ≡ 0) ⊎ RunsWith (span_at base history slot) (credit_for id cidr amount)
    by zero e = inl refl
    by (suc more) e =
        let owes = owing-some base sound history h slot id cidr more (sym (credit-label id cidr ((cluster_at base history).slots slot)) ∙ e) in
        inr (record {
          request = owes.running.request;
          runs = ap (λ (o : Option RunningRequest). option_map (λ (r : RunningRequest). r.request) o) owes.runs;
          has = owes.has;
        })

pub causes_law : CausesLaw
causes_law base history sound covered h id cidr =
    let sunk = history-sunk base history sound covered h id cidr in
    record {
      ahead = λ slot. credit_of_slot id cidr ((cluster_at base history).slots slot);
      by_running = by-running base history sound h id cidr;
      left = sunk.left;
      by_ended = sunk.over;
      most = sunk.most;
    }

-- nothing is left over where no request was ended short
none-left : (base : Base) (id : List ℕ) (cidr : CidrValue) (history : List Entry) (left : ℕ) → IsLeftOver base id cidr history left → ((new : Entry) → Contains history new → ¬ (EndsShort new)) → left ≡ 0
none-left base id cidr history left AtFirst none = refl
none-left base id cidr history left (Stays new rest amount over) none = none-left base id cidr rest amount over (λ other there. none other (in-there other new rest there))
none-left base id cidr history left (Adds new rest amount more short has over) none = absurd (none new (in-here new rest) short)

pub exact_law : ExactLaw
unfolding sum_with
exact_law base history sound exact h idle_all none id cidr =
    let covered : IsCovered base.store = λ i c. let e = exact i c in omega arith in
    let sunk = history-sunk base history sound covered h id cidr in
    let over = none-left base id cidr history sunk.left sunk.over none in
    let least = count_law base history sound covered h id cidr in
    let at_base = exact id cidr in
    let nobody = sum-with (λ slot. credit_of_slot id cidr ((cluster_at base history).slots slot)) 64 0 ∙ idle-sum 64 0 in
    let most = sunk.most in
    omega arith
  where
    idle-sum : (many from : ℕ) → sum_with (λ slot. credit_of_slot id cidr ((cluster_at base history).slots slot)) many from ≡ 0
    idle-sum zero from = refl
    idle-sum (suc many) from =
        let rest = idle-sum many (from + 1) in
        let here = ap (credit_of_slot id cidr) (idle_all from) in
        omega arith
