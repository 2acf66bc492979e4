-- In every lawful history the label of what runs in a slot says what the calls of its span have made.
use Rattle.std.proofs.Common.{◌≡◌, ℕ, ◌-◌, Bool, true, false, List, [], ◌∷◌, Option, Some, None, refl, sym, ap, ◌∙◌, subst}
use Rattle.std.specs.Prelude.{◌||◌, IsTrue, option_map}
use Rattle.ipam_records.specs.Sound.{IsDatastore}
use Rattle.ipam_records.specs.Word.{Word, Ends, Asks, Waits, answer_in, after_feed, label_of, waits}
use Rattle.ipam_records.specs.Datastore.{reply_of}
use Rattle.ipam_model.specs.declared.answer.Answer.{Answer}
use Rattle.ipam_model.specs.declared.entry.Called.{Called}
use Rattle.ipam_model.specs.declared.entry.Entry.{Entry}
use Rattle.ipam_model.specs.declared.entry.Entry.TheVariants as entry
use Rattle.ipam_model.specs.declared.request.AddRequest.{AddRequest}
use Rattle.ipam_model.specs.declared.request.ProbeRequest.{ProbeRequest}
use Rattle.ipam_model.specs.declared.request.Request.{Request}
use Rattle.ipam_model.specs.declared.request.Request.TheVariants.{Add, AddThis, Del, Check, Release, Collect, Admin, Probe}
use Rattle.ipam_model.specs.Add.{add_each, add_stops}
use Rattle.ipam_model.specs.Look.{probe_each}
use Rattle.ipam_model.specs.Step.{all_left, rounds, as_word, tries}
use Rattle.ipam_model.specs.Told.{of_add, of_probe}
use Rattle.ipam_model.specs.Usable.{families_if}
use Rattle.ipam_model.specs.Cluster.{RunningRequest, after, word_after_reply, fresh_run, run_after_feed, goes_on}
use Rattle.ipam_model.specs.History.{Base, Lawful, MayCall, RequestSpan, before, cluster_at, moment_of, now, store_at}
use Rattle.ipam_model.specs.LabelLaw.{LabelsLaw}
use Rattle.ipam_model.specs.Moments.{request_in}
use Rattle.ipam_model.specs.Requests.{told_as, word_of}
use Rattle.ipam_model.specs.SoundRequest.{IsSoundRequest}
use Rattle.ipam_laws.proofs.OneRecord.{drop-lawful}
use Rattle.ipam_laws.proofs.Says.{Says, Tells}
use Rattle.ipam_laws.proofs.SaysWords.{AllSettled, all-say}
use Rattle.ipam_laws.proofs.SoundHistory.{sound_law}
use Rattle.ipam_laws.proofs.SpanPoints.{stands-exactly}
use Rattle.ipam_laws.proofs.SpanSteps.{owes-exactly}
use Rattle.ipam_laws.proofs.Trails.{Did, Got, IsTrail, Lasts, RunComes, SlotComes, Trail, goes-well, made, slot-comes, span_at, well}
use Rattle.ipam_laws.proofs.KeptWords.{slot-is}

-- ---- what runs has a call to make, or waits

abbrev pub IsOn : Word Answer → Type 0
IsOn word = answer_in word ≡ None

-- ---- the stores of a trail are sound

unfoldable pub AllSound : Trail → Type 0
AllSound [] = Unit {0}
AllSound (Did moment store asked ∷ trail) = IsDatastore store × AllSound trail
AllSound (Got moment at live ∷ trail) = AllSound trail

pub trail-sound : (span : RequestSpan) → IsDatastore span.base.store → Lawful span.base span.history → (trail : Trail) (upto : ℕ) → IsTrail span upto trail → AllSound trail
unfolding IsTrail AllSound
trail-sound span sound h [] upto is = tt
trail-sound span sound h (Did moment store asked ∷ trail) upto is = (
  subst (λ s. IsDatastore s) is.0.before_it (sound_law span.base (before span.base span.history moment) sound (drop-lawful span.base (now span - moment) span.history h)),
  trail-sound span sound h trail moment is.2,
)
trail-sound span sound h (Got moment at live ∷ trail) upto is = trail-sound span sound h trail moment is.2

-- ---- what is left says so

pub all-says : Lasts (λ request trail word. AllSound trail → Says request (AllSettled request) trail word)
unfolding AllSound
all-says = record {
  starts = λ request sound. all-say request;
  hears = λ request trail label asked next h moment store agrees sound. (h sound.1).1 moment store agrees sound.0;
  feeds = λ request trail next h moment at live sound. ((h sound).1 moment at live).1;
}

word-tells : (request : Request) (trail : Trail) (word : Word Answer) → IsOn word → Says request (AllSettled request) trail word → Tells request trail (label_of word)
word-tells request trail (Ends answer) on h = absurd (cc on)
word-tells request trail (Asks label asked next) on h = h.0
word-tells request trail (Waits next) on h = h.0

-- ---- nothing that has answered runs

families-on : (request : AddRequest) → IsTrue (request.ipv4 || request.ipv6) → IsOn (word_of (Add request))
unfolding word_of add_each rounds
families-on request some = by request.ipv4 request.ipv6 some
  where
    by : (four six : Bool) → IsTrue (four || six) → answer_in (told_as of_add (as_word add_stops (add_each request [] (families_if four six) all_left))) ≡ None
    by true true t = refl
    by true false t = refl
    by false true t = refl
    by false false t = absurd (cc t)

probe-on : (request : ProbeRequest) → IsTrue (request.ipv4 || request.ipv6) → IsOn (word_of (Probe request))
unfolding word_of probe_each
probe-on request some = by request.ipv4 request.ipv6 some
  where
    by : (four six : Bool) → IsTrue (four || six) → answer_in (told_as of_probe (probe_each request [] (families_if four six))) ≡ None
    by true true t = refl
    by true false t = refl
    by false true t = refl
    by false false t = absurd (cc t)

pub begun-on : (request : Request) → IsSoundRequest request → IsOn (word_of request)
unfolding word_of tries rounds
begun-on (Add request) sound = families-on request sound.1
begun-on (AddThis request address) sound = refl
begun-on (Del id) sound = refl
begun-on (Check id addresses) sound = refl
begun-on (Release node cidr) sound = refl
begun-on (Collect request) sound = refl
begun-on (Admin setting) sound = refl
begun-on (Probe request) sound = probe-on request sound.some_family

-- ---- what runs has not answered

abbrev pub SlotIsOn : Option RunningRequest → Type 0
SlotIsOn None = Unit {0}
SlotIsOn (Some running) = IsOn running.word

abbrev pub LeftSays : Request → Trail → Word Answer → Type 0
LeftSays request trail word = AllSound trail → Says request (AllSettled request) trail word

-- what is left of the request that runs in the slot
slot-says : (base : Base) (history : List Entry) → IsDatastore base.store → Lawful base history → (slot : ℕ) → SlotComes LeftSays all-says base history slot ((cluster_at base history).slots slot)
slot-says base history sound h slot = slot-comes LeftSays all-says base history sound h slot

pub run-says : (base : Base) (history : List Entry) → IsDatastore base.store → Lawful base history → (slot : ℕ) (running : RunningRequest) → (cluster_at base history).slots slot ≡ Some running → RunComes LeftSays all-says base history slot running
run-says base history sound h slot running runs = subst (λ (o : Option RunningRequest). SlotComes LeftSays all-says base history slot o) runs (slot-says base history sound h slot)

says-of : (base : Base) (history : List Entry) → IsDatastore base.store → Lawful base history → (slot : ℕ) (running : RunningRequest) → (run : RunComes LeftSays all-says base history slot running) → Says running.request (AllSettled running.request) run.trail running.word
says-of base history sound h slot running run = run.comes (trail-sound (span_at base history slot) sound h run.trail (moment_of base history) run.is_trail)

fed-on : (request : Request) (trail : Trail) (word : Word Answer) (live : List (List ℕ)) → IsTrue (waits word) → Says request (AllSettled request) trail word → IsOn (after_feed word live)
fed-on request trail (Ends answer) live t h = absurd (cc t)
fed-on request trail (Asks label asked next) live t h = absurd (cc t)
fed-on request trail (Waits next) live t h = (h.1 0 0 live).0

called-on : (base : Base) (history : List Entry) (c : Called) → MayCall (cluster_at base history) c → (answer : Option Answer) → c.answer ≡ answer → SlotIsOn (goes_on (store_at base history) (cluster_at base history).entries answer ((cluster_at base history).slots c.slot))
called-on base history c may (Some answer) is = tt
called-on base history c may None is =
    let store = store_at base history in
    let moment = (cluster_at base history).entries in
    let shape = made c store moment may.running.word may.is_called in
    let answer = answer_in (shape.next moment (reply_of store shape.asked)) in
    let fate = goes-well c.fate c.slot shape.asked (reply_of store shape.asked) answer c shape.is_call is in
    let done = well c store shape.asked answer shape.is_call fate in
    let word : word_after_reply store moment may.running.word ≡ shape.next moment (reply_of store shape.asked) = ap (λ (w : Word Answer). word_after_reply store moment w) shape.is_word in
    let on : IsOn (word_after_reply store moment may.running.word) = ap answer_in word ∙ (sym done.answers ∙ is) in
    subst (λ (o : Option RunningRequest). SlotIsOn (goes_on store moment None o)) (sym may.runs) on

slots-on : (base : Base) (history : List Entry) → IsDatastore base.store → Lawful base history → (slot : ℕ) → SlotIsOn ((cluster_at base history).slots slot)
unfolding Lawful cluster_at after
slots-on base [] sound h slot = tt
slots-on base (entry.Began other request ∷ history) sound h slot =
    slot-is SlotIsOn other slot (fresh_run request) (cluster_at base history).slots (λ own. begun-on request h.1.sound) (λ differ. slots-on base history sound h.0 slot)
slots-on base (entry.Fed other at live ∷ history) sound h slot =
    let may = h.1 in
    let run = run-says base history sound h.0 other may.running may.runs in
    let on = fed-on may.running.request run.trail may.running.word live may.waiting (says-of base history sound h.0 other may.running run) in
    slot-is SlotIsOn other slot (run_after_feed live ((cluster_at base history).slots other)) (cluster_at base history).slots
    (λ own. subst (λ (o : Option RunningRequest). SlotIsOn (run_after_feed live o)) (sym may.runs) on) (λ differ. slots-on base history sound h.0 slot)
slots-on base (entry.Stopped other ∷ history) sound h slot =
    slot-is SlotIsOn other slot None (cluster_at base history).slots (λ own. tt) (λ differ. slots-on base history sound h.0 slot)
slots-on base (entry.Called c ∷ history) sound h slot =
    slot-is SlotIsOn c.slot slot (goes_on (store_at base history) (cluster_at base history).entries c.answer ((cluster_at base history).slots c.slot)) (cluster_at base history).slots
    (λ own. called-on base history c h.1 c.answer refl) (λ differ. slots-on base history sound h.0 slot)

-- ---- the law

pub labels_law : LabelsLaw
labels_law base history slot running sound h runs =
    let span = span_at base history slot in
    let run = run-says base history sound h slot running runs in
    let says = says-of base history sound h slot running run in
    let on = subst (λ (o : Option RunningRequest). SlotIsOn o) runs (slots-on base history sound h slot) in
    let tells = word-tells running.request run.trail running.word on says in
    let requested : request_in (cluster_at base history) slot ≡ Some running.request = ap (λ (o : Option RunningRequest). option_map (λ (r : RunningRequest). r.request) o) runs in
    record {
      credit = λ credit.
          let exact = owes-exactly span run.trail run.is_trail tells.debt tells.owes credit in
          (λ e. exact.0 (sym tells.credit ∙ e), λ has. tells.credit ∙ exact.1 has);
      point = λ point some.
          let here = tells.point point some in
          let there = stands-exactly running.request span run.trail run.is_trail requested point in
          (λ e. there.0 (here.0 e), λ stands. here.1 (there.1 stands));
    }
