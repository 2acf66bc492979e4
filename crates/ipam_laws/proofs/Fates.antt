-- A request is answered Fault exactly where its call failed, and a failed call may have been done.
use Rattle.std.proofs.Common.{◌≡◌, ◌≢◌, ℕ, ◌+◌, List, ◌∷◌, Option, Some, refl, sym, ap, ◌∙◌, subst}
use Rattle.ipam_records.specs.declared.call.Call.{Call}
use Rattle.ipam_records.specs.Datastore.{Datastore, reply_of, write_granted}
use Rattle.ipam_records.specs.Said.{Said}
use Rattle.ipam_records.specs.Word.{Word, Ends, Asks, Waits, answer_in, after_feed}
use Rattle.ipam_model.specs.declared.answer.Answer.{Answer}
use Rattle.ipam_model.specs.declared.answer.Answer.TheVariants.{Fault}
use Rattle.ipam_model.specs.declared.entry.Called.{Called}
use Rattle.ipam_model.specs.declared.entry.Entry.TheVariants as entry
use Rattle.ipam_model.specs.declared.entry.Fate.{Fate}
use Rattle.ipam_model.specs.declared.entry.Fate.TheVariants.{Well, Before, After}
use Rattle.ipam_model.specs.declared.outcome.AddAnswer.{AddAnswer}
use Rattle.ipam_model.specs.declared.outcome.AddAnswer.TheVariants as add
use Rattle.ipam_model.specs.declared.outcome.AddThisAnswer.{AddThisAnswer}
use Rattle.ipam_model.specs.declared.outcome.AddThisAnswer.TheVariants as add_this
use Rattle.ipam_model.specs.declared.outcome.AdminAnswer.{AdminAnswer}
use Rattle.ipam_model.specs.declared.outcome.AdminAnswer.TheVariants as admin
use Rattle.ipam_model.specs.declared.outcome.CheckAnswer.{CheckAnswer}
use Rattle.ipam_model.specs.declared.outcome.CheckAnswer.TheVariants as check
use Rattle.ipam_model.specs.declared.outcome.CollectAnswer.{CollectAnswer}
use Rattle.ipam_model.specs.declared.outcome.CollectAnswer.TheVariants as collect
use Rattle.ipam_model.specs.declared.outcome.DelAnswer.{DelAnswer}
use Rattle.ipam_model.specs.declared.outcome.DelAnswer.TheVariants as del
use Rattle.ipam_model.specs.declared.outcome.ProbeAnswer.{ProbeAnswer}
use Rattle.ipam_model.specs.declared.outcome.ProbeAnswer.TheVariants as probe
use Rattle.ipam_model.specs.declared.outcome.ReleaseAnswer.{ReleaseAnswer}
use Rattle.ipam_model.specs.declared.outcome.ReleaseAnswer.TheVariants as release
use Rattle.ipam_model.specs.declared.request.Request.{Request}
use Rattle.ipam_model.specs.declared.request.Request.TheVariants.{Add, AddThis, Del, Check, Release, Collect, Admin, Probe}
use Rattle.ipam_model.specs.Add.{add_word}
use Rattle.ipam_model.specs.AddThis.{add_this_word}
use Rattle.ipam_model.specs.Admin.{admin_word}
use Rattle.ipam_model.specs.Affinities.{release as release_word}
use Rattle.ipam_model.specs.Alone.{AloneFaultLaw, alone, live_of}
use Rattle.ipam_model.specs.AnswerLaw.{FaultLaw}
use Rattle.ipam_model.specs.Cluster.{ClusterState, after, word_after_reply, call_entry, call_made, goes_on, store_with, with_slot}
use Rattle.ipam_model.specs.FateLaw.{FateLaw, HasSameSlots, IsSameCall, MayHaveDoneLaw}
use Rattle.ipam_model.specs.History.{Lawful, MayCall, cluster_at}
use Rattle.ipam_model.specs.Look.{check_word, probe_word}
use Rattle.ipam_model.specs.Named.{name_of}
use Rattle.ipam_model.specs.Remove.{del_word, collect_word}
use Rattle.ipam_model.specs.Requests.{told_as, word_of}
use Rattle.ipam_model.specs.Told.{of_add, of_add_this, of_del, of_check, of_release, of_collect, of_admin, of_probe}
use Rattle.ipam_laws.proofs.KeptWords.{IsKept, word-kept}
use Rattle.ipam_laws.proofs.StoreSteps.{failed-answered}

-- ---- no word ends in Fault

NeverFaults : Word Answer → Type 0
NeverFaults (Ends answer) = answer ≢ Fault
NeverFaults (Asks label asked next) = (moment : ℕ) (said : Said) → NeverFaults (next moment said)
NeverFaults (Waits next) = (live : List (List ℕ)) → NeverFaults (next live)

told-never : {A : Type 0} → (of_one : A → Answer) → ((a : A) → of_one a ≢ Fault) → (w : Word A) → NeverFaults (told_as of_one w)
unfolding NeverFaults
told-never of_one never (Ends a) = never a
told-never of_one never (Asks label asked next) = λ moment said. told-never of_one never (next moment said)
told-never of_one never (Waits next) = λ live. told-never of_one never (next live)

of_add-never : (a : AddAnswer) → of_add a ≢ Fault
of_add-never (add.Added given) e = cc
of_add-never (add.Exhausted scan) e = cc
of_add-never (add.NoPool name moment) e = cc
of_add-never (add.Again lost claims) e = cc
of_add-never add.Full e = cc
of_add-never (add.CountFull moment) e = cc
of_add-never add.Spent e = cc

of_add_this-never : (a : AddThisAnswer) → of_add_this a ≢ Fault
of_add_this-never (add_this.AddedThis given) e = cc
of_add_this-never (add_this.NotInPool moment) e = cc
of_add_this-never (add_this.Taken holder moment) e = cc
of_add_this-never (add_this.NotAffine cidr moment) e = cc
of_add_this-never (add_this.Again lost claims) e = cc
of_add_this-never add_this.Full e = cc
of_add_this-never (add_this.CountFull moment) e = cc
of_add_this-never add_this.Spent e = cc

of_del-never : (a : DelAnswer) → of_del a ≢ Fault
of_del-never (del.Deleted moment) e = cc
of_del-never (del.Again lost) e = cc
of_del-never del.Spent e = cc

of_check-never : (a : CheckAnswer) → of_check a ≢ Fault
of_check-never check.Checked e = cc
of_check-never (check.NotRecorded address moment) e = cc

of_release-never : (a : ReleaseAnswer) → of_release a ≢ Fault
of_release-never release.Released e = cc
of_release-never (release.NoAffinity moment) e = cc
of_release-never (release.Again lost) e = cc
of_release-never release.Full e = cc
of_release-never release.Spent e = cc

of_collect-never : (a : CollectAnswer) → of_collect a ≢ Fault
of_collect-never (collect.Collected collected) e = cc
of_collect-never (collect.Again lost) e = cc
of_collect-never collect.Spent e = cc

of_admin-never : (a : AdminAnswer) → of_admin a ≢ Fault
of_admin-never (admin.Done revision) e = cc
of_admin-never (admin.Refused number name) e = cc
of_admin-never (admin.Again lost) e = cc
of_admin-never admin.Full e = cc
of_admin-never admin.Spent e = cc

of_probe-never : (a : ProbeAnswer) → of_probe a ≢ Fault
of_probe-never (probe.Ready scans) e = cc
of_probe-never (probe.Exhausted scan) e = cc
of_probe-never (probe.NoPool name moment) e = cc

words-never : (request : Request) → NeverFaults (word_of request)
unfolding word_of
words-never (Add request) = told-never of_add of_add-never (add_word request)
words-never (AddThis request address) = told-never of_add_this of_add_this-never (add_this_word request address)
words-never (Del id) = told-never of_del of_del-never (del_word id)
words-never (Check id addresses) = told-never of_check of_check-never (check_word id addresses)
words-never (Release node cidr) = told-never of_release of_release-never (release_word node cidr)
words-never (Collect request) = told-never of_collect of_collect-never (collect_word request)
words-never (Admin request) = told-never of_admin of_admin-never (admin_word request)
words-never (Probe request) = told-never of_probe of_probe-never (probe_word request)

answered-never : (store : Datastore) (moment : ℕ) (word : Word Answer) → NeverFaults word → NeverFaults (word_after_reply store moment word)
unfolding NeverFaults
answered-never store moment (Ends answer) h = h
answered-never store moment (Asks label asked next) h = h moment (reply_of store asked)
answered-never store moment (Waits next) h = h

fed-never : (live : List (List ℕ)) (word : Word Answer) → NeverFaults word → NeverFaults (after_feed word live)
unfolding NeverFaults
fed-never live (Ends answer) h = h
fed-never live (Asks label asked next) h = h
fed-never live (Waits next) h = h live

faults-kept : IsKept NeverFaults
faults-kept = record { begins = words-never; hears = answered-never; is_fed = fed-never }

ended-never : (word : Word Answer) → NeverFaults word → answer_in word ≢ Some Fault
unfolding NeverFaults
ended-never (Ends answer) h e = h (cc e)
ended-never (Asks label asked next) h e = cc
ended-never (Waits next) h e = cc

-- a call that is done is not answered so
well-answered : (slot : ℕ) (store : Datastore) (moment : ℕ) (word : Word Answer) (c : Called) → NeverFaults word → call_entry slot Well store moment word ≡ Some c → c.answer ≢ Some Fault
unfolding NeverFaults
well-answered slot store moment (Ends answer) c h e = λ f. cc
well-answered slot store moment (Waits next) c h e = λ f. cc
well-answered slot store moment (Asks label asked next) c h e = λ f.
    let is : call_made slot Well asked (reply_of store asked) (answer_in (next moment (reply_of store asked))) ≡ c = cc e in
    ended-never (next moment (reply_of store asked)) (h moment (reply_of store asked)) (ap (λ (x : Called). x.answer) is ∙ f)

pub faults : FaultLaw
unfolding Lawful
faults a h = (back, failed-answered a.base a.earlier a.call h)
  where
    back : a.call.answer ≡ Some Fault → a.call.fate ≢ Well
    back e well =
        let may = h.1 in
        let never = word-kept NeverFaults faults-kept a.base a.earlier a.call.slot may.running may.runs in
        let made = subst (λ (f : Fate). call_entry a.call.slot f (cluster_at a.base a.earlier).store (cluster_at a.base a.earlier).entries may.running.word ≡ Some a.call) well may.is_called in
        well-answered a.call.slot (cluster_at a.base a.earlier).store (cluster_at a.base a.earlier).entries may.running.word a.call never made e

-- ---- a request alone

alone-never : (live : List (List ℕ)) (word : Word Answer) (store : Datastore) (moment : ℕ) → NeverFaults word → (alone store moment live word).0 ≢ Fault
unfolding NeverFaults
alone-never live (Ends answer) store moment h = h
alone-never live (Asks label asked next) store moment h =
    alone-never live (next moment (reply_of store asked)) (store_with (write_granted asked (reply_of store asked)) store) (moment + 1) (h moment (reply_of store asked))
alone-never live (Waits next) store moment h = alone-never live (next live) store (moment + 1) (h live)

pub alone_faults : AloneFaultLaw
alone_faults base request = alone-never (live_of request) (word_of request) base.store (base.first + 1) (words-never request)

-- ---- another fate

-- the call that a word asks for may have any fate
record OtherFate (cluster : ClusterState) (c : Called) (fate : Fate) : Type 0 where
  other : Called
  same : IsSameCall c other fate
  may : MayCall cluster other

called-is : (slot : ℕ) (fate : Fate) (asked : Call) (reply : Said) (answer : Option Answer) (c : Called) → call_made slot fate asked reply answer ≡ c → (c.slot ≡ slot) × (c.call ≡ name_of asked)
called-is slot Well asked reply answer c e = (ap (λ (x : Called). x.slot) (sym e), ap (λ (x : Called). x.call) (sym e))
called-is slot Before asked reply answer c e = (ap (λ (x : Called). x.slot) (sym e), ap (λ (x : Called). x.call) (sym e))
called-is slot After asked reply answer c e = (ap (λ (x : Called). x.slot) (sym e), ap (λ (x : Called). x.call) (sym e))

with-fate : (cluster : ClusterState) (c : Called) (fate : Fate) → MayCall cluster c → OtherFate cluster c fate
with-fate cluster c fate h = by h.running.word refl h.is_called
  where
    by : (w : Word Answer) → h.running.word ≡ w → call_entry c.slot c.fate cluster.store cluster.entries w ≡ Some c → OtherFate cluster c fate
    by (Ends answer) same e = absurd (cc e)
    by (Waits next) same e = absurd (cc e)
    by (Asks label asked next) same e = made fate
      where
        reply : Said
        reply = reply_of cluster.store asked

        answer : Option Answer
        answer = answer_in (next cluster.entries reply)

        is : call_made c.slot c.fate asked reply answer ≡ c
        is = cc e

        call : c.call ≡ name_of asked
        call = (called-is c.slot c.fate asked reply answer c is).1

        asks : (f : Fate) → call_entry c.slot f cluster.store cluster.entries h.running.word ≡ Some (call_made c.slot f asked reply answer)
        asks f = ap (λ w. call_entry c.slot f cluster.store cluster.entries w) same

        made : (f : Fate) → OtherFate cluster c f
        made Well = record {
          other = call_made c.slot Well asked reply answer;
          same = record { same_slot = refl; same_call = sym call; has_fate = refl };
          may = record { turn = h.turn; running = h.running; runs = h.runs; is_called = asks Well };
        }
        made Before = record {
          other = call_made c.slot Before asked reply answer;
          same = record { same_slot = refl; same_call = sym call; has_fate = refl };
          may = record { turn = h.turn; running = h.running; runs = h.runs; is_called = asks Before };
        }
        made After = record {
          other = call_made c.slot After asked reply answer;
          same = record { same_slot = refl; same_call = sym call; has_fate = refl };
          may = record { turn = h.turn; running = h.running; runs = h.runs; is_called = asks After };
        }

pub any_fate : FateLaw
unfolding Lawful
any_fate base history c fate h =
    let found = with-fate (cluster_at base history) c fate h.1 in
    (found.other, found.same, (h.0, found.may))

failed-not-well : (fate : Fate) → fate ≡ Before → fate ≢ Well
failed-not-well fate e f = cc

pub may_have_done : MayHaveDoneLaw
unfolding Lawful cluster_at after
may_have_done base history c h before =
    let found = with-fate (cluster_at base history) c After h.1 in
    let other = found.other in
    let lawful : Lawful base (entry.Called other ∷ history) = (h.0, found.may) in
    let one = failed-answered base history c h (λ e. cc (e, before)) in
    let two = failed-answered base history other lawful (λ e. let f = found.same.has_fate in cc (e, f)) in
    let answers : other.answer ≡ c.answer = two ∙ sym one in
    let cluster = cluster_at base history in
    let slots : HasSameSlots (cluster_at base (entry.Called c ∷ history)) (cluster_at base (entry.Called other ∷ history)) =
    ap (λ (s : ℕ). with_slot s (goes_on cluster.store cluster.entries c.answer (cluster.slots s)) cluster.slots) (sym found.same.same_slot)
    ∙ ap (λ (o : Option Answer). with_slot other.slot (goes_on cluster.store cluster.entries o (cluster.slots other.slot)) cluster.slots) (sym answers) in
    (other, found.same, lawful, answers, slots)
