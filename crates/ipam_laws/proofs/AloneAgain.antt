-- A request that runs alone over a consistent base is never answered that it was tried too often.
use Rattle.std.proofs.Common.{◌≡◌, ◌≢◌, ℕ, ◌+◌, List, [], Some, refl, sym, ap, ◌∙◌}
use Rattle.ipam_records.specs.Datastore.{Datastore}
use Rattle.ipam_records.specs.Word.{Ends, Word}
use Rattle.ipam_model.specs.declared.answer.Answer.{Answer}
use Rattle.ipam_model.specs.declared.answer.Answer.TheVariants as answer
use Rattle.ipam_model.specs.declared.outcome.AddAnswer.{AddAnswer}
use Rattle.ipam_model.specs.declared.outcome.AddAnswer.TheVariants as add
use Rattle.ipam_model.specs.declared.outcome.AddThisAnswer.{AddThisAnswer}
use Rattle.ipam_model.specs.declared.outcome.AddThisAnswer.TheVariants as add_this
use Rattle.ipam_model.specs.declared.outcome.AdminAnswer.{AdminAnswer}
use Rattle.ipam_model.specs.declared.outcome.AdminAnswer.TheVariants as admin
use Rattle.ipam_model.specs.declared.outcome.CollectAnswer.{CollectAnswer}
use Rattle.ipam_model.specs.declared.outcome.CollectAnswer.TheVariants as collect
use Rattle.ipam_model.specs.declared.outcome.DelAnswer.{DelAnswer}
use Rattle.ipam_model.specs.declared.outcome.DelAnswer.TheVariants as del
use Rattle.ipam_model.specs.declared.outcome.ReleaseAnswer.{ReleaseAnswer}
use Rattle.ipam_model.specs.declared.outcome.ReleaseAnswer.TheVariants as released
use Rattle.ipam_model.specs.declared.request.Request.{Request}
use Rattle.ipam_model.specs.declared.request.Request.TheVariants.{Add, AddThis, Del, Check, Release, Collect, Admin, Probe}
use Rattle.ipam_model.specs.Add.{add_word}
use Rattle.ipam_model.specs.AddThis.{add_this_word}
use Rattle.ipam_model.specs.Admin.{admin_word}
use Rattle.ipam_model.specs.Affinities.{release}
use Rattle.ipam_model.specs.Alone.{AloneAgainLaw, alone_over, live_of}
use Rattle.ipam_model.specs.Consistent.{IsConsistent}
use Rattle.ipam_model.specs.History.{Base}
use Rattle.ipam_model.specs.Plain.{PlainAnswer, plain_of}
use Rattle.ipam_model.specs.Remove.{collect_word, del_word}
use Rattle.ipam_model.specs.Requests.{told_as, word_of}
use Rattle.ipam_model.specs.SoundRequest.{IsSoundRequest}
use Rattle.ipam_model.specs.Told.{of_add, of_add_this, of_admin, of_collect, of_del, of_release}
use Rattle.ipam_laws.proofs.AloneAdds.{NotAgain, add-runs}
use Rattle.ipam_laws.proofs.AloneCalls.{Runs, Runs-bound, runs-alone}
use Rattle.ipam_laws.proofs.AloneLooks.{check_alone, probe_alone}
use Rattle.ipam_laws.proofs.AloneOthers.{NotAgainAdmin, NotAgainCollect, NotAgainDel, NotAgainRelease, admin-runs, collect-runs, del-runs, release-runs}
use Rattle.ipam_laws.proofs.AloneThis.{NotAgainThis, this-runs}
use Rattle.ipam_laws.proofs.RequestSteps.{word-lawful}
use Rattle.ipam_model.specs.AffinityLaw.{HasAt}

-- the answer is another one
abbrev IsOther : Answer → Type 0
IsOther told = (lost claims : ℕ) → told ≢ answer.Again lost claims

-- ---- what is told of an answer

add-other : (a : AddAnswer) → NotAgain a → IsOther (of_add a)
add-other (add.Added given) not lost claims e = absurd (cc e)
add-other (add.Exhausted scan) not lost claims e = absurd (cc e)
add-other (add.NoPool name moment) not lost claims e = absurd (cc e)
add-other (add.Again l c) not lost claims e = not l c refl
add-other add.Full not lost claims e = absurd (cc e)
add-other (add.CountFull moment) not lost claims e = absurd (cc e)
add-other add.Spent not lost claims e = absurd (cc e)

this-other : (a : AddThisAnswer) → NotAgainThis a → IsOther (of_add_this a)
this-other (add_this.AddedThis given) not lost claims e = absurd (cc e)
this-other (add_this.NotInPool moment) not lost claims e = absurd (cc e)
this-other (add_this.Taken id moment) not lost claims e = absurd (cc e)
this-other (add_this.NotAffine cidr moment) not lost claims e = absurd (cc e)
this-other (add_this.Again l c) not lost claims e = not l c refl
this-other add_this.Full not lost claims e = absurd (cc e)
this-other (add_this.CountFull moment) not lost claims e = absurd (cc e)
this-other add_this.Spent not lost claims e = absurd (cc e)

del-other : (a : DelAnswer) → NotAgainDel a → IsOther (of_del a)
del-other (del.Deleted moment) not lost claims e = absurd (cc e)
del-other (del.Again l) not lost claims e = not l refl
del-other del.Spent not lost claims e = absurd (cc e)

release-other : (a : ReleaseAnswer) → NotAgainRelease a → IsOther (of_release a)
release-other released.Released not lost claims e = absurd (cc e)
release-other (released.NoAffinity moment) not lost claims e = absurd (cc e)
release-other (released.Again l) not lost claims e = not l refl
release-other released.Full not lost claims e = absurd (cc e)
release-other released.Spent not lost claims e = absurd (cc e)

collect-other : (a : CollectAnswer) → NotAgainCollect a → IsOther (of_collect a)
collect-other (collect.Collected done) not lost claims e = absurd (cc e)
collect-other (collect.Again l) not lost claims e = not l refl
collect-other collect.Spent not lost claims e = absurd (cc e)

admin-other : (a : AdminAnswer) → NotAgainAdmin a → IsOther (of_admin a)
admin-other (admin.Done revision) not lost claims e = absurd (cc e)
admin-other (admin.Refused number name) not lost claims e = absurd (cc e)
admin-other (admin.Again l) not lost claims e = not l refl
admin-other admin.Full not lost claims e = absurd (cc e)
admin-other admin.Spent not lost claims e = absurd (cc e)

-- what is plain is another one
plain-other : (told : Answer) (plain : PlainAnswer) → plain_of told ≡ Some plain → IsOther told
plain-other told plain is lost claims e = let none = sym is ∙ ap plain_of e in absurd (cc none)

-- ---- all of them

told-runs : {A : Type 0} → (live : List (List ℕ)) (Fine : A → Type 0) (of_one : A → Answer) → ((a : A) → Fine a → IsOther (of_one a)) → (w : Word A) (store : Datastore) (moment : ℕ) → Runs live (λ then a. Fine a) store moment w → Runs live (λ then told. IsOther told) store moment (told_as of_one w)
told-runs live Fine of_one other w store moment h = Runs-bound live (λ then a. Fine a) (λ then told. IsOther told) (λ one. Ends (of_one one)) w store moment h (λ then later a fine. other a fine)

-- a request whose word runs so is answered so
over : (base : Base) (request : Request) → IsConsistent base.store → IsSoundRequest request → Runs (live_of request) (λ then told. IsOther told) base.store (base.first + 1) (word_of request) → IsOther (alone_over base request).0
over base request consistent sound h =
    let lawful = word-lawful request sound (λ k revision found. HasAt base.store k revision found) in
    runs-alone (live_of request) (λ then told. IsOther told) (word_of request) base.store (base.first + 1) consistent.sound consistent.covered lawful.0 lawful.1 h

by-request : (base : Base) (request : Request) → IsConsistent base.store → IsSoundRequest request → IsOther (alone_over base request).0
unfolding word_of
by-request base (Add request) c s = over base (Add request) c s (told-runs [] NotAgain of_add add-other (add_word request) base.store (base.first + 1) (add-runs request base.store (base.first + 1)))
by-request base (AddThis request address) c s = over base (AddThis request address) c s (told-runs [] NotAgainThis of_add_this this-other (add_this_word request address) base.store (base.first + 1) (this-runs request address base.store (base.first + 1)))
by-request base (Del id) c s = over base (Del id) c s (told-runs [] NotAgainDel of_del del-other (del_word id) base.store (base.first + 1) (del-runs id base.store (base.first + 1)))
by-request base (Check id addresses) c s = plain-other (alone_over base (Check id addresses)).0 _ (check_alone base id addresses).0
by-request base (Release node cidr) c s = over base (Release node cidr) c s (told-runs [] NotAgainRelease of_release release-other (release node cidr) base.store (base.first + 1) (release-runs node cidr base.store (base.first + 1)))
by-request base (Collect request) c s = over base (Collect request) c s (told-runs request.live NotAgainCollect of_collect collect-other (collect_word request) base.store (base.first + 1) (collect-runs request request.live base.store (base.first + 1)))
by-request base (Admin setting) c s = over base (Admin setting) c s (told-runs [] NotAgainAdmin of_admin admin-other (admin_word setting) base.store (base.first + 1) (admin-runs setting base.store (base.first + 1)))
by-request base (Probe request) c s = plain-other (alone_over base (Probe request)).0 _ (probe_alone base request).0

pub alone_again : AloneAgainLaw
alone_again base request lost claims c s = by-request base request c s lost claims
