-- Each answer that a request of a container can have has a reply, and its status tells of success.
use Rattle.std.proofs.Common.{◌≡◌, inl, inr, ◌↔◌, ℕ, Bool, true, false, IsTrue, IsSome, Option, Some, None, refl, subst, sym}
use Rattle.ipam_model.specs.declared.answer.Answer.{Answer}
use Rattle.ipam_model.specs.declared.answer.Answer.TheVariants as answer
use Rattle.ipam_model.specs.declared.outcome.AddAnswer.{AddAnswer}
use Rattle.ipam_model.specs.declared.outcome.AddAnswer.TheVariants as add
use Rattle.ipam_model.specs.declared.outcome.AddThisAnswer.{AddThisAnswer}
use Rattle.ipam_model.specs.declared.outcome.AddThisAnswer.TheVariants as add_this
use Rattle.ipam_model.specs.declared.outcome.CheckAnswer.{CheckAnswer}
use Rattle.ipam_model.specs.declared.outcome.CheckAnswer.TheVariants as check
use Rattle.ipam_model.specs.declared.outcome.DelAnswer.{DelAnswer}
use Rattle.ipam_model.specs.declared.outcome.DelAnswer.TheVariants as del
use Rattle.ipam_model.specs.declared.request.Request.{Request}
use Rattle.ipam_model.specs.declared.request.Request.TheVariants.{Add, AddThis, Del, Check, Release, Collect, Admin, Probe}
use Rattle.ipam_model.specs.CanAnswer.{CanAnswer, IsOwnAnswer}
use Rattle.ipam_model.specs.Told.{of_add, of_add_this, of_del, of_check}
use Rattle.ipam_addr.specs.Shape.{AddrValue}
use Rattle.cni_asks.specs.declared.replies.CniReply.{CniReply}
use Rattle.cni_asks.specs.Replying.{is_of_container, is_success, failure_of, cni_reply_of, reply_to_add, reply_to_this, reply_to_del, reply_to_check, reply_status}

to_add : (one : AddAnswer) → IsSome (reply_to_add (of_add one))
to_add (add.Added given) = refl
to_add (add.Exhausted scan) = refl
to_add (add.NoPool name moment) = refl
to_add (add.Again lost claims) = refl
to_add add.Full = refl
to_add (add.CountFull moment) = refl
to_add add.Spent = refl

to_this : (address : AddrValue) (one : AddThisAnswer) → IsSome (reply_to_this address (of_add_this one))
to_this address (add_this.AddedThis given) = refl
to_this address (add_this.NotInPool moment) = refl
to_this address (add_this.Taken holder moment) = refl
to_this address (add_this.NotAffine cidr moment) = refl
to_this address (add_this.Again lost claims) = refl
to_this address add_this.Full = refl
to_this address (add_this.CountFull moment) = refl
to_this address add_this.Spent = refl

to_del : (one : DelAnswer) → IsSome (reply_to_del (of_del one))
to_del (del.Deleted moment) = refl
to_del (del.Again lost) = refl
to_del del.Spent = refl

to_check : (one : CheckAnswer) → IsSome (reply_to_check (of_check one))
to_check check.Checked = refl
to_check (check.NotRecorded address moment) = refl

to_own : (asked : Request) (found : Answer) → IsTrue (is_of_container asked) → IsOwnAnswer asked found → IsSome (cni_reply_of asked found)
to_own (Add request) found h own = subst (λ a. IsSome (reply_to_add a)) (sym own.1) (to_add own.0)
to_own (AddThis request address) found h own = subst (λ a. IsSome (reply_to_this address a)) (sym own.1) (to_this address own.0)
to_own (Del id) found h own = subst (λ a. IsSome (reply_to_del a)) (sym own.1) (to_del own.0)
to_own (Check id addresses) found h own = subst (λ a. IsSome (reply_to_check a)) (sym own.1) (to_check own.0)
to_own (Release node cidr) found h own = absurd (cc h)
to_own (Collect request) found h own = absurd (cc h)
to_own (Admin change) found h own = absurd (cc h)
to_own (Probe request) found h own = absurd (cc h)

to_fault : (asked : Request) → IsTrue (is_of_container asked) → IsSome (cni_reply_of asked answer.Fault)
to_fault (Add request) h = refl
to_fault (AddThis request address) h = refl
to_fault (Del id) h = refl
to_fault (Check id addresses) h = refl
to_fault (Release node cidr) h = absurd (cc h)
to_fault (Collect request) h = absurd (cc h)
to_fault (Admin change) h = absurd (cc h)
to_fault (Probe request) h = absurd (cc h)

pub each_has_one : (asked : Request) (found : Answer) → IsTrue (is_of_container asked) → CanAnswer asked found → IsSome (cni_reply_of asked found)
each_has_one asked found h (inl own) = to_own asked found h own
each_has_one asked found h (inr fault) = subst (λ a. IsSome (cni_reply_of asked a)) (sym fault) (to_fault asked h)

-- ---- success

-- the status, if there is a reply, is 0 on success and 1 else
unfoldable pub IsStatus : Bool → Option CniReply → Type 0
IsStatus successful None = Unit {0}
IsStatus true (Some reply) = reply_status reply ≡ 0
IsStatus false (Some reply) = reply_status reply ≡ 1

pub failure_status : (found : Answer) → IsStatus (is_success found) (failure_of found)
unfolding IsStatus
failure_status (answer.Added given) = tt
failure_status (answer.AddedThis given) = tt
failure_status (answer.Exhausted scan) = refl
failure_status (answer.NoPool name moment) = refl
failure_status (answer.NotInPool moment) = tt
failure_status (answer.Taken holder moment) = refl
failure_status (answer.NotAffine cidr moment) = refl
failure_status (answer.Deleted moment) = tt
failure_status answer.Checked = tt
failure_status (answer.NotRecorded address moment) = refl
failure_status answer.Released = tt
failure_status (answer.NoAffinity moment) = tt
failure_status (answer.Collected collected) = tt
failure_status (answer.Done revision) = tt
failure_status (answer.Refused number name) = tt
failure_status (answer.Again lost claims) = refl
failure_status answer.Full = refl
failure_status (answer.CountFull moment) = refl
failure_status answer.Spent = refl
failure_status answer.Fault = refl
failure_status (answer.Ready scans) = tt

status_to_add : (found : Answer) → IsStatus (is_success found) (reply_to_add found)
unfolding IsStatus
status_to_add (answer.Added given) = refl
status_to_add other = failure_status other

status_to_this : (address : AddrValue) (found : Answer) → IsStatus (is_success found) (reply_to_this address found)
unfolding IsStatus
status_to_this address (answer.AddedThis given) = refl
status_to_this address (answer.NotInPool moment) = refl
status_to_this address other = failure_status other

status_to_del : (found : Answer) → IsStatus (is_success found) (reply_to_del found)
unfolding IsStatus
status_to_del (answer.Deleted moment) = refl
status_to_del other = failure_status other

status_to_check : (found : Answer) → IsStatus (is_success found) (reply_to_check found)
unfolding IsStatus
status_to_check answer.Checked = refl
status_to_check other = failure_status other

status_of_reply : (asked : Request) (found : Answer) → IsStatus (is_success found) (cni_reply_of asked found)
unfolding IsStatus
status_of_reply (Add request) found = status_to_add found
status_of_reply (AddThis request address) found = status_to_this address found
status_of_reply (Del id) found = status_to_del found
status_of_reply (Check id addresses) found = status_to_check found
status_of_reply (Release node cidr) found = tt
status_of_reply (Collect request) found = tt
status_of_reply (Admin change) found = tt
status_of_reply (Probe request) found = tt

not_both : (status : ℕ) → status ≡ 1 → status ≡ 0 → ⊥
not_both status one zero = cc

pub told_so : (successful : Bool) (reply : CniReply) → IsStatus successful (Some reply) → (reply_status reply ≡ 0) ↔ IsTrue successful
unfolding IsStatus
told_so true reply h = (λ _. refl, λ _. h)
told_so false reply h = (λ zero. absurd (not_both (reply_status reply) h zero), λ never. absurd (cc never))

pub success_told : (asked : Request) (found : Answer) (reply : CniReply) → cni_reply_of asked found ≡ Some reply
    → (reply_status reply ≡ 0) ↔ IsTrue (is_success found)
success_told asked found reply h =
    told_so (is_success found) reply (subst (IsStatus (is_success found)) h (status_of_reply asked found))
