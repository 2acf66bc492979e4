-- Each answer that a collection or a probe can have has a reply, and its status tells of success.
use Rattle.std.proofs.Common.{◌≡◌, ◌⊎◌, inl, inr, ◌↔◌, IsTrue, IsSome, Some, refl, subst, sym}
use Rattle.ipam_model.specs.declared.answer.Answer.{Answer}
use Rattle.ipam_model.specs.declared.answer.Answer.TheVariants as answer
use Rattle.ipam_model.specs.declared.outcome.CollectAnswer.{CollectAnswer}
use Rattle.ipam_model.specs.declared.outcome.CollectAnswer.TheVariants as collect
use Rattle.ipam_model.specs.declared.outcome.ProbeAnswer.{ProbeAnswer}
use Rattle.ipam_model.specs.declared.outcome.ProbeAnswer.TheVariants as probe
use Rattle.ipam_model.specs.CanAnswer.{IsOneAnswer}
use Rattle.ipam_model.specs.Told.{of_collect, of_probe}
use Rattle.cni_asks.specs.declared.replies.CniReply.{CniReply}
use Rattle.cni_asks.specs.Replying.{is_success, reply_status}
use Rattle.cni_asks.proofs.AllReplies.{IsStatus, failure_status, told_so}
use Rattle.cni_asks.specs.GcReplying.{CanAnswerGc, CanAnswerStatus, gc_reply_of, status_reply_of}

to_collect : (one : CollectAnswer) → IsSome (gc_reply_of (of_collect one))
to_collect (collect.Collected collected) = refl
to_collect (collect.Again lost) = refl
to_collect collect.Spent = refl

collect_has_one : (found : Answer) → IsOneAnswer of_collect found ⊎ (found ≡ answer.Fault) → IsSome (gc_reply_of found)
collect_has_one found (inl own) = subst (λ a. IsSome (gc_reply_of a)) (sym own.1) (to_collect own.0)
collect_has_one found (inr fault) = subst (λ a. IsSome (gc_reply_of a)) (sym fault) refl

pub gc_has_one : (found : Answer) → CanAnswerGc found → IsSome (gc_reply_of found)
gc_has_one found h = collect_has_one found h.1

to_probe : (one : ProbeAnswer) → IsSome (status_reply_of (of_probe one))
to_probe (probe.Ready scans) = refl
to_probe (probe.Exhausted scan) = refl
to_probe (probe.NoPool name moment) = refl

probe_has_one : (found : Answer) → IsOneAnswer of_probe found ⊎ (found ≡ answer.Fault) → IsSome (status_reply_of found)
probe_has_one found (inl own) = subst (λ a. IsSome (status_reply_of a)) (sym own.1) (to_probe own.0)
probe_has_one found (inr fault) = subst (λ a. IsSome (status_reply_of a)) (sym fault) refl

pub status_has_one : (found : Answer) → CanAnswerStatus found → IsSome (status_reply_of found)
status_has_one found h = probe_has_one found h.1

-- ---- success

status_of_gc : (found : Answer) → IsStatus (is_success found) (gc_reply_of found)
unfolding IsStatus
status_of_gc (answer.Collected collected) = refl
status_of_gc other = failure_status other

status_of_status : (found : Answer) → IsStatus (is_success found) (status_reply_of found)
unfolding IsStatus
status_of_status (answer.Ready scans) = refl
status_of_status (answer.Exhausted scan) = refl
status_of_status (answer.NoPool name moment) = refl
status_of_status other = failure_status other

pub gc_success_told : (found : Answer) (reply : CniReply) → gc_reply_of found ≡ Some reply → (reply_status reply ≡ 0) ↔ IsTrue (is_success found)
gc_success_told found reply h =
    told_so (is_success found) reply (subst (IsStatus (is_success found)) h (status_of_gc found))

pub status_success_told : (found : Answer) (reply : CniReply) → status_reply_of found ≡ Some reply → (reply_status reply ≡ 0) ↔ IsTrue (is_success found)
status_success_told found reply h =
    told_so (is_success found) reply (subst (IsStatus (is_success found)) h (status_of_status found))
