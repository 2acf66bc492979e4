-- What an answer is told as, its answer without moments is told as too.
use Rattle.std.proofs.Common.{◌≡◌, Option, Some, ap, ◌∙◌, sym, option_and_then}
use Rattle.ipam_addr.specs.Shape.{AddrValue}
use Rattle.ipam_model.specs.declared.answer.Answer.{Answer}
use Rattle.ipam_model.specs.declared.answer.Answer.TheVariants as answer
use Rattle.ipam_model.specs.declared.request.Request.{Request}
use Rattle.ipam_model.specs.declared.request.Request.TheVariants.{Add, AddThis, Del, Check, Release, Collect, Admin, Probe}
use Rattle.ipam_model.specs.Plain.{PlainAnswer, plain_of}
use Rattle.cni_asks.specs.declared.replies.CniReply.{CniReply}
use Rattle.cni_asks.specs.Replying.{failure_of, reply_to_add, reply_to_this, reply_to_del, reply_to_check}
use Rattle.cni_asks.specs.GcReplying.{gc_reply_of, status_reply_of}
use Rattle.ipam_command.specs.Replies.{reply_to}
use Rattle.ipam_command.specs.ByRecords.{plain_failure, plain_reply, plain_reply_to_add, plain_reply_to_check, plain_reply_to_del, plain_reply_to_gc, plain_reply_to_status, plain_reply_to_this}

-- told without moments it is the same
abbrev IsSame : (PlainAnswer → Option CniReply) → Answer → CniReply → Type 0
IsSame says found reply = option_and_then says (plain_of found) ≡ Some reply

-- it has an answer without moments
abbrev IsPlain : Answer → Type 0
IsPlain found = (p : PlainAnswer) × (plain_of found ≡ Some p)

same-failure : (found : Answer) (reply : CniReply) → IsPlain found → failure_of found ≡ Some reply → IsSame plain_failure found reply
same-failure (answer.Added given) reply has e = absurd cc
same-failure (answer.AddedThis given) reply has e = absurd cc
same-failure (answer.Exhausted scan) reply has e = e
same-failure (answer.NoPool name moment) reply has e = e
same-failure (answer.NotInPool moment) reply has e = absurd cc
same-failure (answer.Taken holder moment) reply has e = e
same-failure (answer.NotAffine cidr moment) reply has e = e
same-failure (answer.Deleted moment) reply has e = absurd cc
same-failure answer.Checked reply has e = absurd cc
same-failure (answer.NotRecorded address moment) reply has e = e
same-failure answer.Released reply has e = absurd cc
same-failure (answer.NoAffinity moment) reply has e = absurd cc
same-failure (answer.Collected collected) reply has e = absurd cc
same-failure (answer.Done revision) reply has e = absurd cc
same-failure (answer.Refused number name) reply has e = absurd cc
same-failure (answer.Again lost claims) reply (p, none) e = absurd (cc none)
same-failure answer.Full reply (p, none) e = absurd (cc none)
same-failure (answer.CountFull moment) reply (p, none) e = absurd (cc none)
same-failure answer.Spent reply (p, none) e = absurd (cc none)
same-failure answer.Fault reply (p, none) e = absurd (cc none)
same-failure (answer.Ready scans) reply has e = absurd cc

same-add : (found : Answer) (reply : CniReply) → IsPlain found → reply_to_add found ≡ Some reply → IsSame plain_reply_to_add found reply
same-add (answer.Added given) reply has e = e
same-add (answer.AddedThis given) reply has e = absurd cc
same-add other reply has e = same-failure other reply has e

same-this : (address : AddrValue) (found : Answer) (reply : CniReply) → IsPlain found → reply_to_this address found ≡ Some reply → IsSame (plain_reply_to_this address) found reply
same-this address (answer.Added given) reply has e = absurd cc
same-this address (answer.AddedThis given) reply has e = e
same-this address (answer.NotInPool moment) reply has e = e
same-this address other reply has e = same-failure other reply has e

same-del : (found : Answer) (reply : CniReply) → IsPlain found → reply_to_del found ≡ Some reply → IsSame plain_reply_to_del found reply
same-del (answer.Deleted moment) reply has e = e
same-del other reply has e = same-failure other reply has e

same-check : (found : Answer) (reply : CniReply) → IsPlain found → reply_to_check found ≡ Some reply → IsSame plain_reply_to_check found reply
same-check answer.Checked reply has e = e
same-check other reply has e = same-failure other reply has e

same-gc : (found : Answer) (reply : CniReply) → IsPlain found → gc_reply_of found ≡ Some reply → IsSame plain_reply_to_gc found reply
same-gc (answer.Collected collected) reply has e = e
same-gc other reply has e = same-failure other reply has e

same-status : (found : Answer) (reply : CniReply) → IsPlain found → status_reply_of found ≡ Some reply → IsSame plain_reply_to_status found reply
same-status (answer.Ready scans) reply has e = e
same-status (answer.Exhausted scan) reply has e = e
same-status (answer.NoPool name moment) reply has e = e
same-status other reply has e = same-failure other reply has e

same-reply : (asked : Request) (found : Answer) (reply : CniReply) → IsPlain found → reply_to asked found ≡ Some reply → IsSame (plain_reply asked) found reply
same-reply (Add request) found reply has e = same-add found reply has e
same-reply (AddThis request address) found reply has e = same-this address found reply has e
same-reply (Del id) found reply has e = same-del found reply has e
same-reply (Check id addresses) found reply has e = same-check found reply has e
same-reply (Release node cidr) found reply has e = absurd cc
same-reply (Collect request) found reply has e = same-gc found reply has e
same-reply (Admin change) found reply has e = absurd cc
same-reply (Probe request) found reply has e = same-status found reply has e

pub told_plain : (asked : Request) (found : Answer) (p : PlainAnswer) (reply : CniReply) → plain_of found ≡ Some p → reply_to asked found ≡ Some reply → plain_reply asked p ≡ Some reply
told_plain asked found p reply is e =
    sym (ap (λ (o : Option PlainAnswer). option_and_then (plain_reply asked) o) is) ∙ same-reply asked found reply (p, is) e
