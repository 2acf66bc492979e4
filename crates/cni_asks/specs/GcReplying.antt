-- The replies to collections and probes that GC and STATUS began.
use Rattle.std.specs.Prelude.{Option, Some}
use Rattle.ipam_model.specs.declared.answer.Answer.{Answer}
use Rattle.ipam_model.specs.declared.answer.Answer.TheVariants as answer
use Rattle.ipam_model.specs.declared.request.CollectRequest.{CollectRequest}
use Rattle.ipam_model.specs.declared.request.ProbeRequest.{ProbeRequest}
use Rattle.ipam_model.specs.declared.request.Request.TheVariants.{Collect, Probe}
use Rattle.ipam_model.specs.CanAnswer.{CanAnswer}
use Rattle.cni_types.specs.declared.code.Code.TheVariants.{NotAvailable}
use Rattle.cni_asks.specs.declared.replies.CniReply.{CniReply}
use Rattle.cni_asks.specs.declared.replies.CniReply.TheVariants.{Success, Failure}
use Rattle.cni_asks.specs.Replying.{family_name, failure_of}

-- an answer that some collection can have
abbrev pub CanAnswerGc : Answer → Type 0
CanAnswerGc found = (request : CollectRequest) × CanAnswer (Collect request) found

-- an answer that some probe can have
abbrev pub CanAnswerStatus : Answer → Type 0
CanAnswerStatus found = (request : ProbeRequest) × CanAnswer (Probe request) found

abbrev pub gc_reply_of : Answer → Option CniReply
gc_reply_of (answer.Collected collected) = Some Success
gc_reply_of other = failure_of other

-- where no address could be given, an ADD could not be served
abbrev pub status_reply_of : Answer → Option CniReply
status_reply_of (answer.Ready scans) = Some Success
status_reply_of (answer.Exhausted scan) = Some (Failure NotAvailable (family_name scan.family))
status_reply_of (answer.NoPool name moment) = Some (Failure NotAvailable name)
status_reply_of other = failure_of other
