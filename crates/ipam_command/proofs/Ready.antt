-- STATUS tells of the ADD that asks for the same.
use Rattle.std.proofs.Common.{◌≡◌, ◌↔◌, Some, refl}
use Rattle.ipam_model.specs.declared.answer.Answer.{Answer}
use Rattle.ipam_model.specs.declared.answer.Answer.TheVariants as answer
use Rattle.ipam_model.specs.declared.request.Request.TheVariants.{Probe}
use Rattle.ipam_model.specs.Alone.{alone_over}
use Rattle.ipam_model.specs.Plain.{CanGive, plain_of}
use Rattle.ipam_laws.proofs.AloneProbe.{probe_tells}
use Rattle.ipam_laws.proofs.OpenedHistory.{opened_law}
use Rattle.ipam_shared.specs.Kept.{opened}
use Rattle.cni_asks.specs.declared.replies.CniReply.TheVariants.{Success}
use Rattle.cni_asks.specs.GcAsking.{probe_of}
use Rattle.cni_asks.specs.GcReplying.{status_reply_of}
use Rattle.ipam_command.specs.Alone.{StatusLaw}

-- a status that succeeds is an answer that says that an address can be given
pub ready-as-plain : (found : Answer) → (status_reply_of found ≡ Some Success) ↔ (plain_of found ≡ Some CanGive)
ready-as-plain (answer.Added given) = (λ e. absurd (cc e), λ e. absurd (cc e))
ready-as-plain (answer.AddedThis given) = (λ e. absurd (cc e), λ e. absurd (cc e))
ready-as-plain (answer.Exhausted scan) = (λ e. absurd (cc e), λ e. absurd (cc e))
ready-as-plain (answer.NoPool name moment) = (λ e. absurd (cc e), λ e. absurd (cc e))
ready-as-plain (answer.NotInPool moment) = (λ e. absurd (cc e), λ e. absurd (cc e))
ready-as-plain (answer.Taken holder moment) = (λ e. absurd (cc e), λ e. absurd (cc e))
ready-as-plain (answer.NotAffine cidr moment) = (λ e. absurd (cc e), λ e. absurd (cc e))
ready-as-plain (answer.Deleted moment) = (λ e. absurd (cc e), λ e. absurd (cc e))
ready-as-plain answer.Checked = (λ e. absurd (cc e), λ e. absurd (cc e))
ready-as-plain (answer.NotRecorded address moment) = (λ e. absurd (cc e), λ e. absurd (cc e))
ready-as-plain answer.Released = (λ e. absurd (cc e), λ e. absurd (cc e))
ready-as-plain (answer.NoAffinity moment) = (λ e. absurd (cc e), λ e. absurd (cc e))
ready-as-plain (answer.Collected collected) = (λ e. absurd (cc e), λ e. absurd (cc e))
ready-as-plain (answer.Done revision) = (λ e. absurd (cc e), λ e. absurd (cc e))
ready-as-plain (answer.Refused number name) = (λ e. absurd (cc e), λ e. absurd (cc e))
ready-as-plain (answer.Again lost claims) = (λ e. absurd (cc e), λ e. absurd (cc e))
ready-as-plain answer.Full = (λ e. absurd (cc e), λ e. absurd (cc e))
ready-as-plain (answer.CountFull moment) = (λ e. absurd (cc e), λ e. absurd (cc e))
ready-as-plain answer.Spent = (λ e. absurd (cc e), λ e. absurd (cc e))
ready-as-plain answer.Fault = (λ e. absurd (cc e), λ e. absurd (cc e))
ready-as-plain (answer.Ready scans) = (λ e. refl, λ e. refl)

pub status_tells : StatusLaw
status_tells texts store call request family opens sound same one =
    let found : Answer = (alone_over (opened store) (Probe (probe_of call))).0 in
    let told = probe_tells (opened store) (probe_of call) request family (opened_law texts store opens) sound same one in
    (λ ready. told.0 ((ready-as-plain found).0 ready), λ not given. told.1 (λ can. not ((ready-as-plain found).1 can)) given)
