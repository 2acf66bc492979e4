-- The reply to an answer: a status and a text.
use Rattle.std.specs.Prelude.{ℕ, ◌==◌, Bool, true, false, List, [], ◌∷◌, map, codes, Option, Some, None, if◌then◌else◌}
use Rattle.ipam_addr.specs.declared.address.Family.{Family}
use Rattle.ipam_addr.specs.declared.address.Family.TheVariants.{V4, V6}
use Rattle.ipam_addr.specs.Shape.{AddrValue}
use Rattle.ipam_addr.specs.Text.{address_text, cidr_text_of}
use Rattle.ipam_model.specs.declared.answer.Answer.{Answer}
use Rattle.ipam_model.specs.declared.answer.Answer.TheVariants as answer
use Rattle.ipam_model.specs.declared.answer.Given.{Given}
use Rattle.ipam_model.specs.declared.limits.TheConstants.{LOST_RACES_MAX}
use Rattle.ipam_model.specs.declared.request.Request.{Request}
use Rattle.ipam_model.specs.declared.request.Request.TheVariants.{Add, AddThis, Del, Check, Release, Collect, Admin, Probe}
use Rattle.cni_types.specs.declared.code.Code.TheVariants.{TryAgain, NoAddress, NotRecorded, DatastoreFull, HandleCountFull, RevisionsSpent, NoSuchPool, NotUsable, AddressTaken, NotAffine, InputOutput}
use Rattle.cni_types.specs.declared.version.Version.{Version}
use Rattle.cni_types.specs.Texts.{error_text, result_text}
use Rattle.cni_asks.specs.declared.replies.CniReply.{CniReply}
use Rattle.cni_asks.specs.declared.replies.CniReply.TheVariants.{Addresses, Success, Failure}

-- ---- the details of failures

abbrev pub family_name : Family → List ℕ
family_name V4 = codes "IPv4"
family_name V6 = codes "IPv6"

-- which of the two limits was reached
abbrev pub limit_text : (lost : ℕ) → List ℕ
limit_text lost = if lost == LOST_RACES_MAX then codes "64 lost races" else codes "64 claims"

-- ---- answers

-- The failures that have one reply whatever was asked.
abbrev pub failure_of : Answer → Option CniReply
failure_of (answer.Exhausted scan) = Some (Failure NoAddress (family_name scan.family))
failure_of (answer.NoPool name moment) = Some (Failure NoSuchPool name)
failure_of (answer.Taken holder moment) = Some (Failure AddressTaken holder)
failure_of (answer.NotAffine cidr moment) = Some (Failure NotAffine (cidr_text_of cidr))
failure_of (answer.NotRecorded address moment) = Some (Failure NotRecorded (address_text address))
failure_of (answer.Again lost claims) = Some (Failure TryAgain (limit_text lost))
failure_of answer.Full = Some (Failure DatastoreFull [])
failure_of (answer.CountFull moment) = Some (Failure HandleCountFull [])
failure_of answer.Spent = Some (Failure RevisionsSpent [])
failure_of answer.Fault = Some (Failure InputOutput (codes "keeper"))
failure_of _ = None

-- The failure of the answer has details, which take memory. Where the datastore or a count is full, or the revisions
-- are spent, it has none.
abbrev pub has_details : Answer → Bool
has_details (answer.Exhausted scan) = true
has_details (answer.NoPool name moment) = true
has_details (answer.Taken holder moment) = true
has_details (answer.NotAffine cidr moment) = true
has_details (answer.NotRecorded address moment) = true
has_details (answer.Again lost claims) = true
has_details answer.Fault = true
has_details _ = false

abbrev pub addresses_of : List Given → List AddrValue
addresses_of given = map (λ (g : Given). g.address) given

abbrev pub reply_to_add : Answer → Option CniReply
reply_to_add (answer.Added given) = Some (Addresses (addresses_of given))
reply_to_add other = failure_of other

abbrev pub reply_to_this : AddrValue → Answer → Option CniReply
reply_to_this address (answer.AddedThis given) = Some (Addresses (given.address ∷ []))
reply_to_this address (answer.NotInPool moment) = Some (Failure NotUsable (address_text address))
reply_to_this address other = failure_of other

-- nothing is held any more, whether or not anything was
abbrev pub reply_to_del : Answer → Option CniReply
reply_to_del (answer.Deleted moment) = Some Success
reply_to_del other = failure_of other

abbrev pub reply_to_check : Answer → Option CniReply
reply_to_check answer.Checked = Some Success
reply_to_check other = failure_of other

-- the requests that calls of containers begin
abbrev pub is_of_container : Request → Bool
is_of_container (Add add) = true
is_of_container (AddThis add address) = true
is_of_container (Del id) = true
is_of_container (Check id addresses) = true
is_of_container (Release node cidr) = false
is_of_container (Collect collect) = false
is_of_container (Admin change) = false
is_of_container (Probe probe) = false

-- what a call is answered whose request came to this answer
abbrev pub cni_reply_of : Request → Answer → Option CniReply
cni_reply_of (Add add) found = reply_to_add found
cni_reply_of (AddThis add address) found = reply_to_this address found
cni_reply_of (Del id) found = reply_to_del found
cni_reply_of (Check id addresses) found = reply_to_check found
cni_reply_of (Release node cidr) found = None
cni_reply_of (Collect collect) found = None
cni_reply_of (Admin change) found = None
cni_reply_of (Probe probe) found = None

-- What was asked was done: addresses were given, the handle holds nothing any more or all that was
-- asked about, what leaked was freed, or an address could be given.
abbrev pub is_success : Answer → Bool
is_success (answer.Added given) = true
is_success (answer.AddedThis given) = true
is_success (answer.Deleted moment) = true
is_success answer.Checked = true
is_success (answer.Collected collected) = true
is_success (answer.Ready scans) = true
is_success _ = false

-- ---- status and text

-- 0 on success, 1 with an error
abbrev pub reply_status : CniReply → ℕ
reply_status (Addresses addresses) = 0
reply_status Success = 0
reply_status (Failure code details) = 1

-- success without addresses has no text
abbrev pub reply_text : Version → CniReply → List ℕ
reply_text version (Addresses addresses) = result_text version addresses
reply_text version Success = []
reply_text version (Failure code details) =
    error_text (record { version = version; code = code; details = details })

abbrev pub told : Version → CniReply → ℕ × List ℕ
told version reply = (reply_status reply, reply_text version reply)
