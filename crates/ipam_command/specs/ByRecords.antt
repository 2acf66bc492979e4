-- What a CNI call is replied and leaves as a function of the records, where there is spare.
use Rattle.std.specs.Prelude.{◌≡◌, ℕ, List, Option, Some, None, IfSome, Ok}
use Rattle.ipam_addr.specs.Shape.{AddrValue}
use Rattle.ipam_addr.specs.Text.{address_text, cidr_text_of}
use Rattle.ipam_records.specs.declared.call.Row.{Row as RowText}
use Rattle.ipam_records.specs.Datastore.{Datastore}
use Rattle.ipam_model.specs.declared.request.Request.{Request}
use Rattle.ipam_model.specs.declared.request.Request.TheVariants.{Add, AddThis, Del, Check, Release, Collect, Admin, Probe}
use Rattle.ipam_model.specs.Opened.{OpensAs}
use Rattle.ipam_model.specs.Plain.{HasSpareFor, PlainAnswer, Gives, Lacks, KnowsNoPool, IsInNoPool, IsHeldBy, IsAnothers, Deletes, Holds, HoldsNot, Collects, CanGive, PlainResult, plain, records}
use Rattle.ipam_shared.specs.Rows.{AreTextsOf, texts_loaded}
use Rattle.cni_types.specs.declared.calls.Look.{Look}
use Rattle.cni_types.specs.declared.code.Code.TheVariants.{NoAddress, NoSuchPool, NotAffine, AddressTaken, NotAvailable, NotRecorded, NotUsable}
use Rattle.cni_types.specs.declared.version.Version.{Version}
use Rattle.cni_types.specs.Looking.{look_reading}
use Rattle.cni_types.specs.Reading.{Pair}
use Rattle.cni_asks.specs.declared.asks.Ask.TheVariants.{Begin}
use Rattle.cni_asks.specs.declared.replies.CniReply.{CniReply}
use Rattle.cni_asks.specs.declared.replies.CniReply.TheVariants.{Addresses, Success, Failure}
use Rattle.cni_asks.specs.Replying.{family_name, told}
use Rattle.ipam_command.specs.Replies.{ComesTo, StatusAndText, begun_by}

-- ---- the replies by the function of the records

-- the failures that have one reply whatever was asked
abbrev pub plain_failure : PlainAnswer → Option CniReply
plain_failure (Lacks family) = Some (Failure NoAddress (family_name family))
plain_failure (KnowsNoPool name) = Some (Failure NoSuchPool name)
plain_failure (IsHeldBy id) = Some (Failure AddressTaken id)
plain_failure (IsAnothers cidr) = Some (Failure NotAffine (cidr_text_of cidr))
plain_failure (HoldsNot address) = Some (Failure NotRecorded (address_text address))
plain_failure _ = None

abbrev pub plain_reply_to_add : PlainAnswer → Option CniReply
plain_reply_to_add (Gives addresses) = Some (Addresses addresses)
plain_reply_to_add other = plain_failure other

abbrev pub plain_reply_to_this : AddrValue → PlainAnswer → Option CniReply
plain_reply_to_this address (Gives addresses) = Some (Addresses addresses)
plain_reply_to_this address IsInNoPool = Some (Failure NotUsable (address_text address))
plain_reply_to_this address other = plain_failure other

abbrev pub plain_reply_to_del : PlainAnswer → Option CniReply
plain_reply_to_del Deletes = Some Success
plain_reply_to_del other = plain_failure other

abbrev pub plain_reply_to_check : PlainAnswer → Option CniReply
plain_reply_to_check Holds = Some Success
plain_reply_to_check other = plain_failure other

abbrev pub plain_reply_to_gc : PlainAnswer → Option CniReply
plain_reply_to_gc (Collects owners) = Some Success
plain_reply_to_gc other = plain_failure other

abbrev pub plain_reply_to_status : PlainAnswer → Option CniReply
plain_reply_to_status CanGive = Some Success
plain_reply_to_status (Lacks family) = Some (Failure NotAvailable (family_name family))
plain_reply_to_status (KnowsNoPool name) = Some (Failure NotAvailable name)
plain_reply_to_status other = plain_failure other

abbrev pub plain_reply : Request → PlainAnswer → Option CniReply
plain_reply (Add request) found = plain_reply_to_add found
plain_reply (AddThis request address) found = plain_reply_to_this address found
plain_reply (Del id) found = plain_reply_to_del found
plain_reply (Check id addresses) found = plain_reply_to_check found
plain_reply (Release node cidr) found = None
plain_reply (Collect request) found = plain_reply_to_gc found
plain_reply (Admin change) found = None
plain_reply (Probe request) found = plain_reply_to_status found

-- ---- a whole call

-- The reply is that of the function of the records, and the rows, where they are known, are those of a
-- datastore with the records that it leaves.
pub record IsByRecords (asked : Request) (version : Version) (result : PlainResult) (new : Option (List RowText)) (reply : StatusAndText) : Type 0 where
  pub is_told : CniReply
  pub answer : plain_reply asked result.0 ≡ Some is_told
  pub text : told version is_told ≡ reply
  pub left : Datastore
  pub same_records : records left.rows ≡ records result.1
  pub rows : IfSome new (λ after. AreTextsOf after left)

-- A call that is replied, over rows that open and have spare for its request, is replied what the
-- function of the records says, and leaves the records that it says.
abbrev pub ByRecordsLaw : Type 0
ByRecordsLaw =
    (env : List Pair) (stdin : List ℕ) (look : Look) (asked : Request) (version : Version) (old : List RowText) (new : Option (List RowText))
    (reply : StatusAndText) (store : Datastore) (result : PlainResult)
    → look_reading env stdin ≡ Ok look
    → begun_by look ≡ Begin asked version
    → ComesTo env stdin (Some old) new reply
    → OpensAs (texts_loaded old) store
    → HasSpareFor store asked
    → plain asked store.rows ≡ Some result
    → IsByRecords asked version result new reply
