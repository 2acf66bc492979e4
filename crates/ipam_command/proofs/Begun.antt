-- What calls begin.
use Rattle.std.proofs.Common.{◌≡◌, Option, Some, None, refl, sym, subst}
use Rattle.ipam_model.specs.declared.request.Request.{Request}
use Rattle.cni_types.specs.declared.calls.Look.{Look}
use Rattle.cni_types.specs.declared.calls.Look.TheVariants.{Version, Add, Del, Check, Gc, Status}
use Rattle.cni_types.specs.declared.version.Version as versions
use Rattle.cni_asks.specs.declared.asks.Ask.{Ask}
use Rattle.cni_asks.specs.declared.asks.Ask.TheVariants.{Tell, Begin}
use Rattle.cni_asks.specs.Asking.{add_of, ask_of, wanting}
use Rattle.ipam_addr.specs.Shape.{AddrValue}
use Rattle.ipam_model.specs.declared.request.AddRequest.{AddRequest}
use Rattle.ipam_shared.specs.Solo.{HasNoGrace}
use Rattle.ipam_command.specs.Replies.{IsOfCall, begun_by}

abbrev HasNoGraceAsk : Ask → Type 0
HasNoGraceAsk (Tell text) = Unit {0}
HasNoGraceAsk (Begin asked version) = HasNoGrace asked

abbrev IsAskOfCall : Ask → Type 0
IsAskOfCall (Tell text) = Unit {0}
IsAskOfCall (Begin asked version) = IsOfCall asked

wanting-no_grace : (address : Option AddrValue) (add : AddRequest) → HasNoGrace (wanting address add)
wanting-no_grace None add = tt
wanting-no_grace (Some address) add = tt

wanting-of_call : (address : Option AddrValue) (add : AddRequest) → IsOfCall (wanting address add)
wanting-of_call None add = refl
wanting-of_call (Some address) add = refl

pub same_begun : (look : Look) (asked : Ask) → ask_of look ≡ Some asked → asked ≡ begun_by look
same_begun (Version version) asked e = cc e
same_begun (Add add) asked e = cc e
same_begun (Del del) asked e = cc e
same_begun (Check check) asked e = cc e
same_begun (Gc gc) asked e = cc e
same_begun (Status status) asked e = cc e

begun_no_grace : (look : Look) → HasNoGraceAsk (begun_by look)
begun_no_grace (Version version) = tt
begun_no_grace (Add add) = wanting-no_grace add.address (add_of add)
begun_no_grace (Del del) = tt
begun_no_grace (Check check) = tt
begun_no_grace (Gc gc) = refl
begun_no_grace (Status status) = tt

begun_of_call : (look : Look) → IsAskOfCall (begun_by look)
begun_of_call (Version version) = tt
begun_of_call (Add add) = wanting-of_call add.address (add_of add)
begun_of_call (Del del) = refl
begun_of_call (Check check) = refl
begun_of_call (Gc gc) = refl
begun_of_call (Status status) = refl

pub asked_no_grace : (look : Look) (asked : Request) (version : versions.Version) → Begin asked version ≡ begun_by look → HasNoGrace asked
asked_no_grace look asked version begins = subst HasNoGraceAsk (sym begins) (begun_no_grace look)

pub asked_of_call : (look : Look) (asked : Request) (version : versions.Version) → Begin asked version ≡ begun_by look → IsOfCall asked
asked_of_call look asked version begins = subst IsAskOfCall (sym begins) (begun_of_call look)
