-- What a CNI call begins.
use Rattle.std.proofs.Common.{◌≡◌, ℕ, List, Option, Some, None, IsTrue, Result, Ok, Err, refl, option_map}
use Rattle.cni_types.specs.declared.calls.Look.{Look}
use Rattle.cni_types.specs.declared.calls.Look.TheVariants.{Version, Add, Del, Check, Gc, Status}
use Rattle.cni_types.specs.declared.calls.CniAdd.{CniAdd}
use Rattle.cni_types.specs.declared.error.CniError.{CniError}
use Rattle.cni_types.specs.Looking.{look_reading}
use Rattle.cni_types.specs.Reading.{Pair}
use Rattle.cni_asks.specs.Asking.{ask_of, is_neither_gc_nor_status, wanting, add_of}
use Rattle.ipam_addr.specs.Shape.{AddrValue}
use Rattle.ipam_model.specs.declared.request.AddRequest.{AddRequest}
use Rattle.ipam_session.specs.declared.call.CallBegun.{CallBegun}
use Rattle.ipam_session.specs.Calls.{ask_of_call, begun_at, call_begun, is_of_call, IsOfCall}

pub neither_asked : (found : Look) → IsTrue (is_neither_gc_nor_status found) → ask_of_call found ≡ ask_of found
neither_asked (Version version) h = refl
neither_asked (Add add) h = refl
neither_asked (Del del) h = refl
neither_asked (Check check) h = refl
neither_asked (Gc gc) h = absurd cc
neither_asked (Status status) h = absurd cc

wanting_of_call : (address : Option AddrValue) (add : AddRequest) → IsTrue (is_of_call (wanting address add))
wanting_of_call None add = refl
wanting_of_call (Some address) add = refl

same_of_call : (one begun : CallBegun) → Some one ≡ Some begun → IsOfCall one → IsOfCall begun
same_of_call one begun e h = let same : one ≡ begun = cc in rw (← same) h

look_of_call : (found : Result Look CniError) (begun : CallBegun) → begun_at found ≡ Some begun → IsOfCall begun
look_of_call (Err error) begun e = same_of_call _ begun e tt
look_of_call (Ok (Version version)) begun e = same_of_call _ begun e tt
look_of_call (Ok (Add add)) begun e = same_of_call _ begun e (wanting_of_call add.address (add_of add))
look_of_call (Ok (Del del)) begun e = same_of_call _ begun e refl
look_of_call (Ok (Check check)) begun e = same_of_call _ begun e refl
look_of_call (Ok (Gc gc)) begun e = same_of_call _ begun e refl
look_of_call (Ok (Status status)) begun e = same_of_call _ begun e refl

-- a request that a call begins is one of a call
pub begun_of_call : (env : List Pair) (stdin : List ℕ) (begun : CallBegun) → call_begun env stdin ≡ Some begun → IsOfCall begun
unfolding call_begun
begun_of_call env stdin begun e = look_of_call (look_reading env stdin) begun e
