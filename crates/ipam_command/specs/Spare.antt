-- What GC leaves and what STATUS tells over rows that were opened, where there is spare.
use Rattle.std.specs.Prelude.{◌≡◌, ◌⊎◌, ◌↔◌, ℕ, false, true, List, [], Option, Some, IfSome, Ok}
use Rattle.ipam_block.specs.declared.allocation.Allocation.{Allocation}
use Rattle.ipam_records.specs.declared.call.Row.{Row as RowText}
use Rattle.ipam_records.specs.Datastore.{Datastore}
use Rattle.ipam_model.specs.declared.answer.Answer.TheVariants as answer
use Rattle.ipam_model.specs.declared.answer.Given.{Given}
use Rattle.ipam_model.specs.declared.request.AddRequest.{AddRequest}
use Rattle.ipam_model.specs.declared.request.Request.TheVariants.{Add, Collect}
use Rattle.ipam_model.specs.Alone.{alone_over}
use Rattle.ipam_model.specs.Moments.{Owns, Recorded}
use Rattle.ipam_model.specs.Opened.{OpensAs}
use Rattle.ipam_model.specs.Owners.{Owner}
use Rattle.ipam_model.specs.Plain.{HasSpare, HasSpareFor}
use Rattle.ipam_model.specs.Remove.{is_in_scope, is_live}
use Rattle.ipam_model.specs.SoundRequest.{IsSoundRequest}
use Rattle.ipam_laws.specs.AlonePlain.{AsksSame}
use Rattle.ipam_shared.specs.Kept.{opened}
use Rattle.ipam_shared.specs.Rows.{AreTextsOf, texts_loaded}
use Rattle.cni_types.specs.declared.calls.CniGc.{CniGc}
use Rattle.cni_types.specs.declared.calls.CniStatus.{CniStatus}
use Rattle.cni_types.specs.declared.calls.Look.TheVariants.{Gc, Status}
use Rattle.cni_types.specs.Looking.{look_reading}
use Rattle.cni_types.specs.Reading.{Pair}
use Rattle.cni_asks.specs.GcAsking.{collect_of, probe_of}
use Rattle.ipam_command.specs.Replies.{ComesTo, StatusAndText}

-- ---- GC

-- it was made for another network or on another node, or its handle is that of a valid attachment
abbrev pub IsSpared : CniGc → Allocation → Type 0
IsSpared call a = (is_in_scope (Some (call.network, call.node)) a ≡ false) ⊎ (is_live call.live a.attributes.handle ≡ true)

-- the datastore that the request of the call leaves by itself
abbrev pub left_by : CniGc → Datastore → Datastore
left_by call store = (alone_over (opened store) (Collect (collect_of call))).1

-- the rows, where they are known, are its texts, and its owners are exactly those that are spared
pub record LeavesSpared (store : Datastore) (call : CniGc) (new : Option (List RowText)) : Type 0 where
  pub texts : IfSome new (λ after. AreTextsOf after (left_by call store))
  pub owners : (o : Owner) → Owns (left_by call store) o ↔ ((a : Allocation) × Recorded store o a × IsSpared call a)

-- A GC call that is replied, over rows that open and have spare, succeeds without a text, and leaves
-- exactly the owners that are outside of its scope or whose handle is listed.
abbrev pub GcLeavesLaw : Type 0
GcLeavesLaw =
    (env : List Pair) (stdin : List ℕ) (call : CniGc) (old : List RowText) (new : Option (List RowText)) (reply : StatusAndText) (store : Datastore)
    → look_reading env stdin ≡ Ok (Gc call)
    → ComesTo env stdin (Some old) new reply
    → OpensAs (texts_loaded old) store
    → HasSpareFor store (Collect (collect_of call))
    → (reply ≡ (0, [])) × LeavesSpared store call new

-- ---- STATUS

-- A STATUS call that is replied has the status 0 exactly where the ADD that asks for the same, alone over
-- the same rows and with spare, is answered Added: of whatever families, and whatever its handle.
abbrev pub StatusAddsLaw : Type 0
StatusAddsLaw =
    (env : List Pair) (stdin : List ℕ) (call : CniStatus) (old : List RowText) (new : Option (List RowText)) (reply : StatusAndText) (store : Datastore)
    (request : AddRequest)
    → look_reading env stdin ≡ Ok (Status call)
    → ComesTo env stdin (Some old) new reply
    → OpensAs (texts_loaded old) store
    → AsksSame (probe_of call) request
    → IsSoundRequest (Add request)
    → HasSpare store (Add request)
    → (reply.0 ≡ 0) ↔ ((given : List Given) × ((alone_over (opened store) (Add request)).0 ≡ answer.Added given))
