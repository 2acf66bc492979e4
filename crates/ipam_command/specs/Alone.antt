-- The reply to a CNI call whose request runs by itself over rows that were opened.
use Rattle.std.specs.Prelude.{◌≡◌, ◌≢◌, ℕ, List, [], ◌∷◌, Option, Some, Ok}
use Rattle.ipam_addr.specs.declared.address.Family.{Family}
use Rattle.ipam_records.specs.Datastore.{Datastore}
use Rattle.ipam_model.specs.declared.answer.Answer.TheVariants as answer
use Rattle.ipam_model.specs.declared.answer.Given.{Given}
use Rattle.ipam_model.specs.declared.request.AddRequest.{AddRequest}
use Rattle.ipam_model.specs.declared.request.Request.{Request}
use Rattle.ipam_model.specs.declared.request.Request.TheVariants.{Add, Probe}
use Rattle.ipam_model.specs.Alone.{alone_over}
use Rattle.ipam_model.specs.Opened.{OpensAs, Texts}
use Rattle.ipam_model.specs.SoundRequest.{IsSoundRequest}
use Rattle.ipam_model.specs.Usable.{families_if}
use Rattle.ipam_laws.specs.AlonePlain.{AsksSame, IsGivenOrWants}
use Rattle.ipam_shared.specs.Kept.{opened}
use Rattle.cni_types.specs.declared.calls.CniStatus.{CniStatus}
use Rattle.cni_types.specs.declared.calls.Look.{Look}
use Rattle.cni_types.specs.declared.code.Code.TheVariants.{TryAgain}
use Rattle.cni_types.specs.declared.version.Version.{Version}
use Rattle.cni_types.specs.Looking.{look_reading}
use Rattle.cni_types.specs.Reading.{Pair}
use Rattle.cni_asks.specs.declared.asks.Ask.TheVariants.{Begin}
use Rattle.cni_asks.specs.declared.replies.CniReply.{CniReply}
use Rattle.cni_asks.specs.declared.replies.CniReply.TheVariants.{Success, Failure}
use Rattle.cni_asks.specs.GcAsking.{probe_of}
use Rattle.ipam_command.specs.Replies.{begun_by, reply_to}

-- the reply to a request that runs by itself
abbrev pub reply_alone : Datastore → Request → Option CniReply
reply_alone store asked = reply_to asked (alone_over (opened store) asked).0

-- ---- no reply asks to try again later

abbrev pub SaysTryAgain : Option CniReply → Type 0
SaysTryAgain (Some (Failure TryAgain details)) = Unit {0}
SaysTryAgain _ = ⊥

-- Nobody else runs, so no race is lost, and no reply asks to try again later.
abbrev pub NoTryAgainLaw : Type 0
NoTryAgainLaw =
    (texts : Texts) (store : Datastore) (asked : Request) → OpensAs texts store → IsSoundRequest asked
    → ¬ (SaysTryAgain (reply_alone store asked))

-- No reply asks to try again later to a call as it is read, with no premise on its request: whatever
-- request the environment and standard input begin.
abbrev pub CallNeverAgainLaw : Type 0
CallNeverAgainLaw =
    (env : List Pair) (stdin : List ℕ) (look : Look) (asked : Request) (version : Version) (texts : Texts) (store : Datastore)
    → look_reading env stdin ≡ Ok look → begun_by look ≡ Begin asked version → OpensAs texts store
    → ¬ (SaysTryAgain (reply_alone store asked))

-- ---- STATUS, and the ADD that it is about

-- STATUS succeeds
abbrev pub IsReadyFor : Datastore → CniStatus → Type 0
IsReadyFor store call = reply_alone store (Probe (probe_of call)) ≡ Some Success

-- Of one family: where STATUS succeeds, the ADD that asks for the same is given an address on the same
-- rows, or wants room, a count or a revision; and where STATUS does not succeed, it is given none.
abbrev pub StatusLaw : Type 0
StatusLaw =
    (texts : Texts) (store : Datastore) (call : CniStatus) (request : AddRequest) (family : Family)
    → OpensAs texts store → IsSoundRequest (Add request) → AsksSame (probe_of call) request
    → families_if request.ipv4 request.ipv6 ≡ family ∷ []
    → (IsReadyFor store call → IsGivenOrWants (alone_over (opened store) (Add request)).0)
    × (¬ (IsReadyFor store call) → (given : List Given) → (alone_over (opened store) (Add request)).0 ≢ answer.Added given)
