-- The request that a call begins is sound.
use Rattle.std.proofs.Common.{◌≡◌, ℕ, List, Option, Some, None, Result, Ok, Err, codes, refl, sym, ap, subst}
use Rattle.serde_json.specs.Data.{Data}
use Rattle.ipam_addr.specs.Shape.{AddrValue}
use Rattle.ipam_addr.specs.Text.{address_of}
use Rattle.ipam_addr.specs.Width.{IsAddress}
use Rattle.ipam_addr.proofs.SpelledLemmas.{IsAddress-spelled}
use Rattle.ipam_addr.proofs.TextLemmas.{spelled-address_of}
use Rattle.ipam_model.specs.declared.request.Request.{Request}
use Rattle.ipam_model.specs.declared.request.Request.TheVariants as request
use Rattle.ipam_model.specs.SoundRequest.{IsSoundRequest}
use Rattle.cni_types.specs.declared.calls.CniAdd.{CniAdd}
use Rattle.cni_types.specs.declared.calls.Look.{Look}
use Rattle.cni_types.specs.declared.calls.Look.TheVariants.{Version, Add, Del, Check, Gc, Status}
use Rattle.cni_types.specs.declared.command.Command.{Command}
use Rattle.cni_types.specs.declared.command.Command.TheVariants as command
use Rattle.cni_types.specs.declared.version.Version as versions
use Rattle.cni_types.specs.Asked.{add_asked, argument_asked, asked}
use Rattle.cni_types.specs.Looking.{command_in, decoded, look_from, look_reading, looked, or_error, tested}
use Rattle.cni_types.specs.Reading.{Pair, ◌>>=◌}
use Rattle.cni_types.specs.Sound.{IsSoundAdd, IsSoundLook}
use Rattle.cni_types.proofs.Soundness.{look_reading-sound}
use Rattle.cni_asks.specs.declared.asks.Ask.{Ask}
use Rattle.cni_asks.specs.declared.asks.Ask.TheVariants.{Tell, Begin}
use Rattle.cni_asks.specs.Asking.{add_of, wanting}
use Rattle.cni_asks.proofs.SoundCalls.{add_sound}
use Rattle.cni_asks.specs.GcAsking.{probe_of}
use Rattle.cni_asks.proofs.SoundProbe.{copy_sound}
use Rattle.ipam_command.specs.Replies.{begun_by}
use Rattle.ipam_command.proofs.Spared.{gc-sound}

-- ---- an address that is asked for is one

-- the address of an ADD is one that was read of a text
abbrev HasRead : Look → Type 0
HasRead (Add add) = (text : List ℕ) × (add.address ≡ address_of text)
HasRead other = Unit {0}

asked-read : (c : Command) (version : versions.Version) (env : List Pair) (d : Data) → HasRead (asked c version env d)
unfolding add_asked
asked-read command.Add version env d = (argument_asked (codes "IP") env, refl)
asked-read command.Del version env d = tt
asked-read command.Check version env d = tt
asked-read command.Version version env d = tt
asked-read command.Gc version env d = tt
asked-read command.Status version env d = tt

bound : {A B E : Type 0} (m : Result A E) (f : A → Result B E) (v : B) → (m >>= f) ≡ Ok v → (a : A) × (m ≡ Ok a) × (f a ≡ Ok v)
bound (Ok a) f v e = (a, refl, e)
bound (Err fault) f v e = absurd cc

no_error : (d : Data) (r : Result Look _) (look : Look) → or_error d r ≡ Ok look → r ≡ Ok look
no_error d (Ok l) look e = let same : l ≡ look = cc in ap Ok same
no_error d (Err refusal) look e = absurd cc

looked-read : (o : Option Command) (env : List Pair) (d : Data) (look : Look) → looked o env d ≡ Ok look → HasRead look
looked-read None env d look e = absurd cc
looked-read (Some c) env d look e =
    let (version, is, after) = bound (tested c env d) _ look e in
    let same : asked c version env d ≡ look = cc in
    rw (← same) (asked-read c version env d)

from-read : (c : Option Command) (env : List Pair) (o : Option Data) (look : Look) → look_from c env o ≡ Ok look → HasRead look
from-read c env None look e = absurd cc
from-read c env (Some d) look e = looked-read c env d look (no_error d (looked c env d) look e)

look-read : (env : List Pair) (stdin : List ℕ) (look : Look) → look_reading env stdin ≡ Ok look → HasRead look
unfolding look_reading
look-read env stdin look e = from-read (command_in env) env (decoded (command_in env) stdin) look e

read-address : (text : List ℕ) (address : AddrValue) → Some address ≡ address_of text → IsAddress address
read-address text address is = IsAddress-spelled text address (spelled-address_of text address (sym is))

-- ---- the request is sound

-- the request is sound; what is said of a CHECK holds of whatever addresses
abbrev pub IsSoundOrCheck : Request → Type 0
IsSoundOrCheck (request.Check id addresses) = Unit {0}
IsSoundOrCheck asked = IsSoundRequest asked

abbrev IsSoundBegun : Ask → Type 0
IsSoundBegun (Tell text) = Unit {0}
IsSoundBegun (Begin asked version) = IsSoundOrCheck asked

wanting-sound : (add : CniAdd) (address : Option AddrValue) (text : List ℕ) → IsSoundAdd add → address ≡ address_of text → IsSoundOrCheck (wanting address (add_of add))
wanting-sound add None text sound is = (add_sound add sound, sound.some_family)
wanting-sound add (Some address) text sound is = (add_sound add sound, read-address text address is)

begun-sound : (look : Look) → IsSoundLook look → HasRead look → IsSoundBegun (begun_by look)
begun-sound (Version version) sound read = tt
begun-sound (Add add) sound read = wanting-sound add add.address read.0 sound read.1
begun-sound (Del del) sound read = sound
begun-sound (Check check) sound read = tt
begun-sound (Gc gc) sound read = gc-sound gc sound
begun-sound (Status status) sound read = copy_sound status (probe_of status) refl sound

pub asked_sound : (env : List Pair) (stdin : List ℕ) (look : Look) (asked : Request) (version : versions.Version) → look_reading env stdin ≡ Ok look → begun_by look ≡ Begin asked version → IsSoundOrCheck asked
asked_sound env stdin look asked version is begins =
    subst IsSoundBegun begins (begun-sound look (look_reading-sound env stdin look is) (look-read env stdin look is))
