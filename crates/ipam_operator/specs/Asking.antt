-- A line is sent to the daemon, and a line comes back.
use Rattle.std.specs.Prelude.{◌≡◌, ℕ, List, [], ◌∷◌, ◌++◌, codes, Option, Some, None, IfSome, ◌⊎◌, Result, Ok, Err}
use Rattle.std.specs.Io.KnownBytes.{append_known, prepend_known}
use Rattle.ipam_io.specs.Counts.{Rose}
use Rattle.ipam_io.specs.Streams.{AppendsPrefix}
use Rattle.ipam_io.specs.Feeds.{IsLine, IsTooLong}
use Rattle.ipam_model.specs.declared.request.Request.{Request}
use Rattle.ipam_request_text.specs.Requests.{request_text}
use Rattle.ipam_operator.specs.declared.asking.AskFault.{AskFault}
use Rattle.ipam_operator.specs.declared.asking.AskFault.TheVariants.{Link, Reply, Memory}
use Rattle.ipam_operator.specs.declared.asking.TheConstants.{REPLY_BYTES}

-- the line that asks for a request
abbrev pub request_line : Request → List ℕ
request_line request = codes "{\"request\":" ++ (request_text request ++ codes "}\n")

-- what there is of the link
pub record Wire : Type 0 where
  -- the bytes that were sent
  pub sent : Option (List ℕ)
  pub send_faults : ℕ
  -- the bytes that are still to come
  pub coming : Option (List ℕ)
  pub read_faults : ℕ

-- the text was sent, and nothing failed
pub record IsSent (text : List ℕ) (old new : Wire) : Type 0 where
  pub sent : new.sent ≡ append_known old.sent text
  pub no_send_fault : new.send_faults ≡ old.send_faults
  pub no_read_fault : new.read_faults ≡ old.read_faults

-- the line came, of the bytes that were to come
pub record Comes (line : List ℕ) (coming coming' : Option (List ℕ)) : Type 0 where
  pub is_line : IsLine REPLY_BYTES line
  pub bytes : coming ≡ prepend_known (line ++ 10 ∷ []) coming'

-- the bytes begin with no line: they end before a line feed, or too many stand before one
pub data HasNoLine (bytes : List ℕ) : Type 0 where
  ends : IsLine REPLY_BYTES bytes → HasNoLine bytes
  too_long : IsTooLong REPLY_BYTES bytes → HasNoLine bytes

-- a write of the text failed, or the read after it
pub data LinkFails (text : List ℕ) (old new : Wire) : Type 0 where
  Unsent : AppendsPrefix old.sent new.sent text → Rose old.send_faults new.send_faults
      → new.read_faults ≡ old.read_faults → LinkFails text old new
  Unread : new.sent ≡ append_known old.sent text → new.send_faults ≡ old.send_faults
      → Rose old.read_faults new.read_faults → LinkFails text old new

-- the text was sent, and what came is no line, or one that is not read as what was asked for
pub data NoReply {A : Type 0} (reading : List ℕ → Option A) (text : List ℕ) (old new : Wire) : Type 0 where
  Early : IsSent text old new → IfSome old.coming HasNoLine → NoReply reading text old new
  Other : (line : List ℕ) → IsSent text old new → Comes line old.coming new.coming → reading line ≡ None → NoReply reading text old new

-- What came of a text that was sent, where this reads the line that comes back.
abbrev pub Asks : {A : Type 0} → (reading : List ℕ → Option A) → (text : List ℕ) → Result A AskFault → (old new : Wire) → Type 0
Asks reading text (Ok value) old new =
    (line : List ℕ) × IsSent text old new × Comes line old.coming new.coming × (reading line ≡ Some value)
Asks reading text (Err Link) old new = LinkFails text old new
Asks reading text (Err Reply) old new = NoReply reading text old new
Asks reading text (Err Memory) old new = (new ≡ old) ⊎ IsSent text old new

-- ---- parts of an exchange

-- why no line came, and what the count of failed reads came to
abbrev pub IsNotReceived : AskFault → (coming : Option (List ℕ)) → (reads reads' : ℕ) → Type 0
IsNotReceived Link coming reads reads' = Rose reads reads'
IsNotReceived Reply coming reads reads' = IfSome coming HasNoLine × (reads' ≡ reads)
IsNotReceived Memory coming reads reads' = reads' ≡ reads

-- why no line came to the text
abbrev pub IsNotRead : (text : List ℕ) → AskFault → (old new : Wire) → Type 0
IsNotRead text Link old new = LinkFails text old new
IsNotRead text Reply old new = IsSent text old new × IfSome old.coming HasNoLine
IsNotRead text Memory old new = IsSent text old new
