-- How a call goes: what it sends, what it is sent, and which counts of faults rise.
use Rattle.std.specs.Prelude.{◌≡◌, ℕ, ◌≤◌, List, Option, Some, None, IfSome, ◌⊎◌, ⊤, Result, Ok, Err}
use Rattle.std.specs.Io.KnownBytes.{append_known, IsAtEnd}
use Rattle.ipam_io.specs.Counts.{Rose}
use Rattle.ipam_io.specs.Streams.{AppendsPrefix}
use Rattle.ipam_io.specs.declared.lines.Got.{Got}
use Rattle.ipam_io.specs.declared.lines.Got.TheVariants.{Line, End, Cut}
use Rattle.ipam_io.specs.declared.lines.LinesFault.{LinesFault}
use Rattle.ipam_io.specs.declared.lines.LinesFault.TheVariants as lines
use Rattle.cni_types.specs.Reading.{Pair}
use Rattle.cni_types.specs.declared.version.Version.{Version}
use Rattle.cni_types.specs.declared.version.Version.TheVariants.{V1_0_0}
use Rattle.ipam_call.specs.declared.end.CallEnd.{CallEnd}
use Rattle.ipam_call.specs.declared.end.CallEnd.TheVariants.{Replied, Failed}
use Rattle.ipam_call.specs.declared.end.CallFault.{CallFault}
use Rattle.ipam_call.specs.declared.end.CallFault.TheVariants.{Read, Undecodable, Link, Reply, Memory}
use Rattle.ipam_call.specs.declared.end.DaemonReply.{DaemonReply}
use Rattle.ipam_call.specs.Replies.{HasReply, HasNoReply, reply_of_line}
use Rattle.ipam_call.specs.Requests.{line_for}
use Rattle.ipam_call.specs.Versions.{version_for}

-- what came of the exchange
abbrev pub CallOutcome : Type 0
CallOutcome = Result DaemonReply CallFault

abbrev pub outcome : CallEnd → CallOutcome
outcome (Replied reply) = Ok reply
outcome (Failed version fault) = Err fault

-- there is a line, and it was sent
abbrev pub IsSent : Option (List ℕ) → Option (List ℕ) → Option (List ℕ) → Type 0
IsSent line old new = (text : List ℕ) × (line ≡ Some text) × (new ≡ append_known old text)

-- there is a line, and a front part of it was sent
abbrev pub IsPartSent : Option (List ℕ) → Option (List ℕ) → Option (List ℕ) → Type 0
IsPartSent line old new = (text : List ℕ) × (line ≡ Some text) × AppendsPrefix old new text

-- a reply has the status 0 or 1
abbrev pub HasStatus : CallOutcome → Type 0
HasStatus (Ok reply) = reply.status ≤ 1
HasStatus (Err fault) = ⊤

-- What was sent of the line: all of it before a reply or what is none, a front part where the link
-- failed, and nothing where standard input is bad. Undecodable says that there is no line.
abbrev pub Sent : CallOutcome → Option (List ℕ) → Option (List ℕ) → Option (List ℕ) → Type 0
Sent (Ok reply) line old new = IsSent line old new
Sent (Err Read) line old new = new ≡ old
Sent (Err Undecodable) line old new = (line ≡ None) × (new ≡ old)
Sent (Err Link) line old new = IsPartSent line old new
Sent (Err Reply) line old new = IsSent line old new
Sent (Err Memory) line old new = (new ≡ old) ⊎ IsSent line old new

-- what the bytes that the link gives say
abbrev pub Received : CallOutcome → List ℕ → Type 0
Received (Ok reply) bytes = HasReply bytes reply
Received (Err Read) bytes = ⊤
Received (Err Undecodable) bytes = ⊤
Received (Err Link) bytes = ⊤
Received (Err Reply) bytes = HasNoReply bytes
Received (Err Memory) bytes = ⊤

-- The counts of faults of the link: just one rises where the link failed, and else none.
abbrev pub LinkFaults : CallOutcome → (reads reads' writes writes' : ℕ) → Type 0
LinkFaults (Ok reply) reads reads' writes writes' = (reads' ≡ reads) × (writes' ≡ writes)
LinkFaults (Err Read) reads reads' writes writes' = (reads' ≡ reads) × (writes' ≡ writes)
LinkFaults (Err Undecodable) reads reads' writes writes' = (reads' ≡ reads) × (writes' ≡ writes)
LinkFaults (Err Link) reads reads' writes writes' =
    (Rose reads reads' × (writes' ≡ writes)) ⊎ ((reads' ≡ reads) × Rose writes writes')
LinkFaults (Err Reply) reads reads' writes writes' = (reads' ≡ reads) × (writes' ≡ writes)
LinkFaults (Err Memory) reads reads' writes writes' = (reads' ≡ reads) × (writes' ≡ writes)

-- The count of faults of the source: it rises where a read of it failed, and else not.
abbrev pub SourceFaults : CallOutcome → (reads reads' : ℕ) → Type 0
SourceFaults (Ok reply) reads reads' = reads' ≡ reads
SourceFaults (Err Read) reads reads' = Rose reads reads'
SourceFaults (Err Undecodable) reads reads' = reads' ≡ reads
SourceFaults (Err Link) reads reads' = reads' ≡ reads
SourceFaults (Err Reply) reads reads' = reads' ≡ reads
SourceFaults (Err Memory) reads reads' = reads' ≡ reads

-- standard input was read to its end before the line was sent
abbrev pub ReadToEnd : CallOutcome → Option (List ℕ) → Type 0
ReadToEnd (Ok reply) left = IsAtEnd left
ReadToEnd (Err Read) left = ⊤
ReadToEnd (Err Undecodable) left = ⊤
ReadToEnd (Err Link) left = IsAtEnd left
ReadToEnd (Err Reply) left = IsAtEnd left
ReadToEnd (Err Memory) left = ⊤

-- The version that a fault is written in: that of standard input once it was read, and else 1.0.0. `same`
-- says that the link is the same: until the version was read, nothing is asked of it.
abbrev pub IsVersionOf : (same : Type 0) → CallFault → Version → Version → Type 0
IsVersionOf same Read told version = same × (version ≡ V1_0_0)
IsVersionOf same Undecodable told version = version ≡ told
IsVersionOf same Link told version = version ≡ told
IsVersionOf same Reply told version = version ≡ told
IsVersionOf same Memory told version = (same × (version ≡ V1_0_0)) ⊎ (version ≡ told)

abbrev pub IsToldVersion : (same : Type 0) → CallEnd → Version → Type 0
IsToldVersion same (Replied reply) told = ⊤
IsToldVersion same (Failed version fault) told = IsVersionOf same fault told version

-- an error is written in this version
abbrev pub IsInVersion : CallEnd → Version → Type 0
IsInVersion (Replied reply) told = ⊤
IsInVersion (Failed version fault) told = version ≡ told

-- What there is of a source and a link.
pub record Streams : Type 0 where
  -- the bytes that the source has left
  pub input : Option (List ℕ)
  pub input_faults : ℕ
  -- the bytes that were sent
  pub sent : Option (List ℕ)
  pub send_faults : ℕ
  -- the bytes that the link has left
  pub replies : Option (List ℕ)
  pub reply_faults : ℕ

-- How a call with this environment went that ended so. `same` says that the link is the same: an error is in
-- the version of standard input once that was read, and until then nothing is asked of the link.
pub record Went (same : Type 0) (env : List Pair) (end : CallEnd) (old new : Streams) : Type 0 where
  pub sent : IfSome old.input (λ input. Sent (outcome end) (line_for env input) old.sent new.sent)
  pub received : IfSome old.replies (λ bytes. Received (outcome end) bytes)
  pub status : HasStatus (outcome end)
  pub version : IfSome old.input (λ input. IsToldVersion same end (version_for input))
  pub read : ReadToEnd (outcome end) new.input
  pub source_faults : SourceFaults (outcome end) old.input_faults new.input_faults
  pub link_faults : LinkFaults (outcome end) old.reply_faults new.reply_faults old.send_faults new.send_faults

-- ---- parts of an exchange

-- what was sent of this line
abbrev pub SentLine : CallOutcome → List ℕ → Option (List ℕ) → Option (List ℕ) → Type 0
SentLine (Ok reply) line old new = new ≡ append_known old line
SentLine (Err Read) line old new = ⊥
SentLine (Err Undecodable) line old new = ⊥
SentLine (Err Link) line old new = AppendsPrefix old new line
SentLine (Err Reply) line old new = new ≡ append_known old line
SentLine (Err Memory) line old new = new ≡ append_known old line

-- what may come of an exchange, which reads no standard input: a status is 0 or 1
abbrev pub IsExchanged : CallOutcome → Type 0
IsExchanged (Ok reply) = reply.status ≤ 1
IsExchanged (Err Read) = ⊥
IsExchanged (Err Undecodable) = ⊤
IsExchanged (Err Link) = ⊤
IsExchanged (Err Reply) = ⊤
IsExchanged (Err Memory) = ⊤

-- what may come of a line that was sent
abbrev pub MayBeReceived : CallOutcome → Type 0
MayBeReceived (Ok reply) = reply.status ≤ 1
MayBeReceived (Err Read) = ⊥
MayBeReceived (Err Undecodable) = ⊥
MayBeReceived (Err Link) = ⊤
MayBeReceived (Err Reply) = ⊤
MayBeReceived (Err Memory) = ⊤

-- what comes of a line that was received and is this reply or none
abbrev pub IsReading : CallOutcome → Option DaemonReply → Type 0
IsReading (Ok reply) found = found ≡ Some reply
IsReading (Err Read) found = ⊥
IsReading (Err Undecodable) found = ⊥
IsReading (Err Link) found = ⊥
IsReading (Err Reply) found = found ≡ None
IsReading (Err Memory) found = ⊤

-- what comes of the line that was got, or of none
abbrev pub IsOutcomeOf : Result Got LinesFault → CallOutcome → Type 0
IsOutcomeOf (Ok (Line line)) o = IsReading o (reply_of_line line.items)
IsOutcomeOf (Ok End) o = o ≡ Err Reply
IsOutcomeOf (Ok Cut) o = o ≡ Err Reply
IsOutcomeOf (Err lines.TooLong) o = o ≡ Err Reply
IsOutcomeOf (Err lines.Read) o = o ≡ Err Link
IsOutcomeOf (Err lines.Memory) o = o ≡ Err Memory
