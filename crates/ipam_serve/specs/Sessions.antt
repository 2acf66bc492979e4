-- What a session comes to: lines that are read, done and replied to, one after another, up to its end.
use Rattle.std.specs.Prelude.{◌≡◌, ◌≢◌, ◌⊎◌, ℕ, ◌+◌, ◌*◌, ◌<◌, ◌≤◌, ⊤, Bool, true, false, List, [], ◌∷◌, ◌++◌, length, Option, None, IsSome, IfSome, option_map, Result, Ok, Err}
use Rattle.std.specs.Io.KnownBytes.{prepend_known, append_known}
use Rattle.ipam_io.specs.Counts.{Rose, next_count}
use Rattle.ipam_io.specs.Streams.{AppendsPrefix}
use Rattle.ipam_io.specs.declared.limits.TheConstants.{SESSION_LINE_BYTES}
use Rattle.ipam_io.specs.Feeds.{IsLine, IsTooLong}
use Rattle.ipam_model.specs.declared.entry.Entry.{Entry}
use Rattle.ipam_model.specs.declared.entry.Entry.TheVariants as entry
use Rattle.ipam_session.specs.declared.replies.Reply.{Reply}
use Rattle.ipam_session.specs.Replies.{reply_line}
use Rattle.ipam_shared.specs.PassValue.{PassValue}
use Rattle.ipam_shared.specs.Passes.{IsSamePass, runs_in}
use Rattle.ipam_shared.specs.Settling.{KnowsSure}
use Rattle.ipam_serve.specs.declared.ends.SessionEnd.{SessionEnd}
use Rattle.ipam_serve.specs.declared.ends.SessionEnd.TheVariants as end
use Rattle.ipam_serve.specs.declared.ran.Broken.{Broken}
use Rattle.ipam_serve.specs.declared.ran.Broken.TheVariants as broken
use Rattle.ipam_serve.specs.Gains.{Gained, Passed, Settles}
use Rattle.ipam_serve.specs.Keeping.{AtKeeper}
use Rattle.ipam_serve.specs.Lines.{BreaksOff, FoundNone, Replies, Server, TellsOpened, WearsOut, asked_by}
use Rattle.ipam_serve.specs.Runs.{Taker}

-- ---- lines and replies

-- A session in its midst: its server, the text of its opening of the datastore, how often its gate was
-- asked before a line, the bytes that are still to come of the link and those that went to it, where gate
-- and link tell them.
pub record Talk : Type 0 where
  pub server : Server
  pub opened : List ℕ
  pub asked : Option ℕ
  pub coming : Option (List ℕ)
  pub written : Option (List ℕ)

-- a session with this server, this text of its opening, whose gate was asked so often before a line, and
-- these bytes of its link
abbrev pub talk_at : Server → (opened : List ℕ) → (asked : Option ℕ) → (coming written : Option (List ℕ)) → Talk
talk_at server opened asked coming written = record { server = server; opened = opened; asked = asked; coming = coming; written = written }

-- the gate was asked once before a line
abbrev pub AsksOnce : (old new : Talk) → Type 0
AsksOnce old new = new.asked ≡ option_map next_count old.asked

-- the talk, whose gate was asked once more before a line
abbrev pub asked_once : Talk → Talk
asked_once talk = record talk { asked = option_map next_count talk.asked }

-- a line, without its line feed, and its reply
pub record Exchange : Type 0 where
  pub line : List ℕ
  pub reply : Reply

-- the line was read
pub record ReadsLine (line : List ℕ) (old new : Option (List ℕ)) : Type 0 where
  pub is_line : IsLine SESSION_LINE_BYTES line
  pub bytes : old ≡ prepend_known (line ++ 10 ∷ []) new

-- the server, with the pass as it was before
abbrev pub server_before : PassValue → Server → Server
server_before pass server = record { taker = record { pass = pass; turns = server.taker.turns }; ahead = server.ahead }

module _ (at : AtKeeper) where
  -- The line was done, which left this pass, and replied to. The reply rests on what this pass had learned.
  pub record ToldLine (line : List ℕ) (reply : Reply) (old : Talk) (middle : PassValue) (new : Talk) : Type 0 where
    pub replies : Replies (asked_by line) reply old.server (server_before middle new.server)
    pub opened : TellsOpened old.opened (asked_by line) reply
    pub keeper : at.came replies.answer old.server.taker.pass middle
    pub settles : Settles middle new.server.taker.pass

  -- The gate was asked, the line was read and done, all that the pass had learned was made sure of, and then the
  -- reply was written. The pass knows that it is sure.
  pub record Exchanges (x : Exchange) (old new : Talk) : Type 0 where
    pub asks : AsksOnce old new
    pub reads : ReadsLine x.line old.coming new.coming
    pub middle : PassValue
    pub told : ToldLine x.line x.reply old middle new
    pub settled : at.settled new.server.taker.pass
    pub known : KnowsSure new.server.taker.pass
    pub same : new.opened ≡ old.opened
    pub writes : new.written ≡ append_known old.written (reply_line x.reply)

  -- these exchanges were made, one after another; the newest stands first
  abbrev pub Talks : List Exchange → Talk → Talk → Type 0
  Talks [] old new = new ≡ old
  Talks (x ∷ earlier) old new = (between : Talk) × Talks earlier old between × Exchanges x between new

-- ---- the end

-- what stands after the whole exchanges: nothing, a line that was not done to its end, one of which was not
-- made sure what it did, or one whose reply was not wholly written
pub data Rest : Type 0 where
  Nothing : Rest
  Undone : (line : List ℕ) → Rest
  Unsettled : (line : List ℕ) → Reply → Rest
  Untold : (line : List ℕ) → Reply → Rest

-- what the pass has learned is not known to be sure, and it has no turn to make sure of it, since one stays for
-- the last stop
pub record CantSettle (pass : PassValue) : Type 0 where
  pub few : pass.left < 2
  pub unsure : KnowsSure pass → ⊥

-- a fact where the session ended for want of memory
abbrev pub WhenMemory : SessionEnd → Type 0 → Type 0
WhenMemory end.Memory p = p
WhenMemory other p = ⊤

module _ (at : AtKeeper) where
  -- The gate was asked, and the line was read, and done as far as it came. Where memory was wanting, nothing was
  -- done, or what the line asks found none.
  pub record LeavesUndone (how : SessionEnd) (line : List ℕ) (old new : Talk) : Type 0 where
    pub asks : AsksOnce old new
    pub reads : ReadsLine line old.coming new.coming
    pub breaks : BreaksOff (asked_by line) old.server new.server
    pub memory : WhenMemory how ((new.server ≡ old.server) ⊎ FoundNone (asked_by line) old.server new.server)
    pub writes : new.written ≡ old.written
    pub keeper : at.came None old.server.taker.pass new.server.taker.pass

  -- Why it was not made sure of what a line did: the keeper failed in the turn that should have; there was no
  -- turn for it; or there was no memory.
  abbrev pub Unsettles : SessionEnd → (old new : PassValue) → Type 0
  Unsettles end.Closed old new = ⊥
  Unsettles end.Cut old new = ⊥
  Unsettles end.LineTooLong old new = ⊥
  Unsettles end.ReadFault old new = ⊥
  Unsettles end.WriteFault old new = ⊥
  Unsettles end.Halted old new = ⊥
  Unsettles end.Worn old new = (new ≡ old) × CantSettle new
  Unsettles end.Memory old new = at.starved old new
  Unsettles end.KeeperFault old new = at.failed old new

  -- the gate was asked, the line was read and done, what the pass had learned was not made sure of, and nothing
  -- of the reply was written
  pub record LeavesUnsettled (how : SessionEnd) (line : List ℕ) (reply : Reply) (old new : Talk) : Type 0 where
    pub asks : AsksOnce old new
    pub reads : ReadsLine line old.coming new.coming
    pub middle : PassValue
    pub told : ToldLine at line reply old middle new
    pub why : Unsettles how middle new.server.taker.pass
    pub writes : new.written ≡ old.written

  -- the gate was asked, the line was read and done, all that the pass had learned was made sure of, and then a
  -- front part of the reply was written
  pub record LeavesUntold (line : List ℕ) (reply : Reply) (old new : Talk) : Type 0 where
    pub asks : AsksOnce old new
    pub reads : ReadsLine line old.coming new.coming
    pub middle : PassValue
    pub told : ToldLine at line reply old middle new
    pub settled : at.settled new.server.taker.pass
    pub writes : AppendsPrefix old.written new.written (reply_line reply)

  -- Why a reply is not wholly written: what it rests on was not made sure of, and nothing of it is written; or
  -- it was, and a front part is written.
  abbrev pub EndsReply : SessionEnd → Reply → (old : PassValue) → (written : Option (List ℕ)) → (new : PassValue) → (written' : Option (List ℕ)) → Type 0
  EndsReply how reply old written new written' =
      (Unsettles how old new × (written' ≡ written))
      ⊎ (at.settled new × AppendsPrefix written written' (reply_line reply) × ((how ≡ end.WriteFault) ⊎ (how ≡ end.Memory)))

  abbrev pub Leaves : SessionEnd → Rest → Talk → Talk → Type 0
  Leaves how Nothing old new = new ≡ asked_once old
  Leaves how (Undone line) old new = LeavesUndone how line old new
  Leaves how (Unsettled line reply) old new = LeavesUnsettled how line reply old new
  Leaves how (Untold line reply) old new = LeavesUntold line reply old new

abbrev pub IsUndone : Rest → Type 0
IsUndone Nothing = ⊥
IsUndone (Undone line) = ⊤
IsUndone (Unsettled line reply) = ⊥
IsUndone (Untold line reply) = ⊥

abbrev pub IsUnsettled : Rest → Type 0
IsUnsettled Nothing = ⊥
IsUnsettled (Undone line) = ⊥
IsUnsettled (Unsettled line reply) = ⊤
IsUnsettled (Untold line reply) = ⊥

abbrev pub IsReplyUntold : Rest → Type 0
IsReplyUntold Nothing = ⊥
IsReplyUntold (Undone line) = ⊥
IsReplyUntold (Unsettled line reply) = ⊥
IsReplyUntold (Untold line reply) = ⊤

-- the line that was not done to its end wore the pass or the history out, or it was not sure what a line did, and
-- no turn was left to make sure of it
abbrev pub IsWornAt : Rest → (first last : PassValue) → Type 0
IsWornAt Nothing first last = ⊥
IsWornAt (Undone line) first last = WearsOut (asked_by line) first last
IsWornAt (Unsettled line reply) first last = CantSettle last
IsWornAt (Untold line reply) first last = ⊥

-- why the session ends so, where this stands after its whole exchanges, and then these bytes were to come
-- and this was the pass
abbrev pub IsCause : SessionEnd → Rest → (coming : Option (List ℕ)) → (first last : PassValue) → Type 0
IsCause end.Closed rest coming first last = (rest ≡ Nothing) × IfSome coming (λ bytes. bytes ≡ [])
IsCause end.Cut rest coming first last = (rest ≡ Nothing) × IfSome coming (λ bytes. IsLine SESSION_LINE_BYTES bytes × (bytes ≢ []))
IsCause end.LineTooLong rest coming first last = (rest ≡ Nothing) × IfSome coming (IsTooLong SESSION_LINE_BYTES)
IsCause end.ReadFault rest coming first last = rest ≡ Nothing
IsCause end.WriteFault rest coming first last = IsReplyUntold rest
IsCause end.Halted rest coming first last = (rest ≡ Nothing) ⊎ IsUndone rest
IsCause end.Worn rest coming first last = IsWornAt rest first last
IsCause end.Memory rest coming first last = ⊤
IsCause end.KeeperFault rest coming first last = IsUnsettled rest

-- how many whole lines were read
abbrev pub lines_in : Rest → ℕ
lines_in Nothing = 0
lines_in (Undone line) = 1
lines_in (Unsettled line reply) = 1
lines_in (Untold line reply) = 1

module _ (at : AtKeeper) where
  -- from here the session ends
  pub record Ends (how : SessionEnd) (old new : Talk) : Type 0 where
    pub rest : Rest
    pub leaves : Leaves at how rest old new
    pub cause : IsCause how rest old.coming old.server.taker.pass new.server.taker.pass

  -- whole exchanges were made, and then the session ended
  pub record Serves (how : SessionEnd) (old new : Talk) : Type 0 where
    pub exchanges : List Exchange
    pub between : Talk
    pub talks : Talks at exchanges old between
    pub ends : Ends how between new

  abbrev pub lines_read : {how : SessionEnd} {old new : Talk} → Serves how old new → ℕ
  lines_read served = length served.exchanges + lines_in served.ends.rest

-- ---- the last stop

-- what ran in the slot was stopped by one turn
pub record IsStopped (old new : PassValue) : Type 0 where
  pub runs : IsSome (runs_in old)
  pub same : IsSamePass old new
  pub gained : Gained old.slot old.seen (entry.Stopped old.slot ∷ []) new.seen
  pub left : new.left + 1 ≡ old.left

-- nothing ran, or it was stopped
abbrev pub StopsLast : (old new : PassValue) → Type 0
StopsLast old new = ((runs_in old ≡ None) × (new ≡ old)) ⊎ IsStopped old new

-- ---- the whole

-- What it came to, with so many lines read: each entry of the slot took a turn, and no more than two turns
-- for each line, of which one makes sure of what it did, and one more were spared an entry.
pub record Sums (lines : ℕ) (old new : Taker) : Type 0 where
  pub entries : List Entry
  pub gained : Gained old.pass.slot old.pass.seen entries new.pass.seen
  pub at_least : new.pass.left + length entries ≤ old.pass.left
  pub at_most : old.pass.left ≤ new.pass.left + length entries + 2 * lines + 1
  pub passed : Passed entries old.turns new.turns

-- it knows nothing to be sure yet
abbrev pub unsure : Talk → Talk
unsure talk = record talk { server = server_before (record talk.server.taker.pass { sure = None }) talk.server }

-- as it stands with this pass
abbrev pub with_pass : PassValue → Talk → Talk
with_pass pass talk = record talk { server = record talk.server { taker = record talk.server.taker { pass = pass } } }

-- A session up to its end, with the pass that it had before the last stop. Whatever its pass knew to be sure
-- at first, it makes sure of all that it tells itself.
pub record Session (at : AtKeeper) (how : SessionEnd) (old new : Talk) : Type 0 where
  pub last : PassValue
  pub serves : Serves at how (unsure old) (with_pass last new)
  pub stops : StopsLast last new.server.taker.pass
  pub sums : Sums (lines_read at serves) old.server.taker new.server.taker

-- ---- counts

abbrev pub is_read_fault : SessionEnd → Bool
is_read_fault end.ReadFault = true
is_read_fault other = false

abbrev pub is_write_fault : SessionEnd → Bool
is_write_fault end.WriteFault = true
is_write_fault other = false

abbrev pub is_halted : SessionEnd → Bool
is_halted end.Halted = true
is_halted other = false

-- the count rose, or stands as it was
abbrev pub RoseIf : Bool → (old new : ℕ) → Type 0
RoseIf true old new = Rose old new
RoseIf false old new = new ≡ old

-- the count rose where the session ended so
abbrev pub RoseAt : {T : Type 0} → (SessionEnd → Bool) → Result T SessionEnd → (old new : ℕ) → Type 0
RoseAt which (Ok value) old new = new ≡ old
RoseAt which (Err how) old new = RoseIf (which how) old new

-- how a session ends where what its line asked was broken off
abbrev pub end_of : Broken → SessionEnd
end_of broken.Halted = end.Halted
end_of broken.Worn = end.Worn
end_of broken.Memory = end.Memory
