-- What the lines of a session come to.
use Rattle.std.proofs.Common.{◌≡◌, ◌↔◌, ◌⊎◌, ◌<◌, ◌≤◌, ℕ, zero, suc, ◌+◌, ◌*◌, arith, inl, inr, List, [], ◌∷◌, ◌++◌, length, Option, Some, None, IsSome, refl, sym, ap, ◌∙◌, subst, append_assoc}
use Rattle.std.specs.Prelude.{IfErr, IfSome, OnOk, OnErr, Result, Ok, Err}
use Rattle.std.specs.Io.KnownBytes.{append_known, prepend_known}
use Rattle.ipam_io.specs.Streams.{AppendsPrefix}
use Rattle.ipam_model.specs.declared.entry.Entry.{Entry}
use Rattle.ipam_model.specs.declared.entry.Entry.TheVariants as entry
use Rattle.ipam_model.specs.Cluster.{RunningRequest}
use Rattle.ipam_session.specs.declared.replies.Reply.{Reply}
use Rattle.ipam_session.specs.Replies.{reply_line}
use Rattle.ipam_session.specs.declared.wish.Wish.{Wish}
use Rattle.ipam_shared.specs.PassValue.{PassValue}
use Rattle.ipam_shared.specs.declared.faults.SpentPass.{SpentPass}
use Rattle.ipam_shared.specs.Deeds.{told_if}
use Rattle.ipam_shared.specs.Passes.{IsSamePass, runs_in}
use Rattle.ipam_shared.specs.Settling.{KnowsSure}
use Rattle.ipam_shared.specs.Turning.{SeesNext}
use Rattle.ipam_serve.specs.declared.ends.SessionEnd.{SessionEnd}
use Rattle.ipam_serve.specs.declared.ends.SessionEnd.TheVariants as end
use Rattle.ipam_serve.specs.declared.ran.Broken.{Broken}
use Rattle.ipam_serve.specs.declared.ran.Broken.TheVariants.{Halted, Worn, Memory}
use Rattle.ipam_serve.specs.Faults.{OnMemory, OnWorn}
use Rattle.ipam_serve.specs.Gains.{Gained, Passed, Settles, asked_after, request_running, calls_in}
use Rattle.ipam_serve.specs.Keeping.{AtKeeper}
use Rattle.ipam_serve.specs.Lines.{BreaksOff, FoundNone, Replies, Server, TellsOpened, WearsOut, asked_by, server_at}
use Rattle.ipam_serve.specs.Runs.{Taker}
use Rattle.ipam_serve.specs.Sessions.{AsksOnce, Ends, EndsReply, Exchange, Exchanges, IsCause, IsStopped, Leaves, LeavesUndone, LeavesUnsettled, LeavesUntold, Nothing, ReadsLine, Rest, Serves, Session, StopsLast, Sums, Talk, Talks, ToldLine, Undone, Unsettled, Unsettles, Untold, WhenMemory, end_of, lines_in, lines_read, server_before, talk_at, unsure, with_pass}
use Rattle.ipam_serve.proofs.Entries.{of_slot-told}
use Rattle.ipam_serve.proofs.Running.{none-asked}
use Rattle.ipam_serve.proofs.Turning.{Went, passed-nothing, passed-then, then-gained, took-nothing, went-settles, went-slot, went-spared, went-then, went-took}

-- what was taken, line by line
pub record Spent (spared : ℕ) (old new : Taker) : Type 0 where
  pub entries : List Entry
  pub took : Went old.pass entries spared new.pass
  pub passed : Passed entries old.turns new.turns

spent-none : (taker : Taker) → Spent 0 taker taker
spent-none taker = record { entries = []; took = went-took taker.pass taker.pass [] 0 (took-nothing taker.pass); passed = passed-nothing taker.turns }

spent-then : (m n : ℕ) (one two three : Taker) → Spent m one two → Spent n two three → Spent (m + n) one three
spent-then m n one two three a b = record {
  entries = b.entries ++ a.entries;
  took = went-then one.pass two.pass three.pass a.entries b.entries m n a.took b.took;
  passed = passed-then one.turns two.turns three.turns a.entries b.entries a.passed b.passed;
}

spent-more : (m n : ℕ) (old new : Taker) → m ≤ n → Spent m old new → Spent n old new
spent-more m n old new less s = record { entries = s.entries; took = went-spared old.pass new.pass s.entries m n less s.took; passed = s.passed }

replies-spent : (asked : Option Wish) (reply : Reply) (old new : Server) → Replies asked reply old new → Spent 1 old.taker new.taker
replies-spent asked reply old new r = record { entries = r.does.entries; took = went-took old.taker.pass new.taker.pass r.does.entries 1 r.does.took; passed = r.does.passed }

breaks-spent : (asked : Option Wish) (old new : Server) → BreaksOff asked old new → Spent 2 old.taker new.taker
breaks-spent asked old new b = record { entries = b.does.entries; took = went-took old.taker.pass new.taker.pass b.does.entries 2 b.does.took; passed = b.does.passed }

settles-spent : (old new : PassValue) (turns : Option ℕ) → Settles old new → Spent 1 (record { pass = old; turns = turns }) (record { pass = new; turns = turns })
settles-spent old new turns s = record { entries = []; took = went-settles old new s; passed = passed-nothing turns }

told-spent : (at : AtKeeper) (line : List ℕ) (reply : Reply) (old : Talk) (middle : PassValue) (new : Talk) → ToldLine at line reply old middle new → Spent 2 old.server.taker new.server.taker
told-spent at line reply old middle new t =
    spent-then 1 1 old.server.taker (record { pass = middle; turns = new.server.taker.turns }) new.server.taker
    (replies-spent (asked_by line) reply old.server (server_before middle new.server) t.replies)
    (settles-spent middle new.server.taker.pass new.server.taker.turns t.settles)

talks-spent : (at : AtKeeper) (exchanges : List Exchange) (old new : Talk) → Talks at exchanges old new → Spent (2 * length exchanges) old.server.taker new.server.taker
talks-spent at [] old new same = subst (λ (t : Talk). Spent 0 old.server.taker t.server.taker) (sym same) (spent-none old.server.taker)
talks-spent at (x ∷ earlier) old new talks =
    spent-more (2 * length earlier + 2) (2 * length (x ∷ earlier)) old.server.taker new.server.taker (omega arith)
    (spent-then (2 * length earlier) 2 old.server.taker talks.0.server.taker new.server.taker (talks-spent at earlier old talks.0 talks.1)
    (told-spent at x.line x.reply talks.0 talks.2.middle new talks.2.told))

leaves-spent : (at : AtKeeper) (how : SessionEnd) (rest : Rest) (old new : Talk) → Leaves at how rest old new → Spent (2 * lines_in rest + 1) old.server.taker new.server.taker
leaves-spent at how Nothing old new same = spent-more 0 1 old.server.taker new.server.taker (omega arith) (subst (λ (t : Talk). Spent 0 old.server.taker t.server.taker) (sym same) (spent-none old.server.taker))
leaves-spent at how (Undone line) old new l = spent-more 2 3 old.server.taker new.server.taker (omega arith) (breaks-spent (asked_by line) old.server new.server l.breaks)
leaves-spent at how (Unsettled line reply) old new l = spent-more 2 3 old.server.taker new.server.taker (omega arith) (told-spent at line reply old l.middle new l.told)
leaves-spent at how (Untold line reply) old new l = spent-more 2 3 old.server.taker new.server.taker (omega arith) (told-spent at line reply old l.middle new l.told)

pub serves-spent : (at : AtKeeper) (how : SessionEnd) (old new : Talk) (s : Serves at how old new) → Spent (2 * lines_read at s + 1) old.server.taker new.server.taker
serves-spent at how old new s =
    spent-more (2 * length s.exchanges + (2 * lines_in s.ends.rest + 1)) (2 * lines_read at s + 1) old.server.taker new.server.taker (omega arith)
    (spent-then (2 * length s.exchanges) (2 * lines_in s.ends.rest + 1) old.server.taker s.between.server.taker new.server.taker
    (talks-spent at s.exchanges old s.between s.talks) (leaves-spent at how s.ends.rest s.between new s.ends.leaves))

-- ---- the last stop

no-entries : (entries : List Entry) → length entries ≤ 0 → asked_after None entries ≡ None
unfolding asked_after
no-entries [] none = refl
no-entries (new ∷ entries) none = absurd (omega arith)

-- what was idle is so, or has a turn left
idle-or-left : (old new : PassValue) (entries : List Entry) (spared : ℕ) → Went old entries spared new → runs_in old ≡ None → (runs_in new ≡ None) ⊎ (0 < new.left)
idle-or-left old new entries spared t idle = from old.left refl
  where
    from : (n : ℕ) → old.left ≡ n → (runs_in new ≡ None) ⊎ (0 < new.left)
    from zero e =
        let least = t.at_least in
        let few : length entries ≤ 0 = omega arith in
        inl (none-asked (runs_in new) (t.runs ∙ ap (λ o. asked_after (request_running o) entries) idle ∙ no-entries entries few))
    from (suc n) e = let some : 0 < old.left = omega arith in inr (t.one_stays some)

pub serves-stop : (at : AtKeeper) (how : SessionEnd) (old new : Talk) → Serves at how old new → runs_in old.server.taker.pass ≡ None → (runs_in new.server.taker.pass ≡ None) ⊎ (0 < new.server.taker.pass.left)
serves-stop at how old new s idle = let spent = serves-spent at how old new s in
    idle-or-left old.server.taker.pass new.server.taker.pass spent.entries (2 * lines_read at s + 1) spent.took idle

gained-told : (old new : PassValue) (told : List Entry) → SeesNext old told new → Gained old.slot old.seen told new.seen
gained-told old new told sees = record {
  more = told ++ sees.between;
  grew = sees.seen ∙ sym (append_assoc told sees.between old.seen);
  own = of_slot-told old.slot told sees.between sees.own sees.others;
}

pub stopped-so : (old new : PassValue) (told : Option Entry) → ((◌≡◌ {A = Result (Option Entry) SpentPass} (Ok told) (Ok None)) ↔ (0 < old.left × runs_in old ≡ None)) → IfSome told (λ stopped. stopped ≡ entry.Stopped old.slot) → IsSome (runs_in old)
    → IsSamePass old new → SeesNext old (told_if told) new → new.left + 1 ≡ old.left → IsStopped old new
stopped-so old new None idle is runs same sees left = let none = (idle.0 refl).1 in absurd (cc (none, runs))
stopped-so old new (Some told) idle is runs same sees left = record {
  runs = runs;
  same = same;
  gained = subst (λ (e : Entry). Gained old.slot old.seen (e ∷ []) new.seen) is (gained-told old new (told ∷ []) sees);
  left = left;
}

pub some-left : (o : Option RunningRequest) (left : ℕ) → (o ≡ None) ⊎ (0 < left) → IsSome o → 0 < left
some-left o left (inl none) some = absurd (cc (none, some))
some-left o left (inr more) some = more

sums-stopped : (lines : ℕ) (old last new : Taker) → Spent (2 * lines + 1) old last → IsStopped last.pass new.pass → new.turns ≡ last.turns → Sums lines old new
unfolding calls_in
sums-stopped lines old last new s stopped turns =
    let least = s.took.at_least in
    let most = s.took.at_most in
    let left = stopped.left in
    record {
      entries = entry.Stopped last.pass.slot ∷ s.entries;
      gained = then-gained old.pass.slot old.pass.seen last.pass.seen new.pass.seen s.entries (entry.Stopped last.pass.slot ∷ []) s.took.gained
          (subst (λ (n : ℕ). Gained n last.pass.seen (entry.Stopped last.pass.slot ∷ []) new.pass.seen) (went-slot old.pass last.pass s.entries (2 * lines + 1) s.took) stopped.gained);
      at_least = omega arith;
      at_most = omega arith;
      passed = record { passes = s.passed.passes; enough = s.passed.enough; counts = turns ∙ s.passed.counts };
    }

sums-idle : (lines : ℕ) (old new : Taker) → Spent (2 * lines + 1) old new → Sums lines old new
sums-idle lines old new s =
    let least = s.took.at_least in
    let most = s.took.at_most in
    record { entries = s.entries; gained = s.took.gained; at_least = least; at_most = omega arith; passed = s.passed }

-- whatever it knew to be sure
sums-unsure : (lines : ℕ) (old new : Taker) → Sums lines (record { pass = record old.pass { sure = None }; turns = old.turns }) new → Sums lines old new
sums-unsure lines old new s = record { entries = s.entries; gained = s.gained; at_least = s.at_least; at_most = s.at_most; passed = s.passed }

pub session-so : (at : AtKeeper) (how : SessionEnd) (old new : Talk) (last : PassValue) → Serves at how (unsure old) (with_pass last new) → StopsLast last new.server.taker.pass → Session at how old new
session-so at how old new last s stops = record { last = last; serves = s; stops = stops; sums = sums-unsure lines old.server.taker new.server.taker (sums stops) }
  where
    lines : ℕ
    lines = lines_read at s

    first : Taker
    first = (unsure old).server.taker

    before : Taker
    before = (with_pass last new).server.taker

    spent : Spent (2 * lines + 1) first before
    spent = serves-spent at how (unsure old) (with_pass last new) s

    sums : StopsLast last new.server.taker.pass → Sums lines first new.server.taker
    sums (inl none) = sums-idle lines first new.server.taker
        (subst (λ (p : PassValue). Spent (2 * lines + 1) first (record { pass = p; turns = new.server.taker.turns })) (sym none.1) spent)
    sums (inr stopped) = sums-stopped lines first before new.server.taker spent stopped refl

-- nothing but the turns that are left, what was seen and what is sure of it is another
pub serves-same : (at : AtKeeper) (how : SessionEnd) (old last : Talk) (pass : PassValue) → Serves at how old last → StopsLast last.server.taker.pass pass → IsSamePass old.server.taker.pass pass
serves-same at how old last pass s stops = from stops
  where
    first : PassValue
    first = old.server.taker.pass

    before : IsSamePass first last.server.taker.pass
    before = (serves-spent at how old last s).took.same

    from : StopsLast last.server.taker.pass pass → IsSamePass first pass
    from (inl none) = subst (λ (p : PassValue). IsSamePass first p) (sym none.1) before
    from (inr stopped) = stopped.same ∙ ap (λ (p : PassValue). record p { left = pass.left; seen = pass.seen; moment = pass.moment; sure = pass.sure }) before

-- it forgot what it knew to be sure
pub serves-unsure : (at : AtKeeper) (how : SessionEnd) (old forgot : PassValue) (turns : Option ℕ) (ahead : Option (ℕ → ℕ)) (opened : List ℕ) (asked : Option ℕ) (left written : Option (List ℕ)) (new : Talk)
    → forgot ≡ record old { sure = None } → Serves at how (talk_at (server_at forgot turns ahead) opened asked left written) new → Serves at how (unsure (talk_at (server_at old turns ahead) opened asked left written)) new
serves-unsure at how old forgot turns ahead opened asked left written new is s =
    subst (λ (p : PassValue). Serves at how (talk_at (server_at p turns ahead) opened asked left written) new) is s

pub same-unsure : (old forgot new : PassValue) → forgot ≡ record old { sure = None } → IsSamePass forgot new → IsSamePass old new
same-unsure old forgot new is same = subst (λ (p : PassValue). IsSamePass p new) is same

pub idle-unsure : (old forgot : PassValue) → forgot ≡ record old { sure = None } → runs_in old ≡ None → runs_in forgot ≡ None
idle-unsure old forgot is idle = ap runs_in is ∙ idle

-- ---- exchanges

known-nil : (known : Option (List ℕ)) → prepend_known [] known ≡ known
known-nil None = refl
known-nil (Some bytes) = refl

-- none was made, and no byte of a line is held
pub talks-none : (at : AtKeeper) (server : Server) (opened : List ℕ) (asked : Option ℕ) (left written : Option (List ℕ)) (held : List ℕ) → held ≡ []
    → (exchanges : List Exchange) × Talks at exchanges (talk_at server opened asked left written) (talk_at server opened asked (prepend_known held left) written)
talks-none at server opened asked left written held none = ([], ap (λ coming. talk_at server opened asked coming written) (ap (λ h. prepend_known h left) none ∙ known-nil left))

-- no line was read
pub ends-nothing : (at : AtKeeper) (how : SessionEnd) (old new : Talk) → new.server ≡ old.server → new.opened ≡ old.opened → AsksOnce old new → new.coming ≡ old.coming → new.written ≡ old.written
    → IsCause how Nothing old.coming old.server.taker.pass new.server.taker.pass → Ends at how old new
ends-nothing at how old new server opened asks coming written cause = record {
  rest = Nothing;
  leaves = λ i. record { server = server i; opened = opened i; asked = asks i; coming = coming i; written = written i };
  cause = cause;
}

abbrev pub with_turns : Option ℕ → Server → Server
with_turns turns server = record { taker = record { pass = server.taker.pass; turns = turns }; ahead = server.ahead }

module _ (at : AtKeeper) (line : List ℕ) (old new : Talk) (turns : Option ℕ) (coming mid : Option (List ℕ))
    (same_turns : turns ≡ old.server.taker.turns) (reads : ReadsLine line old.coming coming) (same : new.coming ≡ coming) (kept : mid ≡ old.written) (asks : AsksOnce old new) where
  reads-new : ReadsLine line old.coming new.coming
  reads-new = record { is_line = reads.is_line; bytes = reads.bytes ∙ ap (prepend_known (line ++ 10 ∷ [])) (sym same) }

  -- it was not done to its end
  pub ends-undone : (why : Broken) → BreaksOff (asked_by line) (with_turns turns old.server) new.server → OnWorn {T = Reply} (Err why) (WearsOut (asked_by line) old.server.taker.pass new.server.taker.pass)
      → OnMemory {T = Reply} (Err why) ((new.server ≡ with_turns turns old.server) ⊎ FoundNone (asked_by line) (with_turns turns old.server) new.server) → new.written ≡ mid → at.came None old.server.taker.pass new.server.taker.pass → Ends at (end_of why) old new
  ends-undone why breaks worn memory written keeper = record { rest = Undone line; leaves = leaves; cause = cause why worn }
    where
      found : (b : Broken) → OnMemory {T = Reply} (Err b) ((new.server ≡ with_turns turns old.server) ⊎ FoundNone (asked_by line) (with_turns turns old.server) new.server)
          → WhenMemory (end_of b) ((new.server ≡ old.server) ⊎ FoundNone (asked_by line) old.server new.server)
      found Halted m = tt
      found Worn m = tt
      found Memory m = subst (λ t. (new.server ≡ with_turns t old.server) ⊎ FoundNone (asked_by line) (with_turns t old.server) new.server) same_turns m

      leaves : LeavesUndone at (end_of why) line old new
      leaves = record { asks = asks; reads = reads-new; breaks = subst (λ t. BreaksOff (asked_by line) (with_turns t old.server) new.server) same_turns breaks; memory = found why memory; writes = written ∙ kept; keeper = keeper }

      cause : (b : Broken) → OnWorn {T = Reply} (Err b) (WearsOut (asked_by line) old.server.taker.pass new.server.taker.pass) → IsCause (end_of b) (Undone line) old.coming old.server.taker.pass new.server.taker.pass
      cause Halted w = inr tt
      cause Worn w = w
      cause Memory w = tt

  module _ (middle : PassValue) (reply : Reply) (replied : Replies (asked_by line) reply (with_turns turns old.server) (server_before middle new.server)) (opened : TellsOpened old.opened (asked_by line) reply)
      (keeps : (r : Replies (asked_by line) reply old.server (server_before middle new.server)) → at.came r.answer old.server.taker.pass middle) (settles : Settles middle new.server.taker.pass) where
    told-new : ToldLine at line reply old middle new
    told-new = record { replies = replies; opened = opened; keeper = keeps replies; settles = settles }
      where
        replies : Replies (asked_by line) reply old.server (server_before middle new.server)
        replies = subst (λ t. Replies (asked_by line) reply (with_turns t old.server) (server_before middle new.server)) same_turns replied

    -- its reply was written
    pub exchanged : (r : Result (Unit {0}) SessionEnd) → new.opened ≡ old.opened → OnOk r (at.settled new.server.taker.pass) → OnOk r (KnowsSure new.server.taker.pass) → OnOk r (new.written ≡ append_known mid (reply_line reply)) → OnOk r ((x : Exchange) × Exchanges at x old new)
    exchanged (Ok done) same_opened settled known wrote =
        (record { line = line; reply = reply }, record { asks = asks; reads = reads-new; middle = middle; told = told-new; settled = settled; known = known; same = same_opened; writes = wrote ∙ ap (λ w. append_known w (reply_line reply)) kept })
    exchanged (Err how) same_opened settled known wrote = tt

    unsettled-cause : (how : SessionEnd) → Unsettles at how middle new.server.taker.pass → IsCause how (Unsettled line reply) old.coming old.server.taker.pass new.server.taker.pass
    unsettled-cause end.Closed why = absurd why
    unsettled-cause end.Cut why = absurd why
    unsettled-cause end.LineTooLong why = absurd why
    unsettled-cause end.ReadFault why = absurd why
    unsettled-cause end.WriteFault why = absurd why
    unsettled-cause end.Halted why = absurd why
    unsettled-cause end.Worn why = why.1
    unsettled-cause end.Memory why = tt
    unsettled-cause end.KeeperFault why = tt

    untold-cause : (how : SessionEnd) → (how ≡ end.WriteFault) ⊎ (how ≡ end.Memory) → IsCause how (Untold line reply) old.coming old.server.taker.pass new.server.taker.pass
    untold-cause how (inl e) = subst (λ h. IsCause h (Untold line reply) old.coming old.server.taker.pass new.server.taker.pass) (sym e) tt
    untold-cause how (inr e) = subst (λ h. IsCause h (Untold line reply) old.coming old.server.taker.pass new.server.taker.pass) (sym e) tt

    -- or nothing of it, or a front part
    pub ends-told : (r : Result (Unit {0}) SessionEnd) → IfErr r (λ how. EndsReply at how reply middle mid new.server.taker.pass new.written) → IfErr r (λ how. Ends at how old new)
    ends-told (Ok done) ended = tt
    ends-told (Err how) (inl (why, same_written)) =
        record {
          rest = Unsettled line reply;
          leaves = record { asks = asks; reads = reads-new; middle = middle; told = told-new; why = why; writes = same_written ∙ kept };
          cause = unsettled-cause how why;
        }
    ends-told (Err how) (inr (settled, part, why)) =
        record {
          rest = Untold line reply;
          leaves = record { asks = asks; reads = reads-new; middle = middle; told = told-new; settled = settled; writes = subst (λ w. AppendsPrefix w new.written (reply_line reply)) kept part };
          cause = untold-cause how why;
        }
