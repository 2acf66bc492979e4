-- What a line that asks for routes, rows or usage comes to.
use Rattle.std.proofs.Common.{◌≡◌, ◌↔◌, ◌<◌, ℕ, ◌+◌, arith, ltb-true, lt-ltb, Bool, true, false, inl, List, [], Option, Some, None, Result, Ok, Err, refl, sym, ap, ◌∙◌, subst}
use Rattle.std.specs.Prelude.{IfOk, OnErr, nat_lt}
use Rattle.ipam_model.specs.Cluster.{RunningRequest}
use Rattle.ipam_model.specs.History.{store_at}
use Rattle.ipam_records.specs.declared.key.Key.{Key}
use Rattle.ipam_words.specs.declared.kind.RowKind.{RowKind}
use Rattle.ipam_session.specs.declared.page.Page.{Page}
use Rattle.ipam_show.specs.declared.usage.PoolUsage.{PoolUsage}
use Rattle.ipam_store.specs.declared.route.Route.{Route}
use Rattle.ipam_store.specs.declared.change.Change.{Change}
use Rattle.ipam_store.specs.declared.feed_fault.SinceFault.{SinceFault}
use Rattle.ipam_store.specs.declared.feed_fault.SinceFault.TheVariants as fault_of
use Rattle.ipam_shared.specs.Feed.{AreChanges, AreRoutes, IsAhead, IsCompacted, floor_in}
use Rattle.ipam_session.specs.declared.replies.Reply.TheVariants as reply
use Rattle.ipam_session.specs.declared.route.Since.{Since}
use Rattle.ipam_session.specs.declared.route.Since.TheVariants.{Ahead, Changes, Compacted}
use Rattle.ipam_session.specs.declared.wish.Wish.TheVariants as wish
use Rattle.ipam_shared.specs.declared.faults.SharedFault.{SharedFault}
use Rattle.ipam_shared.specs.declared.faults.SharedFault.TheVariants.{Inner, SpentPass}
use Rattle.ipam_shared.specs.PassValue.{PassValue}
use Rattle.ipam_shared.specs.Passes.{runs_in}
use Rattle.ipam_serve.specs.declared.ran.Broken.{Broken}
use Rattle.ipam_serve.specs.declared.ran.Broken.TheVariants.{Halted, Worn, Memory}
use Rattle.ipam_serve.specs.Faults.{OnMemory}
use Rattle.ipam_serve.specs.Gains.{TookTurns}
use Rattle.ipam_serve.specs.Lines.{BreaksOff, Replies, Server, page_seen, server_at, since_in}
use Rattle.ipam_serve.specs.Looks.{IsUsage}
use Rattle.ipam_serve.specs.Runs.{IsAtRest}
use Rattle.ipam_serve.specs.Turns.{IsInFeed, IsToldOf}
use Rattle.ipam_serve.proofs.LineParts.{reads-none}
use Rattle.ipam_serve.proofs.Turning.{passed-nothing, took-spared}
use Rattle.ipam_serve.proofs.Wearing.{le_of_not-lt}

-- ---- what became of the routes

not-less : (m n : ℕ) → (m < n → ⊥) → nat_lt m n ≡ false
not-less m n not = by (nat_lt m n) refl
  where
    by : (b : Bool) → nat_lt m n ≡ b → nat_lt m n ≡ false
    by true e = absurd (not (ltb-true m n e))
    by false e = e

module _ (pass : PassValue) (revision : ℕ) where
  pub compacted-in : (told : ℕ) → IsCompacted pass.base pass.seen revision told → since_in pass revision ≡ Compacted told
  compacted-in told (less, is) = rw (lt-ltb revision (floor_in pass.base pass.seen) less) (ap (λ (n : ℕ). Compacted n) (sym is))

  module _ (kept : (floor : ℕ) → IsCompacted pass.base pass.seen revision floor → ⊥) where
    not-below : nat_lt revision (floor_in pass.base pass.seen) ≡ false
    not-below = not-less revision (floor_in pass.base pass.seen) (λ less. kept (floor_in pass.base pass.seen) (less, refl))

    pub ahead-in : (told : ℕ) → IsAhead pass.base pass.seen revision told → since_in pass revision ≡ Ahead told
    ahead-in told (less, is) = rw (not-below, lt-ltb (store_at pass.base pass.seen).counter revision less) (ap (λ (n : ℕ). Ahead n) (sym is))

    pub changes-in : ((counter : ℕ) → IsAhead pass.base pass.seen revision counter → ⊥) → (told : ℕ) (changes : List Change) → AreChanges pass.base pass.seen revision told changes → since_in pass revision ≡ Changes told changes
    changes-in reached told changes are =
        let not_above : nat_lt (store_at pass.base pass.seen).counter revision ≡ false = not-less (store_at pass.base pass.seen).counter revision (λ less. reached (store_at pass.base pass.seen).counter (less, refl)) in
        rw (not-below, not_above) (λ i. Changes (sym are.is_counter i) (sym are.exact i))

-- what a turn answered is that
module _ {T : Type 0} (old new : PassValue) (revision : ℕ) (some_left : 0 < old.left) where
  pub told-changes : (found : T) (counter : ℕ) (changes : List Change)
      → ((floor : ℕ) → (◌≡◌ {A = Result T (SharedFault SinceFault)} (Ok found) (Err (Inner (fault_of.Compacted floor)))) ↔ (0 < old.left × IsCompacted new.base new.seen revision floor))
      → ((above : ℕ) → (◌≡◌ {A = Result T (SharedFault SinceFault)} (Ok found) (Err (Inner (fault_of.Ahead above)))) ↔ (0 < old.left × IsAhead new.base new.seen revision above))
      → AreChanges new.base new.seen revision counter changes → Changes counter changes ≡ since_in new revision
  told-changes found counter changes compacted ahead are =
      sym (changes-in new revision (λ floor h. let e = (compacted floor).1 (some_left, h) in cc e) (λ above h. let e = (ahead above).1 (some_left, h) in cc e) counter changes are)

  pub told-fault : (fault : SharedFault SinceFault) (since : Since)
      → ((floor : ℕ) → (◌≡◌ {A = Result T (SharedFault SinceFault)} (Err fault) (Err (Inner (fault_of.Compacted floor)))) ↔ (0 < old.left × IsCompacted new.base new.seen revision floor))
      → ((above : ℕ) → (◌≡◌ {A = Result T (SharedFault SinceFault)} (Err fault) (Err (Inner (fault_of.Ahead above)))) ↔ (0 < old.left × IsAhead new.base new.seen revision above))
      → IsToldOf fault since → since ≡ since_in new revision
  told-fault SpentPass since compacted ahead h = absurd h
  told-fault (Inner (fault_of.Compacted floor)) since compacted ahead h = h ∙ sym (compacted-in new revision floor ((compacted floor).0 refl).1)
  told-fault (Inner (fault_of.Ahead above)) since compacted ahead h =
      h ∙ sym (ahead-in new revision (λ floor k. let e = (compacted floor).1 (some_left, k) in cc e) above ((ahead above).0 refl).1)
  told-fault (Inner fault_of.Memory) since compacted ahead h = absurd h

-- where the turn is not refused, what is told of its fault is that
pub told-faults : {T : Type 0} (old new : PassValue) (revision : ℕ) → 0 < old.left → (fault : SharedFault SinceFault) (r : Result Since Broken)
    → ((floor : ℕ) → (◌≡◌ {A = Result T (SharedFault SinceFault)} (Err fault) (Err (Inner (fault_of.Compacted floor)))) ↔ (0 < old.left × IsCompacted new.base new.seen revision floor))
    → ((above : ℕ) → (◌≡◌ {A = Result T (SharedFault SinceFault)} (Err fault) (Err (Inner (fault_of.Ahead above)))) ↔ (0 < old.left × IsAhead new.base new.seen revision above))
    → IfOk r (IsToldOf fault) → IfOk r (λ since. since ≡ since_in new revision)
told-faults {T} old new revision some_left fault (Ok since) compacted ahead h = told-fault {T = T} old new revision some_left fault since compacted ahead h
told-faults old new revision some_left fault (Err broken) compacted ahead h = tt

-- where only memory was wanting the revision is one of the feed's
pub in-feed : {T S : Type 0} (old new : PassValue) (revision : ℕ) → 0 < old.left → (fault : SharedFault SinceFault) (r : Result S Broken)
    → ((floor : ℕ) → (◌≡◌ {A = Result T (SharedFault SinceFault)} (Err fault) (Err (Inner (fault_of.Compacted floor)))) ↔ (0 < old.left × IsCompacted new.base new.seen revision floor))
    → ((above : ℕ) → (◌≡◌ {A = Result T (SharedFault SinceFault)} (Err fault) (Err (Inner (fault_of.Ahead above)))) ↔ (0 < old.left × IsAhead new.base new.seen revision above))
    → OnErr r (fault ≡ Inner fault_of.Memory) → OnMemory r (IsInFeed new revision)
in-feed old new revision some_left fault (Ok value) compacted ahead is = tt
in-feed old new revision some_left fault (Err Halted) compacted ahead is = tt
in-feed old new revision some_left fault (Err Worn) compacted ahead is = tt
in-feed old new revision some_left fault (Err Memory) compacted ahead is = (
  le_of_not-lt revision (floor_in new.base new.seen) (λ less. let e = (compacted (floor_in new.base new.seen)).1 (some_left, (less, refl)) in cc (e, is)),
  le_of_not-lt (store_at new.base new.seen).counter revision (λ less. let e = (ahead (store_at new.base new.seen).counter).1 (some_left, (less, refl)) in cc (e, is)),
)

-- ---- the line

module _ (server : Server) (new : PassValue) (took : TookTurns server.taker.pass [] 1 new) where
  pub routes-replies : (counter : ℕ) (routes : List Route) → AreRoutes new.base new.seen counter routes → new.left + 1 ≡ server.taker.pass.left
      → Replies (Some wish.Routes) (reply.Routes counter routes) server (server_at new server.taker.turns server.ahead)
  routes-replies counter routes are one = record {
    at = 0;
    answer = None;
    opened = [];
    does = record { entries = []; did = (refl, refl); took = took; passed = passed-nothing server.taker.turns };
    reads = reads-none server.ahead;
    turned = one;
    replied = λ i. Some (reply.Routes (sym are.is_counter i) (sym are.are_routes i));
  }

  pub since-replies : (revision : ℕ) (since : Since) → since ≡ since_in new revision → new.left + 1 ≡ server.taker.pass.left
      → Replies (Some (wish.RoutesSince revision)) (reply.RoutesSince since) server (server_at new server.taker.turns server.ahead)
  since-replies revision since is one = record {
    at = 0;
    answer = None;
    opened = [];
    does = record { entries = []; did = (refl, refl); took = took; passed = passed-nothing server.taker.turns };
    reads = reads-none server.ahead;
    turned = one;
    replied = ap (λ (s : Since). Some (reply.RoutesSince s)) (sym is);
  }

  pub page-replies : (kind : RowKind) (after : Option Key) (page : Page) → page ≡ page_seen new kind after → new.left + 1 ≡ server.taker.pass.left
      → Replies (Some (wish.Rows kind after)) (reply.Rows page) server (server_at new server.taker.turns server.ahead)
  page-replies kind after page is one = record {
    at = 0;
    answer = None;
    opened = [];
    does = record { entries = []; did = (refl, refl); took = took; passed = passed-nothing server.taker.turns };
    reads = reads-none server.ahead;
    turned = one;
    replied = ap (λ (p : Page). Some (reply.Rows p)) (sym is);
  }

  pub usage-replies : (revision : ℕ) (pools : List PoolUsage) → IsUsage (store_at new.base new.seen) revision pools → new.left + 1 ≡ server.taker.pass.left
      → Replies (Some wish.Usage) (reply.Usage revision pools) server (server_at new server.taker.turns server.ahead)
  usage-replies revision pools are one = record {
    at = 0;
    answer = None;
    opened = [];
    does = record { entries = []; did = (refl, refl); took = took; passed = passed-nothing server.taker.turns };
    reads = reads-none server.ahead;
    turned = one;
    replied = λ i. Some (reply.Usage (sym are.is_revision i) (sym are.are_pools i));
  }

  took-two : TookTurns server.taker.pass [] 2 new
  took-two = took-spared server.taker.pass new [] 1 2 (omega arith) took

  pub routes-breaks : BreaksOff (Some wish.Routes) server (server_at new server.taker.turns server.ahead)
  routes-breaks = record { at = 0; does = record { entries = []; did = inl refl; took = took-two; passed = passed-nothing server.taker.turns }; reads = inl refl }

  pub since-breaks : (revision : ℕ) → BreaksOff (Some (wish.RoutesSince revision)) server (server_at new server.taker.turns server.ahead)
  since-breaks revision = record { at = 0; does = record { entries = []; did = inl refl; took = took-two; passed = passed-nothing server.taker.turns }; reads = inl refl }

  pub page-breaks : (kind : RowKind) (after : Option Key) → BreaksOff (Some (wish.Rows kind after)) server (server_at new server.taker.turns server.ahead)
  page-breaks kind after = record { at = 0; does = record { entries = []; did = inl refl; took = took-two; passed = passed-nothing server.taker.turns }; reads = inl refl }

  pub usage-breaks : BreaksOff (Some wish.Usage) server (server_at new server.taker.turns server.ahead)
  usage-breaks = record { at = 0; does = record { entries = []; did = inl refl; took = took-two; passed = passed-nothing server.taker.turns }; reads = inl refl }

-- what was at rest still is
pub same-rests : (old new : PassValue) → runs_in new ≡ runs_in old → IsAtRest (runs_in old) → IsAtRest (runs_in new)
same-rests old new same rests = subst (λ (o : Option RunningRequest). IsAtRest o) (sym same) rests
