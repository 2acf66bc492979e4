use Rattle.std.proofs.Common.{◌≡◌, ℕ, ◌<◌, true, nat_lt, arith}
use Rattle.std.proofs.lemmas.Bool.Decides.{nat_tests}
use Rattle.ipam_store.specs.Feed.{is_above}
use Rattle.ipam_store.proofs.Popped.{taken_one_more}
use Rattle.ipam_store.proofs.feed_kept.newest.Goals as goal

above : (m n : ℕ) → m < n → nat_lt m n ≡ true
above m n h = grind (arith, nat_tests)

pub loop-change-preserved : goal.loop-change-preserved
loop-change-preserved c =
    taken_one_more (is_above c.args.revision) c.in-Some.change.now c.in_ok-clone.field-0 _ _ _ _ _ c.loop-change.invariant c.in-Some.ensures.steps (above _ _ c.if-change-revision.false) c.in_ok-clone.ensures.cases c.in_ok-push.ensures.items
