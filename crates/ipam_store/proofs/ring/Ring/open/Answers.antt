use Rattle.ipam_store.proofs.FeedRows.{routes-ascend}
use Rattle.ipam_store.proofs.Pushes.{Follows-opened, AreKept-none}
use Rattle.ipam_store.proofs.ring.Ring.open.Goals as goal

pub invariant_of-result : goal.invariant_of-result
invariant_of-result c =
    let routes = c.in_ok-routes_listed.ensures in
    let changes = c.in_ok-with_capacity.ensures.items in
    record {
      ascend = rw routes (routes-ascend _ c.requires);
      kept = rw changes (AreKept-none c.args.counter);
      room = c.in_ok-with_capacity.ensures.capacity;
      roomy = λ next e. absurd (cc e);
    }

pub returns-clause-follows : goal.returns-clause-follows
returns-clause-follows c base sound is counter =
    Follows-opened _ base _ sound is c.in_ok-routes_listed.ensures c.in_ok-with_capacity.ensures.items counter counter
