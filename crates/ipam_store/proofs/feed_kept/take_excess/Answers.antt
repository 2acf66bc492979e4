use Rattle.std.proofs.Common.{◌≡◌, ◌-◌, take, ap, sym, ◌∙◌, arith, deque_len}
use Rattle.std.proofs.lemmas.List.{take_all}
use Rattle.std.proofs.lemmas.Option.{slice_get_past}
use Rattle.ipam_store.proofs.Popped.{last_popped}
use Rattle.ipam_store.proofs.feed_kept.take_excess.Goals as goal

pub returns-then-len-lt-MOST_CHANGES-clause-changes : goal.returns-then-len-lt-MOST_CHANGES-clause-changes
returns-then-len-lt-MOST_CHANGES-clause-changes c =
    let items = c.args.changes.now.ok.0 in
    sym (take_all 1023 c.args.changes.now.items (omega arith))

pub returns-then-len-lt-MOST_CHANGES-clause-oldest : goal.returns-then-len-lt-MOST_CHANGES-clause-oldest
returns-then-len-lt-MOST_CHANGES-clause-oldest c =
    let items = c.args.changes.now.ok.0 in
    sym (slice_get_past c.args.changes.now.items 1023 (omega arith))

pub returns-clause-changes : goal.returns-clause-changes
returns-clause-changes c =
    let items = c.args.changes.now.ok.0 in
    let full : deque_len c.args.changes.now ≡ 1024 = omega arith in
    c.pop_back.ensures.rest ∙ ap (λ n. take (n - 1) c.args.changes.now.items) full

pub returns-clause-oldest : goal.returns-clause-oldest
returns-clause-oldest c =
    let items = c.args.changes.now.ok.0 in
    let full : deque_len c.args.changes.now ≡ 1024 = omega arith in
    last_popped c.args.changes.now.items 1023 (deque_len c.args.changes.now) (omega arith) full c.pop_back.result c.pop_back.ensures.value
