use Rattle.std.proofs.Common.{◌≡◌, ◌<◌, ◌≤◌, length, arith, take, sym, ap, ◌∙◌}
use Rattle.std.proofs.lemmas.List.{take_all}
use Rattle.ipam_command.specs.Numbers.{owned_among}
use Rattle.ipam_command.proofs.OwnerLemmas.{owned-more, owners-are}
use Rattle.ipam_command.proofs.gen_summary.owners.Goals as goal

pub loop-place-preserved : goal.loop-place-preserved
loop-place-preserved c =
    let rows = c.args.store.now.store.rows in
    let within : c.loop-place.place < length c.args.store.now.store.rows = omega arith in
    let more = owned-more rows c.loop-place.place (c.row-revision.result.0, c.row-revision.result.1.now) within c.row-revision.ensures in
    let now = c.loop-place.invariant.count in
    let own = c.owned_in.ensures in
    record { count = cc; small = omega arith }

pub returns : goal.returns
returns c =
    let all : length c.args.store.now.store.rows ≤ c.loop-place.place = omega arith in
    c.loop-place.invariant.count ∙ ap owned_among (take_all c.loop-place.place c.args.store.now.store.rows all) ∙ sym (owners-are c.args.store.now.store)
