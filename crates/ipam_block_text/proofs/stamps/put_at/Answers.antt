use Rattle.std.proofs.Common.{◌≡◌, ◌∙◌, ◌+◌, ◌<◌, ◌^◌, ◌≢◌, ◌≤◌, ◌++◌, length, get_or, drop, decimal, sym, ap, subst, arith}
use Rattle.std.proofs.lemmas.List.{drop_all, get_or_default}
use Rattle.ipam_json.specs.Canonical.{IsBeforeFirst}
use Rattle.ipam_block_text.specs.Stamps.{Stamp, stamp_members, AreInOrder}
use Rattle.ipam_block_text.proofs.StampPlaces.{rest_after, new_members, new_order, same_members, same_order}
use Rattle.ipam_block_text.proofs.stamps.put_at.Goals as goal
use Rattle.ipam_block_text.proofs.stamps.put_at.Goals.{else-place-earlier-via-then-place-earlier+else-earlier-place, else-place-earlier-via-else-place-earlier}

pub returns-then-earlier-place-clause-members : goal.returns-then-earlier-place-clause-members
returns-then-earlier-place-clause-members c =
    let earlier = c.args.earlier.now in
    let place = c.args.place in
    let within : place < length earlier = omega arith in
    ap (λ stamps. stamp_members (stamps ++ drop (place + 1) earlier)) c.in_ok-push.ensures.items
    ∙ same_members c.args.merged.now.items earlier place c.args.stamp (0, 0) within c.if-earlier-place.true c.requires.merged

pub returns-then-earlier-place-clause-order : goal.returns-then-earlier-place-clause-order
returns-then-earlier-place-clause-order c =
    let earlier = c.args.earlier.now in
    let place = c.args.place in
    let within : place < length earlier = omega arith in
    subst (λ stamps. AreInOrder (stamps ++ drop (place + 1) earlier)) (sym c.in_ok-push.ensures.items)
    (same_order c.args.merged.now.items earlier place c.args.stamp (0, 0) within c.if-earlier-place.true c.requires.order)

first-after : (c : goal.Joined-else-place-earlier) → IsBeforeFirst (decimal c.args.stamp.0) (stamp_members (drop c.args.place c.args.earlier.now))
first-after c =
    let earlier = c.args.earlier.now in
    let place = c.args.place in
    elim c.else-place-earlier.branch [
      | else-place-earlier-via-then-place-earlier+else-earlier-place w ↦
          let own : c.args.stamp.0 < 2 ^ 64 = omega arith in
          let there : (get_or earlier place (0, 0)).0 < 2 ^ 64 = omega arith in
          let other : (d : Stamp) → place < length earlier → ((get_or earlier place d).0 < 2 ^ 64) × ((get_or earlier place d).0 ≢ c.args.stamp.0) = λ d within.
          let is : get_or earlier place (0, 0) ≡ get_or earlier place d = get_or_default earlier place (0, 0) d within in
          subst (λ (s : Stamp). (s.0 < 2 ^ 64) × (s.0 ≢ c.args.stamp.0)) is (there, w.if-earlier-place.false) in
          rest_after earlier c.args.stamp.0 place own c.requires.rest other
      | else-place-earlier-via-else-place-earlier w ↦
          let past : length earlier ≤ place = omega arith in
          rw (drop_all place earlier past) tt
    ]

pub returns-clause-order : goal.returns-clause-order
returns-clause-order c =
    let rest = drop c.args.place c.args.earlier.now in
    subst (λ stamps. AreInOrder (stamps ++ rest)) (sym c.in_ok-push.ensures.items)
    (new_order c.args.merged.now.items rest c.args.stamp c.requires.order c.requires.merged (first-after c))

pub returns-clause-members : goal.returns-clause-members
returns-clause-members c =
    let rest = drop c.args.place c.args.earlier.now in
    ap (λ stamps. stamp_members (stamps ++ rest)) c.in_ok-push.ensures.items
    ∙ new_members c.args.merged.now.items rest c.args.stamp c.requires.merged (first-after c)
