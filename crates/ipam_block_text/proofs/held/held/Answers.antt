use Rattle.std.proofs.Common.{◌∙◌, ◌+◌, arith, sym, ap, drop}
use Rattle.serde_json.specs.View.{view}
use Rattle.ipam_block_text.proofs.Each.{onto, held_more, held_pass}
use Rattle.ipam_block_text.specs.Reading.{held_from}
use Rattle.ipam_block_text.proofs.held.held.Goals as goal
use Rattle.ipam_block_text.proofs.held.held.Goals.{in-Some+in_ok-allocation+in-Some-2+in_ok-push, in_default}

pub loop-place-preserved : goal.loop-place-preserved
loop-place-preserved c =
    let l = c.loop-place in
    let stamps = view c.args.stamps.now in
    elim c.match-place.branch [
      | in-Some+in_ok-allocation+in-Some-2+in_ok-push w ↦ record {
        found = held_more c.args.attributes.now stamps l.ordinal l.place-index w.in-Some.index c.args.places.now w.in-Some-2.allocation l.held.items c.match-place.held.items _ c.loop-place-test.true w.in-Some.is (sym w.in_ok-allocation.ensures ∙ w.in-Some-2.is) (ap (λ v. v.items) w.held-is ∙ w.in_ok-push.ensures.items) l.invariant.found;
        count = omega arith;
      }
      | in_default w ↦ record {
        found = ap (λ v. onto v.items (held_from c.args.attributes.now stamps (l.ordinal + 1) (drop (l.place-index + 1) c.args.places.now))) w.held-is ∙ held_pass c.args.attributes.now stamps l.ordinal l.place-index c.args.places.now l.held.items _ c.loop-place-test.true w.in_default.is l.invariant.found;
        count = omega arith;
      }
    ]
