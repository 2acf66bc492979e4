use Rattle.ipam_block_text.specs.Body.{place_data}
use Rattle.ipam_block_text.proofs.Written.{item_written, list_ended, on_ok}
use Rattle.ipam_block_text.proofs.writing.push_places.Goals as goal

pub loop-place-preserved : goal.loop-place-preserved
loop-place-preserved c =
    let l = c.loop-place in
    item_written place_data _ _ _ _ l.later c.args.places.now l.place-index _ c.loop-place-test.true c.in_ok-push_comma.ensures c.in_ok-push_place.ensures l.invariant

pub returns : goal.returns
returns c =
    let l = c.loop-place in
    on_ok c.push-2.result c.push-2.ensures (λ last. list_ended place_data _ _ _ l.later c.args.places.now l.place-index c.loop-place-test.false l.invariant last)
