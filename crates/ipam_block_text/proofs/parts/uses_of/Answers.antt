use Rattle.std.proofs.Common.{◌∙◌, map, ap}
use Rattle.ipam_block.specs.Sound.{ordinals_below}
use Rattle.ipam_block_text.specs.Attributes.{distinct_attributes}
use Rattle.ipam_block_text.specs.Numbering.{numbered_in, index_at}
use Rattle.ipam_block_text.proofs.Numbers.{held_ascends, places_found}
use Rattle.ipam_block_text.proofs.parts.uses_of.Goals as goal

pub places_of-requires : goal.places_of-requires
places_of-requires c =
    let b = c.args.block.now in
    let held = c.in_ok-attributes.ensures.held ∙ ap (λ l. map (numbered_in (distinct_attributes l)) l) c.allocations.ensures in
    rw c.as_slice.ensures.value (held_ascends c.in_ok-attributes.held.items (distinct_attributes b.allocations) b.allocations held c.cidr-cidr.ensures.sound.ascending)

pub returns-clause-attributes : goal.returns-clause-attributes
returns-clause-attributes c = c.in_ok-attributes.ensures.attributes ∙ ap distinct_attributes c.allocations.ensures

pub returns-clause-places : goal.returns-clause-places
returns-clause-places c =
    let b = c.args.block.now in
    let found = c.in_ok-attributes.held.items in
    let held = c.in_ok-attributes.ensures.held ∙ ap (λ l. map (numbered_in (distinct_attributes l)) l) c.allocations.ensures in
    c.in_ok-places.ensures ∙ ap (λ h. map (index_at h) (ordinals_below c.count.result)) c.as_slice.ensures.value ∙ ap (λ n. map (index_at found) (ordinals_below n)) c.count.ensures.value ∙ places_found found b _ held
