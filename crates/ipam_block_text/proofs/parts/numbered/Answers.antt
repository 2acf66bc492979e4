use Rattle.std.proofs.Common.{◌≡◌, ◌∙◌, ◌+◌, [], ◌∷◌, ◌++◌, take, map, ap, sym}
use Rattle.std.proofs.lemmas.List.{take_more}
use Rattle.std.specs.Prelude.{position}
use Rattle.ipam_block_text.specs.Attributes.{are_same}
use Rattle.ipam_block_text.specs.Numbering.{borrowed, placed}
use Rattle.ipam_block_text.proofs.Numbers.{IsNumbering-empty, attributes_more, held_more}
use Rattle.ipam_block_text.proofs.parts.numbered.Goals as goal

pub loop-allocation-preserved : goal.loop-allocation-preserved
loop-allocation-preserved c =
    let l = c.loop-allocation in
    let a = c.allocation-item.result in
    let xs = take l.allocation-index c.args.allocations.now in
    let ys = take (l.allocation-index + 1) c.args.allocations.now in
    let more : ys ≡ xs ++ a ∷ [] = take_more c.args.allocations.now l.allocation-index a c.loop-allocation-test.true ∙ ap (λ x. xs ++ x ∷ []) (sym c.allocation-item.is) in
    let listed = rw c.get.ensures at c.in_ok-index.ensures.attributes in
    let at_index = rw c.get.ensures at c.in_ok-index.ensures.index in
    record {
      attributes = attributes_more (borrowed l.attributes.items) (borrowed c.number.new.attributes.items) xs ys a l.invariant.attributes listed more;
      numbering = c.in_ok-index.ensures.numbering;
      held = held_more l.held.items c.push.new.self.items (borrowed l.attributes.items) (borrowed c.number.new.attributes.items) xs ys a c.in_ok-index.index l.invariant.held listed at_index c.in_ok-push.ensures.items more;
    }

pub loop-allocation-init : goal.loop-allocation-init
loop-allocation-init c =
    let none = c.in_ok-attributes.ensures.items in
    record {
      attributes = ap borrowed none;
      numbering = λ q. IsNumbering-empty c.in_ok-numbers.numbers c.in_ok-numbers.ensures.empty q ∙ sym (ap (λ xs. position (are_same q) (borrowed xs)) none);
      held = ap (map placed) c.in_ok-held.ensures.items;
    }
