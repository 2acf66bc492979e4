-- That a selector may cross threads. It holds selectors in boxes and lists, so this is shown once for each layer.
use denote.RattleType.{RattleType}
use denote.Hole.{as_row}
use denote.Hole.FixLaws.{layer_row}
use denote.Hole.FixSend.{Sends, fix_send}
use denote.Param.Send.{IsSend, view_send}
use denote.Param.SendFields.{declared_send, variants_send}
use Rattle.std.proofs.Crossing.{Box-send, Vec-send, send as heap_send}
use Rattle.std.proofs.MapsCrossing.{String-send}
use Rattle.std.specs.contracts.vec.Vec as Vec
use Rattle.std.specs.contracts.alloc.Global as Heap
use Rattle.std.specs.contracts.impls.GlobalAllocator.TheImpl.{ghosts}
use Rattle.ipam_text.specs.contracts.text.Text as Text
use Rattle.ipam_text.specs.contracts.text.Text.TheInside as text_inside
use Rattle.ipam_select.specs.contracts.selector.Selector as Selector
use Rattle.ipam_select.specs.contracts.selector.Selector.TheKnot as knot
use Rattle.ipam_select.specs.contracts.node_selector.NodeSelector as NodeSelector
use Rattle.ipam_select.specs.contracts.node_selector.NodeSelector.TheInside as node_selector_inside

pub text_send : IsSend Text.the_row
text_send = view_send text_inside.the_row _ _ _ _ (declared_send text_inside.the_type (String-send, tt))

texts_send : IsSend (as_row (Vec.the_field Text.the_row Heap.the_row ghosts))
texts_send = Vec-send Text.the_row text_send

two_send : IsSend Text.the_row × (IsSend Text.the_row × Unit {0})
two_send = (text_send, (text_send, tt))

-- ---- one layer, at what its members are

layer_send : (h : knot.the_members → RattleType) → ((j : knot.the_members) → IsSend (h j)) → IsSend (layer_row Selector.the_ring Selector.the_member h)
layer_send h all = let R = h Selector.the_member in let s = all Selector.the_member in
    variants_send (knot.type-Selector R R R) (tt, ((text_send, tt), (two_send, ((Box-send R s, tt), ((text_send, (texts_send, tt)), (two_send, (two_send, (two_send, ((Vec-send R s, tt), ((Vec-send R s, tt), tt))))))))))

-- ---- the whole

hole_send : IsSend Selector.the_hole
hole_send = fix_send Selector.the_ring (Selector.by_members (Sends Selector.the_ring) (record { send = layer_send })) Selector.the_member

pub selector_send : IsSend Selector.the_row
selector_send =
    variants_send Selector.enum (tt, ((text_send, tt), (two_send, ((Box-send Selector.the_hole hole_send, tt), ((text_send, (texts_send, tt)), (two_send, (two_send, (two_send, ((Vec-send Selector.the_hole hole_send, tt), ((Vec-send Selector.the_hole hole_send, tt), tt))))))))))

pub node_selector_send : IsSend NodeSelector.the_row
node_selector_send = view_send node_selector_inside.the_row _ _ _ _ (declared_send node_selector_inside.the_type (selector_send, (heap_send, tt)))
