use Rattle.std.proofs.Common.{◌≡◌, ◌+◌, ◌*◌, ◌≤◌, ◌∷◌, ◌++◌, length, get_or, take}
use Rattle.std.specs.Net.Text.{groups_text}
use Rattle.ipam_addr.proofs.buffer.TextBuffer.push_groups.Given as goal

abbrev pub invariant-loop-segment : goal.invariant-loop-segment
invariant-loop-segment l =
    (l.self ≡ l.fn.self ++ groups_text (get_or l.segments 0 0 ∷ take l.segment-index l.rest))
    × (length l.self ≤ length l.fn.self + 4 + 5 * l.segment-index)
